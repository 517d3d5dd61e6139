-- What was found under each key of a code file tells what it is.
use Rattle.std.proofs.Common.{◌≡◌, ◌<◌, ◌≤◌, ℕ, List, [], ◌∷◌, length, Bool, false, Option, Some}
use Rattle.std.proofs.Common.{None, refl, sym, ap, ◌∙◌, arith, codes, get_or}
use Rattle.serde_json.specs.Data.{Data, null, number, unsigned, string, array, object, item}
use Rattle.serde_json.specs.Data.{no_members, member}
use Rattle.pra_list.specs.Each.{Each}
use Rattle.ia_code.specs.Image.{max_data_words}
use Rattle.pra_base.specs.declared.code.VarKind.{VarKind}
use Rattle.pra_base.specs.declared.code.Block.{Block}
use Rattle.cert_form.specs.declared.codes.NamedCode.{NamedCode}
use Rattle.cert_form.specs.declared.codes.CodeFile.{CodeFile}
use Rattle.cert_form.specs.declared.code_reading.Name.{Name}
use Rattle.cert_form.specs.declared.reading.Version.{Version}
use Rattle.cert_form.specs.declared.code_reading.CodeKind.{CodeKind}
use Rattle.cert_form.specs.declared.code_reading.CodeFound.{CodeFound}
use Rattle.cert_form.specs.declared.code_reading.FileFound.{FileFound}
use Rattle.cert_form.specs.Form.{natural, list, block_data, kind_data}
use Rattle.cert_form.specs.CodeForm.{name_data, code_data, file_data}
use Rattle.cert_form.specs.CodeWhole.{HasName, NamedFits, BodyTakesNone, IsWholeCode}
use Rattle.cert_form.specs.Whole.{IsNatural, KindFits, BlockFits}
use Rattle.cert_form.specs.Streams.{IsAnswer, IsHeldBy, laid, laid_one}
use Rattle.cert_form.specs.Found.{CodeFitsAt, CodeHeld, code_keys, FileHeld, file_keys}
use Rattle.cert_form.proofs.BlocksTaken.{each_there, each_alone}
use Rattle.cert_form.proofs.Held.{alike, procs_there, procs_here}
use Rattle.cert_form.proofs.CodesRead.{IsNamed, both}
use Rattle.cert_form.proofs.Laid.{all_laid, members_in}

-- Procedures.

abbrev code_row : NamedCode → List Data
code_row p =
    natural p.code.aggregates ∷ natural p.code.args ∷ list block_data p.code.blocks
    ∷ name_data p.name ∷ list kind_data p.code.vars ∷ []

there : (os : ℕ → Option Data) (p : NamedCode) → object (laid 0 code_keys os) ≡ code_data p →
    (i : ℕ) → i < 5 → os i ≡ Some (get_or (code_row p) i null)
there os p e i h =
    all_laid code_keys (code_row p) 0 os refl (ap members_in e) i i h (omega arith) null

module _ (f : CodeFound) (os : ℕ → Option Data) (h : CodeHeld f os) (n : ℕ) where
  abbrev NoCode : Type 0
  NoCode = IsAnswer code_data (CodeFitsAt n) None (object (laid 0 code_keys os))

  pub no_aggregates : f.aggregates ≡ None → NoCode
  no_aggregates e p k is =
      (rw e at h.0) p.code.aggregates k.fits.1.aggregates (there os p is 0 (omega arith))

  pub no_args : f.args ≡ None → NoCode
  no_args e p k is = (rw e at h.1) p.code.args k.fits.1.args (there os p is 1 (omega arith))

  pub no_blocks : f.blocks ≡ None → NoCode
  no_blocks e p k is =
      (rw e at h.2) p.code.blocks (each_there BlockFits p.code.blocks k.fits.1.blocks, tt)
      (there os p is 2 (omega arith))

  pub no_name : f.name ≡ None → NoCode
  no_name e p k is =
      let x : Name = record { 0 = p.name } in
      (rw e at h.3) x k.fits.0 (there os p is 3 (omega arith))

  pub no_vars : f.vars ≡ None → NoCode
  no_vars e p k is =
      (rw e at h.4) p.code.vars (each_there KindFits p.code.vars k.fits.1.vars, tt)
      (there os p is 4 (omega arith))

  pub code_found : IsNatural n → (aggregates args : ℕ) (blocks : List Block) (name : Name)
      (vars : List VarKind) → f.aggregates ≡ Some aggregates → f.args ≡ Some args →
      f.blocks ≡ Some blocks → f.name ≡ Some name → f.vars ≡ Some vars →
      IsAnswer code_data (CodeFitsAt n) (Some (record {
        name = name.0;
        code = record {
          id = record { 0 = n };
          args = args;
          aggregates = aggregates;
          vars = vars;
          blocks = blocks;
        };
      })) (object (laid 0 code_keys os))
  code_found small aggregates args blocks name vars e0 e1 e2 e3 e4 =
      let s0 = rw e0 at h.0 in
      let s1 = rw e1 at h.1 in
      let s2 = rw e2 at h.2 in
      let s3 = rw e3 at h.3 in
      let s4 = rw e4 at h.4 in (
        (λ i. object (laid_one (codes "aggregates") (s0.0 i) (laid_one (codes "args") (s1.0 i)
            (laid_one (codes "blocks") (s2.0 i) (laid_one (codes "name") (s3.0 i)
            (laid_one (codes "vars") (s4.0 i) no_members)))))),
        record {
          id = refl;
          natural = small;
          fits = (
            s3.1,
            record {
              args = s1.1;
              aggregates = s0.1;
              vars = each_alone KindFits vars s4.1.0;
              blocks = each_alone BlockFits blocks s2.1.0;
            },
          );
        },
      )

-- no object of these keys
pub other_code : (f : CodeFound) (n : ℕ) (all : Bool) (d : Data) → all ≡ false →
    IsHeldBy code_keys CodeHeld f all d → IsAnswer code_data (CodeFitsAt n) None d
other_code f n all d off h p k e =
    (rw off at h) (λ i. Some (get_or (code_row p) i null)) e

-- Files.

abbrev file_row : CodeFile → List Data
file_row f =
    natural f.data_words ∷ string (codes "pra-code") ∷ list code_data f.procs ∷ natural 1 ∷ []

all_there : (os : ℕ → Option Data) (c : CodeFile) → object (laid 0 file_keys os) ≡ file_data c →
    (i : ℕ) → i < 4 → os i ≡ Some (get_or (file_row c) i null)
all_there os c e i h =
    all_laid file_keys (file_row c) 0 os refl (ap members_in e) i i h (omega arith) null

names : (ps : List NamedCode) → Each IsNamed ps → Each HasName ps
names [] h = tt
names (p ∷ ps) h = (h.0.0, names ps h.1)

codes_fit : (ps : List NamedCode) → Each IsNamed ps → Each NamedFits ps
codes_fit [] h = tt
codes_fit (p ∷ ps) h = (h.0.1, codes_fit ps h.1)

abbrev Begins : List NamedCode → Type 0
Begins ps = (0 < length ps) × BodyTakesNone ps

abbrev data_in : Option Data → Data
data_in (Some d) = d
data_in None = null

abbrev number_in : Option Data → ℕ
number_in (Some (number (unsigned n))) = n
number_in _ = 0

-- the second member of the first of a list
abbrev first_args : Data → ℕ
first_args (array (item (object (member k d (member l (number (unsigned n)) ms))) ds)) = n
first_args _ = 0

as_begun : (ps qs : List NamedCode) → list code_data ps ≡ list code_data qs → Begins qs → Begins ps
as_begun [] [] e h = h
as_begun [] (q ∷ qs) e h = absurd (cc)
as_begun (p ∷ ps) [] e h = absurd (cc)
as_begun (p ∷ ps) (q ∷ qs) e h = (omega arith, ap first_args e ∙ h.1)

module _ (f : FileFound) (os : ℕ → Option Data) (h : FileHeld f os) where
  abbrev NoFile : Type 0
  NoFile = IsAnswer file_data IsWholeCode None (object (laid 0 file_keys os))

  small : (n : ℕ) → n ≤ max_data_words → IsNatural n
  small n k = omega (arith, k)

  pub no_words : f.data_words ≡ None → NoFile
  no_words e c k is =
      (rw e at h.0) c.data_words (small c.data_words k.file.words)
      (all_there os c is 0 (omega arith))

  pub no_kind : f.kind ≡ None → NoFile
  no_kind e c k is = (rw e at h.1) _ tt (all_there os c is 1 (omega arith))

  pub no_procs : f.procs ≡ None → NoFile
  no_procs e c k is =
      (rw e at h.2) c.procs
      (procs_there (λ p. p.code) IsNamed c.procs k.file.numbered (both c.procs k.file.names k.fits))
      (all_there os c is 2 (omega arith))

  pub no_version : f.version ≡ None → NoFile
  no_version e c k is = (rw e at h.3) _ tt (all_there os c is 3 (omega arith))

  pub too_many_words : (n : ℕ) → f.data_words ≡ Some n → max_data_words < n → NoFile
  too_many_words n e more c k is =
      let s = rw e at h.0 in
      let same : n ≡ c.data_words =
      ap number_in (sym s.0 ∙ all_there os c is 0 (omega arith)) in
      omega (arith, more, same, k.file.words)

  -- no run can begin
  pub no_run : (ps : List NamedCode) → f.procs ≡ Some ps → (Begins ps → ⊥) → NoFile
  no_run ps e none c k is =
      let s = rw e at h.2 in
      let same : list code_data ps ≡ list code_data c.procs =
      ap data_in (sym s.0 ∙ all_there os c is 2 (omega arith)) in
      none (as_begun ps c.procs same (k.file.some, k.file.body))

  pub file_found : (n : ℕ) (kind : CodeKind) (ps : List NamedCode) (version : Version) →
      f.data_words ≡ Some n → f.kind ≡ Some kind → f.procs ≡ Some ps →
      f.version ≡ Some version → n ≤ max_data_words → Begins ps →
      IsAnswer file_data IsWholeCode (Some (record { data_words = n; procs = ps }))
      (object (laid 0 file_keys os))
  file_found n kind ps version e0 e1 e2 e3 few begins =
      let s0 = rw e0 at h.0 in
      let s1 = alike (string (codes "pra-code")) f.kind (os 1) kind e1 h.1 in
      let s2 = rw e2 at h.2 in
      let s3 = alike (natural 1) f.version (os 3) version e3 h.3 in
      let whole = procs_here (λ p. p.code) IsNamed ps s2.1 in (
        (λ i. object (laid_one (codes "data_words") (s0.0 i) (laid_one (codes "kind") (s1 i)
            (laid_one (codes "procs") (s2.0 i) (laid_one (codes "version") (s3 i) no_members))))),
        record {
          file = record {
            some = begins.0;
            numbered = whole.0;
            names = names ps whole.1;
            body = begins.1;
            words = few;
          };
          fits = codes_fit ps whole.1;
        },
      )

pub other_file : (f : FileFound) (all : Bool) (d : Data) → all ≡ false →
    IsHeldBy file_keys FileHeld f all d → IsAnswer file_data IsWholeCode None d
other_file f all d off h c k e =
    (rw off at h) (λ i. Some (get_or (file_row c) i null)) e
