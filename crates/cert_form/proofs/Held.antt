-- What was found under each key of a certificate or of a code file tells what it is.
use Rattle.std.proofs.Common.{◌≡◌, ◌<◌, ℕ, suc, List, [], ◌∷◌, length, Option, Some, None, refl}
use Rattle.std.proofs.Common.{sym, ap, ◌↔◌, Bool, true, false, ◌∙◌, subst, arith, codes, get_or}
use Rattle.serde_json.specs.Data.{Data, null, string, array, object, Items, no_items, item}
use Rattle.serde_json.specs.Data.{no_members}
use Rattle.pra_list.specs.Each.{Each, EachAt}
use Rattle.pra_list.proofs.Options.{some_same}
use Rattle.pra_list.proofs.Truths.{true_false}
use Rattle.pra_base.specs.declared.ids.Place.{Place}
use Rattle.pra_base.specs.declared.code.VarKind.{VarKind}
use Rattle.pra_base.specs.declared.code.Block.{Block}
use Rattle.pra_base.specs.declared.code.VProc.{VProc}
use Rattle.cert_form.specs.declared.certificate.CapAt.{CapAt}
use Rattle.cert_form.specs.declared.certificate.TieAt.{TieAt}
use Rattle.cert_form.specs.declared.certificate.CostWord.{CostWord}
use Rattle.cert_form.specs.declared.certificate.Cert.{Cert}
use Rattle.cert_form.specs.declared.certificate.Certificate.{Certificate}
use Rattle.cert_form.specs.declared.reading.Version.{Version}
use Rattle.cert_form.specs.declared.certs.CertKind.{CertKind}
use Rattle.cert_form.specs.declared.certs.CertFound.{CertFound}
use Rattle.cert_form.specs.declared.certs.CertificateFound.{CertificateFound}
use Rattle.cert_form.specs.Form.{natural, list, block_data, kind_data, cap_data, tie_data}
use Rattle.cert_form.specs.Form.{path_data, cert_data, cost_name, certificate_data}
use Rattle.cert_form.specs.Whole.{IsNatural, KindFits, BlockFits, CapFits, TieFits}
use Rattle.cert_form.specs.Whole.{CertFits, CodesAreNumbered, IsWhole}
use Rattle.cert_form.specs.Streams.{IsAnswer, IsHeld, IsHeldBy, AreFew, laid, laid_one}
use Rattle.cert_form.specs.Found.{FitsAt, ArePaths, CertFitsAt, cert_keys, CertHeld}
use Rattle.cert_form.specs.Found.{certificate_keys, CertificateHeld}
use Rattle.cert_form.proofs.BlocksTaken.{each_there, each_alone}
use Rattle.cert_form.proofs.Laid.{all_laid, members_in}

module _ {A : Type 0} (form : A → Data) (fits : A → Type 0) where
  pub held : (found : Option A) (d : Data) → IsAnswer form fits found d →
      IsHeld form fits found (Some d)
  held None d h = λ x k e. h x k (some_same d (form x) e)
  held (Some x) d h = (ap (λ y. Some y) h.0, h.1)

-- a part of which all are alike
pub alike : {A : Type 0} (d : Data) (found : Option A) (o : Option Data) (x : A) →
    found ≡ Some x → IsHeld (λ (x : A). d) (λ x. Unit {0}) found o → o ≡ Some d
alike d None o x is h = absurd (cc)
alike d (Some y) o x is h = h.0

-- paths fit always

path_fits : (ps : List Place) → EachAt (λ n p. Unit {0}) ps
path_fits [] = tt
path_fits (p ∷ ps) = (tt, path_fits ps)

paths_fit : (ps : List (List Place)) → EachAt (λ n p. AreFew (λ k q. Unit {0}) None p) ps
paths_fit [] = tt
paths_fit (p ∷ ps) = ((path_fits p, tt), paths_fit ps)

pub are_paths : (ps : List (List Place)) → ArePaths ps
are_paths ps = (paths_fit ps, tt)

-- Procedures of certificates.

abbrev cert_row : Cert → List Data
cert_row c =
    natural c.code.aggregates ∷ natural c.code.args ∷ list block_data c.code.blocks
    ∷ natural c.bound ∷ list cap_data c.caps ∷ list cap_data c.mems
    ∷ list path_data c.routes.places ∷ list tie_data c.ties ∷ natural c.total
    ∷ list kind_data c.code.vars ∷ []

there : (os : ℕ → Option Data) (c : Cert) → object (laid 0 cert_keys os) ≡ cert_data c →
    (i : ℕ) → i < 10 → os i ≡ Some (get_or (cert_row c) i null)
there os c e i h =
    all_laid cert_keys (cert_row c) 0 os refl (ap members_in e) i i h (omega arith) null

module _ (f : CertFound) (os : ℕ → Option Data) (h : CertHeld f os) (n : ℕ) where
  abbrev NoCert : Type 0
  NoCert = IsAnswer cert_data (CertFitsAt n) None (object (laid 0 cert_keys os))

  pub no_aggregates : f.aggregates ≡ None → NoCert
  no_aggregates e c k is =
      (rw e at h.0) c.code.aggregates k.fits.code.aggregates (there os c is 0 (omega arith))

  pub no_args : f.args ≡ None → NoCert
  no_args e c k is = (rw e at h.1) c.code.args k.fits.code.args (there os c is 1 (omega arith))

  pub no_blocks : f.blocks ≡ None → NoCert
  no_blocks e c k is =
      (rw e at h.2) c.code.blocks (each_there BlockFits c.code.blocks k.fits.code.blocks, tt)
      (there os c is 2 (omega arith))

  pub no_bound : f.bound ≡ None → NoCert
  no_bound e c k is = (rw e at h.3) c.bound k.fits.bound (there os c is 3 (omega arith))

  pub no_caps : f.caps ≡ None → NoCert
  no_caps e c k is =
      (rw e at h.4) c.caps (each_there CapFits c.caps k.fits.caps, tt)
      (there os c is 4 (omega arith))

  pub no_mems : f.mems ≡ None → NoCert
  no_mems e c k is =
      (rw e at h.5) c.mems (each_there CapFits c.mems k.fits.mems, tt)
      (there os c is 5 (omega arith))

  pub no_routes : f.routes ≡ None → NoCert
  no_routes e c k is =
      (rw e at h.6) c.routes.places (are_paths c.routes.places) (there os c is 6 (omega arith))

  pub no_ties : f.ties ≡ None → NoCert
  no_ties e c k is =
      (rw e at h.7) c.ties (each_there TieFits c.ties k.fits.ties, tt)
      (there os c is 7 (omega arith))

  pub no_total : f.total ≡ None → NoCert
  no_total e c k is = (rw e at h.8) c.total k.fits.total (there os c is 8 (omega arith))

  pub no_vars : f.vars ≡ None → NoCert
  no_vars e c k is =
      (rw e at h.9) c.code.vars (each_there KindFits c.code.vars k.fits.code.vars, tt)
      (there os c is 9 (omega arith))

  pub cert_found : IsNatural n → (aggregates args bound total : ℕ) (blocks : List Block)
      (caps mems : List CapAt) (paths : List (List Place)) (ties : List TieAt)
      (vars : List VarKind) → f.aggregates ≡ Some aggregates → f.args ≡ Some args →
      f.blocks ≡ Some blocks → f.bound ≡ Some bound → f.caps ≡ Some caps → f.mems ≡ Some mems →
      f.routes ≡ Some paths → f.ties ≡ Some ties → f.total ≡ Some total → f.vars ≡ Some vars →
      IsAnswer cert_data (CertFitsAt n) (Some (record {
        code = record {
          id = record { 0 = n };
          args = args;
          aggregates = aggregates;
          vars = vars;
          blocks = blocks;
        };
        routes = record { places = paths };
        caps = caps;
        mems = mems;
        ties = ties;
        total = total;
        bound = bound;
      })) (object (laid 0 cert_keys os))
  cert_found small aggregates args bound total blocks caps mems paths ties vars e0 e1 e2 e3 e4 e5
      e6 e7 e8 e9 =
      let s0 = rw e0 at h.0 in
      let s1 = rw e1 at h.1 in
      let s2 = rw e2 at h.2 in
      let s3 = rw e3 at h.3 in
      let s4 = rw e4 at h.4 in
      let s5 = rw e5 at h.5 in
      let s6 = rw e6 at h.6 in
      let s7 = rw e7 at h.7 in
      let s8 = rw e8 at h.8 in
      let s9 = rw e9 at h.9 in (
        (λ i. object (laid_one (codes "aggregates") (s0.0 i) (laid_one (codes "args") (s1.0 i)
            (laid_one (codes "blocks") (s2.0 i) (laid_one (codes "bound") (s3.0 i)
            (laid_one (codes "caps") (s4.0 i) (laid_one (codes "mems") (s5.0 i)
            (laid_one (codes "routes") (s6.0 i) (laid_one (codes "ties") (s7.0 i)
            (laid_one (codes "total") (s8.0 i) (laid_one (codes "vars") (s9.0 i)
            no_members))))))))))),
        record {
          id = refl;
          natural = small;
          fits = record {
            code = record {
              args = s1.1;
              aggregates = s0.1;
              vars = each_alone KindFits vars s9.1.0;
              blocks = each_alone BlockFits blocks s2.1.0;
            };
            caps = each_alone CapFits caps s4.1.0;
            mems = each_alone CapFits mems s5.1.0;
            ties = each_alone TieFits ties s7.1.0;
            total = s8.1;
            bound = s3.1;
          };
        },
      )

-- no object of these keys
pub other_cert : (f : CertFound) (n : ℕ) (all : Bool) (d : Data) → all ≡ false →
    IsHeldBy cert_keys CertHeld f all d → IsAnswer cert_data (CertFitsAt n) None d
other_cert f n all d off h c k e =
    (rw off at h) (λ i. Some (get_or (cert_row c) i null)) e

-- Procedures that are numbered from n on.

module _ {A : Type 0} (code : A → VProc) (Fits : A → Type 0) where
  numbered_there : (at : ℕ → ℕ) (n : ℕ) → at 0 ≡ n → ((k : ℕ) → at (suc k) ≡ suc (at k)) →
      (xs : List A) → CodesAreNumbered code n xs → Each Fits xs →
      EachAt (λ k. FitsAt code Fits (at k)) xs
  numbered_there at n e step [] h k = tt
  numbered_there at n e step (x ∷ xs) h k = (
    record { id = h.0 ∙ sym e; natural = subst IsNatural (sym e) h.1; fits = k.0 },
    numbered_there (λ i. at (suc i)) (suc n) (step 0 ∙ ap suc e) (λ i. step (suc i)) xs h.2 k.1,
  )

  numbered_here : (at : ℕ → ℕ) (n : ℕ) → at 0 ≡ n → ((k : ℕ) → at (suc k) ≡ suc (at k)) →
      (xs : List A) → EachAt (λ k. FitsAt code Fits (at k)) xs →
      CodesAreNumbered code n xs × Each Fits xs
  numbered_here at n e step [] h = (tt, tt)
  numbered_here at n e step (x ∷ xs) h =
      let more = numbered_here (λ i. at (suc i)) (suc n) (step 0 ∙ ap suc e) (λ i. step (suc i)) xs
      h.1 in
      ((h.0.id ∙ e, subst IsNatural e h.0.natural, more.0), (h.0.fits, more.1))

  pub procs_there : (xs : List A) → CodesAreNumbered code 0 xs → Each Fits xs →
      AreFew (FitsAt code Fits) None xs
  procs_there xs h k = (numbered_there (λ n. n) 0 refl (λ n. refl) xs h k, tt)

  pub procs_here : (xs : List A) → AreFew (FitsAt code Fits) None xs →
      CodesAreNumbered code 0 xs × Each Fits xs
  procs_here xs h = numbered_here (λ n. n) 0 refl (λ n. refl) xs h.0

-- Certificates.

abbrev certificate_row : Certificate → List Data
certificate_row c =
    string (cost_name c.cost) ∷ string (codes "pra-certificate") ∷ list cert_data c.procs
    ∷ natural 1 ∷ []

all_there : (os : ℕ → Option Data) (c : Certificate) →
    object (laid 0 certificate_keys os) ≡ certificate_data c → (i : ℕ) → i < 4 →
    os i ≡ Some (get_or (certificate_row c) i null)
all_there os c e i h =
    all_laid certificate_keys (certificate_row c) 0 os refl (ap members_in e) i i h (omega arith)
    null

module _ (f : CertificateFound) (os : ℕ → Option Data) (h : CertificateHeld f os) where
  abbrev NoCertificate : Type 0
  NoCertificate =
      IsAnswer certificate_data IsWhole None (object (laid 0 certificate_keys os))

  pub no_cost : f.cost ≡ None → NoCertificate
  no_cost e c k is = (rw e at h.0) c.cost tt (all_there os c is 0 (omega arith))

  pub no_kind : f.kind ≡ None → NoCertificate
  no_kind e c k is = (rw e at h.1) _ tt (all_there os c is 1 (omega arith))

  pub no_procs : f.procs ≡ None → NoCertificate
  no_procs e c k is =
      (rw e at h.2) c.procs (procs_there (λ x. x.code) CertFits c.procs k.numbered k.fits)
      (all_there os c is 2 (omega arith))

  pub no_version : f.version ≡ None → NoCertificate
  no_version e c k is = (rw e at h.3) _ tt (all_there os c is 3 (omega arith))

  -- there is no procedure
  pub no_proc : (procs : List Cert) → f.procs ≡ Some procs → procs ≡ [] → NoCertificate
  no_proc procs e none c k is =
      let s = rw e at h.2 in
      let same : Some (list cert_data procs) ≡ Some (list cert_data c.procs) =
      sym s.0 ∙ all_there os c is 2 (omega arith) in
      let long : length procs ≡ length c.procs =
      sym (as_many procs) ∙ ap many same ∙ as_many c.procs in
      let zero : length procs ≡ 0 = ap length none in
      omega (arith, k.some, long, zero)
    where
      count : Items → ℕ
      count no_items = 0
      count (item d ds) = suc (count ds)

      many : Option Data → ℕ
      many (Some (array ds)) = count ds
      many _ = 0

      as_many : (cs : List Cert) → many (Some (list cert_data cs)) ≡ length cs
      as_many [] = refl
      as_many (c ∷ cs) = ap suc (as_many cs)

  pub certificate_found : (cost : CostWord) (kind : CertKind) (procs : List Cert)
      (version : Version) → f.cost ≡ Some cost → f.kind ≡ Some kind → f.procs ≡ Some procs →
      f.version ≡ Some version → 0 < length procs →
      IsAnswer certificate_data IsWhole (Some (record { cost = cost; procs = procs }))
      (object (laid 0 certificate_keys os))
  certificate_found cost kind procs version e0 e1 e2 e3 some =
      let s0 = rw e0 at h.0 in
      let s1 = alike (string (codes "pra-certificate")) f.kind (os 1) kind e1 h.1 in
      let s2 = rw e2 at h.2 in
      let s3 = alike (natural 1) f.version (os 3) version e3 h.3 in
      let whole = procs_here (λ x. x.code) CertFits procs s2.1 in (
        (λ i. object (laid_one (codes "cost") (s0.0 i) (laid_one (codes "kind") (s1 i)
            (laid_one (codes "procs") (s2.0 i) (laid_one (codes "version") (s3 i) no_members))))),
        record { some = some; numbered = whole.0; fits = whole.1 },
      )

pub other_certificate : (f : CertificateFound) (all : Bool) (d : Data) → all ≡ false →
    IsHeldBy certificate_keys CertificateHeld f all d → IsAnswer certificate_data IsWhole None d
other_certificate f all d off h c k e =
    (rw off at h) (λ i. Some (get_or (certificate_row c) i null)) e

pub some_there : (cs : List Cert) (none : Bool) → ((none ≡ true) ↔ (cs ≡ [])) → none ≡ false →
    0 < length cs
some_there [] none h e = absurd (true_false none (h.1 refl) e)
some_there (c ∷ cs) none h e = omega arith
