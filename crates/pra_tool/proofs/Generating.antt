-- `gen` is a mode.
use Rattle.std.proofs.Common.{◌≡◌, ◌≢◌, ◌⊎◌, ◌≤◌, ◌<◌, ◌+◌, inl, inr, refl, sym, ap, ◌∙◌, subst, ℕ}
use Rattle.std.proofs.Common.{zero, suc, List, [], ◌∷◌, ◌++◌, length, take, map, arith}
use Rattle.std.proofs.lemmas.List.{length-append}
use Rattle.std.specs.Io.KnownBytes.{Keeps}
use Rattle.pra_gen.specs.Module.{module_text}
use Rattle.pra_words.specs.declared.words.FileKind.TheVariants as a_file
use Rattle.pra_words.specs.Words.{Asked}
use Rattle.pra_tool.specs.declared.status.Status.{Status}
use Rattle.pra_tool.specs.Outside.{FolderSeen, Seen, Untouched}
use Rattle.pra_tool.specs.Writes.{FileText, Writes, IsOther, NamesDiffer, names, Stored, LeftOff}
use Rattle.pra_tool.specs.Modes.{IsMode}
use Rattle.pra_tool.specs.Clause.{GenMakes, TextLeft, generating}
use Rattle.pra_tool.proofs.CompilingModes.{inputs_are_a_kind, not_read, done_of, source_made}
use Rattle.pra_tool.proofs.SourceKinds.{sources_are_a_kind}

pub gen_names : (asked : Asked) (source input : List ℕ) (w : Writes) (s : Status) →
    GenMakes asked source input w s → names w.files ≡ asked.file ∷ asked.image ∷ []
gen_names asked source input w s made = ap (λ (x : Writes). names x.files) made.writes

pub generating_is_a_mode : (asked : Asked) → IsMode (generating asked)
generating_is_a_mode asked = record {
  source = sources_are_a_kind a_file.Module;
  input = inputs_are_a_kind;
  right = λ source input w s made. (
    source_made a_file.Module asked source made.made made.made_of,
    not_read input made.no_input,
  );
  done = λ source input w s made. done_of _ s made.ended;
  right_then = λ source input line s r. absurd r;
  refuses = λ source input line s r. absurd r;
  writes = gen_names asked;
}

-- ---- two files

-- the second of two is no third
no_third : (f g x y h : FileText) (xs after : List FileText) →
    f ∷ g ∷ [] ≡ (x ∷ y ∷ xs) ++ h ∷ after → ⊥
no_third f g x y h xs after e =
    let same : length (f ∷ g ∷ []) ≡ length ((x ∷ y ∷ xs) ++ h ∷ after) = ap length e in
    let count = length-append xs (h ∷ after) in omega (arith, same, count)

name_at : ℕ → List FileText → List ℕ
name_at n [] = []
name_at zero (f ∷ fs) = f.name
name_at (suc n) (f ∷ fs) = name_at n fs

-- files of two names are different
pub two_differ : (f g : FileText) → g.name ≢ f.name → NamesDiffer (f ∷ g ∷ [])
unfolding name_at
two_differ f g apart [] after h e = tt
two_differ f g apart (x ∷ []) after h e = (
  λ same. apart (ap (name_at 1) e ∙ same ∙ sym (ap (name_at 0) e)),
  tt,
)
two_differ f g apart (x ∷ y ∷ xs) after h e = absurd (no_third f g x y h xs after e)

pub gen_differ : (name other text bytes : List ℕ) (files : List FileText) → other ≢ name →
    files ≡ record { name = name; bytes = text } ∷ record { name = other; bytes = bytes } ∷ [] →
    NamesDiffer files
gen_differ name other text bytes files apart is =
    subst NamesDiffer (sym is) (two_differ _ _ apart)

-- ---- where memory was wanting

-- nothing of two files stands, or the first one
stored_by : (n : ℕ) (f g : FileText) (a c : FolderSeen) → n ≤ 1 → Stored (take n (f ∷ g ∷ [])) a c →
    Stored [] a c ⊎ Stored (f ∷ []) a c
stored_by zero f g a c le s = inl s
stored_by (suc zero) f g a c le s = inr s
stored_by (suc (suc n)) f g a c le s = absurd (omega (arith, le))

pub gen_leaves : (asked : Asked) (source input : List ℕ) (w : Writes) (s : Status)
    (old new : Seen) →
    GenMakes asked source input w s → LeftOff w old new →
    Untouched old new ⊎ TextLeft asked.file (module_text asked.seed asked.size) old new
gen_leaves asked source input w s old new made l = by_stored
    (stored_by l.files.before _ _ old.folder new.folder
    (let count : length w.files ≡ 2 = ap (λ (x : Writes). length x.files) made.writes in
    let le = l.files.some_left in omega (arith, count, le))
    (subst (λ (fs : List FileText). Stored (take l.files.before fs) old.folder new.folder)
    (ap (λ (x : Writes). x.files) made.writes) l.files.stored))
  where
    by_stored : Stored [] old.folder new.folder ⊎
        Stored (record { name = asked.file; bytes = source } ∷ []) old.folder new.folder →
        Untouched old new ⊎ TextLeft asked.file (module_text asked.seed asked.size) old new
    by_stored (inl none) =
        inl (record { files = λ n. none.others n tt; out = l.out; notes = l.notes })
    by_stored (inr one) = inr (record {
      files = subst (λ (text : List ℕ).
          Stored (record { name = asked.file; bytes = text } ∷ []) old.folder new.folder)
          made.text one;
      out = l.out;
      notes = l.notes;
    })
