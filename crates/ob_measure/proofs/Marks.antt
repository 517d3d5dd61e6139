-- Marks on parameters and locals, while what is lent is gone through.
use Rattle.std.proofs.Common.{◌≡◌, ℕ, ◌<◌, Bool, true, false, ◌||◌, List, [], ◌∷◌, length, refl}
use Rattle.std.proofs.Common.{sym, ap, ◌∙◌, subst}
use Rattle.std.specs.Prelude.{slice_index_or}
use Rattle.std.specs.List.{list_any}
use Rattle.pra_list.proofs.Truths.{or_none}
use Rattle.ob_syntax.specs.declared.checked.Root.{Root}
use Rattle.ob_syntax.specs.WellFormed.{same_root}
use Rattle.ob_measure.specs.Lending.{AreMarks}

-- what is marked, or is left, is all
abbrev pub AreMarksSo : (ℕ → Root) → List Root → List Root → List Bool → Type 0
AreMarksSo variable left all marks =
    (k : ℕ) → k < length marks →
    (slice_index_or marks k false || list_any (same_root (variable k)) left) ≡
    list_any (same_root (variable k)) all

or_assoc : (a b c : Bool) → ((a || b) || c) ≡ (a || (b || c))
or_assoc true b c = refl
or_assoc false b c = refl

-- one more of what is lent
pub one_more : (variable : ℕ → Root) (left rest all : List Root) (root : Root)
    (marks new : List Bool) → left ≡ root ∷ rest →
    length new ≡ length marks →
    ((k : ℕ) → k < length marks → slice_index_or new k false ≡
    (slice_index_or marks k false || same_root (variable k) root)) →
    AreMarksSo variable left all marks → AreMarksSo variable rest all new
one_more variable left rest all root marks new next len marked so k h =
    let within : k < length marks = subst (λ (n : ℕ). k < n) len h in
    ap (λ b. b || list_any (same_root (variable k)) rest) (marked k within)
    ∙ or_assoc (slice_index_or marks k false) (same_root (variable k) root)
    (list_any (same_root (variable k)) rest)
    ∙ ap (λ roots. slice_index_or marks k false || list_any (same_root (variable k)) roots)
    (sym next)
    ∙ so k within

-- one more, which is none of these variables
pub one_other : (variable : ℕ → Root) (left rest all : List Root) (root : Root)
    (marks : List Bool) → left ≡ root ∷ rest →
    ((k : ℕ) → same_root (variable k) root ≡ false) →
    AreMarksSo variable left all marks → AreMarksSo variable rest all marks
one_other variable left rest all root marks next other =
    one_more variable left rest all root marks marks next refl
    (λ k h. sym (ap (λ b. slice_index_or marks k false || b) (other k)
    ∙ or_none (slice_index_or marks k false)))

pub ended : (variable : ℕ → Root) (left all : List Root) (marks : List Bool) → left ≡ [] →
    AreMarksSo variable left all marks → AreMarks variable all marks
ended variable left all marks none so k h =
    sym (or_none (slice_index_or marks k false))
    ∙ ap (λ roots. slice_index_or marks k false || list_any (same_root (variable k)) roots)
    (sym none) ∙ so k h
