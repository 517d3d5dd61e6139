-- Ends that stand under others, down to the least one that ties join with them.
use Rattle.std.specs.Prelude.{◌≡◌, ℕ, ◌<◌, ◌≤◌, nat_eq, if◌then◌else◌, List, slice_index_or}
use Rattle.net_form.specs.declared.net.Tie.{Tie}
use Rattle.net_form.specs.Groups.{Joined, entry_end, exit_end}

-- what end e stands under: itself, where it is the least or past the list
abbrev pub parent : List ℕ → ℕ → ℕ
parent ps e = slice_index_or ps e e

abbrev pub GoDown : List ℕ → Type 0
GoDown ps = (e : ℕ) → parent ps e ≤ e

-- each end has the label of its parent, and its own number where it is its own parent
pub record AreLabels (ps : List ℕ) (label : ℕ → ℕ) : Type 0 where
  pub along : (e : ℕ) → label (parent ps e) ≡ label e
  pub own : (e : ℕ) → parent ps e ≡ e → label e ≡ e
  pub low : (e : ℕ) → label e ≤ e
  pub once : (e : ℕ) → label (label e) ≡ label e

-- what had the label `high` has the label `low`
abbrev pub merged : ℕ → ℕ → (ℕ → ℕ) → ℕ → ℕ
merged low high label e = if nat_eq (label e) high then low else label e

-- labels are of ends that ties join, and the ends of each of the first so many ties have one label
pub record AreUnited (ties : List Tie) (done : ℕ) (ps : List ℕ) : Type 0 where
  pub label : ℕ → ℕ
  pub labels : AreLabels ps label
  pub joined : (e : ℕ) → Joined ties e (label e)
  pub same : (k : ℕ) (t : Tie) → k < done → slice_index_or ties k t ≡ t →
      label (exit_end t.from) ≡ label (entry_end t.to)

-- both ends of the tie are below the count
pub record IsBelow (count : ℕ) (t : Tie) : Type 0 where
  pub exit : exit_end t.from < count
  pub entry : entry_end t.to < count
