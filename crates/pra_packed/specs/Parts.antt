-- Lists that lie one behind the other in one list.
use Rattle.std.specs.Prelude.{◌≡◌, ℕ, ◌≤◌, List, [], ◌∷◌, slice_range}

-- The lists, each up to its end, from a place of the one list on.
abbrev pub parts : {X : Type 0} → ℕ → List ℕ → List X → List (List X)
parts from [] items = []
parts from (end ∷ ends) items = slice_range items from end ∷ parts end ends items

-- No list ends before it begins, and the last one ends where the one list does.
abbrev pub AreEnds : ℕ → List ℕ → ℕ → Type 0
AreEnds from [] total = from ≡ total
AreEnds from (end ∷ ends) total = (from ≤ end) × AreEnds end ends total
