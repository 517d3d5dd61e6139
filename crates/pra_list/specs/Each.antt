-- What holds of each element of a list, as pairs within pairs; of a list that is written out, a
-- tuple.
use Rattle.std.specs.Prelude.{ℕ, suc, List, [], ◌∷◌}

abbrev pub Each : {X : Type 0} → (X → Type 0) → List X → Type 0
Each P [] = Unit {0}
Each P (x ∷ xs) = P x × Each P xs

-- the same, of each element with its number
abbrev pub EachAt : {X : Type 0} → (ℕ → X → Type 0) → List X → Type 0
EachAt P [] = Unit {0}
EachAt P (x ∷ xs) = P 0 x × EachAt (λ k. P (suc k)) xs
