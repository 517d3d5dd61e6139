-- What is left of a path from a layer on, and what is least of it. Layers, places, ways and cells
-- are any here: where the strand may be, whether it may come from a place, what the way there
-- costs, and what it pays for being there.
use Rattle.std.specs.Prelude.{◌≡◌, ◌⊎◌, ℕ, suc, ◌+◌, ◌^◌, ◌<◌, ◌≤◌, Bool, true, false, ℤ, pos, ◌+ℤ◌}
use Rattle.std.specs.Prelude.{◌≤ℤ◌, List}
use Rattle.std.specs.Prelude.{[], ◌∷◌, length, Option, Some, IsTrue, ⊤}
use Rattle.pra_base.specs.declared.ids.Place.{Place}
use Rattle.pra_base.specs.Places.{number}
use Rattle.net_path.specs.Ways.{at}

-- from where nothing goes on
abbrev pub unreached : ℤ
unreached = pos (2 ^ 62)

pub record Terrain : Type 0 where
  pub is_open : ℕ → Place → Bool
  pub may_come : ℕ → Option Place → Place → Bool
  pub way : ℕ → Option Place → Place → ℤ
  pub cell : ℕ → Place → ℤ

-- the strand may go from a place before the layer through these places
abbrev pub Passes : Terrain → ℕ → Option Place → List Place → Type 0
Passes t l p [] = ⊤
Passes t l p (q ∷ qs) =
    IsTrue (t.is_open l q) × IsTrue (t.may_come l p q) × Passes t (suc l) (Some q) qs

-- and pays this
abbrev pub rest_price : Terrain → ℕ → Option Place → List Place → ℤ
rest_price t l p [] = pos 0
rest_price t l p (q ∷ qs) = (t.way l p q +ℤ t.cell l q) +ℤ rest_price t (suc l) (Some q) qs

-- z is what the rest of a path through n layers costs at least, or so much that no rest does
pub record IsLeastRest (t : Terrain) (n l : ℕ) (p : Option Place) (slack : ℕ) (z : ℤ)
    : Type 0 where
  pub least : (qs : List Place) → length qs ≡ n → Passes t l p qs → z ≤ℤ rest_price t l p qs
  pub met : ((qs : List Place) × (length qs ≡ n) × Passes t l p qs × (rest_price t l p qs ≤ℤ z)) ⊎
      (unreached ≤ℤ (z +ℤ pos slack))
  pub low : pos 0 ≤ℤ (z +ℤ pos slack)
  pub high : z ≤ℤ (unreached +ℤ pos slack)

-- it is paid for being at a place that is open, and then for the rest
pub record IsPaidThere (t : Terrain) (n l : ℕ) (q : Place) (slack : ℕ) (z : ℤ) : Type 0 where
  pub rest : ℤ
  pub least : IsLeastRest t n (suc l) (Some q) slack rest
  pub is : z ≡ t.cell l q +ℤ rest

abbrev pub IsFrom : Bool → Terrain → ℕ → ℕ → Place → ℕ → ℤ → Type 0
IsFrom true t n l q slack z = IsPaidThere t n l q slack z
IsFrom false t n l q slack z = z ≡ unreached

-- a row of what is paid from each place of a layer on
abbrev pub IsRow : Terrain → ℕ → ℕ → ℕ → List ℤ → Type 0
IsRow t n l slack costs =
    (q : Place) → IsFrom (t.is_open l q) t n l q slack (at costs (number q))

-- z is the least of coming to a place of the layer and what is paid from there on
pub record IsMetBy (t : Terrain) (l : ℕ) (p : Option Place) (costs : List ℤ) (z : ℤ) : Type 0 where
  pub place : Place
  pub comes : IsTrue (t.may_come l p place)
  pub met : (t.way l p place +ℤ at costs (number place)) ≤ℤ z

pub record IsLowest (t : Terrain) (l : ℕ) (p : Option Place) (costs : List ℤ) (z : ℤ) : Type 0 where
  pub below : (q : Place) → IsTrue (t.may_come l p q) → z ≤ℤ (t.way l p q +ℤ at costs (number q))
  pub met : IsMetBy t l p costs z

-- each place is a best one to come to from the place before it
abbrev pub AreBest : Terrain → (ℕ → List ℤ) → ℕ → Option Place → List Place → Type 0
AreBest t row l p [] = ⊤
AreBest t row l p (q ∷ qs) =
    IsTrue (t.may_come l p q) × IsLowest t l p (row l) (t.way l p q +ℤ at (row l) (number q)) ×
    AreBest t row (suc l) (Some q) qs

-- what is paid at a layer fits between this slack and that of the layer behind it
pub record IsSlack (t : Terrain) (l before behind : ℕ) : Type 0 where
  pub way_low : (p : Option Place) (q : Place) → pos 0 ≤ℤ t.way l p q
  pub way_high : (p : Option Place) (q : Place) → t.way l p q ≤ℤ pos (2 ^ 43)
  pub low : (q : Place) → IsTrue (t.is_open l q) →
      pos behind ≤ℤ (t.cell l q +ℤ pos before)
  pub high : (q : Place) → IsTrue (t.is_open l q) →
      ((t.cell l q +ℤ pos behind) +ℤ pos (2 ^ 43)) ≤ℤ pos before
  pub room : behind + 2 ^ 43 < before

-- Rows of all layers from one on, the last of which is the one before layer `end`.
pub record AreRows (t : Terrain) (row : ℕ → List ℤ) (slack : ℕ → ℕ) (end l : ℕ) : Type 0 where
  pub rows : (n k : ℕ) → l ≤ k → suc (n + k) ≡ end → IsRow t n k (slack (suc k)) (row k)
  pub slacks : (k : ℕ) → l ≤ k → k < end → IsSlack t k (slack k) (slack (suc k))
