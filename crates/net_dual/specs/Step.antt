-- How prices follow a family of least paths: whoever is wanted more than once becomes dearer, and
-- whoever is not wanted cheaper, by steps that shrink (the subgradient method for the Lagrangian
-- dual; Koes and Goldstein, PLDI 2006).
use Rattle.std.specs.Prelude.{◌≡◌, ℕ, suc, min, max, ◌+◌, ◌-◌, ◌*◌, ◌/◌, ℤ, pos, negsuc}
use Rattle.std.specs.Prelude.{◌+ℤ◌, ◌-ℤ◌, ◌*ℤ◌, List, [], ◌∷◌, map, slice_get, Some, count_by}
use Rattle.std.specs.List.{enumerate_from, flat_map}
use Rattle.pra_base.specs.declared.ids.Place.{Place}
use Rattle.pra_base.specs.declared.ids.Place.TheVariants.{Eax, Ecx, Edx, Ebx, Esi, Edi, Mem}
use Rattle.pra_base.specs.declared.ids.Place.TheVariants.{EaxM, EcxM, EdxM, EbxM, EsiM, EdiM}
use Rattle.net_cost.specs.declared.weights.Weights.{Weights}
use Rattle.net_form.specs.declared.net.Net.{Net}
use Rattle.net_form.specs.declared.net.Tie.{Tie}
use Rattle.net_form.specs.declared.prices.Prices.{Prices}
use Rattle.net_form.specs.declared.routes.Routes.{Routes}
use Rattle.net_form.specs.Flow.{Edge, flow}
use Rattle.net_form.specs.Admitted.{uses_memory, exits_at, enters_at}
use Rattle.net_form.specs.Bundles.{comes_to_bundle}
use Rattle.net_form.specs.Rooms.{zero_prices}
use Rattle.net_dual.specs.Priced.{mem_price, tie_price, most_price, edge_price}
use Rattle.net_dual.specs.Paths.{AreLeast}

-- the step of round k
abbrev pub step_of : ℕ → ℕ
step_of k = max 1 (4096 / k)

-- Of what can be used once: so many steps dearer as it is used, one step cheaper, and then within
-- 0 (below which the subtraction does not go) and the greatest price.
abbrev pub used_price : ℕ → ℕ → ℕ → ℕ
used_price s old load = min (old + s * load - s) most_price

-- within the least and the greatest number of a tie
abbrev pub clamp : ℤ → ℤ
clamp (pos n) = pos (min n most_price)
clamp (negsuc n) = negsuc (min n (most_price - 1))

abbrev pub tied_price : ℕ → ℤ → ℕ → ℕ → ℤ
tied_price s old leave come = clamp (old +ℤ (pos s *ℤ (pos leave -ℤ pos come)))

-- the places that ties have a number for, in the order of their numbers
abbrev pub tied_places : List Place
tied_places =
    Eax ∷ Ecx ∷ Edx ∷ Ebx ∷ Esi ∷ Edi ∷ Mem ∷ EaxM ∷ EcxM ∷ EdxM ∷ EbxM ∷ EsiM ∷ EdiM ∷ []

-- the numbers of one tie, by how many edges come to a place where it begins, and where it leads
abbrev pub next_tie : Net → List Edge → ℕ → Prices → (ℕ × Tie) → List ℤ
next_tie net f s old t =
    map
    (λ p. tied_price s (tie_price old t.0 p)
    (count_by (exits_at net t.1 p) f) (count_by (enters_at net t.1 p) f)) tied_places

-- the prices after a step, where f are the edges of the family
abbrev pub next : Net → List Edge → ℕ → Prices → Prices
next net f s old = record {
  caps =
      map (λ c. used_price s c.1 (count_by (comes_to_bundle net c.0) f))
      (enumerate_from 0 old.caps);
  mems =
      map (λ m. used_price s (mem_price old m.0) (count_by (uses_memory m.1) f))
      (enumerate_from 0 net.pairs);
  ties = flat_map (next_tie net f s old) (enumerate_from 0 net.ties);
}

-- the prices after round k
abbrev pub IsNext : Net → Routes → ℕ → Prices → Prices → Type 0
IsNext net family k old new = new ≡ next net (flow net family) (step_of k) old

-- after round k by some family of least paths at the old prices
pub record IsRound (net : Net) (w : Weights) (k : ℕ) (old new : Prices) : Type 0 where
  pub family : Routes
  pub least : AreLeast net (edge_price net w old) family
  pub next : IsNext net family k old new

-- the prices of round 0, 1, 2 and so on, the first of nothing
pub record IsChain (net : Net) (w : Weights) (chain : List Prices) : Type 0 where
  pub starts : slice_get chain 0 ≡ Some (zero_prices net)
  pub goes_on : (k : ℕ) (old new : Prices) → slice_get chain k ≡ Some old →
      slice_get chain (suc k) ≡ Some new → IsRound net w (suc k) old new
