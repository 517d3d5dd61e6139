-- A pass over the layers of a strand, from the first to the last: what it costs at least to come to
-- each place of a layer (dynamic programming over the layers, as for a shortest path in a graph
-- without cycles).
use Rattle.std.specs.Prelude.{◌≡◌, ℕ, suc, ◌+◌, ◌<◌, ◌≤◌, if◌then◌else◌, ℤ, ◌+ℤ◌, ◌≤ℤ◌, List, []}
use Rattle.std.specs.Prelude.{◌∷◌, ◌++◌, length, slice_index_or, All, Option, Some, None}
use Rattle.std.specs.Prelude.{option_map, IsTrue}
use Rattle.std.specs.List.{range_with_len}
use Rattle.pra_base.specs.declared.ids.Place.{Place}
use Rattle.pra_base.specs.Places.{number}
use Rattle.net_cost.specs.declared.weights.Weights.{Weights}
use Rattle.net_form.specs.declared.net.Net.{Net}
use Rattle.net_form.specs.declared.prices.Prices.{Prices}
use Rattle.net_form.specs.Admitted.{strand_at, in_mask, stays_across}
use Rattle.net_form.specs.Flow.{Edge}
use Rattle.net_dual.specs.Leasts.{cost_at, IsCostWithin}
use Rattle.net_dual.specs.Paths.{path_edges, path_price, IsPath, IsLeast, any_ends, Anywhere}
use Rattle.net_dual.specs.Priced.{total}
use Rattle.net_dual.specs.Small.{most_sum}
use Rattle.cert_check.specs.Tolls.{edge, toll, way_toll}

-- ---- ways to a place

-- the places of a path that comes to q behind these
abbrev pub way_to : List Place → Place → List Place
way_to before q = before ++ q ∷ []

-- strand s may come to q at layer l by these places before it
pub record LeadsTo (net : Net) (s l : ℕ) (q : Place) (before : List Place) : Type 0 where
  pub long : (strand_at net s).first + length before ≡ l
  pub masks : All (λ e. IsTrue (in_mask net e)) (path_edges net s (way_to before q))
  pub across : All (λ e. IsTrue (stays_across e)) (path_edges net s (way_to before q))

-- z is what that costs at least
pub record IsLeastTo (net : Net) (price : Edge → ℤ) (s l : ℕ) (q : Place) (z : ℤ) : Type 0 where
  pub before : List Place
  pub leads : LeadsTo net s l q before
  pub is : path_price net price s (way_to before q) ≡ z
  pub least : (other : List Place) → LeadsTo net s l q other →
      z ≤ℤ path_price net price s (way_to other q)

-- what it costs at least, if the strand can come there at all
abbrev pub IsReached : Net → (Edge → ℤ) → ℕ → ℕ → Place → Option ℤ → Type 0
IsReached net price s l q None = (before : List Place) → LeadsTo net s l q before → ⊥
IsReached net price s l q (Some z) = IsLeastTo net price s l q z

-- ---- rows

-- so small that sums with what is paid at a layer fit
abbrev pub IsSmallRow : List (Option ℤ) → Type 0
IsSmallRow row = (k : ℕ) → IsCostWithin most_sum (cost_at row k)

-- a number for each place of a layer
pub record IsPassRow (net : Net) (price : Edge → ℤ) (s l : ℕ) (row : List (Option ℤ)) : Type 0 where
  pub reached : (q : Place) → IsReached net price s l q (cost_at row (number q))
  pub within : IsSmallRow row

-- of the layer before layer l, which the strand has too
pub record IsRowBefore (net : Net) (price : Edge → ℤ) (s l : ℕ) (row : List (Option ℤ)) : Type 0
  where
    pub layer : ℕ
    pub next : suc layer ≡ l
    pub after : (strand_at net s).first ≤ layer
    pub is_row : IsPassRow net price s layer row

-- the strand has some path
pub record HasPath (net : Net) (s : ℕ) : Type 0 where
  pub path : List Place
  pub is_path : IsPath net s path

-- from a place of the layer before, whose cost a row has, to q at layer l
abbrev pub via : Net → Weights → ℕ → ℕ → List (Option ℤ) → Place → Place → Option ℤ
via net w s l row p q =
    if stays_across (edge s l (Some p) q)
    then option_map (λ d. d +ℤ way_toll net w s l (Some p) q) (cost_at row (number p))
    else None

-- with the toll of a place that is in the strand's mask
abbrev pub paid : Net → Weights → Prices → ℕ → ℕ → Place → Option ℤ → Option ℤ
paid net w prices s l q cost =
    if in_mask net (edge s l None q) then option_map (λ d. d +ℤ toll net w prices s l q) cost
    else None

-- ---- the sum of the least costs

-- a least path for each of the first n strands, and what they cost together
pub record AreLeastCosts (net : Net) (price : Edge → ℤ) (n : ℕ) (z : ℤ) : Type 0 where
  pub family : List (List Place)
  pub many : length family ≡ n
  pub each : (s : ℕ) → s < n → IsLeast net price any_ends Anywhere s (slice_index_or family s [])
  pub is : z ≡ total (λ s. path_price net price s (slice_index_or family s [])) (range_with_len 0 n)
