-- Paths of one strand, and the least of them. What an edge costs is any function here: its cost,
-- or its cost with prices.
use Rattle.std.specs.Prelude.{◌≡◌, ℕ, ◌+◌, ◌-◌, ◌<◌, ℤ, ◌≤ℤ◌, List, [], length}
use Rattle.std.specs.Prelude.{slice_get, slice_index_or, None, Some, All, IfSome, IsTrue}
use Rattle.std.specs.Prelude.{⊤}
use Rattle.pra_base.specs.declared.ids.Place.{Place}
use Rattle.net_form.specs.declared.net.Net.{Net}
use Rattle.net_form.specs.declared.routes.Ends.{Ends}
use Rattle.net_form.specs.declared.routes.Routes.{Routes}
use Rattle.net_form.specs.Flow.{Edge, edges}
use Rattle.net_form.specs.Admitted.{strand_at, in_mask, stays_across}
use Rattle.net_dual.specs.Priced.{total}

-- the edges of a path of strand s
abbrev pub path_edges : Net → ℕ → List Place → List Edge
path_edges net s ps = edges s (strand_at net s).first None ps

-- a place for each of its layers, in its masks, and the same one before and after an instruction
pub record IsPath (net : Net) (s : ℕ) (ps : List Place) : Type 0 where
  pub long : (strand_at net s).first + length ps ≡ (strand_at net s).last + 1
  pub masks : All (λ e. IsTrue (in_mask net e)) (path_edges net s ps)
  pub across : All (λ e. IsTrue (stays_across e)) (path_edges net s ps)

-- it begins and ends where it has to
pub record HasEnds (ends : Ends) (ps : List Place) : Type 0 where
  pub first : IfSome ends.first (λ p. slice_get ps 0 ≡ Some p)
  pub last : IfSome ends.last (λ p. slice_get ps (length ps - 1) ≡ Some p)

-- wherever it likes
abbrev pub any_ends : Ends
any_ends = record { first = None; last = None }

-- ---- what a path may not use

-- What the edges of a path have to keep clear of, as a fact on them: of nothing, of a flow g by
-- `λ f. AreApart net f g`, or of what is in use by `UsesNothing net taken`.
abbrev pub Clear : Type 1
Clear = List Edge → Type 0

abbrev pub Anywhere : Clear
Anywhere f = ⊤

-- ---- least paths

-- what a path costs, where an edge costs price
abbrev pub path_price : Net → (Edge → ℤ) → ℕ → List Place → ℤ
path_price net price s ps = total price (path_edges net s ps)

-- strand s may go this way
pub record MayGo (net : Net) (ends : Ends) (clear : Clear) (s : ℕ) (ps : List Place) : Type 0 where
  pub path : IsPath net s ps
  pub has_ends : HasEnds ends ps
  pub is_clear : clear (path_edges net s ps)

-- and no way that it may go costs less
pub record IsLeast (net : Net) (price : Edge → ℤ) (ends : Ends) (clear : Clear) (s : ℕ)
    (ps : List Place) : Type 0 where
  pub goes : MayGo net ends clear s ps
  pub least : (qs : List Place) → MayGo net ends clear s qs →
      path_price net price s ps ≤ℤ path_price net price s qs

-- the least cost as a number
pub record IsLeastCost (net : Net) (price : Edge → ℤ) (ends : Ends) (clear : Clear) (s : ℕ)
    (z : ℤ) : Type 0 where
  pub way : List Place
  pub is_least : IsLeast net price ends clear s way
  pub is : path_price net price s way ≡ z

-- ---- a least path for each strand, whatever the others do

abbrev pub path_in : Routes → ℕ → List Place
path_in routes s = slice_index_or routes.places s []

pub record AreLeast (net : Net) (price : Edge → ℤ) (family : Routes) : Type 0 where
  pub many : length family.places ≡ length net.strands
  pub each : (s : ℕ) → s < length net.strands →
      IsLeast net price any_ends Anywhere s (path_in family s)
