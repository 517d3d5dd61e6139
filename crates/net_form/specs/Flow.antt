-- Flows of a network, as lists of edges.
use Rattle.std.specs.Prelude.{◌≡◌, ℕ, suc, ◌+◌, ◌<◌, ◌≤◌, Bool, true, false, ◌&&◌, nat_eq, List, []}
use Rattle.std.specs.Prelude.{◌∷◌, ◌++◌, Option, None, Some, ◌↔◌, All, count_by, length, slice_get}
use Rattle.std.specs.Prelude.{⊤}
use Rattle.pra_base.specs.declared.ids.Place.{Place}
use Rattle.pra_base.specs.Places.{number}
use Rattle.net_form.specs.declared.net.Strand.{Strand}
use Rattle.net_form.specs.declared.net.Net.{Net}
use Rattle.net_form.specs.declared.routes.Routes.{Routes}

-- the strand goes from a place at the layer before, or from Start, to a place at this layer
pub record Edge : Type 0 where
  pub strand : ℕ
  pub layer : ℕ
  pub from : Option Place
  pub to : Place

abbrev pub same_place : Place → Place → Bool
same_place p q = nat_eq (number p) (number q)

abbrev pub same_start : Option Place → Option Place → Bool
same_start None None = true
same_start (Some p) (Some q) = same_place p q
same_start _ _ = false

abbrev pub is_at : ℕ → ℕ → Edge → Bool
is_at s l e = nat_eq e.strand s && nat_eq e.layer l

-- strand s comes to q at layer l
abbrev pub arrives : ℕ → ℕ → Place → Edge → Bool
arrives s l q e = is_at s l e && same_place e.to q

-- strand s comes from p to layer l
abbrev pub leaves : ℕ → ℕ → Option Place → Edge → Bool
leaves s l p e = is_at s l e && same_start e.from p

-- an edge of a strand, within its layers; at the first one, and there alone, it comes from Start
pub record IsEdge (strands : List Strand) (e : Edge) : Type 0 where
  pub strand : Strand
  pub is : slice_get strands e.strand ≡ Some strand
  pub after : strand.first ≤ e.layer
  pub before : e.layer ≤ strand.last
  pub start : (e.from ≡ None) ↔ (e.layer ≡ strand.first)

-- Each strand has one edge from Start, and as many of its edges come to a place as go on from
-- there.
pub record Conserves (strands : List Strand) (f : List Edge) : Type 0 where
  pub edges : All (IsEdge strands) f
  pub starts : (s : ℕ) (t : Strand) → slice_get strands s ≡ Some t →
      count_by (leaves s t.first None) f ≡ 1
  pub keeps : (s l : ℕ) (q : Place) (t : Strand) → slice_get strands s ≡ Some t → t.first ≤ l →
      l < t.last → count_by (arrives s l q) f ≡ count_by (leaves s (l + 1) (Some q)) f

-- ---- the flow of routes

-- the edges of a path of strand s that comes from p to layer l
abbrev pub edges : ℕ → ℕ → Option Place → List Place → List Edge
edges s l p [] = []
edges s l p (q ∷ qs) =
    record { strand = s; layer = l; from = p; to = q } ∷ edges s (suc l) (Some q) qs

-- the edges of paths, whose first is of strand s
abbrev pub flow_from : ℕ → List Strand → List (List Place) → List Edge
flow_from s [] rs = []
flow_from s (t ∷ ts) [] = []
flow_from s (t ∷ ts) (ps ∷ rs) = edges s t.first None ps ++ flow_from (suc s) ts rs

abbrev pub flow_of : List Strand → List (List Place) → List Edge
flow_of strands paths = flow_from 0 strands paths

abbrev pub flow : Net → Routes → List Edge
flow net routes = flow_of net.strands routes.places

-- a path for each strand, a place for each of its layers
abbrev pub HasPlaces : List Strand → List (List Place) → Type 0
HasPlaces [] [] = ⊤
HasPlaces [] (ps ∷ rs) = ⊥
HasPlaces (t ∷ ts) [] = ⊥
HasPlaces (t ∷ ts) (ps ∷ rs) = (t.first + length ps ≡ t.last + 1) × HasPlaces ts rs

abbrev pub AreRoutes : Net → Routes → Type 0
AreRoutes net routes = HasPlaces net.strands routes.places
