-- What flows and routes cost.
use Rattle.std.specs.Prelude.{ℕ, ◌+◌, ◌-◌, ◌*◌, ◌&&◌, Bool, nat_eq, nat_le, if◌then◌else◌, List, []}
use Rattle.std.specs.Prelude.{Option, None, Some, sum_by, count_by, slice_index_or, slice_get}
use Rattle.pra_base.specs.declared.ids.Place.{Place}
use Rattle.net_cost.specs.declared.weights.Weights.{Weights}
use Rattle.net_cost.specs.Weights.{weight_at, weight_of}
use Rattle.net_form.specs.declared.net.Extra.{Extra}
use Rattle.net_form.specs.declared.net.Net.{Net}
use Rattle.net_form.specs.declared.routes.Routes.{Routes}
use Rattle.net_form.specs.Flow.{Edge, arrives, same_place, same_start, flow}
use Rattle.net_form.specs.Admitted.{strand_at, is_across}
use Rattle.net_form.specs.Tables.{PlaceTables, all_tables}
use Rattle.net_form.specs.Formed.{no_block}

-- the loop depth of a strand's block
abbrev pub depth_at : Net → ℕ → ℕ
depth_at net s = (slice_index_or net.blocks (strand_at net s).block.0 no_block).depth

-- what a strand pays to come to a place; an edge across an instruction is no crossbar's
abbrev pub events_from : PlaceTables → Net → Edge → Option Place → List ℕ
events_from tables net e None = tables.begun (strand_at net e.strand).constant e.to
events_from tables net e (Some p) = if is_across e then [] else tables.crossbar net.near p e.to

-- what events, by their numbers, weigh in a block of this loop depth
abbrev pub events_weight : Weights → ℕ → List ℕ → ℕ
events_weight w depth events = sum_by (λ n. weight_at w n depth) events

-- the way that an edge goes
abbrev pub way_cost : PlaceTables → Net → Weights → Edge → ℕ
way_cost tables net w e =
    events_weight w (depth_at net e.strand) (events_from tables net e e.from)

abbrev pub extra_cost : Net → Weights → Extra → ℕ
extra_cost net w x = weight_of w x.event (depth_at net x.strand)

abbrev pub meets : Extra → Edge → Bool
meets x e = arrives x.strand x.layer x.place e

-- the cost of a flow: its edges, and each extra as often as it is met
abbrev pub cost_by : PlaceTables → Net → Weights → List Edge → ℕ
cost_by tables net w f =
    sum_by (way_cost tables net w) f +
    sum_by (λ x. extra_cost net w x * count_by (meets x) f) net.extras

abbrev pub cost_of : Net → Weights → List Edge → ℕ
cost_of net w f = cost_by all_tables net w f

-- what the flow of routes costs
abbrev pub cost_in : Net → Weights → Routes → ℕ
cost_in net w routes = cost_of net w (flow net routes)

-- ---- the same, edge by edge

-- an extra of strand s at place p of layer l
abbrev pub is_extra_at : ℕ → ℕ → Place → Extra → Bool
is_extra_at s l p x = nat_eq s x.strand && nat_eq l x.layer && same_place p x.place

-- what the extras of strand s cost where it is at place p of layer l
abbrev pub extras_cost : Net → Weights → ℕ → ℕ → Place → ℕ
extras_cost net w s l p =
    sum_by (λ x. if is_extra_at s l p x then extra_cost net w x else 0) net.extras

-- all that an edge costs: its way, and the extras that it meets
abbrev pub edge_cost : PlaceTables → Net → Weights → Edge → ℕ
edge_cost tables net w e = way_cost tables net w e + extras_cost net w e.strand e.layer e.to

-- ---- the cost of routes: the ways of their paths, and each extra whose place is met

-- the place of strand s at layer l, if the strand is there
abbrev pub place_on : List Place → ℕ → ℕ → Option Place
place_on path first l = if nat_le first l then slice_get path (l - first) else None

abbrev pub route_at : Net → Routes → ℕ → ℕ → Option Place
route_at net routes s l = place_on (slice_index_or routes.places s []) (strand_at net s).first l

abbrev pub is_met : Net → Routes → Extra → Bool
is_met net routes x = same_start (route_at net routes x.strand x.layer) (Some x.place)

abbrev pub met_cost : Net → Weights → Routes → Extra → ℕ
met_cost net w routes x = if is_met net routes x then extra_cost net w x else 0

abbrev pub routes_cost : PlaceTables → Net → Weights → Routes → ℕ
routes_cost tables net w routes =
    sum_by (way_cost tables net w) (flow net routes) + sum_by (met_cost net w routes) net.extras
