-- One strand released, and put back or put elsewhere.
use Rattle.std.proofs.Common.{ℕ, ◌≡◌, ◌<◌, not, List, length, ℤ, pos, ◌≤ℤ◌, ◌<ℤ◌, sym, subst}
use Rattle.std.proofs.Common.{arith}
use Rattle.std.proofs.lemmas.Int.{ints}
use Rattle.pra_base.specs.declared.ids.Place.{Place}
use Rattle.net_cost.specs.declared.weights.Weights.{Weights}
use Rattle.net_form.specs.declared.net.Net.{Net}
use Rattle.net_form.specs.declared.routes.Routes.{Routes}
use Rattle.net_form.specs.declared.taken.Spare.{Spare}
use Rattle.net_form.specs.declared.taken.Taken.{Taken}
use Rattle.net_form.specs.Admitted.{IsAdmitted}
use Rattle.net_form.specs.Cost.{cost_of}
use Rattle.net_form.specs.Flow.{flow, AreRoutes}
use Rattle.net_form.specs.InUse.{StandsFor, UsesNothing, Takes, Releases}
use Rattle.net_form.specs.Rooms.{IsRoomOf, zero_prices}
use Rattle.net_form.proofs.TakenFlows.{apart_from_nothing, nothing_from_apart, admitted_once}
use Rattle.net_laws.specs.Built.{IsBuilt}
use Rattle.net_dual.specs.Paths.{path_edges, path_in, path_price, MayGo}
use Rattle.net_dual.specs.Priced.{edge_price, cost_by_weights}
use Rattle.net_dual.proofs.FreeBound.{free_path}
use Rattle.al_laws.specs.Parts.{rest, only_strand, with_path}
use Rattle.al_laws.specs.Settled.{block_ends, NoneCheaper}
use Rattle.al_laws.proofs.OneStrand.{path_put, cost_new, cost_old, goes, agree}
use Rattle.al_iter.specs.Room.{IsSpareOf}
use Rattle.al_iter.proofs.SettleMarks.{everyone, all_but_one, part_all, released, taken_again}
use Rattle.al_iter.proofs.SettleMarks.{marks_agree}

-- the same room with other marks
abbrev pub with_taken : Spare → Taken → Spare
with_taken spare t = record { taken = t; routes = spare.routes; zero = spare.zero }

pub spare_with : (net : Net) (spare : Spare) (t : Taken) → IsSpareOf net spare → IsRoomOf net t
    → IsSpareOf net (with_taken spare t)
spare_with net spare t is room = record { taken = room; routes = is.routes; zero = is.zero }

-- the marks are those of all other strands
abbrev pub others_of : Net → ℕ → Routes → Taken → Type 0
others_of net s routes t = StandsFor net t (rest net (only_strand s) routes)

module _ (net : Net) (built : IsBuilt net) (routes : Routes) (has : AreRoutes net routes)
    (a : IsAdmitted net (flow net routes)) (s : ℕ) (lt : s < length net.strands) where
  pub one_out : (old new : Taken) → StandsFor net old (flow net routes)
      → Releases net (path_edges net s (path_in routes s)) old new → others_of net s routes new
  one_out old new marked releases = released net routes has s lt (λ r. not (only_strand s r))
      everyone (all_but_one s) old new
      (subst (StandsFor net old) (sym (part_all net routes)) marked) releases

  pub one_in : (old new : Taken) → others_of net s routes old
      → Takes net (path_edges net s (path_in routes s)) old new
      → StandsFor net new (flow net routes)
  one_in old new marked takes = subst (StandsFor net new) (part_all net routes)
      (taken_again net routes has s lt (λ r. not (only_strand s r)) everyone (all_but_one s) old new
      (admitted_once net (flow net routes) a) marked takes)

  module _ (w : Weights) (t : Taken) (marked : others_of net s routes t) where
    abbrev price : List Place → ℤ
    price ps = path_price net (edge_price net w (zero_prices net)) s ps

    pub none_cheaper : (z : ℤ) → z ≡ price (path_in routes s)
        → ((ps : List Place) → MayGo net (block_ends net routes s) (UsesNothing net t) s ps
        → z ≤ℤ price ps) → NoneCheaper net w routes s
    none_cheaper z is least ps goes_ =
        let le = least ps (record {
          path = goes_.path;
          has_ends = goes_.has_ends;
          is_clear = nothing_from_apart net t (path_edges net s ps)
              (rest net (only_strand s) routes) marked goes_.is_clear;
        }) in
        omega (arith, ints, is, le)

    module _ (ps : List Place)
        (may : MayGo net (block_ends net routes s) (UsesNothing net t) s ps) where
      pub put_routes : AreRoutes net (with_path routes s ps)
      put_routes = goes net built.formed routes has s lt ps may.path

      pub put_admitted : IsAdmitted net (flow net (with_path routes s ps))
      put_admitted = path_put net built.formed routes has s lt ps may.path may.has_ends built a
          (apart_from_nothing net t (path_edges net s ps) (rest net (only_strand s) routes) marked
          may.is_clear)

      pub put_marked : others_of net s (with_path routes s ps) t
      put_marked = marks_agree net (only_strand s) routes (with_path routes s ps) has put_routes
          (λ r other. sym (agree net built.formed routes has s lt ps may.path r other)) t marked

      pub put_lower : price ps <ℤ price (path_in routes s)
          → cost_of net w (flow net (with_path routes s ps)) < cost_of net w (flow net routes)
      put_lower less =
          let own = free_path net (cost_by_weights net w) s (path_in routes s) in
          let other = free_path net (cost_by_weights net w) s ps in
          let old = cost_old net routes has s lt w in
          let new = cost_new net built.formed routes has s lt ps may.path w in
          omega (arith, ints, less, own, other, old, new)

-- a path that pays nothing has no cheaper one
pub nothing_cheaper : (net : Net) (w : Weights) (routes : Routes) (s : ℕ)
    → path_price net (edge_price net w (zero_prices net)) s (path_in routes s) ≡ pos 0
    → NoneCheaper net w routes s
nothing_cheaper net w routes s none ps goes_ =
    let other = free_path net (cost_by_weights net w) s ps in
    omega (arith, ints, none, other)
