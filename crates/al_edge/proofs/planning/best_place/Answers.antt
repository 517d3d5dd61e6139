use Rattle.std.proofs.Common.{◌∙◌}
use Rattle.pra_base.specs.declared.ids.Place.TheVariants.{Mem}
use Rattle.pra_base.proofs.PlaceNumbers.{number_below}
use Rattle.net_cost.specs.Models.{weights_of}
use Rattle.al_edge.specs.Cheapest.{slot}
use Rattle.al_edge.proofs.OpenPlaces.{memory_suits}
use Rattle.al_edge.proofs.SomeLeast.{memory_alone}
use Rattle.al_edge.proofs.Sums.{best, some_weight}
use Rattle.al_edge.proofs.planning.best_place.Goals as goal

pub cheapest-requires : goal.cheapest-requires
cheapest-requires g c =
    let net = c.args.net.now in
    let regs = c.args.used.now.regs in
    record {
      memory = some_weight net (weights_of c.args.model.now) c.args.prices.now regs c.args.group Mem
          (slot c.weights.result Mem) (c.weights.ensures.weights.each Mem (number_below Mem))
          (memory_suits net c.requires.net regs c.args.group);
    }

pub returns-clause-best : goal.returns-clause-best
returns-clause-best g c = best c.args.net.now (weights_of c.args.model.now) c.args.prices.now
    c.args.used.now.regs c.args.group c.weights.result c.weights.ensures.weights c.cheapest.result
    c.cheapest.ensures

pub returns-then-is_memory_alone-clause-best : goal.returns-then-is_memory_alone-clause-best
returns-then-is_memory_alone-clause-best g c =
    memory_alone c.args.net.now c.requires.net (weights_of c.args.model.now) c.args.prices.now
    c.args.used.now.regs c.args.group (λ p suits.
    c.is_memory_alone.ensures c.if-is_memory_alone.true p
    (c.places_for_all-places.ensures p ∙ suits))
