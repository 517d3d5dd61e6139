use Rattle.std.proofs.Common.{ℤ, Option, sym, subst, ◌∙◌}
use Rattle.pra_base.specs.Places.{number}
use Rattle.pra_base.proofs.PlaceNumbers.{number_below}
use Rattle.net_cost.specs.Models.{weights_of}
use Rattle.al_edge.specs.OpenPlaces.{suits_all}
use Rattle.al_edge.specs.Totals.{opened, number_at}
use Rattle.al_edge.specs.Weighed.{IsSlot, IsWeight}
use Rattle.al_edge.proofs.Filled.{slot_of}
use Rattle.al_edge.proofs.OpenPlaces.{in_masks}
use Rattle.al_edge.proofs.weights.weights.Goals as goal

pub totals-totals-requires-clause-opens : goal.totals-totals-requires-clause-opens
totals-totals-requires-clause-opens g c = λ p o.
    in_masks c.args.net.now c.args._used.now.regs c.args.group p
    (sym (c.open_places-opens.ensures p (number_below p) ∙ c.requires.places p) ∙ o)

pub returns-clause-weights : goal.returns-clause-weights
returns-clause-weights g c = record {
  long = c.of_open.ensures.long;
  each = λ p lt.
      let net = c.args.net.now in
      let w = weights_of c.args.model.now in
      let regs = c.args._used.now.regs in
      subst (λ (o : Option ℤ). IsSlot net w c.args.prices.now regs c.args.group p o)
      (sym (c.of_open.ensures.each (number p) lt))
      (slot_of (IsWeight net w c.args.prices.now c.args.group p)
      (opened c.open_places-opens.result (number p)) (suits_all net regs c.args.group p)
      (number_at c.totals-totals.result (number p))
      (c.open_places-opens.ensures p lt ∙ c.requires.places p)
      (c.totals-totals.ensures.totals p));
}
