use Rattle.std.proofs.Common.{Option, Some, ◌∙◌, sym, ap}
use Rattle.pra_base.specs.declared.ids.Place.{Place}
use Rattle.pra_base.specs.declared.ids.Place.TheVariants.{Mem}
use Rattle.net_form.specs.Flow.{same_start}
use Rattle.pra_list.proofs.Counts.{bit}
use Rattle.net_gate.proofs.Ends.{arrivals}
use Rattle.net_gate.proofs.pairs.is_in_memory.Goals as goal

pub returns-in-None : goal.returns-in-None
returns-in-None c =
    arrivals c.args.net.now c.args.routes.now c.requires c.args.strand c.args.layer Mem
    ∙ ap (λ (o : Option Place). bit (same_start o (Some Mem)))
    (sym c.place_at.ensures ∙ c.in-None.is)

pub returns-in-Some : goal.returns-in-Some
returns-in-Some c =
    arrivals c.args.net.now c.args.routes.now c.requires c.args.strand c.args.layer Mem
    ∙ ap (λ (o : Option Place). bit (same_start o (Some Mem)))
    (sym c.place_at.ensures ∙ c.in-Some.is)
    ∙ sym (ap bit c.is_mem.ensures)
