use Rattle.std.proofs.Common.{◌∙◌, ℕ, Option, sym, ap}
use Rattle.std.proofs.lemmas.List.{get_or_read}
use Rattle.pra_base.specs.declared.ids.Place.{Place}
use Rattle.net_form.specs.declared.net.Strand.{Strand}
use Rattle.net_cost.specs.Models.{weights_of}
use Rattle.net_form.specs.Admitted.{no_strand}
use Rattle.net_form.specs.Cost.{events_weight, way_cost, depth_at}
use Rattle.net_form.specs.Tables.{all_tables, begun}
use Rattle.net_form.proofs.ways.way_cost.Goals as goal

pub returns-in-None-clause-value : goal.returns-in-None-clause-value
returns-in-None-clause-value g c =
    let net = c.args.net.now in
    let w = weights_of c.args.model.now in
    let s = c.args.strand in
    let t = get_or_read net.strands s c.index.result.now c.requires.strand c.index.ensures
    no_strand in
    c.begun_cost.ensures.value
    ∙ ap (λ (d : ℕ). events_weight w d (begun c.index.result.now.constant c.args.to))
    c.depth-depth.ensures.value
    ∙ ap (λ (u : Strand). events_weight w (depth_at net s) (begun u.constant c.args.to)) t
    ∙ sym (ap (λ (o : Option Place). way_cost all_tables net w
    (record { strand = s; layer = c.args.layer; from = o; to = c.args.to })) c.in-None.is)
