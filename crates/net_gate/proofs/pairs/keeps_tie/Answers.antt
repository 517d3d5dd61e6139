use Rattle.std.proofs.Common.{◌∙◌, Option, sym, ap}
use Rattle.pra_base.specs.declared.ids.Place.{Place}
use Rattle.net_form.specs.Admitted.{strand_at}
use Rattle.net_form.specs.Cost.{route_at}
use Rattle.net_form.specs.Flow.{same_start}
use Rattle.net_gate.proofs.Ends.{tie_kept, kept_tie}
use Rattle.net_gate.proofs.pairs.keeps_tie.Goals as goal

pub returns : goal.returns
returns c =
    let net = c.args.net.now in
    let routes = c.args.routes.now in
    let t = c.args.tie.now in
    let same = c.is_same.ensures
    ∙ ap (λ (o : Option Place). same_start o c.first_place-to.result) c.last_place-from.ensures
    ∙ ap (same_start (route_at net routes t.from (strand_at net t.from).last))
    c.first_place-to.ensures in (
      λ is. tie_kept net routes c.requires t (sym same ∙ is),
      λ keeps. same
          ∙ kept_tie net routes c.requires t keeps,
    )
