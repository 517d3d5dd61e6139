use Rattle.std.proofs.Common.{◌∙◌, ap, List, length, map, arith}
use Rattle.std.proofs.lemmas.List.{take_all}
use Rattle.net_form.specs.declared.net.Strand.{Strand}
use Rattle.al_simul.proofs.Sized.{sized_routes}
use Rattle.al_simul.proofs.sweeping.routes_of.Goals as goal

pub returns : goal.returns
returns c =
    let net = c.args.net.now in
    let items = c.as_slice-strand-items.result.now in
    let all = take_all c.loop-strand.strand-index items (omega (arith, c.loop-strand-test.false)) in
    let here = ap (λ (ts : List Strand). map (λ (t : Strand). length t.masks) ts)
    (all ∙ c.as_slice-strand-items.ensures) in
    sized_routes net c.loop-strand.paths c.requires.net (c.loop-strand.invariant ∙ here)
