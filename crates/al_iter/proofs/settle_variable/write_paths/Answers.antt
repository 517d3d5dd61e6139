use Rattle.std.proofs.Common.{◌≡◌, ◌<◌, List, length, get_or, ap, ◌∙◌, arith}
use Rattle.pra_base.specs.declared.ids.Place.{Place}
use Rattle.net_form.specs.declared.routes.Routes.{Routes}
use Rattle.net_dual.specs.Paths.{path_in}
use Rattle.al_laws.specs.Parts.{with_path}
use Rattle.al_iter.proofs.SettleVariable.{written_more, written_less}
use Rattle.al_iter.proofs.settle_variable.write_paths.Goals as goal

pub loop-at-preserved : goal.loop-at-preserved
loop-at-preserved c =
    let net = c.args.net.now in
    let strands = c.args.strands.now in
    let draft = c.args.draft.now in
    let i = c.loop-at.at in
    let s = get_or strands i 0 in
    let lt : i < length strands = omega arith in
    let in_ = c.requires.strands.there i 0 lt in
    let inv = c.loop-at.invariant in
    let is : c.write_path.new.routes ≡ with_path c.loop-at.routes s (path_in draft s) =
    c.write_path.ensures.path
    ∙ ap (λ (ps : List Place). with_path c.loop-at.routes s ps) c.path_at.ensures.path in
    record {
      routes = c.write_path.ensures.routes;
      mine = λ r among_. ap (λ (rs : Routes). path_in rs r) is
          ∙ written_more net c.loop-at.routes draft inv.routes strands i lt in_ inv.mine r among_;
      others = λ r apart. ap (λ (rs : Routes). path_in rs r) is
          ∙ written_less net c.loop-at.routes draft inv.routes strands i lt in_ c.args.routes.now
          inv.others r apart;
    }
