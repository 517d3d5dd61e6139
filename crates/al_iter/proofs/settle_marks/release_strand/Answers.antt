use Rattle.std.proofs.Common.{List, subst}
use Rattle.pra_base.specs.declared.ids.Place.{Place}
use Rattle.net_form.specs.InUse.{Releases}
use Rattle.net_dual.specs.Paths.{path_edges}
use Rattle.al_iter.proofs.UsesNone.{releases_nothing}
use Rattle.al_iter.proofs.settle_marks.release_strand.Goals as goal

pub returns-then-uses_nothing-clause-releases : goal.returns-then-uses_nothing-clause-releases
returns-then-uses_nothing-clause-releases c =
    let net = c.args.net.now in
    let taken = c.args.taken.now in
    let s = c.args.strand in
    subst (λ (ps : List Place). Releases net (path_edges net s ps) taken taken)
    c.path_at-path.ensures.path
    (releases_nothing net (path_edges net s c.path_at-path.result.now) taken
    (c.uses_nothing.ensures c.if-uses_nothing.true))

pub returns-clause-releases : goal.returns-clause-releases
returns-clause-releases c =
    let net = c.args.net.now in
    subst (λ (ps : List Place). Releases net (path_edges net c.args.strand ps) c.args.taken.now
    c.release_path.new.self) c.path_at-path.ensures.path c.release_path.ensures.releases
