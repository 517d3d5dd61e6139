use Rattle.std.proofs.Common.{List, [], ◌∷◌, ◌++◌, ◌+◌, ◌∙◌, min, length, None, subst, sym, ap}
use Rattle.std.proofs.Common.{arith}
use Rattle.pra_base.specs.declared.ids.Place.{Place}
use Rattle.net_form.specs.Admitted.{strand_at}
use Rattle.net_form.specs.InUse.{mark}
use Rattle.net_form.proofs.PathUses.{uses}
use Rattle.al_edge.specs.HomePaths.{IsSoFar}
use Rattle.al_edge.proofs.AtHome.{home_more}
use Rattle.al_edge.proofs.Step.{path_placed, so_far_more}
use Rattle.al_edge.proofs.routing.add_path.Goals as goal

pub take_path-requires-clause-path : goal.take_path-requires-clause-path
take_path-requires-clause-path c =
    let net = c.args.net.now in
    let so = c.requires.paths in
    let placed = path_placed net c.requires.net c.requires.room c.args.paths.now
    c.args.taken.now.regs so.marks so.placed c.args.strand c.requires.strand so.count in
    let long = placed.long in
    let row = ap length (c.as_slice.ensures ∙ c.in_ok-path.ensures) in
    omega (arith, long, row)

pub returns-clause-paths : goal.returns-clause-paths
returns-clause-paths c =
    let net = c.args.net.now in
    let so = c.requires.paths in
    let path = c.in_ok-path.path in
    subst (λ (ps : List (List Place)). IsSoFar net c.take_path.new.self.regs ps (c.args.strand + 1))
    (sym (c.in_ok-push.ensures.ok
    ∙ ap (λ (ps : List Place). c.args.paths.now ++ ps ∷ []) c.as_slice-2.ensures))
    (so_far_more net c.requires.net c.requires.room c.args.paths.now c.args.taken.now.regs
    c.take_path.new.self.regs c.args.strand path c.requires.strand so c.in_ok-path.ensures
    (let old = c.requires.taken.regs in let new = c.take_path.ensures.room.regs in
    omega (arith, old, new))
    (λ n r. c.take_path.ensures.takes.registers n r
    ∙ ap (λ (ps : List Place). min 1
    (mark c.args.taken.now.regs n r + uses net n r c.args.strand
    (strand_at net c.args.strand).first None ps)) c.as_slice.ensures))

pub returns-then-stays_home-clause-paths : goal.returns-then-stays_home-clause-paths
returns-then-stays_home-clause-paths c =
    let net = c.args.net.now in
    let regs = c.args.taken.now.regs in
    subst (λ (ps : List (List Place)). IsSoFar net regs ps (c.args.strand + 1))
    (sym c.in_ok-add_home.ensures)
    (home_more net c.requires.net c.args.strand c.requires.strand c.requires.room c.args.paths.now
    regs c.requires.paths (c.stays_home.ensures c.if-stays_home.true))
