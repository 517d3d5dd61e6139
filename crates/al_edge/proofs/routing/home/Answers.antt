use Rattle.std.proofs.Common.{ap, arith}
use Rattle.net_form.specs.declared.taken.Taken.{Taken}
use Rattle.al_edge.proofs.Ends.{nobody_yet, whole_routes, whole_admitted, whole_home}
use Rattle.al_edge.proofs.routing.home.Goals as goal

pub loop-strand-init : goal.loop-strand-init
loop-strand-init c = record {
  taken = c.in_ok-taken.ensures.room;
  paths = nobody_yet c.args.net.now c.in_ok-taken.taken.regs c.in_ok-paths.paths
      (ap (λ (t : Taken). t.regs) c.in_ok-taken.ensures.value)
      c.in_ok-paths.ensures;
}

pub returns-clause-routes : goal.returns-clause-routes
returns-clause-routes c = whole_routes c.args.net.now c.requires.net c.requires.room
    c.loop-strand.taken.regs c.loop-strand.paths c.loop-strand.strand c.loop-strand.invariant.paths
    (omega (arith, c.loop-strand-test.false, c.len-strand-end.ensures))
    (omega (arith, c.loop-strand.auto.strand-end, c.len-strand-end.ensures))

pub returns-clause-admitted : goal.returns-clause-admitted
returns-clause-admitted c = whole_admitted c.args.net.now c.requires.net c.requires.room
    c.loop-strand.taken.regs c.loop-strand.paths c.loop-strand.strand c.loop-strand.invariant.paths
    (omega (arith, c.loop-strand-test.false, c.len-strand-end.ensures))
    (omega (arith, c.loop-strand.auto.strand-end, c.len-strand-end.ensures))

pub returns-clause-home : goal.returns-clause-home
returns-clause-home c = whole_home c.args.net.now c.requires.net c.requires.room
    c.loop-strand.taken.regs c.loop-strand.paths c.loop-strand.strand c.loop-strand.invariant.paths
    (omega (arith, c.loop-strand-test.false, c.len-strand-end.ensures))
    (omega (arith, c.loop-strand.auto.strand-end, c.len-strand-end.ensures))
