use Rattle.std.proofs.Common.{◌≡◌, length, subst, arith}
use Rattle.vc_live.specs.Sets.{contains}
use Rattle.vc_live.proofs.Solved.{none_solved, one_solved, closed_of, SolvedTo, targets_of}
use Rattle.vc_live.proofs.solve.solve.Goals as goal

pub loop-word-init : goal.loop-word-init
loop-word-init c = none_solved (length c.args.flow.now.constants) c.args.code.now
    (contains c.args.flow.now.constants) c.args.flow.now.stops c.in_ok-entries.entries.items
    c.in_ok-entries.ensures

pub spread-requires-clause-shape : goal.spread-requires-clause-shape
spread-requires-clause-shape c = c.loop-word.invariant.shape

pub loop-word-preserved : goal.loop-word-preserved
loop-word-preserved c = one_solved (length c.args.flow.now.constants) c.args.code.now
    (contains c.args.flow.now.constants) c.args.flow.now.stops c.loop-word.entries.items
    c.spread.new.entries.items c.loop-word.word c.loop-word.invariant
    c.in_ok-spread.ensures.spread c.in_ok-spread.ensures.passed

pub returns-clause-closed : goal.returns-clause-closed
returns-clause-closed c =
    let n = length c.args.flow.now.constants in
    let last : c.loop-word.word ≡ n = omega arith in
    closed_of n c.args.code.now (contains c.args.flow.now.constants) c.args.flow.now.stops
    c.loop-word.entries.items c.requires.flow.stops (targets_of c.args.code.now n
    c.requires.flow.range)
    (subst (SolvedTo n c.args.code.now (contains c.args.flow.now.constants)
    c.args.flow.now.stops c.loop-word.entries.items) last c.loop-word.invariant)
