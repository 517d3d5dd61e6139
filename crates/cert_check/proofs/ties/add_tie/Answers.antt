use Rattle.std.proofs.Common.{◌≡◌, subst, arith}
use Rattle.cert_check.specs.Tolls.{HasAdded}
use Rattle.cert_check.proofs.TieSums.{sums_within}
use Rattle.cert_check.proofs.ties.add_tie.Goals as goal

pub returns-clause-within : goal.returns-clause-within
returns-clause-within c =
    let old = c.args.sums.now in
    let numbers = c.args.numbers.now in
    let e : c.loop-slot.slot ≡ 13 = omega arith in
    sums_within old numbers c.loop-slot.sums c.args.strand c.args.tie
    (subst (λ n. HasAdded old numbers c.args.strand c.args.tie n c.loop-slot.sums) e
    c.loop-slot.invariant.added) c.requires.sums c.requires.numbers
