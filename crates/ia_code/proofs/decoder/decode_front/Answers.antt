use Rattle.std.proofs.Common.{arith}
use Rattle.ia_code.proofs.ReadingIsTable.{rest_short, is_row, no_row, only_row}
use Rattle.ia_code.proofs.decoder.decode_front.Goals as goal

pub overflow_sub-result : goal.overflow_sub-result
overflow_sub-result c = rest_short c.args.bytes.now c.in-Some.i c.in-Some.after.now
    (λ k. omega (arith, c.type_inv.bytes k)) c.in-Some.ensures

pub returns-in-None-clause-only : goal.returns-in-None-clause-only
returns-in-None-clause-only c = λ i n r. absurd (no_row c.args.bytes.now c.in-None.ensures i n r)

pub returns-in-Some-clause-found : goal.returns-in-Some-clause-found
returns-in-Some-clause-found c = is_row c.args.bytes.now c.in-Some.i c.in-Some.after.now
    (λ k. omega (arith, c.type_inv.bytes k)) c.in-Some.ensures

pub returns-in-Some-clause-only : goal.returns-in-Some-clause-only
returns-in-Some-clause-only c = λ i n r. let p =
    only_row c.args.bytes.now c.in-Some.i c.in-Some.after.now c.in-Some.ensures i n r in cc
