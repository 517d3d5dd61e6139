use Rattle.std.proofs.Common.{◌≡◌, ◌+◌, ◌≤◌, length, ap, ◌∙◌, arith}
use Rattle.ia_sketch.proofs.Adding.{one_more}
use Rattle.pl_routed.specs.Routed.{routed}
use Rattle.pra_base.specs.Valid.{instruction_count as count_of}
use Rattle.ia_sketch.proofs.module.PlacedModule.put.Goals as goal

pub invariant_of-self-2 : goal.invariant_of-self-2
invariant_of-self-2 c =
    let code = c.args.code.now in
    let old = c.self.inside in
    let count : c.instructions_of.result ≡ count_of code.blocks = c.instructions_of.ensures
    ∙ ap count_of c.as_slice.ensures in
    let few : old.instructions + count_of code.blocks ≤ 262401 =
    omega (arith, count, c.if-instructions-gt-MAX_INSTRUCTIONS.false) in
    let some : old.blocks + length code.blocks ≤ 131586 =
    omega (arith, c.len.ensures, c.if-blocks-gt-MAX_BLOCKS.false) in
    let made = c.in_ok-proc.ensures in
    let all = one_more old.procs.items old.instructions old.blocks
    (routed code c.args.net.now c.args.routes.now) c.in_ok-proc.proc c.self.invariant
    made.behind
    (made.placed c.requires.valid) c.requires.sized few some in
    rw (c.in_ok-push.ensures.items, count, c.len.ensures) all
