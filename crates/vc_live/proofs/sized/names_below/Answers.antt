use Rattle.vc_live.proofs.SizedLemmas.{names_both, names_reads, names_writes}
use Rattle.vc_live.proofs.sized.names_below.Goals as goal

pub returns-then-roles_below : goal.returns-then-roles_below
returns-then-roles_below c = (
  λ yes. names_both c.operands-row.result c.args.instr.now c.args.count c.operands-row.ensures
      (rw (← c.as_slice.ensures.value) (c.roles_below.ensures.0 c.if-roles_below.true))
      (rw (← c.as_slice-then-roles_below.ensures.value)
      (c.roles_below-then-roles_below.ensures.0 yes)),
  λ below. c.roles_below-then-roles_below.ensures.1
      (rw c.as_slice-then-roles_below.ensures.value
      (names_writes c.operands-row.result c.args.instr.now c.args.count c.operands-row.ensures
      below)),
)

pub returns-else-roles_below : goal.returns-else-roles_below
returns-else-roles_below c = (
  λ yes. absurd (let no = c.if-roles_below.false in cc),
  λ below. c.roles_below.ensures.1
      (rw c.as_slice.ensures.value
      (names_reads c.operands-row.result c.args.instr.now c.args.count c.operands-row.ensures
      below)),
)
