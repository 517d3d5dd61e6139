use Rattle.std.proofs.Common.{◌≡◌, ◌∙◌, true, false, get_or, sym, arith}
use Rattle.pra_list.proofs.Truths.{true_false}
use Rattle.pra_base.specs.Operands.{reads, only_writes}
use Rattle.vc_live.proofs.Steps.{no_role, named_at}
use Rattle.vc_live.proofs.SizedLemmas.{one_more_read, of_each, granted, refused}
use Rattle.vc_valid.proofs.Roles.{of_roles}
use Rattle.vc_valid.proofs.instructions.are_apart.Goals.{else-is_only_written-via-then-is_only_written+else-reads}
use Rattle.vc_valid.proofs.instructions.are_apart.Goals.{else-is_only_written-via-else-is_only_written}
use Rattle.vc_valid.proofs.instructions.are_apart.Goals as goal

pub returns-then-reads : goal.returns-then-reads
returns-then-reads c = refused (λ apart.
    let roles = c.args.roles.now in
    let k = c.loop-role.role-index in
    true_false (reads c.args.instr.now (get_or roles k no_role).var.0)
    (sym c.reads.ensures ∙ c.if-reads.true)
    (apart (get_or roles k no_role).var.0 (named_at roles k no_role c.loop-role-test.true)
    (sym c.is_only_written.ensures ∙ c.if-is_only_written.true)))

pub loop-role-preserved : goal.loop-role-preserved
loop-role-preserved c =
    let i = c.args.instr.now in
    let roles = c.args.roles.now in
    let k = c.loop-role.role-index in
    one_more_read (λ r. only_writes i r.var.0 ≡ true → reads i r.var.0 ≡ false) roles k no_role
    c.loop-role.invariant c.loop-role-test.true
    (elim c.else-is_only_written.branch [
      | else-is_only_written-via-then-is_only_written+else-reads w ↦ λ only. sym w.reads.ensures
          ∙ w.if-reads.false
      | else-is_only_written-via-else-is_only_written w ↦
          λ only. absurd (true_false (only_writes i (get_or roles k no_role).var.0) only
          (sym c.is_only_written.ensures ∙ w.if-is_only_written.false))
    ])

pub returns : goal.returns
returns c =
    let i = c.args.instr.now in
    granted (of_roles (λ v. only_writes i v ≡ true → reads i v ≡ false) c.args.roles.now
    (of_each (λ r. only_writes i r.var.0 ≡ true → reads i r.var.0 ≡ false) c.args.roles.now
    c.loop-role.role-index c.loop-role.invariant (omega arith)))
