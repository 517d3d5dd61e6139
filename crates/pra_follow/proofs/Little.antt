-- How much code the procedures of a short module have.
use Rattle.std.proofs.Common.{◌+◌, ◌*◌, ◌≤◌, arith}
use Rattle.std.specs.List.{sum_by}
use Rattle.ob_syntax.specs.declared.checked.Checked.{Checked}
use Rattle.ob_syntax.specs.declared.checked.CheckedProc.{CheckedProc}
use Rattle.vc_typed.specs.TypedModules.{scalar_locals, IsLimited}
use Rattle.vc_checked.specs.Short.{IsShort}
use Rattle.pra_follow.proofs.Sums.{sum_below}

pub few_instructions : (program : Checked) → IsLimited program → IsShort program →
    sum_by (λ (proc : CheckedProc). 4 * proc.nodes + scalar_locals proc + 1) program.procs ≤ 262401
few_instructions program limited short =
    let count = limited.count in
    let all = sum_below (λ (proc : CheckedProc). 4 * proc.nodes + scalar_locals proc + 1)
    (λ (proc : CheckedProc). proc.nodes + scalar_locals proc) 4 1 (λ proc. omega arith)
    program.procs in
    omega (arith, count, all, short)

pub few_blocks : (program : Checked) → IsLimited program → IsShort program →
    sum_by (λ (proc : CheckedProc). 2 * proc.nodes + 2) program.procs ≤ 131586
few_blocks program limited short =
    let count = limited.count in
    let all = sum_below (λ (proc : CheckedProc). 2 * proc.nodes + 2)
    (λ (proc : CheckedProc). proc.nodes + scalar_locals proc) 2 2 (λ proc. omega arith)
    program.procs in
    omega (arith, count, all, short)
