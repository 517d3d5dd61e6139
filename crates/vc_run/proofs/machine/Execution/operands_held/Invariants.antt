use Rattle.std.proofs.Common.{◌≡◌, map, take}
use Rattle.pra_base.specs.Code.{kind_of}
use Rattle.vc_code.specs.Selected.{read}
use Rattle.vc_run.proofs.machine.Execution.operands_held.Given as goal

-- what the operands before this one hold
abbrev pub invariant-loop-role : goal.invariant-loop-role
invariant-loop-role l = l.held.items ≡
    map (λ r. read (kind_of l.code) l.self.top.held.items r.var.0) (take l.role-index l.role-items)
