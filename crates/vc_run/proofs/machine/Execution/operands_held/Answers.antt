use Rattle.std.proofs.Common.{◌≡◌, ◌∙◌, ap, sym, List, map, arith}
use Rattle.std.proofs.lemmas.List.{take_all}
use Rattle.pra_base.specs.Code.{kind_of}
use Rattle.pra_base.specs.Operands as base
use Rattle.vc_code.specs.declared.row.Role.{Role}
use Rattle.vc_code.specs.Rows.{role_of}
use Rattle.vc_code.specs.Selected.{read}
use Rattle.vc_run.proofs.CallLists.{map-map}
use Rattle.vc_run.proofs.machine.Execution.operands_held.Goals as goal

pub returns : goal.returns
returns c =
    let held_of = read (kind_of c.args.code.now) c.args.self.now.top.held.items in
    let roles : List Role = c.operands-row.result.reads.items in
    let i = c.args.i.now in
    let vars : map (λ (r : Role). r.var.0) roles ≡ base.read_by i =
    sym (map-map role_of (λ (r : base.Role). r.var) roles)
    ∙ ap (λ (r : base.Row). map (λ (role : base.Role). role.var) r.reads) c.operands-row.ensures
    ∙ map-map (base.settled (base.table i)) (λ (r : base.Role). r.var) (base.table i).reads in
    c.loop-role.invariant
    ∙ ap (map (λ (r : Role). held_of r.var.0)) (take_all c.loop-role.role-index
    c.as_slice-role-items.result.now (omega (arith, c.loop-role-test.false))
    ∙ c.as_slice-role-items.ensures.value)
    ∙ sym (map-map (λ (r : Role). r.var.0) held_of roles) ∙ ap (map held_of) vars
