use Rattle.std.proofs.Common.{◌≡◌, ◌∙◌, ap, List, map, Some}
use Rattle.pra_base.specs.Code.{kind_of}
use Rattle.pra_base.specs.Operands.{read_by, written_by}
use Rattle.vc_code.specs.Value.{Held}
use Rattle.vc_code.specs.Operation.{operate}
use Rattle.vc_code.specs.Machine.{here}
use Rattle.vc_code.specs.Selected.{read, shape, selected}
use Rattle.vc_code.specs.Stands.{call_of, state_of, listed}
use Rattle.vc_code.proofs.Performed.{performed}
use Rattle.vc_code.proofs.machine.Execution.perform.Goals as goal

pub returns-in-Some : goal.returns-in-Some
returns-in-Some c =
    let m = selected c.args.program.now.code.now.procs c.args.program.now.frames.now in
    let s = state_of c.args.self.now in
    let held : List Held = map (read (kind_of c.args.code.now) c.args.self.now.top.held.items)
    (read_by c.args.i) in
    let action : Some c.in-Some.action ≡
    operate (here (shape c.args.program.now.code.now.procs c.args.program.now.frames.now) s)
    c.args.i held =
    c.in-Some.ensures ∙ ap (λ h. operate h c.args.i held) c.in_ok-here.ensures in
    performed m s (state_of c.apply.new.self) c.apply.result (call_of c.args.self.now.top)
    (listed c.targets.result) (written_by c.args.i) (Some c.in-Some.action) _ c.targets.ensures
    action c.apply.ensures
