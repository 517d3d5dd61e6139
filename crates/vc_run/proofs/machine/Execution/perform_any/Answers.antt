use Rattle.std.proofs.Common.{◌≡◌, ◌∙◌, ap, List, map, Some}
use Rattle.pra_base.specs.Code.{kind_of}
use Rattle.pra_base.specs.Operands.{read_by, written_by}
use Rattle.vc_code.specs.Value.{Held}
use Rattle.vc_code.specs.Operation.{operate}
use Rattle.vc_code.specs.Machine.{here}
use Rattle.vc_code.specs.Selected.{read, shape, selected}
use Rattle.vc_run.specs.Calls.{call_of, listed}
use Rattle.vc_run.specs.Procs.{procs_of}
use Rattle.vc_run.specs.Stands.{state_of, whole_of}
use Rattle.vc_run.proofs.Performed.{performed}
use Rattle.vc_run.proofs.machine.Execution.perform_any.Goals as goal

pub returns-in-Some : goal.returns-in-Some
returns-in-Some c =
    let procs = procs_of c.args.program.now.codes.now in
    let frames = c.args.self.now.below.frames in
    let m = selected procs frames in
    let s = state_of c.args.self.now in
    let held : List Held = map (read (kind_of c.args.code.now) c.args.self.now.top.held.items)
    (read_by c.args.i) in
    let action : Some c.in-Some.action ≡
    operate (here (shape procs frames) s)
    c.args.i held =
    c.in-Some.ensures ∙ ap (λ h. operate h c.args.i held) (c.in_ok-here.ensures procs) in
    performed m s (whole_of c.args.self.now) (whole_of c.apply.new.self) c.apply.result (call_of c.args.self.now.top)
    (listed c.targets.result) (written_by c.args.i) (Some c.in-Some.action) _ c.targets.ensures
    action c.apply.ensures
