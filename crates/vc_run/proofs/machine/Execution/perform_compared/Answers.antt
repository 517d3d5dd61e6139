use Rattle.std.proofs.Common.{sym, Some, []}
use Rattle.pra_base.specs.Operands.{read_by, written_by}
use Rattle.vc_code.specs.declared.action.Action.TheVariants.{Compare}
use Rattle.vc_code.specs.Operation.{operate}
use Rattle.vc_code.specs.Machine.{here}
use Rattle.vc_code.specs.Selected.{shape, selected}
use Rattle.vc_run.specs.Calls.{call_of}
use Rattle.vc_run.specs.Procs.{procs_of}
use Rattle.vc_run.specs.Quick.{Compares}
use Rattle.vc_run.specs.Stands.{held_in, state_of, whole_of}
use Rattle.vc_run.proofs.Performed.{performed}
use Rattle.vc_run.proofs.machine.Execution.perform_compared.Goals as goal

pub returns-in-Some : goal.returns-in-Some
returns-in-Some c =
    let m = c.args.self.now in
    let s = state_of m in
    let procs = procs_of c.args.program.now.codes.now in
    let frames = m.below.frames in
    let i = c.args.i in
    let held = held_in m c.args.code.now (read_by i) in
    let facts : Compares i c.in-Some.a c.in-Some.b held = c.in-Some.ensures in
    performed (selected procs frames) s (whole_of m) (whole_of c.compare.new.self) c.compare.result
    (call_of m.top) [] (written_by i) (Some (Compare c.in-Some.a c.in-Some.b))
    (operate (here (shape procs frames) s) i held) (sym facts.0)
    (sym (facts.1 (here (shape procs frames) s))) c.compare.ensures
