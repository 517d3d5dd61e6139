use Rattle.std.proofs.Common.{Some}
use Rattle.vc_code.specs.Selected.{selected}
use Rattle.vc_run.specs.Procs.{procs_of}
use Rattle.vc_run.specs.Stands.{state_of, whole_of}
use Rattle.vc_run.proofs.Performed.{acted}
use Rattle.vc_run.proofs.machine.Execution.act.Goals as goal

pub returns-in-Some : goal.returns-in-Some
returns-in-Some c =
    let m = c.args.self.now in
    acted (selected (procs_of c.args.program.now.codes.now) m.below.frames) (state_of m)
    (whole_of m) (whole_of c.perform.new.self) c.perform.result c.args.code.now _
    (Some c.in-Some.i) c.in-Some.ensures.value c.requires c.perform.ensures
