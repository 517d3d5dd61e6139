use Rattle.std.proofs.Common.{◌≡◌, take}
use Rattle.vc_code.specs.Machine.{depth}
use Rattle.vc_code.specs.Selected.{shape}
use Rattle.vc_code.specs.Stands.{calls_of}
use Rattle.vc_code.proofs.machine.addresses.bytes_of.Given as goal

abbrev pub invariant-loop-call : goal.invariant-loop-call
invariant-loop-call l = l.bytes ≡ depth (shape l.program.code.now.procs l.program.frames.now)
    (calls_of (take l.call-index l.calls))
