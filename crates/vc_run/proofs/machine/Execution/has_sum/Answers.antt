use Rattle.std.proofs.Common.{◌+◌, ◌∙◌, ap, nat_eq, slice_index_or}
use Rattle.vc_code.specs.Selected.{shape}
use Rattle.vc_run.specs.Calls.{call_of}
use Rattle.vc_run.proofs.FoundCalls.{sum_here}
use Rattle.vc_run.proofs.machine.Execution.has_sum.Goals as goal

pub returns-in_ok-bytes-in-Some : goal.returns-in_ok-bytes-in-Some
returns-in_ok-bytes-in-Some c procs =
    let m = c.args.self.now in
    let bytes = c.in_ok-bytes-in-Some.ensures
    ∙ ap (λ b. b + c.under.result) c.frame.ensures
    ∙ ap (λ b. slice_index_or m.below.frames c.in-Some.call.now.proc.0 0 + b)
    (c.under.ensures procs) in
    ap (nat_eq c.args.sum) bytes
    ∙ sum_here (shape procs m.below.frames) m.below.calls (call_of m.top) c.args.n c.args.sum
    (call_of c.in-Some.call.now) c.in-Some.ensures
