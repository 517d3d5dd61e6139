use Rattle.std.proofs.Common.{◌≡◌, ◌∙◌, ap, false, nat_eq, nat_le, arith}
use Rattle.std.proofs.lemmas.Bool.Decides.{nat_tests}
use Rattle.vc_code.specs.Selected.{shape}
use Rattle.vc_run.specs.Calls.{call_of}
use Rattle.vc_run.proofs.FoundCalls.{below_here, none_here}
use Rattle.vc_run.proofs.machine.Execution.has_below.Goals as goal

pub returns-then-n-len : goal.returns-then-n-len
returns-then-n-len c procs =
    let m = c.args.self.now in
    ap (nat_eq c.args.below) (c.under.ensures procs)
    ∙ below_here (shape procs m.below.frames) m.below.calls (call_of m.top) c.args.n c.args.below
    (omega (arith, c.if-n-len.true, c.len.ensures))

pub returns-else-n-len : goal.returns-else-n-len
returns-else-n-len c procs =
    let m = c.args.self.now in
    let no_call : nat_le c.args.n c.len.result ≡ false = grind (arith, nat_tests) in
    no_call
    ∙ none_here (shape procs m.below.frames) m.below.calls (call_of m.top) c.args.n c.args.below
    (omega (arith, c.if-n-len.false, c.len.ensures))
