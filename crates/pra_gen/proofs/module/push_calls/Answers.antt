use Rattle.std.proofs.Common.{string_bytes}
use Rattle.pra_gen.specs.Module.{call_line}
use Rattle.pra_gen.proofs.Rows.{none_yet, one_more}
use Rattle.pra_gen.proofs.module.push_calls.Goals as goal

pub loop-number-init : goal.loop-number-init
loop-number-init c = none_yet (string_bytes c.args.text.now) call_line

pub loop-number-preserved : goal.loop-number-preserved
loop-number-preserved c =
    one_more (string_bytes c.args.text.now) (string_bytes c.loop-number.text)
    (string_bytes c.push_call.new.text) call_line
    c.loop-number.number c.loop-number.invariant c.in_ok-push_call.ensures
