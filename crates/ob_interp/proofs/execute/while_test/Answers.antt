use Rattle.std.proofs.Common.{◌≡◌, true, sym, ◌∙◌}
use Rattle.ob_syntax.specs.Operators.{is_true}
use Rattle.ob_interp.specs.Running.{counted_of}
use Rattle.ob_interp.proofs.Remaining.{turned}
use Rattle.ob_interp.proofs.execute.while_test.Goals as goal

pub returns-in_ok-push_front-in-Ok-2 : goal.returns-in_ok-push_front-in-Ok-2
returns-in_ok-push_front-in-Ok-2 c =
    let p = c.args.setting.now.program.now in
    let s = counted_of c.args.setting.now.input.now c.args.running.now in
    let v = rw c.in-Ok.is at c.in_ok-x.ensures in
    let yes : is_true c.in-Ok.x ≡ true = sym c.is_true.ensures ∙ c.if-is_true.true in
    let pushed = c.in_ok-push_front-in-Ok.ensures.items in
    let again = c.in_ok-push_front-in-Ok-2.ensures.items in
    turned p c.args.setting.now.frames.now c.args.setting.now.granted
    c.args.running.now.calls.items s c.args.test c.args.body c.in-Ok.x c.args.tasks.now.items _
    _ v yes pushed again
