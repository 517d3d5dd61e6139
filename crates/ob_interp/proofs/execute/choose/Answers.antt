use Rattle.std.proofs.Common.{◌≡◌, ◌≤◌, true, false, map, length, sym, ap, ◌∙◌, arith}
use Rattle.std.proofs.Common.{drop_of_length-le, Ok, Err, ◌∷◌}
use Rattle.ob_syntax.specs.Operators.{is_true}
use Rattle.ob_interp.specs.Units.{then_go, first_true, counted, counted_arm, counted_all}
use Rattle.ob_interp.specs.Running.{around, counted_of, goes_on}
use Rattle.ob_interp.specs.declared.task.Task.TheVariants as task
use Rattle.ob_interp.proofs.Remaining.{next-item, arm-step, others-are}
use Rattle.ob_interp.proofs.execute.choose.Goals as goal

pub returns-then-is_true : goal.returns-then-is_true
returns-then-is_true c =
    let p = c.args.setting.now.program.now in
    let a = around c.args.setting.now c.args.running.now in
    let s = counted_of c.args.setting.now.input.now c.args.running.now in
    let rest = goes_on p c.args.setting.now.frames.now c.args.setting.now.granted
    c.args.tasks.now.items c.args.running.now.calls.items in
    let item = next-item c.args.arms.now c.loop-arm.arm-index c.arm-item.result
    c.loop-arm-test.true c.arm-item.is in
    let v = rw c.in-Ok.is at c.in_ok-x.ensures in
    let yes : is_true c.in-Ok.x ≡ true = sym c.is_true.ensures ∙ c.if-is_true.true in
    let step = arm-step p _ _ c.arm-item.result (map (counted p) c.args.other.now)
    a s (Ok c.in-Ok.x) item v in
    let done : counted_all p c.arm-item.result.body a s ≡ first_true (map (counted_arm p)
    c.args.arms.now) (map (counted p) c.args.other.now) a s =
    (rw yes at step) ∙ c.loop-arm.invariant.goes in
    let pushed : c.push_front.new.self.items
    ≡ task.Statements c.as_slice.result ∷ c.args.tasks.now.items =
    c.in_ok-push_front-in-Ok.ensures.items ∙ ap (λ ts. task.Statements c.as_slice.result ∷ ts)
    c.loop-arm.invariant.tasks in
    ap (λ ts. goes_on p c.args.setting.now.frames.now c.args.setting.now.granted ts
    c.args.running.now.calls.items s) pushed
    ∙ ap (λ ts. then_go (counted_all p ts a s) rest) c.as_slice.ensures
    ∙ ap (λ h. then_go h rest) done

pub returns-in-Err : goal.returns-in-Err
returns-in-Err c =
    let p = c.args.setting.now.program.now in
    let a = around c.args.setting.now c.args.running.now in
    let s = counted_of c.args.setting.now.input.now c.args.running.now in
    let rest = goes_on p c.args.setting.now.frames.now c.args.setting.now.granted
    c.args.tasks.now.items c.args.running.now.calls.items in
    let item = next-item c.args.arms.now c.loop-arm.arm-index c.arm-item.result
    c.loop-arm-test.true c.arm-item.is in
    let v = rw c.in-Err.is at c.in_ok-x.ensures in
    let step = arm-step p _ _ c.arm-item.result (map (counted p) c.args.other.now)
    a s (Err c.in-Err.trap) item v in
    ap (λ h. then_go h rest) (step ∙ c.loop-arm.invariant.goes)

pub loop-arm-preserved : goal.loop-arm-preserved
loop-arm-preserved c =
    let p = c.args.setting.now.program.now in
    let a = around c.args.setting.now c.args.running.now in
    let s = counted_of c.args.setting.now.input.now c.args.running.now in
    let item = next-item c.args.arms.now c.loop-arm.arm-index c.arm-item.result
    c.loop-arm-test.true c.arm-item.is in
    let v = rw c.in-Ok.is at c.in_ok-x.ensures in
    let no : is_true c.in-Ok.x ≡ false = sym c.is_true.ensures ∙ c.if-is_true.false in
    let step = arm-step p _ _ c.arm-item.result (map (counted p) c.args.other.now)
    a s (Ok c.in-Ok.x) item v in
    record {
      goes = (rw no at step)
          ∙ c.loop-arm.invariant.goes;
      tasks = c.loop-arm.invariant.tasks;
    }

pub returns : goal.returns
returns c =
    let p = c.args.setting.now.program.now in
    let a = around c.args.setting.now c.args.running.now in
    let s = counted_of c.args.setting.now.input.now c.args.running.now in
    let past : length c.args.arms.now ≤ c.loop-arm.arm-index = omega arith in
    let all = drop_of_length-le c.args.arms.now past in
    let done : counted_all p c.args.other.now a s ≡ first_true (map (counted_arm p) c.args.arms.now)
    (map (counted p) c.args.other.now) a s =
    sym (others-are p c.args.other.now a s) ∙ ap (λ arms. first_true (map (counted_arm p) arms)
    (map (counted p) c.args.other.now) a s) (sym all) ∙ c.loop-arm.invariant.goes in
    let rest = goes_on p c.args.setting.now.frames.now c.args.setting.now.granted
    c.args.tasks.now.items c.args.running.now.calls.items in
    let pushed : c.push_front-2.new.self.items
    ≡ task.Statements c.args.other ∷ c.args.tasks.now.items = c.in_ok-push_front.ensures.items
    ∙ ap (λ ts. task.Statements c.args.other ∷ ts) c.loop-arm.invariant.tasks in
    ap (λ ts. goes_on p c.args.setting.now.frames.now c.args.setting.now.granted ts
    c.args.running.now.calls.items s) pushed
    ∙ ap (λ h. then_go h rest) done
