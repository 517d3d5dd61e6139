use Rattle.std.proofs.Common.{◌≡◌, ◌∷◌, sym, ap, ◌∙◌}
use Rattle.ob_interp.specs.Units.{then_go}
use Rattle.ob_interp.specs.declared.task.Task.TheVariants as task
use Rattle.ob_interp.specs.declared.task.First.TheVariants as first
use Rattle.ob_interp.specs.Running.{around, counted_of, goes_on, leads}
use Rattle.ob_interp.proofs.Remaining.{at_head, repeated}
use Rattle.ob_interp.proofs.execute.next_due.Goals as goal

pub returns-in-Due-clause-goes : goal.returns-in-Due-clause-goes
returns-in-Due-clause-goes c =
    let p = c.args.setting.now.program.now in
    let frames = c.args.setting.now.frames.now in
    let k = c.args.setting.now.granted in
    let calls = c.loop-task.running.calls.items in
    let s = counted_of c.args.setting.now.input.now c.loop-task.running in
    let rest = goes_on p frames k c.pop_front.new.self.items calls in
    let popped : c.loop-task.tasks.items
    ≡ task.Statements c.in-Statements.all ∷ c.pop_front.new.self.items =
    c.in-Some.ensures.items ∙ ap (λ t. t ∷ c.pop_front.new.self.items) c.in-Statements.is in
    let led = c.first_of.ensures.leads p frames k calls s
    ∙ ap (λ f. leads p f (around c.args.setting.now c.loop-task.running) s) c.in-Due.is in
    ap (λ ts. then_go (leads p (first.Due c.in-Due.due) (around c.args.setting.now
    c.loop-task.running) s) (goes_on p frames k ts calls))
    c.in_ok-push_front-in-Statements.ensures.items
    ∙ at_head p frames k calls s c.in-Statements.all.now c.in-Some-parted.more.now
    c.in-Some-parted.first.now rest (first.Due c.in-Due.due) c.in-Some-parted.ensures led
    ∙ ap (λ ts. goes_on p frames k ts calls s) (sym popped)
    ∙ c.loop-task.invariant.goes

pub loop-task-preserved-in-Continue-branch-3 : goal.loop-task-preserved-in-Continue-branch-3
loop-task-preserved-in-Continue-branch-3 c =
    let p = c.args.setting.now.program.now in
    let frames = c.args.setting.now.frames.now in
    let k = c.args.setting.now.granted in
    let calls = c.loop-task.running.calls.items in
    let s = counted_of c.args.setting.now.input.now c.loop-task.running in
    let rest = goes_on p frames k c.pop_front.new.self.items calls in
    let popped : c.loop-task.tasks.items
    ≡ task.Statements c.in-Statements.all ∷ c.pop_front.new.self.items =
    c.in-Some.ensures.items ∙ ap (λ t. t ∷ c.pop_front.new.self.items) c.in-Statements.is in
    let led = c.first_of.ensures.leads p frames k calls s
    ∙ ap (λ f. leads p f (around c.args.setting.now c.loop-task.running) s) c.in-Repeat.is in
    let pushed = c.in_ok-push_front-in-Repeat-2.ensures.items
    ∙ ap (λ ts. task.Statements c.in-Repeat.body ∷ ts)
    (c.in_ok-push_front-in-Repeat.ensures.items
    ∙ ap (λ ts. task.Until c.in-Repeat.body c.in-Repeat.test ∷ ts)
    c.in_ok-push_front-in-Statements.ensures.items) in
    record {
      running = c.loop-task.invariant.running;
      units = c.loop-task.invariant.units;
      goes = ap (λ ts. goes_on p frames k ts calls s) pushed
          ∙ repeated p frames k calls s c.in-Repeat.body c.in-Repeat.test (goes_on p frames k
          (task.Statements c.in-Some-parted.more ∷ c.pop_front.new.self.items) calls)
          ∙ at_head p frames k calls s c.in-Statements.all.now c.in-Some-parted.more.now
          c.in-Some-parted.first.now rest (first.Repeat c.in-Repeat.body c.in-Repeat.test)
          c.in-Some-parted.ensures led
          ∙ ap (λ ts. goes_on p frames k ts calls s) (sym popped)
          ∙ c.loop-task.invariant.goes;
    }
