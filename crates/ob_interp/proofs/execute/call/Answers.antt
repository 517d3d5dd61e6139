use Rattle.std.proofs.Common.{◌≡◌, ◌≤◌, ◌+◌, false, sym, ap, ◌∙◌, length, arith, Ok}
use Rattle.std.specs.Prelude.{nat_lt}
use Rattle.pra_base.specs.Words.{stack_limit}
use Rattle.ob_mean.specs.Program.{live_frames, frame_of}
use Rattle.ob_interp.specs.Running.{counted_of}
use Rattle.ob_interp.proofs.Remaining.{called-goes, entered-counted}
use Rattle.ob_interp.proofs.execute.call.Goals as goal

pub returns-clause-goes : goal.returns-clause-goes
returns-clause-goes c =
    let p = c.args.setting.now.program.now in
    let frames = c.args.setting.now.frames.now in
    let input = c.args.setting.now.input.now in
    let calls = c.args.running.now.calls.items in
    let s = counted_of input c.args.running.now in
    let few : length calls ≤ c.args.setting.now.granted = omega (
      arith,
      c.requires.begun,
      c.requires.running.units,
    ) in
    let low : nat_lt stack_limit (live_frames frames calls + frame_of frames c.args.proc)
    ≡ false = sym c.passes.ensures ∙ c.if-passes.false in
    let given = rw c.in-Ok.is at c.in_ok-given.ensures in
    let e = c.in_ok-begin.ensures in
    called-goes p frames c.args.setting.now.granted calls c.begin.new.running.calls.items
    c.args.proc c.args.args c.deref.result.now c.body_of.result s (counted_of input
    c.begin.new.running)
    c.args.tasks.now.items c.push_front.new.self.items c.push_front-2.new.self.items
    few low (entered-counted input c.args.running.now c.begin.new.running (length calls + 1)
    c.deref.result.now e.store e.events e.taken e.units) e.calls (ap Ok c.deref.ensures.value
    ∙ given) c.body_of.ensures c.in_ok-push_front.ensures.items
    c.in_ok-push_front-2.ensures.items
