use Rattle.std.proofs.Common.{◌≢◌, ◌∙◌, length, ◌∷◌, ap, sym, reverse}
use Rattle.vc_code.specs.Machine.{with_calls, with_aggregate}
use Rattle.vc_code.specs.Numbered.{changed_at}
use Rattle.vc_run.specs.Calls.{Below, call_of}
use Rattle.vc_run.specs.Stands.{changed, state_of, whole_of}
use Rattle.vc_run.proofs.WrittenCalls.{top_put, below_put, as_calls}
use Rattle.vc_run.proofs.machine.Execution.set_aggregate.Goals as goal

pub returns-then-n-len : goal.returns-then-n-len
returns-then-n-len c =
    let m = c.args.self.now in
    let s = state_of m in
    let last = c.if-n-len.true ∙ c.len.ensures in
    ap (λ t. changed (whole_of m) (with_calls s (t ∷ reverse m.below.calls))) c.set_aggregate.ensures.value
    ∙ ap (changed (whole_of m)) (as_calls s m.below.calls (with_aggregate (call_of m.top) c.args.at c.args.h))
    ∙ ap (λ calls. changed (whole_of m) (with_calls s (reverse calls)))
    (sym (top_put m.below.calls (call_of m.top) (λ a. with_aggregate a c.args.at c.args.h) c.args.n last))

pub returns-else-n-len : goal.returns-else-n-len
returns-else-n-len c =
    let m = c.args.self.now in
    let s = state_of m in
    let calls = changed_at m.below.calls c.args.n (λ a. with_aggregate a c.args.at c.args.h) in
    let other : c.args.n ≢ length m.below.calls = λ same. c.if-n-len.false (same ∙ sym c.len.ensures) in
    ap (λ (b : Below). record {
      frames = b.frames;
      state = with_calls s (call_of m.top ∷ reverse b.calls);
    }) c.set_aggregate-else-n-len.ensures
    ∙ ap (changed (whole_of m)) (as_calls s calls (call_of m.top))
    ∙ ap (λ calls. changed (whole_of m) (with_calls s (reverse calls)))
    (sym (below_put m.below.calls (call_of m.top) (λ a. with_aggregate a c.args.at c.args.h) c.args.n other))
