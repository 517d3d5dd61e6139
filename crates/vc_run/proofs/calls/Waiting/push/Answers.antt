use Rattle.std.proofs.Common.{◌≡◌, ◌+◌, ◌∙◌, ap, sym, refl, slice_index_or}
use Rattle.vc_run.specs.declared.live.LiveCall.{LiveCall}
use Rattle.vc_run.specs.Calls.{Below}
use Rattle.vc_run.proofs.SummedCalls.{summed-push}
use Rattle.vc_run.proofs.calls.Waiting.push.Goals as goal

pub invariant_of-self-2 : goal.invariant_of-self-2
invariant_of-self-2 c =
    let old = c.self.inside in
    let call : LiveCall = record c.args.call { under = old.bytes } in
    let frames = ap (λ (b : Below). b.frames) c.self.view_is in
    let more : c.in_ok-bytes.bytes ≡ slice_index_or old.frames.items call.proc.0 0 + old.bytes =
    c.in_ok-bytes.ensures
    ∙ ap (λ b. b + old.bytes) (c.frame.ensures
    ∙ ap (λ fs. slice_index_or fs call.proc.0 0) (sym frames)) in
    rw (c.in_ok-push.ensures.items)
    (summed-push old.frames.items old.calls.items old.bytes c.self.invariant call refl
    c.in_ok-bytes.bytes more)
