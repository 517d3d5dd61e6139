use Rattle.std.proofs.Common.{◌≡◌, ◌∙◌, ap, Some, slice_get}
use Rattle.std.proofs.lemmas.Option.{slice_get_read}
use Rattle.vc_code.specs.Machine.{Activation, with_argument}
use Rattle.vc_code.specs.Selected.{Vars}
use Rattle.vc_run.specs.Calls.{below_of, with_waiting}
use Rattle.vc_run.proofs.SummedCalls.{summed-set, put_at}
use Rattle.vc_run.proofs.calls.Waiting.set_argument.Goals as goal

pub invariant_of-self : goal.invariant_of-self
invariant_of-self c =
    let old = c.self.inside in
    let there : slice_get old.calls.items c.args.n ≡ Some c.index_mut.result.now =
    slice_get_read old.calls.items c.len.result c.args.n c.index_mut.result.now
    (c.len.ensures ∙ old.calls.ok.0) c.if-n-len.true c.index_mut.ensures.value in
    summed-set old.frames.items old.calls.items old.bytes c.self.invariant c.args.n
    c.index_mut.result.now c.set_argument.new.self there
    (ap (λ (a : Activation Vars). a.proc) c.set_argument.ensures.value) c.set_argument.ensures.kept

pub returns-then-n-len : goal.returns-then-n-len
returns-then-n-len c =
    let old = c.self.inside in
    let there : slice_get old.calls.items c.args.n ≡ Some c.index_mut.result.now =
    slice_get_read old.calls.items c.len.result c.args.n c.index_mut.result.now
    (c.len.ensures ∙ old.calls.ok.0) c.if-n-len.true c.index_mut.ensures.value in
    rw (← c.self.view_is)
    (ap (with_waiting (below_of old.frames.items old.calls.items))
    (put_at old.calls.items (λ a. with_argument a c.args.i c.args.h) c.args.n
    c.index_mut.result.now c.set_argument.new.self there c.set_argument.ensures.value))
