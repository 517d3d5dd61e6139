use Rattle.std.proofs.Common.{◌≡◌, ◌∙◌, ap, sym, refl, length, reverse, Some, slice_get}
use Rattle.std.proofs.lemmas.Option.{slice_get_read}
use Rattle.std.proofs.lemmas.List.{take-map}
use Rattle.vc_code.specs.Machine.{depth}
use Rattle.vc_code.specs.Selected.{shape}
use Rattle.vc_run.specs.Calls.{call_of}
use Rattle.vc_run.proofs.calls.Waiting.under.Goals as goal

pub returns-in-Some : goal.returns-in-Some
returns-in-Some c procs =
    let calls = c.self.inside.calls.items in
    let there : slice_get calls c.args.n ≡ Some c.in-Some.call.now =
    ap (λ l. slice_get l c.args.n) (sym c.deref.ensures.value)
    ∙ slice_get_read c.deref.result.now (length c.deref.result.now) c.args.n c.in-Some.call.now refl
    c.in-Some.ensures.lookup.3.0 c.in-Some.ensures.lookup.1 in
    rw (← c.self.view_is)
    (c.self.invariant.each procs c.args.n c.in-Some.call.now there
    ∙ ap (λ l. depth (shape procs c.self.inside.frames.items) (reverse l))
    (sym (take-map call_of c.args.n calls)))
