use Rattle.std.proofs.Common.{◌∙◌, ap, replicate, Some, rules}
use Rattle.vc_code.specs.declared.value.Value.TheVariants.{Num}
use Rattle.vc_code.specs.Value.{Held}
use Rattle.vc_code.specs.Machine.{with_aggregates}
use Rattle.vc_run.specs.Calls.{call_of}
use Rattle.vc_run.proofs.CallLists.{replicate-map}
use Rattle.vc_run.proofs.live.LiveCall.clear.Goals as goal

pub returns : goal.returns
returns c =
    let zero : Held = Some (Num 0) in
    let old = c.args.self.now in
    let words = c.fill.ensures.items (λ y same. search rules)
    ∙ ap (λ n. replicate n zero) old.aggregates.ok.0
    ∙ replicate-map zero old.aggregates.items in
    ap (λ ws. with_aggregates (call_of old) ws) words
