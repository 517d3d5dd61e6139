use Rattle.std.proofs.Common.{◌∙◌, ◌++◌, [], ◌∷◌, List, ℕ, sym, ap, arith, append-nil}
use Rattle.net_form.specs.Strands.{layer_count, is_present, mask_at}
use Rattle.net_form.specs.Tables.{all_tables}
use Rattle.vc_live.specs.Rows.{live_at}
use Rattle.net_build.proofs.LiveAt.{goes_over}
use Rattle.net_build.proofs.Presence.{if_some, if_none}
use Rattle.net_build.proofs.Ranges.{run_pushed, run_none, run_past}
use Rattle.net_build.proofs.strands.masks.Goals as goal

pub loop-layer-preserved : goal.loop-layer-preserved
loop-layer-preserved c =
    let code = c.args.code.now in
    let live = live_at c.args.live.now in
    let v = c.args.var in
    let b = c.args.block in
    let l = c.loop-layer.layer in
    let here = if_some (is_present all_tables code live v b l) (mask_at all_tables code live v b l)
    c.in-Some.mask c.in-Some.ensures in
    record {
      whole = run_pushed (is_present all_tables code live v b) (mask_at all_tables code live v b)
          (layer_count code b) l c.loop-layer.masks c.push.new.self _
          (omega (arith, c.loop-layer-test.true, c.layer_count-end.ensures.value))
          here.0 c.loop-layer.invariant.whole
          (c.in_ok-push.ensures.ok ∙ ap (λ (m : ℕ). c.loop-layer.masks ++ m ∷ []) here.1);
      within = omega (arith, c.loop-layer-test.true);
      end = c.layer_count-end.ensures.value;
      known = λ t. let parts = c.stays_live-known.ensures t in
          goes_over c.args.live.now v b l parts.1 (sym c.is_live_at-is_live.ensures ∙ parts.0);
    }

pub returns-in_default : goal.returns-in_default
returns-in_default c =
    let code = c.args.code.now in
    let live = live_at c.args.live.now in
    let v = c.args.var in
    let b = c.args.block in
    let l = c.loop-layer.layer in
    sym (append-nil c.loop-layer.masks)
    ∙ sym (ap (λ (r : List ℕ). c.loop-layer.masks ++ r)
    (run_none (is_present all_tables code live v b) (mask_at all_tables code live v b)
    (layer_count code b) l
    (omega (arith, c.loop-layer-test.true, c.layer_count-end.ensures.value))
    (if_none (is_present all_tables code live v b l) (mask_at all_tables code live v b l)
    c.in_default.ensures)))
    ∙ c.loop-layer.invariant.whole

pub returns : goal.returns
returns c =
    let code = c.args.code.now in
    let live = live_at c.args.live.now in
    let v = c.args.var in
    let b = c.args.block in
    sym (append-nil c.loop-layer.masks)
    ∙ sym (ap (λ (r : List ℕ). c.loop-layer.masks ++ r)
    (run_past (is_present all_tables code live v b) (mask_at all_tables code live v b)
    (layer_count code b) c.loop-layer.layer
    (omega (arith, c.loop-layer-test.false, c.layer_count-end.ensures.value))))
    ∙ c.loop-layer.invariant.whole
