use Rattle.std.proofs.Common.{◌∙◌, sym, arith}
use Rattle.net_form.specs.Strands.{layer_count, is_present, mask_at}
use Rattle.net_form.specs.Tables.{all_tables}
use Rattle.vc_live.specs.Rows.{live_at}
use Rattle.net_build.proofs.Ranges.{count_more, count_past, count_none}
use Rattle.net_build.proofs.fitting.run_from.Goals as goal
use Rattle.net_build.proofs.fitting.run_from.Goals.{then-loop-layer-test+else-is_present}
use Rattle.net_build.proofs.fitting.run_from.Goals.{else-loop-layer-test}

pub loop-layer-preserved : goal.loop-layer-preserved
loop-layer-preserved c =
    let code = c.args.code.now in
    let live = live_at c.args.live.now in
    let v = c.args.var in
    let b = c.args.block in
    let one = count_more (is_present all_tables code live v b) (mask_at all_tables code live v b)
    (layer_count code b) c.loop-layer.layer
    (omega (arith, c.loop-layer-test.true, c.layer_count-end.ensures.value))
    (sym c.is_present.ensures ∙ c.if-is_present.true) in
    record {
      whole = omega (arith, one, c.loop-layer.invariant.whole, c.loop-layer.invariant.from);
      from = omega (arith, c.loop-layer.invariant.from);
      within = omega (arith, c.loop-layer-test.true);
      end = c.layer_count-end.ensures.value;
    }

pub returns : goal.returns
returns c =
    let code = c.args.code.now in
    let live = live_at c.args.live.now in
    let v = c.args.var in
    let b = c.args.block in
    elim c.loop-layer-test.branch [
      | then-loop-layer-test+else-is_present w ↦
          let none = count_none (is_present all_tables code live v b)
          (mask_at all_tables code live v b) (layer_count code b) c.loop-layer.layer
          (omega (arith, w.loop-layer-test.true, c.layer_count-end.ensures.value))
          (sym w.is_present.ensures ∙ w.if-is_present.false) in
          omega (arith, none, c.loop-layer.invariant.whole)
      | else-loop-layer-test w ↦
          let none = count_past (is_present all_tables code live v b)
          (mask_at all_tables code live v b) (layer_count code b) c.loop-layer.layer
          (omega (arith, w.loop-layer-test.false, c.layer_count-end.ensures.value)) in
          omega (arith, none, c.loop-layer.invariant.whole)
    ]
