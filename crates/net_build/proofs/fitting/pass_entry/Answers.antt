use Rattle.std.proofs.Common.{◌∙◌, length, arith}
use Rattle.net_form.specs.Strands.{begun_strand}
use Rattle.net_form.specs.Tables.{all_tables}
use Rattle.vc_live.specs.Rows.{live_at}
use Rattle.net_build.proofs.Begun.{none_at_entry}
use Rattle.net_build.proofs.Fits.{from_all, one_more, one_stops, none_more}
use Rattle.net_build.proofs.fitting.pass_entry.Goals as goal

pub loop-var-init : goal.loop-var-init
loop-var-init c = record {
  whole = from_all (begun_strand all_tables c.args.code.now (live_at c.args.live.now)
      c.args.block 0) c.args.lists.now (length c.args.code.now.vars) c.args.number;
  within = omega arith;
  end = c.len-end.ensures;
}

pub returns-in_err-next : goal.returns-in_err-next
returns-in_err-next c =
    let near = c.in-Some.ensures.least in
    let last = c.len-end.ensures in
    c.from_residual.ensures ∙ one_stops (begun_strand all_tables c.args.code.now
    (live_at c.args.live.now) c.args.block 0)
    c.args.lists.now (length c.args.code.now.vars) c.loop-var.from c.in-Some.var c.loop-var.next _
    near.0.0 (omega (arith, near.0.1, last))
    (λ x le lt. none_at_entry c.args.code.now (live_at c.args.live.now) x c.args.block
    (near.1 x le (omega (arith, lt, near.0.1)) lt)) c.in_err-next.ensures
    c.loop-var.invariant.whole

pub loop-var-preserved : goal.loop-var-preserved
loop-var-preserved c =
    let near = c.in-Some.ensures.least in
    let last = c.len-end.ensures in
    record {
      whole = one_more (begun_strand all_tables c.args.code.now (live_at c.args.live.now)
          c.args.block 0) c.args.lists.now (length c.args.code.now.vars) c.loop-var.from
          c.in-Some.var c.loop-var.next c.in_ok-next.next _ near.0.0
          (omega (arith, near.0.1, last))
          (λ x le lt. none_at_entry c.args.code.now (live_at c.args.live.now) x c.args.block
          (near.1 x le (omega (arith, lt, near.0.1)) lt)) c.in_ok-next.ensures
          c.loop-var.invariant.whole;
      within = omega (arith, near.0.1, last);
      end = last;
    }

pub returns : goal.returns
returns c =
    let far = c.in_default.ensures.least in
    let last = c.len-end.ensures in
    none_more (begun_strand all_tables c.args.code.now (live_at c.args.live.now) c.args.block 0)
    c.args.lists.now (length c.args.code.now.vars) c.loop-var.from c.loop-var.next _
    c.loop-var.invariant.within
    (λ x le lt. none_at_entry c.args.code.now (live_at c.args.live.now) x c.args.block
    (far.1 x le (omega (arith, lt, last)) tt)) c.loop-var.invariant.whole
