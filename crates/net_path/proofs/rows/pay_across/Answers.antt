use Rattle.std.proofs.Common.{◌∙◌, ℤ, sym, subst, arith}
use borrow.Author.Count.{below_more}
use Rattle.net_path.specs.Ways.{at}
use Rattle.net_path.specs.Rows.{IsCellWithin, IsPaid}
use Rattle.net_path.proofs.rows.pay_across.Goals as goal

pub pay-requires-clause-cell : goal.pay-requires-clause-cell
pay-requires-clause-cell g c =
    subst IsCellWithin (sym (c.loop-p.invariant.left c.loop-p.p (omega arith)))
    (c.requires.cells c.loop-p.p (omega (arith, c.loop-p-test.true)))

pub loop-p-preserved : goal.loop-p-preserved
loop-p-preserved g c =
    let p = c.loop-p.p in
    let first = c.args.cells.now.costs in
    let behind = c.args.behind.now.costs in
    let old = c.loop-p.cells.costs in
    let new = c.pay.new.cells.costs in
    let here : IsPaid (at old p) (at behind p) (at new p) =
    subst (λ (z : ℤ). IsPaid (at old p) z (at new p)) c.debt_at.ensures c.pay.ensures.here in
    record {
      paid = below_more (λ k. IsPaid (at first k) (at behind k) (at new k)) p
          (λ k lt. subst (IsPaid (at first k) (at behind k))
          (sym (c.pay.ensures.others k (omega arith))) (c.loop-p.invariant.paid k lt))
          (subst (λ (z : ℤ). IsPaid z (at behind p) (at new p))
          (c.loop-p.invariant.left p (omega arith)) here);
      left = λ k le. c.pay.ensures.others k (omega arith)
          ∙ c.loop-p.invariant.left k (omega arith);
    }
