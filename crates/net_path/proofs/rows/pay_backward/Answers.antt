use Rattle.std.proofs.Common.{ℕ, suc, ◌≡◌, ◌<◌, ◌+◌, ◌-◌, List, length, arith, sym, subst, ◌∙◌}
use Rattle.std.proofs.Common.{refl, ℤ, inl, inr}
use Rattle.std.proofs.lemmas.Bool.{cases_eq}
use Rattle.net_path.specs.Ways.{AreDebts, step_by}
use Rattle.net_path.specs.Rests.{AreRows}
use Rattle.net_path.specs.Rows.{costs_at, slack_at, IsRowWithin, IsGround, IsPaidLayer}
use Rattle.net_path.proofs.Within.{cells_within, costs_are_cells, row_is_wide, wide_is_debts}
use Rattle.net_path.proofs.Steps.{step_short}
use Rattle.net_path.proofs.Backward.{rows_last, small_more, paid_more}
use Rattle.net_path.proofs.rows.pay_backward.Goals as goal

pub loop-at-init : goal.loop-at-init
loop-at-init c =
    let n = length c.args.rows.now in
    let small =
    cells_within n (n - 1) (costs_at c.args.rows.now (n - 1)) (omega (arith, c.requires.some))
    (λ p lt. c.requires.cells (n - 1) p (omega (arith, c.requires.some)) lt) in
    let last : AreDebts (costs_at c.args.rows.now (n - 1)) =
    wide_is_debts (costs_at c.args.rows.now (n - 1)) (row_is_wide n (n - 1)
    (costs_at c.args.rows.now (n - 1)) (omega (arith, c.requires.few)) small) in
    record {
      within = omega (arith, c.requires.some);
      left = λ k lt. refl;
      small = small;
      debts = λ k le lt. let is : n - 1 ≡ k = omega (arith, le, lt) in
          subst (λ (k : ℕ). AreDebts (costs_at c.args.rows.now k)) is last;
      paid = λ t ground cells. rows_last (step_by c.args.steps.now) c.args.first n t ground
          c.args.rows.now
          (omega (arith, c.requires.some)) refl cells;
    }

pub pay_layer-requires-clause-cells : goal.pay_layer-requires-clause-cells
pay_layer-requires-clause-cells c =
    let n = length c.args.rows.now in
    let i = c.loop-at.at - 1 in
    let same = c.loop-at.invariant.left i (omega (arith, c.loop-at-test.true)) in
    rw same (costs_are_cells n i (costs_at c.args.rows.now i) (λ p lt. c.requires.cells i p
    (omega (arith, c.loop-at.invariant.within, c.loop-at.auto.rows)) lt))

pub pay_layer-requires-clause-behind : goal.pay_layer-requires-clause-behind
pay_layer-requires-clause-behind c =
    let n = length c.args.rows.now in
    let i = c.loop-at.at in
    let next : i - 1 + 1 ≡ i = omega (arith, c.loop-at-test.true) in
    let long : length c.loop-at.rows ≡ n = c.loop-at.auto.rows in
    rw next (row_is_wide n i (costs_at c.loop-at.rows i) (omega (arith, c.requires.few))
    (rw long at c.loop-at.invariant.small))

pub loop-at-preserved : goal.loop-at-preserved
loop-at-preserved c =
    let n = length c.args.rows.now in
    let j = c.loop-at.at in
    let i = j - 1 in
    let long : length c.pay_layer.new.rows ≡ n = c.pay_layer.ensures.long ∙ c.loop-at.auto.rows in
    let before : length c.loop-at.rows ≡ n = c.loop-at.auto.rows in
    let next : j ≡ suc i = omega (arith, c.loop-at-test.true) in
    let lt : j < n = omega (arith, c.loop-at.invariant.within, before) in
    let left : costs_at c.loop-at.rows i ≡ costs_at c.args.rows.now i =
    c.loop-at.invariant.left i (omega (arith, c.loop-at-test.true)) in
    let same : i + 1 ≡ j = omega (arith, c.loop-at-test.true) in
    let paid : IsPaidLayer (step_by c.args.steps.now) (c.args.first + j) (costs_at c.loop-at.rows j)
    (costs_at c.loop-at.rows i) (costs_at c.pay_layer.new.rows i) =
    subst (λ (k : ℕ). IsPaidLayer (step_by c.args.steps.now) (c.args.first + j)
    (costs_at c.loop-at.rows k)
    (costs_at c.loop-at.rows i) (costs_at c.pay_layer.new.rows i)) same
    c.pay_layer.ensures.paid in
    let small : IsRowWithin (slack_at n i) (costs_at c.pay_layer.new.rows i) =
    small_more (step_by c.args.steps.now) (step_short c.args.steps.now c.requires.steps)
    c.args.first i j n next lt c.loop-at.rows
    c.pay_layer.new.rows c.args.rows.now refl c.pay_layer.ensures.others left paid (λ p below.
    c.requires.cells i p (omega (arith, lt)) below) (rw before at c.loop-at.invariant.small) in
    let debts : AreDebts (costs_at c.pay_layer.new.rows i) =
    wide_is_debts (costs_at c.pay_layer.new.rows i)
    (row_is_wide n i (costs_at c.pay_layer.new.rows i) (omega (arith, c.requires.few)) small) in
    record {
      within = omega (arith, long, lt);
      left = λ k below. c.pay_layer.ensures.others k (omega (arith, below))
          ∙ c.loop-at.invariant.left k (omega (arith, below));
      small = rw long small;
      debts = λ k le in_. elim (cases_eq k i) as (λ _. AreDebts (costs_at c.pay_layer.new.rows k)) [
        | inl here ↦ subst (λ (k : ℕ). AreDebts (costs_at c.pay_layer.new.rows k)) (sym here) debts
        | inr other ↦ subst (λ (xs : List ℤ). AreDebts xs)
            (sym (c.pay_layer.ensures.others k other)) (c.loop-at.invariant.debts k
            (omega (arith, le, other)) (omega (arith, in_, long, before)))
      ];
      paid = λ t ground cells.
          let g : IsGround (step_by c.args.steps.now) c.args.first n t = rw long at ground in
          let are : AreRows t (costs_at c.loop-at.rows) (slack_at n) n j =
          rw before at (c.loop-at.invariant.paid t (rw before g) cells) in
          rw long (paid_more (step_by c.args.steps.now)
          (step_short c.args.steps.now c.requires.steps) c.args.first i j n next
          lt c.loop-at.rows c.pay_layer.new.rows c.args.rows.now refl c.pay_layer.ensures.others
          left paid t g cells are);
    }
