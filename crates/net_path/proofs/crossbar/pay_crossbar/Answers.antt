use Rattle.std.proofs.Common.{ℕ, ◌≡◌, ◌+◌, ◌∙◌, ℤ, sym, subst, refl, arith}
use Rattle.net_path.specs.Ways.{at, step_by}
use Rattle.net_path.specs.Rows.{IsCellWithin, IsPaidOver}
use Rattle.net_path.proofs.Placed.{HavePaid, paid_two, paid_all, over}
use Rattle.net_path.proofs.Steps.{step_short}
use Rattle.net_path.proofs.Within.{wide_is_debts, least_is_debt}
use Rattle.net_path.proofs.crossbar.pay_crossbar.Goals as goal

pub bests_of-bests-requires : goal.bests_of-bests-requires
bests_of-bests-requires g c = wide_is_debts c.args.behind.now.costs c.requires.behind

pub debt_alone-requires-clause-row : goal.debt_alone-requires-clause-row
debt_alone-requires-clause-row g c = wide_is_debts c.args.behind.now.costs c.requires.behind

pub loop-r-init : goal.loop-r-init
loop-r-init g c = record {
  paid = λ k lt. absurd (omega arith);
  left = λ k ge lt. (refl, refl);
  six = refl;
  seven = refl;
}

pub debt_alone-requires-clause-elsewhere : goal.debt_alone-requires-clause-elsewhere
debt_alone-requires-clause-elsewhere g c = c.elsewhere_from_alone-alone.ensures
    c.args.behind.now.costs c.loop-r.r c.bests_of-bests.ensures.are c.loop-r-test.true

pub pay-requires-clause-cell : goal.pay-requires-clause-cell
pay-requires-clause-cell g c =
    subst IsCellWithin (sym (c.loop-r.invariant.left c.loop-r.r (omega arith) c.loop-r-test.true).0)
    (c.requires.cells c.loop-r.r (omega (arith, c.loop-r-test.true)))

pub pay-requires-clause-rest : goal.pay-requires-clause-rest
pay-requires-clause-rest g c =
    least_is_debt (step_by c.args.steps.now) (step_short c.args.steps.now c.requires.steps)
    c.args.behind.now.costs c.loop-r.r
    c.debt_alone.result.cost c.requires.behind (omega (arith, c.loop-r-test.true))
    c.debt_alone.ensures

pub debt_in_both-requires-clause-row : goal.debt_in_both-requires-clause-row
debt_in_both-requires-clause-row g c = wide_is_debts c.args.behind.now.costs c.requires.behind

pub debt_in_both-requires-clause-elsewhere : goal.debt_in_both-requires-clause-elsewhere
debt_in_both-requires-clause-elsewhere g c = c.elsewhere_from_both-both.ensures
    c.args.behind.now.costs c.loop-r.r c.bests_of-bests.ensures.are c.loop-r-test.true

pub pay-requires-in-loop-r-clause-cell : goal.pay-requires-in-loop-r-clause-cell
pay-requires-in-loop-r-clause-cell g c =
    subst IsCellWithin (sym (c.pay.ensures.others (8 + c.loop-r.r) (omega arith)
    ∙ (c.loop-r.invariant.left c.loop-r.r (omega arith) c.loop-r-test.true).1))
    (c.requires.cells (8 + c.loop-r.r) (omega (arith, c.loop-r-test.true)))

pub pay-requires-in-loop-r-clause-rest : goal.pay-requires-in-loop-r-clause-rest
pay-requires-in-loop-r-clause-rest g c =
    least_is_debt (step_by c.args.steps.now) (step_short c.args.steps.now c.requires.steps)
    c.args.behind.now.costs (8 + c.loop-r.r)
    c.debt_in_both.result.cost c.requires.behind (omega (arith, c.loop-r-test.true))
    c.debt_in_both.ensures

pub loop-r-preserved : goal.loop-r-preserved
loop-r-preserved g c =
    let steps = c.args.steps.now in
    let behind = c.args.behind.now.costs in
    let r = c.loop-r.r in
    let old = c.loop-r.cells.costs in
    let mid = c.pay.new.cells.costs in
    let new = c.pay-in-loop-r.new.cells.costs in
    let P = λ (p : ℕ). IsPaidOver (step_by steps p) behind in
    paid_two P c.args.cells.now.costs r c.loop-r-test.true old mid new
    c.debt_alone.result.cost c.debt_in_both.result.cost c.loop-r.invariant
    c.pay.ensures c.pay-in-loop-r.ensures
    (subst (P r (at old r)) (sym (c.pay-in-loop-r.ensures.others r (omega arith)))
    (over (step_by steps r) behind (at old r) c.debt_alone.result.cost (at mid r)
    c.debt_alone.ensures c.pay.ensures.here))
    (subst (λ (z : ℤ). P (8 + r) z (at new (8 + r))) (c.pay.ensures.others (8 + r) (omega arith))
    (over (step_by steps (8 + r)) behind (at mid (8 + r)) c.debt_in_both.result.cost
    (at new (8 + r)) c.debt_in_both.ensures c.pay-in-loop-r.ensures.here))

pub pay-requires-2-clause-cell : goal.pay-requires-2-clause-cell
pay-requires-2-clause-cell g c =
    subst IsCellWithin (sym c.loop-r.invariant.six) (c.requires.cells 6 (omega arith))

pub pay-requires-2-clause-rest : goal.pay-requires-2-clause-rest
pay-requires-2-clause-rest g c =
    least_is_debt (step_by c.args.steps.now) (step_short c.args.steps.now c.requires.steps)
    c.args.behind.now.costs 6
    c.debt_in_memory.result.cost c.requires.behind (omega arith)
    (c.debt_in_memory.ensures c.args.behind.now.costs c.bests_of-bests.ensures.are)

pub pay-requires-3-clause-cell : goal.pay-requires-3-clause-cell
pay-requires-3-clause-cell g c =
    subst IsCellWithin (sym (c.pay-2.ensures.others 7 (omega arith) ∙ c.loop-r.invariant.seven))
    (c.requires.cells 7 (omega arith))

pub pay-requires-3-clause-rest : goal.pay-requires-3-clause-rest
pay-requires-3-clause-rest g c =
    least_is_debt (step_by c.args.steps.now) (step_short c.args.steps.now c.requires.steps)
    c.args.behind.now.costs 7
    c.debt_nowhere.result.cost c.requires.behind (omega arith)
    (c.debt_nowhere.ensures c.args.behind.now.costs c.bests_of-bests.ensures.are)

pub returns : goal.returns
returns g c =
    let steps = c.args.steps.now in
    let behind = c.args.behind.now.costs in
    let old = c.loop-r.cells.costs in
    let mid = c.pay-2.new.cells.costs in
    let new = c.pay-3.new.cells.costs in
    let P = λ (p : ℕ). IsPaidOver (step_by steps p) behind in
    let end : c.loop-r.r ≡ 6 = omega arith in
    let have : HavePaid P c.args.cells.now.costs 6 old = rw end at c.loop-r.invariant in
    let are = c.bests_of-bests.ensures.are in
    paid_all P c.args.cells.now.costs old mid new c.debt_in_memory.result.cost
    c.debt_nowhere.result.cost have c.pay-2.ensures c.pay-3.ensures
    (subst (P 6 (at old 6)) (sym (c.pay-3.ensures.others 6 (omega arith)))
    (over (step_by steps 6) behind (at old 6) c.debt_in_memory.result.cost (at mid 6)
    (c.debt_in_memory.ensures behind are) c.pay-2.ensures.here))
    (subst (λ (z : ℤ). P 7 z (at new 7)) (c.pay-2.ensures.others 7 (omega arith))
    (over (step_by steps 7) behind (at mid 7) c.debt_nowhere.result.cost (at new 7)
    (c.debt_nowhere.ensures behind are) c.pay-3.ensures.here))
