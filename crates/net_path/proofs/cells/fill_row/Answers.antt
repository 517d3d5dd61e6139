use Rattle.std.proofs.Common.{◌≡◌, ◌+◌, ◌∙◌, ℕ, ℤ, pos, subst, arith, to_z, of_z, w64}
use Rattle.std.proofs.lemmas.Int.{to_z-of_z}
use Rattle.std.specs.Prelude.{slice_index}
use Rattle.net_path.specs.Cells.{IsPriceAt}
use Rattle.net_path.proofs.FilledRows.{AreFilled, filled_two, filled_all}
use Rattle.net_path.proofs.cells.fill_row.Goals as goal

pub loop-register-init : goal.loop-register-init
loop-register-init c = λ k lt. absurd (omega (arith, lt))

pub loop-register-preserved : goal.loop-register-preserved
loop-register-preserved c =
    let r = c.loop-register.register in
    let old = c.loop-register.row.costs in
    let mid = c.put_price.new.row.costs in
    let new = c.put_price-in-loop-register.new.row.costs in
    let price = c.register_price-price.result in
    let is : to_z w64 (of_z w64 price) ≡ pos (slice_index c.args.caps.now r) =
    to_z-of_z w64 price (record { sfits = c.register_price-price.type_inv })
    ∙ c.register_price-price.ensures.value in
    filled_two c.args.places c.args.caps.now r old mid new
    (omega (arith, c.loop-register-test.true)) c.loop-register.invariant
    (subst (λ (z : ℤ). IsPriceAt c.args.places r z old mid) is c.put_price.ensures)
    (subst (λ (z : ℤ). IsPriceAt c.args.places (8 + r) z mid new) is
    c.put_price-in-loop-register.ensures)

pub returns : goal.returns
returns c =
    let six : c.loop-register.register ≡ 6 =
    omega (arith, c.loop-register-test.false, c.loop-register.auto.register-end) in
    filled_all c.args.places c.args.caps.now c.loop-register.row.costs c.put_price-2.new.row.costs
    c.put_price-3.new.row.costs
    (subst (λ (n : ℕ). AreFilled c.args.places c.args.caps.now n c.loop-register.row.costs) six
    c.loop-register.invariant) c.put_price-2.ensures c.put_price-3.ensures
