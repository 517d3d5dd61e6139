use Rattle.std.proofs.Common.{◌*◌, ◌^◌, ◌↔◌, ◌-ℤ◌, ◌≤ℤ◌, pos, sym, subst, arith}
use Rattle.std.specs.Prelude.{IsTrue}
use Rattle.net_cost.specs.Models.{weights_of}
use Rattle.net_form.specs.declared.prices.Prices.{Prices}
use Rattle.net_dual.specs.Priced.{AreInRange}
use Rattle.net_dual.specs.Value.{IsLagrange}
use Rattle.net_dual.proofs.Leasts.{same_bits}
use Rattle.cert_check.proofs.LeastSums.{some_path, bound_test}
use Rattle.cert_check.proofs.ListedPrices.{in_range}
use Rattle.cert_check.proofs.value.has_bound.Goals as goal

pub value_of-requires-clause-prices : goal.value_of-requires-clause-prices
value_of-requires-clause-prices g c =
    let net = c.args.net.now in
    let cert = c.args.cert.now in
    subst (AreInRange net) (sym (c.listed.ensures net c.requires.zero))
    (in_range net cert c.requires.prices)

pub value_of-requires-clause-paths : goal.value_of-requires-clause-paths
value_of-requires-clause-paths g c = λ s lt. some_path c.args.net.now c.args.cert.now.routes
    c.requires.routes s lt

pub returns : goal.returns
returns g c =
    let net = c.args.net.now in
    let w = weights_of c.args.model.now in
    let cert = c.args.cert.now in
    let value = c.in_ok-value.value in
    let b = c.is_carried.result in
    bound_test w net cert value b c.if-cert-eq0.false
    (subst (λ (p : Prices). IsLagrange net w p value) (c.listed.ensures net c.requires.zero)
    c.in_ok-value.ensures.value)
    (subst (λ z. IsTrue b ↔ ((pos (1024 * cert.bound) -ℤ pos 1023) ≤ℤ z))
    (same_bits (2 ^ 125) value (omega arith) c.in_ok-value.ensures.within) c.is_carried.ensures)
