use Rattle.std.proofs.Common.{ℕ, ◌≡◌, ◌*◌, ◌∙◌, length, count_by, ap, arith}
use Rattle.net_form.specs.declared.net.MemPair.{MemPair}
use Rattle.net_form.specs.Admitted.{uses_memory}
use Rattle.net_form.specs.Bundles.{comes_to_bundle}
use Rattle.net_form.specs.Flow.{flow}
use Rattle.net_form.specs.InUse.{no_pair}
use Rattle.net_dual.specs.Priced.{mem_price}
use Rattle.net_dual.specs.Step.{step_of, next}
use Rattle.net_price.proofs.Stepped.{stepped_list, tied_list}
use Rattle.net_price.proofs.round.step.Goals as goal

pub returns : goal.returns
returns c =
    let net = c.args.net.now in
    let f = flow net c.args.family.now in
    let old = c.args.prices.now in
    let range = c.requires.prices in
    let s = c.from-s.result in
    let whole = c.from-s.ensures in
    let most = c.max.ensures in
    let is : s ≡ step_of c.args.k = omega (arith, whole, most) in
    let caps : c.step_caps.new.caps ≡ (next net f s old).caps
    = stepped_list s (λ (c : ℕ × ℕ). c.1) (λ (c : ℕ × ℕ). count_by (comes_to_bundle net c.0) f)
    old.caps 0 c.step_caps.new.caps c.step_caps.ensures.long c.step_caps.ensures.stepped in
    let pairs = range.mems in
    let mems : c.step_mems.new.mems ≡ (next net f s old).mems
    = stepped_list s (λ (m : ℕ × MemPair). mem_price old m.0)
    (λ (m : ℕ × MemPair). count_by (uses_memory m.1) f) net.pairs no_pair
    c.step_mems.new.mems (c.step_mems.ensures.long ∙ pairs)
    (λ k lt. c.step_mems.ensures.stepped k (omega (arith, lt, pairs))) in
    let numbers : length old.ties ≡ 13 * length net.ties = range.ties in
    let ties : c.step_ties.new.ties ≡ (next net f s old).ties
    = tied_list net f s old c.step_ties.new.ties (c.step_ties.ensures.long ∙ numbers)
    (λ k lt. c.step_ties.ensures.next k (omega (arith, lt, numbers))) in
    (λ i. record { caps = caps i; mems = mems i; ties = ties i })
    ∙ ap (λ (n : ℕ). next net f n old) is
