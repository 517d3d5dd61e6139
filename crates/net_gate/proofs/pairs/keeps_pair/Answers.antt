use Rattle.std.proofs.Common.{◌∙◌, sym, ap, arith, not, cond, refl, true, false, true≢false, Bool}
use Rattle.std.proofs.Common.{ℕ, ◌≡◌, ◌≤◌, ◌+◌, count_by}
use Rattle.net_form.specs.Flow.{flow}
use Rattle.net_form.specs.Admitted.{uses_memory}
use Rattle.net_gate.specs.Broken.{KeepsPair}
use Rattle.pra_base.specs.declared.ids.Place.TheVariants.{Mem}
use Rattle.net_gate.proofs.Ends.{one_end, two_ends, arrivals_small}
use Rattle.net_gate.proofs.pairs.keeps_pair.Goals as goal

pub returns-then-is_one_end : goal.returns-then-is_one_end
returns-then-is_one_end c =
    let f = flow c.args.net.now c.args.routes.now in
    let m = c.args.pair.now in
    let one = one_end m (sym c.is_one_end.ensures ∙ c.if-is_one_end.true) f in
    let small = arrivals_small c.args.net.now c.args.routes.now c.requires m.left m.left_layer
    Mem in
    let keeps : KeepsPair f m = omega (arith, one, small) in
    (λ _. keeps, λ _. refl)

pub returns-then-not-is_in_memory : goal.returns-then-not-is_in_memory
returns-then-not-is_in_memory c =
    let f = flow c.args.net.now c.args.routes.now in
    let m = c.args.pair.now in
    let two = two_ends m (sym c.is_one_end.ensures ∙ c.if-is_one_end.false) f in
    let small = arrivals_small c.args.net.now c.args.routes.now c.requires m.right m.right_layer
    Mem in
    let none = c.is_in_memory.ensures ∙ ap (λ (b : Bool). cond b 1 0) c.if-not-is_in_memory.true in
    let keeps : KeepsPair f m = omega (arith, two, small, none) in
    (λ _. keeps, λ _. refl)

pub returns : goal.returns
returns c =
    let f = flow c.args.net.now c.args.routes.now in
    let m = c.args.pair.now in
    let two = two_ends m (sym c.is_one_end.ensures ∙ c.if-is_one_end.false) f in
    let left = c.is_in_memory.ensures ∙ ap (λ (b : Bool). cond b 1 0) c.if-not-is_in_memory.false in
    at_most_one c.is_in_memory-2.result (count_by (uses_memory m) f)
    (omega (arith, two, left, c.is_in_memory-2.ensures))
  where
    at_most_one : (b : Bool) (n : ℕ) → n ≡ 1 + cond b 1 0 → (not b ≡ true → n ≤ 1) ×
        (n ≤ 1 → not b ≡ true)
    at_most_one true n is = (λ h. absurd (true≢false (sym h)), λ h. absurd (omega (arith, is, h)))
    at_most_one false n is = (λ _. omega (arith, is), λ _. refl)
