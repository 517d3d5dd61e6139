use Rattle.std.proofs.Common.{◌≡◌, ◌<◌, ◌+◌, ℕ, [], length, map, get_or, true, false, bytes_eq}
use Rattle.std.proofs.Common.{Bool, refl, subst, arith, nat_lt, rules}
use Rattle.std.proofs.lemmas.Bool.{ltb-true}
use Rattle.std.proofs.lemmas.Bool.Decides.{nat_tests}
use Rattle.std.proofs.lemmas.List.{length-map}
use Rattle.std.proofs.lemmas.Slice.Eq.{bytes_eq-Decides}
use Rattle.pra_list.proofs.Truths.{true_false}
use Rattle.cert_form.proofs.objects.position.Goals as goal

pub returns-then-is_key_at : goal.returns-then-is_key_at
returns-then-is_key_at c =
    let names = map (λ s. s.now) c.args.keys.now in
    let same : bytes_eq (get_or names c.loop-at.at []) c.args.key.now ≡ true = cc in
    let less : c.loop-at.at < length c.args.keys.now = search rules in
    let long : length names ≡ length c.args.keys.now = length-map c.args.keys.now (λ s. s.now) in
    let at = get_or names c.loop-at.at [] in
    (omega (arith, less, long), (bytes_eq-Decides at c.args.key.now).0 same)

pub loop-at-preserved : goal.loop-at-preserved
loop-at-preserved c = λ i less e.
    let names = map (λ s. s.now) c.args.keys.now in
    let other : bytes_eq (get_or names c.loop-at.at []) c.args.key.now ≡ false = cc in
    let here : get_or names c.loop-at.at [] ≡ c.args.key.now → ⊥ =
    λ f. true_false (bytes_eq (get_or names c.loop-at.at []) c.args.key.now)
    ((bytes_eq-Decides (get_or names c.loop-at.at []) c.args.key.now).1 f) other in
    last c.loop-at.at i less (λ k h. c.loop-at.invariant k h) here e
  where
    last : (n i : ℕ) → i < n + 1 → {P : ℕ → Type 0} → ((k : ℕ) → k < n → P k → ⊥) → (P n → ⊥) →
        P i → ⊥
    last n i less {P} before here e = by (nat_lt i n) refl
      where
        by : (b : Bool) → nat_lt i n ≡ b → ⊥
        by true f = before i (ltb-true i n f) e
        by false f =
            let is : i ≡ n = grind (arith, nat_tests) in here (subst P is e)
