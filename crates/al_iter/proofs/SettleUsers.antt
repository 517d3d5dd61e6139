-- What the first of these strands pay, some of them asked and some passed over.
use Rattle.std.proofs.Common.{ℕ, zero, suc, ◌≡◌, ◌+◌, ◌<◌, ◌≤◌, cond, ℤ, pos, ◌≤ℤ◌, ◌+ℤ◌}
use Rattle.std.proofs.Common.{List, length, get_or, take, refl, sym, ap, ◌∙◌, subst}
use Rattle.std.proofs.Common.{false, arith, inl, inr}
use Rattle.std.specs.Prelude.{nat_eq}
use Rattle.std.proofs.lemmas.Int.{ints}
use Rattle.std.proofs.lemmas.Bool.{cases_eq, eq-eqb, ne_eqb}
use Rattle.std.proofs.lemmas.List.{length-take, get_or-take, get_or_default, take_all}
use Rattle.pra_base.specs.declared.ids.Place.{Place}
use Rattle.net_cost.specs.declared.weights.Weights.{Weights}
use Rattle.net_form.specs.declared.net.Net.{Net}
use Rattle.net_form.specs.declared.taken.Taken.{Taken}
use Rattle.net_dual.proofs.Totals.{total-agree}
use Rattle.al_iter.specs.SettleState.{AreStrands}
use Rattle.al_iter.specs.SettleSums.{MayGoTied, PayAtLeast, free_price}
use Rattle.al_iter.proofs.SettleSums.{pays_something, total_more}

-- the first i of these strands pay that much at least
abbrev pub PayFirst : Net → Weights → Taken → List ℕ → Place → ℕ → ℤ → Type 0
PayFirst net w taken strands p i z = PayAtLeast net w taken (take i strands) p z

module _ (net : Net) (w : Weights) (taken : Taken) (strands : List ℕ)
    (are : AreStrands net strands) (p : Place) where
  -- one more that pays at least so much
  pub pay_more : (i : ℕ) {y z : ℤ} (c : ℤ) → i < length strands
      → ((ps : List Place) → MayGoTied net taken p (get_or strands i 0) ps
      → c ≤ℤ free_price net w (get_or strands i 0) ps)
      → PayFirst net w taken strands p i z → y ≤ℤ (z +ℤ c)
      → PayFirst net w taken strands p (i + 1) y
  pay_more i c lt least pay le =
      let last = get_or strands i 0 in
      let costs : ℕ → ℤ = λ s. cond (nat_eq s last) c (pay.costs s) in
      record {
        costs = costs;
        least = λ k d in_.
            let long = length-take (i + 1) strands in
            let less : k < i + 1 = omega (arith, in_, long, lt) in
            subst (λ s. (ps : List Place) → MayGoTied net taken p s ps
            → costs s ≤ℤ free_price net w s ps)
            (sym (of_first (i + 1) k d less (omega (arith, lt)))) (of_one k less);
        in_sum =
            let more = total_more costs strands i lt in
            let here : costs last ≡ c = ap (λ b. cond b c (pay.costs last)) (eq-eqb last last refl)
            in
            let front = total-agree costs pay.costs (take i strands)
            (λ k d in_.
            let long = length-take i strands in
            let less : k < i = omega (arith, in_, long) in
            subst (λ s. costs s ≡ pay.costs s) (sym (of_first i k d less (omega (arith, lt))))
            (ap (λ b. cond b c (pay.costs (get_or strands k 0))) (apart k less))) in
            let sum = pay.in_sum in
            omega (arith, ints, more, here, front, sum, le);
      }
    where
      of_first : (n k d : ℕ) → k < n → n ≤ length strands
          → get_or (take n strands) k d ≡ get_or strands k 0
      of_first n k d less within = get_or-take n strands k d less
          ∙ get_or_default strands k d 0 (omega (arith, less, within))

      apart : (k : ℕ) → k < i → nat_eq (get_or strands k 0) (get_or strands i 0) ≡ false
      apart k less = ne_eqb (get_or strands k 0) (get_or strands i 0)
          (λ same. let rise = are.rising k i 0 less lt in omega (arith, same, rise))

      before : (k : ℕ) → k < i → (ps : List Place) → MayGoTied net taken p (get_or strands k 0) ps
          → pay.costs (get_or strands k 0) ≤ℤ free_price net w (get_or strands k 0) ps
      before k in_ =
          let long = length-take i strands in
          subst (λ s. (ps : List Place) → MayGoTied net taken p s ps
          → pay.costs s ≤ℤ free_price net w s ps) (of_first i k 0 in_ (omega (arith, lt)))
          (pay.least k 0 (omega (arith, long, in_, lt)))

      of_one : (k : ℕ) → k < i + 1 → (ps : List Place)
          → MayGoTied net taken p (get_or strands k 0) ps
          → cond (nat_eq (get_or strands k 0) (get_or strands i 0)) c
          (pay.costs (get_or strands k 0)) ≤ℤ free_price net w (get_or strands k 0) ps
      of_one k less ps may = elim (cases_eq k i)
          as (λ _. cond (nat_eq (get_or strands k 0) (get_or strands i 0)) c
          (pay.costs (get_or strands k 0)) ≤ℤ free_price net w (get_or strands k 0) ps) [
            | inl same ↦
                let there = ap (λ j. get_or strands j 0) same in
                let is = ap (λ b. cond b c (pay.costs (get_or strands k 0)))
                (eq-eqb (get_or strands k 0) (get_or strands i 0) there) in
                let bound = least ps (subst (λ s. MayGoTied net taken p s ps) there may) in
                let price = ap (λ s. free_price net w s ps) there in
                omega (arith, ints, is, bound, price)
            | inr other ↦
                let in_ : k < i = omega (arith, less, other) in
                let is = ap (λ b. cond b c (pay.costs (get_or strands k 0))) (apart k in_) in
                let bound = before k in_ ps may in
                omega (arith, ints, is, bound)
          ]

  -- one that is passed over pays nothing at least
  pub pay_skip : (i : ℕ) {z : ℤ} → i < length strands → PayFirst net w taken strands p i z
      → PayFirst net w taken strands p (i + 1) z
  pay_skip i lt pay =
      pay_more i (pos 0) lt (λ ps may. pays_something net w (get_or strands i 0) ps) pay
      (omega (arith, ints))

  -- and so do all the others
  pub pay_rest : (rest i : ℕ) {z : ℤ} → rest + i ≡ length strands
      → PayFirst net w taken strands p i z → PayAtLeast net w taken strands p z
  pay_rest zero i {z} all pay =
      subst (λ xs. PayAtLeast net w taken xs p z) (take_all i strands (omega (arith, all))) pay
  pay_rest (suc rest) i all pay =
      pay_rest rest (i + 1) (omega (arith, all)) (pay_skip i (omega (arith, all)) pay)
