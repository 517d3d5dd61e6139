-- What a liveness answers is where variables are live.
use Rattle.std.proofs.Common.{ℕ, ◌≡◌, ◌+◌, ◌-◌, ◌/◌, ◌%◌, ◌<◌, ◌≤◌, ◌⊎◌, inl, inr, ◌↔◌, Bool, true}
use Rattle.std.proofs.Common.{false, ◌&&◌, cond, eqb, List, length, refl, sym, ap, ◌∙◌, arith}
use Rattle.std.proofs.Common.{true≢false}
use Rattle.std.specs.Prelude.{nat_lt}
use Rattle.std.proofs.lemmas.Bool.{cases_lt, cases_Bool, lt-ltb, ltb-true, and_parts, eq-eqb}
use Rattle.std.proofs.lemmas.Bool.{ne_eqb}
use Rattle.pra_base.specs.declared.code.VProc.{VProc}
use Rattle.pra_base.specs.Live.{Live}
use Rattle.net_form.specs.Strands.{IsLive, is_within, layer_count}
use Rattle.vc_live.specs.declared.liveness.Liveness.{Liveness}
use Rattle.vc_live.specs.Rows.{constant_at, has_at, live_at, IsLiveness, IsPast}
use Rattle.vc_live.specs.Sets.{contains}

module _ (code : VProc) (l : Liveness) (is : IsLiveness code l) where
  within : (v b k : ℕ) → is_within code v b k ≡ true → (v < length code.vars) ×
      (b < length code.blocks) × (k < layer_count code b)
  within v b k in_ =
      let one = and_parts (nat_lt v (length code.vars) && nat_lt b (length code.blocks))
      (nat_lt k (layer_count code b)) in_ in
      let two = and_parts (nat_lt v (length code.vars)) (nat_lt b (length code.blocks)) one.0 in (
        ltb-true v (length code.vars) two.0,
        ltb-true b (length code.blocks) two.1,
        ltb-true k (layer_count code b) one.1,
      )

  past : (v b k : ℕ) → is_within code v b k ≡ false → IsPast code v b k
  past v b k out = by (cases_lt v (length code.vars)) (cases_lt b (length code.blocks))
      (cases_lt k (layer_count code b))
    where
      by : (v < length code.vars) ⊎ (length code.vars ≤ v) → (b < length code.blocks) ⊎
          (length code.blocks ≤ b) → (k < layer_count code b) ⊎ (layer_count code b ≤ k) →
          IsPast code v b k
      by (inr le) two three = inl le
      by (inl lt) (inr le) three = inr (inl le)
      by (inl lt) (inl lt2) (inr le) = inr (inr (omega (arith, le)))
      by (inl lt) (inl lt2) (inl lt3) = absurd (true≢false (sym
          (ap (λ t. t && nat_lt b (length code.blocks) && nat_lt k (layer_count code b))
          (lt-ltb v (length code.vars) lt)
          ∙ ap (λ t. t && nat_lt k (layer_count code b)) (lt-ltb b (length code.blocks) lt2)
          ∙ lt-ltb k (layer_count code b) lt3) ∙ out))

  pub is_live : IsLive code (live_at l)
  is_live v b k = elim (cases_Bool (is_within code v b k)) as (λ _. (live_at l v b k ≡ true) ↔
      ((is_within code v b k ≡ true) × Live code v b k)) [
        | inl in_ ↦
            let w = within v b k in_ in
            let here = is.exact v b k w.0 w.1 (let lt = w.2 in omega (arith, lt)) in
            (λ t. (in_, here.0 t), λ p. here.1 p.1)
        | inr out ↦
            let none = is.past v b k (past v b k out) in
            (λ t. absurd (true≢false (sym t ∙ none)), λ p. absurd (true≢false (sym p.0 ∙ out)))
      ]

-- what is live at a layer behind an instruction is so before the next one
module _ (bs : List (List (List ℕ))) (v b l : ℕ) (even : l % 2 ≡ 0) where
  half : l / 2 ≡ (l + 1) / 2
  half = omega (arith, even)

  part : (t x y : Bool) → cond t false (x && y) ≡ true → x ≡ true
  part true x y is = absurd (true≢false (sym is))
  part false true y is = refl
  part false false y is = is

  constant_goes_over : constant_at bs v b l ≡ true → constant_at bs v b (l + 1) ≡ true
  constant_goes_over is =
      let odd : (l + 1) % 2 ≡ 1 = omega (arith, even) in
      let here = part (eqb (l / 2) 0) (has_at bs b (l / 2) v) (has_at bs b (l / 2 - 1) v)
      (sym (ap (λ t. cond t (has_at bs b (l / 2) v) (cond (eqb (l / 2) 0) false
      (has_at bs b (l / 2) v && has_at bs b (l / 2 - 1) v)))
      (ne_eqb (l % 2) 1 (λ e. omega (arith, e, even)))) ∙ is) in
      ap (λ t. cond t (has_at bs b ((l + 1) / 2) v) (cond (eqb ((l + 1) / 2) 0) false
      (has_at bs b ((l + 1) / 2) v && has_at bs b ((l + 1) / 2 - 1) v)))
      (eq-eqb ((l + 1) % 2) 1 odd)
      ∙ sym (ap (λ k. has_at bs b k v) half) ∙ here

  goes_over_by : (c : Bool) → cond c (constant_at bs v b l) (has_at bs b (l / 2) v) ≡ true →
      cond c (constant_at bs v b (l + 1)) (has_at bs b ((l + 1) / 2) v) ≡ true
  goes_over_by true is = constant_goes_over is
  goes_over_by false is = sym (ap (λ k. has_at bs b k v) half) ∙ is

pub goes_over : (live : Liveness) (v b l : ℕ) → l % 2 ≡ 0 → live_at live v b l ≡ true →
    live_at live v b (l + 1) ≡ true
unfolding live_at
goes_over live v b l even is = goes_over_by live.blocks v b l even (contains live.constants v) is
