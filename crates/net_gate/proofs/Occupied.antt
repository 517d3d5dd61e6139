-- One register more in use.
use Rattle.std.proofs.Common.{ℕ, ◌≡◌, ◌≢◌, ◌+◌, ◌<◌, ◌≤◌, ◌⊎◌, min, List, Some, None, Option, refl}
use Rattle.std.proofs.Common.{sym, ap, ◌∙◌, subst, arith, inl, inr}
use Rattle.std.proofs.Math.Path.{fun_ext}
use Rattle.std.proofs.lemmas.Bool.{cases_eq}
use Rattle.net_gate.specs.declared.bundles.Bundle.{Bundle}
use Rattle.net_gate.specs.Broken.{IsBefore, IsFirstAbove}
use Rattle.net_form.specs.InUse.{mark}
use Rattle.net_gate.specs.InUse.{IsEarlier, Stands}

-- ---- what stands

pub stands_same : (uses now : ℕ → ℕ → ℕ) (regs : List ℕ) (clash : Option Bundle) →
    ((n r : ℕ) → uses n r ≡ now n r) → Stands uses regs clash → Stands now regs clash
stands_same uses now regs clash same stands = subst (λ u. Stands u regs clash)
    (fun_ext (λ n. fun_ext (λ r. same n r))) stands

trans : (a b c : ℕ × ℕ) → IsBefore a b → IsBefore b c → IsBefore a c
trans a b c (inl x) (inl y) = inl (omega (arith, x, y))
trans a b c (inl x) (inr y) = let e = y.0 in inl (omega (arith, x, e))
trans a b c (inr x) (inl y) = let e = x.0 in inl (omega (arith, y, e))
trans a b c (inr x) (inr y) = let d = x.0 in let e = y.0 in let k = x.1 in let l = y.1 in
    inr (omega (arith, d, e), omega (arith, k, l))

irreflexive : (a b n r : ℕ) → IsBefore (a, b) (n, r) → (a ≡ n) × (b ≡ r) → ⊥
irreflexive a b n r (inl x) e = let d = e.0 in omega (arith, x, d)
irreflexive a b n r (inr x) e = let k = x.1 in let d = e.1 in omega (arith, k, d)

-- register r of layer n is used once more
module _ (uses comes : ℕ → ℕ → ℕ) (n r : ℕ) (here : comes n r ≡ 1)
    (elsewhere : (m q : ℕ) → ¬ ((m ≡ n) × (q ≡ r)) → comes m q ≡ 0) where
  abbrev more : ℕ → ℕ → ℕ
  more m q = uses m q + comes m q

  abbrev Here : ℕ → ℕ → Type 0
  Here m q = (m ≡ n) × (q ≡ r)

  here_or_not : (m q : ℕ) → Here m q ⊎ ¬ Here m q
  here_or_not m q = elim (cases_eq m n) as (λ _. Here m q ⊎ ¬ Here m q) [
    | inl same ↦ elim (cases_eq q r) as (λ _. Here m q ⊎ ¬ Here m q)
        [ inl too ↦ inl (same, too) | inr other ↦ inr (λ e. other e.1) ]
    | inr other ↦ inr (λ e. other e.0)
  ]

  more_here : (m q : ℕ) → Here m q → more m q ≡ uses n r + 1
  more_here m q at = ap (λ k. more k q) at.0 ∙ ap (λ k. more n k) at.1 ∙ ap (λ k. uses n r + k) here

  more_elsewhere : (m q : ℕ) → ¬ Here m q → more m q ≡ uses m q
  more_elsewhere m q other = let none = elsewhere m q other in omega (arith, none)

  few_before : (m q : ℕ) → uses m q ≤ 1 → ¬ Here m q → more m q ≤ 1
  few_before m q few other = let is = more_elsewhere m q other in omega (arith, is, few)

  -- it is free
  pub first_more : (clash : Option (ℕ × ℕ)) → uses n r ≡ 0 → IsFirstAbove 1 uses clash →
      IsFirstAbove 1 more clash
  first_more None free few = λ m q. elim (here_or_not m q) as (λ _. more m q ≤ 1) [
    | inl at ↦ let is = more_here m q at in omega (arith, is, free)
    | inr other ↦ few_before m q (few m q) other
  ]
  first_more (Some at) free first = (
    let a = first.0 in omega (arith, a),
    λ m q before.
        elim (here_or_not m q) as (λ _. more m q ≤ 1) [
          | inl here_ ↦ let is = more_here m q here_ in omega (arith, is, free)
          | inr other ↦ few_before m q (first.1 m q before) other
        ],
  )

  -- it is in use
  pub marks_again : (regs : List ℕ) → ((m q : ℕ) → mark regs m q ≡ min 1 (uses m q)) →
      mark regs n r ≡ 1
      → (m q : ℕ) → mark regs m q ≡ min 1 (more m q)
  marks_again regs marks used m q =
      elim (here_or_not m q) as (λ _. mark regs m q ≡ min 1 (more m q)) [
        | inl at ↦
            let is = more_here m q at in
            let now = ap (λ k. mark regs k q) at.0 ∙ ap (λ k. mark regs n k) at.1 in
            omega (arith, is, now, used)
        | inr other ↦ let is = more_elsewhere m q other in let was = marks m q in
            omega (arith, is, was)
      ]

  pub first_again : (clash : Option (ℕ × ℕ)) (c : ℕ × ℕ) → 0 < uses n r → IsEarlier clash (n, r) c →
      IsFirstAbove 1 uses clash → IsFirstAbove 1 more (Some c)
  first_again None c used is few = subst (λ c. IsFirstAbove 1 more (Some c)) (sym is) (
    let at = more_here n r (refl, refl) in omega (arith, at, used),
    λ m q before. few_before m q
        (few m q) (irreflexive m q n r before),
  )
  first_again (Some at) c used (inl (less, is)) first = subst (λ c. IsFirstAbove 1 more (Some c))
      (sym is) (
        let here_ = more_here n r (refl, refl) in omega (arith, here_, used),
        λ m q before. few_before m q (first.1 m q (trans (m, q) (n, r) at before less))
            (irreflexive m q n r before),
      )
  first_again (Some at) c used (inr (later, is)) first = subst (λ c. IsFirstAbove 1 more (Some c))
      (sym is) (
        let two = first.0 in omega (arith, two),
        λ m q before. few_before m q (first.1 m q before) (λ here_. later (moved m q here_ before)),
      )
    where
      moved : (m q : ℕ) → (m ≡ n) × (q ≡ r) → IsBefore (m, q) at → IsBefore (n, r) at
      moved m q here_ before = subst (λ k. IsBefore (k, r) at) here_.0
          (subst (λ k. IsBefore (m, k) at) here_.1 before)
