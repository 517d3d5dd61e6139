-- Sums over a family of which one path was made anew.
use Rattle.std.proofs.Common.{ℕ, ◌≡◌, ◌≢◌, ◌+◌, ◌<◌, ℤ, pos, negsuc, ◌+ℤ◌, ◌≤ℤ◌, [], ◌∷◌, ◌++◌}
use Rattle.std.proofs.Common.{sym, subst, ap, inl, inr, arith}
use Rattle.std.specs.List.{range_with_len}
use Rattle.std.specs.Int.Signed.{mag}
use Rattle.std.proofs.lemmas.Int.{ints}
use Rattle.std.proofs.lemmas.Bool.{cases_eq}
use Rattle.pra_list.proofs.Comprehensions.{All-range}
use Rattle.pra_list.proofs.Growing.{last_range}
use Rattle.net_form.specs.declared.net.Net.{Net}
use Rattle.net_form.specs.declared.routes.Routes.{Routes}
use Rattle.net_form.specs.Flow.{Edge}
use Rattle.net_dual.specs.Priced.{total}
use Rattle.net_dual.specs.Paths.{path_price, path_in, IsLeast, Anywhere, any_ends}
use Rattle.net_dual.proofs.Totals.{total-append, total-agree}

pub family_more : (net : Net) (price : Edge → ℤ) (old new : Routes) (k : ℕ)
    → ((s : ℕ) → s ≢ k → path_in new s ≡ path_in old s)
    → total (λ s. path_price net price s (path_in new s)) (range_with_len 0 (k + 1))
    ≡ total (λ s. path_price net price s (path_in old s)) (range_with_len 0 k)
    +ℤ path_price net price k (path_in new k)
family_more net price old new k others =
    let f = λ (s : ℕ). path_price net price s (path_in new s) in
    let g = λ (s : ℕ). path_price net price s (path_in old s) in
    let split : total f (range_with_len 0 (k + 1))
    ≡ total f (range_with_len 0 k ++ (0 + k) ∷ []) = ap (total f) (last_range 0 k) in
    let sum = total-append f (range_with_len 0 k) ((0 + k) ∷ []) in
    let e : 0 + k ≡ k = omega arith in
    let one : f (0 + k) ≡ f k = ap f e in
    let same : total f (range_with_len 0 k) ≡ total g (range_with_len 0 k)
    = total-agree f g (range_with_len 0 k)
    (All-range (λ s. f s ≡ g s) 0 k
    (λ s le lt. ap (path_price net price s) (others s (λ is. omega (arith, is, lt))))) in
    omega (arith, ints, split, sum, one, same)

pub family_least : (net : Net) (price : Edge → ℤ) (old new : Routes) (k : ℕ)
    → ((s : ℕ) → s ≢ k → path_in new s ≡ path_in old s)
    → ((s : ℕ) → s < k → IsLeast net price any_ends Anywhere s (path_in old s))
    → IsLeast net price any_ends Anywhere k (path_in new k)
    → (s : ℕ) → s < k + 1 → IsLeast net price any_ends Anywhere s (path_in new s)
family_least net price old new k others before here s lt =
    elim (cases_eq s k) as (λ _. IsLeast net price any_ends Anywhere s (path_in new s)) [
      | inl same ↦
          subst (λ s. IsLeast net price any_ends Anywhere s (path_in new s)) (sym same) here
      | inr other ↦
          subst (IsLeast net price any_ends Anywhere s) (sym (others s other))
          (before s (omega (arith, lt, other)))
    ]

pub low_of : (z : ℤ) (n : ℕ) → mag z < n → pos 0 ≤ℤ (z +ℤ pos n)
low_of (pos k) n lt = omega (arith, ints, lt)
low_of (negsuc k) n lt = omega (arith, ints, lt)

pub high_of : (z : ℤ) (n : ℕ) → mag z < n → z ≤ℤ pos n
high_of (pos k) n lt = omega (arith, ints, lt)
high_of (negsuc k) n lt = omega (arith, ints, lt)
