-- The cost of a flow is the sum of what its edges cost.
use Rattle.std.proofs.Common.{ℕ, ◌≡◌, ◌+◌, ◌*◌, Bool, true, false, cond, List, [], ◌∷◌, count_by}
use Rattle.std.proofs.Common.{sum_by, refl, ap, ◌∙◌, arith}
use Rattle.std.proofs.lemmas.List.Sums.{sum_by-cons}
use Rattle.pra_list.proofs.Counts.{bit, count-cons}
use Rattle.net_cost.specs.declared.weights.Weights.{Weights}
use Rattle.net_form.specs.declared.net.Net.{Net}
use Rattle.net_form.specs.Flow.{Edge}
use Rattle.net_form.specs.Cost.{way_cost, extra_cost, meets, extras_cost, edge_cost, cost_by}
use Rattle.net_form.specs.Tables.{PlaceTables}

pub sum_by-plus : {X : Type 0} (f g : X → ℕ) (xs : List X) → sum_by (λ x. f x + g x) xs ≡
    sum_by f xs + sum_by g xs
sum_by-plus f g [] = refl
sum_by-plus f g (x ∷ xs) =
    let both = sum_by-cons (λ x. f x + g x) x xs in
    let one = sum_by-cons f x xs in
    let other = sum_by-cons g x xs in
    let more = sum_by-plus f g xs in
    omega (arith, both, one, other, more)

pub sum_by-none : {X : Type 0} (f : X → ℕ) → ((x : X) → f x ≡ 0) → (xs : List X) → sum_by f xs ≡ 0
sum_by-none f none [] = refl
sum_by-none f none (x ∷ xs) =
    let all = sum_by-cons f x xs in
    let one = none x in
    let more = sum_by-none f none xs in
    omega (arith, all, one, more)

-- each x, with what it costs, as often as it is met, is at each y what is met there
module _ {X Y : Type 0} (c : X → ℕ) (m : X → Y → Bool) where
  abbrev paid : Y → X → ℕ
  paid y x = cond (m x y) (c x) 0

  abbrev often : List Y → X → ℕ
  often ys x = c x * count_by (m x) ys

  once_more : (b : Bool) (a n : ℕ) → a * (bit b + n) ≡ cond b a 0 + a * n
  once_more true a n = grind arith
  once_more false a n = grind arith

  one_more : (y : Y) (ys : List Y) (xs : List X) → sum_by (often (y ∷ ys)) xs ≡
      sum_by (paid y) xs + sum_by (often ys) xs
  one_more y ys [] = refl
  one_more y ys (x ∷ xs) =
      let all = sum_by-cons (often (y ∷ ys)) x xs in
      let one = sum_by-cons (paid y) x xs in
      let rest = sum_by-cons (often ys) x xs in
      let here : c x * count_by (m x) (y ∷ ys) ≡ cond (m x y) (c x) 0 + c x * count_by (m x) ys =
      ap (λ n. c x * n) (count-cons (m x) y ys) ∙ once_more (m x y) (c x) (count_by (m x) ys) in
      let more = one_more y ys xs in
      omega (arith, all, one, rest, here, more)

  pub met_by_each : (xs : List X) (ys : List Y) → sum_by (often ys) xs ≡
      sum_by (λ y. sum_by (paid y) xs) ys
  met_by_each xs [] = sum_by-none (often []) (λ x. let e : c x * 0 ≡ 0 = omega arith in e) xs
  met_by_each xs (y ∷ ys) =
      let all = sum_by-cons (λ y. sum_by (paid y) xs) y ys in
      let here = one_more y ys xs in
      let more = met_by_each xs ys in
      omega (arith, all, here, more)

-- the law
pub cost_by_edges : (tables : PlaceTables) (net : Net) (w : Weights) (f : List Edge) →
    cost_by tables net w f ≡ sum_by (edge_cost tables net w) f
cost_by_edges tables net w f =
    let met = met_by_each (extra_cost net w) meets net.extras f in
    let both = sum_by-plus (way_cost tables net w) (λ e. extras_cost net w e.strand e.layer e.to)
    f in
    omega (arith, met, both)
