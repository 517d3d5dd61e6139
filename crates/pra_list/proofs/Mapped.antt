-- Tests of a list: of a mapped one, and by counting.
use Rattle.std.proofs.Common.{◌≡◌, ℕ, ◌+◌, Bool, true, false, List, [], ◌∷◌, map, nat_lt, refl, ap}
use Rattle.std.proofs.Common.{◌∙◌, arith}
use Rattle.std.specs.Prelude.{◌||◌, cond, count_by}
use Rattle.std.specs.List.{list_any}
use Rattle.std.proofs.lemmas.Bool.Decides.{nat_tests}
use Rattle.std.proofs.lemmas.List.Sums.{sum_by-cons}

pub list_any-map : {X Y : Type 0} (p : Y → Bool) (h : X → Y) (xs : List X) → list_any p (map h xs) ≡
    list_any (λ x. p (h x)) xs
list_any-map p h [] = refl
list_any-map p h (x ∷ xs) = ap (λ b. p (h x) || b) (list_any-map p h xs)

-- one more that passes, or not
counted : (b : Bool) (n : ℕ) (more : Bool) → nat_lt 0 n ≡ more → nat_lt 0 (cond b 1 0 + n) ≡
    (b || more)
counted true n more same = grind (arith, nat_tests)
counted false n more same = let e : 0 + n ≡ n = omega arith in ap (nat_lt 0) e ∙ same

-- some element passes where the count of those is not 0
pub any-count : {X : Type 0} (p : X → Bool) (xs : List X) → nat_lt 0 (count_by p xs) ≡ list_any p xs
any-count p [] = refl
any-count p (x ∷ xs) = ap (nat_lt 0) (sum_by-cons (λ y. cond (p y) 1 0) x xs)
    ∙ counted (p x) (count_by p xs) (list_any p xs) (any-count p xs)
