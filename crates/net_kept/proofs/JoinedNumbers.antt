-- Entries whose indexes and numbers stand in two lists.
use Rattle.std.proofs.Common.{ℕ, zero, suc, ◌≡◌, ◌+◌, ◌<◌, ℤ, pos, List, [], ◌∷◌, ◌++◌, length}
use Rattle.std.proofs.Common.{get_or, take, refl, sym, ap, ◌∙◌, arith}
use Rattle.std.proofs.lemmas.List.{length_push, take_more}
use Rattle.net_kept.specs.declared.prices.NumberAt.{NumberAt}
use Rattle.net_kept.specs.Numbers.{joined, IsAdded}

-- what stands past the end of entries
abbrev pub no_entry : NumberAt
no_entry = record { index = 0; number = pos 0 }

joined_push : (is : List ℕ) (zs : List ℤ) (i : ℕ) (z : ℤ) → length is ≡ length zs
    → joined (is ++ i ∷ []) (zs ++ z ∷ []) ≡ joined is zs ++ record { index = i; number = z } ∷ []
joined_push [] [] i z long = refl
joined_push [] (y ∷ zs) i z long = absurd (omega (arith, long))
joined_push (j ∷ is) [] i z long = absurd (omega (arith, long))
joined_push (j ∷ is) (y ∷ zs) i z long = ap (λ (es : List NumberAt).
    record { index = j; number = y } ∷ es) (joined_push is zs i z (omega (arith, long)))

pub added : (is : List ℕ) (zs : List ℤ) (i : ℕ) (z : ℤ) → length is ≡ length zs
    → IsAdded is zs (record { index = i; number = z }) (is ++ i ∷ []) (zs ++ z ∷ [])
added is zs i z long = record {
  long =
      let one = length_push is i in
      let other = length_push zs z in
      omega (arith, one, other, long);
  same = joined_push is zs i z long;
}

pub length_joined : (is : List ℕ) (zs : List ℤ) → length is ≡ length zs
    → length (joined is zs) ≡ length is
length_joined [] zs long = refl
length_joined (i ∷ is) [] long = absurd (omega (arith, long))
length_joined (i ∷ is) (z ∷ zs) long = ap suc (length_joined is zs (omega (arith, long)))

get_joined : (is : List ℕ) (zs : List ℤ) (k : ℕ) → length is ≡ length zs → k < length is
    → get_or (joined is zs) k no_entry
    ≡ record { index = get_or is k 0; number = get_or zs k (pos 0) }
get_joined [] zs k long lt = absurd (omega (arith, lt))
get_joined (i ∷ is) [] k long lt = absurd (omega (arith, long))
get_joined (i ∷ is) (z ∷ zs) zero long lt = refl
get_joined (i ∷ is) (z ∷ zs) (suc k) long lt =
    get_joined is zs k (omega (arith, long)) (omega (arith, lt))

-- one entry more
pub joined_more : (is : List ℕ) (zs : List ℤ) (k : ℕ) → length is ≡ length zs → k < length is
    → take (k + 1) (joined is zs)
    ≡ take k (joined is zs) ++ record { index = get_or is k 0; number = get_or zs k (pos 0) } ∷ []
joined_more is zs k long lt =
    let many = length_joined is zs long in
    take_more (joined is zs) k no_entry (omega (arith, many, lt))
    ∙ ap (λ (e : NumberAt). take k (joined is zs) ++ e ∷ []) (get_joined is zs k long lt)
