-- Lists side by side: what holds of the elements with one number.
use Rattle.std.proofs.Common.{◌≡◌, ℕ, zero, suc, List, [], ◌∷◌, length, map, Some, refl, ap₂, arith}
use Rattle.std.specs.Prelude.{slice_get}
use Rattle.pra_list.proofs.Options.{some_same}

-- two lists of which the elements with one number give the same
pub same_maps : {X Y Z : Type 0} (f : X → Z) (g : Y → Z) (xs : List X) (ys : List Y) → length ys ≡
    length xs →
    ((k : ℕ) (x : X) (y : Y) → slice_get xs k ≡ Some x → slice_get ys k ≡ Some y → f x ≡ g y) →
    map f xs ≡ map g ys
same_maps f g [] [] e same = refl
same_maps f g [] (y ∷ ys) e same = absurd (omega (arith, e))
same_maps f g (x ∷ xs) [] e same = absurd (omega (arith, e))
same_maps f g (x ∷ xs) (y ∷ ys) e same =
    ap₂ (λ z zs. z ∷ zs) (same 0 x y refl refl)
    (same_maps f g xs ys (omega (arith, e)) (λ k. same (suc k)))

-- what an element of a mapped list comes from
pub record Mapped {X Y : Type 0} (f : X → Y) (xs : List X) (k : ℕ) (y : Y) : Type 0 where
  pub from : X
  pub there : slice_get xs k ≡ Some from
  pub is : f from ≡ y

pub mapped : {X Y : Type 0} (f : X → Y) (xs : List X) (k : ℕ) (y : Y) → slice_get (map f xs) k ≡
    Some y → Mapped f xs k y
mapped f [] k y e = cc
mapped f (x ∷ xs) zero y e = record { from = x; there = refl; is = some_same (f x) y e }
mapped f (x ∷ xs) (suc k) y e =
    let rest = mapped f xs k y e in
    record { from = rest.from; there = rest.there; is = rest.is }

-- two lists that were mapped from one
pub record BothMapped {X Y Z : Type 0} (f : X → Y) (g : X → Z) (xs : List X) (k : ℕ) (y : Y)
    (z : Z) : Type 0 where
  pub from : X
  pub there : slice_get xs k ≡ Some from
  pub one : f from ≡ y
  pub other : g from ≡ z

pub both_mapped : {X Y Z : Type 0} (f : X → Y) (g : X → Z) (xs : List X) (k : ℕ) (y : Y) (z : Z) →
    slice_get (map f xs) k ≡ Some y → slice_get (map g xs) k ≡ Some z → BothMapped f g xs k y z
both_mapped f g [] k y z e d = cc
both_mapped f g (x ∷ xs) zero y z e d =
    record { from = x; there = refl; one = some_same (f x) y e; other = some_same (g x) z d }
both_mapped f g (x ∷ xs) (suc k) y z e d =
    let rest = both_mapped f g xs k y z e d in
    record { from = rest.from; there = rest.there; one = rest.one; other = rest.other }
