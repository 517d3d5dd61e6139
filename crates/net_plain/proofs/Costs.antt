-- Numbers that may be there, and sums behind a test.
use Rattle.std.proofs.Common.{◌≡◌, Bool, true, false, ℤ, ◌+ℤ◌, Option, Some, None, refl, sym, ap}
use Rattle.std.specs.Prelude.{option_map}
use Rattle.pra_list.proofs.Options.{some_same}
use Rattle.net_plain.specs.Rows.{plus_if}

pub record Added (b : Bool) (z : ℤ) (o : Option ℤ) (sum : ℤ) : Type 0 where
  pub test : b ≡ true
  pub old : ℤ
  pub was : o ≡ Some old
  pub is : sum ≡ old +ℤ z

pub added_some : (b : Bool) (z : ℤ) (o : Option ℤ) (sum : ℤ) → plus_if b z o ≡ Some sum
    → Added b z o sum
added_some true z (Some d) sum is =
    record { test = refl; old = d; was = refl; is = some_same sum (d +ℤ z) (sym is) }
added_some true z None sum is = cc
added_some false z o sum is = cc

pub added_is : (b : Bool) (z : ℤ) (o : Option ℤ) (d : ℤ) → b ≡ true → o ≡ Some d
    → plus_if b z o ≡ Some (d +ℤ z)
added_is true z o d test was = ap (option_map (λ d. d +ℤ z)) was
added_is false z o d test was = cc

pub added_shut : (b : Bool) (z : ℤ) (o : Option ℤ) → b ≡ false → plus_if b z o ≡ None
added_shut true z o test = cc
added_shut false z o test = refl
