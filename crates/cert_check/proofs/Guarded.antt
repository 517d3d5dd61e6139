-- Numbers that may be there, behind a test.
use Rattle.std.proofs.Common.{◌≡◌, Bool, true, false, ℤ, Option, Some, None, refl, sym, ap}
use Rattle.std.specs.Prelude.{if◌then◌else◌, option_map}
use Rattle.pra_list.proofs.Options.{some_same}

-- a number that becomes another one, where the test holds
abbrev pub guarded : Bool → (ℤ → ℤ) → Option ℤ → Option ℤ
guarded b f o = if b then option_map f o else None

pub record Guarded (b : Bool) (f : ℤ → ℤ) (o : Option ℤ) (z : ℤ) : Type 0 where
  pub test : b ≡ true
  pub old : ℤ
  pub was : o ≡ Some old
  pub is : z ≡ f old

pub guarded_some : (b : Bool) (f : ℤ → ℤ) (o : Option ℤ) (z : ℤ) → guarded b f o ≡ Some z
    → Guarded b f o z
guarded_some true f (Some d) z is =
    record { test = refl; old = d; was = refl; is = some_same z (f d) (sym is) }
guarded_some true f None z is = cc
guarded_some false f o z is = cc

pub guarded_is : (b : Bool) (f : ℤ → ℤ) (o : Option ℤ) (d : ℤ) → b ≡ true → o ≡ Some d
    → guarded b f o ≡ Some (f d)
guarded_is true f o d test was = ap (option_map f) was
guarded_is false f o d test was = cc
