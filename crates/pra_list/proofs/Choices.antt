-- Truth values, and what is chosen by them.
use Rattle.std.proofs.Common.{◌≡◌, Bool, true, false, not, ◌&&◌, refl}
use Rattle.std.specs.Prelude.{◌||◌, if◌then◌else◌}

pub not_true : (b : Bool) → not b ≡ true → b ≡ false
not_true true h = cc
not_true false h = refl

pub and_true : (a b : Bool) → (a && b) ≡ true → (a ≡ true) × (b ≡ true)
and_true true b h = (refl, h)
and_true false b h = cc

pub or_false : (a b : Bool) → (a || b) ≡ false → (a ≡ false) × (b ≡ false)
or_false true b h = cc
or_false false b h = (refl, h)

-- a choice by its test
pub either : {A : Type 0} (P : A → Type 0) (b : Bool) (x y : A) →
    (b ≡ true → P x) → (b ≡ false → P y) → P (if b then x else y)
either P true x y f g = f refl
either P false x y f g = g refl

-- what follows of a choice that is known
pub by_test : {A Q : Type 0} (b : Bool) (x y z : A) →
    (b ≡ true → x ≡ z → Q) → (b ≡ false → y ≡ z → Q) → (if b then x else y) ≡ z → Q
by_test true x y z f g e = f refl e
by_test false x y z f g e = g refl e
