-- Options by cases.
use Rattle.std.proofs.Common.{◌≡◌, Option, Some, None, refl}
use Rattle.pra_list.specs.Options.{◌>>=◌}

pub some_same : {A : Type 0} (x y : A) → Some x ≡ Some y → x ≡ y
some_same x y e = cc

pub none_some : {A : Type 0} {x : A} → None ≡ Some x → ⊥
none_some e = cc

pub not_both : {A : Type 0} (o : Option A) (x : A) → o ≡ None → o ≡ Some x → ⊥
not_both o x e f = cc

-- what came of a step came of a value
pub bind_some : {A B : Type 0} (o : Option A) (f : A → Option B) (y : B) →
    (o >>= f) ≡ Some y → (x : A) × (o ≡ Some x) × (f x ≡ Some y)
bind_some (Some x) f y e = (x, refl, e)
bind_some None f y e = cc
