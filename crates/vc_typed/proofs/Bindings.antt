-- What is known of a reading that gives something.
use Rattle.std.proofs.Common.{◌≡◌, ℕ, true, refl, eqb-true, eq-eqb}
use Rattle.std.specs.Prelude.{Ok, Err, nat_eq}
use Rattle.ob_syntax.specs.Expressions.{of_type}
use Rattle.ob_syntax.specs.Names.{Fault, Judged}
use Rattle.ob_syntax.specs.declared.checked.RExpr.{RExpr}
use Rattle.ob_syntax.specs.declared.checked.Typed.{Typed}
use Rattle.pra_list.proofs.Choices.{by_test}

pub ok_same : {A : Type 0} (x y : A) → ◌≡◌ {A = Judged A} (Ok x) (Ok y) → x ≡ y
ok_same x y h = cc

pub ok_err : {A : Type 0} {x : A} {f : Fault} → ◌≡◌ {A = Judged A} (Err f) (Ok x) → ⊥
ok_err h = cc

pub of_type_is : (rule t token : ℕ) (e : Typed) (x : RExpr) → of_type rule t token e ≡ Ok x →
    (e.type_id ≡ t) × (e.expr ≡ x)
of_type_is rule t token e x h =
    by_test (nat_eq e.type_id t) (Ok e.expr) (Err (rule, token)) (Ok x)
    (λ is same. (eqb-true e.type_id t is, ok_same e.expr x same)) (λ no same. absurd (cc)) h

pub eq_self : (n : ℕ) → nat_eq n n ≡ true
eq_self n = eq-eqb n n refl
