-- A scalar has no parts.
use Rattle.std.proofs.Common.{◌≡◌, ℕ, true, List, [], ◌∷◌, Some, None, refl, sym, ap, ◌∙◌, ⊎_elim}
use Rattle.std.specs.Prelude.{nat_eq, unwrap_or, slice_get}
use Rattle.std.proofs.lemmas.Bool.{eqb-true, or_cases}
use Rattle.pra_list.specs.Options.{◌>>=◌}
use Rattle.pra_list.proofs.Options.{none_some}
use Rattle.ob_syntax.specs.Expressions.{integer, boolean}
use Rattle.ob_syntax.specs.WellFormed.{is_scalar}
use Rattle.ob_syntax.specs.declared.checked.Shape.{Shape}
use Rattle.ob_syntax.specs.declared.checked.Shape.TheVariants.{Integer}
use Rattle.ob_syntax.specs.declared.checked.Checked.{Checked}
use Rattle.ob_syntax.specs.declared.checked.CheckedProc.{CheckedProc}
use Rattle.ob_syntax.specs.declared.checked.Param.{Param}
use Rattle.ob_mean.specs.Designators.{shape_of}
use Rattle.ob_mean.specs.declared.store.LiveCall.{LiveCall}
use Rattle.vc_relation.specs.Spots.{param_of}
use Rattle.vc_relation.specs.Layout.{Part, TypesInOrder, part_in, part_along, words_before, further}

no_part : (shapes : List Shape) → TypesInOrder shapes → (t k : ℕ) → is_scalar t ≡ true →
    part_in (shape_of shapes t) k ≡ None
no_part shapes ordered t k e =
    ⊎_elim
    (λ (a : nat_eq t integer ≡ true). ap (λ z. part_in z k)
    (ap (shape_of shapes) (eqb-true t integer a) ∙ ap (λ o. unwrap_or o Integer) ordered.first))
    (λ (b : nat_eq t boolean ≡ true). ap (λ z. part_in z k)
    (ap (shape_of shapes) (eqb-true t boolean b) ∙ ap (λ o. unwrap_or o Integer)
    ordered.second))
    (or_cases (nat_eq t integer) (nat_eq t boolean) e)

pub no_path : (shapes : List Shape) → TypesInOrder shapes → (t : ℕ) (path : List ℕ) (p : Part) →
    is_scalar t ≡ true → part_along shapes t path ≡ Some p → path ≡ []
no_path shapes ordered t [] p scalar e = refl
no_path shapes ordered t (k ∷ path) p scalar e =
    absurd (none_some (sym (ap
    (λ o. o >>= λ element. part_along shapes element path >>= λ q. Some
    (further (words_before shapes (shape_of shapes t) k) q))
    (no_part shapes ordered t k scalar)) ∙ e))

pub param_found : (program : Checked) (call : LiveCall) (k : ℕ) (proc : CheckedProc)
    (param : Param) → slice_get program.procs call.proc.0 ≡ Some proc → slice_get proc.params k ≡
    Some param → param_of program call k ≡ Some (proc, param)
param_found program call k proc param e f =
    ap (λ o. o >>= λ p. slice_get p.params k >>= λ q. Some (p, q)) e
    ∙ ap (λ o. o >>= λ q. Some (proc, q)) f
