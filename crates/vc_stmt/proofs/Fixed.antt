-- No variable of the source is a constant of the code.
use Rattle.std.proofs.Common.{◌≡◌, ℕ, ◌^◌, ◌<◌, Bool, true, false, List, refl, sym, ap, ◌∙◌, subst}
use Rattle.std.proofs.Common.{arith}
use Rattle.std.specs.Prelude.{pos}
use Rattle.std.proofs.lemmas.Bool.{lt-ltb}
use Rattle.pra_base.specs.Code.{kind_of}
use Rattle.pra_base.specs.declared.ids.VarId.{VarId}
use Rattle.pra_base.specs.declared.code.VarKind.{VarKind}
use Rattle.pra_base.specs.declared.code.VarKind.TheVariants.{Param, Plain, Constant}
use Rattle.pra_base.specs.declared.code.VProc.{VProc}
use Rattle.ob_syntax.specs.Expressions.{integer}
use Rattle.ob_syntax.specs.Operators.{number}
use Rattle.ob_syntax.specs.WellFormed.{is_scalar}
use Rattle.ob_syntax.specs.declared.checked.Value.{Value}
use Rattle.ob_syntax.specs.declared.checked.Value.TheVariants.{Number}
use Rattle.ob_mean.specs.Statements as mean
use Rattle.ob_mean.specs.declared.store.LiveCall.{LiveCall}
use Rattle.ob_mean.specs.declared.store.Location.{Location}
use Rattle.vc_code.specs.Machine.{State}
use Rattle.vc_code.specs.Selected.{Vars, code_of}
use Rattle.vc_build.specs.Grow.{IsOpen, Grows}
use Rattle.vc_build.specs.Runs.{Codes}
use Rattle.vc_build.proofs.Growth.{grows_at_same}
use Rattle.vc_expr.specs.Readable.{is_constant}
use Rattle.vc_relation.specs.Relation.{is_of_type}
use Rattle.vc_select.specs.declared.target.Setting.{Setting}
use Rattle.vc_select.specs.declared.target.Target.{Target}
use Rattle.vc_select.specs.declared.target.Target.TheVariants.{Var}
use Rattle.vc_select.specs.Selects as selects
use Rattle.vc_select.specs.Selects.{home_variables}
use Rattle.vc_select.specs.Targets.{IsVariable}
use Rattle.vc_stmt.specs.Does.{Matches}
use Rattle.vc_stmt.specs.Stores.{Stores, Reads}
use Rattle.vc_stmt.proofs.Storing.{is_home}

same_test : (k : VarKind) → selects.is_constant k ≡ is_constant k
same_test (Param k) = refl
same_test Plain = refl
same_test (Constant n) = refl

not_both : (b : Bool) → b ≡ true → b ≡ false → ⊥
not_both b t f = cc

zero_typed : is_of_type integer (number (Number (pos 0))) ≡ true
zero_typed = lt-ltb 0 (2 ^ 31) (omega arith)

module _ (g : Setting) (old : VProc) (at : ℕ) (u : VarId)
    (fixed : is_constant (kind_of old u.0) ≡ true) where
  no_home : (w : Codes) (calls : List LiveCall) (waiting : List Vars) (m : mean.State)
      (s : State Vars) (l : Location) (type_id : ℕ) (x : Value) →
      Grows old (code_of w.procs g.id.0) → Matches g w old at calls waiting m s →
      IsVariable g.program.now w calls u.0 l type_id → is_scalar type_id ≡ true →
      is_of_type type_id (number x) ≡ true → ⊥
  no_home w calls waiting m s l type_id x holds matches named scalar typed =
      let home : u.0 < home_variables g = is_home g w old at calls waiting m s matches holds l
      type_id x scalar typed u.0 named in
      let kind : kind_of (code_of w.procs g.id.0) u.0 ≡ kind_of old u.0 =
      holds.kinds u.0 (omega (arith, home, matches.starts.homes)) in
      not_both (is_constant (kind_of old u.0)) fixed
      (sym (ap is_constant kind) ∙ sym (same_test (kind_of (code_of w.procs g.id.0) u.0))
      ∙ matches.starts.variables u.0 home)

  pub stores_fixed : (v : ℕ) → IsOpen old at → Stores g at old old (Var u) v
  stores_fixed v o = record {
    grows = grows_at_same old at;
    is_open = o;
    means = λ w calls waiting m s l type_id x final matches named scalar value typed.
        absurd (no_home w calls waiting m s l type_id x final matches named scalar typed);
  }

  reads_fixed : IsOpen old at → Reads g at old old (Var u)
  reads_fixed o = record {
    grows = grows_at_same old at;
    is_open = o;
    means = λ w least calls waiting m s l final matches named.
        absurd (no_home w calls waiting m s l integer (Number (pos 0)) final matches named refl
        zero_typed);
  }

  pub stores_fixed_done : (target : Target) (v : ℕ) → target ≡ Var u → IsOpen old at →
      Stores g at old old target v
  stores_fixed_done target v is o = subst (λ (t : Target). Stores g at old old t v) (sym is)
      (stores_fixed v o)

  pub reads_fixed_done : (target : Target) → target ≡ Var u → IsOpen old at →
      Reads g at old old target
  reads_fixed_done target is o = subst (λ (t : Target). Reads g at old old t) (sym is)
      (reads_fixed o)
