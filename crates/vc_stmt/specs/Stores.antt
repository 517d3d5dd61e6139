-- What code that gives a value to a variable of the source does.
use Rattle.std.specs.Prelude.{◌≡◌, ℕ, true, List}
use Rattle.ob_syntax.specs.Expressions.{integer}
use Rattle.pra_base.specs.declared.code.VProc.{VProc}
use Rattle.ob_syntax.specs.Operators.{number}
use Rattle.ob_syntax.specs.WellFormed.{is_scalar}
use Rattle.ob_syntax.specs.declared.checked.Value.{Value}
use Rattle.ob_mean.specs.Statements as mean
use Rattle.ob_mean.specs.Statements.{store_at, read_to}
use Rattle.ob_mean.specs.declared.store.LiveCall.{LiveCall}
use Rattle.ob_mean.specs.declared.store.Location.{Location}
use Rattle.vc_code.specs.Machine.{State}
use Rattle.vc_code.specs.Selected.{Vars, code_of}
use Rattle.vc_build.specs.Grow.{Grows, GrowsAt, IsOpen}
use Rattle.vc_build.specs.Runs.{Codes}
use Rattle.vc_expr.specs.Operators.{HasValue}
use Rattle.vc_relation.specs.Relation.{is_of_type}
use Rattle.vc_select.specs.declared.target.Setting.{Setting}
use Rattle.vc_select.specs.declared.target.Target.{Target}
use Rattle.vc_select.specs.Targets.{IsNamed}
use Rattle.vc_stmt.specs.Completes.{Comes, Completes}
use Rattle.vc_stmt.specs.Does.{Matches}

-- From a variable of the code that has a value of its type, the added code assigns the value to the
-- scalar location of a target.
pub record Stores (g : Setting) (at : ℕ) (old new : VProc) (target : Target) (v : ℕ) : Type 0 where
  pub grows : GrowsAt at old new
  pub is_open : IsOpen new at
  pub means : (w : Codes) (calls : List LiveCall) (waiting : List Vars) (m : mean.State)
      (s : State Vars) (l : Location) (type_id : ℕ) (x : Value) →
      Grows new (code_of w.procs g.id.0) → Matches g w old at calls waiting m s →
      IsNamed g.program.now w calls s target l type_id → is_scalar type_id ≡ true →
      HasValue w g.id.0 v s.top x → is_of_type type_id (number x) ≡ true →
      Comes w s 0 (Matches g w new at calls waiting (store_at m l x))

-- The added code takes the next word of the input for the location of a target, or traps where none
-- is left.
pub record Reads (g : Setting) (at : ℕ) (old new : VProc) (target : Target) : Type 0 where
  pub grows : GrowsAt at old new
  pub is_open : IsOpen new at
  pub means : (w : Codes) (least : ℕ) (calls : List LiveCall) (waiting : List Vars)
      (m : mean.State) (s : State Vars) (l : Location) →
      Grows new (code_of w.procs g.id.0) → Matches g w old at calls waiting m s →
      IsNamed g.program.now w calls s target l integer →
      Completes w s least (Matches g w new at calls waiting) (read_to m.input l m)
