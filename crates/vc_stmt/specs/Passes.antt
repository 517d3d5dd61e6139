-- What the code of a call does before its Call: arguments are evaluated, and then pushed.
use Rattle.std.specs.Prelude.{◌≡◌, ℕ, true, List, [], ◌∷◌, length, Some}
use Rattle.pra_base.specs.Code.{kind_of}
use Rattle.pra_base.specs.declared.ids.ProcId.{ProcId}
use Rattle.pra_base.specs.declared.ids.VarId.{VarId}
use Rattle.pra_base.specs.declared.code.VInstr.TheVariants.{Push, Call}
use Rattle.pra_base.specs.declared.code.VProc.{VProc}
use Rattle.ob_syntax.specs.WellFormed.{lent_by}
use Rattle.ob_syntax.specs.declared.checked.Checked.{Checked}
use Rattle.ob_syntax.specs.declared.checked.Param.{Param}
use Rattle.ob_syntax.specs.declared.checked.RArg.{RArg}
use Rattle.ob_mean.specs.Statements.{argument, arguments}
use Rattle.ob_mean.specs.Store.{Store}
use Rattle.ob_mean.specs.declared.store.Argument.{Argument}
use Rattle.ob_mean.specs.declared.store.LiveCall.{LiveCall}
use Rattle.ob_mean.specs.declared.store.Location.{Location}
use Rattle.vc_code.specs.Machine.{Activation, State}
use Rattle.vc_code.specs.Selected.{Vars, read, code_of}
use Rattle.vc_build.specs.Grow.{GrowsAt, IsOpen, with_instr}
use Rattle.vc_build.specs.Runs.{Codes, Stands, SameBelow, Reaches, Yields}
use Rattle.vc_relation.specs.Relation.{IsAddressOf}
use Rattle.vc_relation.specs.Spots.{InVariable, placed_at, placed}
use Rattle.vc_select.specs.declared.target.Setting.{Setting}
use Rattle.vc_select.specs.declared.target.Target.{Target}
use Rattle.vc_select.specs.Selects.{Starts, Extends, selected_module}
use Rattle.vc_select.specs.Targets.{IsNamed}
use Rattle.vc_typed.specs.TypedStatements.{is_passed, are_passed}
use Rattle.vc_call.specs.Begins.{IsPushed}
use Rattle.vc_stmt.specs.Sound.{addressed}

-- a variable has what is pushed for an argument
abbrev pub HasArgument :
    Checked → Codes → ℕ → List LiveCall → Param → Argument → ℕ → Activation Vars → Type 0
HasArgument program w id calls param x v c =
    IsPushed (selected_module program w) calls param x
    (read (kind_of (code_of w.procs id)) c.home.held v)

-- the same of all arguments, in order
abbrev pub HaveArguments :
    Checked → Codes → ℕ → List LiveCall → List Param → List Argument → List VarId →
    Activation Vars → Type 0
HaveArguments program w id calls [] [] [] c = Unit {0}
HaveArguments program w id calls (p ∷ ps) (x ∷ xs) (v ∷ vs) c =
    HasArgument program w id calls p x v.0 c × HaveArguments program w id calls ps xs vs c
HaveArguments program w id calls _ _ _ c = ⊥

-- The added code gives a variable the address of a target's location, where that is in no variable.
pub record Lends (g : Setting) (at : ℕ) (old new : VProc) (target : Target) (v : ℕ) : Type 0 where
  pub grows : GrowsAt at old new
  pub is_open : IsOpen new at
  pub means : (w : Codes) (calls : List LiveCall) (store : Store) (s : State Vars) (l : Location)
      (type_id : ℕ) → Starts g w old new at calls store s →
      IsNamed g.program.now w calls s target l type_id →
      ((depth u k : ℕ) → placed g.program.now w.frames calls l
      ≡ Some (placed_at (InVariable depth u) k) → ⊥) →
      Reaches w s (λ c. Stands new at c × SameBelow (length old.vars) s.top c
      × IsAddressOf (selected_module g.program.now w) calls l type_id
      (read (kind_of (code_of w.procs g.id.0)) c.home.held v))

-- The added code gives a variable what is pushed for an argument, or comes to its trap.
pub record Passes (g : Setting) (old new : VProc) (from to v : ℕ) (arg : RArg) : Type 0 where
  pub extends : Extends from to old new
  pub means : (w : Codes) (calls : List LiveCall) (store : Store) (s : State Vars) (param : Param) →
      Starts g w old new from calls store s →
      is_passed g.program.now g.id.0 param arg ≡ true →
      addressed g.program.now g.id.0 (lent_by (arg ∷ [])) ≡ true →
      Yields w s
      (λ x c. Stands new to c × SameBelow (length old.vars) s.top c
      × HasArgument g.program.now w g.id.0 calls param x v c)
      (argument g.program.now calls store arg)

-- The same of all arguments.
pub record PassesAll
    (g : Setting) (old new : VProc) (from to : ℕ) (vs : List VarId) (args : List RArg)
    : Type 0 where
  pub extends : Extends from to old new
  pub means : (w : Codes) (calls : List LiveCall) (store : Store) (s : State Vars)
      (params : List Param) → Starts g w old new from calls store s →
      are_passed g.program.now g.id.0 params args ≡ true →
      addressed g.program.now g.id.0 (lent_by args) ≡ true →
      Yields w s
      (λ xs c. Stands new to c × SameBelow (length old.vars) s.top c
      × HaveArguments g.program.now w g.id.0 calls params xs vs c)
      (arguments g.program.now calls store args)

-- pushes at the end of a block, in order
abbrev pub with_pushes : ℕ → List VarId → VProc → VProc
with_pushes at [] code = code
with_pushes at (v ∷ vs) code = with_pushes at vs (with_instr at (Push v) code)

-- and the call behind them
abbrev pub with_call : ℕ → ProcId → List VarId → VProc → VProc
with_call at p vs code = with_instr at (Call p) (with_pushes at vs code)
