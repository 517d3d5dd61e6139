-- What code that was added for a tree does, where it begins in a state that has the store of the
-- meaning.
use Rattle.std.specs.Prelude.{◌≡◌, ◌≢◌, ℕ, ◌<◌, ◌≤◌, Bool, true, false, List, [], ◌∷◌}
use Rattle.std.specs.Prelude.{length, map, pos, Some, Ok, slice_get}
use Rattle.pra_base.specs.Code.{kind_of}
use Rattle.pra_base.specs.declared.code.VarKind.{VarKind}
use Rattle.pra_base.specs.declared.code.VarKind.TheVariants.{Constant}
use Rattle.pra_base.specs.declared.code.VProc.{VProc}
use Rattle.ob_syntax.specs.Expressions.{boolean}
use Rattle.pra_base.specs.declared.ids.BlockId.{BlockId}
use Rattle.pra_list.specs.Results.{◌>>=◌}
use Rattle.ob_syntax.specs.Operators.{Outcome, number, is_true, combined}
use Rattle.ob_syntax.specs.declared.checked.ROp.{ROp}
use Rattle.ob_syntax.specs.declared.checked.ROp.TheVariants.{Either}
use Rattle.ob_syntax.specs.Storage.{all_words}
use Rattle.ob_syntax.specs.WellFormed.{is_scalar}
use Rattle.ob_syntax.specs.declared.checked.Checked.{Checked}
use Rattle.ob_syntax.specs.declared.checked.CheckedProc.{CheckedProc}
use Rattle.ob_syntax.specs.declared.checked.Local.{Local}
use Rattle.ob_syntax.specs.declared.checked.Param.{Param}
use Rattle.ob_syntax.specs.declared.checked.RExpr.{RExpr}
use Rattle.ob_syntax.specs.declared.checked.RStep.{RStep}
use Rattle.ob_syntax.specs.declared.checked.Shape.{Shape}
use Rattle.ob_syntax.specs.declared.checked.Value.{Value}
use Rattle.ob_syntax.specs.declared.checked.Value.TheVariants.{Number}
use Rattle.ob_mean.specs.Designators.{Located, Selector, Field, Element, selected}
use Rattle.ob_mean.specs.Expressions.{Evaluation, Selecting, at_store, value, selector}
use Rattle.ob_mean.specs.Store.{Store}
use Rattle.ob_mean.specs.declared.store.LiveCall.{LiveCall}
use Rattle.ob_mean.specs.declared.store.Location.{Location}
use Rattle.vc_code.specs.Machine.{Activation, State, with_top}
use Rattle.vc_code.specs.Selected.{Vars, code_of}
use Rattle.vc_build.specs.Grow.{count, IsOpen, GrowsAt}
use Rattle.vc_build.specs.Runs.{Codes, Stands, RunsIn, SameBelow, Reaches, Yields}
use Rattle.vc_relation.specs.Homes.{param_home, local_home}
use Rattle.vc_relation.specs.Layout.{IsLaidOut}
use Rattle.vc_relation.specs.Relation.{SelectedModule, Represents, homes_in, number_at}
use Rattle.vc_expr.specs.Operators.{Gives, IsBit, of_values}
use Rattle.vc_expr.specs.Branches.{Enters, chosen}
use Rattle.vc_expr.specs.declared.branch.Targets.{Targets}
use Rattle.vc_select.specs.declared.target.Setting.{Setting}
use Rattle.vc_select.specs.declared.target.Target.{Target}
use Rattle.vc_select.specs.Targets.{IsNamed}
use Rattle.vc_typed.specs.Typing.{Typing, typed, Leading, ToField, ToElement, along}

-- ---- what selection begins with

-- Storage is laid out, and what is at hand is as the module has it: the words of its types, and the
-- homes of the procedure's parameters and locals.
pub record IsSet (g : Setting) : Type 0 where
  pub laid : IsLaidOut g.program.now
  pub words : g.words.now ≡ all_words g.program.now.types
  pub params : (proc : CheckedProc) (k : ℕ) (param : Param) →
      slice_get g.program.now.procs g.id.0 ≡ Some proc → slice_get proc.params k ≡ Some param →
      slice_get g.params.now k ≡ Some (param_home proc k param)
  pub locals : (proc : CheckedProc) (k : ℕ) (local : Local) →
      slice_get g.program.now.procs g.id.0 ≡ Some proc → slice_get proc.locals k ≡ Some local →
      slice_get g.locals.now k ≡ Some (local_home proc k local)

abbrev pub is_constant : VarKind → Bool
is_constant (Constant n) = true
is_constant _ = false

-- how many variables of the procedure's code are homes
abbrev pub home_variables : Setting → ℕ
home_variables g = homes_in (slice_get g.program.now.procs g.id.0)

abbrev pub selected_module : Checked → Codes → SelectedModule
selected_module program w = record { program = program; code = w.procs; frames = w.frames }

-- A run stands at the end of what an open block has so far, in a procedure that holds what is to be
-- added. Its state has the store.
pub record Starts
    (g : Setting) (w : Codes) (old new : VProc) (from : ℕ) (calls : List LiveCall) (store : Store)
    (s : State Vars) : Type 0 where
  pub set : IsSet g
  pub homes : home_variables g ≤ length old.vars
  pub variables : (v : ℕ) → v < home_variables g →
      is_constant (kind_of (code_of w.procs g.id.0) v) ≡ false
  pub runs : RunsIn w g.id.0 new s
  pub stands : Stands old from s.top
  pub represents : Represents (selected_module g.program.now w) calls store s

-- Code was added at the end of an open block. It ends in an open block, which is the same one or
-- new; of the blocks that the code had only the first one is another.
pub record Extends (from to : ℕ) (old new : VProc) : Type 0 where
  pub grows : GrowsAt from old new
  pub is_open : IsOpen new to
  pub apart : (b : ℕ) → b < count old → b ≢ from → b ≢ to

-- ---- expressions

-- a value is in a variable; of type BOOLEAN it is 0 or 1
pub record Results
    (w : Codes) (id : ℕ) (made : VProc) (b v first : ℕ) (old : Activation Vars) (type_id : ℕ)
    (x : Value) (new : Activation Vars) : Type 0 where
  pub gives : Gives w id made b v first old x new
  pub bit : type_id ≡ boolean → IsBit x

-- The added code gives a variable the expression's value, or comes to its trap.
pub record Selects
    (g : Setting) (old new : VProc) (from to v : ℕ) (typing : Typing) (e : Evaluation)
    : Type 0 where
  pub extends : Extends from to old new
  pub means : (w : Codes) (calls : List LiveCall) (store : Store) (s : State Vars) →
      Starts g w old new from calls store s → typing.good ≡ true →
      Yields w s (Results w g.id.0 new to v (length old.vars) s.top typing.type_id)
      (e calls store)

-- ---- variables

-- a target names a location, and the first variables are as they were
pub record Finds
    (g : Setting) (w : Codes) (made : VProc) (b : ℕ) (calls : List LiveCall) (s : State Vars)
    (first : ℕ) (target : Target) (type_id : ℕ) (l : Location) (new : Activation Vars)
    : Type 0 where
  pub stands : Stands made b new
  pub same : SameBelow first s.top new
  pub named : IsNamed g.program.now w calls (with_top s new) target l type_id

-- The added code makes the target name the variable's location, or comes to a trap of its indexes.
pub record Locates
    (g : Setting) (old new : VProc) (from to : ℕ) (target : Target) (typing : Typing)
    (find : List LiveCall → Store → Located) : Type 0 where
  pub extends : Extends from to old new
  pub means : (w : Codes) (calls : List LiveCall) (store : Store) (s : State Vars) →
      Starts g w old new from calls store s → typing.good ≡ true →
      Yields w s (Finds g w new to calls s (length old.vars) target typing.type_id)
      (find calls store)

-- The added code leads from a target, which names a location of a type, along selectors to another
-- one.
pub record Leads
    (g : Setting) (first : ℕ) (old new : VProc) (from to : ℕ) (begin end : Target) (type_id : ℕ)
    (steps : List Leading) (selectors : List Selecting) : Type 0 where
  pub extends : Extends from to old new
  pub means : (w : Codes) (calls : List LiveCall) (store : Store) (s : State Vars) (l : Location) →
      Starts g w old new from calls store s → home_variables g ≤ first →
      IsNamed g.program.now w calls s begin l type_id →
      (good : Bool) → (along g.program.now.types (typed good type_id) steps).good ≡ true →
      Yields w s
      (Finds g w new to calls s first end
      (along g.program.now.types (typed good type_id) steps).type_id)
      (selected g.program.now.types type_id l (at_store calls store selectors))

-- A variable has the number of a target's scalar location, and all variables of the old code are as
-- they were.
pub record Loads (g : Setting) (at : ℕ) (old new : VProc) (target : Target) (v : ℕ) : Type 0 where
  pub grows : GrowsAt at old new
  pub is_open : IsOpen new at
  pub means : (w : Codes) (calls : List LiveCall) (store : Store) (s : State Vars) (l : Location)
      (type_id : ℕ) (x : Value) → Starts g w old new at calls store s →
      IsNamed g.program.now w calls s target l type_id → is_scalar type_id ≡ true →
      number x ≡ number_at store l →
      Reaches w s (Results w g.id.0 new at v (length old.vars) s.top type_id x)

-- ---- operators

-- both sides are evaluated, the left one first
abbrev pub sided : ROp → Evaluation → Evaluation → Evaluation
sided op e f calls store = e calls store >>= λ x. f calls store >>= λ y. of_values op x y

-- the meaning: the right side of `&` and OR only where the left one does not decide
abbrev pub joined : ROp → Evaluation → Evaluation → Evaluation
joined op e f calls store = combined op (e calls store) (f calls store)

abbrev pub NeverTraps : Evaluation → Type 0
NeverTraps e = (calls : List LiveCall) (store : Store) → (x : Value) × (e calls store ≡ Ok x)

-- ---- conditions

-- The added code closes its block. It comes to the begin of the block that the condition's value
-- chooses, or to its trap.
pub record Tests
    (g : Setting) (old new : VProc) (from : ℕ) (targets : Targets) (typing : Typing)
    (e : Evaluation) : Type 0 where
  pub grows : GrowsAt from old new
  pub means : (w : Codes) (calls : List LiveCall) (store : Store) (s : State Vars) →
      Starts g w old new from calls store s → typing.good ≡ true →
      Yields w s (λ x c. Enters (chosen targets (is_true x)) (length old.vars) s.top c)
      (e calls store)

-- where the left side of `&` and of OR leads, with a block for the right side
abbrev pub inner_targets : ROp → BlockId → Targets → Targets
inner_targets Either right targets = record { holds = targets.holds; fails = right }
inner_targets _ right targets = record { holds = right; fails = targets.fails }

abbrev pub exchanged : Targets → Targets
exchanged targets = record { holds = targets.fails; fails = targets.holds }

-- ---- one selector, and what is known of trees

abbrev pub LeadsFrom :
    Setting → ℕ → (old new : VProc) → (from to : ℕ) → (begin end : Target) → ℕ → Leading →
    Selecting → Type 0
LeadsFrom g first old new from to begin end type_id step selector =
    Leads g first old new from to begin end type_id (step ∷ []) (selector ∷ [])

-- to the element by an index that has this typing and this meaning
abbrev pub LeadsBy :
    Setting → ℕ → (old new : VProc) → (from to : ℕ) → (begin end : Target) → ℕ → Typing →
    Evaluation → Type 0
LeadsBy g first old new from to begin end type_id typing e =
    (selector : Selecting) →
    ((calls : List LiveCall) (store : Store) → selector calls store ≡ Element (e calls store)) →
    LeadsFrom g first old new from to begin end type_id (ToElement typing) selector

-- an expression is always this number
abbrev pub Always : RExpr → ℕ → Type 0
Always e k = (program : Checked) (calls : List LiveCall) (store : Store) →
    value program e calls store ≡ Ok (Number (pos k))

abbrev pub IsSafe : RExpr → Type 0
IsSafe e = (program : Checked) → NeverTraps (value program e)

-- selectors that lead on in any module
abbrev pub AreFields : List RStep → Type 0
AreFields steps =
    (program : Checked) (calls : List LiveCall) (store : Store) (shapes : List Shape)
    (type_id : ℕ) (l : Location) →
    (m : Location) ×
    (selected shapes type_id l (at_store calls store (map (selector program) steps)) ≡ Ok m)

-- a selector of the meaning is that of the tree
abbrev pub IsFor : Leading → Selector → Type 0
IsFor (ToField k) selector = selector ≡ Field k
IsFor (ToElement x) selector = (value : Outcome) × (selector ≡ Element value)

-- the operator gives the same where both sides are evaluated
abbrev pub IsSided : ROp → RExpr → Type 0
IsSided op y =
    (program : Checked) (e : Evaluation) (calls : List LiveCall) (store : Store) →
    joined op e (value program y) calls store ≡ sided op e (value program y) calls store
