-- What the code of operators and signs does, from variables that have the values of the operands.
use Rattle.std.specs.Prelude.{◌≡◌, ℕ, ◌<◌, ◌≤◌, ◌⊎◌, Bool, true, false, nat_le, pos}
use Rattle.std.specs.Prelude.{length, Some, Ok}
use Rattle.std.specs.Int.{w32}
use Rattle.std.specs.Int.RustNames.{FitsSigned}
use Rattle.pra_base.specs.Code.{kind_of}
use Rattle.pra_base.specs.Words.{word}
use Rattle.pra_base.specs.declared.ids.Cond.{Cond}
use Rattle.pra_base.specs.declared.ids.Cond.TheVariants as cond
use Rattle.pra_base.specs.declared.ids.VarId.{VarId}
use Rattle.pra_base.specs.declared.code.VarKind.{VarKind}
use Rattle.pra_base.specs.declared.code.VarKind.TheVariants.{Plain, Constant}
use Rattle.pra_base.specs.declared.code.VInstr.{VInstr}
use Rattle.pra_base.specs.declared.code.VInstr.TheVariants.{Set, Copy}
use Rattle.pra_base.specs.declared.code.VInstr.TheVariants as instr
use Rattle.pra_base.specs.declared.code.VProc.{VProc}
use Rattle.ob_syntax.specs.Operators.{Outcome, number, combined}
use Rattle.ob_syntax.specs.declared.checked.ROp.{ROp}
use Rattle.ob_syntax.specs.declared.checked.ROp.TheVariants.{Mul, Add, Sub, Equal, Unequal, Less}
use Rattle.ob_syntax.specs.declared.checked.ROp.TheVariants.{LessEqual, Greater, GreaterEqual, Both}
use Rattle.ob_syntax.specs.declared.checked.ROp.TheVariants.{Either}
use Rattle.ob_syntax.specs.declared.checked.Value.{Value}
use Rattle.vc_code.specs.declared.value.Value.{Value as Word}
use Rattle.vc_code.specs.declared.value.Value.TheVariants.{Num}
use Rattle.vc_code.specs.Machine.{Activation, State}
use Rattle.vc_code.specs.Selected.{Vars, read, code_of}
use Rattle.vc_build.specs.Grow.{IsOpen, GrowsAt}
use Rattle.vc_build.specs.Runs.{Codes, Stands, RunsIn, Reaches, Holds, Yields}

-- ---- the start of an operation

-- A temporary was made for an operand: a local variable of the code that is none of the first ones,
-- which the code had before.
abbrev pub is_temporary : VarKind → (first v : ℕ) → Bool
is_temporary Plain first v = nat_le first v
is_temporary _ first v = false

-- what gives a new variable the value of an operand
abbrev pub first_of : VarKind → (target v : VarId) → VInstr
first_of (Constant n) target v = Set target n
first_of _ target v = Copy target v

-- ---- added code

-- Code was added to an open block, which stays open. A local variable that is none of the first
-- ones has the result.
pub record Adds (first at : ℕ) (old new : VProc) (v : ℕ) : Type 0 where
  pub grows : GrowsAt at old new
  pub is_open : IsOpen new at
  pub named : v < length new.vars
  pub above : first ≤ v
  pub plain : kind_of new v ≡ Plain

-- The target has the value of the variable v, and all variables of the old code are as they were.
-- It is a new variable, or v itself.
pub record Begins (first at : ℕ) (old new : VProc) (v target : ℕ) : Type 0 where
  pub adds : Adds first at old new target
  pub itself : target < length old.vars → target ≡ v
  pub means : (w : Codes) (id : ℕ) (s : State Vars) (x : Word) → RunsIn w id new s →
      Stands old at s.top → read (kind_of (code_of w.procs id)) s.top.home.held v ≡ Some x →
      Reaches w s (Holds w id new at target (length old.vars) s.top x)

-- ---- operators

-- a variable has the word of a value, of 32 bits
pub record HasValue (w : Codes) (id v : ℕ) (c : Activation Vars) (x : Value) : Type 0 where
  pub fits : FitsSigned w32 (number x)
  pub held : read (kind_of (code_of w.procs id)) c.home.held v ≡ Some (Num (word (number x)))

-- a value is reached: it has 32 bits, its word is in a variable, and the first variables are as
-- they were
pub record Gives (w : Codes) (id : ℕ) (made : VProc) (b v first : ℕ) (old : Activation Vars)
    (x : Value) (new : Activation Vars) : Type 0 where
  pub fits : FitsSigned w32 (number x)
  pub holds : Holds w id made b v first old (Num (word (number x))) new

-- From variables with values of the sides, of which P holds, the added code gives what f gives, or
-- comes to its trap.
pub record Combines
    (P : Value → Value → Type 0) (f : Value → Value → Outcome)
    (first at : ℕ) (old new : VProc) (left right v : ℕ) : Type 0 where
  pub adds : Adds first at old new v
  pub means : (w : Codes) (id : ℕ) (s : State Vars) (x y : Value) → RunsIn w id new s →
      Stands old at s.top → HasValue w id left s.top x → HasValue w id right s.top y → P x y →
      Yields w s (Gives w id new at v first s.top) (f x y)

-- a truth value
abbrev pub IsBit : Value → Type 0
IsBit x = (number x ≡ pos 0) ⊎ (number x ≡ pos 1)

-- what is asked of the sides: those of `&` and OR are 0 or 1, as values of type BOOLEAN are
abbrev pub Suits : ROp → Value → Value → Type 0
Suits Both x y = IsBit x × IsBit y
Suits Either x y = IsBit x × IsBit y
Suits _ x y = Unit {0}

-- an operator on sides that have both been evaluated
abbrev pub of_values : ROp → Value → Value → Outcome
of_values op x y = combined op (Ok x) (Ok y)

-- The added code gives what the operator gives, or comes to its trap.
abbrev pub Operates :
    ROp → (first at : ℕ) (old new : VProc) (left right v : ℕ) → Type 0
Operates op first at old new left right v =
    Combines (Suits op) (of_values op) first at old new left right v

-- `+`, `-` and `*`
abbrev pub is_arithmetic : ROp → Bool
is_arithmetic Mul = true
is_arithmetic Add = true
is_arithmetic Sub = true
is_arithmetic _ = false

abbrev pub arithmetic_of : ROp → (target right : VarId) → VInstr
arithmetic_of Mul target right = instr.Mul target right
arithmetic_of Sub target right = instr.Sub target right
arithmetic_of _ target right = instr.Add target right

-- relations
abbrev pub is_relation : ROp → Bool
is_relation Equal = true
is_relation Unequal = true
is_relation Less = true
is_relation LessEqual = true
is_relation Greater = true
is_relation GreaterEqual = true
is_relation _ = false

-- the condition that a relation is of signed words
abbrev pub condition_of : ROp → Cond
condition_of Equal = cond.E
condition_of Unequal = cond.Ne
condition_of Less = cond.L
condition_of LessEqual = cond.Le
condition_of Greater = cond.G
condition_of _ = cond.Ge

-- ---- signs

-- From a variable with the value of an operand the added code gives the sign's value.
pub record Converts (f : Value → Value) (first at : ℕ) (old new : VProc) (operand v : ℕ)
    : Type 0 where
  pub adds : Adds first at old new v
  pub means : (w : Codes) (id : ℕ) (s : State Vars) (x : Value) → RunsIn w id new s →
      Stands old at s.top → HasValue w id operand s.top x →
      Reaches w s (Gives w id new at v first s.top (f x))

-- ---- operators on truth values

abbrev pub is_bitwise : ROp → Bool
is_bitwise Both = true
is_bitwise Either = true
is_bitwise _ = false

abbrev pub bitwise_of : ROp → (target right : VarId) → VInstr
bitwise_of Both target right = instr.And target right
bitwise_of _ target right = instr.Or target right

-- A sign on a value that is 0 or 1.
pub record ConvertsBit (f : Value → Value) (first at : ℕ) (old new : VProc) (operand v : ℕ)
    : Type 0 where
  pub adds : Adds first at old new v
  pub means : (w : Codes) (id : ℕ) (s : State Vars) (x : Value) → RunsIn w id new s →
      Stands old at s.top → HasValue w id operand s.top x → IsBit x →
      Reaches w s (Gives w id new at v first s.top (f x))
