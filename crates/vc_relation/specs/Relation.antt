-- The relation between the store of a module's meaning and the state of the machine of selected
-- code, for all live calls at once.
use Rattle.std.specs.Prelude.{◌≡◌, ℕ, ◌*◌, ℤ, pos, Bool, true, false, ◌||◌, nat_eq, List}
use Rattle.std.specs.Prelude.{map, if◌then◌else◌, Option, Some, None, slice_get}
use Rattle.std.specs.Prelude.{slice_index_or, unwrap_or}
use Rattle.std.specs.Ordering.{int_eq}
use Rattle.pra_base.specs.Words.{word, fits_word}
use Rattle.pra_base.specs.declared.code.VProc.{VProc}
use Rattle.ob_syntax.specs.Expressions.{boolean}
use Rattle.ob_syntax.specs.Operators.{number}
use Rattle.ob_syntax.specs.WellFormed.{is_scalar}
use Rattle.ob_syntax.specs.declared.checked.Checked.{Checked}
use Rattle.ob_syntax.specs.declared.checked.CheckedProc.{CheckedProc}
use Rattle.ob_syntax.specs.declared.checked.Param.{Param}
use Rattle.ob_syntax.specs.declared.checked.Value.TheVariants.{Number}
use Rattle.ob_mean.specs.declared.store.LiveCall.{LiveCall}
use Rattle.ob_mean.specs.declared.store.Location.{Location}
use Rattle.ob_mean.specs.Store.{Store, read}
use Rattle.vc_code.specs.declared.value.Object.{Object}
use Rattle.vc_code.specs.declared.value.Value.TheVariants.{Num, At}
use Rattle.vc_code.specs.Value.{Held}
use Rattle.vc_code.specs.Machine.{Shape, Activation, State, live_in, object, joined}
use Rattle.vc_code.specs.Selected.{Vars, shape}
use Rattle.vc_relation.specs.Homes.{param_variable, home_count}
use Rattle.vc_relation.specs.Spots.{Spot, InVariable, InWord, placed_at, call_at, param_of, placed}

-- a module with its selected code and the bytes of its frames
pub record SelectedModule : Type 0 where
  pub program : Checked
  pub code : List VProc
  pub frames : List ℕ

abbrev pub shapes_of : SelectedModule → ℕ → Shape
shapes_of t = shape t.code t.frames

-- ---- what is at a spot

abbrev pub variable_in : Option (Activation Vars × List (Activation Vars)) → ℕ → Held
variable_in None v = None
variable_in (Some c) v = slice_index_or c.0.home.held v None

abbrev pub content : SelectedModule → State Vars → Spot → Held
content t s (InVariable depth v) = variable_in (call_at (live_in s) depth) v
content t s (InWord x w) = joined (slice_get (object (shapes_of t) s x) w)

-- ---- values and words

-- the number that the store has at a location, which is 0 until something is assigned to it
abbrev pub number_at : Store → Location → ℤ
number_at store l = number (read store (Number (pos 0)) l)

-- A number of 32 bits; of type BOOLEAN it is 0 or 1.
abbrev pub is_of_type : ℕ → ℤ → Bool
is_of_type type_id n =
    if nat_eq type_id boolean then int_eq n (pos 0) || int_eq n (pos 1) else fits_word n

-- the word of a number of a type is kept
pub record IsKept (type_id : ℕ) (n : ℤ) (held : Held) : Type 0 where
  pub typed : is_of_type type_id n ≡ true
  pub word : held ≡ Some (Num (word n))

-- ---- VAR parameters

-- The address of a location of a type is kept. It is of a word of an object: what is lent is no
-- variable of selected code.
pub record IsAddressOf
    (t : SelectedModule) (calls : List LiveCall) (l : Location) (type_id : ℕ) (held : Held)
    : Type 0 where
  pub object : Object
  pub word : ℕ
  pub place : placed t.program t.frames calls l ≡ Some (placed_at (InWord object word) type_id)
  pub address : held ≡ Some (At object (4 * word))

-- What a call has of a parameter, whose variable holds this: to a VAR parameter a location of the
-- module or of the calls below was lent, to a value parameter nothing.
abbrev pub IsGiven : SelectedModule → List LiveCall → Param → Option Location → Held → Type 0
IsGiven t below param (Some l) held =
    (param.by_var ≡ true) × IsAddressOf t below l param.type_id held
IsGiven t below param None held = param.by_var ≡ false

abbrev pub lent_in : LiveCall → ℕ → Option Location
lent_in call k = unwrap_or (slice_get call.lent k) None

-- ---- the relation

-- The same procedures are live. Each scalar location keeps the word of its number at its spot. The
-- variable of each VAR parameter of a live call has the address of what was lent to it.
pub record Represents
    (t : SelectedModule) (calls : List LiveCall) (store : Store) (s : State Vars) : Type 0 where
  pub same_calls : map (λ c. c.proc) (live_in s) ≡ map (λ call. call.proc.0) calls
  pub values : (l : Location) (spot : Spot) (type_id : ℕ) →
      placed t.program t.frames calls l ≡ Some (placed_at spot type_id) →
      is_scalar type_id ≡ true →
      IsKept type_id (number_at store l) (content t s spot)
  pub params : (depth k : ℕ) (call : LiveCall) (below : List LiveCall) (proc : CheckedProc)
      (param : Param) →
      call_at calls depth ≡ Some (call, below) → param_of t.program call k ≡ Some (proc, param) →
      IsGiven t below param (lent_in call k)
      (content t s (InVariable depth (param_variable proc k)))

-- ---- changes of variables

-- how many variables of a procedure's code are homes
abbrev pub homes_in : Option CheckedProc → ℕ
homes_in None = 0
homes_in (Some proc) = home_count proc

abbrev pub homes_of : SelectedModule → State Vars → ℕ
homes_of t s = homes_in (slice_get t.program.procs s.top.proc)

abbrev pub held_at : State Vars → ℕ → Held
held_at s v = slice_index_or s.top.home.held v None

-- Of all that the relation sees, the running call's variables alone may be others.
pub record SameButVariables (old new : State Vars) : Type 0 where
  pub proc : new.top.proc ≡ old.top.proc
  pub aggregates : new.top.aggregates ≡ old.top.aggregates
  pub args : new.top.args ≡ old.top.args
  pub below : new.below ≡ old.below
  pub globals : new.globals ≡ old.globals
