-- Where selected code has a variable of the source: in a variable of the code, or in the word of an
-- object at an address.
use Rattle.std.specs.Prelude.{◌≡◌, ℕ, ◌+◌, ◌*◌, max, pos, ◌+ℤ◌, Bool, true, false, List, []}
use Rattle.std.specs.Prelude.{sum, map, take}
use Rattle.std.specs.Prelude.{◌∷◌, Option, Some, None, slice_get, slice_index, slice_index_or}
use Rattle.pra_base.specs.declared.ids.VarId.{VarId}
use Rattle.pra_base.specs.declared.code.Addr.{Addr}
use Rattle.pra_base.specs.declared.code.Base.{Base}
use Rattle.pra_base.specs.declared.code.Base.TheVariants as base
use Rattle.ob_syntax.specs.WellFormed.{is_scalar}
use Rattle.ob_syntax.specs.declared.checked.Checked.{Checked}
use Rattle.ob_syntax.specs.declared.checked.CheckedProc.{CheckedProc}
use Rattle.ob_syntax.specs.declared.checked.Param.{Param}
use Rattle.ob_syntax.specs.declared.checked.Root.{Root}
use Rattle.ob_syntax.specs.declared.checked.Root.TheVariants as root
use Rattle.ob_mean.specs.Designators.{type_at, depth}
use Rattle.ob_mean.specs.declared.store.LiveCall.{LiveCall}
use Rattle.ob_mean.specs.declared.store.Location.{Location}
use Rattle.vc_code.specs.declared.value.Object.{Object}
use Rattle.vc_code.specs.Value.{Held}
use Rattle.vc_code.specs.Machine.{State, here}
use Rattle.vc_code.specs.Operation.{based, indexed, base_count}
use Rattle.vc_code.specs.Selected.{Vars, held_by, code_of, shape}
use Rattle.vc_code.specs.Stands.{address_vars}
use Rattle.vc_build.specs.Runs.{Codes}
use Rattle.vc_relation.specs.declared.home.Home.{Home}
use Rattle.vc_relation.specs.declared.home.Home.TheVariants as home
use Rattle.vc_relation.specs.Spots.{InVariable, InWord, placed_at, placed}
use Rattle.vc_select.specs.declared.target.Setting.{Setting}
use Rattle.vc_select.specs.declared.target.Target.{Target}
use Rattle.vc_select.specs.declared.target.Target.TheVariants.{Var, Memory}

-- ---- the target of a variable without selectors

abbrev pub at_base : Base → Target
at_base base = Memory (record { base = base; offset = pos 0; index = None })

-- the home of a VAR parameter has an address
abbrev pub home_target : (by_var : Bool) → Home → Target
home_target true (home.Var v) = at_base (base.Via v)
home_target false (home.Var v) = Var v
home_target by_var (home.Cell k) = at_base (base.Cell k)
home_target by_var (home.Frame w) = at_base (base.Frame w)

abbrev pub home_in : List Home → ℕ → Home
home_in homes k = slice_index_or homes k (home.Frame 0)

abbrev pub by_var_of : Option Param → Bool
by_var_of None = false
by_var_of (Some param) = param.by_var

abbrev pub param_target : List Home → Option CheckedProc → ℕ → Target
param_target homes None k = home_target false (home_in homes k)
param_target homes (Some proc) k =
    home_target (by_var_of (slice_get proc.params k)) (home_in homes k)

-- by the homes of the procedure's parameters, and those of its locals
abbrev pub root_target : Checked → (params locals : List Home) → ℕ → Root → Target
root_target program params locals proc (root.Module n) =
    at_base (base.Global (type_at (λ var. var.word) program.vars n))
root_target program params locals proc (root.Param k) =
    param_target params (slice_get program.procs proc) k
root_target program params locals proc (root.Local k) = home_target false (home_in locals k)

-- ---- the parts of a variable

-- the target of the whole variable of which a target names a part
abbrev pub whole_of : Target → Target
whole_of (Var v) = Var v
whole_of (Memory a) = at_base a.base

-- so many words further on; a variable of the code has no parts
abbrev pub shifted : ℕ → Target → Target
shifted words (Var v) = Var v
shifted words (Memory a) = Memory (record a { offset = a.offset +ℤ pos (4 * words) })

-- how many words lie before a field, by the words of all types
abbrev pub words_to_field : List ℕ → List ℕ → ℕ → ℕ
words_to_field words fields k = sum (map (slice_index words) (take k fields))

-- ---- the variables of a target: each has a smaller number

abbrev pub above_home : Home → ℕ
above_home (home.Var v) = v.0 + 1
above_home _ = 0

abbrev pub above_homes : List Home → ℕ
above_homes [] = 0
above_homes (h ∷ hs) = max (above_home h) (above_homes hs)

abbrev pub above_setting : Setting → ℕ
above_setting g = max (above_homes g.params.now) (above_homes g.locals.now)

abbrev pub above_base : Base → ℕ
above_base (base.Via v) = v.0 + 1
above_base _ = 0

abbrev pub above_index : Option VarId → ℕ
above_index None = 0
above_index (Some v) = v.0 + 1

abbrev pub above_target : Target → ℕ
above_target (Var v) = v.0 + 1
above_target (Memory a) = max (above_base a.base) (above_index a.index)

abbrev pub above_target_base : Target → ℕ
above_target_base (Var v) = 0
above_target_base (Memory a) = above_base a.base

-- ---- what a target names in a state

-- what the variables of an address hold
abbrev pub held_for : Codes → State Vars → Addr → List Held
held_for w s a = held_by (code_of w.procs s.top.proc) s.top (address_vars a)

-- The location is in a variable of the running call. Only scalars are.
pub record IsVariable
    (program : Checked) (w : Codes) (calls : List LiveCall) (v : ℕ) (l : Location) (type_id : ℕ)
    : Type 0 where
  pub place : placed program w.frames calls l
      ≡ Some (placed_at (InVariable (depth calls) v) type_id)
  pub scalar : is_scalar type_id ≡ true

-- The location begins in a word of an object, and the address has as many bytes before it.
pub record IsWord
    (program : Checked) (w : Codes) (calls : List LiveCall) (s : State Vars) (a : Addr)
    (l : Location) (type_id : ℕ) : Type 0 where
  pub object : Object
  pub word : ℕ
  pub place : placed program w.frames calls l ≡ Some (placed_at (InWord object word) type_id)
  pub begin : ℕ
  pub offset : ℕ
  pub index : ℕ
  pub base_is : based (here (shape w.procs w.frames) s) a.base (held_for w s a)
      ≡ Some (object, begin)
  pub offset_is : a.offset ≡ pos offset
  pub index_is : indexed a.index (held_for w s a) (base_count a.base) ≡ Some index
  pub sum : begin + offset + 4 * index ≡ 4 * word

-- The target names the location, which has a type, in the running call.
abbrev pub IsNamed :
    Checked → Codes → List LiveCall → State Vars → Target → Location → ℕ → Type 0
IsNamed program w calls s (Var v) l type_id = IsVariable program w calls v.0 l type_id
IsNamed program w calls s (Memory a) l type_id = IsWord program w calls s a l type_id
