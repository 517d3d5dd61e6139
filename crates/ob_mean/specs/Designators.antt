-- Which object and which part of it a designator names (Wirth, The Programming Language Oberon,
-- section 8.1; Compiler Construction, chapter 6): the root of a variable, and its fields and
-- indexes from left to right.
use Rattle.std.specs.Prelude.{ℕ, false, nat_lt, ℤ, pos, negsuc, List, [], ◌∷◌, length, Option, Some}
use Rattle.std.specs.Prelude.{None, unwrap_or, option_map, slice_get, slice_index, Result, Ok, Err}
use Rattle.std.specs.Prelude.{if◌then◌else◌}
use Rattle.pra_base.specs.declared.event.TrapKind.{TrapKind}
use Rattle.pra_base.specs.declared.event.TrapKind.TheVariants as trap
use Rattle.ob_syntax.specs.Operators.{Outcome, number}
use Rattle.pra_list.specs.Results.{◌>>=◌}
use Rattle.ob_syntax.specs.declared.checked.Checked.{Checked}
use Rattle.ob_syntax.specs.declared.checked.CheckedProc.{CheckedProc}
use Rattle.ob_syntax.specs.declared.checked.Shape.{Shape}
use Rattle.ob_syntax.specs.declared.checked.Shape.TheVariants as shape
use Rattle.ob_syntax.specs.declared.checked.Root.{Root}
use Rattle.ob_syntax.specs.declared.checked.Root.TheVariants as root
use Rattle.ob_syntax.specs.declared.checked.Value.{Value}
use Rattle.ob_syntax.specs.declared.checked.Value.TheVariants as value
use Rattle.ob_mean.specs.declared.store.Object.TheVariants.{Module, Param, Local}
use Rattle.ob_mean.specs.declared.store.Location.{Location}
use Rattle.ob_mean.specs.declared.store.LiveCall.{LiveCall}
use Rattle.ob_mean.specs.Store.{whole, part}

-- ---- types, by their numbers; what is not declared counts as INTEGER

abbrev pub shape_of : List Shape → ℕ → Shape
shape_of shapes type_id = unwrap_or (slice_get shapes type_id) shape.Integer

abbrev pub array_length : Shape → ℕ
array_length (shape.Array count element) = count
array_length _ = 0

abbrev pub element_type : Shape → ℕ
element_type (shape.Array count element) = element
element_type _ = 0

abbrev pub field_types : Shape → List ℕ
field_types (shape.Record fields) = fields
field_types _ = []

abbrev pub field_type : Shape → ℕ → ℕ
field_type shape k = slice_index (field_types shape) k

-- Every variable starts at 0 or FALSE.
abbrev pub start_of : Shape → Value
start_of shape.Boolean = value.Truth false
start_of _ = value.Number (pos 0)

-- ---- live calls: the running one first, the module's body last

-- the depth of the running call; that of the module's body is 1
abbrev pub depth : List LiveCall → ℕ
depth calls = length calls

abbrev pub running : List LiveCall → ℕ
running [] = 0
running (call ∷ calls) = call.proc.0

-- what was lent to parameter k of the running call
abbrev pub lent_to : List LiveCall → ℕ → Option Location
lent_to [] k = None
lent_to (call ∷ calls) k = unwrap_or (slice_get call.lent k) None

-- ---- the root of a designator

-- A VAR parameter is the location that was lent to it.
abbrev pub root_location : List LiveCall → Root → Location
root_location calls (root.Module n) = whole (Module n)
root_location calls (root.Param k) = unwrap_or (lent_to calls k) (whole (Param (depth calls) k))
root_location calls (root.Local k) = whole (Local (depth calls) k)

abbrev pub type_at : {A : Type 0} → (A → ℕ) → List A → ℕ → ℕ
type_at type_of declared k = unwrap_or (option_map type_of (slice_get declared k)) 0

abbrev pub type_in : Option CheckedProc → Root → ℕ
type_in (Some proc) (root.Param k) = type_at (λ param. param.type_id) proc.params k
type_in (Some proc) (root.Local k) = type_at (λ local. local.type_id) proc.locals k
type_in _ _ = 0

abbrev pub root_type : Checked → ℕ → Root → ℕ
root_type program proc (root.Module n) = type_at (λ var. var.type_id) program.vars n
root_type program proc root = type_in (slice_get program.procs proc) root

-- ---- selectors

-- a field by its number, or an element by what its index gives
pub data Selector : Type 0 where
  Field : ℕ → Selector
  Element : Outcome → Selector

-- a location, or a trap in its place
abbrev pub Located : Type 0
Located = Result Location TrapKind

-- An index outside 0 to length - 1 traps.
abbrev pub picked : ℕ → ℤ → Result ℕ TrapKind
picked count (pos n) = if nat_lt n count then Ok n else Err trap.Index
picked count (negsuc n) = Err trap.Index

-- from a location of a type on, selector after selector: an index is evaluated and tested before
-- the next one is evaluated
abbrev pub selected : List Shape → ℕ → Location → List Selector → Located
selected shapes type_id l [] = Ok l
selected shapes type_id l (Field k ∷ rest) =
    selected shapes (field_type (shape_of shapes type_id) k) (part l k) rest
selected shapes type_id l (Element index ∷ rest) =
    index >>= λ x. picked (array_length (shape_of shapes type_id)) (number x) >>= λ k.
    selected shapes (element_type (shape_of shapes type_id)) (part l k) rest

-- the location that a variable with its selectors names
abbrev pub designated : Checked → List LiveCall → Root → List Selector → Located
designated program calls root selectors =
    selected program.types (root_type program (running calls) root)
    (root_location calls root) selectors
