-- What selection of code takes of a whole checked module, besides that its storage is laid out: all
-- statements are typed, what is lent has an address, and nothing is above its maximum.
use Rattle.std.specs.Prelude.{◌≡◌, ℕ, ◌+◌, ◌≤◌, Bool, true, false, ◌||◌, List, [], length, map}
use Rattle.std.specs.Prelude.{count_by, Option, Some, None, slice_get}
use Rattle.pra_base.specs.Limits.{limit_maximum}
use Rattle.pra_base.specs.declared.limit.LimitKind.TheVariants.{ArrayLength, TypeWords, Procedures}
use Rattle.pra_base.specs.declared.limit.LimitKind.TheVariants.{Parameters, Scalars, Nodes}
use Rattle.ob_syntax.specs.Storage.{all_words}
use Rattle.ob_syntax.specs.WellFormed.{is_scalar, joined, lent_in}
use Rattle.ob_syntax.specs.declared.checked.Checked.{Checked}
use Rattle.ob_syntax.specs.declared.checked.CheckedProc.{CheckedProc}
use Rattle.ob_syntax.specs.declared.checked.Local.{Local}
use Rattle.ob_syntax.specs.declared.checked.Param.{Param}
use Rattle.ob_syntax.specs.declared.checked.RStmt.{RStmt}
use Rattle.ob_syntax.specs.declared.checked.Root.{Root}
use Rattle.ob_syntax.specs.declared.checked.Root.TheVariants as root
use Rattle.ob_syntax.specs.declared.checked.Shape.TheVariants.{Array}
use Rattle.vc_relation.specs.Layout.{IsLaidOut, is_aggregate}
use Rattle.vc_typed.specs.TypedStatements.{all_true, are_typed}

-- ---- addresses

-- a VAR parameter has that of what was lent to it, a value parameter that of its argument's cell
abbrev pub param_has_address : Option Param → Bool
param_has_address (Some param) = param.by_var || param.addressed
param_has_address None = false

abbrev pub local_has_address : Option Local → Bool
local_has_address (Some local) = is_aggregate local
local_has_address None = false

-- the variable or parameter is in memory, or stands for something in memory
abbrev pub has_address : CheckedProc → Root → Bool
has_address proc (root.Module n) = true
has_address proc (root.Param k) = param_has_address (slice_get proc.params k)
has_address proc (root.Local k) = local_has_address (slice_get proc.locals k)

abbrev pub all_have_addresses : CheckedProc → List Root → Bool
all_have_addresses proc roots = all_true (map (has_address proc) roots)

-- the variables and parameters that statements lend whole to VAR parameters
abbrev pub lent_in_all : List RStmt → List Root
lent_in_all body = joined (map lent_in body)

-- ---- procedures

-- A procedure stands at its number. Its statements are typed, and what they lend has an address.
pub record IsTypedProc (program : Checked) (number : ℕ) (proc : CheckedProc) : Type 0 where
  pub id : proc.id.0 ≡ number
  pub typed : are_typed program number proc.body ≡ true
  pub lends : all_have_addresses proc (lent_in_all proc.body) ≡ true

-- All procedures are typed. The module's body comes first, and has neither parameters nor locals.
pub record IsTyped (program : Checked) : Type 0 where
  pub procs : (number : ℕ) (proc : CheckedProc) → slice_get program.procs number ≡ Some proc →
      IsTypedProc program number proc
  pub body : CheckedProc
  pub first : slice_get program.procs 0 ≡ Some body
  pub no_params : body.params ≡ []
  pub no_locals : body.locals ≡ []

-- ---- limits

abbrev pub scalar_locals : CheckedProc → ℕ
scalar_locals proc = count_by (λ local. is_scalar local.type_id) proc.locals

pub record IsLimitedProc (proc : CheckedProc) : Type 0 where
  pub params : length proc.params ≤ limit_maximum Parameters
  pub scalars : length proc.params + scalar_locals proc ≤ limit_maximum Scalars
  pub nodes : proc.nodes ≤ limit_maximum Nodes

-- Nothing is above its maximum; that the aggregates of procedures and the module's variables are
-- not is said where storage is laid out.
pub record IsLimited (program : Checked) : Type 0 where
  pub lengths : (type_id count element : ℕ) →
      slice_get program.types type_id ≡ Some (Array count element) →
      count ≤ limit_maximum ArrayLength
  pub words : (type_id words : ℕ) → slice_get (all_words program.types) type_id ≡ Some words →
      words ≤ limit_maximum TypeWords
  -- the module's body is not counted
  pub count : length program.procs ≤ limit_maximum Procedures + 1
  pub procs : (number : ℕ) (proc : CheckedProc) → slice_get program.procs number ≡ Some proc →
      IsLimitedProc proc

-- ---- the whole

-- What selection of code takes of a checked module.
pub record IsSelectable (program : Checked) : Type 0 where
  pub laid : IsLaidOut program
  pub typed : IsTyped program
  pub limited : IsLimited program
