-- Where each location is while a module runs: in a variable of a live call, or in a word of an
-- object. It follows from the live calls and the frames of their procedures alone.
use Rattle.std.specs.Prelude.{ℕ, suc, ◌+◌, ◌<◌, ⊤, nat_eq, if◌then◌else◌, List, [], ◌∷◌, length}
use Rattle.std.specs.Prelude.{Option}
use Rattle.std.specs.Prelude.{Some, None, slice_get}
use Rattle.pra_list.specs.Options.{◌>>=◌}
use Rattle.ob_syntax.specs.declared.checked.Checked.{Checked}
use Rattle.ob_syntax.specs.declared.checked.CheckedProc.{CheckedProc}
use Rattle.ob_syntax.specs.declared.checked.Local.{Local}
use Rattle.ob_syntax.specs.declared.checked.Param.{Param}
use Rattle.ob_mean.specs.declared.store.LiveCall.{LiveCall}
use Rattle.ob_mean.specs.declared.store.Location.{Location}
use Rattle.ob_mean.specs.declared.store.Object.{Object}
use Rattle.ob_mean.specs.declared.store.Object.TheVariants as mean
use Rattle.ob_mean.specs.Program.{live_frames}
use Rattle.vc_code.specs.declared.action.Here.{Here}
use Rattle.vc_code.specs.declared.value.Object.{Object as MachineObject}
use Rattle.vc_code.specs.declared.value.Object.TheVariants as machine
use Rattle.vc_relation.specs.declared.home.Home.{Home}
use Rattle.vc_relation.specs.declared.home.Home.TheVariants.{Var, Cell, Frame}
use Rattle.vc_relation.specs.Homes.{param_home, local_home}
use Rattle.vc_relation.specs.Layout.{Part, part_along}

-- a variable of the call at a depth (the module's body is at depth 1), or a word of an object
pub data Spot : Type 0 where
  InVariable : (depth variable : ℕ) → Spot
  InWord : MachineObject → ℕ → Spot

-- a spot where something of a type begins
pub record Placed : Type 0 where
  pub spot : Spot
  pub type_id : ℕ

abbrev pub placed_at : Spot → ℕ → Placed
placed_at spot type_id = record { spot = spot; type_id = type_id }

-- ---- live calls

-- of calls with the running one first, the one at a depth, and those below it
abbrev pub call_at : {A : Type 0} → List A → ℕ → Option (A × List A)
call_at [] depth = None
call_at (c ∷ below) depth =
    if nat_eq depth (suc (length below)) then Some (c, below) else call_at below depth

-- how addresses name a call
abbrev pub here_of : List ℕ → LiveCall × List LiveCall → Here
here_of frames c = record {
  calls = length c.1;
  sum = live_frames frames (c.0 ∷ c.1);
  below = live_frames frames c.1;
}

-- ---- where an object begins

abbrev pub home_spot : ℕ → Here → Home → Spot
home_spot depth here (Var v) = InVariable depth v.0
home_spot depth here (Cell k) = InWord (machine.Cell here.calls here.below k) 0
home_spot depth here (Frame w) = InWord (machine.Aggregates here.calls here.sum) w

-- the procedure of a call, and its parameter or local of this number
abbrev pub param_of : Checked → LiveCall → ℕ → Option (CheckedProc × Param)
param_of program call k = do
  proc ← slice_get program.procs call.proc.0
  param ← slice_get proc.params k
  Some (proc, param)

abbrev pub local_of : Checked → LiveCall → ℕ → Option (CheckedProc × Local)
local_of program call k = do
  proc ← slice_get program.procs call.proc.0
  local ← slice_get proc.locals k
  Some (proc, local)

-- a VAR parameter is no object
abbrev pub param_placed : ℕ → Here → ℕ → CheckedProc × Param → Option Placed
param_placed depth here k p =
    if p.1.by_var then None
    else Some (placed_at (home_spot depth here (param_home p.0 k p.1)) p.1.type_id)

abbrev pub local_placed : ℕ → Here → ℕ → CheckedProc × Local → Option Placed
local_placed depth here k p =
    Some (placed_at (home_spot depth here (local_home p.0 k p.1)) p.1.type_id)

abbrev pub object_placed : Checked → List ℕ → List LiveCall → Object → Option Placed
object_placed program frames calls (mean.Module n) = do
  var ← slice_get program.vars n
  Some (placed_at (InWord machine.Data var.word) var.type_id)
object_placed program frames calls (mean.Param depth k) = do
  call ← call_at calls depth
  param ← param_of program call.0 k
  param_placed depth (here_of frames call) k param
object_placed program frames calls (mean.Local depth k) = do
  call ← call_at calls depth
  local ← local_of program call.0 k
  local_placed depth (here_of frames call) k local

-- The object is the module's data, or of one of so many live calls, the lowest ones.
abbrev pub IsBelow : ℕ → MachineObject → Type 0
IsBelow calls machine.Data = ⊤
IsBelow calls (machine.Aggregates n sum) = n < calls
IsBelow calls (machine.Cell n below k) = n < calls

-- ---- where a location is

-- so many words further on; a variable has no parts
abbrev pub beyond : Spot → ℕ → Spot
beyond (InVariable depth v) words = InVariable depth v
beyond (InWord x w) words = InWord x (w + words)

abbrev pub part_placed : Placed → Part → Placed
part_placed begin part = placed_at (beyond begin.spot part.word) part.type_id

-- the spot where a location begins, and its type, where there is such a location
abbrev pub placed : Checked → List ℕ → List LiveCall → Location → Option Placed
placed program frames calls l = do
  begin ← object_placed program frames calls l.object
  part ← part_along program.types begin.type_id l.path
  Some (part_placed begin part)
