-- How much code for a tree may add, by the nodes of the tree.
use Rattle.std.specs.Prelude.{ℕ, ◌*◌, ◌-◌, List, sum, map}
use Rattle.pra_base.specs.declared.code.VProc.{VProc}
use Rattle.ob_syntax.specs.declared.checked.RStep.{RStep}
use Rattle.vc_expr.specs.Counts.{AddsAtMost}
use Rattle.vc_typed.specs.Nodes.{nodes_in_step}

-- the nodes of selectors
abbrev pub path_nodes : List RStep → ℕ
path_nodes steps = sum (map nodes_in_step steps)

-- Selectors of so many nodes add at most 4 instructions, 3 local variables, 2 constants and 2
-- blocks for each.
abbrev pub AddsForPath : ℕ → (old new : VProc) → Type 0
AddsForPath n old new = AddsAtMost (4 * n) (3 * n) (2 * n) (2 * n) old new

-- A variable with its selectors adds so much for each node but its first.
abbrev pub AddsForVariable : ℕ → (old new : VProc) → Type 0
AddsForVariable n old new = AddsAtMost (4 * n - 4) (3 * n - 3) (2 * n - 2) (2 * n - 2) old new

-- An expression adds so much, and one instruction, one local variable and one constant besides.
abbrev pub AddsForValue : ℕ → (old new : VProc) → Type 0
AddsForValue n old new = AddsAtMost (4 * n - 3) (3 * n - 2) (2 * n - 1) (2 * n - 2) old new

-- A condition adds one more instruction and one more constant.
abbrev pub AddsForTest : ℕ → (old new : VProc) → Type 0
AddsForTest n old new = AddsAtMost (4 * n - 2) (3 * n - 2) (2 * n) (2 * n - 2) old new
