-- How much code for statements may add, by the nodes of the statements.
use Rattle.std.specs.Prelude.{ℕ, ◌*◌, ◌-◌, List, length, map, sum}
use Rattle.pra_base.specs.declared.code.VProc.{VProc}
use Rattle.ob_syntax.specs.declared.checked.RArg.{RArg}
use Rattle.ob_syntax.specs.declared.checked.RArm.{RArm}
use Rattle.vc_expr.specs.Counts.{AddsAtMost}
use Rattle.vc_typed.specs.Nodes.{arg_nodes, nodes_in_arm}

-- Statements of so many nodes add at most 4 instructions, 3 local variables, 4 constants and 2
-- blocks for each.
abbrev pub AddsForStatements : ℕ → (old new : VProc) → Type 0
AddsForStatements n old new = AddsAtMost (4 * n) (3 * n) (4 * n) (2 * n) old new

-- the nodes of arguments
abbrev pub argument_nodes : List RArg → ℕ
argument_nodes args = sum (map arg_nodes args)

-- Arguments that are not pushed yet add so much, but for one instruction each.
abbrev pub AddsForArguments : List RArg → (old new : VProc) → Type 0
AddsForArguments args old new =
    AddsAtMost (4 * argument_nodes args - length args) (3 * argument_nodes args)
    (4 * argument_nodes args) (2 * argument_nodes args) old new

-- An arm of an IF adds so much, but for two blocks.
abbrev pub AddsForArm : ℕ → (old new : VProc) → Type 0
AddsForArm n old new = AddsAtMost (4 * n) (3 * n) (4 * n) (2 * n - 2) old new

-- the nodes of arms
abbrev pub nodes_in_arms : List RArm → ℕ
nodes_in_arms arms = sum (map nodes_in_arm arms)

-- Arms add so much, but for two blocks each.
abbrev pub AddsForArms : List RArm → (old new : VProc) → Type 0
AddsForArms arms old new =
    AddsAtMost (4 * nodes_in_arms arms) (3 * nodes_in_arms arms) (4 * nodes_in_arms arms)
    (2 * nodes_in_arms arms - 2 * length arms) old new
