use Rattle.std.proofs.Common.{◌≡◌, ◌≢◌, ◌+◌, ◌≤◌, ℕ, List, length, drop, map}
use Rattle.pra_base.specs.declared.ids.BlockId.{BlockId}
use Rattle.pra_base.specs.declared.code.VProc.{VProc}
use Rattle.ob_mean.specs.Statements.{exec_all, arm_of}
use Rattle.vc_build.specs.Grow.{HandsOn, IsOpen}
use Rattle.vc_build.specs.Text.{depth_at, GoesOn}
use Rattle.vc_typed.specs.Nodes.{nodes_in_all}
use Rattle.vc_stmt.specs.Amounts.{AddsForStatements, AddsForArms}
use Rattle.vc_stmt.specs.Arms.{Chooses, take_init}
use Rattle.vc_stmt.specs.Blocks.{Waits}
use Rattle.vc_stmt.specs.Depths.{depths_of_all, depths_of_arms}
use Rattle.vc_stmt.specs.Does.{Does}
use Rattle.vc_stmt.specs.Ready.{KeepsReady, KeepsReadyBeside}
use Rattle.vc_stmt.specs.Sound.{are_sound, are_sound_arms}
use Rattle.vc_stmt.proofs.select.+statements.Given as goal

-- what is done, with what is left, is the whole
abbrev pub invariant-select_statements-loop-t : goal.invariant-select_statements-loop-t
invariant-select_statements-loop-t l =
    IsOpen l.ctx.code l.ctx.at.0 × (length l.fn.ctx.code.vars ≤ length l.ctx.code.vars)
    × ((new : VProc) (to : ℕ) →
    Does l.setting l.ctx.code new l.ctx.at.0 to
    (are_sound l.setting.program.now l.setting.id.0 (drop l.t-index l.body))
    (exec_all l.setting.program.now (drop l.t-index l.body)) →
    Does l.setting l.fn.ctx.code new l.fn.ctx.at.0 to
    (are_sound l.setting.program.now l.setting.id.0 l.body)
    (exec_all l.setting.program.now l.body))
    × ((new : VProc) → AddsForStatements (nodes_in_all (drop l.t-index l.body)) l.ctx.code new →
    AddsForStatements (nodes_in_all l.body) l.fn.ctx.code new)
    × ((new : VProc) (to : ℕ) → KeepsReady l.setting l.ctx.code new l.ctx.at.0 to
    (are_sound l.setting.program.now l.setting.id.0 (drop l.t-index l.body)) →
    KeepsReady l.setting l.fn.ctx.code new l.fn.ctx.at.0 to
    (are_sound l.setting.program.now l.setting.id.0 l.body))
    × ((new : VProc) (to : ℕ) (after : List BlockId) →
    GoesOn l.ctx.at.0 to l.ctx.code new l.ctx.order after
    (depths_of_all (drop l.t-index l.body) (depth_at l.ctx.code l.ctx.at.0)) →
    GoesOn l.fn.ctx.at.0 to l.fn.ctx.code new l.fn.ctx.order after
    (depths_of_all l.body (depth_at l.fn.ctx.code l.fn.ctx.at.0)))
    × HandsOn l.fn.ctx.at.0 l.ctx.at.0 l.fn.ctx.code l.ctx.code

abbrev pub invariant-select_arms-loop-arm : goal.invariant-select_arms-loop-arm
invariant-select_arms-loop-arm l =
    IsOpen l.ctx.code l.ctx.at.0 × (length l.fn.ctx.code.vars ≤ length l.ctx.code.vars) ×
    Waits l.ctx.code l.behind.0 × (l.behind.0 ≢ l.ctx.at.0)
    × ((new : VProc) (to : ℕ) →
    Chooses l.setting l.ctx.code new l.ctx.at.0 to l.behind.0
    (are_sound_arms l.setting.program.now l.setting.id.0 (drop l.arm-index l.arms))
    (map (arm_of l.setting.program.now) (drop l.arm-index l.arms)) →
    Chooses l.setting l.fn.ctx.code new l.fn.ctx.at.0 to l.behind.0
    (are_sound_arms l.setting.program.now l.setting.id.0 l.arms)
    (map (arm_of l.setting.program.now) l.arms))
    × ((new : VProc) → AddsForArms (drop l.arm-index l.arms) l.ctx.code new →
    AddsForArms l.arms l.fn.ctx.code new)
    × ((new : VProc) (to : ℕ) → KeepsReadyBeside l.setting l.ctx.code new l.ctx.at.0 to l.behind.0
    (are_sound_arms l.setting.program.now l.setting.id.0 (drop l.arm-index l.arms)) →
    KeepsReadyBeside l.setting l.fn.ctx.code new l.fn.ctx.at.0 to l.behind.0
    (are_sound_arms l.setting.program.now l.setting.id.0 l.arms))
    × ((new : VProc) (to : ℕ) (after : List BlockId) →
    GoesOn l.ctx.at.0 to l.ctx.code new l.ctx.order after
    (depths_of_arms (drop l.arm-index l.arms) (depth_at l.ctx.code l.ctx.at.0)) →
    GoesOn l.fn.ctx.at.0 to l.fn.ctx.code new l.fn.ctx.order after
    (depths_of_arms l.arms (depth_at l.fn.ctx.code l.fn.ctx.at.0)))
    × HandsOn l.fn.ctx.at.0 l.ctx.at.0 l.fn.ctx.code l.ctx.code

abbrev pub invariant-select_first_arms-loop-arm : goal.invariant-select_first_arms-loop-arm
invariant-select_first_arms-loop-arm l =
    IsOpen l.ctx.code l.ctx.at.0 × (length l.fn.ctx.code.vars ≤ length l.ctx.code.vars) ×
    Waits l.ctx.code l.behind.0 × (l.behind.0 ≢ l.ctx.at.0)
    × ((new : VProc) (to : ℕ) →
    Chooses l.setting l.ctx.code new l.ctx.at.0 to l.behind.0
    (are_sound_arms l.setting.program.now l.setting.id.0 (drop l.arm-index (take_init l.arms)))
    (map (arm_of l.setting.program.now) (drop l.arm-index (take_init l.arms))) →
    Chooses l.setting l.fn.ctx.code new l.fn.ctx.at.0 to l.behind.0
    (are_sound_arms l.setting.program.now l.setting.id.0 (take_init l.arms))
    (map (arm_of l.setting.program.now) (take_init l.arms)))
    × ((new : VProc) → AddsForArms (drop l.arm-index (take_init l.arms)) l.ctx.code new →
    AddsForArms (take_init l.arms) l.fn.ctx.code new)
    × ((new : VProc) (to : ℕ) → KeepsReadyBeside l.setting l.ctx.code new l.ctx.at.0 to l.behind.0
    (are_sound_arms l.setting.program.now l.setting.id.0 (drop l.arm-index (take_init l.arms)))
    →
    KeepsReadyBeside l.setting l.fn.ctx.code new l.fn.ctx.at.0 to l.behind.0
    (are_sound_arms l.setting.program.now l.setting.id.0 (take_init l.arms)))
    × ((new : VProc) (to : ℕ) (after : List BlockId) →
    GoesOn l.ctx.at.0 to l.ctx.code new l.ctx.order after
    (depths_of_arms (drop l.arm-index (take_init l.arms)) (depth_at l.ctx.code l.ctx.at.0)) →
    GoesOn l.fn.ctx.at.0 to l.fn.ctx.code new l.fn.ctx.order after
    (depths_of_arms (take_init l.arms) (depth_at l.fn.ctx.code l.fn.ctx.at.0)))
    × HandsOn l.fn.ctx.at.0 l.ctx.at.0 l.fn.ctx.code l.ctx.code
    × (l.left + l.arm-index ≡ length l.arms)
