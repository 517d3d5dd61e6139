use Rattle.std.proofs.Common.{◌≡◌, ◌≤◌, ℕ, List, length, drop, map}
use Rattle.pra_base.specs.declared.ids.BlockId.{BlockId}
use Rattle.pra_base.specs.declared.code.VProc.{VProc}
use Rattle.ob_mean.specs.Designators.{root_type}
use Rattle.ob_mean.specs.Expressions.{selector}
use Rattle.vc_build.specs.Grow.{HandsOn, IsOpen}
use Rattle.vc_select.specs.declared.target.Target.{Target}
use Rattle.vc_select.specs.Selects.{Leads}
use Rattle.vc_select.specs.Targets.{above_target, above_target_base, root_target, whole_of}
use Rattle.vc_select.specs.Certified.{StaysReadyFrom}
use Rattle.vc_select.specs.Blocks.{StaysInText, blocks_of_steps}
use Rattle.vc_select.specs.Amounts.{AddsForPath, path_nodes}
use Rattle.vc_typed.specs.Typing.{leading}
use Rattle.vc_select.proofs.select.+select.Given as goal

-- what leads from here along the selectors that are left leads from the root along all of them
abbrev pub invariant-select_var-loop-step : goal.invariant-select_var-loop-step
invariant-select_var-loop-step l =
    IsOpen l.ctx.code l.ctx.at.0 × (length l.fn.ctx.code.vars ≤ length l.ctx.code.vars) ×
    (above_target l.target ≤ length l.ctx.code.vars) × (above_target_base l.target ≤ l.first)
    × ((new : VProc) (to : ℕ) (end : Target) →
    Leads l.setting l.first l.ctx.code new l.ctx.at.0 to l.target end l.type_id
    (map (leading l.setting.program.now l.setting.id.0) (drop l.step-index l.step-items))
    (map (selector l.setting.program.now) (drop l.step-index l.step-items)) →
    Leads l.setting l.first l.fn.ctx.code new l.fn.ctx.at.0 to
    (root_target l.setting.program.now l.setting.params.now l.setting.locals.now l.setting.id.0
    l.v.root) end (root_type l.setting.program.now l.setting.id.0 l.v.root)
    (map (leading l.setting.program.now l.setting.id.0) l.v.steps)
    (map (selector l.setting.program.now) l.v.steps))
    × (length l.fn.ctx.code.blocks ≤ length l.ctx.code.blocks)
    × ((new : VProc) → AddsForPath (path_nodes (drop l.step-index l.step-items)) l.ctx.code new →
    AddsForPath (path_nodes l.v.steps) l.fn.ctx.code new)
    × StaysReadyFrom l.setting l.first l.fn.ctx.code l.ctx.code l.fn.ctx.at.0 l.ctx.at.0
    (root_target l.setting.program.now l.setting.params.now l.setting.locals.now l.setting.id.0
    l.v.root) l.target
    × ((new : VProc) (to : ℕ) (after : List BlockId) →
    StaysInText (blocks_of_steps (drop l.step-index l.step-items)) l.ctx.at.0 to l.ctx.code new
    l.ctx.order after →
    StaysInText (blocks_of_steps l.v.steps) l.fn.ctx.at.0 to l.fn.ctx.code new l.fn.ctx.order after)
    × HandsOn l.fn.ctx.at.0 l.ctx.at.0 l.fn.ctx.code l.ctx.code
    × (whole_of l.target ≡ root_target l.setting.program.now l.setting.params.now
    l.setting.locals.now l.setting.id.0 l.v.root)
