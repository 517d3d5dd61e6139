use Rattle.std.proofs.Common.{◌≡◌, ◌≤◌, ◌+◌, ◌++◌, ℕ, List, length, drop}
use Rattle.pra_base.specs.declared.ids.BlockId.{BlockId}
use Rattle.pra_base.specs.declared.ids.VarId.{VarId}
use Rattle.pra_base.specs.declared.code.VProc.{VProc}
use Rattle.vc_build.specs.Grow.{HandsOn, IsOpen}
use Rattle.vc_select.specs.Blocks.{StaysInText}
use Rattle.vc_stmt.specs.Depths.{blocks_of_arguments}
use Rattle.vc_stmt.specs.Amounts.{AddsForArguments}
use Rattle.vc_stmt.specs.Passes.{PassesAll}
use Rattle.vc_stmt.specs.Ready.{PassesReady}
use Rattle.vc_stmt.proofs.call.select_arguments.Given as goal

-- what is evaluated, with what is left, is the whole
abbrev pub invariant-loop-arg : goal.invariant-loop-arg
invariant-loop-arg l =
    IsOpen l.ctx.code l.ctx.at.0 × (length l.fn.ctx.code.vars ≤ length l.ctx.code.vars)
    × ((new : VProc) (to : ℕ) (vs : List VarId) →
    PassesAll l.setting l.ctx.code new l.ctx.at.0 to vs (drop l.arg-index l.args) →
    PassesAll l.setting l.fn.ctx.code new l.fn.ctx.at.0 to (l.values.items ++ vs) l.args)
    × (length l.values.items + length (drop l.arg-index l.args) ≡ length l.args)
    × ((new : VProc) → AddsForArguments (drop l.arg-index l.args) l.ctx.code new →
    AddsForArguments l.args l.fn.ctx.code new)
    × (length l.fn.ctx.code.blocks ≤ length l.ctx.code.blocks)
    × PassesReady l.setting l.fn.ctx.code l.ctx.code l.fn.ctx.at.0 l.ctx.at.0 l.values.items
    × ((new : VProc) (to : ℕ) (after : List BlockId) →
    StaysInText (blocks_of_arguments (drop l.arg-index l.args)) l.ctx.at.0 to l.ctx.code new
    l.ctx.order after →
    StaysInText (blocks_of_arguments l.args) l.fn.ctx.at.0 to l.fn.ctx.code new l.fn.ctx.order
    after)
    × HandsOn l.fn.ctx.at.0 l.ctx.at.0 l.fn.ctx.code l.ctx.code
