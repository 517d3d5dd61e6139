-- Steps towards tidy code.
use Rattle.std.proofs.Common.{◌<◌, ◌≤◌, length, Some, arith}
use Rattle.pra_base.specs.declared.code.VProc.{VProc}
use Rattle.pra_base.specs.Valid.{instruction_count}
use Rattle.vc_same.specs.SameRuns.{Preserves}
use Rattle.vc_tidy.specs.KindCounts.{KeepsKinds}
use Rattle.vc_tidy.specs.Steps.{IsStep}

-- with fewer instructions, or fewer variables
pub shorter_step : (old new : VProc) → Preserves old new → KeepsKinds old new →
    instruction_count new.blocks < instruction_count old.blocks → IsStep old (Some new)
shorter_step old new p kinds less = let vars : length new.vars ≤ length old.vars = p.variables in
    (p, kinds, omega (arith, vars, less))

pub packed_step : (old new : VProc) → Preserves old new → KeepsKinds old new → length new.vars <
    length old.vars → IsStep old (Some new)
packed_step old new p kinds less = let code : instruction_count new.blocks ≤
    instruction_count old.blocks = p.instructions in (p, kinds, omega (arith, code, less))
