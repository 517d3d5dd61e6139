-- What a step towards tidy code gives.
use Rattle.std.specs.Prelude.{ℕ, ◌+◌, ◌<◌, length, Option, Some, None}
use Rattle.pra_base.specs.declared.code.VProc.{VProc}
use Rattle.pra_base.specs.Valid.{instruction_count}
use Rattle.vc_same.specs.SameRuns.{Preserves}
use Rattle.vc_tidy.specs.KindCounts.{KeepsKinds}
use Rattle.vc_tidy.specs.Tidy.{IsTidy}

-- how many instructions and variables there are
abbrev pub size : VProc → ℕ
size code = instruction_count code.blocks + length code.vars

-- code of less size that may stand in the place of the old code, or nothing where that is tidy
abbrev pub IsStep : VProc → Option VProc → Type 0
IsStep old (Some new) = Preserves old new × KeepsKinds old new × (size new < size old)
IsStep old None = IsTidy old

-- tidy code that may stand in the place of the old code, or nothing where that is tidy
abbrev pub BecomesTidy : VProc → Option VProc → Type 0
BecomesTidy old (Some new) = Preserves old new × KeepsKinds old new × IsTidy new
BecomesTidy old None = IsTidy old
