-- Exit statuses.
use Rattle.std.specs.Prelude.{◌≡◌, ℕ, ⊤}
use Rattle.ia_step.specs.declared.out.Ending.{Ending}
use Rattle.ia_step.specs.declared.out.Ending.TheVariants as ending
use Rattle.ob_interp.specs.declared.interpret.UnitEnding.{UnitEnding}
use Rattle.ob_interp.specs.declared.interpret.UnitEnding.TheVariants as unit
use Rattle.pra_words.specs.declared.words.FileKind.{FileKind}
use Rattle.pra_words.specs.declared.words.FileKind.TheVariants as a_file
use Rattle.vc_run.specs.declared.out.CodeEnding.{CodeEnding}
use Rattle.vc_run.specs.declared.out.CodeEnding.TheVariants as code
use Rattle.pra_tool.specs.declared.status.Status.{Status}
use Rattle.pra_tool.specs.declared.status.Status.TheVariants.{Ended, Trapped, Going, BadSource}
use Rattle.pra_tool.specs.declared.status.Status.TheVariants.{OverLimit, Fault, BadWords}
use Rattle.pra_tool.specs.declared.status.Status.TheVariants.{BadInput, NoMemory}

-- the number with which the program exits
abbrev pub exit_code : Status → ℕ
exit_code Ended = 0
exit_code Trapped = 1
exit_code Going = 2
exit_code BadSource = 3
exit_code OverLimit = 4
exit_code Fault = 5
exit_code BadWords = 6
exit_code BadInput = 7
exit_code NoMemory = 8

-- all was done and written
abbrev pub IsDone : Status → Type 0
IsDone Ended = ⊤
IsDone Trapped = ⊤
IsDone Going = ⊤
IsDone status = ⊥

-- the source or the input is refused
abbrev pub IsRefusal : Status → Type 0
IsRefusal BadSource = ⊤
IsRefusal OverLimit = ⊤
IsRefusal BadInput = ⊤
IsRefusal status = ⊥

-- the status of the run of a module, by its ending; of a fault there is none
abbrev pub IsStatusOf : Ending → Status → Type 0
IsStatusOf ending.Ended Ended = ⊤
IsStatusOf (ending.Trap k) Trapped = ⊤
IsStatusOf ending.Going Going = ⊤
IsStatusOf e status = ⊥

-- the status of a run of any image, where a fault of the machine counts as a trap
abbrev pub status_of_machine : Ending → Status
status_of_machine ending.Ended = Ended
status_of_machine (ending.Trap k) = Trapped
status_of_machine ending.Going = Going
status_of_machine (ending.Fault k) = Trapped

-- The status of the run of what FILE is compiled to. Code that gets stuck may bring its image to a
-- fault of the machine; a module never does.
abbrev pub IsRunStatus : FileKind → Ending → Status → Type 0
IsRunStatus a_file.Module e s = IsStatusOf e s
IsRunStatus a_file.Code e s = s ≡ status_of_machine e

-- the status of a run by the meaning
abbrev pub status_of_units : UnitEnding → Status
status_of_units unit.Ended = Ended
status_of_units (unit.Trap k) = Trapped
status_of_units unit.Going = Going

-- the status of a run of code by its meaning, where code that is stuck counts as trapped
abbrev pub status_of_code : CodeEnding → Status
status_of_code code.Ended = Ended
status_of_code (code.Trap k) = Trapped
status_of_code code.Going = Going
status_of_code (code.Stuck cause) = Trapped
