-- One step: fetch, decode, execute.
use Rattle.std.specs.Prelude.{ℕ, ◌+◌, ◌-◌, nat_lt, nat_le, if◌then◌else◌, length, drop, List}
use Rattle.std.specs.Prelude.{Option}
use Rattle.std.specs.Prelude.{Some, None, Result, Ok, Err}
use Rattle.ia_code.specs.declared.ins.Ins.{Ins}
use Rattle.ia_code.specs.Reading.{decoded}
use Rattle.ia_step.specs.declared.out.FaultKind.{FaultKind}
use Rattle.ia_step.specs.declared.out.FaultKind.TheVariants as fault
use Rattle.ia_step.specs.declared.out.StepOut.{StepOut}
use Rattle.ia_step.specs.declared.out.StepOut.TheVariants as out
use Rattle.ia_step.specs.declared.out.Ending.{Ending}
use Rattle.ia_step.specs.declared.out.Ending.TheVariants.{Going, Ended, Trap, Fault}
use Rattle.ia_step.specs.State.{State, at, over}
use Rattle.ia_code.specs.Regions.{code_base}
use Rattle.ia_step.specs.Effect.{Done, effect}
use Rattle.pra_list.specs.Results.{◌>>=◌}

-- the instruction that was decoded, and where the next one stands; Decode: the bytes are in no row,
-- or pass the region's end
abbrev pub next_to : ℕ → Option (Ins × ℕ) → Result (Ins × ℕ) FaultKind
next_to eip None = Err fault.Decode
next_to eip (Some x) = Ok (x.0, eip + x.1)

-- the instruction at a place of the code; Fetch: the place is outside the code region
abbrev pub fetch_in : List ℕ → ℕ → Result (Ins × ℕ) FaultKind
fetch_in code eip =
    if nat_lt eip code_base then Err fault.Fetch
    else if nat_le (code_base + length code) eip then Err fault.Fetch
    else next_to eip (decoded (drop (eip - code_base) code))

-- the instruction at EIP
unfoldable pub fetch : State → Result (Ins × ℕ) FaultKind
fetch s = fetch_in s.code s.eip

-- the instruction at EIP, executed with EIP at the next one
abbrev pub execute : State → Done
execute s = do
  x ← fetch s
  effect (at s x.1) x.0

-- what comes of an instruction at s: a fault changes nothing but the ending
abbrev pub settled : State → Done → State × StepOut
settled s (Ok x) = x
settled s (Err k) = (over s (Fault k), out.Fault k)

-- a machine that has ended answers its ending and does nothing
abbrev pub step_from : State → Ending → State × StepOut
step_from s Going = settled s (execute s)
step_from s Ended = (s, out.Ended)
step_from s (Trap k) = (s, out.Trap k)
step_from s (Fault k) = (s, out.Fault k)

unfoldable pub step : State → State × StepOut
step s = step_from s s.ending

-- the ending of which an answer tells
abbrev pub ending_told : StepOut → Ending
ending_told out.Ended = Ended
ending_told (out.Trap k) = Trap k
ending_told (out.Fault k) = Fault k
ending_told _ = Going
