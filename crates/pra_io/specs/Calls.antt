-- The calls of an object in memory, numbered from 1, some of which are to fail.
use Rattle.std.specs.Prelude.{◌≡◌, ◌+◌, ◌-◌, ◌^◌, ℕ, min, Contains, Result, Ok, Err, Vec}
use Rattle.std.specs.Prelude.{MatchResult}
use Rattle.std.specs.declared.alloc.Global.{Global}
use Rattle.pra_io.specs.declared.calls.Calls.{Calls}
use Rattle.pra_io.specs.declared.files.FileFault.{FileFault}
use Rattle.pra_io.specs.declared.files.FileFault.TheVariants.{Failed, TooLong, OutOfMemory}

-- one more, where a count of 64 bits stands still at its last number
abbrev pub one_more : ℕ → ℕ
one_more count = min (count + 1) (2 ^ 64 - 1)

-- no call was made, and these are to fail
abbrev pub no_calls : Vec ℕ Global → Calls
no_calls failing = record { failing = failing; made = 0; faults = 0 }

-- the next call is listed to fail
abbrev pub FailsNext : Calls → Type 0
FailsNext calls = Contains calls.failing.items (one_more calls.made)

-- after one more call, which did not fail
abbrev pub called : Calls → Calls
called calls = record calls { made = one_more calls.made }

-- after one more call, which failed
abbrev pub failed : Calls → Calls
failed calls = record calls { made = one_more calls.made; faults = one_more calls.faults }

-- a call of a stream was counted, and a fault if it answered one
abbrev pub Counts : {T E : Type 0} → Calls → Calls → Result T E → Type 0
Counts old new result = MatchResult result (λ _. new ≡ called old) (λ _. new ≡ failed old)

-- a call of a folder was counted, and a fault if it answered Failed
abbrev pub CountsFile : {T : Type 0} → Calls → Calls → Result T FileFault → Type 0
CountsFile old new (Ok value) = new ≡ called old
CountsFile old new (Err Failed) = new ≡ failed old
CountsFile old new (Err TooLong) = new ≡ called old
CountsFile old new (Err OutOfMemory) = new ≡ called old
