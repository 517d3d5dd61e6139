-- What the objects over the files and streams of the system tell: their counts of faults, and no
-- bytes.
use Rattle.std.specs.Prelude.{◌≡◌, ℕ, List, None, Result, Ok, Err}
use Rattle.std.specs.declared.option.Option.{Option}
use Rattle.pra_io.specs.Calls.{one_more}
use Rattle.pra_io.specs.declared.files.FileFault.{FileFault}
use Rattle.pra_io.specs.declared.files.FileFault.TheVariants.{Failed, TooLong, OutOfMemory}

-- of no name it is told what it holds
abbrev pub untold : List ℕ → Option (Option (List ℕ))
untold name = None

-- a fault was counted where the answer is one
abbrev pub CountsFault : {T E : Type 0} → ℕ → ℕ → Result T E → Type 0
CountsFault old new (Ok value) = new ≡ old
CountsFault old new (Err fault) = new ≡ one_more old

-- a fault was counted where the answer is Failed
abbrev pub CountsFileFault : {T : Type 0} → ℕ → ℕ → Result T FileFault → Type 0
CountsFileFault old new (Ok value) = new ≡ old
CountsFileFault old new (Err Failed) = new ≡ one_more old
CountsFileFault old new (Err TooLong) = new ≡ old
CountsFileFault old new (Err OutOfMemory) = new ≡ old
