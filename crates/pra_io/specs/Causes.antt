-- When a fault may be told.
use Rattle.std.specs.Prelude.{◌≢◌, ◌<◌, ◌≤◌, ◌-◌, ◌^◌, ℕ, List, Result, OnErr, IsErrOf}
use Rattle.pra_io.specs.declared.files.FileFault.{FileFault}
use Rattle.pra_io.specs.declared.files.FileFault.TheVariants.{Failed}

-- a count is greater than before, unless it stands at the last number of 64 bits
abbrev pub Rose : ℕ → ℕ → Type 0
Rose before now = now ≢ 2 ^ 64 - 1 → before < now

-- the count of a stream never falls, and an error is told only where it rose
pub record HasCause {T E : Type 0} (before now : ℕ) (result : Result T E) : Type 0 where
  pub later : before ≤ now
  pub failed : OnErr result (Rose before now)

-- no count of a folder falls, neither of this kind of call nor of the other, and Failed is told
-- only where that of this name and kind rose
pub record FileCause {T : Type 0} (name : List ℕ) (old new other_old other_new : List ℕ → ℕ)
    (result : Result T FileFault) : Type 0 where
  pub later : (n : List ℕ) → old n ≤ new n
  pub other_later : (n : List ℕ) → other_old n ≤ other_new n
  pub failed : IsErrOf result Failed → Rose (old name) (new name)
