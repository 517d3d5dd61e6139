-- What rounds note of the sweeps that raise their prices.
use Rattle.std.specs.Prelude.{◌≡◌, ℕ, ◌+◌, ◌-◌, ◌^◌, ◌≤◌, min, Bool, true, false, if◌then◌else◌}
use Rattle.std.specs.Prelude.{pos, ◌+ℤ◌, ◌≤ℤ◌, ◌<ℤ◌}
use Rattle.al_round.specs.declared.raised.Raised.{Raised}
use Rattle.al_round.specs.declared.sweeps.Sweeps.{Sweeps}

-- a number of 32 bits counts no further than to its end
abbrev counted : ℕ → ℕ
counted n = min n (2 ^ 32 - 1)

-- So many more were made. Rounds without gain are counted from the last one that gained something.
abbrev pub noted : Sweeps → ℕ → Bool → Sweeps
noted old sweeps gained = record {
  first = old.first;
  most = old.most;
  made = counted (old.made + sweeps);
  fruitless = if gained then 0 else counted (old.fruitless + 1);
}

-- so many were made, and something was gained where the value rose by a unit of cost
pub record IsNoted (sweeps : ℕ) (old new : Raised) : Type 0 where
  pub gained : Bool
  pub noted : new.sweeps ≡ noted old.sweeps sweeps gained
  pub rose : gained ≡ true → (old.value +ℤ pos 1024) ≤ℤ new.value
  pub stayed : gained ≡ false → new.value <ℤ (old.value +ℤ pos 1024)

-- A round that made sweeps noted them, and one that made none changed nothing.
pub record HasNoted (old new : Raised) : Type 0 where
  pub sweeps : ℕ
  pub none : sweeps ≡ 0 → new ≡ old
  pub some : 1 ≤ sweeps → IsNoted sweeps old new
