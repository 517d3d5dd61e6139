-- What every run keeps.
use Rattle.std.specs.Prelude.{◌≡◌, ℕ, ℤ, ◌+◌, ◌≤◌, List, ◌++◌, length}
use Rattle.ia_step.specs.State.{State}

-- A run from old to new keeps the code and the sizes of the regions, and takes words from the front
-- of the input, at most so many.
pub record Kept (old new : State) (most : ℕ) : Type 0 where
  pub code : new.code ≡ old.code
  pub data_size : length new.storage ≡ length old.storage
  pub stack_size : length new.stack ≡ length old.stack
  pub front : List ℤ
  pub input : old.input ≡ front ++ new.input
  pub taken : new.taken ≡ old.taken + length front
  pub few : length front ≤ most
