-- Prices on their way through a step: raised for each use, then lowered.
use Rattle.std.specs.Prelude.{◌≡◌, ℕ, ◌+◌, ◌-◌, ◌*◌, ◌^◌, ◌<◌, min, List, length, slice_index}
use Rattle.net_dual.specs.Step.{used_price}

-- s more for each use, as far as 64 bits go
abbrev pub raised : ℕ → ℕ → ℕ → ℕ
raised s old uses = min (old + s * uses) (2 ^ 64 - 1)

-- each price is raised by its uses
abbrev pub AreRaised : ℕ → (ℕ → ℕ) → List ℕ → List ℕ → Type 0
AreRaised s uses old new =
    (k : ℕ) → k < length old → slice_index new k ≡ raised s (slice_index old k) (uses k)

-- they fit 64 bits
abbrev pub AreWords : List ℕ → Type 0
AreWords prices = (k : ℕ) → slice_index prices k < 2 ^ 64

-- each price has made a step
abbrev pub AreStepped : ℕ → (ℕ → ℕ) → List ℕ → List ℕ → Type 0
AreStepped s uses old new =
    (k : ℕ) → k < length old → slice_index new k ≡ used_price s (slice_index old k) (uses k)
