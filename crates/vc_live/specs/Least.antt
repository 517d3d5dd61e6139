-- The least number that passes a test.
use Rattle.std.specs.Prelude.{ℕ, ◌<◌, ◌≤◌, Bool, Option, Some, None, IfSome, IsFalse, ⊤}

-- nothing stands before it, or it stands before the number that is there
abbrev pub IsBelow : ℕ → Option ℕ → Type 0
IsBelow v None = ⊤
IsBelow v (Some least) = v < least

-- the least number from one on and below another that passes, if there is one
abbrev pub IsLeastFrom : (ℕ → Bool) → ℕ → ℕ → Option ℕ → Type 0
IsLeastFrom p from end least =
    IfSome least (λ l. (from ≤ l) × (l < end)) ×
    ((v : ℕ) → from ≤ v → v < end → IsBelow v least → IsFalse (p v))
