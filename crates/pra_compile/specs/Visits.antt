-- The visits of a round of a module, shared out among its procedures.
use Rattle.std.specs.Prelude.{◌≡◌, ℕ, ◌≤◌, List, length, All}

-- a share for each of so many procedures, none below 200,000 visits and none above 5,000,000
pub record AreShares (count : ℕ) (visits : List ℕ) : Type 0 where
  pub many : length visits ≡ count
  pub least : All (λ n. 200000 ≤ n) visits
  pub most : All (λ n. n ≤ 5000000) visits
