-- What was fetched before.
use Rattle.std.specs.Prelude.{◌≡◌, ℕ, List, length, All}
use Rattle.ia_step.specs.declared.fetched.Fetched.{Fetched}
use Rattle.ia_step.specs.declared.fetched.TheConstants.{ENTRIES}
use Rattle.ia_step.specs.Step.{fetch_in}

-- an entry is what fetching at its place of the code answers
abbrev pub IsFetched : List ℕ → Fetched → Type 0
IsFetched code entry = fetch_in code entry.at ≡ entry.answer

-- so are all entries, of which there are as many as there are to be
pub record AreFetched (code : List ℕ) (entries : List Fetched) : Type 0 where
  pub count : length entries ≡ ENTRIES
  pub each : All (IsFetched code) entries
