-- A text's first part between separators.
use Rattle.std.specs.Prelude.{◌≡◌, ℕ, ◌+◌, ◌⊎◌, List, [], ◌∷◌, length}
use Rattle.std.specs.List.{slice_split}
use Rattle.pra_report.specs.Input.{is_separator}

-- the part, and the text behind the separator that ends it
pub record IsPartBefore (text part rest : List ℕ) : Type 0 where
  pub parts : slice_split is_separator text ≡ part ∷ slice_split is_separator rest
  pub size : length part + 1 + length rest ≡ length text

-- the part is all of the text
pub record IsOnlyPart (text part rest : List ℕ) : Type 0 where
  pub only : slice_split is_separator text ≡ part ∷ []
  pub whole : part ≡ text
  pub none : rest ≡ []

abbrev pub IsFirstPart : List ℕ → List ℕ → List ℕ → Type 0
IsFirstPart text part rest = IsPartBefore text part rest ⊎ IsOnlyPart text part rest
