-- The numbers of ties by those that are not 0.
use Rattle.std.specs.Prelude.{◌≡◌, ℕ, ℤ, pos, ◌*◌, ◌<◌, ◌≤◌, List, [], ◌∷◌, ◌++◌, length}
use Rattle.std.specs.Prelude.{replicate, slice_set, slice_index_or}
use Rattle.std.specs.List.{fold, All}
use Rattle.net_kept.specs.declared.prices.NumberAt.{NumberAt}

-- the numbers, with one more in its place
abbrev pub put_number : List ℤ → NumberAt → List ℤ
put_number numbers entry = slice_set numbers entry.index entry.number

-- The list that is meant: zeros, thirteen for each tie, and the numbers put there one by one.
unfoldable pub spread : ℕ → List NumberAt → List ℤ
spread ties entries = fold put_number (replicate (13 * ties) (pos 0)) entries

-- each stands at one of the numbers of so many ties
abbrev pub AreWithin : ℕ → List NumberAt → Type 0
AreWithin ties entries = All (λ entry. entry.index < 13 * ties) entries

-- So many of the numbers, the first ones, are among the entries; the others are not yet.
pub record ArePackedTo (ties done : ℕ) (numbers : List ℤ) (entries : List NumberAt) : Type 0 where
  pub within : AreWithin ties entries
  pub same : (k : ℕ) → k < done
      → slice_index_or (spread ties entries) k (pos 0) ≡ slice_index_or numbers k (pos 0)
  pub zero : (k : ℕ) → done ≤ k → slice_index_or (spread ties entries) k (pos 0) ≡ pos 0

-- entries, by their indexes and their numbers
abbrev pub joined : List ℕ → List ℤ → List NumberAt
joined [] numbers = []
joined (i ∷ is) [] = []
joined (i ∷ is) (z ∷ zs) = record { index = i; number = z } ∷ joined is zs

-- an entry more
pub record IsAdded (is : List ℕ) (zs : List ℤ) (entry : NumberAt) (js : List ℕ) (ys : List ℤ)
    : Type 0 where
  pub long : length js ≡ length ys
  pub same : joined js ys ≡ joined is zs ++ entry ∷ []

-- what is kept of the numbers of so many ties
pub record AreKept (ties : ℕ) (is : List ℕ) (zs : List ℤ) : Type 0 where
  pub long : length is ≡ length zs
  pub within : AreWithin ties (joined is zs)
