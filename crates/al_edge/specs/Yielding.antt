-- The table of who gives way.
use Rattle.std.specs.Prelude.{◌≡◌, ℕ, ◌<◌, ◌+◌, Bool, false, ◌&&◌, List, [], ◌∷◌, length, take}
use Rattle.std.specs.Prelude.{slice_index_or, replicate}
use Rattle.std.specs.List.{list_any}
use Rattle.net_form.specs.declared.net.Net.{Net}
use Rattle.net_form.specs.Admitted.{strand_at}
use Rattle.net_laws.specs.Homes.{is_right, left_stays}

-- the row of a strand; an empty one has no true entry
abbrev pub row_of : List (List Bool) → ℕ → List Bool
row_of table s = slice_index_or table s []

-- the row with all its n entries
abbrev pub full_row : ℕ → List Bool → List Bool
full_row n [] = replicate n false
full_row n (entry ∷ others) = entry ∷ others

-- a row for each strand, which is empty or has an entry for each of its layers: whether it is the
-- right end, there, of one of the first k pairs, whose left end is in memory
pub record IsTable (net : Net) (k : ℕ) (table : List (List Bool)) : Type 0 where
  pub rows : length table ≡ length net.strands
  pub entries : (s : ℕ) → s < length net.strands →
      length (full_row (length (strand_at net s).masks) (row_of table s)) ≡
      length (strand_at net s).masks
  pub value : (s j : ℕ) → s < length net.strands → j < length (strand_at net s).masks →
      slice_index_or (row_of table s) j false ≡
      list_any (λ m. is_right s ((strand_at net s).first + j) m && left_stays net m)
      (take k net.pairs)
