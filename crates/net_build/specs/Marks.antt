-- Operands in memory pairs, and the pairs of a block.
use Rattle.std.specs.Prelude.{ℕ, ◌<◌, List, [], ◌∷◌, Option, Some, None, slice_index_or}
use Rattle.std.specs.List.{filter_map, enumerate_from}
use Rattle.pra_base.specs.declared.code.VProc.{VProc}
use Rattle.pra_base.specs.Code.{code_of}
use Rattle.pra_base.specs.Operands.{operands}
use Rattle.net_form.specs.declared.net.Strand.{Strand}
use Rattle.net_form.specs.declared.net.MemPair.{MemPair}
use Rattle.net_form.specs.Network.{marked, pair_of}
use Rattle.net_build.specs.declared.pairs.Marks.{Marks}

abbrev pub marks_of : Option Marks → List (ℕ × ℕ)
marks_of None = []
marks_of (Some m) = (m.left.var, m.left.layer) ∷ (m.right.var, m.right.layer) ∷ []

abbrev pub block_pairs : VProc → List Strand → ℕ → List MemPair
block_pairs code ss b =
    filter_map (λ i. pair_of ss b (marked i.0 (operands i.1))) (enumerate_from 0 (code_of code b))

-- the first so many strands are of blocks before this one
abbrev pub AreBefore : List Strand → ℕ → ℕ → Type 0
AreBefore ss b n = (k : ℕ) (d : Strand) → k < n → (slice_index_or ss k d).block.0 < b
