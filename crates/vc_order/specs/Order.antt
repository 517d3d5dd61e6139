-- When code is other code with its blocks in another order. Nothing here speaks of runs.
use Rattle.std.specs.Prelude.{◌≡◌, ℕ, ◌<◌, List, length, map, slice_get, slice_index_or, Some}
use Rattle.std.specs.List.{range_with_len}
use Rattle.std.specs.List.Sorted.{IsPermutation}
use Rattle.pra_base.specs.declared.ids.BlockId.{BlockId}
use Rattle.pra_base.specs.declared.code.End.{End}
use Rattle.pra_base.specs.declared.code.End.TheVariants.{Jump, Branch, Return}
use Rattle.pra_base.specs.declared.code.Block.{Block}
use Rattle.pra_base.specs.declared.code.VProc.{VProc}
use Rattle.pra_base.specs.Code.{block_of}
use Rattle.pra_base.specs.Valid.{instruction_count}
use Rattle.vc_build.specs.Text.{times, below, depth_at}

-- the new number of each block
abbrev pub Places : Type 0
Places = ℕ → ℕ

abbrev pub block_at : Places → BlockId → BlockId
block_at to b = record { 0 = to b.0 }

abbrev pub end_with : Places → End → End
end_with to (Jump b) = Jump (block_at to b)
end_with to (Branch condition one other) = Branch condition (block_at to one) (block_at to other)
end_with to Return = Return

-- the block with its targets under their new numbers
abbrev pub block_with : Places → Block → Block
block_with to block = record block { end = end_with to block.end }

-- The code is the old code with its blocks in another order, which keeps the entry. Each block has
-- a new place, and each place a block.
pub record Reordered (to from : Places) (old new : VProc) : Type 0 where
  pub id : new.id ≡ old.id
  pub args : new.args ≡ old.args
  pub aggregates : new.aggregates ≡ old.aggregates
  pub vars : new.vars ≡ old.vars
  pub count : length new.blocks ≡ length old.blocks
  pub entry : to 0 ≡ 0
  pub blocks : (b : ℕ) (block : Block) → slice_get old.blocks b ≡ Some block →
      slice_get new.blocks (to b) ≡ Some (block_with to block)
  pub back : (b : ℕ) → b < length old.blocks → from (to b) ≡ b
  pub forth : (c : ℕ) → c < length old.blocks → to (from c) ≡ c
  pub within : (c : ℕ) → c < length old.blocks → from c < length old.blocks
  pub instructions : instruction_count new.blocks ≡ instruction_count old.blocks

-- the depths of the blocks, in their order
abbrev pub depths : VProc → List ℕ
depths code = map (λ (b : Block). b.depth) code.blocks

-- ---- an order as two lists

-- the number of the block at this place in a list
abbrev pub number_at : List BlockId → ℕ → ℕ
number_at ids c = (slice_index_or ids c (record { 0 = 0 })).0

-- the number of this place in a list; past its end a number stays what it is
abbrev pub place_in : List ℕ → Places
place_in places b = slice_index_or places b b

-- Two lists are an order of so many blocks, which begins with the entry: the place of each block,
-- and the block at each place.
pub record IsOrder (count : ℕ) (to from : List ℕ) : Type 0 where
  pub places : length to ≡ count
  pub blocks : length from ≡ count
  pub entry : place_in to 0 ≡ 0
  pub there : (b : ℕ) → b < count → (place_in to b < count) × (place_in from (place_in to b) ≡ b)
  pub back : (c : ℕ) → c < count → (place_in from c < count) × (place_in to (place_in from c) ≡ c)
  pub all : IsPermutation (range_with_len 0 count) from

-- the blocks in an order of them
abbrev pub blocks_in : (to from : List ℕ) → VProc → List Block
blocks_in to from code = map (λ b. block_with (place_in to) (block_of code b)) from

-- A list has so many blocks, each once, and begins with the entry.
pub record IsListing (count : ℕ) (ids : List BlockId) : Type 0 where
  pub many : length ids ≡ count
  pub once : (b : ℕ) → times b ids ≡ below b count
  pub entry : number_at ids 0 ≡ 0

-- The code has its blocks in the order of a list, and the depths of its blocks are theirs.
pub record IsInOrder (code : VProc) (ids : List BlockId) (new : VProc) : Type 0 where
  pub to : Places
  pub from : Places
  pub reordered : Reordered to from code new
  pub listed : (c : ℕ) → c < length ids → from c ≡ number_at ids c
  pub depths : depths new ≡ map (λ b. depth_at code b.0) ids
