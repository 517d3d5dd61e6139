-- What every network of sized code is, as far as numbers go.
use Rattle.std.specs.Prelude.{◌≡◌, ℕ, ◌+◌, ◌<◌, ◌≤◌, List, length, slice_index_or, All, ◌^◌}
use Rattle.net_cost.specs.Weights.{deepest}
use Rattle.net_form.specs.declared.net.NetBlock.{NetBlock}
use Rattle.net_form.specs.declared.net.Strand.{Strand}
use Rattle.net_form.specs.declared.net.Net.{Net}
use Rattle.net_form.specs.Index.{index_of}
use Rattle.net_form.specs.Rooms.{layer_total}

-- where there is no block
abbrev pub no_block : NetBlock
no_block = record { depth = 0; layers = 0 }

-- a strand of one of the blocks, with a mask for each of its layers
pub record IsStrandOf (blocks : List NetBlock) (t : Strand) : Type 0 where
  pub block : t.block.0 < length blocks
  pub order : t.first ≤ t.last
  pub masks : t.first + length t.masks ≡ t.last + 1
  pub within : t.last < (slice_index_or blocks t.block.0 no_block).layers

-- the layers of the greatest procedure
abbrev pub most_layers : ℕ
most_layers = 24838

pub record IsFormed (net : Net) : Type 0 where
  pub strands : All (IsStrandOf net.blocks) net.strands
  pub few : length net.strands < 2 ^ 32
  pub layers : layer_total net.blocks ≤ most_layers
  pub depths : All (λ b. b.depth ≤ deepest) net.blocks
  -- an instruction has one memory pair at most, and its layers are more
  pub pairs : length net.pairs ≤ most_layers
  pub ties : All (λ t. t.from < length net.strands) net.ties
  pub index : net.index ≡
      index_of net.blocks net.strands net.extras net.pairs net.ties net.groups
