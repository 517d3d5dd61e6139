-- What every network of valid sized code is: all that calls above ask of a network, in one record.
use Rattle.std.specs.Prelude.{◌≡◌, ◌≢◌, ℕ, ◌+◌, ◌%◌, ◌<◌, ◌≤◌, ◌&&◌, Bool, nat_eq, All, count_by}
use Rattle.std.specs.Prelude.{length}
use Rattle.std.specs.Prelude.{slice_index_or, Some, IfSome, IsTrue}
use Rattle.std.specs.List.{AllPairs}
use Rattle.pra_base.specs.declared.ids.Place.TheVariants.{Mem}
use Rattle.pra_base.specs.Places.{number, allows}
use Rattle.net_form.specs.declared.net.Strand.{Strand}
use Rattle.net_form.specs.declared.net.Tie.{Tie}
use Rattle.net_form.specs.declared.net.Net.{Net}
use Rattle.net_form.specs.Admitted.{strand_at}
use Rattle.net_form.specs.Formed.{IsFormed, no_block}
use Rattle.net_form.specs.Index.{is_end}
use Rattle.net_laws.specs.Homes.{HasRoom, mask_in}
use Rattle.net_laws.specs.Ordered.{IsInOrder}

-- by block, first layer, variable
pub data StrandBefore (s t : Strand) : Type 0 where
  block : s.block.0 < t.block.0 → StrandBefore s t
  layer : s.block.0 ≡ t.block.0 → s.first < t.first → StrandBefore s t
  var : s.block.0 ≡ t.block.0 → s.first ≡ t.first → s.var.0 < t.var.0 → StrandBefore s t

-- of one variable in one block, the one ends before the other begins
abbrev pub EndsBefore : Strand → Strand → Type 0
EndsBefore s t = s.var.0 ≡ t.var.0 → s.block.0 ≡ t.block.0 → s.last < t.first

-- A tie begins at the exit of a block, which is its last layer, and leads to an entry, layer 0. It
-- joins strands of one variable.
pub record IsBlockTie (net : Net) (t : Tie) : Type 0 where
  pub exit : (strand_at net t.from).last + 1 ≡
      (slice_index_or net.blocks (strand_at net t.from).block.0 no_block).layers
  pub entry : (strand_at net t.to).first ≡ 0
  pub var : (strand_at net t.from).var.0 ≡ (strand_at net t.to).var.0
  -- both ends are in one tie group
  pub group : ℕ
  pub exit_group : (strand_at net t.from).exit_group ≡ Some group
  pub entry_group : (strand_at net t.to).entry_group ≡ Some group

-- who has a group is at an entry, or at an exit, and may be in memory there
pub record IsGroupedStrand (net : Net) (t : Strand) : Type 0 where
  pub entry : IfSome t.entry_group (λ g. (g < net.groups) × (t.first ≡ 0))
  pub exit : IfSome t.exit_group
      (λ g. (g < net.groups) ×
      (t.last + 1 ≡ (slice_index_or net.blocks t.block.0 no_block).layers))
  pub entry_memory : IfSome t.entry_group
      (λ g. IsTrue (allows (mask_in t t.first) (number Mem)))
  pub exit_memory : IfSome t.exit_group (λ g. IsTrue (allows (mask_in t t.last) (number Mem)))

-- from the strand, and to it from block b
abbrev pub goes_from : ℕ → Tie → Bool
goes_from s t = nat_eq t.from s

abbrev pub comes_in : Net → ℕ → ℕ → Tie → Bool
comes_in net s b t = nat_eq t.to s && nat_eq (strand_at net t.from).block.0 b

-- a block is followed by two at most
abbrev pub most_following : ℕ
most_following = 2

-- the blocks of the greatest procedure
abbrev pub most_blocks : ℕ
most_blocks = 4098

pub record IsBuilt (net : Net) : Type 0 where
  pub formed : IsFormed net
  pub in_order : IsInOrder net
  pub room : HasRoom net
  pub blocks : length net.blocks ≤ most_blocks
  -- two layers for each instruction, an entry and an exit
  pub even : All (λ b. b.layers % 2 ≡ 0) net.blocks
  pub strands : AllPairs StrandBefore net.strands
  pub runs : AllPairs EndsBefore net.strands
  -- an instruction has one memory pair at most, of operands that are two variables
  pub one_end : (s l : ℕ) → count_by (is_end s l) net.pairs ≤ 1
  pub two_variables : All
      (λ m. (strand_at net m.left).var.0 ≢ (strand_at net m.right).var.0) net.pairs
  pub ties : All (IsBlockTie net) net.ties
  pub groups : All (IsGroupedStrand net) net.strands
  pub exits : (s : ℕ) → count_by (goes_from s) net.ties ≤ most_following
  pub entries : (s b : ℕ) → count_by (comes_in net s b) net.ties ≤ 1
