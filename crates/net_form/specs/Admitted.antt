-- Which flows the network admits.
use Rattle.std.specs.Prelude.{◌≡◌, ℕ, ◌+◌, ◌-◌, ◌%◌, ◌≤◌, Bool, true, ◌&&◌, ◌||◌, not, nat_eq, List}
use Rattle.std.specs.Prelude.{[], Option, None, Some, All, count_by, slice_index_or, IsTrue}
use Rattle.pra_base.specs.declared.ids.Place.{Place}
use Rattle.pra_base.specs.Places.{number, allows, has_register, register_of, is_mem}
use Rattle.net_form.specs.declared.net.Strand.{Strand}
use Rattle.net_form.specs.declared.net.MemPair.{MemPair}
use Rattle.net_form.specs.declared.net.Tie.{Tie}
use Rattle.net_form.specs.declared.net.Net.{Net}
use Rattle.net_form.specs.Flow.{Edge, is_at, same_place, Conserves}
use Rattle.net_form.specs.Index.{first_layer}

-- a strand, and one at block 0 where there is none
abbrev pub no_strand : Strand
no_strand = record {
  var = record { 0 = 0 };
  block = record { 0 = 0 };
  first = 0;
  last = 0;
  constant = true;
  masks = [];
  entry_group = None;
  exit_group = None;
}

abbrev pub strand_at : Net → ℕ → Strand
strand_at net s = slice_index_or net.strands s no_strand

-- a tie, and one of strand 0 where there is none
abbrev pub no_tie : Tie
no_tie = record { from = 0; to = 0 }

abbrev pub tie_at : Net → ℕ → Tie
tie_at net i = slice_index_or net.ties i no_tie

-- the layer at which an edge arrives, where the layers of all blocks are counted together
abbrev pub layer_of : Net → Edge → ℕ
layer_of net e = first_layer net.blocks (strand_at net e.strand).block.0 + e.layer

-- the mask of the strand at that layer
abbrev pub mask_of : Net → Edge → ℕ
mask_of net e =
    let t = strand_at net e.strand in slice_index_or t.masks (e.layer - t.first) 0

-- 1. it arrives at a place of the strand's mask
abbrev pub in_mask : Net → Edge → Bool
in_mask net e = allows (mask_of net e) (number e.to)

-- 2. an edge across an instruction, which is one to an even layer that does not come from Start,
-- stays in its place
abbrev pub is_across : Edge → Bool
is_across e = nat_eq (e.layer % 2) 0

abbrev pub stays_from : Option Place → Place → Bool
stays_from None q = true
stays_from (Some p) q = same_place p q

abbrev pub stays_across : Edge → Bool
stays_across e = not (is_across e) || stays_from e.from e.to

-- 3. it arrives at register r of layer n, in the register alone or in its both place
abbrev pub in_register : ℕ → Place → Bool
in_register r p = has_register (number p) && nat_eq (register_of (number p)) r

abbrev pub uses_bundle : Net → ℕ → ℕ → Edge → Bool
uses_bundle net n r e = nat_eq (layer_of net e) n && in_register r e.to

-- 4. it brings an end of the pair to memory
abbrev pub uses_memory : MemPair → Edge → Bool
uses_memory m e =
    (is_at m.left m.left_layer e || is_at m.right m.right_layer e) && is_mem (number e.to)

-- 5. it arrives at place p where the tie begins, and where it leads
abbrev pub exits_at : Net → Tie → Place → Edge → Bool
exits_at net t p e = is_at t.from (strand_at net t.from).last e && same_place e.to p

abbrev pub enters_at : Net → Tie → Place → Edge → Bool
enters_at net t p e = is_at t.to (strand_at net t.to).first e && same_place e.to p

abbrev pub KeepsTie : Net → List Edge → Tie → Type 0
KeepsTie net f t = (p : Place) → count_by (exits_at net t p) f ≡ count_by (enters_at net t p) f

pub record IsAdmitted (net : Net) (f : List Edge) : Type 0 where
  pub conserves : Conserves net.strands f
  pub masks : All (λ e. IsTrue (in_mask net e)) f
  pub across : All (λ e. IsTrue (stays_across e)) f
  pub bundles : (n r : ℕ) → count_by (uses_bundle net n r) f ≤ 1
  pub pairs : All (λ m. count_by (uses_memory m) f ≤ 1) net.pairs
  pub ties : All (KeepsTie net f) net.ties
