-- Where the lists of a network begin for each block and each strand.
use Rattle.std.specs.Prelude.{ℕ, Bool, ◌+◌, max, nat_lt, nat_eq, ◌&&◌, ◌||◌, if◌then◌else◌, List}
use Rattle.std.specs.Prelude.{[], ◌∷◌, ◌++◌, map, length, take, sum_by, count_by, Option, Some}
use Rattle.std.specs.Prelude.{None}
use Rattle.std.specs.List.{range_with_len, flat_map, filter_map, enumerate_from}
use Rattle.net_form.specs.declared.net.NetBlock.{NetBlock}
use Rattle.net_form.specs.declared.net.Strand.{Strand}
use Rattle.net_form.specs.declared.net.Extra.{Extra}
use Rattle.net_form.specs.declared.net.MemPair.{MemPair}
use Rattle.net_form.specs.declared.net.Tie.{Tie}
use Rattle.net_form.specs.declared.net.PairEnd.{PairEnd}
use Rattle.net_form.specs.declared.net.BlockEnd.{BlockEnd}
use Rattle.net_form.specs.declared.net.BlockEnd.TheVariants.{Entry, Exit}
use Rattle.net_form.specs.declared.net.TieEnd.{TieEnd}
use Rattle.net_form.specs.declared.net.NetIndex.{NetIndex}

-- the layer 0 of block b, where the layers of all blocks are counted together
abbrev pub first_layer : List NetBlock → ℕ → ℕ
first_layer blocks b = sum_by (λ k. k.layers) (take b blocks)

-- for each number up to n, itself included, how many of the list belong to a lower number
abbrev pub beginnings : {X : Type 0} → (X → ℕ) → List X → ℕ → List ℕ
beginnings owner xs n = map (λ s. count_by (λ x. nat_lt (owner x) s) xs) (range_with_len 0 (n + 1))

-- an end of a pair, with its strand
pub record OwnedEnd : Type 0 where
  pub strand : ℕ
  pub at : PairEnd

abbrev pub is_end : ℕ → ℕ → MemPair → Bool
is_end s l m =
    (nat_eq m.left s && nat_eq m.left_layer l) || (nat_eq m.right s && nat_eq m.right_layer l)

abbrev pub ends_at : List MemPair → ℕ → ℕ → List OwnedEnd
ends_at pairs s l =
    filter_map
    (λ m.
    if is_end s l m.1 then Some (record { strand = s; at = record { layer = l; pair = m.0 } })
    else None)
    (enumerate_from 0 pairs)

-- by strand, then layer
abbrev pub owned_ends : List MemPair → List Strand → List OwnedEnd
owned_ends pairs strands =
    flat_map
    (λ s. flat_map (ends_at pairs s.0) (range_with_len s.1.first (length s.1.masks)))
    (enumerate_from 0 strands)

-- the numbers of those that belong to number k
abbrev pub items_of : {X : Type 0} → (X → ℕ) → List X → ℕ → List ℕ
items_of owner xs k =
    filter_map (λ x. if nat_eq (owner x.1) k then Some x.0 else None) (enumerate_from 0 xs)

-- by owner, where there are so many of them
abbrev pub by_owner : {X : Type 0} → (X → ℕ) → List X → ℕ → List ℕ
by_owner owner xs n = flat_map (items_of owner xs) (range_with_len 0 n)

-- one more than the greatest number of a variable
abbrev pub var_count : List Strand → ℕ
var_count [] = 0
var_count (t ∷ ts) = max (t.var.0 + 1) (var_count ts)

-- an end of a strand, with the group in which ties join it with others
pub record Member : Type 0 where
  pub group : ℕ
  pub at : TieEnd

abbrev pub member : Option ℕ → ℕ → BlockEnd → List Member
member None s end = []
member (Some g) s end = record { group = g; at = record { strand = s; end = end } } ∷ []

-- of each strand its entry, then its exit
abbrev pub members : List Strand → List Member
members strands =
    flat_map
    (λ s. member s.1.entry_group s.0 Entry ++ member s.1.exit_group s.0 Exit)
    (enumerate_from 0 strands)

abbrev pub ends_in : List Member → ℕ → List TieEnd
ends_in ms g = filter_map (λ m. if nat_eq m.group g then Some m.at else None) ms

abbrev pub index_of : List NetBlock → List Strand → List Extra → List MemPair → List Tie → ℕ
    → NetIndex
index_of blocks strands extras pairs ties groups =
    let n = length strands in
    let vars = var_count strands in
    let ends = owned_ends pairs strands in
    let tied = members strands in record {
      layers = map (first_layer blocks) (range_with_len 0 (length blocks + 1));
      strands = beginnings (λ t. t.block.0) strands (length blocks);
      vars = beginnings (λ t. t.var.0) strands vars;
      of_vars = by_owner (λ t. t.var.0) strands vars;
      extras = beginnings (λ x. x.strand) extras n;
      pairs = beginnings (λ e. e.strand) ends n;
      ends = map (λ e. e.at) ends;
      exits = beginnings (λ t. t.from) ties n;
      entries = beginnings (λ t. t.to) ties n;
      arrivals = by_owner (λ t. t.to) ties n;
      groups = beginnings (λ m. m.group) tied groups;
      members = flat_map (ends_in tied) (range_with_len 0 groups);
    }
