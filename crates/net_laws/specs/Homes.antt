-- Home places: memory, or for a constant nowhere. What a network leaves room for, so that each
-- strand may be at home wherever its mask has that, and in a register elsewhere.
use Rattle.std.specs.Prelude.{◌≡◌, ℕ, ◌-◌, ◌<◌, Bool, true, false, ◌&&◌, ◌||◌, not, nat_eq, nat_le}
use Rattle.std.specs.Prelude.{nat_lt, if◌then◌else◌, List, All, count_by, length, slice_index_or}
use Rattle.std.specs.List.{range_with_len, list_any}
use Rattle.pra_base.specs.declared.ids.Place.{Place}
use Rattle.pra_base.specs.declared.ids.Place.TheVariants.{Mem, Const}
use Rattle.pra_base.specs.Places.{number, allows, meet, register_count}
use Rattle.net_form.specs.declared.net.Strand.{Strand}
use Rattle.net_form.specs.declared.net.MemPair.{MemPair}
use Rattle.net_form.specs.declared.net.Net.{Net}
use Rattle.net_form.specs.Strands.{across}
use Rattle.net_form.specs.Admitted.{strand_at}

abbrev pub home_of : Strand → Place
home_of t = if t.constant then Const else Mem

-- ---- a strand at one of its layers

abbrev pub is_there : Strand → ℕ → Bool
is_there t l = nat_le t.first l && nat_le l t.last

-- the layer is one side of an instruction, and the strand is present on the other side too
abbrev pub passes : Strand → ℕ → Bool
passes t l = nat_lt 0 l && is_there t (across l)

abbrev pub mask_in : Strand → ℕ → ℕ
mask_in t l = slice_index_or t.masks (l - t.first) 0

-- where it may be, since it stays in its place across an instruction
abbrev pub allowed : Strand → ℕ → ℕ
allowed t l = if passes t l then meet (mask_in t l) (mask_in t (across l)) else mask_in t l

abbrev pub has_home : Strand → ℕ → Bool
has_home t l = allows (allowed t l) (number (home_of t))

-- ---- memory pairs: the left end is in memory where it may be, and then the right end is not

abbrev pub left_stays : Net → MemPair → Bool
left_stays net m = let t = strand_at net m.left in not t.constant && has_home t m.left_layer

abbrev pub is_right : ℕ → ℕ → MemPair → Bool
is_right s l m = nat_eq m.right s && nat_eq m.right_layer l

abbrev pub yields_at : Net → ℕ → ℕ → Bool
yields_at net s l = list_any (λ m. is_right s l m && left_stays net m) net.pairs

-- strand s gives way on one side of the instruction
abbrev pub yields : Net → ℕ → ℕ → Bool
yields net s l = yields_at net s l || (passes (strand_at net s) l && yields_at net s (across l))

-- ---- registers

-- strand s can't be at home at the layer
abbrev pub needs_register : Net → ℕ → ℕ → Bool
needs_register net s l =
    let t = strand_at net s in not (has_home t l) || (not t.constant && yields net s l)

abbrev pub registers : List ℕ
registers = range_with_len 0 register_count

-- how many registers a mask has
abbrev pub choices : ℕ → ℕ
choices mask = count_by (allows mask) registers

-- two masks have a register in common
abbrev pub shares : ℕ → ℕ → Bool
shares a b = list_any (λ r. allows a r && allows b r) registers

-- strand s needs a register at layer l of block b, and one of this mask may be its register
abbrev pub contends : Net → ℕ → ℕ → ℕ → ℕ → Bool
contends net b l mask s =
    let t = strand_at net s in
    nat_eq t.block.0 b && is_there t l && needs_register net s l && shares mask (allowed t l)

-- another strand contends with strand s, on a side at which s is
abbrev pub is_rival : Net → ℕ → ℕ → ℕ → Bool
is_rival net s l r =
    let t = strand_at net s in
    let mask = allowed t l in
    let b = t.block.0 in
    not (nat_eq r s) &&
    (contends net b l mask r || (passes t l && contends net b (across l) mask r))

abbrev pub rivals : Net → ℕ → ℕ → ℕ
rivals net s l = count_by (is_rival net s l) (range_with_len 0 (length net.strands))

-- ---- room

-- both ends are there, and the left one is in memory where it may be
pub record IsFreePair (net : Net) (m : MemPair) : Type 0 where
  pub left_strand : m.left < length net.strands
  pub right_strand : m.right < length net.strands
  pub left : is_there (strand_at net m.left) m.left_layer ≡ true
  pub right : is_there (strand_at net m.right) m.right_layer ≡ true
  pub stays : left_stays net m ≡ true → needs_register net m.left m.left_layer ≡ false

-- Who needs a register has fewer rivals than registers to choose from, so that in any order there
-- is one left for each (a vertex of fewer neighbours than colours can be coloured last: Chaitin,
-- Register allocation and spilling via graph coloring, 1982). Where blocks begin and end each
-- strand is at home.
pub record HasRoom (net : Net) : Type 0 where
  pub registers : (s l : ℕ) → s < length net.strands → is_there (strand_at net s) l ≡ true →
      needs_register net s l ≡ true → rivals net s l < choices (allowed (strand_at net s) l)
  pub pairs : All (IsFreePair net) net.pairs
  pub targets : All (λ t. t.to < length net.strands) net.ties
  pub exits : All (λ t. needs_register net t.from (strand_at net t.from).last ≡ false) net.ties
  pub entries : All (λ t. needs_register net t.to (strand_at net t.to).first ≡ false) net.ties
  pub alike : All
      (λ t. (strand_at net t.from).constant ≡ (strand_at net t.to).constant) net.ties
