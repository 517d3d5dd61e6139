-- The order of strands: by block, then first layer, then variable.
use Rattle.std.specs.Prelude.{◌≡◌, ℕ, ◌<◌, ◌≤◌, Bool, ◌&&◌, nat_eq, nat_lt}
use Rattle.std.specs.Prelude.{if◌then◌else◌, List, length, slice_index_or, Option, Some, None}
use Rattle.std.specs.List.{AllPairs}
use Rattle.pra_base.specs.declared.code.End.{End}
use Rattle.net_form.specs.declared.net.Strand.{Strand}
use Rattle.net_form.specs.declared.net.Tie.{Tie}
use Rattle.net_form.specs.Admitted.{no_strand}
use Rattle.net_form.specs.Network.{leads_to}

-- a block, a first layer, a variable
abbrev pub Key : Type 0
Key = ℕ × ℕ × ℕ

abbrev pub key_of : Strand → Key
key_of t = (t.block.0, t.first, t.var.0)

pub data Precedes (a b : Key) : Type 0 where
  block : a.0 < b.0 → Precedes a b
  first : a.0 ≡ b.0 → a.1 < b.1 → Precedes a b
  var : a.0 ≡ b.0 → a.1 ≡ b.1 → a.2 < b.2 → Precedes a b

abbrev pub AreInOrder : List Strand → Type 0
AreInOrder ss = AllPairs (λ s t. Precedes (key_of s) (key_of t)) ss

-- the strand is the variable's at the entry of a block that follows this end
abbrev pub goes_on : End → ℕ → Strand → Bool
goes_on end v t = nat_eq t.first 0 && nat_eq v t.var.0 && leads_to end t.block.0

-- the strands below `low` stand before the place, and those from `high` on do not
pub record IsBetween (ss : List Strand) (place : Key) (low high : ℕ) : Type 0 where
  pub before : (k : ℕ) (d : Strand) → k < low → Precedes (key_of (slice_index_or ss k d)) place
  pub behind : (k : ℕ) (d : Strand) → high ≤ k → k < length ss →
      ¬ Precedes (key_of (slice_index_or ss k d)) place

-- the strands of earlier blocks are those below `at`
pub record StartsAt (ss : List Strand) (b at : ℕ) : Type 0 where
  pub within : at ≤ length ss
  pub before : (k : ℕ) (d : Strand) → k < at → (slice_index_or ss k d).block.0 < b
  pub behind : (k : ℕ) (d : Strand) → at ≤ k → k < length ss →
      b ≤ (slice_index_or ss k d).block.0

-- the strand of this number is the variable's at the entry of the block
pub record IsEntry (ss : List Strand) (b v k : ℕ) : Type 0 where
  pub within : k < length ss
  pub key : (d : Strand) → key_of (slice_index_or ss k d) ≡ (b, 0, v)

-- for each block the number of its first strand, or of the first one of a later block
abbrev pub AreStarts : List Strand → List ℕ → Type 0
AreStarts ss starts = (b : ℕ) → b < length starts → StartsAt ss b (slice_index_or starts b 0)

-- the tie from a strand to the one of number k, if that goes on the variable behind the end
abbrev pub tie_to : List Strand → End → ℕ → ℕ → ℕ → Option Tie
tie_to ss end v from k =
    if goes_on end v (slice_index_or ss k no_strand) then Some (record { from = from; to = k })
    else None

-- what is made of number k, where this is below n
abbrev pub within : {A : Type 0} → (ℕ → Option A) → ℕ → ℕ → Option A
within f n k = if nat_lt k n then f k else None
