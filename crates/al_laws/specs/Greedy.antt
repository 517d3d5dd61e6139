-- A place for each tie group, chosen group by group: the open place that costs the strands of the
-- group least, each alone.
use Rattle.std.specs.Prelude.{◌≡◌, ◌⊎◌, ℕ, ◌<◌, ◌≤◌, ◌&&◌, ◌||◌, Bool, true, false, nat_eq}
use Rattle.std.specs.Prelude.{if◌then◌else◌, ℤ, ◌<ℤ◌, length, slice_get}
use Rattle.std.specs.Prelude.{Option, Some, None, IsTrue, IfSome}
use Rattle.std.specs.List.{range_with_len}
use Rattle.pra_base.specs.declared.ids.Place.{Place}
use Rattle.pra_base.specs.Places.{number, allows, has_register, register_of}
use Rattle.net_cost.specs.declared.weights.Weights.{Weights}
use Rattle.net_form.specs.declared.net.Net.{Net}
use Rattle.net_form.specs.declared.prices.Prices.{Prices}
use Rattle.net_form.specs.declared.routes.Ends.{Ends}
use Rattle.net_form.specs.declared.routes.Plan.{Plan}
use Rattle.net_form.specs.Admitted.{strand_at}
use Rattle.net_laws.specs.Homes.{mask_in}
use Rattle.net_dual.specs.Paths.{Anywhere, IsLeastCost}
use Rattle.net_dual.specs.Priced.{total, pay, edge_price}
use Rattle.al_laws.specs.Parts.{layer_at}
use Rattle.al_laws.specs.Settled.{is_at_entry, is_at_exit}

-- ---- the ends of a group

-- strand s has an end in group g at its layer l
pub data IsEnd (net : Net) (g s : ℕ) : ℕ → Type 0 where
  entry : (strand_at net s).entry_group ≡ Some g → IsEnd net g s (strand_at net s).first
  exit : (strand_at net s).exit_group ≡ Some g → IsEnd net g s (strand_at net s).last

abbrev pub is_group : ℕ → Option ℕ → Bool
is_group g None = false
is_group g (Some h) = nat_eq h g

-- one of its ends is in the group
abbrev pub has_end : Net → ℕ → ℕ → Bool
has_end net g s =
    let t = strand_at net s in is_group g t.entry_group || is_group g t.exit_group

-- its ends in the group at place p, and the other one free
abbrev pub group_ends : Net → ℕ → Place → ℕ → Ends
group_ends net g p s =
    let t = strand_at net s in record {
      first = if is_group g t.entry_group then Some p else None;
      last = if is_group g t.exit_group then Some p else None;
    }

-- ---- open places

-- both places are in one register
abbrev pub clash : Place → Place → Bool
clash p q =
    has_register (number p) && has_register (number q) &&
    nat_eq (register_of (number p)) (register_of (number q))

-- The place is in the masks of the group's ends, and in no register that the place of an earlier
-- group is in, where both groups have an end at one layer.
pub record IsOpen (net : Net) (plan : Plan) (g : ℕ) (p : Place) : Type 0 where
  pub mask : (s l : ℕ) → s < length net.strands → IsEnd net g s l →
      IsTrue (allows (mask_in (strand_at net s) l) (number p))
  pub free : (s l h r k : ℕ) (q : Place) → s < length net.strands → r < length net.strands →
      h < g → slice_get plan.places h ≡ Some q → IsEnd net g s l → IsEnd net h r k →
      layer_at net s l ≡ layer_at net r k → clash p q ≡ false

-- ---- the choice

-- what the place costs the strands of the group, where it costs each so much
abbrev pub weight : Net → (ℕ → Place → ℕ → ℤ) → ℕ → Place → ℤ
weight net least g p =
    total (λ s. pay (has_end net g s) (least g p s)) (range_with_len 0 (length net.strands))

-- by weight, and of equal weight by number
abbrev pub Outranks : (Place → ℤ) → Place → Place → Type 0
Outranks weight p q = (weight p <ℤ weight q) ⊎ ((weight p ≡ weight q) × (number p ≤ number q))

-- Each group has the open place of least weight: the sum, over the strands with an end in it, of
-- the least priced cost of a path with these ends at the place and the other end free.
pub record IsGreedy (net : Net) (w : Weights) (prices : Prices) (plan : Plan) : Type 0 where
  pub many : length plan.places ≡ net.groups
  pub least : ℕ → Place → ℕ → ℤ
  pub costs : (g : ℕ) (p : Place) (s : ℕ) → g < net.groups → IsOpen net plan g p →
      s < length net.strands → has_end net g s ≡ true →
      IsLeastCost net (edge_price net w prices) (group_ends net g p s) Anywhere s (least g p s)
  pub open_places : (g : ℕ) (p : Place) → slice_get plan.places g ≡ Some p → IsOpen net plan g p
  pub chosen : (g : ℕ) (p q : Place) → slice_get plan.places g ≡ Some p → IsOpen net plan g q →
      Outranks (weight net least g) p q

-- ---- where a strand may begin and end

-- an end that is given is at an entry or an exit, and in the mask there
pub record MayEnd (net : Net) (s : ℕ) (ends : Ends) : Type 0 where
  pub first : IfSome ends.first
      (λ p. (is_at_entry net s ≡ true) ×
      IsTrue (allows (mask_in (strand_at net s) (strand_at net s).first) (number p)))
  pub last : IfSome ends.last
      (λ p. (is_at_exit net s ≡ true) ×
      IsTrue (allows (mask_in (strand_at net s) (strand_at net s).last) (number p)))
