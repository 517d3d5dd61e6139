-- The places that are open to a tie group, as a test, and what is marked of the groups before it.
use Rattle.std.specs.Prelude.{◌≡◌, ℕ, ◌<◌, Bool, true, ◌&&◌, not, nat_eq, List, length, slice_get}
use Rattle.std.specs.Prelude.{Some, IsTrue}
use Rattle.std.specs.List.{list_all}
use Rattle.pra_base.specs.declared.ids.Place.{Place}
use Rattle.pra_base.specs.Places.{number, allows, has_register, register_of}
use Rattle.net_form.specs.declared.net.Net.{Net}
use Rattle.net_form.specs.declared.net.TieEnd.{TieEnd}
use Rattle.net_form.specs.Admitted.{strand_at, in_register}
use Rattle.net_form.specs.InUse.{mark}
use Rattle.net_laws.specs.Homes.{mask_in}
use Rattle.al_laws.specs.Greedy.{IsEnd}
use Rattle.al_laws.specs.Parts.{layer_at}
use Rattle.al_edge.specs.GroupEnds.{ends_of, end_layer}

-- the place is in no register that is marked at layer n
abbrev pub is_unmarked : List ℕ → ℕ → Place → Bool
is_unmarked regs n p =
    not (has_register (number p) && nat_eq (mark regs n (register_of (number p))) 1)

-- the layer of an end, where the layers of all blocks are counted together
abbrev pub whole_layer : Net → TieEnd → ℕ
whole_layer net e = layer_at net e.strand (end_layer net e)

-- the end may be at the place
abbrev pub may_be : Net → List ℕ → Place → TieEnd → Bool
may_be net regs p e =
    allows (mask_in (strand_at net e.strand) (end_layer net e)) (number p) &&
    is_unmarked regs (whole_layer net e) p

-- and all ends of the group may
abbrev pub suits_all : Net → List ℕ → ℕ → Place → Bool
suits_all net regs g p = list_all (may_be net regs p) (ends_of net g)

-- the mask has just these places
abbrev pub AreForAll : Net → List ℕ → ℕ → ℕ → Type 0
AreForAll net regs g mask =
    (p : Place) → allows mask (number p) ≡ suits_all net regs g p

-- the place is in the masks of the group's ends
abbrev pub IsInMasks : Net → ℕ → Place → Type 0
IsInMasks net g p =
    (s l : ℕ) → s < length net.strands → IsEnd net g s l →
    IsTrue (allows (mask_in (strand_at net s) l) (number p))

-- ---- what is marked

-- the end comes to register r of layer n, where the group is at place p
abbrev pub comes_there : Net → ℕ → ℕ → Place → TieEnd → Bool
comes_there net n r p e = nat_eq (whole_layer net e) n && in_register r p

-- the place of a group is in register r, and the group has an end at layer n
pub record IsUsedBy (net : Net) (places : List Place) (n r : ℕ) : Type 0 where
  pub group : ℕ
  pub place : Place
  pub strand : ℕ
  pub layer : ℕ
  pub is_planned : slice_get places group ≡ Some place
  pub there : strand < length net.strands
  pub end : IsEnd net group strand layer
  pub at : layer_at net strand layer ≡ n
  pub held : in_register r place ≡ true

-- marked are the registers of the groups that have a place, at the layers of their ends
pub record AreMarked (net : Net) (places : List Place) (regs : List ℕ) : Type 0 where
  pub all : (n r : ℕ) → IsUsedBy net places n r → mark regs n r ≡ 1
  pub only : (n r : ℕ) → mark regs n r ≡ 1 → IsUsedBy net places n r
