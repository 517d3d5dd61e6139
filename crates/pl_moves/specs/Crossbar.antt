-- Events of going from place to place, and how many moves there are for them.
use Rattle.std.specs.Prelude.{◌≡◌, ℕ, ◌≤◌, ◌⊎◌, Bool, true, false, nat_eq, not, ◌&&◌, if◌then◌else◌}
use Rattle.std.specs.Prelude.{List, [], ◌∷◌, ◌++◌, count_by, Any}
use Rattle.std.specs.List.{flat_map}
use Rattle.pra_base.specs.declared.ids.VarId.{VarId}
use Rattle.pra_base.specs.Places.{number, has_register, is_register, register_of, is_both}
use Rattle.pra_base.specs.Places.{needs_slot}
use Rattle.pl_moves.specs.declared.transfer.Pair.{Pair}
use Rattle.pl_moves.specs.declared.transfer.Move.{Move}
use Rattle.pl_moves.specs.declared.transfer.Move.TheVariants.{Copy, Swap, Load, Store, Set}

-- ---- events, by their numbers

abbrev pub register_event : ℕ
register_event = 0

abbrev pub load_event : Bool → ℕ
load_event near = if near then 1 else 3

abbrev pub store_event : Bool → ℕ
store_event near = if near then 2 else 4

abbrev pub constant_event : ℕ
constant_event = 5

abbrev pub only_if : Bool → ℕ → List ℕ
only_if b event = if b then event ∷ [] else []

-- what brings a value into the register q: from another register, out of memory, or as a number
abbrev pub brings : Bool → ℕ → ℕ → List ℕ
brings near p q =
    if has_register p then only_if (not (nat_eq (register_of p) (register_of q))) register_event
    else (if needs_slot p then load_event near ∷ [] else constant_event ∷ [])

-- The events of going from place p to place q. A value comes into the register of q, if it has one,
-- and into memory, if q has it and p has not.
abbrev pub crossbar : Bool → ℕ → ℕ → List ℕ
crossbar near p q =
    (if has_register q then brings near p q else [])
    ++ only_if (needs_slot q && not (needs_slot p)) (store_event near)

abbrev pub events : Bool → List Pair → List ℕ
events near pairs = flat_map (λ p. crossbar near (number p.from) (number p.to)) pairs

-- ---- moves, by kind

abbrev pub is_between : Move → Bool
is_between (Copy r q) = true
is_between (Swap r q) = true
is_between _ = false

abbrev pub is_load : Move → Bool
is_load (Load r v) = true
is_load _ = false

abbrev pub is_store : Move → Bool
is_store (Store v r) = true
is_store _ = false

abbrev pub is_set : Move → Bool
is_set (Set r n) = true
is_set _ = false

-- Each move has its event: no more moves between registers than events of that kind, and loads,
-- stores and numbers as often as theirs.
pub record Counted (near : Bool) (moves : List Move) (pairs : List Pair) : Type 0 where
  pub between : count_by is_between moves ≤ count_by (nat_eq register_event) (events near pairs)
  pub loads : count_by is_load moves ≡ count_by (nat_eq (load_event near)) (events near pairs)
  pub stores : count_by is_store moves ≡ count_by (nat_eq (store_event near)) (events near pairs)
  pub sets : count_by is_set moves ≡ count_by (nat_eq constant_event) (events near pairs)

-- from a register alone to the both place of another register
abbrev pub crosses_into_both : ℕ → ℕ → Bool
crosses_into_both p q =
    is_register p && is_both q && not (nat_eq (register_of p) (register_of q))

-- two for a pair that crosses into a both place, one for any other pair that changes its place
abbrev pub most_moves : Pair → ℕ
most_moves p =
    if nat_eq (number p.from) (number p.to) then 0
    else (if crosses_into_both (number p.from) (number p.to) then 2 else 1)

-- ---- what a move names

-- every place in it is a register alone
abbrev pub InRegisters : Move → Type 0
InRegisters (Copy r q) = (is_register (number r) ≡ true) × (is_register (number q) ≡ true)
InRegisters (Swap r q) = (is_register (number r) ≡ true) × (is_register (number q) ≡ true)
InRegisters (Load r v) = is_register (number r) ≡ true
InRegisters (Store v r) = is_register (number r) ≡ true
InRegisters (Set r n) = is_register (number r) ≡ true

abbrev pub HasMemory : Pair → Type 0
HasMemory p = (needs_slot (number p.from) ≡ true) ⊎ (needs_slot (number p.to) ≡ true)

-- some pair is of this variable, and comes from its memory or goes there
abbrev pub InMemory : List Pair → VarId → Type 0
InMemory pairs v = Any (λ p. (p.var ≡ v) × HasMemory p) pairs

abbrev pub NamesMemory : List Pair → Move → Type 0
NamesMemory pairs (Load r v) = InMemory pairs v
NamesMemory pairs (Store v r) = InMemory pairs v
NamesMemory pairs _ = Unit {0}
