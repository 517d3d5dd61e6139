-- The ways of a crossbar at a strand's block, and what is least over all ways from a place.
use Rattle.std.specs.Prelude.{◌≡◌, ◌≢◌, ◌⊎◌, ℕ, ◌+◌, ◌*◌, ◌^◌, ◌<◌, Bool, ◌&&◌, not, nat_eq}
use Rattle.std.specs.Prelude.{if◌then◌else◌, ℤ, pos, ◌+ℤ◌, ◌≤ℤ◌, List, slice_index_or}
use Rattle.pra_base.specs.declared.ids.Place.TheVariants.{Eax, Mem, Const, EaxM}
use Rattle.pra_base.specs.Places.{number, has_register, register_of, needs_slot, place_count}
use Rattle.pra_base.specs.Places.{register_count}
use Rattle.pl_moves.specs.Crossbar.{crossbar, register_event, load_event, store_event}
use Rattle.pl_moves.specs.Crossbar.{constant_event}
use Rattle.net_cost.specs.declared.weights.Weights.{Weights}
use Rattle.net_cost.specs.Weights.{weight_at}
use Rattle.net_form.specs.Cost.{events_weight}
use Rattle.net_path.specs.declared.crossbar.Ways.{Ways}
use Rattle.net_path.specs.declared.crossbar.Bests.{Bests}
use Rattle.net_path.specs.declared.crossbar.Onward.{Onward}
use Rattle.net_path.specs.declared.crossbar.Steps.{Steps}

-- what an event costs in a block of this loop depth, in units of 1/1024
abbrev pub event_price : Weights → ℕ → ℕ → ℤ
event_price w depth event = pos (1024 * weight_at w event depth)

-- what the way from a place to a place costs there
abbrev pub way_price : Weights → ℕ → Bool → ℕ → ℕ → ℤ
way_price w depth near p q = pos (1024 * events_weight w depth (crossbar near p q))

-- what the four moves of a crossbar cost there
pub record AreWays (w : Weights) (depth : ℕ) (near : Bool) (ways : Ways) : Type 0 where
  pub between : ways.between ≡ event_price w depth register_event
  pub load : ways.load ≡ event_price w depth (load_event near)
  pub store : ways.store ≡ event_price w depth (store_event near)
  pub set : ways.set ≡ event_price w depth constant_event

-- from 0 to 2^42
abbrev pub IsWay : ℤ → Type 0
IsWay z = (pos 0 ≤ℤ z) × (z ≤ℤ pos (2 ^ 42))

pub record AreWaysWithin (ways : Ways) : Type 0 where
  pub between : IsWay ways.between
  pub load : IsWay ways.load
  pub store : IsWay ways.store
  pub set : IsWay ways.set

-- the same way, by what the four moves cost
abbrev pub bring_price : Ways → ℕ → ℕ → ℤ
bring_price ways p q =
    if has_register p
    then (if nat_eq (register_of p) (register_of q) then pos 0 else ways.between)
    else (if needs_slot p then ways.load else ways.set)

abbrev pub step_price : Ways → ℕ → ℕ → ℤ
step_price ways p q =
    (if has_register q then bring_price ways p q else pos 0) +ℤ
    (if needs_slot q && not (needs_slot p) then ways.store else pos 0)

-- to begin at a place: a constant is made in a register, any other value is there
abbrev pub start_price : Ways → Bool → ℕ → ℤ
start_price ways constant q = if constant && has_register q then ways.set else pos 0

-- the both place of register r
abbrev pub both_place : ℕ → ℕ
both_place r = number EaxM + r

-- what is to be paid from place q on
abbrev pub at : List ℤ → ℕ → ℤ
at costs q = slice_index_or costs q (pos 0)

-- from -2^61 to 2^62 + 2^61, which leaves room for a way or two
abbrev pub IsDebt : ℤ → Type 0
IsDebt z = (pos 0 ≤ℤ (z +ℤ pos (2 ^ 61))) × (z ≤ℤ pos (2 ^ 62 + 2 ^ 61))

abbrev pub AreDebts : List ℤ → Type 0
AreDebts costs = (p : ℕ) → p < place_count → IsDebt (at costs p)

-- z is the least of n costs, of which the first is number i
pub record IsLeastAmong (costs : List ℤ) (i n : ℕ) (z : ℤ) : Type 0 where
  pub below : (k : ℕ) → k < n → z ≤ℤ at costs (i + k)
  pub place : ℕ
  pub within : place < n
  pub met : at costs (i + place) ≤ℤ z

-- z is the least of four
pub record IsLeastOfFour (a b c d z : ℤ) : Type 0 where
  pub first : z ≤ℤ a
  pub second : z ≤ℤ b
  pub third : z ≤ℤ c
  pub fourth : z ≤ℤ d
  pub met : (z ≡ a) ⊎ (z ≡ b) ⊎ (z ≡ c) ⊎ (z ≡ d)

-- the least of the six registers alone, of the six both places, and memory and the constant itself
pub record AreBests (costs : List ℤ) (bests : Bests) : Type 0 where
  pub alone : IsLeastAmong costs (number Eax) register_count bests.alone.cost
  pub both : IsLeastAmong costs (number EaxM) register_count bests.both.cost
  pub memory : bests.memory.cost ≡ at costs (number Mem)
  pub constant : bests.constant.cost ≡ at costs (number Const)

pub record AreBestsWithin (bests : Bests) : Type 0 where
  pub alone : IsDebt bests.alone.cost
  pub both : IsDebt bests.both.cost
  pub memory : IsDebt bests.memory.cost
  pub constant : IsDebt bests.constant.cost

-- to some place a way there and what is to be paid from there on come to z at most
pub record IsMet (way : ℕ → ℤ) (costs : List ℤ) (z : ℤ) : Type 0 where
  pub place : ℕ
  pub within : place < place_count
  pub met : (way place +ℤ at costs place) ≤ℤ z

-- z is the least over all places of a way there and what is to be paid from there on
pub record IsLeastWay (way : ℕ → ℤ) (costs : List ℤ) (z : ℤ) : Type 0 where
  pub below : (q : ℕ) → q < place_count → z ≤ℤ (way q +ℤ at costs q)
  pub met : IsMet way costs z

-- the same over all places but those of register r
pub record IsLeastElsewhere (way : ℕ → ℤ) (r : ℕ) (costs : List ℤ) (z : ℤ) : Type 0 where
  pub below : (q : ℕ) → q < place_count → q ≢ r → q ≢ both_place r →
      z ≤ℤ (way q +ℤ at costs q)
  pub met : IsMet way costs z

-- ---- what it costs to go on from a class of places to another

-- from 0 to 2^43: two ways at most
abbrev pub IsShort : ℤ → Type 0
IsShort z = (pos 0 ≤ℤ z) × (z ≤ℤ pos (2 ^ 43))

pub record IsOnward (by : Onward) : Type 0 where
  pub alone : IsShort by.alone
  pub both : IsShort by.both
  pub memory : IsShort by.memory
  pub constant : IsShort by.constant

pub record IsFromAlone (ways : Ways) (by : Onward) : Type 0 where
  pub alone : by.alone ≡ ways.between
  pub both : by.both ≡ ways.between +ℤ ways.store
  pub memory : by.memory ≡ ways.store
  pub constant : by.constant ≡ pos 0

pub record IsFromBoth (ways : Ways) (by : Onward) : Type 0 where
  pub alone : by.alone ≡ ways.between
  pub both : by.both ≡ ways.between
  pub memory : by.memory ≡ pos 0
  pub constant : by.constant ≡ pos 0

pub record IsFromMemory (ways : Ways) (by : Onward) : Type 0 where
  pub alone : by.alone ≡ ways.load
  pub both : by.both ≡ ways.load
  pub memory : by.memory ≡ pos 0
  pub constant : by.constant ≡ pos 0

pub record IsFromConstant (ways : Ways) (by : Onward) : Type 0 where
  pub alone : by.alone ≡ ways.set
  pub both : by.both ≡ ways.set +ℤ ways.store
  pub memory : by.memory ≡ ways.store
  pub constant : by.constant ≡ pos 0

-- what it costs to have come to a register alone from each class of places, to a both place, to
-- memory, and to the constant itself
pub record IsToAlone (ways : Ways) (by : Onward) : Type 0 where
  pub alone : by.alone ≡ ways.between
  pub both : by.both ≡ ways.between
  pub memory : by.memory ≡ ways.load
  pub constant : by.constant ≡ ways.set

pub record IsToBoth (ways : Ways) (by : Onward) : Type 0 where
  pub alone : by.alone ≡ ways.between +ℤ ways.store
  pub both : by.both ≡ ways.between
  pub memory : by.memory ≡ ways.load
  pub constant : by.constant ≡ ways.set +ℤ ways.store

pub record IsToMemory (ways : Ways) (by : Onward) : Type 0 where
  pub alone : by.alone ≡ ways.store
  pub both : by.both ≡ pos 0
  pub memory : by.memory ≡ pos 0
  pub constant : by.constant ≡ ways.store

pub record IsToConstant (by : Onward) : Type 0 where
  pub alone : by.alone ≡ pos 0
  pub both : by.both ≡ pos 0
  pub memory : by.memory ≡ pos 0
  pub constant : by.constant ≡ pos 0

-- ---- the steps of a crossbar, by the classes of the two places

abbrev pub onward : Onward → ℕ → ℤ
onward by q =
    if has_register q
    then (if needs_slot q then by.both else by.alone)
    else (if needs_slot q then by.memory else by.constant)

abbrev pub onward_from : Steps → ℕ → ℕ → ℤ
onward_from steps p q =
    if has_register p
    then (if needs_slot p then onward steps.both q else onward steps.alone q)
    else (if needs_slot p then onward steps.memory q else onward steps.constant q)

-- both places are in one register
abbrev pub stays : ℕ → ℕ → Bool
stays p q = has_register p && has_register q && nat_eq (register_of p) (register_of q)

abbrev pub staying : Steps → ℕ → ℕ → ℤ
staying steps p q =
    (if needs_slot q && not (needs_slot p) then steps.kept else pos 0) +ℤ
    (if needs_slot p && not (needs_slot q) then steps.left else pos 0)

abbrev pub step_by : Steps → ℕ → ℕ → ℤ
step_by steps p q = if stays p q then staying steps p q else onward_from steps p q

-- steps are short, and to stay in a register costs no more than to come to another one
pub record AreStepsWithin (steps : Steps) : Type 0 where
  pub alone : IsOnward steps.alone
  pub both : IsOnward steps.both
  pub memory : IsOnward steps.memory
  pub constant : IsOnward steps.constant
  pub kept : IsShort steps.kept
  pub left : IsShort steps.left
  pub kept_less : steps.kept ≤ℤ steps.alone.both
  pub left_less : steps.left ≤ℤ steps.both.alone
