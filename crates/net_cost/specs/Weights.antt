-- The events and what they weigh. Sizes are bytes of the Intel manual's encodings (SDM volume 2): a
-- displacement of 8 bits is one byte, one of 32 bits four.
use Rattle.std.specs.Prelude.{◌≡◌, ◌⊎◌, ℕ, ◌*◌, ◌^◌, ◌≤◌, List, [], ◌∷◌, map, slice_index, All}
use Rattle.net_cost.specs.declared.event.Event.{Event}
use Rattle.net_cost.specs.declared.event.Event.TheVariants.{E0, E1, E2, E3, E4, E5, E6, E7, E8, E9}
use Rattle.net_cost.specs.declared.event.Event.TheVariants.{E10, E11, E12}
use Rattle.net_cost.specs.declared.weights.Weights.{Weights}

pub record Row : Type 0 where
  pub number : ℕ
  pub size : ℕ
  pub speed : ℕ

abbrev pub row : ℕ → ℕ → ℕ → Row
row number size speed = record { number = number; size = size; speed = speed }

--             number size speed
abbrev pub table : Event → Row
table E0 = row 0 2 1  -- a register to another register
table E1 = row 1 3 3  -- memory to a register, near
table E2 = row 2 3 3  -- a register to memory, near
table E3 = row 3 6 3  -- memory to a register, far
table E4 = row 4 6 3  -- a register to memory, far
table E5 = row 5 5 1  -- a constant to a register
table E6 = row 6 1 2  -- a memory operand, near
table E7 = row 7 4 2  -- a memory operand, far
table E8 = row 8 2 2  -- the memory operand of a store of an immediate or of PUSH, near
table E9 = row 9 5 2  -- the memory operand of a store of an immediate or of PUSH, far
table E10 = row 10 1 0  -- an immediate of 8 bits
table E11 = row 11 4 0  -- an immediate of 32 bits
table E12 = row 12 3 0  -- an immediate of 32 bits in IMUL

-- all events, in order of their numbers
abbrev pub events : List Event
events = E0 ∷ E1 ∷ E2 ∷ E3 ∷ E4 ∷ E5 ∷ E6 ∷ E7 ∷ E8 ∷ E9 ∷ E10 ∷ E11 ∷ E12 ∷ []

abbrev pub event_count : ℕ
event_count = 13

abbrev pub number : Event → ℕ
number e = (table e).number

-- how many loops a block stands in at most
abbrev pub deepest : ℕ
deepest = 5

-- the weight of the event of a number in a block of loop depth d, and of an event
abbrev pub weight_at : Weights → ℕ → ℕ → ℕ
weight_at w n d = slice_index w.list n * w.factor ^ d

abbrev pub weight_of : Weights → Event → ℕ → ℕ
weight_of w e d = weight_at w (number e) d

-- each weight fits 16 bits, and the factor is 1 or 8
pub record IsValid (w : Weights) : Type 0 where
  pub entries : All (λ x. x ≤ 65535) w.list
  pub factor : (w.factor ≡ 1) ⊎ (w.factor ≡ 8)

-- so no power of the factor and no weight is greater
abbrev pub most_power : ℕ
most_power = 8 ^ deepest

abbrev pub most_weight : ℕ
most_weight = 65535 * most_power

-- the two built-in lists

abbrev pub size_weights : Weights
size_weights = record { list = map (λ e. (table e).size) events; factor = 1 }

abbrev pub speed_weights : Weights
speed_weights = record { list = map (λ e. (table e).speed) events; factor = 8 }
