-- Which number of 32 bits a value is for the machine, and how the frames of live calls lie in the
-- stack, word for word, from ESP up to the stack's top.
use Rattle.std.specs.Prelude.{◌≡◌, ℕ, ◌+◌, ◌-◌, ◌*◌, ◌%◌, ◌^◌, ◌<◌, List, [], ◌∷◌, ◌++◌}
use Rattle.std.specs.Prelude.{length, slice_get, Some, None}
use Rattle.ia_code.specs.Regions.{code_base, data_base, stack_base, stack_top, stack_length}
use Rattle.ia_step.specs.Memory.{word_in}
use Rattle.pl_place.specs.declared.placed.LProc.{LProc}
use Rattle.pl_place.specs.Machine.{Cells, shape}
use Rattle.vc_code.specs.declared.value.Object.{Object}
use Rattle.vc_code.specs.declared.value.Object.TheVariants.{Data, Aggregates, Cell}
use Rattle.vc_code.specs.declared.value.Value.{Value}
use Rattle.vc_code.specs.declared.value.Value.TheVariants.{Num, At}
use Rattle.vc_code.specs.Value.{Held, Words}
use Rattle.vc_code.specs.Machine.{Activation, depth, joined}

-- ---- values

-- The address at which an object begins. Frames lie one below the other from the stack's top, so it
-- follows from the bytes of the frames alone.
abbrev pub base_of : Object → ℕ
base_of Data = data_base
base_of (Aggregates calls sum) = stack_top - sum
base_of (Cell calls below i) = stack_top - (below + 4 * (i + 1))

-- the number n stands for the value
abbrev pub Means : Value → ℕ → Type 0
Means (Num v) n = (n ≡ v) × (v < 2 ^ 32)
Means (At x offset) n = n ≡ (base_of x + offset) % 2 ^ 32

-- what holds nothing may be any number
abbrev pub Holds : Held → ℕ → Type 0
Holds None n = Unit {0}
Holds (Some v) n = Means v n

-- the words of a region from a place on stand for these
abbrev pub WordsHold : Words → List ℕ → ℕ → Type 0
WordsHold [] region at = Unit {0}
WordsHold (h ∷ hs) region at = Holds h (word_in region at) × WordsHold hs region (at + 4)

-- ---- frames

-- EBP of a call above these
abbrev pub ebp_of : List LProc → Activation Cells → List (Activation Cells) → ℕ
ebp_of procs c calls = stack_top - (depth (shape procs) calls + 4 * length c.args + 8)

-- what a register held, by the number of its place
abbrev pub register_held : Words → ℕ → Held
register_held regs r = joined (slice_get regs r)

-- where the program ends: behind the first call
abbrev pub exit : ℕ
exit = code_base + 5

-- What a call above these keeps for them, from EBP - 12 up: EDI, ESI and EBX, EBP, and the place at
-- which the call below it goes on. The module's body returns to the exit.
abbrev pub saved : List LProc → List ℕ → List (Activation Cells) → Words
saved procs backs [] = None ∷ None ∷ None ∷ None ∷ Some (Num exit) ∷ []
saved procs [] (d ∷ calls) = None ∷ None ∷ None ∷ None ∷ None ∷ []
saved procs (back ∷ backs) (d ∷ calls) =
    register_held d.home.regs 5 ∷ register_held d.home.regs 4 ∷ register_held d.home.regs 3
    ∷ Some (Num (ebp_of procs d calls)) ∷ Some (Num back) ∷ []

abbrev pub rest_of : List ℕ → List ℕ
rest_of [] = []
rest_of (back ∷ backs) = backs

-- The words of live calls, the latest call first, where the calls that wait go on at these places.
-- A frame has, from below: the aggregates, the slots with the last one first, what the call keeps,
-- and the arguments with the last one first.
abbrev pub frames : List LProc → List ℕ → List (Activation Cells) → Words
frames procs backs [] = []
frames procs backs (c ∷ calls) =
    c.aggregates
    ++ (c.home.slots ++ (saved procs backs calls ++ (c.args ++ frames procs (rest_of backs) calls)))

-- these words stand in the stack from ESP up to the top
pub record Stacked (words : Words) (esp : ℕ) (stack : List ℕ) : Type 0 where
  pub long : length stack ≡ stack_length
  pub top : esp + 4 * length words ≡ stack_top
  pub held : WordsHold words stack (esp - stack_base)
