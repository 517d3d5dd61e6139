-- The places where a value may stand, as numbers, and the readings of a number. All that is said of
-- places goes through these.
use Rattle.std.specs.Prelude.{ℕ, Bool, nat_eq, nat_lt, nat_le, ◌-◌, not, ◌&&◌, ◌||◌, ◌^◌}
use Rattle.std.specs.Prelude.{if◌then◌else◌, List, [], ◌∷◌, slice_index_or, Option, find, sum_by}
use Rattle.std.specs.Prelude.{bit_and, bit_or}
use Rattle.std.specs.List.{range_with_len}
use Rattle.std.specs.Int.{bit_at}
use Rattle.pra_base.specs.declared.ids.Place.{Place}
use Rattle.pra_base.specs.declared.ids.Place.TheVariants.{Eax, Ecx, Edx, Ebx, Esi, Edi, Mem, Const}
use Rattle.pra_base.specs.declared.ids.Place.TheVariants.{EaxM, EcxM, EdxM, EbxM, EsiM, EdiM}

abbrev pub number : Place → ℕ
number Eax = 0
number Ecx = 1
number Edx = 2
number Ebx = 3
number Esi = 4
number Edi = 5
number Mem = 6
number Const = 7
number EaxM = 8
number EcxM = 9
number EdxM = 10
number EbxM = 11
number EsiM = 12
number EdiM = 13

abbrev pub all_places : List Place
all_places =
    Eax ∷ Ecx ∷ Edx ∷ Ebx ∷ Esi ∷ Edi ∷ Mem ∷ Const ∷ EaxM ∷ EcxM ∷ EdxM ∷ EbxM ∷ EsiM ∷ EdiM ∷ []

-- the place of a number
abbrev pub numbered : ℕ → Option Place
numbered p = find (λ place. nat_eq (number place) p) all_places

-- the same, of a number that is one of a place
abbrev pub place_at : ℕ → Place
place_at p = slice_index_or all_places p Eax

abbrev pub place_count : ℕ
place_count = 14

abbrev pub register_count : ℕ
register_count = 6

-- all places, in order of their numbers
abbrev pub places : List ℕ
places = range_with_len 0 place_count

-- ---- what a place is

-- the value stands in a register and in the variable's own memory at once
abbrev pub is_both : ℕ → Bool
is_both p = nat_le (number EaxM) p

-- the value stands in a register
abbrev pub has_register : ℕ → Bool
has_register p = nat_lt p (number Mem) || is_both p

-- the value stands in a register and nowhere else
abbrev pub is_register : ℕ → Bool
is_register p = nat_lt p (number Mem)

-- which register that is; register r alone is the place r
abbrev pub register_of : ℕ → ℕ
register_of p = if is_both p then p - number EaxM else p

-- the value stands in the variable's own memory alone
abbrev pub is_mem : ℕ → Bool
is_mem p = nat_eq p (number Mem)

-- a local variable that comes here needs a slot in the frame
abbrev pub needs_slot : ℕ → Bool
needs_slot p = is_mem p || is_both p

-- the value stands nowhere: the variable is a constant
abbrev pub is_const : ℕ → Bool
is_const p = nat_eq p (number Const)

-- ---- masks: a set of places as a number, of which bit p stands for place p

-- the place is in the mask
abbrev pub allows : ℕ → ℕ → Bool
allows mask p = nat_eq (bit_at mask p) 1

-- the mask of the places that pass a test
abbrev pub mask_where : (ℕ → Bool) → ℕ
mask_where test = sum_by (λ p. if test p then 2 ^ p else 0) places

-- the mask of one place alone
abbrev pub only : Place → ℕ
only place = mask_where (λ p. nat_eq p (number place))

-- the places that are in both masks
abbrev pub meet : ℕ → ℕ → ℕ
meet a b = bit_and a b

-- the places that are in one of them
infixl 6 ◌∪◌
abbrev pub ◌∪◌ : ℕ → ℕ → ℕ
a ∪ b = bit_or a b

-- the mask and, for each register that is in it, its both place too
abbrev pub with_both : ℕ → ℕ
with_both mask = mask ∪ mask_where (λ p. is_both p && allows mask (register_of p))

-- the place lies in a register of this set, of which bit r stands for register r
abbrev pub lies_in : ℕ → ℕ → Bool
lies_in registers p = has_register p && nat_eq (bit_at registers (register_of p)) 1

-- the mask without the places that lie in these registers
abbrev pub without : ℕ → ℕ → ℕ
without mask registers = meet mask (mask_where (λ p. not (lies_in registers p)))
