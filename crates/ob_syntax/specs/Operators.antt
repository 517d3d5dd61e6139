-- What operators and signs give on values, or the trap (Wirth, Compiler Construction, chapter 7,
-- and The Programming Language Oberon, section 8.2). Numbers have 32 bits.
use Rattle.std.specs.Prelude.{ℤ, pos, ◌+ℤ◌, ◌-ℤ◌, ◌*ℤ◌, neg_ℤ, Bool, true, false, not, int_lt}
use Rattle.std.specs.Prelude.{int_le, if◌then◌else◌, Result, Ok, Err}
use Rattle.std.specs.Ordering.{int_eq}
use Rattle.std.specs.Int.{w32, int_wrap}
use Rattle.pra_base.specs.Words.{floored_quotient, floored_remainder}
use Rattle.pra_base.specs.declared.event.TrapKind.{TrapKind}
use Rattle.pra_base.specs.declared.event.TrapKind.TheVariants.{Divide}
use Rattle.ob_syntax.specs.declared.checked.Value.{Value}
use Rattle.ob_syntax.specs.declared.checked.Value.TheVariants.{Number, Truth}
use Rattle.ob_syntax.specs.declared.checked.ROp.{ROp}
use Rattle.ob_syntax.specs.declared.checked.ROp.TheVariants.{Mul, Div, Mod, Both, Add, Sub, Either}
use Rattle.ob_syntax.specs.declared.checked.ROp.TheVariants.{Equal, Unequal, Less, LessEqual}
use Rattle.ob_syntax.specs.declared.checked.ROp.TheVariants.{Greater, GreaterEqual}
use Rattle.pra_list.specs.Results.{◌>>=◌}

-- a value, or a trap in its place
abbrev pub Outcome : Type 0
Outcome = Result Value TrapKind

-- the number of 32 bits that is left of a number, modulo 2^32
abbrev pub wrapped : ℤ → ℤ
wrapped n = int_wrap w32 n

-- the number that a value is kept as: TRUE is 1, FALSE is 0
abbrev pub number : Value → ℤ
number (Number x) = x
number (Truth true) = pos 1
number (Truth false) = pos 0

abbrev pub is_true : Value → Bool
is_true v = not (int_eq (number v) (pos 0))

-- the sign `-`
abbrev pub negated : Value → Value
negated v = Number (wrapped (neg_ℤ (number v)))

-- `~`
abbrev pub inverted : Value → Value
inverted v = Truth (not (is_true v))

-- a divisor of at most 0 traps
abbrev pub by_divisor : ℤ → ℤ → Outcome
by_divisor d result = if int_lt (pos 0) d then Ok (Number result) else Err Divide

abbrev pub on_numbers : ROp → ℤ → ℤ → Outcome
on_numbers Mul x y = Ok (Number (wrapped (x *ℤ y)))
on_numbers Div x y = by_divisor y (floored_quotient x y)
on_numbers Mod x y = by_divisor y (floored_remainder x y)
on_numbers Add x y = Ok (Number (wrapped (x +ℤ y)))
on_numbers Sub x y = Ok (Number (wrapped (x -ℤ y)))
on_numbers Equal x y = Ok (Truth (int_eq x y))
on_numbers Unequal x y = Ok (Truth (not (int_eq x y)))
on_numbers Less x y = Ok (Truth (int_lt x y))
on_numbers LessEqual x y = Ok (Truth (int_le x y))
on_numbers Greater x y = Ok (Truth (int_lt y x))
on_numbers GreaterEqual x y = Ok (Truth (int_le y x))
on_numbers Both x y = Ok (Number y)
on_numbers Either x y = Ok (Number y)

-- an operator that looks at both sides, so neither `&` nor OR
abbrev pub operated : ROp → Value → Value → Outcome
operated op x y = on_numbers op (number x) (number y)

-- `&` looks at the right side only where the left one is TRUE
abbrev pub both : Value → Outcome → Outcome
both x right = if is_true x then right else Ok (Truth false)

-- OR looks at the right side only where the left one is FALSE
abbrev pub either : Value → Outcome → Outcome
either x right = if is_true x then Ok (Truth true) else right

-- an operator on what its sides give, the left one first
abbrev pub combined : ROp → Outcome → Outcome → Outcome
combined Both left right = left >>= λ x. both x right
combined Either left right = left >>= λ x. either x right
combined op left right = left >>= λ x. right >>= λ y. operated op x y
