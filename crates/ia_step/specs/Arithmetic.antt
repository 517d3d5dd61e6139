-- Arithmetic on 32 bits, the status flags, and the conditions on them (SDM volume 1, section
-- 3.4.3.1, and appendix B).
use Rattle.std.specs.Prelude.{ℕ, ◌+◌, ◌*◌, ◌/◌, ◌%◌, ◌^◌, ℤ, ◌+ℤ◌, ◌-ℤ◌, ◌*ℤ◌}
use Rattle.std.specs.Prelude.{Bool, true, false, not, ◌||◌, ◌&&◌, ◌==◌, nat_lt, nat_le}
use Rattle.std.specs.Prelude.{if◌then◌else◌, Option, Some, None}
use Rattle.std.specs.Int.{w64, cast_signed}
use Rattle.pra_base.specs.Words.{word, signed, sign, fits_word, sum32, diff32}
use Rattle.std.specs.Int.RustNames.{int_div, int_rem}
use Rattle.std.specs.Int.Bits.{bit_and, bit_or, bit_xor}
use Rattle.pra_base.specs.declared.ids.Cond.{Cond}
use Rattle.pra_base.specs.declared.ids.Cond.TheVariants.{B, Ae, E, Ne, Be, A, S, Ns, L, Ge, Le, G}
use Rattle.ia_code.specs.declared.ins.AluOp.{AluOp}
use Rattle.ia_code.specs.declared.ins.AluOp.TheVariants.{Add, Or, And, Sub, Xor, Cmp}
use Rattle.ia_step.specs.declared.flags.Flags.{Flags}

-- The status flags after an addition: CF is the carry out of the most significant bit, ZF tells a
-- result of 0, SF is the result's sign bit, and OF tells that the signed result does not fit the
-- destination.
unfoldable pub sum_flags : ℕ → ℕ → Flags
sum_flags a b = record {
  cf = Some (nat_le (2 ^ 32) (a + b));
  zf = Some (sum32 a b == 0);
  sf = Some (sign (sum32 a b));
  «of» = Some (not (fits_word (signed a +ℤ signed b)));
}

-- The same after a subtraction, where CF is the borrow.
unfoldable pub diff_flags : ℕ → ℕ → Flags
diff_flags a b = record {
  cf = Some (nat_lt a b);
  zf = Some (diff32 a b == 0);
  sf = Some (sign (diff32 a b));
  «of» = Some (not (fits_word (signed a -ℤ signed b)));
}

-- After AND, OR, XOR and TEST: CF and OF are cleared.
unfoldable pub bit_flags : ℕ → Flags
bit_flags r = record { cf = Some false; zf = Some (r == 0); sf = Some (sign r); «of» = Some false }

-- After IMUL: CF and OF tell that the signed product does not fit the destination. The manual
-- leaves ZF undefined; SF is taken as unknown here too.
unfoldable pub product_flags : ℕ → ℕ → Flags
product_flags a b =
    let unfit = not (fits_word (signed a *ℤ signed b)) in
    record { cf = Some unfit; zf = None; sf = None; «of» = Some unfit }

-- After a shift of these flags by a count: ZF and SF tell of the result, CF is the last bit shifted
-- out, which is taken as unknown here, and OF is undefined but for a count of 1. By a count of 0 no
-- flag changes.
unfoldable pub shift_flags : Flags → ℕ → ℕ → Flags
shift_flags flags r n =
    if n % 32 == 0 then flags
    else record { cf = None; zf = Some (r == 0); sf = Some (sign r); «of» = None }

-- After IDIV, and at the start: no flag is known.
abbrev pub no_flags : Flags
no_flags = record { cf = None; zf = None; sf = None; «of» = None }

-- ADD, OR, AND, SUB and XOR: DEST := DEST op SRC. CMP: temp := DEST - SRC, which is not kept.
abbrev pub result_of : AluOp → ℕ → ℕ → ℕ
result_of Add a b = sum32 a b
result_of Or a b = bit_or a b
result_of And a b = bit_and a b
result_of Sub a b = diff32 a b
result_of Xor a b = bit_xor a b
result_of Cmp a b = diff32 a b

-- and their flags
abbrev pub flags_of : AluOp → ℕ → ℕ → Flags
flags_of Add a b = sum_flags a b
flags_of Or a b = bit_flags (bit_or a b)
flags_of And a b = bit_flags (bit_and a b)
flags_of Sub a b = diff_flags a b
flags_of Xor a b = bit_flags (bit_xor a b)
flags_of Cmp a b = diff_flags a b

-- whether IDIV has a quotient of x by d: d is not 0, and the quotient fits 32 bits
abbrev pub has_quotient : ℤ → ℕ → Bool
has_quotient x d = not (d == 0) && fits_word (int_div x (signed d))

-- IDIV: quotient and remainder of the 64-bit number a by the 32-bit number d, both signed, rounded
-- toward zero; None (#DE) where there is no quotient
unfoldable pub quotient : ℕ → ℕ → Option (ℕ × ℕ)
quotient a d =
    let x = cast_signed w64 a in
    if has_quotient x d then Some (word (int_div x (signed d)), word (int_rem x (signed d)))
    else None

-- a number with another low byte
abbrev pub with_low_byte : ℕ → ℕ → ℕ
with_low_byte v b = v / 256 * 256 + b

abbrev pub differ : Bool → Bool → Bool
differ true b = not b
differ false b = b

-- a formula of two flags, which is known where both of them are
abbrev pub both_known : (Bool → Bool → Bool) → Option Bool → Option Bool → Option Bool
both_known f (Some a) (Some b) = Some (f a b)
both_known f _ _ = None

abbrev pub negated : Option Bool → Option Bool
negated None = None
negated (Some b) = Some (not b)

-- What a condition says of the flags, or None where a flag that its formula names is not known:
-- B is CF, E is ZF, BE is CF or ZF, S is SF, L is SF different from OF, LE is ZF or L; the others
-- are their negations.
abbrev pub holds : Flags → Cond → Option Bool
holds f B = f.cf
holds f Ae = negated f.cf
holds f E = f.zf
holds f Ne = negated f.zf
holds f Be = both_known (◌||◌) f.cf f.zf
holds f A = negated (both_known (◌||◌) f.cf f.zf)
holds f S = f.sf
holds f Ns = negated f.sf
holds f L = both_known differ f.sf f.«of»
holds f Ge = negated (both_known differ f.sf f.«of»)
holds f Le = both_known (◌||◌) f.zf (both_known differ f.sf f.«of»)
holds f G = negated (both_known (◌||◌) f.zf (both_known differ f.sf f.«of»))
