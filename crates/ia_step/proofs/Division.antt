-- What IDIV leaves.
use Rattle.std.proofs.Common.{◌≡◌, ℕ, ◌+◌, ◌*◌, ◌^◌, ◌≤◌, ◌<◌, Bool, true, false, Some, None, refl}
use Rattle.std.proofs.Common.{sym}
use Rattle.std.proofs.Common.{ap, ◌∙◌, subst, arith, ◌⊎◌, inl, inr}
use Rattle.std.specs.Prelude.{ℤ, pos, not, ◌&&◌, ◌==◌, ◌↔◌, ◌<ℤ◌, IfSome, if◌then◌else◌, int_div}
use Rattle.std.specs.Prelude.{int_rem, IsTrue}
use Rattle.std.specs.Int.{w32, w64, cast_signed}
use Rattle.std.specs.Int.RustNames.{FitsSigned, unsigned_abs}
use Rattle.std.proofs.lemmas.Bool.Decides.{nat_tests}
use Rattle.std.proofs.lemmas.Int.{ints, to_z-of_z, rem_below, fits_signed_from_abs, quot_fits}
use Rattle.pra_base.specs.Words.{word, signed, is_positive, fits_word, quotient32, remainder32}
use Rattle.pra_base.specs.Words.{IsTruncated}
use Rattle.pra_base.proofs.Division.{truncated}
use Rattle.ia_step.specs.Arithmetic.{has_quotient, quotient}
use Rattle.ia_step.specs.Effect.{sign_word}
use Rattle.ia_step.proofs.Conditions.{fits_is, is_fits}

divisor_small : (b : ℕ) → b < 2 ^ 32 → unsigned_abs (signed b) ≤ 2 ^ 31
divisor_small b h = grind (arith, nat_tests)

divisor_some : (b : ℕ) → b < 2 ^ 32 → (b == 0) ≡ false → 0 < unsigned_abs (signed b)
divisor_some b h n = grind (arith, nat_tests)

-- what was cast to 32 bits is read back
quotient_again : (z : ℤ) → fits_word z ≡ true → signed (word z) ≡ z
quotient_again z h = to_z-of_z w32 z (fits_is z h)

rest_again : (x : ℤ) (b : ℕ) → b < 2 ^ 32 → (b == 0) ≡ false →
    signed (word (int_rem x (signed b))) ≡ int_rem x (signed b)
rest_again x b h n =
    let below : unsigned_abs (int_rem x (signed b)) < unsigned_abs (signed b) =
    rem_below x (signed b) (divisor_some b h n) in
    let small : unsigned_abs (signed b) ≤ 2 ^ 31 = divisor_small b h in
    to_z-of_z w32 (int_rem x (signed b))
    (fits_signed_from_abs w32 (int_rem x (signed b)) (omega arith))

truncated_again : (x : ℤ) (b : ℕ) → b < 2 ^ 32 → (b == 0) ≡ false →
    fits_word (int_div x (signed b)) ≡ true →
    IsTruncated x (signed b) (signed (word (int_div x (signed b))))
    (signed (word (int_rem x (signed b))))
truncated_again x b h n fits =
    subst (λ q. IsTruncated x (signed b) q (signed (word (int_rem x (signed b)))))
    (sym (quotient_again (int_div x (signed b)) fits))
    (subst (λ r. IsTruncated x (signed b) (int_div x (signed b)) r) (sym (rest_again x b h n))
    (truncated x (signed b) (divisor_some b h n)))

-- both parts of the test, and either that fails
has_parts : (zero fits : Bool) → (not zero && fits) ≡ true → (zero ≡ false) × (fits ≡ true)
has_parts false fits h = (refl, h)
has_parts true fits h = cc

has_none : (zero fits : Bool) → (not zero && fits) ≡ false → (zero ≡ true) ⊎ (fits ≡ false)
has_none false fits h = inr h
has_none true fits h = inl refl

none_has : (zero fits : Bool) → (zero ≡ true) ⊎ (fits ≡ false) → (not zero && fits) ≡ false
none_has zero fits c = grind arith

-- what is answered under a test is there where the test holds
by_answer : {A : Type 0} (Q : A → Type 0) (b : Bool) (x : A) → (b ≡ true → Q x) →
    IfSome (if b then Some x else None) Q
by_answer Q true x q = q refl
by_answer Q false x q = tt

pub division : (a b : ℕ) → b < 2 ^ 32 →
    IfSome (quotient a b) (λ x. IsTruncated (cast_signed w64 a) (signed b) (signed x.0)
    (signed x.1))
unfolding quotient
division a b h =
    let x = cast_signed w64 a in
    by_answer (λ y. IsTruncated x (signed b) (signed y.0) (signed y.1)) (has_quotient x b) _ (λ has.
    let p = has_parts (b == 0) (fits_word (int_div x (signed b))) has in
    truncated_again x b h p.0 p.1)

none_is : {A : Type 0} (b : Bool) (x : A) → (if b then Some x else None) ≡ None → b ≡ false
none_is true x e = cc
none_is false x e = refl

is_none : {A : Type 0} (b : Bool) (x : A) → b ≡ false → (if b then Some x else None) ≡ None
is_none true x e = cc
is_none false x e = refl

zero_is : (b : ℕ) → (b == 0) ≡ true → b ≡ 0
zero_is b h = grind (arith, nat_tests)

is_zero : (b : ℕ) → b ≡ 0 → (b == 0) ≡ true
is_zero b h = grind (arith, nat_tests)

-- there is no answer exactly where the divisor is 0 or the quotient does not fit
pub no_quotient : (a b : ℕ) →
    (quotient a b ≡ None) ↔ ((b ≡ 0) ⊎ (fits_word (int_div (cast_signed w64 a) (signed b)) ≡ false))
unfolding quotient
no_quotient a b = (there, back)
  where
    there : (quotient a b ≡ None) → (b ≡ 0) ⊎
        (fits_word (int_div (cast_signed w64 a) (signed b)) ≡ false)
    there e = elim (has_none (b == 0) _ (none_is (has_quotient (cast_signed w64 a) b) _ e))
        [ inl z ↦ inl (zero_is b z) | inr f ↦ inr f ]

    back : (b ≡ 0) ⊎ (fits_word (int_div (cast_signed w64 a) (signed b)) ≡ false) →
        (quotient a b ≡ None)
    back c =
        is_none (has_quotient (cast_signed w64 a) b) _
        (none_has (b == 0) _ (elim c [ inl z ↦ inl (is_zero b z) | inr f ↦ inr f ]))

-- EAX and its sign in EDX are the signed number of EAX
wide : (a : ℕ) → a < 2 ^ 32 → cast_signed w64 (sign_word a * 2 ^ 32 + a) ≡ signed a
wide a h = grind (arith, nat_tests)

-- CDQ and IDIV are the quotient and the remainder of words
pub word_quotient : (a b : ℕ) → a < 2 ^ 32 → quotient (sign_word a * 2 ^ 32 + a) b ≡
    (if has_quotient (signed a) b then Some (quotient32 a b, remainder32 a b) else None)
unfolding quotient
word_quotient a b h = ap (λ x. if has_quotient x b then Some
    (word (int_div x (signed b)), word (int_rem x (signed b))) else None) (wide a h)

signed_fits : (a : ℕ) → a < 2 ^ 32 → FitsSigned w32 (signed a)
signed_fits a h = omega (arith, ints)

pub positive_has : (a b : ℕ) → a < 2 ^ 32 → b < 2 ^ 32 → IsTrue (is_positive b) →
    has_quotient (signed a) b ≡ true
positive_has a b fa fb up =
    let n : (b == 0) ≡ false = grind (arith, nat_tests, ints) in
    let above : pos 0 <ℤ signed b = grind (arith, nat_tests, ints) in
    let fits : fits_word (int_div (signed a) (signed b)) ≡ true =
    is_fits _ (quot_fits w32 (signed a) (signed b) (signed_fits a fa) above) in
    rw (n, fits) refl

-- by a positive number there always is one
pub positive_quotient : (a b : ℕ) → a < 2 ^ 32 → b < 2 ^ 32 → IsTrue (is_positive b) →
    quotient (sign_word a * 2 ^ 32 + a) b ≡ Some (quotient32 a b, remainder32 a b)
positive_quotient a b fa fb up = word_quotient a b fa ∙ rw (positive_has a b fa fb up) refl
