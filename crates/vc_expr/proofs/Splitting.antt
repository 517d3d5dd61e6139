-- A division up to the test of its remainder.
use Rattle.std.proofs.Common.{◌≡◌, ℕ, ◌<◌, ◌≤◌, Bool, true, false, length, Ok, Err, refl, ap, ◌∙◌}
use Rattle.std.proofs.Common.{arith}
use Rattle.std.specs.Prelude.{ℤ, pos, ◌<ℤ◌, int_lt, int_div, int_rem, if◌then◌else◌}
use Rattle.std.proofs.lemmas.Bool.Decides.{nat_tests}
use Rattle.std.proofs.lemmas.Int.{ints}
use Rattle.pra_base.specs.Code.{kind_of}
use Rattle.pra_base.specs.declared.event.TrapKind.TheVariants.{Divide}
use Rattle.pra_base.specs.declared.ids.VarId.{VarId}
use Rattle.pra_base.specs.declared.code.VarKind.TheVariants.{Constant}
use Rattle.pra_base.specs.declared.code.VProc.{VProc}
use Rattle.ob_syntax.specs.Operators.{number}
use Rattle.ob_syntax.specs.declared.checked.ROp.TheVariants.{Less}
use Rattle.ob_syntax.specs.declared.checked.Value.{Value}
use Rattle.ob_syntax.specs.declared.checked.Value.TheVariants.{Number, Truth}
use Rattle.vc_code.specs.Machine.{Activation, State, with_top}
use Rattle.vc_code.specs.Selected.{Vars}
use Rattle.vc_build.specs.Grow.{with_variable, GrowsAt}
use Rattle.vc_build.specs.Runs.{Codes, RunsIn, SameBelow, Reaches, Yields, Stands}
use Rattle.vc_build.proofs.Growth.{grows_at_again, declared_kind, declared_count, declared_grows}
use Rattle.vc_build.proofs.Steps.{same_on, runs_in_earlier, runs_in_on}
use Rattle.vc_expr.specs.Operators.{HasValue, Gives, Operates}
use Rattle.vc_expr.specs.Division.{Stays, Checks, HoldsParts, Divides, Splits}
use Rattle.vc_expr.specs.declared.division.Parts.{Parts}
use Rattle.vc_expr.proofs.Divisions.{value_on, given_value, adds_after, adds_before, has_constant}
use Rattle.vc_expr.proofs.Reaching.{reaches_as, reaches_then}

-- ---- up to the test of the remainder

module _ (at : ℕ) (old m1 m2 new : VProc) (a d : ℕ) (zero : VarId) (parts : Parts)
    (checks : Checks at old m1 d)
    (divides : Divides at m1 m2 a d parts.quotient.0 parts.remainder.0)
    (is_new : zero.0 ≡ length m2.vars)
    (less : Operates Less zero.0 at (with_variable (Constant (pos 0)) m2) new parts.remainder.0
    zero.0 parts.negative.0) (a_named : a < length old.vars) (d_named : d < length old.vars)
  where
    abbrev m3 : VProc
    m3 = with_variable (Constant (pos 0)) m2

    m2_m3 : GrowsAt at m2 m3
    m2_m3 = declared_grows (Constant (pos 0)) m2 at

    m2_new : GrowsAt at m2 new
    m2_new = grows_at_again m2 m3 new at m2_m3 less.adds.grows

    same_count : length m1.vars ≡ length old.vars
    same_count = ap (λ l. length l) checks.vars

    zero_named : zero.0 < length m3.vars
    zero_named = omega (arith, is_new, declared_count (Constant (pos 0)) m2)

    old_m2 : length old.vars ≤ length m2.vars
    old_m2 = omega (arith, same_count, divides.left.grows.grows.vars)

    module _ (w : Codes) (id : ℕ) (s : State Vars) (x y : Value) (run : RunsIn w id new s)
        (stands : Stands old at s.top) (hx : HasValue w id a s.top x) (hy : HasValue w id d s.top y)
      where
        abbrev n : ℕ
        n = length old.vars

        abbrev Done : Unit {0} → Activation Vars → Type 0
        Done ok c =
            Stays new at n s.top c ×
            HoldsParts w id parts.quotient.0 parts.remainder.0 (number x) (number y) c ×
            HasValue w id parts.negative.0 c
            (Truth (int_lt (int_rem (number x) (number y)) (pos 0)))

        run3 : RunsIn w id m3 s
        run3 = runs_in_earlier w id m3 new s less.adds.grows.grows run

        run2 : RunsIn w id m2 s
        run2 = runs_in_earlier w id m2 m3 s m2_m3.grows run3

        run1 : RunsIn w id m1 s
        run1 = runs_in_earlier w id m1 m2 s divides.left.grows.grows run2

        has_zero : (c : Activation Vars) → HasValue w id zero.0 c (Number (pos 0))
        has_zero c =
            has_constant w id zero.0 c (pos 0) (omega (arith, ints))
            (run.holds.kinds zero.0 (omega (arith, zero_named, less.adds.grows.grows.vars))
            ∙ less.adds.grows.grows.kinds zero.0 zero_named ∙ ap (kind_of m3) is_new
            ∙ declared_kind (Constant (pos 0)) m2)

        tested : (c2 : Activation Vars) → SameBelow n s.top c2 → Stands m2 at c2 →
            HoldsParts w id parts.quotient.0 parts.remainder.0 (number x) (number y) c2 →
            Reaches w (with_top s c2) (Done tt)
        tested c2 same stands2 held =
            reaches_as w (with_top s c2)
            (Gives w id new at parts.negative.0 zero.0 c2
            (Truth (int_lt (int_rem (number x) (number y)) (pos 0)))) (Done tt)
            (less.means w id (with_top s c2) (Number (int_rem (number x) (number y)))
            (Number (pos 0))
            (runs_in_on w id n new s c2 same run)
            (record { block = stands2.block; index = stands2.index }) held.remainder (has_zero c2)
            tt)
            (λ c3 g.
            let same3 = g.holds.same in (
              record {
                stands = g.holds.stands;
                same = same_on n zero.0 s.top c2 c3
                    (omega (arith, is_new, old_m2)) same same3;
              },
              record {
                quotient = value_on w id zero.0 parts.quotient.0 c2 c3
                    (Number (int_div (number x) (number y))) same3
                    (omega (arith, is_new, divides.left.named)) held.quotient;
                remainder = value_on w id zero.0 parts.remainder.0 c2 c3
                    (Number (int_rem (number x) (number y))) same3
                    (omega (arith, is_new, divides.right.named)) held.remainder;
              },
              given_value w id new at parts.negative.0 zero.0 c2 c3
                  (Truth (int_lt (int_rem (number x) (number y)) (pos 0))) g,
            ))

        divided : pos 0 <ℤ number y → (c : Activation Vars) → Stays m1 at n s.top c →
            Reaches w (with_top s c) (Done tt)
        divided up c stays =
            reaches_then w (with_top s c)
            (λ c2. Stays m2 at (length m1.vars) c c2 ×
            HoldsParts w id parts.quotient.0 parts.remainder.0 (number x) (number y) c2) (Done tt)
            (divides.means w id (with_top s c) x y (runs_in_on w id n m2 s c stays.same run2)
            stays.stands
            (value_on w id n a s.top c x stays.same a_named hx)
            (value_on w id n d s.top c y stays.same d_named hy) up)
            (λ c2 p. tested c2 (same_on n (length m1.vars) s.top c c2 (omega (arith, same_count))
            stays.same p.0.same) p.0.stands p.1)

        by_divisor : (b : Bool) → (b ≡ true → pos 0 <ℤ number y) →
            Yields w s (λ (ok : Unit {0}) (c : Activation Vars). Stays m1 at n s.top c)
            (if b then Ok tt else Err Divide) → Yields w s Done (if b then Ok tt else Err Divide)
        by_divisor true up y1 = reaches_then w s (Stays m1 at n s.top) (Done tt) y1
            (divided (up refl))
        by_divisor false up y1 = y1

    is_above : (m : ℤ) → int_lt (pos 0) m ≡ true → pos 0 <ℤ m
    is_above m e = grind (arith, nat_tests)

    m1_new : GrowsAt at m1 new
    m1_new = grows_at_again m1 m2 new at divides.left.grows m2_new

    pub splits : Splits at old new a d parts
    splits = record {
      quotient = adds_after (length old.vars) (length m1.vars) at old m1 new parts.quotient.0
          checks.grows (omega (arith, same_count))
          (adds_before (length m1.vars) at m1 m2 new parts.quotient.0 divides.left m2_new
          less.adds.is_open);
      remainder = adds_after (length old.vars) (length m1.vars) at old m1 new parts.remainder.0
          checks.grows (omega (arith, same_count))
          (adds_before (length m1.vars) at m1 m2 new parts.remainder.0 divides.right m2_new
          less.adds.is_open);
      negative = record {
        grows = grows_at_again old m1 new at checks.grows m1_new;
        is_open = less.adds.is_open;
        named = less.adds.named;
        above = omega (arith, less.adds.above, is_new, old_m2);
        plain = less.adds.plain;
      };
      apart = divides.below;
      last = omega (arith, less.adds.above, is_new, divides.right.named);
      means = λ w id s x y run stands hx hy.
          by_divisor w id s x y run stands hx hy (int_lt (pos 0) (number y)) (is_above (number y))
          (checks.means w id s y (run1 w id s x y run stands hx hy) stands hy);
    }
