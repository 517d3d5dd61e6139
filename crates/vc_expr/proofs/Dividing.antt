-- DIV and MOD whole.
use Rattle.std.proofs.Common.{◌≡◌, ◌≢◌, ℕ, ◌<◌, ◌≤◌, Bool, true, false, length, Ok, Err, refl}
use Rattle.std.proofs.Common.{subst, arith}
use Rattle.std.specs.Prelude.{ℤ, pos, ◌<ℤ◌, int_lt, int_div, int_rem, if◌then◌else◌}
use Rattle.std.specs.Int.{w32}
use Rattle.std.specs.Int.RustNames.{FitsSigned}
use Rattle.std.proofs.lemmas.Bool.Decides.{nat_tests}
use Rattle.pra_base.specs.Words.{word, floored_quotient, floored_remainder}
use Rattle.pra_base.specs.declared.event.TrapKind.TheVariants.{Divide}
use Rattle.pra_base.specs.declared.code.VProc.{VProc}
use Rattle.ob_syntax.specs.Operators.{number}
use Rattle.ob_syntax.specs.declared.checked.ROp.{ROp}
use Rattle.ob_syntax.specs.declared.checked.ROp.TheVariants.{Mul, Div, Mod, Both, Add, Sub, Either}
use Rattle.ob_syntax.specs.declared.checked.ROp.TheVariants.{Equal, Unequal, Less, LessEqual}
use Rattle.ob_syntax.specs.declared.checked.ROp.TheVariants.{Greater, GreaterEqual}
use Rattle.ob_syntax.specs.declared.checked.Value.{Value}
use Rattle.ob_syntax.specs.declared.checked.Value.TheVariants.{Number, Truth}
use Rattle.vc_code.specs.declared.value.Value.TheVariants.{Num}
use Rattle.vc_code.specs.Machine.{Activation, State, with_top}
use Rattle.vc_code.specs.Selected.{Vars}
use Rattle.vc_build.specs.Grow.{GrowsAt}
use Rattle.vc_build.specs.Runs.{Codes, RunsIn, SameBelow, Reaches, Holds, Yields, Stands}
use Rattle.vc_build.proofs.Growth.{grows_at_again}
use Rattle.vc_build.proofs.Steps.{same_on, reaches_on, runs_in_earlier, runs_in_on}
use Rattle.vc_expr.specs.Operators.{Adds, Begins, HasValue, Gives, Operates}
use Rattle.vc_expr.specs.Division.{is_division, Stays, HoldsParts, Splits, Rounds}
use Rattle.vc_expr.specs.declared.division.Parts.{Parts}
use Rattle.vc_expr.proofs.Operations.{same_fewer}
use Rattle.vc_expr.proofs.Divisions.{value_on}
use Rattle.vc_expr.proofs.Reaching.{reaches_as, reaches_then}
use Rattle.vc_expr.proofs.Rounding.{quotient_is, remainder_is}

-- ---- DIV and MOD

module _ (first at : ℕ) (old m1 m2 : VProc) (left target right : ℕ) (parts : Parts)
    (begins : Begins first at old m1 left target) (split : Splits at m1 m2 target right parts)
    (named : right < length old.vars) (low : first ≤ length old.vars) where
  more_vars : length old.vars ≤ length m1.vars
  more_vars = begins.adds.grows.grows.vars

  -- the last part, from where the parts of the division are, gives the answer
  module _ (new : VProc) (v n : ℕ) (answer : ℤ → ℤ → ℤ) (adds : Adds n at m2 new v)
      (le : length m1.vars ≤ n)
      (ends : (w : Codes) (id : ℕ) (s : State Vars) (x d : Value) → RunsIn w id new s →
      Stands m2 at s.top → HasValue w id right s.top d → pos 0 <ℤ number d →
      FitsSigned w32 (number x) →
      HoldsParts w id parts.quotient.0 parts.remainder.0 (number x) (number d) s.top →
      HasValue w id parts.negative.0 s.top
      (Truth (int_lt (int_rem (number x) (number d)) (pos 0))) →
      Reaches w s (Gives w id new at v n s.top (Number (answer (number x) (number d))))) where
    m1_new : GrowsAt at m1 new
    m1_new = grows_at_again m1 m2 new at split.quotient.grows adds.grows

    module _ (w : Codes) (id : ℕ) (s : State Vars) (x y : Value) (run : RunsIn w id new s)
        (hx : HasValue w id left s.top x) (hy : HasValue w id right s.top y) where
      abbrev Done : Value → Activation Vars → Type 0
      Done z = Gives w id new at v first s.top z

      abbrev result : Value
      result = Number (answer (number x) (number y))

      run2 : RunsIn w id m2 s
      run2 = runs_in_earlier w id m2 new s adds.grows.grows run

      run1 : RunsIn w id m1 s
      run1 = runs_in_earlier w id m1 m2 s split.quotient.grows.grows run2

      abbrev Apart : Activation Vars → Unit {0} → Activation Vars → Type 0
      Apart c ok c2 =
          Stays m2 at (length m1.vars) c c2 ×
          HoldsParts w id parts.quotient.0 parts.remainder.0 (number x) (number y) c2 ×
          HasValue w id parts.negative.0 c2 (Truth (int_lt (int_rem (number x) (number y)) (pos 0)))

      ended : (c : Activation Vars) → SameBelow (length old.vars) s.top c → pos 0 <ℤ number y →
          (c2 : Activation Vars) → Apart c tt c2 → Reaches w (with_top s c2) (Done result)
      ended c same up c2 p =
          let same2 = same_on (length old.vars) (length m1.vars) s.top c c2 more_vars same
          p.0.same in
          reaches_as w (with_top s c2) (Gives w id new at v n c2 result) (Done result)
          (ends w id (with_top s c2) x y (runs_in_on w id (length old.vars) new s c2 same2 run)
          p.0.stands (value_on w id (length old.vars) right s.top c2 y same2 named hy) up
          hx.fits p.1 p.2)
          (λ c3 g. record {
            fits = g.fits;
            holds = record {
              stands = g.holds.stands;
              same = same_on first n s.top c2 c3 (omega (arith, low, more_vars, le))
                  (same_fewer first (length old.vars) s.top c2 low same2) g.holds.same;
              value = g.holds.value;
            };
          })

      by_divisor : (c : Activation Vars) → SameBelow (length old.vars) s.top c → (b : Bool) →
          int_lt (pos 0) (number y) ≡ b → Yields w (with_top s c) (Apart c)
          (if b then Ok tt else Err Divide) → Yields w (with_top s c) Done
          (if b then Ok result else Err Divide)
      by_divisor c same true e y1 = reaches_then w (with_top s c) (Apart c tt) (Done result) y1
          (ended c same (grind (arith, nat_tests)))
      by_divisor c same false e y1 = y1

      behind_start : (c : Activation Vars) → Holds w id m1 at target (length old.vars) s.top
          (Num (word (number x))) c → Yields w (with_top s c) Done
          (if int_lt (pos 0) (number y) then Ok result else Err Divide)
      behind_start c good =
          by_divisor c good.same (int_lt (pos 0) (number y)) refl
          (split.means w id (with_top s c) x y
          (runs_in_on w id (length old.vars) m2 s c good.same run2) good.stands
          (record { fits = hx.fits; held = good.value })
          (value_on w id (length old.vars) right s.top c y good.same named hy))

      yields : Stands old at s.top →
          Yields w s Done (if int_lt (pos 0) (number y) then Ok result else Err Divide)
      yields stands =
          reaches_on w s (Holds w id m1 at target (length old.vars) s.top (Num (word (number x))))
          Done (if int_lt (pos 0) (number y) then Ok result else Err Divide)
          (begins.means w id s (Num (word (number x))) run1 stands hx.held) behind_start

    division_adds : Adds first at old new v
    division_adds = record {
      grows = grows_at_again old m1 new at begins.adds.grows m1_new;
      is_open = adds.is_open;
      named = adds.named;
      above =
          omega (arith, adds.above, low, more_vars, le);
      plain = adds.plain;
    }

  pub quotient_operates : (new : VProc) (v : ℕ) →
      Operates Sub parts.quotient.0 at m2 new parts.quotient.0 parts.negative.0 v →
      Operates Div first at old new left right v
  quotient_operates new v subtracts = record {
    adds = division_adds new v parts.quotient.0 floored_quotient subtracts.adds split.quotient.above
        quotient_ends;
    means = λ w id s x y run stands hx hy p. yields new v parts.quotient.0 floored_quotient
        subtracts.adds split.quotient.above quotient_ends w id s x y run hx hy stands;
  }
    where
      quotient_ends : (w : Codes) (id : ℕ) (s : State Vars) (x d : Value) → RunsIn w id new s →
          Stands m2 at s.top → HasValue w id right s.top d → pos 0 <ℤ number d →
          FitsSigned w32 (number x) →
          HoldsParts w id parts.quotient.0 parts.remainder.0 (number x) (number d) s.top →
          HasValue w id parts.negative.0 s.top
          (Truth (int_lt (int_rem (number x) (number d)) (pos 0))) →
          Reaches w s (Gives w id new at v parts.quotient.0 s.top
          (Number (floored_quotient (number x) (number d))))
      quotient_ends w id s x d run stands hd up fits held negative =
          subst (λ k. Reaches w s (Gives w id new at v parts.quotient.0 s.top (Number k)))
          (quotient_is (number x) (number d) fits hd.fits up)
          (subtracts.means w id s (Number (int_div (number x) (number d)))
          (Truth (int_lt (int_rem (number x) (number d)) (pos 0))) run stands held.quotient
          negative tt)

  pub remainder_operates : (new : VProc) (v : ℕ) →
      Rounds parts.remainder.0 at m2 new parts.remainder.0 parts.negative.0 right v →
      Operates Mod first at old new left right v
  remainder_operates new v rounding = record {
    adds = division_adds new v parts.remainder.0 floored_remainder rounding.adds
        split.remainder.above remainder_ends;
    means = λ w id s x y run stands hx hy p. yields new v parts.remainder.0 floored_remainder
        rounding.adds split.remainder.above remainder_ends w id s x y run hx hy stands;
  }
    where
      remainder_ends : (w : Codes) (id : ℕ) (s : State Vars) (x d : Value) → RunsIn w id new s →
          Stands m2 at s.top → HasValue w id right s.top d → pos 0 <ℤ number d →
          FitsSigned w32 (number x) →
          HoldsParts w id parts.quotient.0 parts.remainder.0 (number x) (number d) s.top →
          HasValue w id parts.negative.0 s.top
          (Truth (int_lt (int_rem (number x) (number d)) (pos 0))) →
          Reaches w s (Gives w id new at v parts.remainder.0 s.top
          (Number (floored_remainder (number x) (number d))))
      remainder_ends w id s x d run stands hd up fits held negative =
          subst (λ k. Reaches w s (Gives w id new at v parts.remainder.0 s.top (Number k)))
          (remainder_is (number x) (number d) fits hd.fits up)
          (rounding.means w id s (Number (int_rem (number x) (number d))) d
          (int_lt (int_rem (number x) (number d)) (pos 0)) run stands held.remainder negative
          hd)

-- the other division
pub not_mod : (op : ROp) → is_division op ≡ true → op ≢ Mod → Div ≡ op
not_mod Div e n = refl
not_mod Mod e n = absurd (n refl)
not_mod Mul e n = absurd (cc)
not_mod Both e n = absurd (cc)
not_mod Add e n = absurd (cc)
not_mod Sub e n = absurd (cc)
not_mod Either e n = absurd (cc)
not_mod Equal e n = absurd (cc)
not_mod Unequal e n = absurd (cc)
not_mod Less e n = absurd (cc)
not_mod LessEqual e n = absurd (cc)
not_mod Greater e n = absurd (cc)
not_mod GreaterEqual e n = absurd (cc)
