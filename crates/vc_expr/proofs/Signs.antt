-- The sign `-`.
use Rattle.std.proofs.Common.{◌≡◌, ℕ, ◌+◌, ◌-◌, ◌%◌, ◌^◌, ◌≤◌, [], ◌∷◌, length, Some, Ok, refl, sym}
use Rattle.std.proofs.Common.{ap, ◌∙◌, arith}
use Rattle.std.specs.Prelude.{ℤ, neg_ℤ}
use Rattle.std.specs.Int.{w32}
use Rattle.std.specs.Int.RustNames.{FitsSigned}
use Rattle.std.proofs.lemmas.Int.{SFits-int_wrap, wrapping_neg_is}
use Rattle.pra_base.specs.Words.{word, diff32}
use Rattle.pra_base.specs.declared.ids.VarId.{VarId}
use Rattle.pra_base.specs.declared.code.VInstr.TheVariants.{Neg}
use Rattle.pra_base.specs.declared.code.VProc.{VProc}
use Rattle.ob_syntax.specs.Operators.{number, wrapped, negated}
use Rattle.ob_syntax.specs.declared.checked.Value.{Value}
use Rattle.vc_code.specs.declared.action.Action.TheVariants.{Give}
use Rattle.vc_code.specs.declared.value.Value.TheVariants.{Num}
use Rattle.vc_code.specs.Machine.{Activation, State, here, with_top}
use Rattle.vc_code.specs.Operation.{operate}
use Rattle.vc_code.specs.Selected.{Vars, held_by, shape, code_of}
use Rattle.vc_build.specs.Grow.{with_instr, GrowsAt}
use Rattle.vc_build.specs.Runs.{Codes, RunsIn, acted, Reaches, Holds, Yields}
use Rattle.vc_build.proofs.Growth.{grows_at_again, put_open, put_grows}
use Rattle.vc_build.proofs.Steps.{reaches_on, runs_in_earlier, runs_in_on, gives}
use Rattle.vc_expr.specs.Operators.{Begins, HasValue, Gives, Converts}
use Rattle.vc_expr.proofs.Starts.{reads_are}
use Rattle.vc_expr.proofs.Operations.{same_fewer, gives_since}
use Rattle.vc_expr.proofs.Sums.{word_signed}

opposite : (a : ℤ) → FitsSigned w32 a → diff32 0 (word a) ≡ word (wrapped (neg_ℤ a))
opposite a f =
    let e : 0 + (2 ^ 32 - word a) ≡ 2 ^ 32 - word a = omega arith in
    ap (λ n. n % 2 ^ 32) e ∙ sym (word_signed (2 ^ 32 - word a)) ∙ ap word (wrapping_neg_is w32 a f)

module _ (first at : ℕ) (old mid : VProc) (operand : ℕ) (target : VarId)
    (b : Begins first at old mid operand target.0) (low : first ≤ length old.vars) where
  abbrev new : VProc
  new = with_instr at (Neg target) mid

  mid_new : GrowsAt at mid new
  mid_new = put_grows at (Neg target) mid b.adds.is_open

  behind_start : (w : Codes) (id : ℕ) (s : State Vars) (x : Value) → RunsIn w id new s →
      HasValue w id operand s.top x → (c : Activation Vars) →
      Holds w id mid at target.0 (length old.vars) s.top (Num (word (number x))) c →
      Reaches w (with_top s c) (Gives w id new at target.0 first s.top (negated x))
  behind_start w id s x r hx c good =
      let held : held_by (code_of w.procs c.proc) c (target.0 ∷ []) ≡
      Some (Num (word (number x))) ∷ [] =
      reads_are w id (with_top s c) (good.same.proc ∙ r.proc) (target.0 ∷ [])
      ∙ ap (λ h. h ∷ []) good.value in
      let does : acted w (Neg target) (with_top s c) ≡
      Some (Give (Num (word (number (negated x))))) =
      ap (operate (here (shape w.procs w.frames) (with_top s c)) (Neg target)) held
      ∙ ap (λ n. Some (Give (Num n))) (opposite (number x) hx.fits) in
      gives_since w id new at target.0 first (with_top s c) s.top c (negated x)
      (SFits-int_wrap w32 (neg_ℤ (number x)))
      (same_fewer first (length old.vars) s.top c low good.same)
      (gives w id at mid (with_top s c) b.adds.is_open good.stands (Neg target)
      (runs_in_on w id (length old.vars) new s c good.same r) target.0 first
      (Num (word (number (negated x)))) refl does b.adds.above
      (r.holds.kinds target.0 b.adds.named ∙ b.adds.plain)
      (omega (arith, b.adds.named, r.holds.vars)))

  pub negation_converts : Converts negated first at old new operand target.0
  negation_converts = record {
    adds = record {
      grows = grows_at_again old mid new at b.adds.grows mid_new;
      is_open =
          put_open at (Neg target) mid b.adds.is_open;
      named = b.adds.named;
      above = b.adds.above;
      plain = b.adds.plain;
    };
    means = λ w id s x r stands hx.
        yielded w s (Gives w id new at target.0 first s.top) (negated x)
        (reaches_on w s (Holds w id mid at target.0 (length old.vars) s.top (Num (word (number x))))
        (Gives w id new at target.0 first s.top) (Ok (negated x))
        (b.means w id s (Num (word (number x))) (runs_in_earlier w id mid new s mid_new.grows r)
        stands hx.held)
        (behind_start w id s x r hx));
  }
    where
      yielded : (w : Codes) (s : State Vars) (Q : Value → Activation Vars → Type 0) (x : Value) →
          Yields w s Q (Ok x) → Reaches w s (Q x)
      yielded w s Q x y = y
