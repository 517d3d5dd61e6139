-- Shifts, as the sign `-` is in `Signs`.
use Rattle.std.proofs.Common.{◌≡◌, ℕ, ◌%◌, ◌^◌, ◌<◌, ◌≤◌, [], ◌∷◌, length, Some, Ok, refl, sym}
use Rattle.std.proofs.Common.{ap, ◌∙◌, arith}
use Rattle.std.specs.Int.{w32}
use Rattle.std.specs.Int.RustNames.{FitsSigned}
use Rattle.std.proofs.lemmas.Int.{ints}
use Rattle.pra_base.specs.Words.{word, signed, shifted}
use Rattle.pra_base.specs.declared.ids.ShiftOp.{ShiftOp}
use Rattle.pra_base.specs.declared.ids.VarId.{VarId}
use Rattle.pra_base.specs.declared.code.VInstr.TheVariants.{Shift}
use Rattle.pra_base.specs.declared.code.VProc.{VProc}
use Rattle.pra_base.proofs.Shifts.{shifted_small}
use Rattle.ob_syntax.specs.Operators.{number}
use Rattle.ob_syntax.specs.declared.checked.Value.{Value}
use Rattle.vc_code.specs.declared.action.Action.TheVariants.{Give}
use Rattle.vc_code.specs.declared.value.Value.TheVariants.{Num}
use Rattle.vc_code.specs.Machine.{Activation, State, here, with_top}
use Rattle.vc_code.specs.Operation.{operate}
use Rattle.vc_code.specs.Selected.{Vars, held_by, shape, code_of}
use Rattle.vc_build.specs.Grow.{with_instr, GrowsAt}
use Rattle.vc_build.specs.Runs.{Codes, RunsIn, acted, Reaches, Holds, Yields}
use Rattle.vc_build.proofs.Growth.{grows_at_again, put_open, put_grows}
use Rattle.vc_build.proofs.Steps.{reaches_on, runs_in_earlier, runs_in_on, gives}
use Rattle.vc_expr.specs.Operators.{Begins, HasValue, Gives, Converts}
use Rattle.vc_expr.specs.Division.{shifted_by}
use Rattle.vc_expr.proofs.Starts.{reads_are}
use Rattle.vc_expr.proofs.Operations.{same_fewer, gives_since}
use Rattle.vc_expr.proofs.Sums.{word_signed}

signed_fits : (n : ℕ) → n < 2 ^ 32 → FitsSigned w32 (signed n)
signed_fits n h = omega (arith, ints, h)

word_small : (n : ℕ) → n < 2 ^ 32 → word (signed n) ≡ n
word_small n h =
    let same : n % 2 ^ 32 ≡ n = omega (arith, h) in
    ap (λ m. word (signed m)) (sym same) ∙ word_signed n ∙ same

module _ (op : ShiftOp) (k : ℕ) (first at : ℕ) (old mid : VProc) (operand : ℕ) (target : VarId)
    (b : Begins first at old mid operand target.0) (low : first ≤ length old.vars) where
  abbrev new : VProc
  new = with_instr at (Shift op target k) mid

  mid_new : GrowsAt at mid new
  mid_new = put_grows at (Shift op target k) mid b.adds.is_open

  small : (x : Value) → FitsSigned w32 (number x) → shifted op (word (number x)) k < 2 ^ 32
  small x fits = shifted_small op (word (number x)) k (omega (arith, ints, fits))

  behind_start : (w : Codes) (id : ℕ) (s : State Vars) (x : Value) → RunsIn w id new s →
      HasValue w id operand s.top x → (c : Activation Vars) →
      Holds w id mid at target.0 (length old.vars) s.top (Num (word (number x))) c →
      Reaches w (with_top s c) (Gives w id new at target.0 first s.top (shifted_by op k x))
  behind_start w id s x r hx c good =
      let held : held_by (code_of w.procs c.proc) c (target.0 ∷ []) ≡
      Some (Num (word (number x))) ∷ [] =
      reads_are w id (with_top s c) (good.same.proc ∙ r.proc) (target.0 ∷ [])
      ∙ ap (λ h. h ∷ []) good.value in
      let does : acted w (Shift op target k) (with_top s c) ≡
      Some (Give (Num (word (number (shifted_by op k x))))) =
      ap (operate (here (shape w.procs w.frames) (with_top s c)) (Shift op target k)) held
      ∙ ap (λ n. Some (Give (Num n)))
      (sym (word_small (shifted op (word (number x)) k) (small x hx.fits))) in
      gives_since w id new at target.0 first (with_top s c) s.top c (shifted_by op k x)
      (signed_fits (shifted op (word (number x)) k) (small x hx.fits))
      (same_fewer first (length old.vars) s.top c low good.same)
      (gives w id at mid (with_top s c) b.adds.is_open good.stands (Shift op target k)
      (runs_in_on w id (length old.vars) new s c good.same r) target.0 first
      (Num (word (number (shifted_by op k x)))) refl does b.adds.above
      (r.holds.kinds target.0 b.adds.named ∙ b.adds.plain)
      (omega (arith, b.adds.named, r.holds.vars)))

  pub shift_converts : Converts (shifted_by op k) first at old new operand target.0
  shift_converts = record {
    adds = record {
      grows = grows_at_again old mid new at b.adds.grows mid_new;
      is_open =
          put_open at (Shift op target k) mid b.adds.is_open;
      named = b.adds.named;
      above = b.adds.above;
      plain = b.adds.plain;
    };
    means = λ w id s x r stands hx.
        yielded w s (Gives w id new at target.0 first s.top) (shifted_by op k x)
        (reaches_on w s (Holds w id mid at target.0 (length old.vars) s.top (Num (word (number x))))
        (Gives w id new at target.0 first s.top) (Ok (shifted_by op k x))
        (b.means w id s (Num (word (number x))) (runs_in_earlier w id mid new s mid_new.grows r)
        stands hx.held)
        (behind_start w id s x r hx));
  }
    where
      yielded : (w : Codes) (s : State Vars) (Q : Value → Activation Vars → Type 0) (x : Value) →
          Yields w s Q (Ok x) → Reaches w s (Q x)
      yielded w s Q x y = y
