-- An instruction that computes in place, behind the start of its operation.
use Rattle.std.proofs.Common.{◌≡◌, ℕ, ◌<◌, ◌≤◌, [], ◌∷◌, length, Some, Ok, sym, ap, ◌∙◌, subst}
use Rattle.std.proofs.Common.{arith}
use Rattle.std.specs.Int.{w32}
use Rattle.std.specs.Int.RustNames.{FitsSigned}
use Rattle.pra_base.specs.Code.{kind_of}
use Rattle.pra_base.specs.Operands.{read_by, written_by}
use Rattle.pra_base.specs.Words.{word}
use Rattle.pra_base.specs.declared.ids.VarId.{VarId}
use Rattle.pra_base.specs.declared.code.VInstr.{VInstr}
use Rattle.pra_base.specs.declared.code.VProc.{VProc}
use Rattle.ob_syntax.specs.Operators.{Outcome, number}
use Rattle.ob_syntax.specs.declared.checked.Value.{Value}
use Rattle.vc_code.specs.declared.action.Here.{Here}
use Rattle.vc_code.specs.declared.action.Action.TheVariants.{Give}
use Rattle.vc_code.specs.declared.value.Value.TheVariants.{Num}
use Rattle.vc_code.specs.Value.{Held}
use Rattle.vc_code.specs.Machine.{Activation, State, here, with_top}
use Rattle.vc_code.specs.Operation.{operate}
use Rattle.vc_code.specs.Selected.{Vars, read, valued, held_by, shape, code_of}
use Rattle.vc_build.specs.Grow.{with_instr, GrowsAt}
use Rattle.vc_build.specs.Runs.{Codes, RunsIn, SameBelow, acted, Reaches, Holds, Yields, Stands}
use Rattle.vc_build.proofs.Growth.{grows_at_again, put_open, put_grows}
use Rattle.vc_build.proofs.Steps.{same_self, same_on, reaches_on, runs_in_earlier, runs_in_on}
use Rattle.vc_build.proofs.Steps.{gives}
use Rattle.vc_expr.specs.Operators.{Adds, Begins, HasValue, Gives}
use Rattle.vc_expr.proofs.Starts.{reads_are}

-- a variable that is as it was is read as it was
pub read_on : (w : Codes) (id n v : ℕ) (one two : Activation Vars) (h : Held) →
    SameBelow n one two → v < n → read (kind_of (code_of w.procs id)) one.home.held v ≡ h →
    read (kind_of (code_of w.procs id)) two.home.held v ≡ h
read_on w id n v one two h same lt is = ap (valued (kind_of (code_of w.procs id) v))
    (same.held v lt) ∙ is

-- what is said of fewer variables
pub same_fewer : (n m : ℕ) (one two : Activation Vars) → n ≤ m → SameBelow m one two →
    SameBelow n one two
same_fewer n m one two le same = same_on n m one one two le (same_self n one) same

-- a value was given where the call was as it was before
pub gives_since : (w : Codes) (id : ℕ) (made : VProc) (b v n : ℕ) (s : State Vars)
    (one two : Activation Vars) (z : Value) → FitsSigned w32 (number z) → SameBelow n one two →
    Reaches w s (Holds w id made b v n two (Num (word (number z)))) →
    Reaches w s (Gives w id made b v n one z)
gives_since w id made b v n s one two z fits same r = record {
  steps = r.steps;
  call = r.call;
  there = r.there;
  good = record {
    fits = fits;
    holds = record {
      stands = r.good.stands;
      same = same_on n n one two r.call (omega arith) same
          r.good.same;
      value = r.good.value;
    };
  };
}

module _ (first at : ℕ) (old mid : VProc) (left : ℕ) (target right : VarId)
    (b : Begins first at old mid left target.0) (named : right.0 < length old.vars)
    (low : first ≤ length old.vars)
    (i : VInstr) (writes : written_by i ≡ target.0 ∷ [])
    (reads : read_by i ≡ target.0 ∷ right.0 ∷ [])
    (P : Value → Value → Type 0) (f : Value → Value → Outcome) (z : Value → Value → Value)
    (g : ℕ → ℕ → ℕ)
    (is : (x y : Value) → f x y ≡ Ok (z x y))
    (fits : (x y : Value) → P x y → FitsSigned w32 (number x) → FitsSigned w32 (number y) →
    FitsSigned w32 (number (z x y)))
    (words : (x y : Value) → P x y → FitsSigned w32 (number x) → FitsSigned w32 (number y) →
    g (word (number x)) (word (number y)) ≡ word (number (z x y)))
    (acts : (h : Here) (a c : ℕ) → operate h i (Some (Num a) ∷ Some (Num c) ∷ []) ≡
    Some (Give (Num (g a c)))) where
  abbrev new : VProc
  new = with_instr at i mid

  mid_new : GrowsAt at mid new
  mid_new = put_grows at i mid b.adds.is_open

  module _ (w : Codes) (id : ℕ) (s : State Vars) (x y : Value) (r : RunsIn w id new s)
      (hx : HasValue w id left s.top x) (hy : HasValue w id right.0 s.top y) (p : P x y) where
    behind_start : (c : Activation Vars) → Holds w id mid at target.0 (length old.vars) s.top
        (Num (word (number x))) c →
        Reaches w (with_top s c) (Gives w id new at target.0 first s.top (z x y))
    behind_start c good =
        let proc = good.same.proc ∙ r.proc in
        let right' = read_on w id (length old.vars) right.0 s.top c (Some (Num (word (number y))))
        good.same named hy.held in
        let held : held_by (code_of w.procs c.proc) c (read_by i) ≡
        Some (Num (word (number x))) ∷ Some (Num (word (number y))) ∷ [] =
        reads_are w id (with_top s c) proc (read_by i) ∙ ap (held_by (code_of w.procs id) c) reads
        ∙ ap (λ h. h ∷ read (kind_of (code_of w.procs id)) c.home.held right.0 ∷ []) good.value
        ∙ ap (λ h. Some (Num (word (number x))) ∷ h ∷ []) right' in
        let does : acted w i (with_top s c) ≡ Some (Give (Num (word (number (z x y))))) =
        ap (operate (here (shape w.procs w.frames) (with_top s c)) i) held
        ∙ acts (here (shape w.procs w.frames) (with_top s c)) (word (number x))
        (word (number y)) ∙ ap (λ n. Some (Give (Num n))) (words x y p hx.fits hy.fits) in
        gives_since w id new at target.0 first (with_top s c) s.top c (z x y)
        (fits x y p hx.fits hy.fits)
        (same_fewer first (length old.vars) s.top c low good.same)
        (gives w id at mid (with_top s c) b.adds.is_open good.stands i
        (runs_in_on w id (length old.vars) new s c good.same r) target.0 first
        (Num (word (number (z x y)))) writes does b.adds.above
        (r.holds.kinds target.0 b.adds.named ∙ b.adds.plain)
        (omega (arith, b.adds.named, r.holds.vars)))

  pub operates_adds : Adds first at old new target.0
  operates_adds = record {
    grows = grows_at_again old mid new at b.adds.grows mid_new;
    is_open =
        put_open at i mid b.adds.is_open;
    named = b.adds.named;
    above = b.adds.above;
    plain =
        b.adds.plain;
  }

  pub operates_where : (w : Codes) (id : ℕ) (s : State Vars) (x y : Value) → RunsIn w id new s →
      Stands old at s.top → HasValue w id left s.top x → HasValue w id right.0 s.top y → P x y →
      Yields w s (Gives w id new at target.0 first s.top) (f x y)
  operates_where w id s x y r stands hx hy p =
      subst (Yields w s (Gives w id new at target.0 first s.top)) (sym (is x y))
      (reaches_on w s (Holds w id mid at target.0 (length old.vars) s.top (Num (word (number x))))
      (Gives w id new at target.0 first s.top) (Ok (z x y))
      (b.means w id s (Num (word (number x))) (runs_in_earlier w id mid new s mid_new.grows r)
      stands hx.held)
      (behind_start w id s x y r hx hy p))
