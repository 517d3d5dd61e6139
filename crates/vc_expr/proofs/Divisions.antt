-- DIV and MOD: a test of the divisor, a division that rounds toward zero, and what makes up for a
-- negative remainder.
use Rattle.std.proofs.Common.{◌≡◌, ℕ, suc, ◌^◌, ◌<◌, ◌≤◌, Bool, true, false, [], ◌∷◌, length}
use Rattle.std.proofs.Common.{Option, Some, None, Ok, Err, refl, sym, ap, ◌∙◌, subst, arith}
use Rattle.std.specs.Prelude.{ℤ, pos, ◌<ℤ◌, int_lt, int_le, int_div, int_rem, slice_index_or}
use Rattle.std.specs.Prelude.{if◌then◌else◌}
use Rattle.std.specs.Int.{w32}
use Rattle.std.specs.Int.RustNames.{FitsSigned, unsigned_abs}
use Rattle.std.proofs.lemmas.Bool.Decides.{nat_tests}
use Rattle.std.proofs.lemmas.Int.{ints, rem_below, quot_fits, fits_signed_from_abs}
use Rattle.pra_base.specs.Code.{kind_of}
use Rattle.pra_base.specs.Words.{word, signed, quotient32, remainder32, is_positive}
use Rattle.pra_base.specs.declared.event.TrapKind.TheVariants.{Divide}
use Rattle.pra_base.specs.declared.ids.VarId.{VarId}
use Rattle.pra_base.specs.declared.code.VarKind.{VarKind}
use Rattle.pra_base.specs.declared.code.VarKind.TheVariants.{Param, Plain, Constant}
use Rattle.pra_base.specs.declared.code.VInstr.TheVariants.{CheckPos, DivMod}
use Rattle.pra_base.specs.declared.code.VProc.{VProc}
use Rattle.ob_syntax.specs.Operators.{number}
use Rattle.ob_syntax.specs.declared.checked.Value.{Value}
use Rattle.ob_syntax.specs.declared.checked.Value.TheVariants.{Number}
use Rattle.vc_code.specs.declared.action.Action.TheVariants.{Nothing, GiveBoth, Trap}
use Rattle.vc_code.specs.declared.value.Value.{Value as Word}
use Rattle.vc_code.specs.declared.value.Value.TheVariants.{Num}
use Rattle.vc_code.specs.Machine.{Activation, State, here}
use Rattle.vc_code.specs.Operation.{operate}
use Rattle.vc_code.specs.Selected.{Vars, read, valued, held_by, shape, code_of}
use Rattle.vc_build.specs.Grow.{IsOpen, with_instr, with_variable, GrowsAt}
use Rattle.vc_build.specs.Runs.{Codes, RunsIn, SameBelow, acted, Yields, Stands}
use Rattle.vc_build.proofs.Growth.{grows_at_same, grows_at_again, put_open, put_grows}
use Rattle.vc_build.proofs.Growth.{declared_kind, declared_count, declared_grows}
use Rattle.vc_build.proofs.Steps.{same_self, rests}
use Rattle.vc_expr.specs.Operators.{Adds, HasValue, Gives}
use Rattle.vc_expr.specs.Division.{is_tested, Stays, Checks, HoldsParts, Divides}
use Rattle.vc_expr.proofs.Starts.{reads_are}
use Rattle.vc_expr.proofs.Operations.{read_on}
use Rattle.vc_expr.proofs.Relations.{back}
use Rattle.vc_expr.proofs.Effects.{passes, traps, gives_two}

-- ---- values from one place to the next

pub value_on : (w : Codes) (id n v : ℕ) (one two : Activation Vars) (x : Value) →
    SameBelow n one two → v < n → HasValue w id v one x → HasValue w id v two x
value_on w id n v one two x same lt h =
    record {
      fits = h.fits;
      held = read_on w id n v one two (Some (Num (word (number x)))) same lt
          h.held;
    }

pub given_value : (w : Codes) (id : ℕ) (made : VProc) (b v first : ℕ) (old new : Activation Vars)
    (x : Value) → Gives w id made b v first old x new → HasValue w id v new x
given_value w id made b v first old new x g = record { fits = g.fits; held = g.holds.value }

pub adds_after : (n m at : ℕ) (a b c : VProc) (v : ℕ) → GrowsAt at a b → n ≤ m → Adds m at b c v →
    Adds n at a c v
adds_after n m at a b c v g le adds =
    record {
      grows = grows_at_again a b c at g adds.grows;
      is_open = adds.is_open;
      named =
          adds.named;
      above = omega (arith, le, adds.above);
      plain = adds.plain;
    }

pub adds_before : (n at : ℕ) (a b c : VProc) (v : ℕ) → Adds n at a b v → GrowsAt at b c →
    IsOpen c at → Adds n at a c v
adds_before n at a b c v adds g o = record {
  grows = grows_at_again a b c at adds.grows g;
  is_open = o;
  named = omega (arith, adds.named, g.grows.vars);
  above = adds.above;
  plain = g.grows.kinds v adds.named ∙ adds.plain;
}

-- a constant has its number
pub has_constant : (w : Codes) (id v : ℕ) (c : Activation Vars) (n : ℤ) → FitsSigned w32 n →
    kind_of (code_of w.procs id) v ≡ Constant n → HasValue w id v c (Number n)
has_constant w id v c n fits kind =
    record { fits = fits; held = ap (λ k. valued k (slice_index_or c.home.held v None)) kind }

-- ---- the test of the divisor

pub words_same : (a b : ℕ) → ◌≡◌ {A = Option Word} (Some (Num a)) (Some (Num b)) → a ≡ b
words_same a b e = cc

module _ (at : ℕ) (old : VProc) (v : VarId) (o : IsOpen old at) where
  abbrev tested : VProc
  tested = with_instr at (CheckPos v) old

  by_test : (w : Codes) (id : ℕ) (s : State Vars) → RunsIn w id tested s → Stands old at s.top →
      (b : Bool) → acted w (CheckPos v) s ≡ (if b then Some Nothing else Some (Trap Divide)) →
      Yields w s (λ (ok : Unit {0}) (c : Activation Vars). Stays tested at (length old.vars) s.top
      c) (if b then Ok tt else Err Divide)
  by_test w id s r stands true acts = passes w id at old s o stands (CheckPos v) r refl acts
      (length old.vars)
  by_test w id s r stands false acts = traps w id at old s o stands (CheckPos v) r Divide acts

  pub check_checks : Checks at old tested v.0
  check_checks = record {
    grows = put_grows at (CheckPos v) old o;
    is_open = put_open at (CheckPos v) old o;
    vars = refl;
    means = λ w id s d r stands hd.
        let held : held_by (code_of w.procs s.top.proc) s.top (v.0 ∷ []) ≡
        Some (Num (word (number d))) ∷ [] = reads_are w id s r.proc (v.0 ∷ [])
        ∙ ap (λ h. h ∷ []) hd.held in
        by_test w id s r stands (int_lt (pos 0) (number d))
        (ap (operate (here (shape w.procs w.frames) s) (CheckPos v)) held
        ∙ ap (λ (n : ℤ). if int_lt (pos 0) n then Some Nothing else Some (Trap Divide))
        (back (number d) hd.fits));
  }

above_zero : (n : ℤ) → int_le n (pos 0) ≡ false → int_lt (pos 0) n ≡ true
above_zero n e = grind (arith, nat_tests)

constant_of : (kind : VarKind) → is_tested kind ≡ false → (n : ℤ) ×
    ((kind ≡ Constant n) × (int_lt (pos 0) n ≡ true))
constant_of (Constant n) e = (n, (refl, above_zero n e))
constant_of Plain e = absurd (cc)
constant_of (Param k) e = absurd (cc)

pub known_checks : (at : ℕ) (old : VProc) (v : ℕ) → IsOpen old at → v < length old.vars →
    ((n : ℤ) → kind_of old v ≡ Constant n → FitsSigned w32 n) → is_tested (kind_of old v) ≡ false →
    Checks at old old v
known_checks at old v o named fits e =
    let k = constant_of (kind_of old v) e in
    record {
      grows = grows_at_same old at;
      is_open = o;
      vars = refl;
      means = λ w id s d r stands hd.
          let kind : kind_of (code_of w.procs id) v ≡ Constant k.0 = r.holds.kinds v named
          ∙ k.1.0 in
          let same : word k.0 ≡ word (number d) = words_same (word k.0) (word (number d))
          (sym (ap (λ x. valued x (slice_index_or s.top.home.held v None)) kind) ∙ hd.held) in
          let is : k.0 ≡ number d = sym (back k.0 (fits k.0 k.1.0)) ∙ ap signed same
          ∙ back (number d) hd.fits in
          let up : int_lt (pos 0) (number d) ≡ true = ap (int_lt (pos 0)) (sym is) ∙ k.1.1 in
          subst (λ b. Yields w s (λ (ok : Unit {0}) (c : Activation Vars). Stays old at
          (length old.vars) s.top c) (if b then Ok tt else Err Divide)) (sym up)
          (rests w s (Stays old at (length old.vars) s.top) r.compared
          (record { stands = stands; same = same_self (length old.vars) s.top }));
    }

pub divisor_checks : (at : ℕ) (old : VProc) (v : VarId) → IsOpen old at → (b : Bool) → b ≡ true →
    Checks at old (with_instr at (CheckPos v) old) v.0
divisor_checks at old v o b e = check_checks at old v o

-- ---- the division

module _ (x d : ℤ) (fx : FitsSigned w32 x) (fd : FitsSigned w32 d) (up : pos 0 <ℤ d) where
  some : 0 < unsigned_abs d
  some = grind (arith, ints)

  small : unsigned_abs d ≤ 2 ^ 31
  small = grind (arith, ints)

  quotient_fits : FitsSigned w32 (int_div x d)
  quotient_fits = quot_fits w32 x d fx up

  remainder_fits : FitsSigned w32 (int_rem x d)
  remainder_fits = let below : unsigned_abs (int_rem x d) < unsigned_abs d = rem_below x d some in
      let m = small in fits_signed_from_abs w32 (int_rem x d) (omega arith)

  quotient_words : quotient32 (word x) (word d) ≡ word (int_div x d)
  quotient_words = ap (λ a. word (int_div a (signed (word d)))) (back x fx)
      ∙ ap (λ b. word (int_div x b)) (back d fd)

  remainder_words : remainder32 (word x) (word d) ≡ word (int_rem x d)
  remainder_words = ap (λ a. word (int_rem a (signed (word d)))) (back x fx)
      ∙ ap (λ b. word (int_rem x b)) (back d fd)

  is_up : is_positive (word d) ≡ true
  is_up = ap (int_lt (pos 0)) (back d fd) ∙ grind (arith, ints)

module _ (at : ℕ) (old : VProc) (q r a d : VarId) (o : IsOpen old at)
    (q_new : q.0 ≡ length old.vars) (r_new : r.0 ≡ length (with_variable Plain old).vars) where
  abbrev one : VProc
  one = with_variable Plain old

  abbrev two : VProc
  two = with_variable Plain one

  abbrev divided : VProc
  divided = with_instr at (DivMod q r a d) two

  two_open : IsOpen two at
  two_open = o

  r_last : r.0 ≡ suc q.0
  r_last = omega (arith, q_new, r_new, declared_count Plain old)

  counts : length two.vars ≡ suc (suc q.0)
  counts = omega (arith, q_new, declared_count Plain old, declared_count Plain one)

  q_plain : kind_of two q.0 ≡ Plain
  q_plain =
      let lt : q.0 < length one.vars = omega (arith, q_new, declared_count Plain old) in
      (declared_grows Plain one at).grows.kinds q.0 lt ∙ ap (kind_of one) q_new
      ∙ declared_kind Plain old

  r_plain : kind_of two r.0 ≡ Plain
  r_plain = ap (kind_of two) r_new ∙ declared_kind Plain one

  grows : GrowsAt at old divided
  grows = grows_at_again old one divided at (declared_grows Plain old at)
      (grows_at_again one two divided at (declared_grows Plain one at)
      (put_grows at (DivMod q r a d) two two_open))

  pub divides : Divides at old divided a.0 d.0 q.0 r.0
  divides = record {
    left = record {
      grows = grows;
      is_open = put_open at (DivMod q r a d) two two_open;
      named =
          omega (arith, counts);
      above = omega (arith, q_new);
      plain = q_plain;
    };
    right = record {
      grows = grows;
      is_open = put_open at (DivMod q r a d) two two_open;
      named =
          omega (arith, counts, r_last);
      above = omega (arith, q_new, r_last);
      plain = r_plain;
    };
    below = omega (arith, r_last);
    means = λ w id s x y run stands hx hy up.
        let n = number x in
        let m = number y in
        let held : held_by (code_of w.procs s.top.proc) s.top (a.0 ∷ d.0 ∷ []) ≡
        Some (Num (word n)) ∷ Some (Num (word m)) ∷ [] =
        reads_are w id s run.proc (a.0 ∷ d.0 ∷ [])
        ∙ ap (λ h. h ∷ read (kind_of (code_of w.procs id)) s.top.home.held d.0 ∷ []) hx.held
        ∙ ap (λ h. Some (Num (word n)) ∷ h ∷ []) hy.held in
        let acts : acted w (DivMod q r a d) s ≡
        Some (GiveBoth (Num (word (int_div n m))) (Num (word (int_rem n m)))) =
        ap (operate (here (shape w.procs w.frames) s) (DivMod q r a d)) held
        ∙ ap (λ b. if b then Some
        (GiveBoth (Num (quotient32 (word n) (word m))) (Num (remainder32 (word n) (word m))))
        else None) (is_up n m hx.fits hy.fits up)
        ∙ ap (λ k. Some (GiveBoth (Num k) (Num (remainder32 (word n) (word m)))))
        (quotient_words n m hx.fits hy.fits up)
        ∙ ap (λ k. Some (GiveBoth (Num (word (int_div n m))) (Num k)))
        (remainder_words n m hx.fits hy.fits up) in
        gives_two w id at two s two_open (record { block = stands.block; index = stands.index })
        (DivMod q r a d) run q.0 r.0 (Num (word (int_div n m))) (Num (word (int_rem n m))) refl
        acts
        (λ e. omega (arith, e, r_last)) (omega (arith, counts, run.holds.vars))
        (omega (arith, counts, r_last, run.holds.vars))
        (run.holds.kinds q.0 (omega (arith, counts)) ∙ q_plain)
        (run.holds.kinds r.0 (omega (arith, counts, r_last)) ∙ r_plain)
        (length old.vars) (λ c. Stays divided at (length old.vars) s.top c ×
        HoldsParts w id q.0 r.0 n m c) (omega (arith, q_new)) (omega (arith, q_new, r_last))
        (λ c stays hq hr. (
          stays,
          record {
            quotient = record { fits = quotient_fits n m hx.fits hy.fits up; held = hq };
            remainder = record { fits = remainder_fits n m hx.fits hy.fits up; held = hr };
          },
        ));
  }
