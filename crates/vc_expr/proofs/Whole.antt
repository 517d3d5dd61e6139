-- Validity and what is read, of code that several functions add.
use Rattle.std.proofs.Common.{◌≡◌, ◌≢◌, ℕ, ◌<◌, ◌≤◌, true, List, length, sym, ap, ◌∙◌, arith}
use Rattle.std.specs.Prelude.{pos}
use Rattle.pra_base.specs.Code.{kind_of}
use Rattle.pra_base.specs.declared.ids.VarId.{VarId}
use Rattle.pra_base.specs.declared.code.VarKind.{VarKind}
use Rattle.pra_base.specs.declared.code.VarKind.TheVariants.{Plain, Constant}
use Rattle.pra_base.specs.declared.code.VProc.{VProc}
use Rattle.vc_build.specs.Grow.{with_variable}
use Rattle.vc_expr.specs.Operators.{Begins}
use Rattle.vc_expr.specs.Division.{Divides, Splits, PublishesSplit, ReadsSplit, ReadsRounding}
use Rattle.vc_expr.specs.Rules.{OperandsApart, StaysValid}
use Rattle.vc_expr.specs.Readable.{Entries, usable, Certifies, Publishes, ReadsOperands}
use Rattle.vc_expr.specs.Readable.{ReadsDivision, ReadsSides}
use Rattle.vc_expr.specs.declared.branch.Targets.{Targets}
use Rattle.vc_expr.specs.declared.division.Parts.{Parts}
use Rattle.vc_expr.proofs.Added.{same_valid, constant_valid, valid_on}
use Rattle.vc_expr.proofs.Certificates.{declare_certifies, declare_usable}
use Rattle.vc_expr.proofs.Published.{publishes_on, new_constant}

-- ---- the dividend and the divisor

pub operands_apart : (first at : ℕ) (old mid : VProc) (left target right : ℕ) →
    Begins first at old mid left target → OperandsApart first left right → right < length old.vars →
    target ≢ right
operands_apart first at old mid left target right b apart named e =
    let itself : target ≡ left = b.itself (omega (arith, e, named)) in
    let low : left < first = apart (sym itself ∙ e) in
    omega (arith, low, itself, b.adds.above)

-- ---- a division up to the test of its remainder

pub split_valid : (at : ℕ) (old m1 m2 new : VProc) (dividend divisor : ℕ) → StaysValid old m1 →
    (kind_of m1 dividend ≡ Plain → StaysValid m1 m2) → kind_of m1 dividend ≡ Plain →
    StaysValid (with_variable (Constant (pos 0)) m2) new → StaysValid old new
split_valid at old m1 m2 new dividend divisor one two plain three =
    valid_on old m1 new one (valid_on m1 m2 new (two plain)
    (valid_on m2 (with_variable (Constant (pos 0)) m2) new
    (constant_valid (pos 0) m2 m2 (same_valid m2)) three))

pub split_reads : (at : ℕ) (old m1 m2 new : VProc) (dividend divisor : ℕ) (zero : VarId)
    (parts : Parts) → m1.vars ≡ old.vars → ReadsOperands (length old.vars) at old m1 divisor divisor
    divisor → ReadsDivision at m1 m2 dividend divisor parts.quotient.0 parts.remainder.0 →
    Divides at m1 m2 dividend divisor parts.quotient.0 parts.remainder.0 → zero.0 ≡ length m2.vars →
    ReadsOperands zero.0 at (with_variable (Constant (pos 0)) m2) new parts.remainder.0 zero.0
    parts.negative.0 → dividend < length old.vars → divisor < length old.vars →
    ReadsSplit at old new dividend divisor parts
split_reads at old m1 m2 new dividend divisor zero parts same checks divides growth is_new less
    a_named d_named = record {
      reads = λ known c a_known d_known.
          let p1 = checks.reads known c d_known d_known in
          let p2 = divides.reads known p1.certifies (p1.others dividend a_named a_known)
          p1.result in
          let more = declare_usable known (Constant (pos 0)) m2 at in
          let p3 = less.reads known (declare_certifies known (Constant (pos 0)) m2 p2.certifies)
          (more parts.remainder.0 p2.second_part) (new_constant known (pos 0) at zero.0 m2 is_new)
          in
          let wide : length m1.vars ≤ length m2.vars = growth.left.grows.grows.vars in
          let same_count : length m1.vars ≡ length old.vars =
          ap (λ (ks : List VarKind). length ks) same in
          record {
            certifies = p3.certifies;
            quotient = p3.others parts.quotient.0 (omega (arith, is_new, growth.left.named))
                (more parts.quotient.0 p2.first_part);
            remainder = p3.others parts.remainder.0 (omega (arith, is_new, growth.right.named))
                (more parts.remainder.0 p2.second_part);
            negative = p3.result;
            others = λ u lt n is. p3.others u (omega (arith, lt, is_new, wide, same_count))
                (more u (p2.others u n (p1.others u lt is)));
          };
    }

-- ---- what makes up for a negative remainder

pub rounding_reads : (at : ℕ) (old m1 m2 new : VProc) (parts : Parts) (divisor mask added v : ℕ) →
    ReadsOperands parts.negative.0 at old m1 parts.negative.0 parts.negative.0 mask →
    ReadsOperands parts.negative.0 at m1 m2 mask divisor added →
    ReadsOperands parts.remainder.0 at m2 new parts.remainder.0 added v → divisor <
    parts.negative.0 → parts.remainder.0 < parts.negative.0 →
    ReadsRounding at old new parts divisor v
rounding_reads at old m1 m2 new parts divisor mask added v negates combines sums d_below r_below =
    record {
      reads = λ known c r_known n_known d_known.
          let n = parts.negative.0 in
          let r = parts.remainder.0 in
          let p1 = negates.reads known c n_known n_known in
          let p2 = combines.reads known p1.certifies p1.result
          (p1.others divisor d_below d_known) in
          let p12 : Publishes known n at old m2 added = publishes_on known n n n at old m1 m2 mask
          added
          (omega arith) (omega arith) p1 p2 in
          let p3 = sums.reads known p2.certifies (p12.others r r_below r_known) p2.result in
          publishes_on known n r r at old m2 new added v (omega (arith, r_below)) (omega arith) p12
          p3;
    }

-- ---- DIV and MOD

module _ (first at : ℕ) (old m1 m2 new : VProc) (left target right : ℕ) (parts : Parts) (v : ℕ)
    (begins : Begins first at old m1 left target)
    (starts : ReadsOperands (length old.vars) at old m1 left left target)
    (split : Splits at m1 m2 target right parts) (reads : ReadsSplit at m1 m2 target right parts)
  where
    module _ (known : Entries) (c : Certifies known old) (l_known : usable known old at left ≡ true)
        (r_known : usable known old at right ≡ true) (named : right < length old.vars)
        (low : first ≤ length old.vars) where
      more : length old.vars ≤ length m1.vars
      more = begins.adds.grows.grows.vars

      started : Publishes known (length old.vars) at old m1 target
      started = starts.reads known c l_known l_known

      apart_parts : PublishesSplit known at m1 m2 target parts
      apart_parts = reads.reads known started.certifies started.result
          (started.others right named r_known)

      first_kept : (u : ℕ) → u < first → usable known old at u ≡ true → usable known m2 at u ≡ true
      first_kept u lt is = apart_parts.others u (omega (arith, lt, low, more))
          (λ e. omega (arith, e, lt, begins.adds.above))
          (started.others u (omega (arith, lt, low)) is)

      last_part : (n : ℕ) → length m1.vars ≤ n → Publishes known n at m2 new v →
          Publishes known first at old new v
      last_part n le p = record {
        certifies = p.certifies;
        result = p.result;
        others =
            λ u lt is. p.others u (omega (arith, lt, low, more, le)) (first_kept u lt is);
      }

    pub div_reads : ReadsOperands parts.quotient.0 at m2 new parts.quotient.0 parts.negative.0 v →
        target ≢ right → right < length old.vars → first ≤ length old.vars →
        ReadsOperands first at old new left right v
    div_reads subtracts apart named low = record {
      reads = λ known c l_known r_known.
          let p = apart_parts known c l_known r_known named low in
          last_part known c l_known r_known named low parts.quotient.0 split.quotient.above
          (subtracts.reads known p.certifies p.quotient p.negative);
    }

    pub mod_reads : ReadsRounding at m2 new parts right v → target ≢ right →
        right < length old.vars →
        first ≤ length old.vars → ReadsOperands first at old new left right v
    mod_reads rounds apart named low = record {
      reads = λ known c l_known r_known.
          let p = apart_parts known c l_known r_known named low in
          let s = started known c l_known r_known named low in
          let r = p.others right (omega (arith, named, begins.adds.grows.grows.vars))
          (λ e. apart (sym e)) (s.others right named r_known) in
          last_part known c l_known r_known named low parts.remainder.0 split.remainder.above
          (rounds.reads known p.certifies p.remainder p.negative r);
    }

-- ---- a branch by a truth value

pub sides_valid : (old new : VProc) → StaysValid (with_variable (Constant (pos 0)) old) new →
    StaysValid old new
sides_valid old new valid = valid_on old (with_variable (Constant (pos 0)) old) new
    (constant_valid (pos 0) old old (same_valid old)) valid

pub sides_read : (at : ℕ) (old new : VProc) (v : ℕ) (zero : VarId) (targets : Targets) →
    zero.0 ≡ length old.vars → ReadsSides at (with_variable (Constant (pos 0)) old) new v zero.0
    targets → ReadsSides at old new v v targets
sides_read at old new v zero targets is_new r = record {
  reads = λ known c one two holds fails.
      let more = declare_usable known (Constant (pos 0)) old at in
      r.reads known (declare_certifies known (Constant (pos 0)) old c) (more v one)
      (new_constant known (pos 0) at zero.0 old is_new) (λ u is. more u (holds u is))
      (λ u is. more u (fails u is));
}
