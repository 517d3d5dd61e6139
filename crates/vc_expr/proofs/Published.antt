-- What the code of operators and signs reads, and what may be read behind it.
use Rattle.std.proofs.Common.{◌≡◌, ◌≢◌, ℕ, ◌<◌, ◌≤◌, true, false, ◌||◌, length, refl, ap, ◌∙◌}
use Rattle.std.proofs.Common.{⊎_elim, ◌⊎◌, inl, arith}
use Rattle.std.specs.Prelude.{ℤ, pos, nat_eq}
use Rattle.std.proofs.lemmas.Bool.Decides.{nat_tests}
use Rattle.std.proofs.lemmas.Bool.{cases_eq}
use Rattle.pra_base.specs.Code.{kind_of, code_of}
use Rattle.pra_base.specs.Operands.{reads, writes}
use Rattle.pra_base.specs.declared.ids.BlockId.{BlockId}
use Rattle.pra_base.specs.declared.ids.Cond.{Cond}
use Rattle.pra_base.specs.declared.ids.VarId.{VarId}
use Rattle.pra_base.specs.declared.code.VarKind.{VarKind}
use Rattle.pra_base.specs.declared.code.VarKind.TheVariants.{Param, Plain, Constant}
use Rattle.pra_base.specs.declared.code.VInstr.{VInstr}
use Rattle.pra_base.specs.declared.code.VInstr.TheVariants.{Set, Copy, Cmp, CmpSet, DivMod}
use Rattle.pra_base.specs.declared.code.VInstr.TheVariants.{CheckPos, Neg, Shift, Xor, And}
use Rattle.pra_base.specs.declared.ids.ShiftOp.{ShiftOp}
use Rattle.pra_base.specs.declared.code.VInstr.TheVariants as instr
use Rattle.pra_base.specs.declared.code.End.TheVariants.{Jump, Branch}
use Rattle.pra_base.specs.declared.code.VProc.{VProc}
use Rattle.ob_syntax.specs.declared.checked.ROp.{ROp}
use Rattle.ob_syntax.specs.declared.checked.ROp.TheVariants.{Mul, Div, Mod, Both, Add, Sub, Either}
use Rattle.ob_syntax.specs.declared.checked.ROp.TheVariants.{Equal, Unequal, Less, LessEqual}
use Rattle.ob_syntax.specs.declared.checked.ROp.TheVariants.{Greater, GreaterEqual}
use Rattle.vc_build.specs.Grow.{IsOpen, with_instr, with_end, with_open_block, with_variable}
use Rattle.vc_build.proofs.Growth.{put_open, declared_kind, declared_count}
use Rattle.vc_expr.specs.Operators.{first_of, arithmetic_of, bitwise_of}
use Rattle.vc_expr.specs.Readable.{is_constant, divides, readable, Entries, usable, Certifies}
use Rattle.vc_expr.specs.Readable.{Publishes, ReadsOperands, PublishesNew, PublishesParts}
use Rattle.vc_expr.specs.Readable.{ReadsDivision, ReadsSides, PublishesTo}
use Rattle.vc_expr.specs.declared.branch.Targets.{Targets}
use Rattle.vc_expr.proofs.Certificates.{put_written, put_kept, put_certifies, close_certifies}
use Rattle.vc_expr.proofs.Certificates.{open_certifies, open_usable, declare_certifies}
use Rattle.vc_expr.proofs.Certificates.{declare_usable}
use Rattle.vc_expr.proofs.Obeys.{is_first, is_either}

-- what may be read behind one part and then another
pub publishes_on : (known : Entries) (n m k at : ℕ) (a b c : VProc) (v u : ℕ) → k ≤ n → k ≤ m →
    Publishes known n at a b v → Publishes known m at b c u → Publishes known k at a c u
publishes_on known n m k at a b c v u le lq p q = record {
  certifies = q.certifies;
  result = q.result;
  others = λ x lt is. q.others x (omega (arith, lt, lq)) (p.others x (omega (arith, lt, le)) is);
}

pub publishes_fewer : (known : Entries) (n k at : ℕ) (a b : VProc) (v : ℕ) → k ≤ n →
    Publishes known n at a b v → Publishes known k at a b v
publishes_fewer known n k at a b v le p =
    record {
      certifies = p.certifies;
      result = p.result;
      others =
          λ x lt is. p.others x (omega (arith, lt, le)) is;
    }

-- an instruction that reads these two, and is no division
module _ (known : Entries) (n at : ℕ) (i : VInstr) (old : VProc) (one two v : ℕ) (o : IsOpen old at)
    (only : (u : ℕ) → reads i u ≡ true → (u ≡ one) ⊎ (u ≡ two))
    (whole : (u : ℕ) → divides i u ≡ false) (writes_it : writes i v ≡ true)
    (c : Certifies known old) (first_known : usable known old at one ≡ true)
    (second_known : usable known old at two ≡ true) where
  may : (u : ℕ) → reads i u ≡ true → usable known old at u ≡ true
  may u r = ⊎_elim (λ (e : u ≡ one). ap (usable known old at) e ∙ first_known)
      (λ (e : u ≡ two). ap (usable known old at) e ∙ second_known) (only u r)

  pub put_publishes : Publishes known n at old (with_instr at i old) v
  put_publishes = record {
    certifies = put_certifies known at i old o c may;
    result = put_written known at i old o v writes_it;
    others = λ u lt is. put_kept known at i old o u (whole u) is;
  }

-- ---- which variables an instruction reads and writes

none_read : (u a b : ℕ) → false ≡ true → (u ≡ a) ⊎ (u ≡ b)
none_read u a b e = absurd (cc)

written_in_place : (a : ℕ) → ((nat_eq a a || false) || false) ≡ true
written_in_place a = grind (arith, nat_tests)

written_alone : (a : ℕ) → (nat_eq a a || false) ≡ true
written_alone a = grind (arith, nat_tests)

first_reads : (kind : VarKind) (target v : VarId) (u : ℕ) → reads (first_of kind target v) u ≡
    true → (u ≡ v.0) ⊎ (u ≡ v.0)
first_reads (Constant n) target v u r = none_read u v.0 v.0 r
first_reads Plain target v u r = inl (is_first v.0 u r)
first_reads (Param k) target v u r = inl (is_first v.0 u r)

first_whole : (kind : VarKind) (target v : VarId) (u : ℕ) → divides (first_of kind target v) u ≡
    false
first_whole (Constant n) target v u = refl
first_whole Plain target v u = refl
first_whole (Param k) target v u = refl

first_writes : (kind : VarKind) (target v : VarId) → writes (first_of kind target v) target.0 ≡ true
first_writes (Constant n) target v = written_alone target.0
first_writes Plain target v = written_alone target.0
first_writes (Param k) target v = written_alone target.0

-- ---- the start of an operation

pub same_publishes : (at : ℕ) (old : VProc) (n v : ℕ) → ReadsOperands n at old old v v v
same_publishes at old n v =
    record {
      reads = λ known c one two. record
          { certifies = c; result = one; others = λ u lt is. is };
    }

module _ (n at : ℕ) (old : VProc) (o : IsOpen old at) where
  abbrev mid : VProc
  mid = with_variable Plain old

  mid_open : IsOpen mid at
  mid_open = o

  -- behind one more variable
  behind_variable : (known : Entries) (i : VInstr) (v : ℕ) →
      Publishes known n at mid (with_instr at i mid) v →
      Publishes known n at old (with_instr at i mid) v
  behind_variable known i v p =
      record {
        certifies = p.certifies;
        result = p.result;
        others =
            λ u lt is. p.others u lt (declare_usable known Plain old at u is);
      }

  pub start_publishes : (kind : VarKind) (target v : VarId) →
      ReadsOperands n at old (with_instr at (first_of kind target v) mid) v.0 v.0 target.0
  start_publishes kind target v = record {
    reads = λ known c one two.
        behind_variable known (first_of kind target v) target.0
        (put_publishes known n at (first_of kind target v) mid v.0 v.0 target.0 mid_open
        (first_reads kind target v) (first_whole kind target v) (first_writes kind target v)
        (declare_certifies known Plain old c) (declare_usable known Plain old at v.0 one)
        (declare_usable known Plain old at v.0 two));
  }

  pub relation_publishes : (k : Cond) (target left right : VarId) →
      ReadsOperands n at old (with_instr at (CmpSet k target left right) mid) left.0 right.0
      target.0
  relation_publishes k target left right = record {
    reads = λ known c one two.
        behind_variable known (CmpSet k target left right) target.0
        (put_publishes known n at (CmpSet k target left right) mid left.0 right.0 target.0 mid_open
        (λ u r. is_either left.0 right.0 u r) (λ u. refl) (written_alone target.0)
        (declare_certifies known Plain old c) (declare_usable known Plain old at left.0 one)
        (declare_usable known Plain old at right.0 two));
  }

-- ---- behind the start of an operation

-- an instruction that computes in place
module _ (first at : ℕ) (old mid : VProc) (left : ℕ) (target right : VarId) (o : IsOpen mid at)
    (starts : ReadsOperands (length old.vars) at old mid left left target.0)
    (named : right.0 < length old.vars) (low : first ≤ length old.vars)
    (i : VInstr) (only : (u : ℕ) → reads i u ≡ true → (u ≡ target.0) ⊎ (u ≡ right.0))
    (whole : (u : ℕ) → divides i u ≡ false) (writes_it : writes i target.0 ≡ true) where
  pub in_place_publishes : ReadsOperands first at old (with_instr at i mid) left right.0 target.0
  in_place_publishes = record {
    reads = λ known c one two.
        let p = starts.reads known c one one in
        publishes_on known (length old.vars) first first at old mid (with_instr at i mid) target.0
        target.0 low (omega arith) p
        (put_publishes known first at i mid target.0 right.0 target.0 o only whole writes_it
        p.certifies p.result (p.others right.0 named two));
  }

module _ (first at : ℕ) (old mid : VProc) (left : ℕ) (target right : VarId) (o : IsOpen mid at)
    (starts : ReadsOperands (length old.vars) at old mid left left target.0)
    (named : right.0 < length old.vars) (low : first ≤ length old.vars) where
  abbrev Done : VInstr → Type 0
  Done i = ReadsOperands first at old (with_instr at i mid) left right.0 target.0

  by : (i : VInstr) → ((u : ℕ) → reads i u ≡ true → (u ≡ target.0) ⊎ (u ≡ right.0)) →
      ((u : ℕ) → divides i u ≡ false) → writes i target.0 ≡ true → Done i
  by i only whole writes_it = in_place_publishes first at old mid left target right o starts named
      low i only whole writes_it

  pub arithmetic_publishes : (op : ROp) → Done (arithmetic_of op target right)
  arithmetic_publishes Mul = by (instr.Mul target right) (λ u r. is_either target.0 right.0 u r)
      (λ u. refl) (written_in_place target.0)
  arithmetic_publishes Div = by (instr.Add target right) (λ u r. is_either target.0 right.0 u r)
      (λ u. refl) (written_in_place target.0)
  arithmetic_publishes Mod = by (instr.Add target right) (λ u r. is_either target.0 right.0 u r)
      (λ u. refl) (written_in_place target.0)
  arithmetic_publishes Both = by (instr.Add target right) (λ u r. is_either target.0 right.0 u r)
      (λ u. refl) (written_in_place target.0)
  arithmetic_publishes Add = by (instr.Add target right) (λ u r. is_either target.0 right.0 u r)
      (λ u. refl) (written_in_place target.0)
  arithmetic_publishes Sub = by (instr.Sub target right) (λ u r. is_either target.0 right.0 u r)
      (λ u. refl) (written_in_place target.0)
  arithmetic_publishes Either = by (instr.Add target right) (λ u r. is_either target.0 right.0 u r)
      (λ u. refl) (written_in_place target.0)
  arithmetic_publishes Equal = by (instr.Add target right) (λ u r. is_either target.0 right.0 u r)
      (λ u. refl) (written_in_place target.0)
  arithmetic_publishes Unequal = by (instr.Add target right) (λ u r. is_either target.0 right.0 u r)
      (λ u. refl) (written_in_place target.0)
  arithmetic_publishes Less = by (instr.Add target right) (λ u r. is_either target.0 right.0 u r)
      (λ u. refl) (written_in_place target.0)
  arithmetic_publishes LessEqual = by (instr.Add target right)
      (λ u r. is_either target.0 right.0 u r) (λ u. refl) (written_in_place target.0)
  arithmetic_publishes Greater = by (instr.Add target right) (λ u r. is_either target.0 right.0 u r)
      (λ u. refl) (written_in_place target.0)
  arithmetic_publishes GreaterEqual = by (instr.Add target right)
      (λ u r. is_either target.0 right.0 u r) (λ u. refl) (written_in_place target.0)

  pub bitwise_publishes : (op : ROp) → Done (bitwise_of op target right)
  bitwise_publishes Mul = by (instr.Or target right) (λ u r. is_either target.0 right.0 u r)
      (λ u. refl) (written_in_place target.0)
  bitwise_publishes Div = by (instr.Or target right) (λ u r. is_either target.0 right.0 u r)
      (λ u. refl) (written_in_place target.0)
  bitwise_publishes Mod = by (instr.Or target right) (λ u r. is_either target.0 right.0 u r)
      (λ u. refl) (written_in_place target.0)
  bitwise_publishes Both = by (instr.And target right) (λ u r. is_either target.0 right.0 u r)
      (λ u. refl) (written_in_place target.0)
  bitwise_publishes Add = by (instr.Or target right) (λ u r. is_either target.0 right.0 u r)
      (λ u. refl) (written_in_place target.0)
  bitwise_publishes Sub = by (instr.Or target right) (λ u r. is_either target.0 right.0 u r)
      (λ u. refl) (written_in_place target.0)
  bitwise_publishes Either = by (instr.Or target right) (λ u r. is_either target.0 right.0 u r)
      (λ u. refl) (written_in_place target.0)
  bitwise_publishes Equal = by (instr.Or target right) (λ u r. is_either target.0 right.0 u r)
      (λ u. refl) (written_in_place target.0)
  bitwise_publishes Unequal = by (instr.Or target right) (λ u r. is_either target.0 right.0 u r)
      (λ u. refl) (written_in_place target.0)
  bitwise_publishes Less = by (instr.Or target right) (λ u r. is_either target.0 right.0 u r)
      (λ u. refl) (written_in_place target.0)
  bitwise_publishes LessEqual = by (instr.Or target right) (λ u r. is_either target.0 right.0 u r)
      (λ u. refl) (written_in_place target.0)
  bitwise_publishes Greater = by (instr.Or target right) (λ u r. is_either target.0 right.0 u r)
      (λ u. refl) (written_in_place target.0)
  bitwise_publishes GreaterEqual =
      by (instr.Or target right) (λ u r. is_either target.0 right.0 u r) (λ u. refl)
      (written_in_place target.0)

  pub mask_publishes : Done (And target right)
  mask_publishes = by (And target right) (λ u r. is_either target.0 right.0 u r) (λ u. refl)
      (written_in_place target.0)

  pub xor_publishes : Done (Xor target right)
  xor_publishes = by (Xor target right) (λ u r. is_either target.0 right.0 u r) (λ u. refl)
      (written_in_place target.0)

module _ (first at : ℕ) (old mid : VProc) (left : ℕ) (target : VarId) (o : IsOpen mid at)
    (starts : ReadsOperands (length old.vars) at old mid left left target.0)
    (low : first ≤ length old.vars) where
  pub neg_publishes : ReadsOperands first at old (with_instr at (Neg target) mid) left left target.0
  neg_publishes = record {
    reads = λ known c one two.
        let p = starts.reads known c one two in
        publishes_on known (length old.vars) first first at old mid (with_instr at (Neg target) mid)
        target.0 target.0 low (omega arith) p
        (put_publishes known first at (Neg target) mid target.0 target.0 target.0 o
        (λ u r. inl (is_first target.0 u r)) (λ u. refl) (written_in_place target.0) p.certifies
        p.result p.result);
  }

  pub shift_publishes : (op : ShiftOp) (k : ℕ) →
      ReadsOperands first at old (with_instr at (Shift op target k) mid) left left target.0
  shift_publishes op k = record {
    reads = λ known c one two.
        let p = starts.reads known c one two in
        publishes_on known (length old.vars) first first at old mid
        (with_instr at (Shift op target k) mid) target.0 target.0 low (omega arith) p
        (put_publishes known first at (Shift op target k) mid target.0 target.0 target.0 o
        (λ u r. inl (is_first target.0 u r)) (λ u. refl) (written_in_place target.0) p.certifies
        p.result p.result);
  }

-- ---- division

pub check_publishes : (at : ℕ) (old : VProc) (d : VarId) → IsOpen old at →
    ReadsOperands (length old.vars) at old (with_instr at (CheckPos d) old) d.0 d.0 d.0
check_publishes at old d o = record {
  reads = λ known c one two. record {
    certifies = put_certifies known at (CheckPos d) old o c
        (λ u r. ap (usable known old at) (is_first d.0 u r) ∙ one);
    result = put_kept known at (CheckPos d) old o d.0 refl one;
    others = λ u lt is. put_kept known at (CheckPos d) old o u refl is;
  };
}

module _ (at : ℕ) (old : VProc) (q r a d : VarId) (o : IsOpen old at) where
  abbrev one : VProc
  one = with_variable Plain old

  abbrev two : VProc
  two = with_variable Plain one

  two_open : IsOpen two at
  two_open = o

  abbrev i : VInstr
  i = DivMod q r a d

  abbrev divided : VProc
  divided = with_instr at i two

  writes_q : writes (DivMod q r a d) q.0 ≡ true
  writes_q = grind (arith, nat_tests)

  writes_r : writes (DivMod q r a d) r.0 ≡ true
  writes_r = grind (arith, nat_tests)

  not_dividend : (u : ℕ) → u ≢ a.0 → divides (DivMod q r a d) u ≡ false
  not_dividend u n = grind (arith, nat_tests)

  stays_usable : (known : Entries) (u : ℕ) → usable known old at u ≡ true → usable known two at u ≡
      true
  stays_usable known u is = declare_usable known Plain one at u
      (declare_usable known Plain old at u is)

  divide_parts : (known : Entries) → Certifies known old → usable known old at a.0 ≡ true →
      usable known old at d.0 ≡ true → PublishesParts known at old divided a.0 q.0 r.0
  divide_parts known c a_known d_known = record {
    certifies = put_certifies known at i two two_open
        (declare_certifies known Plain one (declare_certifies known Plain old c))
        (λ u x. ⊎_elim
        (λ (e : u ≡ a.0). ap (usable known two at) e ∙ stays_usable known a.0 a_known)
        (λ (e : u ≡ d.0). ap (usable known two at) e ∙ stays_usable known d.0 d_known)
        (is_either a.0 d.0 u x));
    first_part = put_written known at i two two_open q.0 writes_q;
    second_part = put_written known at i two two_open r.0 writes_r;
    others = λ u n is. put_kept known at i two two_open u (not_dividend u n)
        (stays_usable known u is);
  }

  pub divide_reads : ReadsDivision at old divided a.0 d.0 q.0 r.0
  divide_reads = record { reads = divide_parts }

-- ---- ends

module _ (at : ℕ) (old : VProc) (k : Cond) (left right : VarId) (targets : Targets)
    (o : IsOpen old at) where
  abbrev compared : VProc
  compared = with_instr at (Cmp left right) old

  compared_open : IsOpen compared at
  compared_open = put_open at (Cmp left right) old o

  pub branch_publishes : ReadsSides at old
      (with_end at (Branch k targets.holds targets.fails) compared) left.0 right.0 targets
  branch_publishes = record {
    reads = λ known c one two holds fails.
        let kept : (u : ℕ) → usable known old at u ≡ true → usable known compared at u ≡ true =
        λ u is. put_kept known at (Cmp left right) old o u refl is in
        close_certifies known at (Branch k targets.holds targets.fails) compared compared_open
        (put_certifies known at (Cmp left right) old o c (λ u r. ⊎_elim
        (λ (e : u ≡ left.0). ap (usable known old at) e ∙ one)
        (λ (e : u ≡ right.0). ap (usable known old at) e ∙ two)
        (is_either left.0 right.0 u r)))
        (λ t u target is. ⊎_elim
        (λ (e : targets.holds.0 ≡ t). kept u (holds u (ap (λ n. known n u) e ∙ is)))
        (λ (e : targets.fails.0 ≡ t). kept u (fails u (ap (λ n. known n u) e ∙ is)))
        target);
  }

module _ (at : ℕ) (old : VProc) (v target : VarId) (behind : BlockId) (kind : VarKind)
    (o : IsOpen old at) where
  abbrev give : VInstr
  give = first_of kind target v

  abbrev given : VProc
  given = with_instr at (first_of kind target v) old

  given_open : IsOpen given at
  given_open = put_open at (first_of kind target v) old o

  pub close_publishes : PublishesTo at old (with_end at (Jump behind) given) v.0 target.0 behind.0
  close_publishes = record {
    reads = λ known c is expects.
        close_certifies known at (Jump behind) given given_open
        (put_certifies known at give old o c (λ u r. ⊎_elim
        (λ (e : u ≡ v.0). ap (usable known old at) e ∙ is)
        (λ (e : u ≡ v.0). ap (usable known old at) e ∙ is)
        (first_reads kind target v u r)))
        (λ t u e there. ⊎_elim
        (λ (same : u ≡ target.0). ap (usable known given at) same ∙ put_written known at give old o
        target.0 (first_writes kind target v))
        (λ (d : u ≢ target.0). put_kept known at give old o u (first_whole kind target v u)
        (expects u (ap (λ n. known n u) e ∙ there) d))
        (cases_eq u target.0));
  }

module _ (at : ℕ) (old : VProc) (target : VarId) (m : ℤ) (depth : ℕ) (o : IsOpen old at) where
  abbrev with_target : VProc
  with_target = with_variable Plain old

  target_open : IsOpen with_target at
  target_open = o

  abbrev set : VProc
  set = with_instr at (Set target m) with_target

  abbrev opened : VProc
  opened = with_open_block depth set

  set_publishes : (known : Entries) → Certifies known old →
      Publishes known (length old.vars) at old set target.0
  set_publishes known c = record {
    certifies = put_certifies known at (Set target m) with_target target_open
        (declare_certifies known Plain old c) (λ u r. absurd (cc));
    result = put_written known at (Set target m) with_target target_open target.0
        (written_alone target.0);
    others = λ u lt is. put_kept known at (Set target m) with_target target_open u refl
        (declare_usable known Plain old at u is);
  }

  open_publishes : (known : Entries) → Certifies known old →
      Publishes known (length old.vars) at old (with_open_block depth opened) target.0
  open_publishes known c =
      let p = set_publishes known c in
      let same : (u : ℕ) → usable known (with_open_block depth opened) at u ≡
      usable known set at u = λ u. open_usable known depth opened at u
      ∙ open_usable known depth set at u in
      record {
        certifies = open_certifies known depth opened (open_certifies known depth set p.certifies);
        result = same target.0 ∙ p.result;
        others = λ u lt is. same u ∙ p.others u lt is;
      }

  pub open_reads : PublishesNew at old (with_open_block depth opened) target.0
  open_reads = record { reads = open_publishes }

-- ---- the constant 1 and Xor

-- behind one more variable, of any kind
pub behind_declared : (known : Entries) (kind : VarKind) (n at : ℕ) (old new : VProc) (v : ℕ) →
    Publishes known n at (with_variable kind old) new v → Publishes known n at old new v
behind_declared known kind n at old new v p =
    record {
      certifies = p.certifies;
      result = p.result;
      others =
          λ u lt is. p.others u lt (declare_usable known kind old at u is);
    }

-- a new constant may be read
pub new_constant : (known : Entries) (n : ℤ) (at v : ℕ) (old : VProc) → v ≡ length old.vars →
    usable known (with_variable (Constant n) old) at v ≡ true
new_constant known n at v old is_new =
    ap (λ k. is_constant k || readable (known at v) (code_of old at) v)
    (ap (kind_of (with_variable (Constant n) old)) is_new ∙ declared_kind (Constant n) old)

pub inversion_publishes : (first at : ℕ) (old mid : VProc) (operand : ℕ) (target one : VarId) →
    one.0 ≡ length old.vars → IsOpen mid at →
    ReadsOperands (length (with_variable (Constant (pos 1)) old).vars) at
    (with_variable (Constant (pos 1)) old) mid operand operand target.0 → first ≤ length old.vars →
    ReadsOperands first at old (with_instr at (Xor target one) mid) operand operand target.0
inversion_publishes first at old mid operand target one is_new o starts low = record {
  reads = λ known c x y.
      let before : VProc = with_variable (Constant (pos 1)) old in
      let count_before = declared_count (Constant (pos 1)) old in
      behind_declared known (Constant (pos 1)) first at old (with_instr at (Xor target one) mid)
      target.0
      ((xor_publishes first at before mid operand target one o starts
      (omega (arith, is_new, count_before)) (omega (arith, low, count_before))).reads known
      (declare_certifies known (Constant (pos 1)) old c)
      (declare_usable known (Constant (pos 1)) old at operand x)
      (new_constant known (pos 1) at one.0 old is_new));
}
