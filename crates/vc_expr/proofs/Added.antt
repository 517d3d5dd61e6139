-- What the code of operators and signs adds keeps the rules.
use Rattle.std.proofs.Common.{◌≡◌, ◌≢◌, ℕ, ◌-◌, ◌<◌, true, List, [], ◌∷◌, ◌++◌, length, Some, refl}
use Rattle.std.proofs.Common.{sym, ap, ◌∙◌, ⊎_elim, ◌≤◌, arith, length-append}
use Rattle.std.specs.Prelude.{ℤ, pos, slice_get}
use Rattle.std.proofs.Math.Seq.{get_or-append_seam}
use Rattle.std.proofs.lemmas.Option.{slice_get-get_or}
use Rattle.pra_base.specs.Code.{kind_of, code_of}
use Rattle.pra_base.specs.Valid.{EndsWithCmp}
use Rattle.pra_base.specs.declared.ids.BlockId.{BlockId}
use Rattle.pra_base.specs.declared.ids.Cond.{Cond}
use Rattle.pra_base.specs.declared.ids.VarId.{VarId}
use Rattle.pra_base.specs.declared.code.VarKind.{VarKind}
use Rattle.pra_base.specs.declared.code.VarKind.TheVariants.{Param, Plain, Constant}
use Rattle.pra_base.specs.declared.code.VInstr.{VInstr}
use Rattle.pra_base.specs.declared.code.VInstr.TheVariants.{Cmp, CmpSet, DivMod, CheckPos, Neg, Xor}
use Rattle.pra_base.specs.declared.code.VInstr.TheVariants.{Shift}
use Rattle.pra_base.specs.declared.ids.ShiftOp.{ShiftOp}
use Rattle.pra_base.specs.declared.code.VInstr.TheVariants.{And, Set}
use Rattle.pra_base.specs.declared.code.End.TheVariants.{Jump, Branch}
use Rattle.pra_base.specs.declared.code.VProc.{VProc}
use Rattle.ob_syntax.specs.declared.checked.ROp.{ROp}
use Rattle.ob_syntax.specs.declared.checked.ROp.TheVariants.{Mul, Div, Mod, Both, Add, Sub, Either}
use Rattle.ob_syntax.specs.declared.checked.ROp.TheVariants.{Equal, Unequal, Less, LessEqual}
use Rattle.ob_syntax.specs.declared.checked.ROp.TheVariants.{Greater, GreaterEqual}
use Rattle.vc_build.specs.Grow.{count, IsOpen, with_instr, with_end, with_open_block, with_variable}
use Rattle.vc_build.proofs.Growth.{put_code, put_count, put_open, declared_kind, declared_count}
use Rattle.vc_build.proofs.Growth.{declared_grows}
use Rattle.vc_expr.specs.Operators.{first_of, arithmetic_of, bitwise_of, Adds}
use Rattle.vc_expr.specs.Rules.{Obeys, is_simple, StaysValid}
use Rattle.vc_expr.proofs.Rules.{put_rules, close_rules, open_rules, declare_rules}
use Rattle.vc_expr.proofs.Obeys.{obeys_add, obeys_sub, obeys_mul, obeys_and, obeys_or, obeys_xor}
use Rattle.vc_expr.proofs.Obeys.{obeys_neg, obeys_shift, obeys_set, obeys_copy, obeys_cmp}
use Rattle.vc_expr.proofs.Obeys.{obeys_cmp_set, obeys_check_pos, obeys_divide}

-- one more change behind others
pub put_valid : (at : ℕ) (i : VInstr) (old mid : VProc) → IsOpen mid at → StaysValid old mid →
    Obeys mid.args mid.vars i → is_simple i ≡ true → StaysValid old (with_instr at i mid)
put_valid at i old mid o valid obeys simple =
    record { stays = λ counts k. put_rules counts at i mid o (valid.stays counts k) obeys simple }

pub no_param : (n : ℕ) → Plain ≢ Param n
no_param n e = cc

pub no_param_constant : (c : ℤ) (n : ℕ) → Constant c ≢ Param n
no_param_constant c n e = cc

pub plain_valid : (old mid : VProc) → StaysValid old mid → StaysValid old (with_variable Plain mid)
plain_valid old mid valid =
    record { stays = λ counts k. declare_rules counts Plain mid no_param (valid.stays counts k) }

pub constant_valid : (c : ℤ) (old mid : VProc) → StaysValid old mid →
    StaysValid old (with_variable (Constant c) mid)
constant_valid c old mid valid =
    record {
      stays = λ counts k. declare_rules counts (Constant c) mid (no_param_constant c)
          (valid.stays counts k);
    }

pub same_valid : (old : VProc) → StaysValid old old
same_valid old = record { stays = λ counts k. k }

pub valid_on : (a b c : VProc) → StaysValid a b → StaysValid b c → StaysValid a c
valid_on a b c p q = record { stays = λ counts k. q.stays counts (p.stays counts k) }

-- ---- what gives a variable an operand's value

first_simple : (kind : VarKind) (target v : VarId) → is_simple (first_of kind target v) ≡ true
first_simple (Constant n) target v = refl
first_simple Plain target v = refl
first_simple (Param k) target v = refl

no_constant_param : (k : ℕ) (n : ℤ) → Param k ≡ Constant n → ⊥
no_constant_param k n e = cc

no_constant_plain : (n : ℤ) → Plain ≡ Constant n → ⊥
no_constant_plain n e = cc

pub first_obeys : (code : VProc) (kind : VarKind) (target v : VarId) → kind_of code v.0 ≡ kind →
    kind_of code target.0 ≡ Plain → target.0 < length code.vars → v.0 < length code.vars →
    target.0 ≢ v.0 → Obeys code.args code.vars (first_of kind target v)
first_obeys code (Constant n) target v is plain there named apart =
    obeys_set code.args code.vars target n plain there
first_obeys code Plain target v is plain there named apart =
    obeys_copy code.args code.vars target v plain there named apart
    (λ n e. no_constant_plain n (sym is ∙ e))
first_obeys code (Param k) target v is plain there named apart =
    obeys_copy code.args code.vars target v plain there named apart
    (λ n e. no_constant_param k n (sym is ∙ e))

module _ (at : ℕ) (old : VProc) (v target : VarId) (o : IsOpen old at)
    (named : v.0 < length old.vars) (number : target.0 ≡ length old.vars) where
  abbrev mid : VProc
  mid = with_variable Plain old

  mid_open : IsOpen mid at
  mid_open = o

  there : target.0 < length mid.vars
  there = omega (arith, number, declared_count Plain old)

  plain : kind_of mid target.0 ≡ Plain
  plain = ap (kind_of mid) number ∙ declared_kind Plain old

  pub start_valid : (kind : VarKind) → kind_of old v.0 ≡ kind →
      StaysValid old (with_instr at (first_of kind target v) mid)
  start_valid kind is =
      put_valid at (first_of kind target v) old mid mid_open (plain_valid old old (same_valid old))
      (first_obeys mid kind target v ((declared_grows Plain old at).grows.kinds v.0 named ∙ is)
      plain there (omega (arith, named, declared_count Plain old))
      (λ e. omega (arith, e, number, named)))
      (first_simple kind target v)

  -- a relation, between variables that the code had
  pub relation_valid : (k : Cond) (right : VarId) → right.0 < length old.vars →
      StaysValid old (with_instr at (CmpSet k target v right) mid)
  relation_valid k right r_named =
      put_valid at (CmpSet k target v right) old mid mid_open (plain_valid old old (same_valid old))
      (obeys_cmp_set mid.args mid.vars k target v right plain there
      (omega (arith, named, declared_count Plain old))
      (omega (arith, r_named, declared_count Plain old)) (λ e. omega (arith, e, number, named))
      (λ e. omega (arith, e, number, r_named)))
      refl

-- ---- behind the start of an operation

module _ (first at : ℕ) (old mid : VProc) (target right : VarId)
    (a : Adds first at old mid target.0) (valid : StaysValid old mid)
    (named : right.0 < length mid.vars) where
  arithmetic_obeys : (op : ROp) → Obeys mid.args mid.vars (arithmetic_of op target right)
  arithmetic_obeys Mul = obeys_mul mid.args mid.vars target right a.plain a.named named
  arithmetic_obeys Sub = obeys_sub mid.args mid.vars target right a.plain a.named named
  arithmetic_obeys Add = obeys_add mid.args mid.vars target right a.plain a.named named
  arithmetic_obeys Div = obeys_add mid.args mid.vars target right a.plain a.named named
  arithmetic_obeys Mod = obeys_add mid.args mid.vars target right a.plain a.named named
  arithmetic_obeys Both = obeys_add mid.args mid.vars target right a.plain a.named named
  arithmetic_obeys Either = obeys_add mid.args mid.vars target right a.plain a.named named
  arithmetic_obeys Equal = obeys_add mid.args mid.vars target right a.plain a.named named
  arithmetic_obeys Unequal = obeys_add mid.args mid.vars target right a.plain a.named named
  arithmetic_obeys Less = obeys_add mid.args mid.vars target right a.plain a.named named
  arithmetic_obeys LessEqual = obeys_add mid.args mid.vars target right a.plain a.named named
  arithmetic_obeys Greater = obeys_add mid.args mid.vars target right a.plain a.named named
  arithmetic_obeys GreaterEqual = obeys_add mid.args mid.vars target right a.plain a.named named

  arithmetic_simple : (op : ROp) → is_simple (arithmetic_of op target right) ≡ true
  arithmetic_simple Mul = refl
  arithmetic_simple Sub = refl
  arithmetic_simple Add = refl
  arithmetic_simple Div = refl
  arithmetic_simple Mod = refl
  arithmetic_simple Both = refl
  arithmetic_simple Either = refl
  arithmetic_simple Equal = refl
  arithmetic_simple Unequal = refl
  arithmetic_simple Less = refl
  arithmetic_simple LessEqual = refl
  arithmetic_simple Greater = refl
  arithmetic_simple GreaterEqual = refl

  bitwise_obeys : (op : ROp) → Obeys mid.args mid.vars (bitwise_of op target right)
  bitwise_obeys Both = obeys_and mid.args mid.vars target right a.plain a.named named
  bitwise_obeys Mul = obeys_or mid.args mid.vars target right a.plain a.named named
  bitwise_obeys Sub = obeys_or mid.args mid.vars target right a.plain a.named named
  bitwise_obeys Add = obeys_or mid.args mid.vars target right a.plain a.named named
  bitwise_obeys Div = obeys_or mid.args mid.vars target right a.plain a.named named
  bitwise_obeys Mod = obeys_or mid.args mid.vars target right a.plain a.named named
  bitwise_obeys Either = obeys_or mid.args mid.vars target right a.plain a.named named
  bitwise_obeys Equal = obeys_or mid.args mid.vars target right a.plain a.named named
  bitwise_obeys Unequal = obeys_or mid.args mid.vars target right a.plain a.named named
  bitwise_obeys Less = obeys_or mid.args mid.vars target right a.plain a.named named
  bitwise_obeys LessEqual = obeys_or mid.args mid.vars target right a.plain a.named named
  bitwise_obeys Greater = obeys_or mid.args mid.vars target right a.plain a.named named
  bitwise_obeys GreaterEqual = obeys_or mid.args mid.vars target right a.plain a.named named

  bitwise_simple : (op : ROp) → is_simple (bitwise_of op target right) ≡ true
  bitwise_simple Both = refl
  bitwise_simple Mul = refl
  bitwise_simple Sub = refl
  bitwise_simple Add = refl
  bitwise_simple Div = refl
  bitwise_simple Mod = refl
  bitwise_simple Either = refl
  bitwise_simple Equal = refl
  bitwise_simple Unequal = refl
  bitwise_simple Less = refl
  bitwise_simple LessEqual = refl
  bitwise_simple Greater = refl
  bitwise_simple GreaterEqual = refl

  pub arithmetic_valid : (op : ROp) →
      StaysValid old (with_instr at (arithmetic_of op target right) mid)
  arithmetic_valid op = put_valid at (arithmetic_of op target right) old mid a.is_open valid
      (arithmetic_obeys op) (arithmetic_simple op)

  pub bitwise_valid : (op : ROp) → StaysValid old (with_instr at (bitwise_of op target right) mid)
  bitwise_valid op = put_valid at (bitwise_of op target right) old mid a.is_open valid
      (bitwise_obeys op) (bitwise_simple op)

  pub mask_valid : StaysValid old (with_instr at (And target right) mid)
  mask_valid = put_valid at (And target right) old mid a.is_open valid
      (obeys_and mid.args mid.vars target right a.plain a.named named) refl

  pub xor_valid : StaysValid old (with_instr at (Xor target right) mid)
  xor_valid = put_valid at (Xor target right) old mid a.is_open valid
      (obeys_xor mid.args mid.vars target right a.plain a.named named) refl

  pub neg_valid : StaysValid old (with_instr at (Neg target) mid)
  neg_valid = put_valid at (Neg target) old mid a.is_open valid
      (obeys_neg mid.args mid.vars target a.plain a.named) refl

  pub shift_valid : (op : ShiftOp) (k : ℕ) → 1 ≤ k → k ≤ 31 →
      StaysValid old (with_instr at (Shift op target k) mid)
  shift_valid op k low high = put_valid at (Shift op target k) old mid a.is_open valid
      (obeys_shift mid.args mid.vars op target k low high a.plain a.named) refl

-- ---- division

pub check_valid : (at : ℕ) (old : VProc) (d : VarId) → IsOpen old at → d.0 < length old.vars →
    StaysValid old (with_instr at (CheckPos d) old)
check_valid at old d o named = put_valid at (CheckPos d) old old o (same_valid old)
    (obeys_check_pos old.args old.vars d named) refl

module _ (at : ℕ) (old : VProc) (q r a d : VarId) (o : IsOpen old at)
    (q_new : q.0 ≡ length old.vars) (r_new : r.0 ≡ length (with_variable Plain old).vars)
    (a_named : a.0 < length old.vars) (d_named : d.0 < length old.vars)
    (a_plain : kind_of old a.0 ≡ Plain) (apart : a.0 ≢ d.0) where
  abbrev one : VProc
  one = with_variable Plain old

  abbrev two : VProc
  two = with_variable Plain one

  two_open : IsOpen two at
  two_open = o

  q_plain : kind_of two q.0 ≡ Plain
  q_plain =
      let lt : q.0 < length one.vars = omega (arith, q_new, declared_count Plain old) in
      (declared_grows Plain one at).grows.kinds q.0 lt ∙ ap (kind_of one) q_new
      ∙ declared_kind Plain old

  r_plain : kind_of two r.0 ≡ Plain
  r_plain = ap (kind_of two) r_new ∙ declared_kind Plain one

  a_stays : kind_of two a.0 ≡ Plain
  a_stays =
      let lt : a.0 < length one.vars = omega (arith, a_named, declared_count Plain old) in
      (declared_grows Plain one at).grows.kinds a.0 lt ∙ (declared_grows Plain old at).grows.kinds
      a.0 a_named ∙ a_plain

  pub divide_valid : StaysValid old (with_instr at (DivMod q r a d) two)
  divide_valid =
      put_valid at (DivMod q r a d) old two two_open
      (plain_valid old one (plain_valid old old (same_valid old)))
      (obeys_divide two.args two.vars q r a d q_plain r_plain a_stays
      (omega (arith, q_new, declared_count Plain old, declared_count Plain one))
      (omega (arith, q_new, r_new, declared_count Plain old, declared_count Plain one))
      (omega (arith, a_named, q_new)) (omega (arith, d_named, q_new))
      (omega (arith, q_new, r_new, declared_count Plain old)) apart)
      refl

-- ---- ends

last_there : (xs : List VInstr) (i : VInstr) →
    slice_get (xs ++ i ∷ []) (length (xs ++ i ∷ []) - 1) ≡ Some i
last_there xs i =
    let e : length (xs ++ i ∷ []) - 1 ≡ length xs = omega (arith, length-append xs (i ∷ [])) in
    ap (slice_get (xs ++ i ∷ [])) e
    ∙ slice_get-get_or (xs ++ i ∷ []) (length xs) i (omega (arith, length-append xs (i ∷ [])))
    ∙ ap Some (get_or-append_seam xs i [] i)

module _ (at : ℕ) (old : VProc) (k : Cond) (left right : VarId) (one other : BlockId)
    (o : IsOpen old at) (l_named : left.0 < length old.vars) (r_named : right.0 < length old.vars)
    (one_there : one.0 < count old) (other_there : other.0 < count old) (one_some : 0 < one.0)
    (other_some : 0 < other.0) where
  abbrev compared : VProc
  compared = with_instr at (Cmp left right) old

  compared_open : IsOpen compared at
  compared_open = put_open at (Cmp left right) old o

  compared_last : EndsWithCmp (code_of compared at)
  compared_last = (
    left,
    right,
    ap (λ l. slice_get l (length l - 1))
        (put_code at (Cmp left right) old o) ∙ last_there (code_of old at) (Cmp left right),
  )

  pub branch_valid : StaysValid old (with_end at (Branch k one other) compared)
  branch_valid = record {
    stays = λ counts rules. close_rules counts at (Branch k one other) compared compared_open
        ((put_valid at (Cmp left right) old old o (same_valid old)
        (obeys_cmp old.args old.vars left right l_named r_named) refl).stays counts rules)
        (record {
          targets = λ t e. ⊎_elim
              (λ (x : one.0 ≡ t). (
                omega (arith, x, one_some),
                omega (arith, x, one_there, put_count at (Cmp left right) old o),
              ))
              (λ (x : other.0 ≡ t). (
                omega (arith, x, other_some),
                omega (arith, x, other_there, put_count at (Cmp left right) old o),
              ))
              e;
          compared = λ c x y e. compared_last;
          goes_on = λ e. absurd (cc);
        });
  }

module _ (at : ℕ) (old : VProc) (v target : VarId) (behind : BlockId) (kind : VarKind)
    (is : kind_of old v.0 ≡ kind) (o : IsOpen old at) (named : v.0 < length old.vars)
    (t_named : target.0 < length old.vars) (plain : kind_of old target.0 ≡ Plain)
    (there : behind.0 < count old) (some : 0 < behind.0) (apart : target.0 ≢ v.0) where
  abbrev given : VProc
  given = with_instr at (first_of kind target v) old

  given_open : IsOpen given at
  given_open = put_open at (first_of kind target v) old o

  pub close_valid : StaysValid old (with_end at (Jump behind) given)
  close_valid = record {
    stays = λ counts rules. close_rules counts at (Jump behind) given given_open
        ((put_valid at (first_of kind target v) old old o (same_valid old)
        (first_obeys old kind target v is plain t_named named apart)
        (first_simple kind target v)).stays counts rules)
        (record {
          targets = λ t e. (
            omega (arith, e, some),
            omega (arith, e, there, put_count at (first_of kind target v) old o),
          );
          compared = λ c x y e. absurd (cc);
          goes_on = λ e. absurd (cc);
        });
  }

module _ (at : ℕ) (old : VProc) (target : VarId) (n : ℤ) (depth : ℕ) (o : IsOpen old at)
    (number : target.0 ≡ length old.vars) where
  abbrev declared : VProc
  declared = with_variable Plain old

  declared_open : IsOpen declared at
  declared_open = o

  pub open_valid : StaysValid old
      (with_open_block depth (with_open_block depth (with_instr at (Set target n) declared)))
  open_valid = record {
    stays = λ counts rules.
        open_rules counts depth (with_open_block depth (with_instr at (Set target n) declared))
        (open_rules counts depth (with_instr at (Set target n) declared)
        ((put_valid at (Set target n) old declared declared_open
        (plain_valid old old (same_valid old))
        (obeys_set declared.args declared.vars target n
        (ap (kind_of declared) number ∙ declared_kind Plain old)
        (omega (arith, number, declared_count Plain old))) refl).stays counts rules));
  }

-- ---- the constant 1 and Xor

pub inversion_valid : (first at : ℕ) (old mid : VProc) (target one : VarId) →
    one.0 ≡ length old.vars → Adds first at (with_variable (Constant (pos 1)) old) mid target.0 →
    StaysValid (with_variable (Constant (pos 1)) old) mid →
    StaysValid old (with_instr at (Xor target one) mid)
inversion_valid first at old mid target one is_new adds valid =
    valid_on old (with_variable (Constant (pos 1)) old) (with_instr at (Xor target one) mid)
    (constant_valid (pos 1) old old (same_valid old))
    (xor_valid first at (with_variable (Constant (pos 1)) old) mid target one adds valid
    (omega (arith, is_new, declared_count (Constant (pos 1)) old, adds.grows.grows.vars)))
