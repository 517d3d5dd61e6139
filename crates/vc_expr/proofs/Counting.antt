-- How much each change adds.
use Rattle.std.proofs.Common.{◌≡◌, ◌≢◌, ℕ, ◌+◌, ◌<◌, ◌≤◌, Bool, false, [], ◌∷◌, ◌++◌, length, Some}
use Rattle.std.proofs.Common.{sym, ap, ◌∙◌, ⊎_elim, arith, length-append}
use Rattle.std.proofs.lemmas.Bool.{le-leb}
use Rattle.std.specs.Prelude.{ℤ, pos, if◌then◌else◌, slice_get}
use Rattle.std.proofs.lemmas.List.Sums.{sum_by-set, sum_by_push}
use Rattle.pra_base.specs.Code.{no_block, block_of, code_of, kind_of, is_plain}
use Rattle.pra_base.specs.declared.code.VarKind.{VarKind}
use Rattle.pra_base.specs.declared.code.VarKind.TheVariants.{Param, Plain, Constant}
use Rattle.pra_base.specs.declared.code.VInstr.{VInstr}
use Rattle.pra_base.specs.declared.code.End.{End}
use Rattle.pra_base.specs.declared.code.Block.{Block}
use Rattle.pra_base.specs.declared.code.VProc.{VProc}
use Rattle.vc_build.specs.Grow.{IsOpen, open_block, with_instr, with_end, with_open_block}
use Rattle.vc_build.specs.Grow.{with_variable}
use Rattle.vc_build.proofs.Growth.{put_count, put_open, closed_count, opened_count, declared_grows}
use Rattle.vc_expr.specs.Operators.{is_temporary}
use Rattle.vc_expr.specs.Readable.{is_constant}
use Rattle.vc_expr.specs.Counts.{AddsAtMost, start_count, OperationAdds}
use Rattle.vc_expr.proofs.Rules.{get_last}
use Rattle.vc_expr.proofs.Added.{no_param, no_param_constant}

abbrev size : Block → ℕ
size b = length b.code

pub adds_none : (old : VProc) → AddsAtMost 0 0 0 0 old old
adds_none old = record {
  instructions = omega arith;
  locals = omega arith;
  constants = omega arith;
  blocks = omega arith;
  params = λ u k is. is;
}

pub adds_more : (i v c b j w d e : ℕ) (old new : VProc) → i ≤ j → v ≤ w → c ≤ d → b ≤ e →
    AddsAtMost i v c b old new → AddsAtMost j w d e old new
adds_more i v c b j w d e old new p q r s a =
    record {
      instructions = omega (arith, a.instructions, p);
      locals = omega (arith, a.locals, q);
      constants = omega (arith, a.constants, r);
      blocks = omega (arith, a.blocks, s);
      params =
          a.params;
    }

pub adds_on : (i v c b j w d e : ℕ) (old mid new : VProc) → AddsAtMost i v c b old mid →
    AddsAtMost j w d e mid new → AddsAtMost (i + j) (v + w) (c + d) (b + e) old new
adds_on i v c b j w d e old mid new p q = record {
  instructions = omega (arith, p.instructions, q.instructions);
  locals = omega (arith, p.locals, q.locals);
  constants = omega (arith, p.constants, q.constants);
  blocks = omega (arith, p.blocks, q.blocks);
  params = λ u k is. p.params u k (q.params u k is);
}

module _ (at : ℕ) (i : VInstr) (old : VProc) (o : IsOpen old at) where
  abbrev longer : Block
  longer = record {
    depth = (block_of old at).depth;
    code = code_of old at ++ i ∷ [];
    end =
        (block_of old at).end;
  }

  pub put_adds : AddsAtMost 1 0 0 0 old (with_instr at i old)
  put_adds = record {
    instructions = omega (
      arith,
      sum_by-set size old.blocks at longer no_block o.0,
      length-append (code_of old at) (i ∷ []),
    );
    locals = omega arith;
    constants = omega arith;
    blocks = omega (arith, put_count at i old o);
    params = λ u k is. is;
  }

module _ (at : ℕ) (end : End) (old : VProc) (o : IsOpen old at) where
  abbrev ended : Block
  ended = record { depth = (block_of old at).depth; code = code_of old at; end = end }

  pub close_adds : AddsAtMost 0 0 0 0 old (with_end at end old)
  close_adds = record {
    instructions = omega (arith, sum_by-set size old.blocks at ended no_block o.0);
    locals = omega arith;
    constants = omega arith;
    blocks = omega (arith, closed_count at end old o);
    params = λ u k is. is;
  }

pub open_adds : (depth : ℕ) (old : VProc) → AddsAtMost 0 0 0 1 old (with_open_block depth old)
open_adds depth old = record {
  instructions = omega (arith, sum_by_push size old.blocks (open_block depth));
  locals = omega arith;
  constants = omega arith;
  blocks = omega (arith, opened_count depth old);
  params = λ u k is. is;
}

-- ---- behind the start of an operation

temporary_count : (kind : VarKind) (first v : ℕ) → kind ≡ Plain → first ≤ v →
    start_count kind first v ≡ 0
temporary_count kind first v plain le = ap (λ k. start_count k first v) plain
    ∙ ap (λ b. if b then 0 else 1) (le-leb first v le)

pub operation_adds : (first x at : ℕ) (i : VInstr) (old mid : VProc) →
    OperationAdds 0 0 0 first x old mid → IsOpen mid at → OperationAdds 1 0 0 first x old
    (with_instr at i mid)
operation_adds first x at i old mid starts o =
    let p = put_adds at i mid o in
    record {
      instructions = omega (arith, starts.instructions, p.instructions);
      locals =
          omega (arith, starts.locals, p.locals);
      constants =
          omega (arith, starts.constants, p.constants);
      blocks =
          omega (arith, starts.blocks, p.blocks);
      params = λ u k is. starts.params u k
          (p.params u k is);
    }

pub weaker : (i v c j w d first x : ℕ) (old new : VProc) → i ≤ j → v ≤ w → c ≤ d →
    OperationAdds i v c first x old new → OperationAdds j w d first x old new
weaker i v c j w d first x old new p q r a =
    record {
      instructions = omega (arith, a.instructions, p);
      locals = omega (arith, a.locals, q);
      constants = omega (arith, a.constants, r);
      blocks = a.blocks;
      params = a.params;
    }

-- at a temporary there is nothing to start
pub on_temporary : (i v c first x : ℕ) (old new : VProc) → kind_of old x ≡ Plain → first ≤ x →
    OperationAdds i v c first x old new → AddsAtMost i v c 0 old new
on_temporary i v c first x old new plain le a =
    let none : start_count (kind_of old x) first x ≡ 0 =
    temporary_count (kind_of old x) first x plain le in
    record {
      instructions = omega (arith, a.instructions, none);
      locals =
          omega (arith, a.locals, none);
      constants = a.constants;
      blocks = a.blocks;
      params =
          a.params;
    }

pub starts_itself : (old : VProc) (first x : ℕ) → OperationAdds 0 0 0 first x old old
starts_itself old first x =
    record {
      instructions = omega arith;
      locals = omega arith;
      constants = omega arith;
      blocks =
          omega arith;
      params = λ u k is. is;
    }

abbrev one_if : (VarKind → Bool) → VarKind → ℕ
one_if p k = if p k then 1 else 0

no_new : (kind : VarKind) (old : VProc) (u k : ℕ) → ((j : ℕ) → kind ≢ Param j) →
    slice_get (old.vars ++ kind ∷ []) u ≡ Some (Param k) → slice_get old.vars u ≡ Some (Param k)
no_new kind old u k local is = ⊎_elim
    (λ (before : slice_get old.vars u ≡ Some (Param k)). before)
    (λ (last : Param k ≡ kind). absurd (local k (sym last)))
    (get_last old.vars kind u (Param k) is)

pub plain_adds : (old : VProc) → AddsAtMost 0 1 0 0 old (with_variable Plain old)
plain_adds old = record {
  instructions = omega arith;
  locals = omega (arith, sum_by_push (one_if is_plain) old.vars Plain);
  constants = omega (arith, sum_by_push (one_if is_constant) old.vars Plain);
  blocks = omega arith;
  params = λ u k is. no_new Plain old u k no_param is;
}

pub constant_adds : (n : ℤ) (old : VProc) → AddsAtMost 0 0 1 0 old (with_variable (Constant n) old)
constant_adds n old = record {
  instructions = omega arith;
  locals = omega (arith, sum_by_push (one_if is_plain) old.vars (Constant n));
  constants = omega (arith, sum_by_push (one_if is_constant) old.vars (Constant n));
  blocks = omega arith;
  params = λ u k is. no_new (Constant n) old u k (no_param_constant n) is;
}

pub starts_new : (at : ℕ) (i : VInstr) (old : VProc) (first x : ℕ) →
    IsOpen (with_variable Plain old) at → is_temporary (kind_of old x) first x ≡ false →
    OperationAdds 0 0 0 first x old (with_instr at i (with_variable Plain old))
starts_new at i old first x o e =
    let mid : VProc = with_variable Plain old in
    let one : start_count (kind_of old x) first x ≡ 1 = ap (λ b. if b then 0 else 1) e in
    let d = plain_adds old in
    let p = put_adds at i mid o in
    record {
      instructions = omega (arith, d.instructions, p.instructions, one);
      locals =
          omega (arith, d.locals, p.locals, one);
      constants = omega (arith, d.constants, p.constants);
      blocks = omega (arith, d.blocks, p.blocks);
      params =
          λ u k is. d.params u k (p.params u k is);
    }

pub set_adds : (at : ℕ) (i : VInstr) (old : VProc) → IsOpen (with_variable Plain old) at →
    AddsAtMost 1 1 0 0 old (with_instr at i (with_variable Plain old))
set_adds at i old o = adds_on 0 1 0 0 1 0 0 0 old (with_variable Plain old)
    (with_instr at i (with_variable Plain old)) (plain_adds old)
    (put_adds at i (with_variable Plain old) o)

-- ---- the parts of a division

pub divide_adds : (at : ℕ) (i : VInstr) (old : VProc) →
    IsOpen (with_variable Plain (with_variable Plain old)) at →
    AddsAtMost 1 2 0 0 old (with_instr at i (with_variable Plain (with_variable Plain old)))
divide_adds at i old o =
    let one : VProc = with_variable Plain old in
    adds_on 0 1 0 0 1 1 0 0 old one (with_instr at i (with_variable Plain one)) (plain_adds old)
    (set_adds at i one o)

pub split_adds : (old m1 m2 new : VProc) → AddsAtMost 1 0 0 0 old m1 → AddsAtMost 1 2 0 0 m1 m2 →
    AddsAtMost 1 1 0 0 (with_variable (Constant (pos 0)) m2) new → AddsAtMost 3 3 1 0 old new
split_adds old m1 m2 new p q r =
    let z = constant_adds (pos 0) m2 in
    record {
      instructions = omega (arith, p.instructions, q.instructions, z.instructions, r.instructions);
      locals = omega (arith, p.locals, q.locals, z.locals, r.locals);
      constants = omega (arith, p.constants, q.constants, z.constants, r.constants);
      blocks = omega (arith, p.blocks, q.blocks, z.blocks, r.blocks);
      params = λ u k is. p.params u k (q.params u k (z.params u k (r.params u k is)));
    }

pub three_adds : (old m1 m2 new : VProc) → AddsAtMost 1 0 0 0 old m1 → AddsAtMost 1 0 0 0 m1 m2 →
    AddsAtMost 1 0 0 0 m2 new → AddsAtMost 3 0 0 0 old new
three_adds old m1 m2 new p q r = adds_on 1 0 0 0 2 0 0 0 old m1 new p
    (adds_on 1 0 0 0 1 0 0 0 m1 m2 new q r)

pub division_adds : (first x : ℕ) (old m1 m2 new : VProc) (n : ℕ) → n ≤ 3 →
    OperationAdds 0 0 0 first x old m1 → AddsAtMost 3 3 1 0 m1 m2 → AddsAtMost n 0 0 0 m2 new →
    OperationAdds 6 3 1 first x old new
division_adds first x old m1 m2 new n le p q r = record {
  instructions = omega (arith, p.instructions, q.instructions, r.instructions, le);
  locals = omega (arith, p.locals, q.locals, r.locals);
  constants = omega (arith, p.constants, q.constants, r.constants);
  blocks = omega (arith, p.blocks, q.blocks, r.blocks);
  params = λ u k is. p.params u k (q.params u k (r.params u k is));
}

pub relation_adds : (first x : ℕ) (old new : VProc) → AddsAtMost 1 1 0 0 old new →
    OperationAdds 6 3 1 first x old new
relation_adds first x old new p =
    record {
      instructions = omega (arith, p.instructions);
      locals = omega (arith, p.locals);
      constants = omega (arith, p.constants);
      blocks = p.blocks;
      params = p.params;
    }

-- ---- with a constant

pub with_constant : (n : ℤ) (first x : ℕ) (old new : VProc) → x < length old.vars →
    OperationAdds 1 0 0 first x (with_variable (Constant n) old) new →
    OperationAdds 1 0 1 first x old new
with_constant n first x old new named p =
    let z = constant_adds n old in
    let same : start_count (kind_of (with_variable (Constant n) old) x) first x ≡
    start_count (kind_of old x) first x = ap (λ k. start_count k first x)
    ((declared_grows (Constant n) old 0).grows.kinds x named) in
    record {
      instructions = omega (arith, p.instructions, z.instructions, same);
      locals =
          omega (arith, p.locals, z.locals, same);
      constants =
          omega (arith, p.constants, z.constants);
      blocks = omega (arith, p.blocks, z.blocks);
      params = λ u k is. z.params u k (p.params u k is);
    }

pub branch_adds : (n : ℤ) (old new : VProc) → AddsAtMost 1 0 0 0 (with_variable (Constant n) old)
    new → AddsAtMost 1 0 1 0 old new
branch_adds n old new p = adds_on 0 0 1 0 1 0 0 0 old (with_variable (Constant n) old) new
    (constant_adds n old) p

pub put_close_adds : (at : ℕ) (i : VInstr) (end : End) (old : VProc) → IsOpen old at →
    AddsAtMost 1 0 0 0 old (with_end at end (with_instr at i old))
put_close_adds at i end old o = adds_on 1 0 0 0 0 0 0 0 old (with_instr at i old)
    (with_end at end (with_instr at i old)) (put_adds at i old o)
    (close_adds at end (with_instr at i old) (put_open at i old o))

pub choice_adds : (at : ℕ) (i : VInstr) (depth : ℕ) (old : VProc) →
    IsOpen (with_variable Plain old) at →
    AddsAtMost 1 1 0 2 old (with_open_block depth
    (with_open_block depth (with_instr at i (with_variable Plain old))))
choice_adds at i depth old o =
    let set : VProc = with_instr at i (with_variable Plain old) in
    let one : VProc = with_open_block depth set in
    adds_on 1 1 0 0 0 0 0 2 old set (with_open_block depth one) (set_adds at i old o)
    (adds_on 0 0 0 1 0 0 0 1 set one (with_open_block depth one) (open_adds depth set)
    (open_adds depth one))
