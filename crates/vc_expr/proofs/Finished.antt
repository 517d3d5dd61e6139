-- Code that keeps the rules and has a certificate, and whose last block is left by Return, is
-- valid.
use Rattle.std.proofs.Common.{◌≡◌, ◌≢◌, ℕ, suc, ◌<◌, ◌≤◌, Bool, true, false, List, [], ◌∷◌, Some}
use Rattle.std.proofs.Common.{refl, sym, ap, ◌∙◌, subst, ⊎_elim, ◌⊎◌, inl, inr, arith}
use Rattle.std.specs.Prelude.{slice_get}
use Rattle.std.proofs.lemmas.Bool.{cases_eq, cases_lt}
use Rattle.std.proofs.lemmas.List.{get_or-set_other, get_or_past}
use Rattle.pra_base.specs.Code.{no_block, kind_of, block_of, code_of, end_of, IsTarget}
use Rattle.pra_base.specs.Live.{LiveAs, Live}
use Rattle.pra_base.specs.Valid.{EntryBlock, LastReturn, CmpBeforeBranch, EndsWithCmp}
use Rattle.pra_base.specs.Valid.{DivisionApart, PushesLead, TakesAny, TakesArgs, KeepsBlockRules}
use Rattle.pra_base.specs.Valid.{IsValid}
use Rattle.pra_base.specs.declared.ids.BlockId.{BlockId}
use Rattle.pra_base.specs.declared.ids.Cond.{Cond}
use Rattle.pra_base.specs.declared.ids.VarId.{VarId}
use Rattle.pra_base.specs.declared.code.VarKind.{VarKind}
use Rattle.pra_base.specs.declared.code.VarKind.TheVariants.{Param, Plain, Constant}
use Rattle.pra_base.specs.declared.code.VInstr.{VInstr}
use Rattle.pra_base.specs.declared.code.VInstr.TheVariants.{Set, Copy, Add, Sub, And, Or, Xor, Mul}
use Rattle.pra_base.specs.declared.code.VInstr.TheVariants.{Neg, Shift, Cmp, CmpSet, DivMod, Check}
use Rattle.pra_base.specs.declared.code.VInstr.TheVariants.{CheckPos, Load, Store, Push, Call, Read}
use Rattle.pra_base.specs.declared.code.VInstr.TheVariants.{Write, Line, Clear}
use Rattle.pra_base.specs.declared.code.VInstr.TheVariants as instr
use Rattle.pra_base.specs.declared.code.End.TheVariants.{Branch, Return}
use Rattle.pra_base.specs.declared.code.Block.{Block}
use Rattle.pra_base.specs.declared.code.VProc.{VProc}
use Rattle.vc_build.specs.Grow.{count, stand_in, with_end}
use Rattle.vc_build.proofs.Open.{return_real}
use Rattle.vc_build.proofs.Growth.{closed_block, closed_count}
use Rattle.vc_expr.specs.Rules.{ClosesWell, KeepsRules, IsComplete}
use Rattle.vc_expr.specs.Readable.{Entries, Certifies, IsClosed}
use Rattle.vc_expr.proofs.Rules.{code_past, nothing_there}
use Rattle.vc_expr.proofs.Certificates.{close_certifies}
use Rattle.vc_expr.proofs.Unread.{entry_unread, dividend_dead}

-- calls that take what they take, take something
lead_any : (counts : List ℕ) (xs : List VInstr) (n : ℕ) → PushesLead (TakesArgs counts) n xs →
    PushesLead TakesAny n xs
lead_any counts [] n p = p
lead_any counts (Push u ∷ xs) n p = lead_any counts xs (suc n) p
lead_any counts (Call u ∷ xs) n p = (tt, lead_any counts xs 0 p.1)
lead_any counts (Set v m ∷ xs) n p = (p.0, lead_any counts xs 0 p.1)
lead_any counts (Copy v s ∷ xs) n p = (p.0, lead_any counts xs 0 p.1)
lead_any counts (Add v s ∷ xs) n p = (p.0, lead_any counts xs 0 p.1)
lead_any counts (Sub v s ∷ xs) n p = (p.0, lead_any counts xs 0 p.1)
lead_any counts (And v s ∷ xs) n p = (p.0, lead_any counts xs 0 p.1)
lead_any counts (Or v s ∷ xs) n p = (p.0, lead_any counts xs 0 p.1)
lead_any counts (Xor v s ∷ xs) n p = (p.0, lead_any counts xs 0 p.1)
lead_any counts (Mul v s ∷ xs) n p = (p.0, lead_any counts xs 0 p.1)
lead_any counts (Neg v ∷ xs) n p = (p.0, lead_any counts xs 0 p.1)
lead_any counts (Shift op v m ∷ xs) n p = (p.0, lead_any counts xs 0 p.1)
lead_any counts (Cmp a c ∷ xs) n p = (p.0, lead_any counts xs 0 p.1)
lead_any counts (CmpSet k v a c ∷ xs) n p = (p.0, lead_any counts xs 0 p.1)
lead_any counts (DivMod q r a d ∷ xs) n p = (p.0, lead_any counts xs 0 p.1)
lead_any counts (Check v m ∷ xs) n p = (p.0, lead_any counts xs 0 p.1)
lead_any counts (CheckPos v ∷ xs) n p = (p.0, lead_any counts xs 0 p.1)
lead_any counts (Load v a ∷ xs) n p = (p.0, lead_any counts xs 0 p.1)
lead_any counts (Store a s ∷ xs) n p = (p.0, lead_any counts xs 0 p.1)
lead_any counts (instr.Addr v a ∷ xs) n p = (p.0, lead_any counts xs 0 p.1)
lead_any counts (Read v ∷ xs) n p = (p.0, lead_any counts xs 0 p.1)
lead_any counts (Write s ∷ xs) n p = (p.0, lead_any counts xs 0 p.1)
lead_any counts (Line ∷ xs) n p = (p.0, lead_any counts xs 0 p.1)
lead_any counts (Clear ∷ xs) n p = (p.0, lead_any counts xs 0 p.1)

module _ (counts : List ℕ) (known : Entries) (code : VProc) (last : ℕ) (k : KeepsRules counts code)
    (c : Certifies known code) (complete : IsComplete code last)
    (entry : (v : ℕ) → known 0 v ≡ true → (i : ℕ) × (kind_of code v ≡ Param i)) where
  abbrev whole : VProc
  whole = with_end last Return code

  abbrev ended : Block
  ended = record { depth = (block_of code last).depth; code = code_of code last; end = Return }

  last_block : block_of whole last ≡ ended
  last_block = closed_block last Return code complete.is_open

  same_count : count whole ≡ count code
  same_count = closed_count last Return code complete.is_open

  other : (b : ℕ) → b ≢ last → block_of whole b ≡ block_of code b
  other b d = get_or-set_other code.blocks last b ended no_block d

  same_code : (b : ℕ) → code_of whole b ≡ code_of code b
  same_code b = ⊎_elim
      (λ (e : b ≡ last). ap (code_of whole) e ∙ ap (λ x. x.code) last_block ∙ ap (code_of code)
      (sym e))
      (λ (d : b ≢ last). ap (λ x. x.code) (other b d))
      (cases_eq b last)

  -- a block before the last one
  well : (b : ℕ) → b < last → ClosesWell (count code) (block_of code b)
  well b lt = ⊎_elim
      (λ (e : (block_of code b).end ≡ stand_in). absurd (complete.closed b lt e))
      (λ (w : ClosesWell (count code) (block_of code b)). w)
      (k.ends b (omega (arith, lt, complete.count)))

  end_before : (b : ℕ) → b < last → end_of whole b ≡ end_of code b
  end_before b lt = ap (λ x. x.end) (other b (λ e. omega (arith, e, lt)))

  end_last : (b : ℕ) → b ≡ last → end_of whole b ≡ Return
  end_last b e = ap (end_of whole) e ∙ ap (λ x. x.end) last_block

  before_or_last : (b : ℕ) → b < count code → (b < last) ⊎ (b ≡ last)
  before_or_last b lt = ⊎_elim
      (λ (e : b ≡ last). inr e)
      (λ (d : b ≢ last). inl (omega (arith, lt, d, complete.count)))
      (cases_eq b last)

  targets : (b t : ℕ) → b < count code → IsTarget (end_of whole b) t → (0 < t) × (t < count code)
  targets b t lt target = ⊎_elim
      (λ (l : b < last). (well b l).targets t (subst (λ e. IsTarget e t) (end_before b l) target))
      (λ (e : b ≡ last). absurd (no_target t (subst (λ x. IsTarget x t) (end_last b e) target)))
      (before_or_last b lt)
    where
      no_target : (t : ℕ) → IsTarget Return t → ⊥
      no_target t x = x

  entry_block : EntryBlock whole.blocks
  entry_block = record {
    there = omega (arith, same_count, complete.count);
    no_target = λ b lt target. omega
        (arith, (targets b 0 (omega (arith, lt, same_count)) target).0);
  }

  return_ends : (b : ℕ) → b < count code → end_of whole b ≡ Return → suc b ≡ count whole
  return_ends b lt e = ⊎_elim
      (λ (l : b < last). absurd ((well b l).goes_on (sym (end_before b l) ∙ e)))
      (λ (is : b ≡ last). omega (arith, is, same_count, complete.count))
      (before_or_last b lt)

  last_return : LastReturn whole.blocks
  last_return = record {
    there = omega (arith, same_count, complete.count);
    exactly = λ b lt. (
      return_ends b (omega (arith, lt, same_count)),
      λ e. end_last b (omega (arith, e, same_count, complete.count)),
    );
  }

  compared : CmpBeforeBranch whole.blocks
  compared b condition one two e = ⊎_elim
      (λ (lt : b < count code). ⊎_elim
      (λ (l : b < last). subst EndsWithCmp (sym (same_code b))
      ((well b l).compared condition one two (sym (end_before b l) ∙ e)))
      (λ (is : b ≡ last). absurd (no_branch condition one two (sym (end_last b is) ∙ e)))
      (before_or_last b lt))
      (λ (le : count code ≤ b).
      absurd (no_stand_in condition one two
      (sym (ap (λ x. x.end) (get_or_past whole.blocks b no_block
      (omega (arith, le, same_count)))) ∙ e)))
      (cases_lt b (count code))
    where
      no_branch : (condition : Cond) (one two : BlockId) → Return ≡ Branch condition one two → ⊥
      no_branch condition one two e = cc

      no_stand_in : (condition : Cond) (one two : BlockId) → stand_in ≡ Branch condition one two → ⊥
      no_stand_in condition one two e = cc

  was : (b n : ℕ) (i : VInstr) → slice_get (code_of whole b) n ≡ Some i →
      slice_get (code_of code b) n ≡ Some i
  was b n i is = ap (λ l. slice_get l n) (sym (same_code b)) ∙ is

  block_rules : KeepsBlockRules whole.aggregates whole.blocks
  block_rules = record {
    last_return = last_return;
    cmp_before_branch = compared;
    pushes_before_calls = λ b. subst (PushesLead TakesAny 0) (sym (same_code b))
        (lead_any counts (code_of code b) 0 (k.pushes_before_calls b));
    clear_first = λ b n. (
      λ is. (k.clear_first b n).0 (was b n Clear is),
      λ p. ap (λ l. slice_get l n) (same_code b) ∙ (k.clear_first b n).1 p,
    );
    check_range = λ b n i is. (k.obeys b n i (was b n i is)).check_range;
    shift_range = λ b n i is. (k.obeys b n i (was b n i is)).shift_range;
  }

  certified : Certifies known whole
  certified = close_certifies known last Return code complete.is_open c
      (λ t v target. absurd (target))

  closed : IsClosed whole
  closed b lt = (
    real,
    λ t target. omega
        (arith, (targets b t (omega (arith, lt, same_count)) target).1, same_count),
  )
    where
      real : end_of whole b ≢ stand_in
      real e = ⊎_elim
          (λ (l : b < last). complete.closed b l (sym (end_before b l) ∙ e))
          (λ (is : b ≡ last). return_real (sym (end_last b is) ∙ e))
          (before_or_last b (omega (arith, lt, same_count)))

  is_block : (b n : ℕ) (i : VInstr) → slice_get (code_of whole b) n ≡ Some i → b < count whole
  is_block b n i e = ⊎_elim
      (λ (lt : b < count whole). lt)
      (λ (le : count whole ≤ b).
      absurd (nothing_there n i (ap (λ l. slice_get l n) (sym (code_past whole b le)) ∙ e)))
      (cases_lt b (count whole))

  divisions : DivisionApart whole
  divisions b n q r a d here =
      let w = (k.obeys b n (DivMod q r a d) (was b n (DivMod q r a d) here)).division_apart q r a d
      refl in
      record {
        q_r = w.q_r;
        q_a = w.q_a;
        q_d = w.q_d;
        r_a = w.r_a;
        r_d = w.r_d;
        a_d = w.a_d;
        dead = dividend_dead known whole b n q r a d certified closed
            (is_block b n (DivMod q r a d) here) w.plain (λ e. w.q_a (same_id q a (sym e)))
            (λ e. w.r_a (same_id r a (sym e))) here;
      }
    where
      same_id : (x y : VarId) → x.0 ≡ y.0 → x ≡ y
      same_id x y e = ap (λ n. record { 0 = n }) e

  live_kind : (v : ℕ) (kind : VarKind) → kind_of code v ≡ kind → Live whole v 0 0 → (i : ℕ) ×
      (kind_of whole v ≡ Param i)
  live_kind v (Param i) e l = (i, e)
  live_kind v (Constant n) e l = let between = subst (λ x. LiveAs x whole v 0 0) e l in
      absurd (omega (arith, between.from))
  live_kind v Plain e l = by_known (known 0 v) refl
    where
      by_known : (x : Bool) → known 0 v ≡ x → (i : ℕ) × (kind_of whole v ≡ Param i)
      by_known true is = entry v is
      by_known false is = absurd (entry_unread known whole v certified closed e
          (omega (arith, same_count, complete.count)) is l)

  pub is_valid : IsValid whole
  is_valid = record {
    entry_block = entry_block;
    block_rules = block_rules;
    roles_apart = λ b n i is. (k.obeys b n i (was b n i is)).roles_apart;
    division_apart = divisions;
    constants_kept = λ v n kind b m i is. (k.obeys b m i (was b m i is)).constants_kept v n kind;
    live_at_entry = λ v l. live_kind v (kind_of code v) refl l;
    arguments_apart = record {
      params = complete.params;
      cells = λ b n i is v j names. ((k.obeys b n i (was b n i is)).cells j names).1 v;
    };
  }
