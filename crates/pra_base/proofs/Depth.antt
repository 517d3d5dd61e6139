-- Blocks that are the same up to their depth keep the same rules.
use Rattle.std.proofs.Common.{◌≡◌, ◌≢◌, ℕ, suc, ◌<◌, List, length, Some, sym, ◌∙◌, subst}
use Rattle.std.specs.Prelude.{slice_get, ◌↔◌}
use Rattle.pra_base.specs.declared.code.Block.{Block}
use Rattle.pra_base.specs.declared.code.VInstr.{VInstr}
use Rattle.pra_base.specs.declared.code.VInstr.TheVariants.{Clear}
use Rattle.pra_base.specs.declared.code.End.{End}
use Rattle.pra_base.specs.declared.code.End.TheVariants.{Return}
use Rattle.pra_base.specs.Code.{block_in, EachInstr}
use Rattle.pra_base.specs.Valid.{LastReturn, CmpBeforeBranch, EndsWithCmp, PushesLead}
use Rattle.pra_base.specs.Valid.{PushesBeforeCalls, ClearFirst, KeepsBlockRules, UpToDepth}

module _ (one other : List Block) (same : UpToDepth one other) where
  pub each_instr : (P : VInstr → Type 0) → EachInstr one P → EachInstr other P
  each_instr P f b k i at = f b k i (subst (λ code. slice_get code k ≡ Some i) (same.code b) at)

  pub last_return : LastReturn one → LastReturn other
  last_return r = record {
    there = subst (λ n. 0 < n) (sym same.count) r.there;
    exactly = λ b below.
        subst (λ n. ((block_in other b).end ≡ Return) ↔ (suc b ≡ n)) (sym same.count)
        (subst (λ (e : End). (e ≡ Return) ↔ (suc b ≡ length one)) (sym (same.end b))
        (r.exactly b (subst (λ n. b < n) same.count below)));
  }

  pub cmp_before_branch : CmpBeforeBranch one → CmpBeforeBranch other
  cmp_before_branch r b condition t u at =
      subst EndsWithCmp (sym (same.code b)) (r b condition t u (sym (same.end b) ∙ at))

  pub pushes_before_calls : (Takes : ℕ → ℕ → Type 0) → PushesBeforeCalls Takes one →
      PushesBeforeCalls Takes other
  pushes_before_calls Takes r b = subst (λ code. PushesLead Takes 0 code) (sym (same.code b)) (r b)

  pub clear_first : (aggregates : ℕ) → ClearFirst aggregates one → ClearFirst aggregates other
  clear_first aggregates r b k =
      subst (λ code. (slice_get code k ≡ Some Clear) ↔ ((aggregates ≢ 0) × (b ≡ 0) × (k ≡ 0)))
      (sym (same.code b)) (r b k)

  pub block_rules : (aggregates : ℕ) → KeepsBlockRules aggregates one →
      KeepsBlockRules aggregates other
  block_rules aggregates r = record {
    last_return = last_return r.last_return;
    cmp_before_branch = cmp_before_branch r.cmp_before_branch;
    pushes_before_calls = pushes_before_calls _ r.pushes_before_calls;
    clear_first = clear_first aggregates r.clear_first;
    check_range = each_instr _ r.check_range;
    shift_range = each_instr _ r.shift_range;
  }
