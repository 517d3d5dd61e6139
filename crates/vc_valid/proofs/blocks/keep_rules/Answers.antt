use Rattle.std.proofs.Common.{refl, inl, inr, ◌≡◌, Some, subst, sym, arith}
use Rattle.std.proofs.lemmas.Bool.{cases_eq}
use Rattle.pra_base.specs.Code.{instr_at}
use Rattle.vc_live.proofs.SizedLemmas.{granted}
use Rattle.vc_valid.specs.Rules.{KeepsRules}
use Rattle.vc_valid.proofs.OneInstruction.{in_code}
use Rattle.vc_valid.proofs.blocks.keep_rules.Goals as goal

pub loop-block-preserved : goal.loop-block-preserved
loop-block-preserved c =
    λ b k i below at. elim (cases_eq b c.loop-block.block)
    as (λ _. KeepsRules c.args.code.now b k i) [
      | inl same ↦
          subst (λ n. KeepsRules c.args.code.now n k i) (sym same)
          (c.if-not-keep_rules_in.ensures.0 refl k i
          (subst (λ n. instr_at c.args.code.now n k ≡ Some i) same at))
      | inr other ↦ c.loop-block.invariant b k i (omega (arith, below, other)) at
    ]

pub returns : goal.returns
returns c = granted (λ b k i at.
    let lt = in_code c.args.code.now b k i at in
    c.loop-block.invariant b k i (omega (arith, lt, c.len-block-end.ensures)) at)
