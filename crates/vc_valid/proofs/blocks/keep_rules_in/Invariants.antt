use Rattle.pra_base.specs.Code.{code_of}
use Rattle.vc_valid.specs.Rules.{KeepsRules}
use Rattle.vc_valid.proofs.Loops.{HoldsAt}
use Rattle.vc_valid.proofs.blocks.keep_rules_in.Given as goal

abbrev pub invariant-loop-index : goal.invariant-loop-index
invariant-loop-index l = HoldsAt (KeepsRules l.code l.block) (code_of l.code l.block) l.index
