use Rattle.std.proofs.Common.{◌≡◌, ◌<◌, ℕ, Some}
use Rattle.pra_base.specs.declared.code.VInstr.{VInstr}
use Rattle.pra_base.specs.Code.{instr_at}
use Rattle.vc_valid.specs.Rules.{KeepsRules}
use Rattle.vc_valid.proofs.blocks.keep_rules.Given as goal

abbrev pub invariant-loop-block : goal.invariant-loop-block
invariant-loop-block l = (b k : ℕ) (i : VInstr) → b < l.block → instr_at l.code b k ≡ Some i →
    KeepsRules l.code b k i
