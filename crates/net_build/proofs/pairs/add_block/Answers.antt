use Rattle.std.proofs.Common.{ℕ, arith}
use Rattle.pra_base.specs.declared.code.VInstr.{VInstr}
use Rattle.pra_base.specs.Operands.{operands}
use Rattle.net_form.specs.Network.{marked, pair_of}
use Rattle.net_build.proofs.Ranges.{filtered}
use Rattle.net_build.proofs.pairs.add_block.Goals as goal

pub loop-rest-preserved : goal.loop-rest-preserved
loop-rest-preserved c =
    let f = λ (i : ℕ × VInstr). pair_of c.args.strands.now c.args.block
    (marked i.0 (operands i.1)) in
    record {
      whole = filtered f c.loop-rest.index c.loop-rest.rest.now _ c.loop-rest.out c.add_pair.new.out
          _ c.in-len1-up.len_at_least c.in_ok-add_pair.ensures c.loop-rest.invariant.whole;
      index = omega arith;
    }
