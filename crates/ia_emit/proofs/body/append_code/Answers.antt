use Rattle.std.proofs.Common.{rules, ◌≡◌, Some, refl, arith}
use Rattle.std.proofs.lemmas.Grind.{common_steps}
use Rattle.std.specs.Prelude.{slice_get}
use Rattle.std.proofs.lemmas.Option.{slice_get_read, slice_get_within}
use Rattle.ia_emit.specs.Sound.{OffsetFits}
use Rattle.ia_emit.proofs.Each.{below_next}
use Rattle.ia_emit.proofs.body.append_code.Goals as goal

pub loop-instruction-preserved : goal.loop-instruction-preserved
loop-instruction-preserved c =
    let code = c.args.code.now in
    let k = c.loop-instruction.instruction-index in
    let i = c.instruction-item.result in
    let there : slice_get code k ≡ Some i =
    slice_get_read code _ k i refl c.loop-instruction-test.true c.instruction-item.is in
    record {
      items = first_of (search rules, grind (arith, common_steps));
      offsets = below_next OffsetFits code k i there c.emit.ensures.offset
          c.loop-instruction.invariant.offsets;
    }

pub returns-clause-offsets : goal.returns-clause-offsets
returns-clause-offsets c = λ k i there.
    let code = c.args.code.now in
    let within = slice_get_within code k i there in
    c.loop-instruction.invariant.offsets k i (omega (arith, within, c.loop-instruction-test.false))
    there
