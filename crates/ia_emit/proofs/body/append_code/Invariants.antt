-- What is done, joined with what is left, is the whole.
use Rattle.std.proofs.Common.{◌≡◌, ◌++◌, drop}
use Rattle.std.specs.Prelude.{flat_map}
use Rattle.ia_emit.specs.Emission.{emit}
use Rattle.ia_emit.specs.Sound.{OffsetFits}
use Rattle.ia_emit.proofs.Each.{Below}
use Rattle.ia_emit.proofs.body.append_code.Given as goal

abbrev pub invariant-loop-instruction : goal.invariant-loop-instruction
invariant-loop-instruction l = record {
  items :
      l.items.items ++ flat_map (emit l.frame.proc.now) (drop l.instruction-index l.code)
      ≡ l.fn.items.items ++ flat_map (emit l.frame.proc.now) l.code;
  offsets : Below OffsetFits l.code l.instruction-index;
}
