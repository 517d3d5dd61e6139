use Rattle.std.proofs.Common.{◌≡◌, ◌++◌, length, take}
use Rattle.ia_emit.specs.Emission.{prologue, emit_blocks}
use Rattle.ia_emit.specs.Sound.{EachOffsetFits}
use Rattle.ia_emit.proofs.Blocks.{FirstSoFar}
use Rattle.ia_emit.proofs.Each.{Below}
use Rattle.pl_place.specs.declared.placed.LBlock.{LBlock}
use Rattle.ia_emit.proofs.body.list_body.Given as goal

abbrev pub invariant-loop-k : goal.invariant-loop-k
invariant-loop-k l = record {
  items : l.items.items ≡ prologue l.frame.proc.now ++ emit_blocks l.frame.proc.now 0
      (take l.k l.frame.proc.now.blocks);
  count : length l.first.items ≡ l.k;
  first : FirstSoFar l.frame.proc.now l.k l.first.items;
  offsets : Below (λ (b : LBlock). EachOffsetFits b.code) l.frame.proc.now.blocks l.k;
}
