use Rattle.std.proofs.Common.{length}
use Rattle.ia_list.proofs.TextsRead.{IsReadTo}
use Rattle.ia_list.proofs.assembly.asm_text.Given as goal

abbrev pub invariant-lines : goal.invariant-lines
invariant-lines l = IsReadTo l.bytes l.data_words l.code.items l.number l.rest

abbrev pub decreases-lines : goal.decreases-lines
decreases-lines l = length l.rest
