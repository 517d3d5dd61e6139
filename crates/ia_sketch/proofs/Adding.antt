-- One more procedure is added, and what was added can be assembled.
use Rattle.std.proofs.Common.{ℕ, ◌+◌, ◌≤◌, List, [], ◌∷◌, ◌++◌, length, ap, ◌∙◌, arith}
use Rattle.std.proofs.lemmas.List.Sums.{sum_by_push}
use Rattle.pra_list.proofs.Elements.{each_more}
use Rattle.ia_asm.specs.Assembly.{CanAssemble}
use Rattle.ia_carries.proofs.Few.{is_small, same_instructions}
use Rattle.ia_emit.specs.Counts.{instruction_count}
use Rattle.ia_emit.proofs.FewBytes.{few_bytes}
use Rattle.ia_sketch.specs.Added.{AreAdded}
use Rattle.pl_place.specs.declared.placed.LProc.{LProc}
use Rattle.pl_place.specs.Behind.{Routed, IsBehind}
use Rattle.pl_place.specs.Valid.{IsPlaced}
use Rattle.pra_base.specs.Valid.{IsSized, instruction_count as count_of}

-- one more, of sized code and a flow that stand behind it
pub one_more : (procs : List LProc) (instructions blocks : ℕ) (r : Routed) (p : LProc) →
    AreAdded procs instructions blocks → IsBehind r p → IsPlaced p → IsSized r.code →
    instructions + count_of r.code.blocks ≤ 262401 → blocks + length r.code.blocks ≤ 131586 →
    AreAdded (procs ++ p ∷ []) (instructions + count_of r.code.blocks)
    (blocks + length r.code.blocks)
one_more procs instructions blocks r p are behind placed sized few some = record {
  placed = each_more IsPlaced procs p are.placed placed;
  small = each_more _ procs p are.small (is_small r p behind sized);
  instructions_are = sum_by_push instruction_count procs p ∙ ap (λ n. n + instruction_count p)
      are.instructions_are ∙ ap (λ n. instructions + n) (same_instructions r p behind);
  blocks_are = sum_by_push (λ (q : LProc). length q.blocks) procs p ∙ ap (λ n. n + length p.blocks)
      are.blocks_are ∙ ap (λ n. blocks + n) behind.count;
  few_instructions = few;
  few_blocks = some;
}

pub can_assemble : (procs : List LProc) (instructions blocks : ℕ) →
    AreAdded procs instructions blocks → CanAssemble procs
can_assemble procs instructions blocks are = record {
  placed = are.placed;
  small = are.small;
  room = few_bytes procs
      (record {
        instructions = omega (arith, are.instructions_are, are.few_instructions);
        blocks =
            omega (arith, are.blocks_are, are.few_blocks);
      })
      are.placed;
}
