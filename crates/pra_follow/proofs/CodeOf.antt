-- What is known of tidy code that stands in the place of selected code.
use Rattle.std.proofs.Common.{◌≡◌, ℕ, suc, ◌+◌, ◌*◌, ◌≤◌, List, [], ◌∷◌, length, map, Some, refl}
use Rattle.std.proofs.Common.{sym, ap, subst, ◌∙◌, arith}
use Rattle.std.specs.Prelude.{slice_get, slice_index_or, count_by}
use Rattle.pra_list.proofs.Options.{some_same}
use Rattle.pra_base.specs.Code.{no_block, is_plain}
use Rattle.pra_base.specs.declared.code.Block.{Block}
use Rattle.pra_base.specs.declared.code.VProc.{VProc}
use Rattle.pra_base.specs.Valid.{instruction_count}
use Rattle.ob_syntax.specs.declared.checked.Checked.{Checked}
use Rattle.ob_syntax.specs.declared.checked.CheckedProc.{CheckedProc}
use Rattle.vc_expr.specs.Readable.{is_constant}
use Rattle.vc_proc.specs.Selected.{IsSelected, KeepsCounts, parameter_counts}
use Rattle.vc_same.specs.SameRuns.{Preserves, SameRuns}
use Rattle.vc_same.proofs.Carried.{runs_on}
use Rattle.vc_stmt.specs.Procedures.{Embodies}
use Rattle.vc_tidy.specs.KindCounts.{KeepsKinds}
use Rattle.vc_tidy.specs.Tidy.{IsTidy}
use Rattle.vc_typed.specs.TypedModules.{scalar_locals}
use Rattle.pra_follow.specs.Tidied.{IsCodeOf, IsTidied}

-- blocks that are as deep one by one are so in order
same_depths : (xs ys : List Block) → length xs ≡ length ys →
    ((b : ℕ) → (slice_index_or xs b no_block).depth ≡ (slice_index_or ys b no_block).depth) →
    map (λ (b : Block). b.depth) xs ≡ map (λ (b : Block). b.depth) ys
same_depths [] [] long same = refl
same_depths [] (y ∷ ys) long same = absurd (omega (arith, long))
same_depths (x ∷ xs) [] long same = absurd (omega (arith, long))
same_depths (x ∷ xs) (y ∷ ys) long same =
    ap (λ d. d ∷ map (λ (b : Block). b.depth) xs) (same 0) ∙ ap (λ l. y.depth ∷ l)
    (same_depths xs ys (omega (arith, long)) (λ b. same (suc b)))

module _ (program : Checked) (p : ℕ) (proc : CheckedProc) (selected code : VProc)
    (is : IsSelected program p proc selected) (kept : Preserves selected code)
    (kinds : KeepsKinds selected code) (tidy : IsTidy code) where
  counts_of : KeepsCounts proc code
  counts_of =
      let fewer : instruction_count code.blocks ≤ instruction_count selected.blocks =
      kept.instructions in
      let most : instruction_count selected.blocks ≤ 4 * proc.nodes + scalar_locals proc + 1 =
      is.counts.instructions in
      let same : length code.blocks ≡ length selected.blocks = kept.count in
      let few : length selected.blocks ≤ 2 * proc.nodes + 2 = is.counts.blocks in
      let plain = kinds.counts is_plain in
      let locals : count_by is_plain selected.vars ≤ 3 * proc.nodes + scalar_locals proc =
      is.counts.locals in
      let constant = kinds.counts is_constant in
      let constants : count_by is_constant selected.vars ≤ 4 * proc.nodes = is.counts.constants in
      record {
        instructions = omega (arith, fewer, most);
        blocks = omega (arith, same, few);
        locals = omega (arith, plain, locals);
        constants = omega (arith, constant, constants);
      }

  code_of : IsCodeOf program p proc code
  code_of = record {
    id = ap (λ i. i.0) kept.id ∙ is.id;
    args = kept.args ∙ is.args;
    aggregates = kept.aggregates ∙ is.aggregates;
    valid = kept.is_valid;
    sized = kept.is_sized;
    pushes = kept.pushes (parameter_counts program) is.pushes;
    counts = counts_of;
    depths = same_depths code.blocks selected.blocks kept.count (λ b. kept.depths b) ∙ is.depths;
    tidy = tidy;
  }

-- ---- of a procedure of a module

module _ (program : Checked) (p : ℕ) (code : VProc) (is : IsTidied program p code) where
  -- of the procedure that is there
  pub own_code : IsCodeOf program p is.proc code
  own_code = code_of program p is.proc is.selected code is.is_selected is.preserves is.kinds is.tidy

  pub is_code : (proc : CheckedProc) → slice_get program.procs p ≡ Some proc →
      IsCodeOf program p proc code
  is_code proc there = subst (λ (q : CheckedProc). IsCodeOf program p q code)
      (some_same is.proc proc (sym is.there ∙ there)) own_code

  -- the code as selection made it embodies the procedure, and this does the same
  pub same_runs : SameRuns is.is_selected.made code
  same_runs = runs_on is.is_selected.made is.selected code is.is_selected.same is.preserves.runs

  pub embodied : Embodies program p is.is_selected.made
  embodied = is.is_selected.embodies
