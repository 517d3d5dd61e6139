use Rattle.std.proofs.Common.{◌≡◌, ap, sym, ◌∙◌, subst}
use Rattle.std.proofs.lemmas.List.{get_or_read}
use Rattle.pra_base.specs.Code.{no_block, block_of}
use Rattle.pra_base.specs.declared.code.Block.{Block}
use Rattle.pra_base.specs.declared.code.VarKind.TheVariants.{Plain}
use Rattle.pra_base.specs.declared.code.VInstr.TheVariants.{Set}
use Rattle.pra_base.specs.declared.code.VProc.{VProc}
use Rattle.ob_syntax.specs.Operators.{number}
use Rattle.ob_syntax.specs.declared.checked.Value.TheVariants.{Truth}
use Rattle.vc_build.specs.Grow.{count, with_instr, with_open_block, with_variable}
use Rattle.vc_expr.specs.Choices.{decided, OpensChoice}
use Rattle.vc_expr.proofs.Choosing.{opens}
use Rattle.vc_expr.specs.Rules.{StaysValid}
use Rattle.vc_expr.specs.Readable.{PublishesNew}
use Rattle.vc_expr.proofs.Added.{open_valid}
use Rattle.vc_expr.proofs.Published.{open_reads}
use Rattle.vc_expr.specs.Counts.{AddsAtMost}
use Rattle.vc_expr.proofs.Counting.{choice_adds}
use Rattle.vc_expr.proofs.choice.open_choice.Goals as goal

pub returns-clause-opens : goal.returns-clause-opens
returns-clause-opens c =
    let at = c.args.at.0 in
    let old = c.args.code.now in
    let target = c.in_ok-target.target in
    let depth = c.index.result.now.depth in
    let same_depth : depth ≡ (block_of old at).depth = ap (λ (b : Block). b.depth)
    (get_or_read old.blocks at c.index.result.now c.requires.is_open.0 c.index.ensures no_block)
    in
    let m2 : c.put.new.code ≡ with_instr at (Set target (number (Truth (decided c.args.op))))
    (with_variable Plain old) =
    c.in_ok-put.ensures ∙ ap (λ i. with_instr at i c.declare.new.code) c.decides.ensures
    ∙ ap (with_instr at (Set target (number (Truth (decided c.args.op)))))
    c.in_ok-target.ensures.made in
    let m3 : c.open_block.new.code ≡ with_open_block depth
    (with_instr at (Set target (number (Truth (decided c.args.op)))) (with_variable Plain old))
    =
    c.in_ok-right.ensures.made ∙ ap (with_open_block depth) m2 in
    let m4 : c.open_block-2.new.code ≡ with_open_block depth
    (with_open_block depth (with_instr at (Set target (number (Truth (decided c.args.op))))
    (with_variable Plain old))) =
    c.in_ok-behind.ensures.made ∙ ap (with_open_block depth) m3 in
    subst (λ (z : VProc). OpensChoice c.args.op at old z
    (record { target = target; right = c.in_ok-right.right; behind = c.in_ok-behind.behind }))
    (sym m4)
    (opens c.args.op at old target depth c.requires.is_open c.in_ok-target.ensures.number same_depth
    c.in_ok-right.right c.in_ok-behind.behind
    (c.in_ok-right.ensures.number ∙ ap count m2) (c.in_ok-behind.ensures.number ∙ ap count m3))

pub returns-clause-valid : goal.returns-clause-valid
returns-clause-valid c =
    let at = c.args.at.0 in
    let old = c.args.code.now in
    let target = c.in_ok-target.target in
    let depth = c.index.result.now.depth in
    let n = number (Truth (decided c.args.op)) in
    let m2 : c.put.new.code ≡ with_instr at (Set target n) (with_variable Plain old) =
    c.in_ok-put.ensures ∙ ap (λ i. with_instr at i c.declare.new.code) c.decides.ensures
    ∙ ap (with_instr at (Set target n)) c.in_ok-target.ensures.made in
    let m4 : c.open_block-2.new.code ≡ with_open_block depth
    (with_open_block depth (with_instr at (Set target n) (with_variable Plain old))) =
    c.in_ok-behind.ensures.made ∙ ap (with_open_block depth)
    (c.in_ok-right.ensures.made ∙ ap (with_open_block depth) m2) in
    subst (λ (z : VProc). StaysValid old z) (sym m4)
    (open_valid at old target n depth c.requires.is_open c.in_ok-target.ensures.number)

pub returns-clause-reads : goal.returns-clause-reads
returns-clause-reads c =
    let at = c.args.at.0 in
    let old = c.args.code.now in
    let target = c.in_ok-target.target in
    let depth = c.index.result.now.depth in
    let n = number (Truth (decided c.args.op)) in
    let m2 : c.put.new.code ≡ with_instr at (Set target n) (with_variable Plain old) =
    c.in_ok-put.ensures ∙ ap (λ i. with_instr at i c.declare.new.code) c.decides.ensures
    ∙ ap (with_instr at (Set target n)) c.in_ok-target.ensures.made in
    let m4 : c.open_block-2.new.code ≡ with_open_block depth
    (with_open_block depth (with_instr at (Set target n) (with_variable Plain old))) =
    c.in_ok-behind.ensures.made ∙ ap (with_open_block depth)
    (c.in_ok-right.ensures.made ∙ ap (with_open_block depth) m2) in
    subst (λ (z : VProc). PublishesNew at old z target.0) (sym m4)
    (open_reads at old target n depth c.requires.is_open)

pub returns-clause-counts : goal.returns-clause-counts
returns-clause-counts c =
    let at = c.args.at.0 in
    let old = c.args.code.now in
    let i = c.decides.result in
    let depth = c.index.result.now.depth in
    let m2 : c.put.new.code ≡ with_instr at i (with_variable Plain old) = c.in_ok-put.ensures
    ∙ ap (with_instr at i) c.in_ok-target.ensures.made in
    let m4 : c.open_block-2.new.code ≡ with_open_block depth
    (with_open_block depth (with_instr at i (with_variable Plain old))) =
    c.in_ok-behind.ensures.made ∙ ap (with_open_block depth)
    (c.in_ok-right.ensures.made ∙ ap (with_open_block depth) m2) in
    subst (λ (z : VProc). AddsAtMost 1 1 0 2 old z) (sym m4)
    (choice_adds at i depth old c.requires.is_open)
