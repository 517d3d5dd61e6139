use Rattle.std.proofs.Common.{get_or, sym, ap, ◌∙◌, arith}
use Rattle.std.proofs.lemmas.Option.{slice_get-get_or}
use Rattle.pra_base.specs.declared.code.Block.{Block}
use Rattle.pra_base.specs.Code.{no_block}
use Rattle.pra_list.proofs.Options.{some_same}
use Rattle.vc_tidy.proofs.Marking.{no_instr}
use Rattle.vc_tidy.proofs.Meeting.{found_at}
use Rattle.vc_tidy.proofs.Grouped.{no_false, tried_joined, tried_same, no_copy_here, no_copy_more}
use Rattle.vc_tidy.proofs.Grouped.{no_copy_all}
use Rattle.vc_tidy.proofs.copies.try_block.Goals as goal

pub loop-instr-preserved-then-tried : goal.loop-instr-preserved-then-tried
loop-instr-preserved-then-tried c =
    let i = get_or c.as_slice-instr-items.result.now c.loop-instr.instr-index no_instr in
    let is = found_at c.args.code.now c.args.block c.loop-instr.instr-index c.index.result.now
    c.as_slice-instr-items.result.now no_instr c.requires.block c.index.ensures
    c.as_slice-instr-items.ensures c.loop-instr-test.true in
    record {
      tried = tried_joined c.args.code.now c.try_instr.new.classes c.args.block
          c.loop-instr.instr-index i c.in_ok-tried.ensures.classes is
          (c.in_ok-tried.ensures.joined c.if-tried.true);
      before = λ e. absurd (no_false e);
      none = λ e. absurd (no_false e);
    }

pub loop-instr-preserved : goal.loop-instr-preserved
loop-instr-preserved c =
    let i = get_or c.as_slice-instr-items.result.now c.loop-instr.instr-index no_instr in
    let is = found_at c.args.code.now c.args.block c.loop-instr.instr-index c.index.result.now
    c.as_slice-instr-items.result.now no_instr c.requires.block c.index.ensures
    c.as_slice-instr-items.ensures c.loop-instr-test.true in
    record {
      tried = tried_same c.args.code.now c.loop-instr.classes c.try_instr.new.classes
          c.loop-instr.now c.loop-instr.invariant.tried
          (c.in_ok-tried.ensures.same c.if-tried.false);
      before = c.loop-instr.invariant.before;
      none = λ e.
          no_copy_more c.args.code.now c.args.block c.loop-instr.instr-index
          (no_copy_here c.args.code.now c.args.block c.loop-instr.instr-index i
          c.requires.known.is_valid c.requires.known.is_sized is
          (c.in_ok-tried.ensures.apart c.if-tried.false (c.loop-instr.invariant.tried.alone e)))
          (c.loop-instr.invariant.none e);
    }

pub returns-clause-none : goal.returns-clause-none
returns-clause-none c = λ e.
    let same = c.index.ensures
    ∙ some_same _ _ (sym (slice_get-get_or c.args.code.now.blocks c.args.block
    c.index.result.now c.requires.block) ∙ slice_get-get_or c.args.code.now.blocks c.args.block
    no_block c.requires.block) in
    no_copy_all c.args.code.now c.args.block c.loop-instr.instr-index
    c.as_slice-instr-items.result.now
    (c.as_slice-instr-items.ensures ∙ ap (λ (x : Block). x.code) same) (omega arith)
    (c.loop-instr.invariant.none e)
