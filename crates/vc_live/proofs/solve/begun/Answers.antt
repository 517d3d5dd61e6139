use Rattle.std.proofs.Common.{◌≡◌, ◌<◌, ℕ, List, [], length, get_or, subst, sym, ◌∙◌, arith}
use Rattle.std.proofs.lemmas.List.{get_or_default}
use Rattle.vc_live.proofs.Solved.{none_begun, one_begun, none_there, all_begun}
use Rattle.vc_live.proofs.solve.begun.Goals as goal
use Rattle.vc_live.proofs.solve.begun.Goals.{then-word-ne0+in_ok-push}
use Rattle.vc_live.proofs.solve.begun.Goals.{else-word-ne0}

pub loop-block-init : goal.loop-block-init
loop-block-init c = rw c.new-left.ensures.items (none_begun c.args.entries.now c.args.word)

pub word-requires : goal.word-requires
word-requires c =
    let b = c.loop-block.block in
    let within : b < length c.args.entries.now = omega arith in
    subst (λ (xs : List ℕ). c.args.word < length xs)
    (sym (c.index-entries-block.is ∙ get_or_default c.args.entries.now b _ [] within))
    (c.requires.words b within)

pub loop-block-preserved : goal.loop-block-preserved
loop-block-preserved c =
    let b = c.loop-block.block in
    let within : b < length c.args.entries.now = omega arith in
    let read : c.index-entries-block.result ≡ get_or c.args.entries.now b [] =
    c.index-entries-block.is ∙ get_or_default c.args.entries.now b _ [] within in
    elim c.if-word-ne0.branch [
      | then-word-ne0+in_ok-push w ↦ rw (w.left-is, w.in_ok-push.ensures.items)
          (one_begun c.args.entries.now c.args.word c.loop-block.left.items b
          c.loop-block.invariant)
      | else-word-ne0 w ↦ rw w.left-is
          (none_there c.args.entries.now c.args.word c.loop-block.left.items b
          c.index-entries-block.result c.loop-block.invariant read (sym c.word.ensures
          ∙ w.if-word-ne0.false))
    ]

pub returns-clause-within : goal.returns-clause-within
returns-clause-within c = λ b among. omega (arith, c.loop-block.invariant.within b among)

pub returns-clause-all : goal.returns-clause-all
returns-clause-all c = all_begun c.args.entries.now c.args.word c.loop-block.left.items
    c.loop-block.block c.loop-block.invariant (omega arith)
