use Rattle.std.proofs.Common.{◌≡◌, ◌+◌, ◌/◌, ◌%◌, ◌<◌, ◌≤◌, ◌||◌, ◌&&◌, not, nat_eq, ℕ, List, []}
use Rattle.std.proofs.Common.{length, get_or, ap, subst, sym, ◌∙◌, arith, if◌then◌else◌}
use Rattle.std.proofs.lemmas.List.{get_or_default}
use Rattle.pra_base.specs.declared.code.Block.{Block}
use Rattle.pra_base.specs.Code.{end_of}
use Rattle.vc_live.specs.Sets.{contains, has_bit, room}
use Rattle.vc_live.specs.Equations.{at_targets, FitsEnd}
use Rattle.vc_live.proofs.Made.{block_read}
use Rattle.vc_live.proofs.Spreads.{asked_of}
use Rattle.vc_live.proofs.solve.ask.Goals as goal

pub word_at_targets-live-requires-clause-targets : goal.word_at_targets-live-requires-clause-targets
word_at_targets-live-requires-clause-targets c =
    let read = block_read c.args.code.now c.args.block c.index.result.now c.requires.block
    c.index.ensures in
    subst (λ (b : Block). FitsEnd (length c.as_slice.result.now) b.end) (sym read)
    (subst (λ n. FitsEnd n (end_of c.args.code.now c.args.block))
    (sym (ap length c.as_slice.ensures.value ∙ c.requires.shape.count))
    (c.requires.flow.range.ends c.args.block c.requires.block))

pub word_at_targets-live-requires-clause-words : goal.word_at_targets-live-requires-clause-words
word_at_targets-live-requires-clause-words c = rw c.as_slice.ensures.value
    (λ b below. rw (c.requires.shape.sets b below) c.requires.word)

pub returns : goal.returns
returns c =
    let code = c.args.code.now in
    let b = c.args.block in
    let entries = c.args.entries.now.items in
    let stops = c.args.flow.now.stops in
    let within : b < length entries = omega (arith, c.requires.block, c.requires.shape.count) in
    let also : b < length stops =
    omega (arith, c.requires.block, c.requires.flow.stops.same_count) in
    let block = block_read code b c.index.result.now c.requires.block c.index.ensures in
    let read : c.index_mut.result.now ≡ get_or entries b [] =
    c.index_mut.ensures.value ∙ get_or_default entries b _ [] within in
    let set : c.index-2.result.now ≡ get_or stops b [] =
    c.index-2.ensures ∙ get_or_default stops b _ [] also in
    asked_of code stops entries b c.args.word c.word_at_targets-live.result
    c.without-more.result c.grow.new.self c.grow.result within
    (λ v at. c.word_at_targets-live.ensures v at
    ∙ ap (λ (xs : List (List ℕ)). at_targets xs c.index.result.now.end v) c.as_slice.ensures.value
    ∙ ap (λ (x : Block). at_targets entries x.end v) block)
    (λ i small. c.without-more.ensures i small
    ∙ ap (λ w. has_bit c.word_at_targets-live.result i && not (has_bit w i))
    (c.word.ensures ∙ ap (λ (s : List ℕ). get_or s c.args.word 0) set))
    (subst (λ (xs : List ℕ). length c.grow.new.self ≡ length xs) read c.grow.ensures.words)
    (λ v. c.grow.ensures.members v ∙ ap (λ (xs : List ℕ). contains xs v ||
    (nat_eq (v / 64) c.args.word && has_bit c.without-more.result (v % 64))) read)
    (λ e. c.grow.ensures.same e ∙ read)
    (subst (λ (xs : List ℕ). room c.grow.new.self + (if c.grow.result then 1 else 0) ≤ room xs)
    read c.grow.ensures.room)
