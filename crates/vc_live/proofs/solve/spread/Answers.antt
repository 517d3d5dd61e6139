use Rattle.std.proofs.Common.{◌≡◌, inr, ℕ, List, true, length, subst}
use Rattle.std.proofs.Common.{sym, ap, ◌∙◌, arith}
use Rattle.std.proofs.lemmas.List.{length_push}
use Rattle.vc_live.specs.Sets.{contains}
use Rattle.vc_live.specs.Equations.{entry}
use Rattle.vc_live.specs.Spreading.{AreWithin}
use Rattle.vc_live.proofs.Spreads.{spread_none, spread_both}
use Rattle.vc_live.proofs.Solved.{taken_off, rest_within, nothing_left, empty_of}
use Rattle.vc_live.proofs.solve.spread.Goals as goal

pub begun-requires-clause-few : goal.begun-requires-clause-few
begun-requires-clause-few c = rw (c.as_slice.ensures.value, c.requires.shape.count)
    (c.requires.flow.few)

pub begun-requires-clause-words : goal.begun-requires-clause-words
begun-requires-clause-words c = rw c.as_slice.ensures.value
    (λ b below. rw (c.requires.shape.sets b below) c.requires.word)

pub loop-block-init : goal.loop-block-init
loop-block-init c = record {
  spread = spread_none c.args.code.now (length c.args.flow.now.constants)
      (contains c.args.flow.now.constants) c.args.flow.now.stops c.args.word
      c.requires.flow.stops c.args.entries.now.items c.requires.shape;
  passed = λ b t v below target at has free. inr (c.in_ok-left.ensures.all t v at
      (subst (λ (xs : List (List ℕ)). contains (entry xs t) v ≡ true)
      (sym c.as_slice.ensures.value) has));
  within = subst (AreWithin c.in_ok-left.left.items)
      (ap length c.as_slice.ensures.value ∙ c.requires.shape.count) c.in_ok-left.ensures.within;
}

pub ask_sources-requires-clause-block : goal.ask_sources-requires-clause-block
ask_sources-requires-clause-block c = (rest_within c.loop-block.left.items c.pop.new.self.items
    c.in-Some.block (length c.args.code.now.blocks) c.in-Some.ensures.items
    c.loop-block.invariant.within).1

pub ask_sources-requires-clause-shape : goal.ask_sources-requires-clause-shape
ask_sources-requires-clause-shape c = c.loop-block.invariant.spread.shape

pub ask_sources-requires-clause-passed : goal.ask_sources-requires-clause-passed
ask_sources-requires-clause-passed c = taken_off c.args.code.now c.args.flow.now.stops
    c.loop-block.entries.items c.args.word c.loop-block.left.items c.pop.new.self.items
    c.in-Some.block
    c.in-Some.ensures.items c.loop-block.invariant.passed

pub ask_sources-requires-clause-within : goal.ask_sources-requires-clause-within
ask_sources-requires-clause-within c = (rest_within c.loop-block.left.items c.pop.new.self.items
    c.in-Some.block (length c.args.code.now.blocks) c.in-Some.ensures.items
    c.loop-block.invariant.within).0

pub loop-block-smaller : goal.loop-block-smaller
loop-block-smaller c = omega (
  arith,
  c.in_ok-ask_sources.ensures.room,
  ap length c.in-Some.ensures.items,
  length_push c.pop.new.self.items c.in-Some.block,
)

pub loop-block-preserved : goal.loop-block-preserved
loop-block-preserved c = record {
  spread = spread_both c.args.code.now (length c.args.flow.now.constants)
      (contains c.args.flow.now.constants) c.args.flow.now.stops c.args.word
      c.requires.flow.stops c.args.entries.now.items c.loop-block.entries.items
      c.ask_sources.new.entries.items c.loop-block.invariant.spread
      c.in_ok-ask_sources.ensures.spread;
  passed = c.in_ok-ask_sources.ensures.passed;
  within = c.in_ok-ask_sources.ensures.within;
}

pub returns-clause-passed : goal.returns-clause-passed
returns-clause-passed c = nothing_left c.args.code.now c.args.flow.now.stops
    c.loop-block.entries.items
    c.args.word c.loop-block.left.items
    (empty_of c.loop-block.left.items (λ some. c.in_default.ensures.variant.1
    (omega (arith, some)))) c.loop-block.invariant.passed
