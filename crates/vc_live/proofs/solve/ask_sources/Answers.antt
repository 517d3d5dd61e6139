use Rattle.std.proofs.Common.{◌≡◌, ◌<◌, ℕ, List, [], length, get_or, ap}
use Rattle.std.proofs.Common.{subst, ◌∙◌, arith, ◌≤◌}
use Rattle.std.proofs.lemmas.List.{get_or_default}
use Rattle.vc_live.specs.Sets.{contains}
use Rattle.vc_live.specs.Spreading.{HasAsked}
use Rattle.vc_live.proofs.Spreads.{nothing_asked, all_asked, asked_same, asked_grown}
use Rattle.vc_live.proofs.Sources.{is_source}
use Rattle.vc_live.proofs.solve.ask_sources.Goals as goal
use Rattle.vc_live.proofs.solve.ask_sources.Goals.{then-ask+in_ok-push, else-ask}

pub loop-source-init : goal.loop-source-init
loop-source-init c = nothing_asked c.args.code.now (length c.args.flow.now.constants)
    (contains c.args.flow.now.constants) c.args.flow.now.stops c.args.word c.requires.flow.stops
    c.args.entries.now.items c.args.block (get_or c.args.flow.now.sources c.args.block [])
    c.args.left.now.items c.requires.shape c.requires.passed c.requires.within
    (λ b below target. c.requires.flow.sources.all b c.args.block below target)

pub ask-requires-clause-block : goal.ask-requires-clause-block
ask-requires-clause-block c =
    let sources = c.args.flow.now.sources in
    let list : c.as_slice-source-items.result.now ≡ get_or sources c.args.block [] =
    c.as_slice-source-items.ensures ∙ c.index.ensures
    ∙ get_or_default sources c.args.block _ []
    (omega (arith, c.requires.block, c.requires.flow.sources.same_count)) in
    is_source c.args.code.now sources c.args.block c.loop-source.source-index _
    c.requires.flow.sources (subst (λ (xs : List ℕ). c.loop-source.source-index < length xs) list
    c.loop-source-test.true)
    (ap (λ (xs : List ℕ). get_or xs c.loop-source.source-index 0) list)

pub loop-source-preserved : goal.loop-source-preserved
loop-source-preserved c =
    let sources = c.args.flow.now.sources in
    let list : c.as_slice-source-items.result.now ≡ get_or sources c.args.block [] =
    c.as_slice-source-items.ensures ∙ c.index.ensures
    ∙ get_or_default sources c.args.block _ []
    (omega (arith, c.requires.block, c.requires.flow.sources.same_count)) in
    let q = get_or c.as_slice-source-items.result.now c.loop-source.source-index 0 in
    let read : q ≡ get_or (get_or sources c.args.block []) c.loop-source.source-index 0 =
    ap (λ (xs : List ℕ). get_or xs c.loop-source.source-index 0) list in
    let within : c.loop-source.source-index < length (get_or sources c.args.block []) =
    subst (λ (xs : List ℕ). c.loop-source.source-index < length xs) list
    c.loop-source-test.true in
    let below = is_source c.args.code.now sources c.args.block c.loop-source.source-index q
    c.requires.flow.sources within read in
    elim c.if-ask.branch [
      | then-ask+in_ok-push w ↦ rw (w.left-is, w.in_ok-push.ensures.items)
          (asked_grown c.args.code.now (length c.args.flow.now.constants)
          (contains c.args.flow.now.constants) c.args.flow.now.stops c.args.word
          c.requires.flow.stops c.args.entries.now.items c.loop-source.entries.items
          c.ask.new.entries.items c.args.block q (get_or sources c.args.block [])
          c.args.left.now.items c.loop-source.left.items c.loop-source.source-index
          c.loop-source.invariant within read below
          (subst (λ g. HasAsked c.args.code.now c.args.flow.now.stops c.loop-source.entries.items
          c.ask.new.entries.items q c.args.word g) w.if-ask.true c.ask.ensures))
      | else-ask w ↦ rw (w.left-is)
          (asked_same c.args.code.now (length c.args.flow.now.constants)
          (contains c.args.flow.now.constants) c.args.flow.now.stops c.args.word
          c.requires.flow.stops c.args.entries.now.items c.loop-source.entries.items
          c.ask.new.entries.items c.args.block q (get_or sources c.args.block [])
          c.args.left.now.items c.loop-source.left.items c.loop-source.source-index
          c.loop-source.invariant within read below
          (subst (λ g. HasAsked c.args.code.now c.args.flow.now.stops c.loop-source.entries.items
          c.ask.new.entries.items q c.args.word g) w.if-ask.false c.ask.ensures))
    ]

pub returns-clause-passed : goal.returns-clause-passed
returns-clause-passed c =
    let sources = c.args.flow.now.sources in
    let list : c.as_slice-source-items.result.now ≡ get_or sources c.args.block [] =
    c.as_slice-source-items.ensures ∙ c.index.ensures
    ∙ get_or_default sources c.args.block _ []
    (omega (arith, c.requires.block, c.requires.flow.sources.same_count)) in
    all_asked c.args.code.now (length c.args.flow.now.constants)
    (contains c.args.flow.now.constants) c.args.flow.now.stops c.args.word c.requires.flow.stops
    c.args.entries.now.items c.loop-source.entries.items c.args.block
    (get_or sources c.args.block []) c.args.left.now.items c.loop-source.left.items
    c.loop-source.source-index (subst (λ (xs : List ℕ). length xs ≤ c.loop-source.source-index) list
    c.loop-source-test.false) c.loop-source.invariant

pub ask-requires-clause-shape : goal.ask-requires-clause-shape
ask-requires-clause-shape c = c.loop-source.invariant.spread.shape

pub returns-clause-spread : goal.returns-clause-spread
returns-clause-spread c = c.loop-source.invariant.spread

pub returns-clause-within : goal.returns-clause-within
returns-clause-within c = c.loop-source.invariant.within

pub returns-clause-room : goal.returns-clause-room
returns-clause-room c = c.loop-source.invariant.room
