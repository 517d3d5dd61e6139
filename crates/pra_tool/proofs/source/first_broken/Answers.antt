use Rattle.std.proofs.Common.{ℕ, List, length, refl, subst, sym, ◌∙◌, arith}
use Rattle.std.proofs.lemmas.Option.{slice_get_read}
use Rattle.pra_compile.specs.Compiled.{codes_named}
use Rattle.vc_valid.specs.Listed.{HasCode}
use Rattle.pra_tool.proofs.CodeReads.{named_at, have_next, breaks_next, said_of_none, said_of_some}
use Rattle.pra_tool.proofs.source.first_broken.Goals as goal

pub returns-then-is_none : goal.returns-then-is_none
returns-then-is_none c =
    let n = c.loop-number.number in
    let procs = c.args.procs.now in
    let named = c.index-procs-number.result in
    breaks_next (codes_named procs) n named.code c.loop-number.invariant
    (named_at procs n named
    (slice_get_read procs (length procs) n named refl c.loop-number-test.true
    c.index-procs-number.is))
    (λ has. said_of_none _ _ c.in_ok-liveness_of_valid.field-0
    c.if-is_none.ensures c.in_ok-liveness_of_valid.ensures
    (subst (λ (counts : List ℕ). HasCode counts n named.code)
    (sym (c.deref.ensures.value ∙ c.in_ok-counts.ensures)) has))

pub loop-number-preserved : goal.loop-number-preserved
loop-number-preserved c =
    let n = c.loop-number.number in
    let procs = c.args.procs.now in
    let named = c.index-procs-number.result in
    have_next (codes_named procs) n named.code c.loop-number.invariant
    (named_at procs n named
    (slice_get_read procs (length procs) n named refl c.loop-number-test.true
    c.index-procs-number.is))
    (subst (λ (counts : List ℕ). HasCode counts n named.code)
    (c.deref.ensures.value ∙ c.in_ok-counts.ensures)
    (said_of_some _ _ _ c.in_ok-liveness_of_valid.field-0 c.if-is_none.ensures
    c.in_ok-liveness_of_valid.ensures))

pub returns : goal.returns
returns c = λ q code lt at.
    c.loop-number.invariant q code (omega (arith, lt, c.loop-number-test.false)) at
