use Rattle.std.proofs.Common.{sym, ◌∙◌, below_more}
use Rattle.std.proofs.lemmas.Bool.{both_ways}
use Rattle.std.proofs.lemmas.Bool.Decides.{Decides-eqb}
use Rattle.std.proofs.lemmas.Slice.Eq.{slice_eq-Decides}
use Rattle.ob_lex.proofs.FirstSpelling.{entry_found, entry_passed}
use Rattle.ob_lex.proofs.spelling.kind_in.Goals as goal

pub returns-then-eq : goal.returns-then-eq
returns-then-eq c =
    entry_found c.args.entries.now c.loop-kind.kind-index _ c.args.word.now c.loop-kind-test.true
    (sym c.as_bytes.ensures.value ∙ (slice_eq-Decides Decides-eqb _ _ _ c.eq.ensures).0
    c.if-eq.true)

pub loop-kind-preserved : goal.loop-kind-preserved
loop-kind-preserved c =
    below_more _ _ c.loop-kind.invariant
    (entry_passed c.args.entries.now c.loop-kind.kind-index _ c.args.word.now c.loop-kind-test.true
    (λ is. both_ways c.eq.result c.if-eq.false
    ((slice_eq-Decides Decides-eqb _ _ _ c.eq.ensures).1 (c.as_bytes.ensures.value ∙ is))))
