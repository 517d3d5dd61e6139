use Rattle.std.proofs.Common.{arith, rules}
use Rattle.std.proofs.lemmas.List.Filters.{FiltersInPlace-more_swap, FiltersInPlace-more_no}
use Rattle.std.proofs.lemmas.List.Filters.{FiltersInPlace-all}
use Rattle.vc_checks.proofs.Knowing.{other_to, same_to}
use Rattle.vc_checks.proofs.known.forget.Goals.{then-index-v, else-index-v}
use Rattle.vc_checks.proofs.known.forget.Goals as goal

pub loop-i-preserved : goal.loop-i-preserved
loop-i-preserved c = elim c.if-index-v.branch [
  | then-index-v w ↦ rw (w.known-is, w.k-is) (FiltersInPlace-more_swap c.loop-i.invariant
      (omega arith) (other_to c.index.result.now c.args.v.0 w.if-index-v.true) c.index.ensures
      w.swap.ensures.by_index)
  | else-index-v w ↦ rw (w.known-is, w.k-is) (FiltersInPlace-more_no c.loop-i.invariant
      (omega arith) (same_to c.index.result.now c.args.v.0 w.if-index-v.false) c.index.ensures)
]

pub returns : goal.returns
returns c = search (rules, FiltersInPlace-all)
