use Rattle.std.proofs.Common.{arith, sym, subst, List}
use Rattle.vc_tidy.specs.declared.places.Place.{Place}
use Rattle.vc_tidy.specs.Joined.{HasPlaces}
use Rattle.vc_tidy.proofs.Grouped.{tried_alone, no_copy_block, no_copy_code}
use Rattle.vc_tidy.proofs.copies.choose.Goals as goal

pub loop-b-init : goal.loop-b-init
loop-b-init c = record {
  tried = tried_alone c.args.code.now c.in_ok-classes.classes
      c.in_ok-classes.ensures;
  none = λ e b k lt. absurd (omega (arith, lt));
}

pub try_block-requires-clause-places : goal.try_block-requires-clause-places
try_block-requires-clause-places c =
    subst (λ (ps : List (List Place)). HasPlaces c.args.code.now ps) (sym c.as_slice.ensures.value)
    c.in_ok-places.ensures

pub loop-b-preserved : goal.loop-b-preserved
loop-b-preserved c = record {
  tried = c.in_ok-now.ensures.tried;
  none = λ e. no_copy_block c.args.code.now c.loop-b.b (c.in_ok-now.ensures.none e)
      (c.loop-b.invariant.none (c.in_ok-now.ensures.before e));
}

pub returns : goal.returns
returns c = no_copy_code c.args.code.now c.loop-b.b
    (omega (arith, c.loop-b-test.false, c.len-b-end.ensures))
    (c.loop-b.invariant.none c.if-joined.false)
