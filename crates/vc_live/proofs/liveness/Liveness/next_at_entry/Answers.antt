use Rattle.std.proofs.Common.{◌≡◌, false, inl, inr, sym, ◌∙◌, arith}
use Rattle.std.proofs.lemmas.Bool.{cases_order}
use Rattle.vc_live.specs.Rows.{live_at}
use Rattle.vc_live.proofs.RowLemmas.{absent_at_entry}
use Rattle.vc_live.proofs.liveness.Liveness.next_at_entry.Goals as goal

pub loop-v-init : goal.loop-v-init
loop-v-init c = record {
  above = omega arith;
  none = λ u le lt. absurd (omega (arith, le, lt));
}

pub returns-then-at-clause-least : goal.returns-then-at-clause-least
returns-then-at-clause-least c = (
  (c.loop-v.invariant.above, c.loop-v-test.true),
  λ u from below less. c.loop-v.invariant.none u
      from less,
)

pub loop-v-smaller : goal.loop-v-smaller
loop-v-smaller c = omega (arith, c.loop-v-test.true, c.skip_at_entry-v.ensures.from)

pub loop-v-preserved : goal.loop-v-preserved
loop-v-preserved c =
    let l = c.args.self.now in
    let b = c.args.block.0 in
    record {
      above = omega (arith, c.loop-v.invariant.above, c.skip_at_entry-v.ensures.from);
      none = λ u le lt. elim (cases_order u c.loop-v.v) as (λ _. live_at l u b 0 ≡ false) [
        | inl same ↦ rw same (sym c.at.ensures ∙ c.if-at.false)
        | inr (inl below) ↦ c.loop-v.invariant.none u le below
        | inr (inr above) ↦ absent_at_entry l u b
            (c.skip_at_entry-v.ensures.none u (omega (arith, above)) lt)
      ];
    }

pub returns-clause-least : goal.returns-clause-least
returns-clause-least c = (
  tt,
  λ v from below none. c.loop-v.invariant.none v from
      (omega (arith, below, c.loop-v-test.false)),
)
