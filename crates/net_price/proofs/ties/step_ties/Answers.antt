use Rattle.std.proofs.Common.{ℤ, ◌∙◌, pos, ◌-ℤ◌, ◌≤ℤ◌, sym}
use Rattle.std.proofs.Common.{subst, arith}
use Rattle.net_form.specs.Flow.{flow}
use Rattle.net_dual.specs.Priced.{most_price}
use Rattle.net_price.specs.Tied.{next_number}
use Rattle.net_price.proofs.Tied.{tie_done, in_range}
use Rattle.net_price.proofs.ties.step_ties.Goals as goal

pub step_tie-requires-clause-least : goal.step_tie-requires-clause-least
step_tie-requires-clause-least c k le =
    subst (λ (z : ℤ). (pos 0 -ℤ pos most_price) ≤ℤ z) (sym (c.loop-tie.invariant.left k le))
    (in_range c.args.ties.now c.requires.least c.requires.most k).0

pub step_tie-requires-clause-most : goal.step_tie-requires-clause-most
step_tie-requires-clause-most c k le =
    subst (λ (z : ℤ). z ≤ℤ pos most_price) (sym (c.loop-tie.invariant.left k le))
    (in_range c.args.ties.now c.requires.least c.requires.most k).1

pub loop-tie-preserved : goal.loop-tie-preserved
loop-tie-preserved c =
    let inv = c.loop-tie.invariant in
    let more = c.step_tie.ensures in
    record {
      done = tie_done
          (next_number c.args.net.now (flow c.args.net.now c.args.family.now) c.args.s)
          c.args.ties.now c.loop-tie.ties c.step_tie.new.ties c.loop-tie.tie inv.done inv.left
          more.before more.next;
      left = λ k le. more.behind k (omega (arith, le)) ∙ inv.left k (omega (arith, le));
      long = more.long ∙ inv.long;
    }
