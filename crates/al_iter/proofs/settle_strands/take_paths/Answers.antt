use Rattle.std.proofs.Common.{◌<◌, ◌≤◌, ◌+◌, ℕ, not, List, length, get_or, drop, ◌∙◌, ap, subst}
use Rattle.std.proofs.Common.{arith}
use Rattle.std.proofs.lemmas.List.{drop_all}
use Rattle.net_form.specs.InUse.{StandsFor}
use Rattle.net_form.proofs.TakenFlows.{admitted_once}
use Rattle.net_form.specs.Flow.{Edge, flow}
use Rattle.al_laws.specs.Parts.{rest}
use Rattle.al_iter.specs.SettleState.{among}
use Rattle.al_iter.proofs.SettleMarks.{part_all, taken_again, one_in_more}
use Rattle.al_iter.proofs.settle_strands.take_paths.Goals as goal

pub loop-at-preserved : goal.loop-at-preserved
loop-at-preserved c =
    let net = c.args.net.now in
    let strands = c.args.strands.now in
    let i = c.loop-at.at in
    let s = get_or strands i 0 in
    let lt : i < length strands = omega arith in
    record {
      room = c.take_strand.ensures.room;
      marked = taken_again net c.args.routes.now c.requires.routes s
          (c.requires.strands.there i 0 lt) (λ s. not (among (drop i strands) s))
          (λ s. not (among (drop (i + 1) strands) s))
          (one_in_more strands i c.requires.strands.rising lt) c.loop-at.taken
          c.take_strand.new.taken
          (admitted_once net (flow net c.args.routes.now) c.requires.admitted)
          c.loop-at.invariant.marked
          c.take_strand.ensures.takes;
    }

pub returns-clause-marked : goal.returns-clause-marked
returns-clause-marked c =
    let end : length c.args.strands.now ≤ c.loop-at.at = omega arith in
    subst (λ (f : List Edge). StandsFor c.args.net.now c.loop-at.taken f)
    (ap (λ (xs : List ℕ). rest c.args.net.now (among xs) c.args.routes.now)
    (drop_all c.loop-at.at c.args.strands.now end)
    ∙ part_all c.args.net.now c.args.routes.now) c.loop-at.invariant.marked
