use Rattle.std.proofs.Common.{◌<◌, ◌≤◌, ◌+◌, ℕ, not, List, length, get_or, take, sym, subst, arith}
use Rattle.std.proofs.lemmas.List.{take_all}
use Rattle.net_form.specs.InUse.{StandsFor}
use Rattle.al_laws.specs.Parts.{rest}
use Rattle.al_iter.specs.SettleState.{among}
use Rattle.al_iter.proofs.SettleMarks.{part_all, released, one_out_more}
use Rattle.al_iter.proofs.settle_strands.release_paths.Goals as goal

pub loop-at-init : goal.loop-at-init
loop-at-init c = record {
  room = c.requires.room;
  marked = subst (StandsFor c.args.net.now c.args.taken.now)
      (sym (part_all c.args.net.now c.args.routes.now)) c.requires.marked;
}

pub loop-at-preserved : goal.loop-at-preserved
loop-at-preserved c =
    let net = c.args.net.now in
    let strands = c.args.strands.now in
    let i = c.loop-at.at in
    let s = get_or strands i 0 in
    let lt : i < length strands = omega arith in
    record {
      room = c.release_strand.ensures.room;
      marked = released net c.args.routes.now c.requires.routes s (c.requires.strands.there i 0 lt)
          (λ s. not (among (take (i + 1) strands) s)) (λ s. not (among (take i strands) s))
          (one_out_more strands i c.requires.strands.rising lt) c.loop-at.taken
          c.release_strand.new.taken c.loop-at.invariant.marked c.release_strand.ensures.releases;
    }

pub returns-clause-marked : goal.returns-clause-marked
returns-clause-marked c =
    let end : length c.args.strands.now ≤ c.loop-at.at = omega arith in
    subst (λ (xs : List ℕ). StandsFor c.args.net.now c.loop-at.taken
    (rest c.args.net.now (among xs) c.args.routes.now))
    (take_all c.loop-at.at c.args.strands.now end) c.loop-at.invariant.marked
