use Rattle.std.proofs.Common.{◌+◌, ◌<◌, ◌≤◌, length, sym, subst, ◌∙◌, arith}
use Rattle.net_form.specs.Flow.{flow}
use Rattle.net_form.specs.InUse.{StandsFor}
use Rattle.net_form.proofs.TakenFlows.{admitted_once}
use Rattle.al_iter.proofs.SettleMarks.{below, part_none, one_below_more, taken_again, all_below}
use Rattle.al_iter.proofs.settle_passes.mark_routes.Goals as goal

pub loop-strand-init : goal.loop-strand-init
loop-strand-init c = record {
  room = record {
    regs = c.clear.ensures.regs ∙ c.requires.room.regs;
    mems = c.clear.ensures.mems ∙ c.requires.room.mems;
  };
  marked = subst (StandsFor c.args.net.now c.clear.new.self)
      (sym (part_none c.args.net.now c.args.routes.now))
      (c.clear.ensures.nothing c.args.net.now);
}

pub loop-strand-preserved : goal.loop-strand-preserved
loop-strand-preserved c =
    let net = c.args.net.now in
    let s = c.loop-strand.strand in
    let lt : s < length net.strands = omega arith in
    record {
      room = c.take_strand.ensures.room;
      marked = taken_again net c.args.routes.now c.requires.routes s lt (below s) (below (s + 1))
          (one_below_more s) c.loop-strand.taken c.take_strand.new.taken
          (admitted_once net (flow net c.args.routes.now) c.requires.admitted)
          c.loop-strand.invariant.marked
          c.take_strand.ensures.takes;
    }

pub returns-clause-marked : goal.returns-clause-marked
returns-clause-marked c =
    let all : length c.args.net.now.strands ≤ c.loop-strand.strand = omega arith in
    all_below c.args.net.now c.args.routes.now c.requires.routes c.loop-strand.strand all
    c.loop-strand.taken c.loop-strand.invariant.marked
