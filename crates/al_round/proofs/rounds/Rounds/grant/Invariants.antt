use Rattle.std.proofs.Common.{◌≡◌, ◌+◌, length}
use Rattle.net_cost.specs.Models.{weights_of}
use Rattle.al_round.specs.Rounds.{AreRounds, HaveGoneOn}
use Rattle.al_round.specs.Watches.{gap_of, WentOn}
use Rattle.al_round.proofs.rounds.Rounds.grant.Given as goal

abbrev pub invariant-loop : goal.invariant-loop
invariant-loop g l = record {
  rounds : AreRounds l.net (weights_of l.model) l.self;
  gone_on : HaveGoneOn l.net (weights_of l.model) l.initial.self l.self;
  went : WentOn (gap_of l.watch) l.n l.initial.self.lines l.self.lines;
  many : length l.self.lines ≡ length l.initial.self.lines + l.counter;
}
