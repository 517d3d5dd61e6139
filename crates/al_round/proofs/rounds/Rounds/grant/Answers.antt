use Rattle.std.proofs.Common.{◌≡◌, ◌++◌, ◌∷◌, [], length, sym, ap, subst, ◌∙◌, arith}
use Rattle.std.proofs.lemmas.List.{length_push}
use Rattle.net_cost.specs.Models.{weights_of}
use Rattle.al_round.specs.Watches.{gap_of, verdict_of, WentOn}
use Rattle.al_round.specs.declared.watch.Verdict.TheVariants.{Go}
use Rattle.al_round.proofs.Granted.{goes_on, went_none, went_more, obeyed_stop, obeyed_all}
use Rattle.al_round.proofs.GoneOn.{on_err, gone_nowhere, gone_further}
use Rattle.al_round.proofs.rounds.Rounds.grant.Goals as goal

pub loop-init : goal.loop-init
loop-init g c = record {
  rounds = c.requires.rounds;
  gone_on = gone_nowhere c.args.net.now (weights_of c.args.model.now) c.args.self.now;
  went = went_none (gap_of c.args.watch.now) c.args.n c.args.self.now.lines;
  many = omega arith;
}

pub ask-requires-clause-within : goal.ask-requires-clause-within
ask-requires-clause-within g c =
    (c.loop.invariant.rounds.are.allocated.are_lines.each _ c.last_line.result
    c.last_line.ensures).within

pub returns-in-Stop-clause-obeyed : goal.returns-in-Stop-clause-obeyed
returns-in-Stop-clause-obeyed g c = obeyed_stop (gap_of c.args.watch.now) c.args.n
    c.args.self.now.lines c.loop.self.lines c.loop.invariant.went c.last_line.result
    c.last_line.ensures (sym c.ask.ensures ∙ c.in-Stop.is)

pub loop-preserved : goal.loop-preserved
loop-preserved g c =
    let gap = gap_of c.args.watch.now in
    let n = c.args.n in
    let old = c.args.self.now.lines in
    let before = c.loop.self.lines in
    let line = c.in_ok-round.field-0 in
    let is : c.round.new.self.lines ≡ before ++ line ∷ [] = c.in_ok-round.ensures.line in
    let long = length_push before line in
    let same = ap length is in
    let many = c.loop.invariant.many in
    let test = c.loop-test.true in
    let go : verdict_of gap c.last_line.result ≡ Go
    = sym c.ask.ensures ∙ goes_on c.ask.result c.in_default.not-Stop in
    record {
      rounds = c.in_ok-round.ensures.rounds;
      gone_on = gone_further c.args.net.now (weights_of c.args.model.now) c.args.self.now
          c.loop.self c.round.new.self c.loop.invariant.gone_on c.in_ok-round.ensures.gone_on;
      went = subst (WentOn gap n old) (sym is)
          (went_more gap n old before c.loop.invariant.went c.last_line.result line
          c.last_line.ensures go (omega (arith, many, test)));
      many = omega (arith, long, same, many);
    }

pub returns-clause-obeyed : goal.returns-clause-obeyed
returns-clause-obeyed g c =
    let many = c.loop.invariant.many in
    let past = c.loop-test.false in
    let within = c.loop.auto.counter-end in
    obeyed_all (gap_of c.args.watch.now) c.args.n c.args.self.now.lines c.loop.self.lines
    c.loop.invariant.went (omega (arith, many, past, within))

pub returns-in_err-round-clause-gone_on : goal.returns-in_err-round-clause-gone_on
returns-in_err-round-clause-gone_on g c = gone_further c.args.net.now
    (weights_of c.args.model.now) c.args.self.now c.loop.self c.round.new.self
    c.loop.invariant.gone_on c.in_err-round.ensures.gone_on

pub returns-in_err-round-clause-kept : goal.returns-in_err-round-clause-kept
returns-in_err-round-clause-kept g c = on_err c.from_residual.result
    (subst (WentOn (gap_of c.args.watch.now) c.args.n c.args.self.now.lines)
    (sym c.in_err-round.ensures.same.lines) c.loop.invariant.went)
