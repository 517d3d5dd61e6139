use Rattle.std.proofs.Common.{◌∙◌, sym, arith, true≢false}
use Rattle.net_form.specs.Flow.{flow}
use Rattle.net_form.specs.Admitted.{KeepsTie}
use Rattle.net_gate.proofs.Firsts.{first_fails, one_more}
use Rattle.net_gate.proofs.pairs.first_tie.Goals as goal

pub returns-then-not-keeps_tie : goal.returns-then-not-keeps_tie
returns-then-not-keeps_tie c =
    first_fails (KeepsTie c.args.net.now (flow c.args.net.now c.args.routes.now))
    c.args.net.now.ties c.loop-k.k c.index.result.now (omega arith) c.index.ensures
    (λ keeps. true≢false (sym (c.keeps_tie.ensures.1 keeps) ∙ c.if-not-keeps_tie.true))
    c.loop-k.invariant

pub loop-k-preserved : goal.loop-k-preserved
loop-k-preserved c =
    one_more (KeepsTie c.args.net.now (flow c.args.net.now c.args.routes.now)) c.args.net.now.ties
    c.loop-k.k c.index.result.now (omega arith) c.index.ensures
    (c.keeps_tie.ensures.0 c.if-not-keeps_tie.false) c.loop-k.invariant

pub returns : goal.returns
returns c = λ k d lt. c.loop-k.invariant k d (omega (arith, lt))
