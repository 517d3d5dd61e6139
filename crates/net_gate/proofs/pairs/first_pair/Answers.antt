use Rattle.std.proofs.Common.{◌∙◌, sym, arith, true≢false}
use Rattle.net_form.specs.Flow.{flow}
use Rattle.net_gate.specs.Broken.{KeepsPair}
use Rattle.net_gate.proofs.Firsts.{first_fails, one_more}
use Rattle.net_gate.proofs.pairs.first_pair.Goals as goal

pub returns-then-not-keeps_pair : goal.returns-then-not-keeps_pair
returns-then-not-keeps_pair c =
    first_fails (KeepsPair (flow c.args.net.now c.args.routes.now)) c.args.net.now.pairs c.loop-k.k
    c.index.result.now (omega arith) c.index.ensures
    (λ keeps. true≢false (sym (c.keeps_pair.ensures.1 keeps) ∙ c.if-not-keeps_pair.true))
    c.loop-k.invariant

pub loop-k-preserved : goal.loop-k-preserved
loop-k-preserved c =
    one_more (KeepsPair (flow c.args.net.now c.args.routes.now)) c.args.net.now.pairs c.loop-k.k
    c.index.result.now (omega arith) c.index.ensures
    (c.keeps_pair.ensures.0 c.if-not-keeps_pair.false) c.loop-k.invariant
