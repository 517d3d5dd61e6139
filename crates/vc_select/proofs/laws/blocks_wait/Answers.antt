use Rattle.std.proofs.Common.{sym, ◌∙◌, arith}
use Rattle.vc_select.proofs.ReadyTests.{waits}
use Rattle.vc_select.proofs.laws.blocks_wait.Goals as goal

pub returns-clause-ready : goal.returns-clause-ready
returns-clause-ready c = λ g counts known next old new from low same grows params rules certifies b
    lt off r. waits g counts known next old new from low same grows params rules certifies b lt off
    r

pub returns-clause-awaited : goal.returns-clause-awaited
returns-clause-awaited c = λ known next old new from to same wide others b lt w v is. let x =
    w v (sym (same b v lt) ∙ is) in (omega (arith, x.0, wide), others v x.0 x.1)
