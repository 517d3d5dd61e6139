use Rattle.std.proofs.Common.{arith}
use Rattle.vc_live.proofs.SetLemmas.{bit-and_not}
use Rattle.vc_live.proofs.solve.without.Goals as goal

pub returns : goal.returns
returns c = λ i within. bit-and_not c.args.word c.args.other i (omega arith) within
