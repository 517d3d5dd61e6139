use Rattle.vc_select.proofs.Started.{starts}
use Rattle.vc_select.proofs.laws.a_body_starts.Goals as goal

pub returns : goal.returns
returns c = λ g code is grows. starts g code is grows
