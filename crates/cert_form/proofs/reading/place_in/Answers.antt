use Rattle.std.proofs.Common.{pos}
use Rattle.pra_base.specs.Places.{number}
use Rattle.cert_form.proofs.reading.place_in.Goals as goal

pub returns-in-None : goal.returns-in-None
returns-in-None c = λ d h x fits e.
    (rw c.in-None.is at h) (pos (number x)) tt e
