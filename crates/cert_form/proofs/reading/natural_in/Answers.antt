use Rattle.std.proofs.Common.{pos}
use Rattle.cert_form.proofs.reading.natural_in.Goals as goal

pub returns-in-None : goal.returns-in-None
returns-in-None c = λ d h x fits e.
    (rw c.in-None.is at h) (pos x) tt e
