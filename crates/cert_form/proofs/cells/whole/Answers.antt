use Rattle.cert_form.proofs.CellsTaken.{no_integer}
use Rattle.cert_form.proofs.cells.whole.Goals as goal

pub returns-in-Float : goal.returns-in-Float
returns-in-Float c = λ n h z fits e.
    no_integer n (rw c.in-Float.is at h) z e
