-- Limits and storage are those of the reading's parts.
use Rattle.ob_check.proofs.checker.resolve.Goals as goal

pub returns : goal.returns
returns c =
    rw (c.from_vec.ensures, c.from_vec-2.ensures, c.from_vec-3.ensures, c.from_vec-4.ensures)
    at c.measure.ensures
