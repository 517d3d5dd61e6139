use Rattle.al_round.proofs.Bounds.{bound_above_free}
use Rattle.al_round.proofs.laws.bounds_are_above_the_free_bound.Goals as goal

pub returns-clause-best : goal.returns-clause-best
returns-clause-best c = λ net w stages k prices b free are best is_free.
    bound_above_free net w stages are k prices b best free is_free

pub returns-clause-lines : goal.returns-clause-lines
returns-clause-lines c = λ net w stages lines k line free are are_lines there is_free.
    let is = are_lines.each k line there in
    bound_above_free net w stages are k is.prices line.bound is.bound free is_free
