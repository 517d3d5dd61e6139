-- What is left, behind what is done, gives what the whole gives.
use Rattle.std.proofs.Common.{◌≡◌, [], drop, map}
use Rattle.ob_syntax.specs.Statements.{each, statement, arm}
use Rattle.ob_check.specs.Judging.{known_at}
use Rattle.ob_check.proofs.statement.+statement.Given as goal

abbrev pub invariant-statements-loop-one : goal.invariant-statements-loop-one
invariant-statements-loop-one l =
    each (known_at l.place) l.done.items (map statement (drop l.one-index l.list)) ≡
    each (known_at l.place) [] (map statement l.list)

abbrev pub invariant-arms-loop-one : goal.invariant-arms-loop-one
invariant-arms-loop-one l =
    each (known_at l.place) l.done.items (map arm (drop l.one-index l.list)) ≡
    each (known_at l.place) [] (map arm l.list)
