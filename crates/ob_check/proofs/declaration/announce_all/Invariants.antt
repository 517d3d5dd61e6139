use Rattle.std.proofs.Common.{◌≡◌, drop}
use Rattle.ob_syntax.specs.Declarations.{all_announced}
use Rattle.ob_check.specs.Judging.{known_at}
use Rattle.ob_check.proofs.declaration.announce_all.Given as goal

abbrev pub invariant-loop-token : goal.invariant-loop-token
invariant-loop-token l =
    all_announced (known_at l.place) (drop l.token-index l.names) ≡
    all_announced (known_at l.initial.place) l.names
