use Rattle.std.proofs.Common.{◌≡◌, drop}
use Rattle.ob_syntax.specs.Declarations.{all_constants}
use Rattle.ob_check.specs.Judging.{known_at}
use Rattle.ob_check.proofs.declaration.constants.Given as goal

abbrev pub invariant-loop-decl : goal.invariant-loop-decl
invariant-loop-decl l =
    all_constants (known_at l.place) (drop l.decl-index l.decls) ≡
    all_constants (known_at l.initial.place) l.decls
