use Rattle.std.proofs.Common.{◌≡◌, [], drop}
use Rattle.ob_syntax.specs.Declarations.{all_sections}
use Rattle.ob_check.specs.Judging.{known_at}
use Rattle.ob_check.proofs.declaration.sections.Given as goal

abbrev pub invariant-loop-one : goal.invariant-loop-one
invariant-loop-one l =
    all_sections (known_at l.place) l.params.items (drop l.one-index l.list) ≡
    all_sections (known_at l.initial.place) [] l.list
