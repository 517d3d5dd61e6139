-- What is left, behind the procedures that are done, gives what the whole gives.
use Rattle.std.proofs.Common.{◌≡◌, List, [], ◌++◌, drop, map}
use Rattle.ob_syntax.specs.declared.checked.Draft.{Draft}
use Rattle.ob_syntax.specs.Declarations.{all_procedures, procedure}
use Rattle.ob_check.specs.Judging.{known_at}
use Rattle.ob_check.proofs.procedure.+declarations.Given as goal

abbrev pub invariant-declarations-loop-proc : goal.invariant-declarations-loop-proc
invariant-declarations-loop-proc l =
    (done : List Draft)
    × (all_procedures (known_at l.place) done (map procedure (drop l.proc-index l.proc-items)) ≡
    all_procedures (known_at l.initial.place) [] (map procedure l.proc-items))
    × (l.procs.items ≡ l.initial.procs.items ++ done)
