-- The procedures of a module, where references to them are given.
use Rattle.std.specs.Prelude.{List, map}
use Rattle.std.specs.Borrow.{Bor}
use Rattle.pra_base.specs.declared.code.VProc.{VProc}

abbrev pub procs_of : List (Bor VProc) → List VProc
procs_of codes = map (λ code. code.now) codes
