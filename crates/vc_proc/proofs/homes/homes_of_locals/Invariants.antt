use Rattle.std.proofs.Common.{◌≡◌, ◌++◌, length, drop}
use Rattle.vc_proc.specs.Opening.{local_kinds, local_homes}
use Rattle.vc_proc.proofs.homes.homes_of_locals.Given as goal

-- what is done, with what is left, is the whole
abbrev pub invariant-loop-local : goal.invariant-loop-local
invariant-loop-local l =
    (l.homes.items ++ local_homes (length l.kinds.items) (drop l.local-index l.locals) ≡
    local_homes (length l.fn.kinds.items) l.locals)
    × (l.kinds.items ++ local_kinds (drop l.local-index l.locals) ≡ l.fn.kinds.items
    ++ local_kinds l.locals)
