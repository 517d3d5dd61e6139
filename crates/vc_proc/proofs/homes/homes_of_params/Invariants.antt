use Rattle.std.proofs.Common.{◌≡◌, ◌++◌, length, drop}
use Rattle.vc_proc.specs.Opening.{param_kinds, param_homes}
use Rattle.vc_proc.proofs.homes.homes_of_params.Given as goal

-- what is done, with what is left, is the whole
abbrev pub invariant-loop-k : goal.invariant-loop-k
invariant-loop-k l =
    (l.homes.items ++ param_homes l.k (length l.kinds.items) (drop l.k l.params) ≡
    param_homes 0 (length l.fn.kinds.items) l.params)
    × (l.kinds.items ++ param_kinds l.k (drop l.k l.params) ≡ l.fn.kinds.items
    ++ param_kinds 0 l.params)
