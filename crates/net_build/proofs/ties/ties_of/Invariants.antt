use Rattle.std.proofs.Common.{◌≡◌, ◌++◌, drop}
use Rattle.std.specs.List.{flat_map, enumerate_from}
use Rattle.net_form.specs.Network.{ties, ties_from}
use Rattle.net_build.proofs.ties.ties_of.Given as goal

abbrev pub invariant-loop-number : goal.invariant-loop-number
invariant-loop-number l =
    l.out ++ flat_map (ties_from l.code l.strands)
    (enumerate_from l.number (drop l.number l.strands)) ≡ ties l.code l.strands
