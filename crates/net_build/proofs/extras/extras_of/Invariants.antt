use Rattle.std.proofs.Common.{◌≡◌, ◌++◌, drop}
use Rattle.std.specs.List.{flat_map, enumerate_from}
use Rattle.net_form.specs.Network.{extras}
use Rattle.net_form.specs.Tables.{all_tables}
use Rattle.net_build.specs.Extras.{strand_extras}
use Rattle.net_build.proofs.extras.extras_of.Given as goal

abbrev pub invariant-loop-number : goal.invariant-loop-number
invariant-loop-number l =
    l.out ++ flat_map (strand_extras l.code) (enumerate_from l.number (drop l.number l.strands)) ≡
    extras all_tables l.code l.strands
