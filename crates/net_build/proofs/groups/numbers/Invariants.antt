use Rattle.std.proofs.Common.{◌≡◌, map}
use Rattle.std.specs.Prelude.{count_by}
use Rattle.std.specs.List.{range_with_len}
use Rattle.net_build.specs.Grouped.{leading}
use Rattle.net_build.proofs.groups.numbers.Given as goal

abbrev pub invariant-loop-end : goal.invariant-loop-end
invariant-loop-end l = record {
  made : l.made ≡ map (λ e. count_by (leading l.tied l.least) (range_with_len 0 e))
      (range_with_len 0 l.end);
  found : l.found ≡ count_by (leading l.tied l.least) (range_with_len 0 l.end);
}
