-- Each call looks at one strand less.
use Rattle.std.proofs.Common.{length}
use Rattle.sketch.proofs.paths.+has_places_from.Given as goal

abbrev pub decreases-has_places_from : goal.decreases-has_places_from
decreases-has_places_from l = length l.strands.now
