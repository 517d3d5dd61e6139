use Rattle.std.proofs.Common.{length}
use Rattle.pl_build.proofs.laying.+add_places.Given as goal

abbrev pub decreases-add_places : goal.decreases-add_places
decreases-add_places l = length l.roles.now
