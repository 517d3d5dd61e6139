-- Limits and storage look at few parts of a reading.
use Rattle.std.proofs.Common.{◌≡◌, refl}
use Rattle.ob_syntax.specs.declared.tree.Module.{Module}
use Rattle.ob_syntax.specs.Declarations.{Reading}
use Rattle.ob_syntax.specs.WellFormed.{first_excess, resolved}
use Rattle.ob_measure.specs.declared.draft.DraftModule.{DraftModule}
use Rattle.ob_measure.specs.Measuring.{reading_of}

abbrev pub parts_of : Reading → DraftModule
parts_of r = record {
  types = r.place.types;
  lengths = r.place.lengths;
  nodes = r.place.nodes;
  vars = r.vars;
  procs = r.procs;
}

pub excess-of_parts : (r : Reading) →
    first_excess (reading_of r.place.bytes r.place.tokens (parts_of r)) ≡ first_excess r
excess-of_parts r = refl

pub resolved-of_parts : (m : Module) (r : Reading) →
    resolved m (reading_of r.place.bytes r.place.tokens (parts_of r)) ≡ resolved m r
resolved-of_parts m r = refl
