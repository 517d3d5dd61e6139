use Rattle.std.proofs.Common.{◌≢◌, take, drop, refl}
use Rattle.pra_base.specs.declared.event.TrapKind.{TrapKind}
use Rattle.pra_base.specs.declared.event.TrapKind.TheVariants.{Index, Divide, Input, Stack}
use Rattle.ia_emit.specs.Code.{front, stub, stub_start, StandsAt}
use Rattle.ia_emit.proofs.laws.front_has_its_places.Goals as goal

stands : (trap : TrapKind) → trap ≢ Input → StandsAt front (stub_start trap) (stub trap)
stands Index is = record {
  before = take 2 front;
  behind = drop 4 front;
  parts = refl;
  place =
      refl;
}
stands Divide is = record {
  before = take 4 front;
  behind = drop 6 front;
  parts = refl;
  place =
      refl;
}
stands Stack is = record {
  before = take 6 front;
  behind = drop 8 front;
  parts = refl;
  place =
      refl;
}
stands Input is = absurd (is refl)

pub returns-clause-stubs : goal.returns-clause-stubs
returns-clause-stubs c = stands
