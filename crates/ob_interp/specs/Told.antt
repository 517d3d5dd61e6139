-- What is told of a counted run.
use Rattle.ob_interp.specs.Units.{Counted, Halt, Done, Failed, Stopped}
use Rattle.ob_interp.specs.declared.interpret.UnitEnding.{UnitEnding}
use Rattle.ob_interp.specs.declared.interpret.UnitEnding.TheVariants.{Going, Ended, Trap}
use Rattle.ob_interp.specs.declared.interpret.UnitOut.{UnitOut}

abbrev pub told_at : Counted → UnitEnding → UnitOut
told_at c ending = record {
  events = c.state.events;
  ending = ending;
  units = c.units;
  reads = c.state.taken;
}

abbrev pub told : Halt → UnitOut
told (Done c) = told_at c Ended
told (Failed trap c) = told_at c (Trap trap)
told (Stopped c) = told_at c Going
