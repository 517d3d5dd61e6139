use Rattle.pl_place.proofs.SampleIsBehind.{register_is, memory_is}
use Rattle.pl_place.proofs.laws.some_code_is_behind.Goals as goal

pub returns-clause-in_register : goal.returns-clause-in_register
returns-clause-in_register c = register_is

pub returns-clause-in_memory : goal.returns-clause-in_memory
returns-clause-in_memory c = memory_is
