use Rattle.ia_simulation.proofs.SampleIsLoadable as loadable
use Rattle.ia_simulation.proofs.laws.some_code_is_loadable.Goals as goal

pub returns-clause-loadable : goal.returns-clause-loadable
returns-clause-loadable c = loadable.sample_is_loadable

pub returns-clause-loaded : goal.returns-clause-loaded
returns-clause-loaded c = loadable.sample_is_loaded
