use Rattle.al_laws.proofs.EndsAnywhere.{memory_open}
use Rattle.al_laws.proofs.HomePaths.{home_path}
use Rattle.al_laws.proofs.laws.strands_have_paths.Goals as goal

pub returns-clause-path : goal.returns-clause-path
returns-clause-path c = λ net s built lt. home_path net built s lt

pub returns-clause-memory : goal.returns-clause-memory
returns-clause-memory c = λ net plan g built. memory_open net built plan g
