use Rattle.pra_compile.proofs.Told.{never_worse}
use Rattle.pra_compile.proofs.laws.lines_never_worsen.Goals as goal

pub returns : goal.returns
returns c = λ wanted net routes prices lines j k l m granted. never_worse wanted net routes prices
    lines granted j k l m
