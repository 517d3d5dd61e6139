use Rattle.std.proofs.Common.{refl}
use Rattle.ob_parse.specs.Reading.{left}
use Rattle.ob_parse.proofs.cursor.Parser.new.Goals as goal

pub returns-clause-left : goal.returns-clause-left
unfolding left
returns-clause-left c = refl

pub returns-clause-place : goal.returns-clause-place
returns-clause-place c = refl
