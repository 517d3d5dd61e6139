use Rattle.std.proofs.Common.{arith}
use Rattle.std.proofs.lemmas.Grind.{common_steps}
use Rattle.ob_parse.specs.Reading.{left}
use Rattle.ob_parse.proofs.KindsLeft.{first_is}
use Rattle.ob_parse.proofs.cursor.Parser.peek.Goals as goal

pub returns : goal.returns
unfolding left
returns c = let e = first_is c.args.self.now.tokens.now c.args.self.now.at in
    grind (arith, common_steps)
