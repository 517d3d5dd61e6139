use Rattle.std.proofs.Common.{arith, refl}
use Rattle.ob_parse.proofs.cursor.Parser.span_from.Goals as goal

pub overflow_sub-result : goal.overflow_sub-result
overflow_sub-result c = omega (arith, c.requires)

pub returns : goal.returns
returns c = refl
