use Rattle.std.proofs.Common.{◌≡◌, true, false, ◌∙◌, sym}
use Rattle.ob_syntax.specs.declared.checked.ROp.{ROp}
use Rattle.ob_syntax.specs.declared.checked.ROp.TheVariants.{Mul, Div, Mod, Both, Add, Sub, Either}
use Rattle.ob_syntax.specs.declared.checked.ROp.TheVariants.{Equal, Unequal, Less, LessEqual}
use Rattle.ob_syntax.specs.declared.checked.ROp.TheVariants.{Greater, GreaterEqual}
use Rattle.vc_expr.specs.Operators.{is_arithmetic, is_relation, is_bitwise}
use Rattle.vc_expr.specs.Division.{is_division}
use Rattle.vc_expr.proofs.operator.select_operator.Goals as goal

-- the last family
last : (op : ROp) → is_arithmetic op ≡ false → is_division op ≡ false → is_bitwise op ≡ false →
    is_relation op ≡ true
last Mul a d b = cc
last Div a d b = cc
last Mod a d b = cc
last Both a d b = cc
last Add a d b = cc
last Sub a d b = cc
last Either a d b = cc
last Equal a d b = cc
last Unequal a d b = cc
last Less a d b = cc
last LessEqual a d b = cc
last Greater a d b = cc
last GreaterEqual a d b = cc

pub select_relation-requires-clause-op : goal.select_relation-requires-clause-op
select_relation-requires-clause-op c =
    last c.args.op (sym c.is_arithmetic.ensures ∙ c.if-is_arithmetic.false)
    (sym c.is_division.ensures ∙ c.if-is_division.false)
    (sym c.is_bitwise.ensures ∙ c.if-is_bitwise.false)
