-- What is still to be done with an operand: a chain of operators as the list of its operators, the
-- last one first, with what each one's right side is worth.
use Rattle.std.specs.Prelude.{List, [], ◌∷◌}
use Rattle.ob_syntax.specs.Operators.{negated, inverted}
use Rattle.ob_syntax.specs.Types.{Worth, worth_of_one, worth_of_both}
use Rattle.ob_check.specs.declared.constant.Pending.{Pending}
use Rattle.ob_check.specs.declared.constant.Pending.TheVariants.{Negate, Not, Operate}

-- one operator on what its operand, or its left one, is worth
abbrev pub applied : Pending → Worth → Worth
applied Negate w = worth_of_one negated w
applied Not w = worth_of_one inverted w
applied (Operate op right) w = worth_of_both op w right

-- all of them, the last of the list first
abbrev pub all_applied : List Pending → Worth → Worth
all_applied [] w = w
all_applied (one ∷ more) w = applied one (all_applied more w)
