use Rattle.ia_step.proofs.Conditions.{sum_right, difference_right, product_right}
use Rattle.ia_step.proofs.laws.overflow_tells.Goals as goal

pub returns-clause-sum : goal.returns-clause-sum
returns-clause-sum c = sum_right

pub returns-clause-difference : goal.returns-clause-difference
returns-clause-difference c = difference_right

pub returns-clause-product : goal.returns-clause-product
returns-clause-product c = product_right
