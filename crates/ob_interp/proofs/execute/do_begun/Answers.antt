use Rattle.ob_interp.proofs.execute.do_begun.Goals as goal

pub returns-in-If-clause-goes : goal.returns-in-If-clause-goes
returns-in-If-clause-goes c = rw c.in-If.is c.choose.ensures

pub returns-in-While-clause-goes : goal.returns-in-While-clause-goes
returns-in-While-clause-goes c = rw c.in-While.is c.while_test.ensures

pub returns-in-Until-clause-goes : goal.returns-in-Until-clause-goes
returns-in-Until-clause-goes c = rw c.in-Until.is c.until_test.ensures
