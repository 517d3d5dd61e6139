use Rattle.std.proofs.Common.{List, Bool, nat_eq, ap, ◌∙◌}
use Rattle.pl_build.specs.Slots.{marked}
use Rattle.pl_build.proofs.Marked.{set_mark, keep_mark}
use Rattle.pl_build.proofs.slots.mark.Goals as goal

pub returns-then-not-comes-clause-marks : goal.returns-then-not-comes-clause-marks
returns-then-not-comes-clause-marks c = λ v. keep_mark (marked c.args.marks.now v)
    (nat_eq c.args.var.0 v) c.args.comes c.if-not-comes.true

pub returns-clause-marks : goal.returns-clause-marks
returns-clause-marks c = λ v. ap (λ (ms : List Bool). marked ms v) c.set.ensures
    ∙ set_mark c.args.marks.now c.args.var.0 v c.args.comes c.requires c.if-not-comes.false
