use Rattle.pra_compile.proofs.Done.{there_is, tidied}
use Rattle.pra_compile.proofs.module.tidy_code.Goals as goal

pub leave_out_checks-requires-clause-valid : goal.leave_out_checks-requires-clause-valid
leave_out_checks-requires-clause-valid c =
    let own = there_is c.args.checked.now.procs c.args.number c.requires.there in
    (c.in_ok-selected.ensures.selected own.0 own.1).valid

pub leave_out_checks-requires-clause-sized : goal.leave_out_checks-requires-clause-sized
leave_out_checks-requires-clause-sized c =
    let own = there_is c.args.checked.now.procs c.args.number c.requires.there in
    (c.in_ok-selected.ensures.selected own.0 own.1).sized

pub tidy-requires-clause-valid : goal.tidy-requires-clause-valid
tidy-requires-clause-valid c = c.in-Ok.ensures.preserves.is_valid

pub tidy-requires-clause-sized : goal.tidy-requires-clause-sized
tidy-requires-clause-sized c = c.in-Ok.ensures.preserves.is_sized

pub returns : goal.returns
returns c = tidied c.args.checked.now c.args.number c.in_ok-selected.selected c.in-Ok.lean
    c.in-Ok-tidy.code c.requires.there c.in_ok-selected.ensures.selected c.in-Ok.ensures.leaves
    c.in-Ok.ensures.preserves c.in-Ok-tidy.ensures.preserves c.in-Ok-tidy.ensures.kinds
    c.in-Ok-tidy.ensures.tidy
