use Rattle.std.proofs.Common.{subst}
use Rattle.pra_compile.proofs.Built.{module_runs, module_built, never_too_long}
use Rattle.al_round.specs.Watches.{gap_of}
use Rattle.net_cost.specs.Models.{weights_of}
use Rattle.pra_compile.specs.Compiled.{granted, wanted_of}
use Rattle.pra_compile.specs.CompiledProcs.{IsFault}
use Rattle.pra_compile.proofs.module.compile_module.Goals as goal

pub compile-requires-clause-runnable : goal.compile-requires-clause-runnable
compile-requires-clause-runnable g c =
    module_runs c.args.checked.now c.in_ok-file.file c.in_ok-file.ensures c.requires.selectable

pub returns-in-Ok : goal.returns-in-Ok
returns-in-Ok g c =
    module_built c.args.checked.now c.in_ok-file.file c.in_ok-file.ensures c.requires.selectable _
    c.in-Ok.compiled c.in-Ok.ensures.built

pub unreachable-requires : goal.unreachable-requires
unreachable-requires g c =
    let fault = c.in-Err-TooLong in
    let leaves = granted (wanted_of (weights_of c.args.model.now) c.args.rounds
    (gap_of c.args.watch.now)) in
    never_too_long c.args.checked.now c.in_ok-file.file c.in_ok-file.ensures c.requires.selectable c.requires.short
    leaves fault.field-0-0
    (subst (λ f. IsFault c.in_ok-file.file leaves f) fault.field-0-is fault.ensures.fault)
