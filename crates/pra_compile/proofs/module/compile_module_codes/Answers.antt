use Rattle.std.proofs.Common.{subst}
use Rattle.pra_compile.proofs.Built.{module_runs, module_built, never_too_long}
use Rattle.pra_compile.specs.CompiledProcs.{IsFault}
use Rattle.pra_compile.proofs.module.compile_module_codes.Goals as goal

pub compile_codes-requires-clause-runnable : goal.compile_codes-requires-clause-runnable
compile_codes-requires-clause-runnable g c =
    module_runs c.args.checked.now c.args.file c.requires.of_module c.requires.selectable

pub returns-in-Ok-clause-compiled : goal.returns-in-Ok-clause-compiled
returns-in-Ok-clause-compiled g c =
    module_built c.args.checked.now c.args.file c.requires.of_module c.requires.selectable
    (g.A.Allocator.leaves c.args.allocator.now) c.in-Ok.compiled c.in-Ok.ensures.built

pub unreachable-requires : goal.unreachable-requires
unreachable-requires g c =
    let fault = c.in-Err-TooLong in
    never_too_long c.args.checked.now c.args.file c.requires.of_module c.requires.selectable c.requires.short
    (g.A.Allocator.leaves c.args.allocator.now) fault.field-0-0
    (subst (λ f. IsFault c.args.file (g.A.Allocator.leaves c.args.allocator.now) f) fault.field-0-is fault.ensures.fault)
