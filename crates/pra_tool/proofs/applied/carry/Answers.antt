use Rattle.std.proofs.Common.{List, subst, sym, ◌∙◌}
use Rattle.pra_compile.specs.declared.given.GivenRoutes.{GivenRoutes}
use Rattle.pra_compile.specs.declared.output.CompileFault.{CompileFault}
use Rattle.pra_compile.specs.CompiledProcs.{IsFault}
use Rattle.pra_compile.specs.Compiled.{IsBuiltBy, IsTooLong, codes_named}
use Rattle.pra_compile.specs.Given.{AdmitsGiven, given_by}
use Rattle.pra_tool.proofs.AppliedCerts.{all_admit, applied, too_long_with}
use Rattle.pra_tool.proofs.applied.carry.Goals as goal

pub compile_codes-requires-clause-takes : goal.compile_codes-requires-clause-takes
compile_codes-requires-clause-takes c = λ p code at.
    subst (λ (given : List GivenRoutes). AdmitsGiven given p code)
    (sym (c.as_slice.ensures.value ∙ c.in_ok-routes.ensures))
    (all_admit c.args.certificate (codes_named c.args.file.procs) c.requires.same
    c.requires.holds p code at)

pub returns-in-Ok-clause-applied : goal.returns-in-Ok-clause-applied
returns-in-Ok-clause-applied c =
    applied c.args.file c.args.certificate c.in-Ok.compiled c.requires.same c.requires.holds
    c.requires.bounded
    (subst (λ (given : List GivenRoutes). IsBuiltBy c.args.file (given_by given) c.in-Ok.compiled)
    (c.as_slice.ensures.value ∙ c.in_ok-routes.ensures) c.in-Ok.ensures.built)

pub returns-in-Err-TooLong-clause-cause : goal.returns-in-Err-TooLong-clause-cause
returns-in-Err-TooLong-clause-cause c = λ other.
    too_long_with c.args.file c.args.certificate c.in-Err-TooLong.count c.requires.same
    c.requires.holds
    (subst (λ (given : List GivenRoutes).
    IsTooLong c.args.file (given_by given) c.in-Err-TooLong.count)
    (c.as_slice.ensures.value ∙ c.in_ok-routes.ensures) (subst (λ (f : CompileFault). IsFault c.args.file (given_by c.as_slice.result.now) f)
    c.in-Err-TooLong.field-0-is c.in-Err-TooLong.ensures.fault))
