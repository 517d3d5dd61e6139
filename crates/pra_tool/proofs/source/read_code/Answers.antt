use Rattle.std.proofs.Common.{ℕ, List, length, Option, subst, arith}
use Rattle.std.specs.Option.{MatchOption}
use Rattle.cert_form.specs.declared.codes.NamedCode.{NamedCode}
use Rattle.pra_compile.specs.Compiled.{codes_named}
use Rattle.pra_tool.specs.Sources.{HaveCodeUpTo, BreaksFirst}
use Rattle.pra_tool.proofs.CodeReads.{code_source}
use Rattle.pra_tool.proofs.source.read_code.Goals as goal

pub returns-in-None-clause-sourced : goal.returns-in-None-clause-sourced
returns-in-None-clause-sourced c =
    let procs = c.as_slice.result.now in
    code_source c.args.bytes.now c.in-Ok.file c.requires c.in-Ok.ensures
    (omega (arith, c.len-count.ensures, c.if-count-gt-MAX_PROCS.false))
    (subst (λ (it : List NamedCode). HaveCodeUpTo (codes_named it) (length it))
    c.as_slice.ensures
    (subst (λ (found : Option ℕ). MatchOption found
    (HaveCodeUpTo (codes_named procs) (length procs)) (BreaksFirst (codes_named procs)))
    c.in-None.is c.in_ok-number.ensures))
