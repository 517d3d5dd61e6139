use Rattle.std.proofs.Common.{◌+◌, List, sym, subst}
use Rattle.cert_form.specs.declared.codes.NamedCode.{NamedCode}
use Rattle.pra_compile.specs.Tidied.{IsCodeUpTo}
use Rattle.pra_compile.proofs.Done.{one_named}
use Rattle.pra_compile.proofs.module.code_of_module.Goals as goal

pub loop-number-preserved : goal.loop-number-preserved
loop-number-preserved c =
    let program = c.args.checked.now in
    let n = c.loop-number.number in
    subst (λ (procs : List NamedCode). IsCodeUpTo program (n + 1) procs)
    (sym c.in_ok-push.ensures.ok)
    (one_named program n c.loop-number.procs c.in_ok-named_code.field-0 c.loop-number.invariant
    c.in_ok-named_code.ensures)
