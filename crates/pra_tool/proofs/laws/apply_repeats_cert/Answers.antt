use Rattle.pra_tool.proofs.ApplyAgrees.{apply_repeats_cert}
use Rattle.pra_tool.proofs.laws.apply_repeats_cert.Goals as goal

pub returns : goal.returns
returns c = λ kind asked other source v w s t p a b cert applied at there.
    apply_repeats_cert kind asked other source v w s t cert applied p a b at there
