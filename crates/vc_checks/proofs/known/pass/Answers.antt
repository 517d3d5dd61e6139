use Rattle.std.proofs.Common.{List, subst}
use Rattle.std.specs.Prelude.{IfSome, [], ◌∷◌}
use Rattle.pra_base.specs.Code.{kind_of}
use Rattle.vc_checks.specs.declared.fact.Fact.{Fact}
use Rattle.vc_checks.specs.Facts.{Follow}
use Rattle.vc_checks.proofs.Knowing.{pass_follows}
use Rattle.vc_checks.proofs.known.pass.Goals as goal

pub returns : goal.returns
returns c = pass_follows (kind_of c.args.code.now) c.args.instr c.args.known.now.items
    c.forget_results.new.known.items c.learn.new.known.items c.told-news.result
    (subst (λ (fs : List Fact). IfSome c.told-news.result
    (λ f. Follow (kind_of c.args.code.now) c.args.instr fs (f ∷ []))) c.as_slice.ensures.value
    c.told-news.ensures)
    c.forget_results.ensures c.in_ok-learn.ensures
