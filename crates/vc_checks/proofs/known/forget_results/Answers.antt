use Rattle.vc_checks.proofs.Knowing.{not_written}
use Rattle.vc_checks.proofs.known.forget_results.Goals as goal

pub returns : goal.returns
returns c = λ f m.
    let two = c.forget_some-2.ensures f m in
    let one = c.forget_some.ensures f two.0 in (
      one.0,
      not_written c.args.instr c.results-one.result.0 c.results-one.result.1 f.var.0
          c.results-one.ensures one.1 two.1,
    )
