use Rattle.std.proofs.Common.{ℕ, ◌-◌, ◌∙◌, min, count_by, ap, get_or, arith}
use Rattle.net_form.specs.Admitted.{uses_memory}
use Rattle.net_form.specs.InUse.{pair_at}
use Rattle.net_form.specs.Flow.{flow}
use Rattle.net_dual.specs.Priced.{most_price}
use Rattle.net_price.proofs.Stepped.{words_of, lowered}
use Rattle.net_price.proofs.round.step_mems.Goals as goal

pub raise_mems-requires : goal.raise_mems-requires
raise_mems-requires c = record {
  mems = c.requires.mems;
  words = words_of c.args.mems.now c.requires.most;
  net = c.requires.net;
  family = c.requires.family;
}

pub returns-clause-stepped : goal.returns-clause-stepped
returns-clause-stepped c = λ k lt.
    let long = c.raise_mems.ensures.long in
    c.lower.ensures.lowered k (omega (arith, lt, long))
    ∙ ap (λ (n : ℕ). min (n - c.args.s) most_price) (c.raise_mems.ensures.raised k lt)
    ∙ lowered c.args.s (get_or c.args.mems.now k 0)
    (count_by (uses_memory (pair_at c.args.net.now k)) (flow c.args.net.now c.args.family.now))
    c.requires.step
