use Rattle.std.proofs.Common.{ℕ, ◌-◌, ◌∙◌, min, count_by, ap, get_or, arith}
use Rattle.net_form.specs.Bundles.{comes_to_bundle}
use Rattle.net_form.specs.Flow.{flow}
use Rattle.net_dual.specs.Priced.{most_price}
use Rattle.net_price.proofs.Stepped.{words_of, lowered}
use Rattle.net_price.proofs.round.step_caps.Goals as goal

pub raise_caps-requires : goal.raise_caps-requires
raise_caps-requires c = record {
  caps = c.requires.caps;
  words = words_of c.args.caps.now c.requires.most;
  net = c.requires.net;
  family = c.requires.family;
}

pub returns-clause-stepped : goal.returns-clause-stepped
returns-clause-stepped c = λ k lt.
    let long = c.raise_caps.ensures.long in
    c.lower.ensures.lowered k (omega (arith, lt, long))
    ∙ ap (λ (n : ℕ). min (n - c.args.s) most_price) (c.raise_caps.ensures.raised k lt)
    ∙ lowered c.args.s (get_or c.args.caps.now k 0)
    (count_by (comes_to_bundle c.args.net.now k) (flow c.args.net.now c.args.family.now))
    c.requires.step
