use Rattle.std.proofs.Common.{ℤ, List, ap, ◌∙◌, sym, subst}
use Rattle.net_form.specs.declared.prices.Prices.{Prices}
use Rattle.net_kept.specs.declared.prices.NumberAt.{NumberAt}
use Rattle.net_kept.specs.Numbers.{spread, AreWithin}
use Rattle.net_kept.proofs.SpreadNumbers.{packed_all}
use Rattle.net_kept.proofs.prices.KeptPrices.of.Goals as goal

pub invariant_of-result : goal.invariant_of-result
invariant_of-result c = record {
  long = c.in_ok-indexes.ensures.long;
  within = subst (λ (es : List NumberAt). AreWithin c.ties-2.result es)
      (sym (c.in_ok-indexes.ensures.same ∙ c.deref.ensures.value))
      (c.in_ok-entries.ensures c.ties-2.result c.ties-2.ensures).within;
}

pub returns : goal.returns
returns c =
    let with_ties : List ℤ → Prices
    = λ numbers. record {
      caps = c.args.prices.caps;
      mems = c.args.prices.mems;
      ties = numbers;
    } in
    ap with_ties
    (ap (spread c.ties-2.result) (c.in_ok-indexes.ensures.same ∙ c.deref.ensures.value)
    ∙ packed_all c.ties-2.result c.args.prices.ties c.in_ok-entries.entries.items c.ties-2.ensures
    (c.in_ok-entries.ensures c.ties-2.result c.ties-2.ensures))
