use Rattle.std.proofs.Common.{ℤ, List, [], ◌+◌, ◌<◌, take, get_or, length, ◌+ℤ◌}
use Rattle.std.proofs.Common.{refl, ap, sym, subst, ◌∙◌, arith}
use Rattle.std.proofs.lemmas.Int.{ints}
use Rattle.std.proofs.lemmas.List.{take_more, take_all}
use Rattle.pra_base.specs.Places.{number}
use Rattle.pra_base.proofs.PlaceNumbers.{number_below}
use Rattle.net_cost.specs.Models.{weights_of}
use Rattle.net_form.specs.declared.net.BlockEnd.TheVariants.{Entry}
use Rattle.net_form.specs.declared.net.TieEnd.{TieEnd}
use Rattle.al_edge.specs.GroupEnds.{ends_of, counts}
use Rattle.al_edge.specs.Totals.{number_at}
use Rattle.al_edge.specs.Weighed.{IsCostAt, IsSumAt}
use Rattle.al_edge.proofs.Filled.{zero_at, zero_below}
use Rattle.al_edge.proofs.Sums.{nothing_yet, not_counted, counted, all_counted}
use Rattle.al_edge.proofs.weights.totals.Goals as goal

pub loop-end-init : goal.loop-end-init
loop-end-init g c =
    let net = c.args.net.now in
    let w = weights_of c.args.model.now in
    record {
      reserved = c.requires.work;
      family = refl;
      sums = λ p o. subst (IsSumAt net w c.args.prices.now c.args.group p []) (sym (zero_at p))
          (nothing_yet net w c.args.prices.now c.args.group p);
      wide = λ k lt. let z = zero_below k lt in (omega (arith, ints, z), omega (arith, ints, z));
    }

pub loop-end-preserved-then-not-counts : goal.loop-end-preserved-then-not-counts
loop-end-preserved-then-not-counts g c =
    let net = c.args.net.now in
    let w = weights_of c.args.model.now in
    let inv = c.loop-end.invariant in
    let i = c.loop-end.end-index in
    let es = ends_of net c.args.group in
    let none_end : TieEnd = record { strand = 0; end = Entry } in
    let value = c.ends_of-end-items.ensures.value in
    let long = ap length value in
    let inside : i < length es = omega (arith, long, c.loop-end-test.true) in
    let same = ap (λ (es : List TieEnd). counts net c.args.group (get_or es i none_end)) value in
    record {
      reserved = inv.reserved;
      family = inv.family;
      sums = λ p o.
          let z = number_at c.loop-end.totals (number p) in
          subst (λ (es : List TieEnd). IsSumAt net w c.args.prices.now c.args.group p es z)
          (sym (take_more es i none_end inside))
          (not_counted net w c.args.prices.now c.args.group p (take i es) z (inv.sums p o)
          (get_or es i none_end) (sym same ∙ sym c.counts.ensures ∙ c.if-not-counts.true));
      wide = λ k lt. let h = inv.wide k lt in (omega (arith, ints, h), omega (arith, ints, h));
    }

pub loop-end-preserved : goal.loop-end-preserved
loop-end-preserved g c =
    let net = c.args.net.now in
    let w = weights_of c.args.model.now in
    let inv = c.loop-end.invariant in
    let i = c.loop-end.end-index in
    let es = ends_of net c.args.group in
    let none_end : TieEnd = record { strand = 0; end = Entry } in
    let value = c.ends_of-end-items.ensures.value in
    let long = ap length value in
    let inside : i < length es = omega (arith, long, c.loop-end-test.true) in
    let same = ap (λ (es : List TieEnd). counts net c.args.group (get_or es i none_end)) value in
    record {
      reserved = c.costs_at-costs.ensures.reserved;
      family = c.costs_at-costs.ensures.family ∙ inv.family;
      sums = λ p o.
          let z = number_at c.loop-end.totals (number p) in
          let cost = number_at c.costs_at-costs.result (number p) in
          let added = c.add_all.ensures (number p) (number_below p) in
          subst (λ (z : ℤ). IsSumAt net w c.args.prices.now c.args.group p (take (i + 1) es) z)
          (sym added.sum)
          (subst (λ (es : List TieEnd). IsSumAt net w c.args.prices.now c.args.group p es
          (z +ℤ cost)) (sym (take_more es i none_end inside))
          (counted net w c.args.prices.now c.args.group p (take i es) z (inv.sums p o)
          (get_or es i none_end) cost
          (subst (λ (es : List TieEnd). IsCostAt net w c.args.prices.now c.args.group p
          (get_or es i none_end).strand cost) value
          (c.costs_at-costs.ensures.costs p (number_below p) o))
          (sym same ∙ sym c.counts.ensures ∙ c.if-not-counts.false)));
      wide = λ k lt.
          let h = inv.wide k lt in
          let added = c.add_all.ensures k lt in
          let low = added.low in
          let high = added.high in
          (omega (arith, ints, h, low), omega (arith, ints, h, high));
    }

pub returns-clause-totals : goal.returns-clause-totals
returns-clause-totals g c = λ p o.
    let net = c.args.net.now in
    let w = weights_of c.args.model.now in
    let es = ends_of net c.args.group in
    let long = ap length c.ends_of-end-items.ensures.value in
    let all = take_all c.loop-end.end-index es (omega (arith, long, c.loop-end-test.false)) in
    let z = number_at c.loop-end.totals (number p) in
    all_counted net w c.args.prices.now c.args.group p z
    (subst (λ (es : List TieEnd). IsSumAt net w c.args.prices.now c.args.group p es z) all
    (c.loop-end.invariant.sums p o))
