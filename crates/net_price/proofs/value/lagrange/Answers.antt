use Rattle.std.proofs.Common.{ℕ, ◌≡◌, ◌^◌, ◌<◌, length, arith, to_z, of_z, ap, ◌∙◌, subst}
use Rattle.std.specs.Int.{w128}
use Rattle.std.proofs.lemmas.Int.{ints, to_z-of_z}
use Rattle.std.specs.List.{range_with_len}
use Rattle.net_cost.specs.Models.{weights_of}
use Rattle.net_dual.specs.Priced.{total, edge_price}
use Rattle.net_dual.specs.Paths.{path_price, path_in, IsLeast, Anywhere, any_ends}
use Rattle.net_dual.specs.Value.{routes_price}
use Rattle.net_price.proofs.Sums.{family_more, family_least, low_of, high_of}
use Rattle.net_price.proofs.value.lagrange.Goals as goal

-- src/value.rt:62:5
pub loop-strand-preserved : goal.loop-strand-preserved
loop-strand-preserved g c =
    let inv = c.loop-strand.invariant in
    let k = c.loop-strand.strand in
    let before = c.loop-strand.work.family in
    let after = c.renew.new.work.family in
    let others = c.renew.ensures.others in
    let price = edge_price c.args.net.now (weights_of c.args.model.now) c.args.prices.now in
    let more = family_more c.args.net.now price before after k others in
    let whole : to_z w128 (of_z w128 c.add-total.result) ≡ c.add-total.result
    = to_z-of_z w128 c.add-total.result (record { sfits = c.add-total.type_inv }) in
    let cost = c.renew.ensures.cost in
    let sum = c.add-total.ensures.more in
    let old = inv.total in
    let cost_low = low_of c.renew.result (2 ^ 63) c.renew.type_inv in
    let cost_high = high_of c.renew.result (2 ^ 63) c.renew.type_inv in
    let low = inv.low in
    let high = inv.high in
    record {
      path = c.renew.ensures.path ∙ inv.path;
      reserved = c.renew.ensures.reserved;
      least = family_least c.args.net.now price before after k others inv.least
          c.renew.ensures.least;
      total = omega (arith, ints, more, whole, cost, sum, old);
      low = omega (arith, ints, whole, sum, low, cost_low);
      high = omega (arith, ints, whole, sum, high, cost_high);
    }

-- src/value.rt:47:1
pub returns-clause-value : goal.returns-clause-value
returns-clause-value g c =
    let inv = c.loop-strand.invariant in
    let price = edge_price c.args.net.now (weights_of c.args.model.now) c.args.prices.now in
    let family = c.loop-strand.work.family in
    let paid = c.paid.ensures.value in
    let rest = c.less.ensures.rest in
    let whole : to_z w128 (of_z w128 c.less.result) ≡ c.less.result
    = to_z-of_z w128 c.less.result (record { sfits = c.less.type_inv }) in
    let end = c.len-strand-end.ensures in
    let past = c.loop-strand-test.false in
    let within = c.loop-strand.auto.strand-end in
    let all : c.loop-strand.strand ≡ length c.args.net.now.strands
    = omega (arith, end, past, within) in
    let sum : to_z w128 c.loop-strand.total-bits ≡ routes_price c.args.net.now price family
    = inv.total
    ∙ ap
    (λ k. total (λ s. path_price c.args.net.now price s (path_in family s))
    (range_with_len 0 k)) all in
    record {
      least = record {
        many = inv.reserved.family.many;
        each = subst
            (λ k. (s : ℕ) → s < k →
            IsLeast c.args.net.now price any_ends Anywhere s (path_in family s))
            all inv.least;
      };
      is = omega (arith, ints, rest, paid, sum, whole);
    }
