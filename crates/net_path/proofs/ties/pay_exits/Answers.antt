use Rattle.std.proofs.Common.{ℕ, ◌≡◌, ◌+◌, ◌-◌, ◌∷◌, [], true, get_or, arith, ap, ◌∙◌}
use Rattle.std.specs.List.{range_with_len}
use Rattle.std.proofs.lemmas.Int.{ints}
use Rattle.std.proofs.lemmas.List.{get_or_read}
use Rattle.std.proofs.lemmas.List.FromFn.{length-range_with_len}
use Rattle.pra_list.proofs.Growing.{last_range}
use Rattle.net_dual.specs.Priced.{total}
use Rattle.net_dual.proofs.Totals.{total-append}
use Rattle.net_dual.proofs.Small.{tie_small}
use Rattle.net_path.specs.Ties.{tie_pay}
use Rattle.net_path.proofs.ExitTies.{exits_long, exits_order, exits_within, exits_few}
use Rattle.net_path.proofs.TieSums.{about_sum, none_more, room_left, one_more}
use Rattle.net_path.proofs.TieSums.{pay_about}
use Rattle.net_path.proofs.ties.pay_exits.Goals as goal

pub index-start-requires : goal.index-start-requires
index-start-requires c =
    let long = exits_long c.args.net.now c.requires.net.formed c.requires.net.in_order.ties in
    omega (arith, long, c.requires.strand)

pub index-stop-requires : goal.index-stop-requires
index-stop-requires c =
    let long = exits_long c.args.net.now c.requires.net.formed c.requires.net.in_order.ties in
    omega (arith, long, c.requires.strand)

pub loop-tie-init : goal.loop-tie-init
loop-tie-init c =
    let net = c.args.net.now in
    let s = c.args.strand in
    let long = exits_long net c.requires.net.formed c.requires.net.in_order.ties in
    let from = get_or_read net.index.exits s c.index-start.result.now
    (omega (arith, long, c.requires.strand)) c.index-start.ensures 0 in
    let none : c.index-start.result.now - get_or net.index.exits s 0 ≡ 0 = omega (arith, from) in
    record { after = omega (arith, from); paid = rw none (none_more c.args.row.now.costs) }

pub pay_tie-requires-clause-row : goal.pay_tie-requires-clause-row
pay_tie-requires-clause-row c =
    let net = c.args.net.now in
    let s = c.args.strand in
    let long = exits_long net c.requires.net.formed c.requires.net.in_order.ties in
    let to = get_or_read net.index.exits (s + 1) c.index-stop.result.now
    (omega (arith, long, c.requires.strand)) c.index-stop.ensures 0 in
    let few =
    exits_few net c.requires.net.formed c.requires.net.in_order.ties s c.requires.strand in
    let two = c.requires.net.exits s in
    let a = get_or net.index.exits s 0 in
    let n = c.loop-tie.tie - a in
    let size = length-range_with_len a n in
    room_left c.args.row.now.costs c.loop-tie.row.costs _ c.requires.row c.loop-tie.invariant.paid
    (λ place. let sum = about_sum (λ i. tie_pay c.args.prices.now true i place) (range_with_len a n)
    (λ i. pay_about c.args.prices.now true i place
    (tie_small net c.requires.net c.args.prices.now c.requires.prices i place)) in (
      omega (arith, ints, sum, size, to, few, two, c.loop-tie-test.true),
      omega (arith, ints, sum, size, to, few, two, c.loop-tie-test.true),
    ))

pub pay_tie-requires-clause-tie : goal.pay_tie-requires-clause-tie
pay_tie-requires-clause-tie c =
    let net = c.args.net.now in
    let s = c.args.strand in
    let long = exits_long net c.requires.net.formed c.requires.net.in_order.ties in
    let to = get_or_read net.index.exits (s + 1) c.index-stop.result.now
    (omega (arith, long, c.requires.strand)) c.index-stop.ensures 0 in
    let within =
    exits_within net c.requires.net.formed c.requires.net.in_order.ties s c.requires.strand in
    let ties = c.requires.prices.ties in
    omega (arith, to, within, ties, c.loop-tie-test.true)

pub loop-tie-preserved : goal.loop-tie-preserved
loop-tie-preserved c =
    let net = c.args.net.now in
    let s = c.args.strand in
    let long = exits_long net c.requires.net.formed c.requires.net.in_order.ties in
    let to = get_or_read net.index.exits (s + 1) c.index-stop.result.now
    (omega (arith, long, c.requires.strand)) c.index-stop.ensures 0 in
    let few =
    exits_few net c.requires.net.formed c.requires.net.in_order.ties s c.requires.strand in
    let two = c.requires.net.exits s in
    let a = get_or net.index.exits s 0 in
    let n = c.loop-tie.tie - a in
    let size = length-range_with_len a n in
    let next : c.loop-tie.tie + 1 - a ≡ n + 1 = omega (arith, c.loop-tie.invariant.after) in
    let here : a + n ≡ c.loop-tie.tie = omega (arith, c.loop-tie.invariant.after) in
    record {
      after = omega (arith, c.loop-tie.invariant.after);
      paid = rw next (one_more c.args.row.now.costs c.loop-tie.row.costs c.pay_tie.new.row.costs _
          (tie_pay c.args.prices.now true c.loop-tie.tie) _ c.requires.row
          (λ place. let sum = about_sum (λ i. tie_pay c.args.prices.now true i place)
          (range_with_len a n)
          (λ i. pay_about c.args.prices.now true i place
          (tie_small net c.requires.net c.args.prices.now c.requires.prices i place)) in (
            omega (arith, ints, sum, size, to, few, two, c.loop-tie-test.true),
            omega (arith, ints, sum, size, to, few, two, c.loop-tie-test.true),
          ))
          (λ place.
          let f = λ (i : ℕ). tie_pay c.args.prices.now true i place in
          let both = ap (total f) (last_range a n)
          ∙ total-append f (range_with_len a n) ((a + n) ∷ []) in
          let last = ap f here in
          omega (arith, ints, both, last))
          c.loop-tie.invariant.paid c.pay_tie.ensures);
    }

pub returns : goal.returns
returns c =
    let net = c.args.net.now in
    let s = c.args.strand in
    let long = exits_long net c.requires.net.formed c.requires.net.in_order.ties in
    let from = get_or_read net.index.exits s c.index-start.result.now
    (omega (arith, long, c.requires.strand)) c.index-start.ensures 0 in
    let to = get_or_read net.index.exits (s + 1) c.index-stop.result.now
    (omega (arith, long, c.requires.strand)) c.index-stop.ensures 0 in
    let order =
    exits_order net c.requires.net.formed c.requires.net.in_order.ties s c.requires.strand in
    let end : c.loop-tie.tie ≡ get_or net.index.exits (s + 1) 0 =
    omega (arith, from, to, order, c.loop-tie-test.false, c.loop-tie.auto.tie-end) in
    rw end at c.loop-tie.invariant.paid
