use Rattle.std.proofs.Common.{ℕ, ◌≡◌, ◌+◌, ◌-◌, Bool, false, cond, pos, length, get_or, refl, subst}
use Rattle.std.proofs.Common.{ap, arith, length-set}
use Rattle.std.proofs.lemmas.Int.{ints}
use Rattle.std.proofs.lemmas.List.{get_or_read, take_all}
use Rattle.net_form.specs.declared.net.Strand.{Strand}
use Rattle.net_form.specs.Admitted.{strand_at, no_strand}
use Rattle.net_form.proofs.Layers.{in_layers}
use Rattle.net_form.proofs.PairUses.{pairs_long, pairs_end}
use Rattle.net_dual.proofs.Small.{mem_small}
use Rattle.net_path.specs.declared.crossbar.Row.{Row}
use Rattle.net_path.specs.Ends.{IsOneEnd, mem_number, strand_ends}
use Rattle.net_path.specs.Rows.{costs_at}
use Rattle.net_path.specs.Ways.{at}
use Rattle.net_path.proofs.EndSums.{ends_few}
use Rattle.net_path.proofs.EndsThere.{place, among, in_ends, end_is, end_within, next_place}
use Rattle.net_path.proofs.EndsThere.{no_ends, rows_pay}
use Rattle.net_path.proofs.pairs.pay_pairs.Goals as goal

pub index-start-requires : goal.index-start-requires
index-start-requires c = let long = pairs_long c.args.net.now c.requires.net.formed in
    omega (arith, long)

pub index-stop-requires : goal.index-stop-requires
index-stop-requires c = let long = pairs_long c.args.net.now c.requires.net.formed in
    omega (arith, long)

pub loop-at-init : goal.loop-at-init
loop-at-init c =
    let net = c.args.net.now in
    let s = c.args.strand in
    let long = pairs_long net c.requires.net.formed in
    let from = get_or_read net.index.pairs s c.index-start.result.now (omega (arith, long))
    c.index-start.ensures 0 in
    let none : c.index-start.result.now - get_or net.index.pairs s 0 ≡ 0 = omega (arith, from) in
    record {
      long = refl;
      paid = rw none
          (no_ends c.args.prices.now c.args.taken.now (strand_at net s).first c.args.rows.now);
    }

pub index-end-requires : goal.index-end-requires
index-end-requires c =
    let net = c.args.net.now in
    let s = c.args.strand in
    let long = pairs_long net c.requires.net.formed in
    let from = get_or_read net.index.pairs s c.index-start.result.now (omega (arith, long))
    c.index-start.ensures 0 in
    let to = get_or_read net.index.pairs (s + 1) c.index-stop.result.now (omega (arith, long))
    c.index-stop.ensures 0 in
    in_ends net c.requires.net.formed s c.loop-at.at c.index-start.result.now
    c.index-stop.result.now c.requires.strand from to c.loop-at.auto.at c.loop-at-test.true

pub index-price-requires : goal.index-price-requires
index-price-requires c =
    let net = c.args.net.now in
    let s = c.args.strand in
    let long = pairs_long net c.requires.net.formed in
    let from = get_or_read net.index.pairs s c.index-start.result.now (omega (arith, long))
    c.index-start.ensures 0 in
    let to = get_or_read net.index.pairs (s + 1) c.index-stop.result.now (omega (arith, long))
    c.index-stop.ensures 0 in
    let w = end_within net c.requires.net.formed s c.loop-at.at c.index-start.result.now
    c.index-stop.result.now c.requires.strand from to c.loop-at.auto.at c.loop-at-test.true
    c.index-end.result.now c.index-end.ensures in
    let pair = w.pair in
    omega (arith, pair, c.requires.prices.mems)

pub overflow_sub-row : goal.overflow_sub-row
overflow_sub-row c =
    let net = c.args.net.now in
    let s = c.args.strand in
    let long = pairs_long net c.requires.net.formed in
    let from = get_or_read net.index.pairs s c.index-start.result.now (omega (arith, long))
    c.index-start.ensures 0 in
    let to = get_or_read net.index.pairs (s + 1) c.index-stop.result.now (omega (arith, long))
    c.index-stop.ensures 0 in
    let w = end_within net c.requires.net.formed s c.loop-at.at c.index-start.result.now
    c.index-stop.result.now c.requires.strand from to c.loop-at.auto.at c.loop-at-test.true
    c.index-end.result.now c.index-end.ensures in
    let after = w.after in
    let first = ap (λ (t : Strand). t.first) (get_or_read net.strands s c.index.result.now
    c.requires.strand c.index.ensures no_strand) in
    omega (arith, after, first)

pub bounds-rows-end : goal.bounds-rows-end
bounds-rows-end c =
    let net = c.args.net.now in
    let s = c.args.strand in
    let long = pairs_long net c.requires.net.formed in
    let from = get_or_read net.index.pairs s c.index-start.result.now (omega (arith, long))
    c.index-start.ensures 0 in
    let to = get_or_read net.index.pairs (s + 1) c.index-stop.result.now (omega (arith, long))
    c.index-stop.ensures 0 in
    let w = end_within net c.requires.net.formed s c.loop-at.at c.index-start.result.now
    c.index-stop.result.now c.requires.strand from to c.loop-at.auto.at c.loop-at-test.true
    c.index-end.result.now c.index-end.ensures in
    let before = w.before in
    let after = w.after in
    let first = ap (λ (t : Strand). t.first) (get_or_read net.strands s c.index.result.now
    c.requires.strand c.index.ensures no_strand) in
    let masks = (c.requires.net.formed.strands s no_strand c.requires.strand).masks in
    omega (arith, before, after, first, masks, c.requires.rows, c.loop-at.invariant.long)

pub index-requires-in-loop-at : goal.index-requires-in-loop-at
index-requires-in-loop-at c =
    let net = c.args.net.now in
    let s = c.args.strand in
    let long = pairs_long net c.requires.net.formed in
    let from = get_or_read net.index.pairs s c.index-start.result.now (omega (arith, long))
    c.index-start.ensures 0 in
    let to = get_or_read net.index.pairs (s + 1) c.index-stop.result.now (omega (arith, long))
    c.index-stop.ensures 0 in
    let w = end_within net c.requires.net.formed s c.loop-at.at c.index-start.result.now
    c.index-stop.result.now c.requires.strand from to c.loop-at.auto.at c.loop-at-test.true
    c.index-end.result.now c.index-end.ensures in
    let pair = w.pair in
    omega (arith, pair, c.requires.taken.mems)

pub pay_pair-requires : goal.pay_pair-requires
pay_pair-requires c =
    let net = c.args.net.now in
    let s = c.args.strand in
    let long = pairs_long net c.requires.net.formed in
    let from = get_or_read net.index.pairs s c.index-start.result.now (omega (arith, long))
    c.index-start.ensures 0 in
    let to = get_or_read net.index.pairs (s + 1) c.index-stop.result.now (omega (arith, long))
    c.index-stop.ensures 0 in
    let w = end_within net c.requires.net.formed s c.loop-at.at c.index-start.result.now
    c.index-stop.result.now c.requires.strand from to c.loop-at.auto.at c.loop-at-test.true
    c.index-end.result.now c.index-end.ensures in
    let pair = w.pair in
    let price =
    get_or_read c.args.prices.now.mems c.index-end.result.now.pair c.index-price.result.now
    (omega (arith, pair, c.requires.prices.mems)) c.index-price.ensures 0 in
    let small = mem_small net c.requires.net c.args.prices.now c.requires.prices
    c.index-end.result.now.pair in
    omega (arith, price, small)

pub loop-at-preserved : goal.loop-at-preserved
loop-at-preserved c =
    let net = c.args.net.now in
    let s = c.args.strand in
    let prices = c.args.prices.now in
    let taken = c.args.taken.now in
    let long = pairs_long net c.requires.net.formed in
    let from = get_or_read net.index.pairs s c.index-start.result.now (omega (arith, long))
    c.index-start.ensures 0 in
    let to = get_or_read net.index.pairs (s + 1) c.index-stop.result.now (omega (arith, long))
    c.index-stop.ensures 0 in
    let e = c.index-end.result.now in
    let i = place net c.requires.net.formed s c.loop-at.at c.index-start.result.now
    c.index-stop.result.now c.requires.strand from to c.loop-at.auto.at c.loop-at-test.true in
    let in_ = among net c.requires.net.formed s c.loop-at.at c.index-start.result.now
    c.index-stop.result.now c.requires.strand from to c.loop-at.auto.at c.loop-at-test.true in
    let is = end_is net c.requires.net.formed s c.loop-at.at c.index-start.result.now
    c.index-stop.result.now c.requires.strand from to c.loop-at.auto.at c.loop-at-test.true e
    c.index-end.ensures in
    let w = end_within net c.requires.net.formed s c.loop-at.at c.index-start.result.now
    c.index-stop.result.now c.requires.strand from to c.loop-at.auto.at c.loop-at-test.true e
    c.index-end.ensures in
    let next = next_place net c.requires.net.formed s c.loop-at.at c.index-start.result.now
    c.index-stop.result.now c.requires.strand from to c.loop-at.auto.at c.loop-at-test.true in
    let pair = w.pair in
    let before = w.before in
    let after = w.after in
    let first = ap (λ (t : Strand). t.first) (get_or_read net.strands s c.index.result.now
    c.requires.strand c.index.ensures no_strand) in
    let masks = (c.requires.net.formed.strands s no_strand c.requires.strand).masks in
    let layers = c.requires.net.formed.layers in
    let within = in_layers net c.requires.net.formed s c.requires.strand in
    let price = get_or_read prices.mems e.pair c.index-price.result.now
    (omega (arith, pair, c.requires.prices.mems)) c.index-price.ensures 0 in
    let used = get_or_read taken.mems e.pair c.index-in-loop-at.result.now
    (omega (arith, pair, c.requires.taken.mems)) c.index-in-loop-at.ensures false in
    let n : ℕ = e.layer - c.index.result.now.first in
    let few = ends_few net.pairs s (strand_at net s).first (length (strand_at net s).masks)
    (c.requires.net.one_end s) in
    let one = subst (λ (p : ℕ). IsOneEnd (cond c.index-in-loop-at.result.now (pos 1) (pos 0))
    (pos p) (at (costs_at c.loop-at.rows n) 6) (at c.pay_pair.new.row.costs 6)) price
    c.pay_pair.ensures.memory in
    let two = subst (λ (b : Bool). IsOneEnd (cond b (pos 1) (pos 0)) (mem_number prices e.pair)
    (at (costs_at c.loop-at.rows n) 6) (at c.pay_pair.new.row.costs 6)) used one in
    record {
      long = omega (arith, length-set {A = Row}, c.loop-at.invariant.long);
      paid = rw next (rows_pay prices taken (λ k. let small = mem_small net c.requires.net prices
          c.requires.prices k in (omega (arith, ints), omega (arith, ints, small)))
          (strand_at net s).first i (strand_ends net s) e in_
          (omega (arith, few, masks, within, layers)) is c.args.rows.now c.loop-at.rows
          c.pay_pair.new.row n
          (omega (arith, before, after, first, masks, c.requires.rows, c.loop-at.invariant.long))
          c.loop-at.invariant.long (omega (arith, after, first)) c.loop-at.invariant.paid
          c.pay_pair.ensures.others two);
    }

pub returns : goal.returns
returns c =
    let net = c.args.net.now in
    let s = c.args.strand in
    let long = pairs_long net c.requires.net.formed in
    let from = get_or_read net.index.pairs s c.index-start.result.now (omega (arith, long))
    c.index-start.ensures 0 in
    let to = get_or_read net.index.pairs (s + 1) c.index-stop.result.now (omega (arith, long))
    c.index-stop.ensures 0 in
    let count = pairs_end net c.requires.net.formed s c.requires.strand in
    let all = take_all (c.loop-at.at - get_or net.index.pairs s 0) (strand_ends net s)
    (omega (arith, from, to, count, c.loop-at-test.false, c.loop-at.auto.at-end)) in
    rw all at c.loop-at.invariant.paid
