use Rattle.std.proofs.Common.{ℕ, ◌≡◌, ◌+◌, ◌-◌, ◌∷◌, [], get_or, arith, ap, ◌∙◌, refl, sym}
use Rattle.std.specs.List.{range_with_len}
use Rattle.std.proofs.lemmas.Int.{ints}
use Rattle.std.proofs.lemmas.List.{get_or_read}
use Rattle.pra_list.proofs.Growing.{last_range}
use Rattle.net_dual.specs.Priced.{total, tie_price}
use Rattle.net_dual.proofs.Totals.{total-append}
use Rattle.net_path.proofs.ExitTies.{exits_long, exits_order, exits_within, exit_sum}
use Rattle.net_path.proofs.ties.are_exits_free.Goals as goal

pub index-start-requires : goal.index-start-requires
index-start-requires c =
    let long = exits_long c.args.net.now c.requires.net.formed c.requires.net.in_order.ties in
    omega (arith, long, c.requires.strand)

pub index-stop-requires : goal.index-stop-requires
index-stop-requires c =
    let long = exits_long c.args.net.now c.requires.net.formed c.requires.net.in_order.ties in
    omega (arith, long, c.requires.strand)

pub loop-tie-init : goal.loop-tie-init
loop-tie-init c =
    let net = c.args.net.now in
    let s = c.args.strand in
    let long = exits_long net c.requires.net.formed c.requires.net.in_order.ties in
    let from = get_or_read net.index.exits s c.index-start.result.now
    (omega (arith, long, c.requires.strand)) c.index-start.ensures 0 in
    let none : c.index-start.result.now - get_or net.index.exits s 0 ≡ 0 = omega (arith, from) in
    record { after = omega (arith, from); free = rw none (λ q. refl) }

pub is_free-requires : goal.is_free-requires
is_free-requires c =
    let net = c.args.net.now in
    let s = c.args.strand in
    let long = exits_long net c.requires.net.formed c.requires.net.in_order.ties in
    let to = get_or_read net.index.exits (s + 1) c.index-stop.result.now
    (omega (arith, long, c.requires.strand)) c.index-stop.ensures 0 in
    let within =
    exits_within net c.requires.net.formed c.requires.net.in_order.ties s c.requires.strand in
    let ties = c.requires.prices.ties in
    omega (arith, to, within, ties, c.loop-tie-test.true)

pub loop-tie-preserved : goal.loop-tie-preserved
loop-tie-preserved c =
    let net = c.args.net.now in
    let a = get_or net.index.exits c.args.strand 0 in
    let n = c.loop-tie.tie - a in
    let next : c.loop-tie.tie + 1 - a ≡ n + 1 = omega (arith, c.loop-tie.invariant.after) in
    let here : a + n ≡ c.loop-tie.tie = omega (arith, c.loop-tie.invariant.after) in
    record {
      after = omega (arith, c.loop-tie.invariant.after);
      free = rw next (λ q.
          let f = λ (i : ℕ). tie_price c.args.prices.now i q in
          let both = ap (total f) (last_range a n)
          ∙ total-append f (range_with_len a n) ((a + n) ∷ []) in
          let last = ap f here ∙ c.if-not-is_free.ensures refl q in
          let before = c.loop-tie.invariant.free q in
          omega (arith, ints, both, last, before));
    }

pub returns : goal.returns
returns c = λ _ q.
    let net = c.args.net.now in
    let s = c.args.strand in
    let long = exits_long net c.requires.net.formed c.requires.net.in_order.ties in
    let from = get_or_read net.index.exits s c.index-start.result.now
    (omega (arith, long, c.requires.strand)) c.index-start.ensures 0 in
    let to = get_or_read net.index.exits (s + 1) c.index-stop.result.now
    (omega (arith, long, c.requires.strand)) c.index-stop.ensures 0 in
    let order =
    exits_order net c.requires.net.formed c.requires.net.in_order.ties s c.requires.strand in
    let end : c.loop-tie.tie ≡ get_or net.index.exits (s + 1) 0 =
    omega (arith, from, to, order, c.loop-tie-test.false, c.loop-tie.auto.tie-end) in
    sym (exit_sum net c.requires.net.formed c.requires.net.in_order.ties s q c.args.prices.now
    c.requires.strand) ∙ (rw end at (c.loop-tie.invariant.free q))
