use Rattle.std.proofs.Common.{ℕ, ◌≡◌, ◌+◌, ◌-◌, ◌<◌, ◌∷◌, [], ◌+ℤ◌, false, length, take, get_or}
use Rattle.std.proofs.Common.{arith, ap, ◌∙◌, add-one}
use Rattle.std.proofs.lemmas.Int.{ints}
use Rattle.std.proofs.lemmas.List.{get_or_read, take_all, length-take}
use Rattle.std.proofs.Math.Seq.{take-suc}
use Rattle.net_dual.specs.Priced.{total}
use Rattle.net_dual.proofs.Totals.{total-append}
use Rattle.net_dual.proofs.Small.{tie_small}
use Rattle.net_laws.proofs.Arrivals.{few_arrivals}
use Rattle.net_path.specs.Ties.{tie_pay, entry_ties}
use Rattle.net_path.proofs.EntryTies.{entries_long, entries_end, entries_few, arrivals_there}
use Rattle.net_path.proofs.EntryTies.{entries_within, arriving_long}
use Rattle.net_path.proofs.TieSums.{about_sum, none_more, room_left, one_more, pay_about}
use Rattle.net_path.proofs.ties.pay_entries.Goals as goal

pub index-start-requires : goal.index-start-requires
index-start-requires c = let long = entries_long c.args.net.now c.requires.net.formed in
    omega (arith, long, c.requires.strand)

pub index-stop-requires : goal.index-stop-requires
index-stop-requires c = let long = entries_long c.args.net.now c.requires.net.formed in
    omega (arith, long, c.requires.strand)

pub loop-at-init : goal.loop-at-init
loop-at-init c =
    let net = c.args.net.now in
    let s = c.args.strand in
    let long = entries_long net c.requires.net.formed in
    let from = get_or_read net.index.entries s c.index-start.result.now
    (omega (arith, long, c.requires.strand)) c.index-start.ensures 0 in
    let none : c.index-start.result.now - get_or net.index.entries s 0 ≡ 0 = omega (arith, from) in
    record { after = omega (arith, from); paid = rw none (none_more c.args.row.now.costs) }

pub index-tie-requires : goal.index-tie-requires
index-tie-requires c =
    let net = c.args.net.now in
    let s = c.args.strand in
    let long = entries_long net c.requires.net.formed in
    let to = get_or_read net.index.entries (s + 1) c.index-stop.result.now
    (omega (arith, long, c.requires.strand)) c.index-stop.ensures 0 in
    let few = entries_few net c.requires.net.formed s c.requires.strand in
    omega (arith, to, few, c.loop-at-test.true)

pub pay_tie-requires-clause-row : goal.pay_tie-requires-clause-row
pay_tie-requires-clause-row c =
    let net = c.args.net.now in
    let s = c.args.strand in
    let few = few_arrivals net c.requires.net s in
    let long = arriving_long 0 s net.ties in
    let n = c.loop-at.at - get_or net.index.entries s 0 in
    let size = length-take n (entry_ties net s) in
    room_left c.args.row.now.costs c.loop-at.row.costs _ c.requires.row c.loop-at.invariant.paid
    (λ place. let sum = about_sum (λ i. tie_pay c.args.prices.now false i place)
    (take n (entry_ties net s))
    (λ i. pay_about c.args.prices.now false i place
    (tie_small net c.requires.net c.args.prices.now c.requires.prices i place)) in
    (omega (arith, ints, sum, size, few, long), omega (arith, ints, sum, size, few, long)))

pub pay_tie-requires-clause-tie : goal.pay_tie-requires-clause-tie
pay_tie-requires-clause-tie c =
    let net = c.args.net.now in
    let s = c.args.strand in
    let long = entries_long net c.requires.net.formed in
    let to = get_or_read net.index.entries (s + 1) c.index-stop.result.now
    (omega (arith, long, c.requires.strand)) c.index-stop.ensures 0 in
    let end = entries_end net c.requires.net.formed s c.requires.strand in
    let few = entries_few net c.requires.net.formed s c.requires.strand in
    let a = get_or net.index.entries s 0 in
    let j = c.loop-at.at - a in
    let in_ : j < length (entry_ties net s) =
    omega (arith, to, end, c.loop-at-test.true, c.loop-at.invariant.after) in
    let at : c.loop-at.at ≡ a + j = omega (arith, c.loop-at.invariant.after) in
    let read = get_or_read net.index.arrivals c.loop-at.at c.index-tie.result.now
    (omega (arith, to, few, c.loop-at-test.true)) c.index-tie.ensures 0 in
    let is = read ∙ ap (λ (k : ℕ). get_or net.index.arrivals k 0)
    at ∙ arrivals_there net c.requires.net.formed s j c.requires.strand in_ in
    let within = entries_within net c.requires.net.formed s j 0 in_ in
    let ties = c.requires.prices.ties in
    omega (arith, is, within, ties)

pub loop-at-preserved : goal.loop-at-preserved
loop-at-preserved c =
    let net = c.args.net.now in
    let s = c.args.strand in
    let long = entries_long net c.requires.net.formed in
    let to = get_or_read net.index.entries (s + 1) c.index-stop.result.now
    (omega (arith, long, c.requires.strand)) c.index-stop.ensures 0 in
    let end = entries_end net c.requires.net.formed s c.requires.strand in
    let few = entries_few net c.requires.net.formed s c.requires.strand in
    let a = get_or net.index.entries s 0 in
    let j = c.loop-at.at - a in
    let xs = entry_ties net s in
    let in_ : j < length (entry_ties net s) =
    omega (arith, to, end, c.loop-at-test.true, c.loop-at.invariant.after) in
    let at : c.loop-at.at ≡ a + j = omega (arith, c.loop-at.invariant.after) in
    let read = get_or_read net.index.arrivals c.loop-at.at c.index-tie.result.now
    (omega (arith, to, few, c.loop-at-test.true)) c.index-tie.ensures 0 in
    let is : c.index-tie.result.now ≡ get_or xs j 0 =
    read ∙ ap (λ (k : ℕ). get_or net.index.arrivals k 0)
    at ∙ arrivals_there net c.requires.net.formed s j c.requires.strand in_ in
    let next : c.loop-at.at + 1 - a ≡ j + 1 = omega (arith, c.loop-at.invariant.after) in
    let most = few_arrivals net c.requires.net s in
    let number = arriving_long 0 s net.ties in
    let size = length-take j xs in
    record {
      after = omega (arith, c.loop-at.invariant.after);
      paid = rw next (one_more c.args.row.now.costs c.loop-at.row.costs c.pay_tie.new.row.costs _
          (tie_pay c.args.prices.now false c.index-tie.result.now) _ c.requires.row
          (λ place. let sum = about_sum (λ i. tie_pay c.args.prices.now false i place) (take j xs)
          (λ i. pay_about c.args.prices.now false i place
          (tie_small net c.requires.net c.args.prices.now c.requires.prices i place)) in (
            omega (arith, ints, sum, size, most, number),
            omega (arith, ints, sum, size, most, number),
          ))
          (λ place.
          let f = λ (i : ℕ). tie_pay c.args.prices.now false i place in
          let both : total f (take (j + 1) xs)
          ≡ total f (take j xs) +ℤ total f (get_or xs j 0 ∷ []) =
          ap (λ (k : ℕ). total f (take k xs)) (add-one j) ∙ ap (total f) (take-suc xs j 0 in_)
          ∙ total-append f (take j xs) (get_or xs j 0 ∷ []) in
          let last = ap f is in
          omega (arith, ints, both, last))
          c.loop-at.invariant.paid c.pay_tie.ensures);
    }

pub returns : goal.returns
returns c =
    let net = c.args.net.now in
    let s = c.args.strand in
    let long = entries_long net c.requires.net.formed in
    let from = get_or_read net.index.entries s c.index-start.result.now
    (omega (arith, long, c.requires.strand)) c.index-start.ensures 0 in
    let to = get_or_read net.index.entries (s + 1) c.index-stop.result.now
    (omega (arith, long, c.requires.strand)) c.index-stop.ensures 0 in
    let end = entries_end net c.requires.net.formed s c.requires.strand in
    let all = take_all (c.loop-at.at - get_or net.index.entries s 0) (entry_ties net s)
    (omega (arith, from, to, end, c.loop-at-test.false, c.loop-at.auto.at-end)) in
    rw all at c.loop-at.invariant.paid
