use Rattle.std.proofs.Common.{ℕ, ℤ, ◌≡◌, ◌+◌, ◌-◌, ◌<◌, ◌∷◌, [], ◌+ℤ◌, ◌-ℤ◌, pos, length, take}
use Rattle.std.proofs.Common.{get_or, arith, ap, ◌∙◌, add-one, refl, sym}
use Rattle.std.proofs.lemmas.Int.{ints}
use Rattle.std.proofs.lemmas.List.{get_or_read, take_all}
use Rattle.std.proofs.Math.Seq.{take-suc}
use Rattle.net_dual.specs.Priced.{total, tie_price}
use Rattle.net_dual.proofs.Totals.{total-append}
use Rattle.net_path.specs.Ties.{entry_ties}
use Rattle.net_path.proofs.EntryTies.{entries_long, entries_end, entries_few, arrivals_there}
use Rattle.net_path.proofs.EntryTies.{entries_within, entry_sum}
use Rattle.net_path.proofs.ties.are_entries_free.Goals as goal

pub index-start-requires : goal.index-start-requires
index-start-requires c = let long = entries_long c.args.net.now c.requires.net.formed in
    omega (arith, long, c.requires.strand)

pub index-stop-requires : goal.index-stop-requires
index-stop-requires c = let long = entries_long c.args.net.now c.requires.net.formed in
    omega (arith, long, c.requires.strand)

pub loop-at-init : goal.loop-at-init
loop-at-init c =
    let net = c.args.net.now in
    let s = c.args.strand in
    let long = entries_long net c.requires.net.formed in
    let from = get_or_read net.index.entries s c.index-start.result.now
    (omega (arith, long, c.requires.strand)) c.index-start.ensures 0 in
    let none : c.index-start.result.now - get_or net.index.entries s 0 ≡ 0 = omega (arith, from) in
    record { after = omega (arith, from); free = rw none (λ q. refl) }

pub index-tie-requires : goal.index-tie-requires
index-tie-requires c =
    let net = c.args.net.now in
    let s = c.args.strand in
    let long = entries_long net c.requires.net.formed in
    let to = get_or_read net.index.entries (s + 1) c.index-stop.result.now
    (omega (arith, long, c.requires.strand)) c.index-stop.ensures 0 in
    let few = entries_few net c.requires.net.formed s c.requires.strand in
    omega (arith, to, few, c.loop-at-test.true)

pub is_free-requires : goal.is_free-requires
is_free-requires c =
    let net = c.args.net.now in
    let s = c.args.strand in
    let long = entries_long net c.requires.net.formed in
    let to = get_or_read net.index.entries (s + 1) c.index-stop.result.now
    (omega (arith, long, c.requires.strand)) c.index-stop.ensures 0 in
    let end = entries_end net c.requires.net.formed s c.requires.strand in
    let few = entries_few net c.requires.net.formed s c.requires.strand in
    let a = get_or net.index.entries s 0 in
    let j = c.loop-at.at - a in
    let in_ : j < length (entry_ties net s) =
    omega (arith, to, end, c.loop-at-test.true, c.loop-at.invariant.after) in
    let at : c.loop-at.at ≡ a + j = omega (arith, c.loop-at.invariant.after) in
    let read = get_or_read net.index.arrivals c.loop-at.at c.index-tie.result.now
    (omega (arith, to, few, c.loop-at-test.true)) c.index-tie.ensures 0 in
    let is = read ∙ ap (λ (k : ℕ). get_or net.index.arrivals k 0)
    at ∙ arrivals_there net c.requires.net.formed s j c.requires.strand in_ in
    let within = entries_within net c.requires.net.formed s j 0 in_ in
    let ties = c.requires.prices.ties in
    omega (arith, is, within, ties)

pub loop-at-preserved : goal.loop-at-preserved
loop-at-preserved c =
    let net = c.args.net.now in
    let s = c.args.strand in
    let long = entries_long net c.requires.net.formed in
    let to = get_or_read net.index.entries (s + 1) c.index-stop.result.now
    (omega (arith, long, c.requires.strand)) c.index-stop.ensures 0 in
    let end = entries_end net c.requires.net.formed s c.requires.strand in
    let few = entries_few net c.requires.net.formed s c.requires.strand in
    let a = get_or net.index.entries s 0 in
    let j = c.loop-at.at - a in
    let xs = entry_ties net s in
    let in_ : j < length (entry_ties net s) =
    omega (arith, to, end, c.loop-at-test.true, c.loop-at.invariant.after) in
    let at : c.loop-at.at ≡ a + j = omega (arith, c.loop-at.invariant.after) in
    let read = get_or_read net.index.arrivals c.loop-at.at c.index-tie.result.now
    (omega (arith, to, few, c.loop-at-test.true)) c.index-tie.ensures 0 in
    let is : c.index-tie.result.now ≡ get_or xs j 0 =
    read ∙ ap (λ (k : ℕ). get_or net.index.arrivals k 0)
    at ∙ arrivals_there net c.requires.net.formed s j c.requires.strand in_ in
    let next : c.loop-at.at + 1 - a ≡ j + 1 = omega (arith, c.loop-at.invariant.after) in
    record {
      after = omega (arith, c.loop-at.invariant.after);
      free = rw next (λ q.
          let f = λ (i : ℕ). tie_price c.args.prices.now i q in
          let both : total f (take (j + 1) xs)
          ≡ total f (take j xs) +ℤ total f (get_or xs j 0 ∷ []) =
          ap (λ (k : ℕ). total f (take k xs)) (add-one j) ∙ ap (total f) (take-suc xs j 0 in_)
          ∙ total-append f (take j xs) (get_or xs j 0 ∷ []) in
          let last = sym (ap f is) ∙ c.if-not-is_free.ensures refl q in
          let before = c.loop-at.invariant.free q in
          omega (arith, ints, both, last, before));
    }

pub returns : goal.returns
returns c = λ _ q.
    let net = c.args.net.now in
    let s = c.args.strand in
    let long = entries_long net c.requires.net.formed in
    let from = get_or_read net.index.entries s c.index-start.result.now
    (omega (arith, long, c.requires.strand)) c.index-start.ensures 0 in
    let to = get_or_read net.index.entries (s + 1) c.index-stop.result.now
    (omega (arith, long, c.requires.strand)) c.index-stop.ensures 0 in
    let end = entries_end net c.requires.net.formed s c.requires.strand in
    let all = take_all (c.loop-at.at - get_or net.index.entries s 0) (entry_ties net s)
    (omega (arith, from, to, end, c.loop-at-test.false, c.loop-at.auto.at-end)) in
    ap (λ (z : ℤ). pos 0 -ℤ z) (sym (entry_sum net c.requires.net.formed c.args.prices.now s q)
    ∙ (rw all at (c.loop-at.invariant.free q)))
