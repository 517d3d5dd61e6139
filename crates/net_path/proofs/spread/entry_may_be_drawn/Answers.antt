use Rattle.std.proofs.Common.{ℕ, ◌≡◌, ◌+◌, ◌-◌, ◌<◌, ◌∙◌, length, get_or, ap, arith}
use Rattle.std.proofs.lemmas.List.{get_or_read}
use Rattle.net_path.specs.Ties.{entry_ties}
use Rattle.net_path.proofs.EntryTies.{entries_long, entries_end, entries_few, arrivals_there}
use Rattle.net_path.proofs.EntryTies.{entries_within}
use Rattle.net_path.proofs.spread.entry_may_be_drawn.Goals as goal

pub index-start-requires : goal.index-start-requires
index-start-requires c = let long = entries_long c.args.net.now c.requires.net.formed in
    omega (arith, long, c.requires.strand)

pub index-stop-requires : goal.index-stop-requires
index-stop-requires c = let long = entries_long c.args.net.now c.requires.net.formed in
    omega (arith, long, c.requires.strand)

pub index-tie-requires : goal.index-tie-requires
index-tie-requires c =
    let net = c.args.net.now in
    let s = c.args.strand in
    let long = entries_long net c.requires.net.formed in
    let to = get_or_read net.index.entries (s + 1) c.index-stop.result.now
    (omega (arith, long, c.requires.strand)) c.index-stop.ensures 0 in
    let few = entries_few net c.requires.net.formed s c.requires.strand in
    omega (arith, to, few, c.loop-at-test.true)

pub index-requires-in-loop-at : goal.index-requires-in-loop-at
index-requires-in-loop-at c =
    let net = c.args.net.now in
    let s = c.args.strand in
    let long = entries_long net c.requires.net.formed in
    let to = get_or_read net.index.entries (s + 1) c.index-stop.result.now
    (omega (arith, long, c.requires.strand)) c.index-stop.ensures 0 in
    let end = entries_end net c.requires.net.formed s c.requires.strand in
    let few = entries_few net c.requires.net.formed s c.requires.strand in
    let a = get_or net.index.entries s 0 in
    let j = c.loop-at.at - a in
    let in_ : j < length (entry_ties net s) =
    omega (arith, to, end, c.loop-at-test.true, c.loop-at.invariant) in
    let at : c.loop-at.at ≡ a + j = omega (arith, c.loop-at.invariant) in
    let read = get_or_read net.index.arrivals c.loop-at.at c.index-tie.result.now
    (omega (arith, to, few, c.loop-at-test.true)) c.index-tie.ensures 0 in
    let is = read ∙ ap (λ (k : ℕ). get_or net.index.arrivals k 0)
    at ∙ arrivals_there net c.requires.net.formed s j c.requires.strand in_ in
    let within = entries_within net c.requires.net.formed s j 0 in_ in
    omega (arith, is, within)
