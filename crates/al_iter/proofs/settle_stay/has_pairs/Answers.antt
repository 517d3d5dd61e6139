use Rattle.std.proofs.Common.{◌≡◌, ◌+◌, ◌∙◌, sym, arith}
use Rattle.std.proofs.lemmas.Bool.Decides.{nat_tests}
use Rattle.std.proofs.lemmas.List.{get_or_read}
use Rattle.net_form.proofs.PairUses.{pairs_long}
use Rattle.al_iter.proofs.settle_stay.has_pairs.Goals as goal

pub index-requires : goal.index-requires
index-requires c = let long = pairs_long c.args.net.now c.requires.net in
    omega (arith, long, c.requires.strand)

pub index-requires-2 : goal.index-requires-2
index-requires-2 c = let long = pairs_long c.args.net.now c.requires.net in
    omega (arith, long, c.requires.strand)

pub returns : goal.returns
returns c = λ no.
    let net = c.args.net.now in
    let s = c.args.strand in
    let lt = c.requires.strand in
    let long = pairs_long net c.requires.net in
    let next = get_or_read net.index.pairs (s + 1) c.index.result.now (omega (arith, lt, long))
    c.index.ensures 0 in
    let own = get_or_read net.index.pairs s c.index-2.result.now (omega (arith, lt, long))
    c.index-2.ensures 0 in
    let same : c.index.result.now ≡ c.index-2.result.now = grind (arith, nat_tests, no) in
    sym next ∙ same ∙ own
