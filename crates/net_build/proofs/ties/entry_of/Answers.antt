use Rattle.std.proofs.Common.{◌+◌, ◌<◌, length, arith}
use Rattle.std.proofs.lemmas.List.{get_or_read}
use Rattle.net_build.proofs.Places.{one_entry, one_place, starts_in_order}
use Rattle.net_build.proofs.ties.entry_of.Goals as goal

pub place_of-requires-clause-within : goal.place_of-requires-clause-within
place_of-requires-clause-within c =
    let starts = c.args.starts.now in
    let b = c.args.block in
    let lt : b < length starts = omega (arith, c.requires.block) in
    let low = get_or_read starts b c.index-low.result.now lt c.index-low.ensures 0 in
    let high = get_or_read starts (b + 1) c.index-high.result.now c.requires.block
    c.index-high.ensures 0 in
    let le = starts_in_order c.args.strands.now b _ _ (c.requires.starts b lt)
    (c.requires.starts (b + 1) c.requires.block) in
    omega (arith, low, high, le)

pub returns-then-is_entry : goal.returns-then-is_entry
returns-then-is_entry c = λ k d lt same. one_entry c.args.strands.now c.args.block c.args.var _ k d
    c.requires.order (c.is_entry.ensures c.if-is_entry.true) lt same

pub returns : goal.returns
returns c = λ k d lt same. one_place c.args.strands.now _ c.place_of.result k d c.requires.order
    c.place_of.ensures.place lt same
