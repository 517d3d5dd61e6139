use Rattle.std.proofs.Common.{◌∙◌, ◌*◌, ◌<◌, ℤ, pos, List, length, get_or, take}
use Rattle.std.proofs.Common.{ap, sym, arith}
use Rattle.net_kept.specs.declared.prices.NumberAt.{NumberAt}
use Rattle.net_kept.specs.Numbers.{put_number}
use Rattle.net_kept.proofs.SpreadNumbers.{length_spread, spread_none, spread_more}
use Rattle.net_kept.proofs.prices.spread_out.Goals as goal

-- what stands past the end of entries
abbrev no_entry : NumberAt
no_entry = record { index = 0; number = pos 0 }

pub loop-entry-init : goal.loop-entry-init
loop-entry-init c = c.in_ok-numbers.ensures ∙ sym (spread_none c.args.ties)

pub put-requires : goal.put-requires
put-requires c =
    let long = ap length c.loop-entry.invariant in
    let so_many = length_spread c.args.ties (take c.loop-entry.entry-index c.args.entries.now) in
    let at : (get_or c.args.entries.now c.loop-entry.entry-index no_entry).index
    < 13 * c.args.ties
    = c.requires c.loop-entry.entry-index no_entry c.loop-entry-test.true in
    omega (arith, long, so_many, at)

pub loop-entry-preserved : goal.loop-entry-preserved
loop-entry-preserved c =
    let i = c.loop-entry.entry-index in
    let entries = c.args.entries.now in
    c.put.ensures
    ∙ ap (λ (numbers : List ℤ). put_number numbers (get_or entries i no_entry))
    c.loop-entry.invariant
    ∙ sym (spread_more c.args.ties entries i no_entry c.loop-entry-test.true)
