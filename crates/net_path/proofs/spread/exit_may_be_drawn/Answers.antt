use Rattle.std.proofs.Common.{◌+◌, arith}
use Rattle.std.proofs.lemmas.List.{get_or_read}
use Rattle.net_path.proofs.ExitTies.{exits_long, exits_within}
use Rattle.net_path.proofs.spread.exit_may_be_drawn.Goals as goal

pub index-start-requires : goal.index-start-requires
index-start-requires c =
    let long = exits_long c.args.net.now c.requires.net.formed c.requires.net.in_order.ties in
    omega (arith, long, c.requires.strand)

pub index-stop-requires : goal.index-stop-requires
index-stop-requires c =
    let long = exits_long c.args.net.now c.requires.net.formed c.requires.net.in_order.ties in
    omega (arith, long, c.requires.strand)

pub index-requires-in-loop-tie : goal.index-requires-in-loop-tie
index-requires-in-loop-tie c =
    let net = c.args.net.now in
    let s = c.args.strand in
    let long = exits_long net c.requires.net.formed c.requires.net.in_order.ties in
    let to = get_or_read net.index.exits (s + 1) c.index-stop.result.now
    (omega (arith, long, c.requires.strand)) c.index-stop.ensures 0 in
    let within =
    exits_within net c.requires.net.formed c.requires.net.in_order.ties s c.requires.strand in
    omega (arith, to, within, c.loop-tie-test.true)
