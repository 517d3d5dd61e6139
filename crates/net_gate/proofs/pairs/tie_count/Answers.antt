use Rattle.std.proofs.Common.{ℕ, ◌∙◌, get_or, ap, arith}
use Rattle.std.proofs.lemmas.List.{get_or_read}
use Rattle.net_gate.proofs.Ends.{exits_long, exits_end}
use Rattle.net_gate.proofs.pairs.tie_count.Goals as goal

pub index-requires : goal.index-requires
index-requires c = let long = exits_long c.args.net.now c.requires in omega (arith, long)

pub returns : goal.returns
returns c =
    let long = exits_long c.args.net.now c.requires in
    get_or_read c.args.net.now.index.exits c.len.result c.index.result.now (omega (arith, long))
    c.index.ensures 0
    ∙ ap (λ (n : ℕ). get_or c.args.net.now.index.exits n 0) c.len.ensures
    ∙ exits_end c.args.net.now c.requires
