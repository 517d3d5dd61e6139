use Rattle.std.proofs.Common.{ℕ, ◌≡◌, [], length, replicate, ap, ◌∙◌, arith}
use Rattle.al_edge.proofs.Tables.{none_yield}
use Rattle.al_edge.proofs.yielding.nobody.Goals as goal

pub returns : goal.returns
returns c =
    let net = c.args.net.now in
    let all : c.loop-row._row ≡ length net.strands
    = omega (arith, c.loop-row-test.false, c.loop-row.auto._row-end, c.len-row-end.ensures) in
    none_yield net c.loop-row.table.items
    (c.loop-row.invariant ∙ ap (λ (k : ℕ). replicate k []) all)
