use Rattle.std.proofs.Common.{ℕ, ◌<◌, ◌∙◌, length, All, subst, sym, ap}
use Rattle.net_build.proofs.Indexing.{within}
use Rattle.net_build.proofs.PairEnds.{count_of}
use Rattle.net_build.proofs.index.ends_of.Goals as goal

pub owners_in-requires : goal.owners_in-requires
owners_in-requires c =
    let owners = c.in_ok-owners.owners in
    subst (All (λ (i : ℕ). i < length owners)) (sym c.in_ok-order.ensures)
    (within owners c.args.strands)

pub pair_ends-requires : goal.pair_ends-requires
pair_ends-requires c =
    let owners = c.in_ok-owners.owners in
    let count = ap length c.in_ok-owners.ensures ∙ count_of c.args.pairs.now in
    subst (λ (n : ℕ). All (λ (i : ℕ). i < n) c.in_ok-order.order) count
    (subst (All (λ (i : ℕ). i < length owners)) (sym c.in_ok-order.ensures)
    (within owners c.args.strands))
