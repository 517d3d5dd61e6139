use Rattle.std.proofs.Common.{◌≡◌, ◌<◌, ◌∙◌, ◌&&◌, ℕ, false, None, length, get_or, sym, arith}
use borrow.Author.Count.{below_more}
use Rattle.net_form.specs.Admitted.{uses_memory}
use Rattle.net_form.specs.InUse.{pair_at}
use Rattle.net_path.specs.Grounds.{edge}
use Rattle.net_plain.proofs.Pairs.{none_in_use, one_in_use}
use Rattle.net_plain.proofs.open.are_pairs_free.Goals as goal

pub returns-then-is_pair_in_use : goal.returns-then-is_pair_in_use
returns-then-is_pair_in_use c =
    let net = c.args.net.now in
    let taken = c.args.taken.now in
    let e = edge c.args.spot.strand c.args.spot.layer None c.args.place in
    let lt : c.loop-pair.pair < length net.pairs = omega arith in
    sym (one_in_use net taken e c.loop-pair.pair lt
    (sym c.is_pair_in_use.ensures ∙ c.if-is_pair_in_use.true))

pub loop-pair-preserved : goal.loop-pair-preserved
loop-pair-preserved c =
    let net = c.args.net.now in
    let taken = c.args.taken.now in
    let e = edge c.args.spot.strand c.args.spot.layer None c.args.place in
    below_more (λ (k : ℕ). (uses_memory (pair_at net k) e && get_or taken.mems k false) ≡ false)
    c.loop-pair.pair c.loop-pair.invariant
    (sym c.is_pair_in_use.ensures ∙ c.if-is_pair_in_use.false)

pub returns : goal.returns
returns c =
    let e = edge c.args.spot.strand c.args.spot.layer None c.args.place in
    sym (none_in_use c.args.net.now c.args.taken.now e
    (λ k lt. c.loop-pair.invariant k (omega arith)))
