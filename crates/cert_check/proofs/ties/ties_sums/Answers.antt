use Rattle.std.proofs.Common.{◌≡◌, ◌+◌, ◌*◌, ◌<◌, ◌^◌, ◌++◌, ◌∙◌, ℤ, pos, List, length, get_or}
use Rattle.std.proofs.Common.{take, drop, ap, sym, subst, arith}
use Rattle.net_dual.specs.Small.{IsWithin}
use Rattle.cert_check.specs.Tolls.{HasAdded, tied_strand}
use Rattle.cert_check.proofs.TieSums.{ties_more}
use Rattle.cert_check.proofs.Written.{written_back}
use Rattle.cert_check.proofs.ties.ties_sums.Goals as goal

pub loop-tie-preserved : goal.loop-tie-preserved
loop-tie-preserved c =
    let net = c.args.net.now in
    let prices = c.args.prices.now in
    let end = c.args.end in
    let old = c.loop-tie.sums.items in
    let new = c.add_tie.new.sums in
    let n = c.loop-tie.tie in
    let t = c.index.result.now in
    let inv = c.loop-tie.invariant in
    let lt : n < length net.ties = omega arith in
    let value = c.deref_mut.ensures.value in
    let many : length new ≡ length old = c.add_tie.ensures.count ∙ ap length value in
    let whole : take c.loop-tie.sums.len (new ++ drop (length new) old) ≡ new
    = written_back c.loop-tie.sums.len new old many
    (ap length (sym value) ∙ c.deref_mut.ensures.len) in
    let added : HasAdded old prices.ties (tied_strand end t) n 13 new
    = subst (λ k. HasAdded old prices.ties k n 13 new) c.strand_of-strand.ensures
    (subst (λ (xs : List ℤ). HasAdded xs prices.ties c.strand_of-strand.result n 13 new)
    value c.add_tie.ensures.added) in record {
      count = ap length whole ∙ many ∙ inv.count;
      each = λ s j there few. ap (λ (xs : List ℤ). get_or xs (13 * s + j) (pos 0)) whole
          ∙ ties_more net.ties prices end old new n t lt c.index.ensures added s j few
          (inv.each s j there few);
      within = λ k. subst (λ (xs : List ℤ). IsWithin (2 ^ 40 * (n + 1)) (get_or xs k (pos 0)))
          (sym whole) (c.add_tie.ensures.within k);
    }
