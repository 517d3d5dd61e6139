use Rattle.std.proofs.Common.{ℕ, ◌≡◌, ◌<◌, ◌≤◌, true, false, not, ◌∙◌, List, length, get_or, sym}
use Rattle.std.proofs.Common.{ap, arith}
use Rattle.std.proofs.lemmas.List.Sums.{prefix_len_is}
use Rattle.net_form.specs.declared.net.Strand.{Strand}
use Rattle.net_form.specs.Admitted.{no_strand}
use Rattle.net_form.specs.Network.{stands_for, strand_of}
use Rattle.net_build.proofs.pairs.strand_of.Goals as goal

module _ (ss : List Strand) (v b l at : ℕ) (within : at ≤ length ss)
    (others : (k : ℕ) (d : Strand) → k < at → stands_for v b l (get_or ss k d) ≡ false) where
  found : (d : Strand) → (at < length ss → stands_for v b l (get_or ss at d) ≡ true) →
      at ≡ strand_of ss v b l
  found d here = sym (prefix_len_is (λ s. not (stands_for v b l s)) ss at d within
      (λ k lt. ap not (others k d lt)) (λ lt. ap not (here lt)))

pub returns-else-not-stands_for : goal.returns-else-not-stands_for
returns-else-not-stands_for c =
    let d = c.index.result.now in
    found c.args.strands.now c.args.var c.args.block c.args.layer c.loop-at.at
    c.loop-at.invariant.within c.loop-at.invariant.others d
    (λ _. sym (ap (stands_for c.args.var c.args.block c.args.layer) c.index.ensures)
    ∙ sym c.stands_for.ensures ∙ c.if-not-stands_for.false)

pub returns-after-loop-at : goal.returns-after-loop-at
returns-after-loop-at c =
    found c.args.strands.now c.args.var c.args.block c.args.layer c.loop-at.at
    c.loop-at.invariant.within c.loop-at.invariant.others no_strand
    (λ lt. absurd (omega (arith, lt, c.loop-at-test.false, c.len-count.ensures, c.requires.few)))
