use Rattle.std.proofs.Common.{ℕ, ◌+◌, ◌<◌, ◌∙◌, List, length, get_or, count_by, sym}
use Rattle.std.proofs.Common.{arith, ap}
use Rattle.pra_base.specs.declared.ids.Place.{Place}
use Rattle.net_form.specs.Admitted.{strand_at}
use Rattle.net_form.proofs.RoutesConserve.{as_many}
use Rattle.net_form.specs.Bundles.{comes_to_bundle}
use Rattle.net_dual.specs.Paths.{path_edges}
use Rattle.net_dual.proofs.Strands.{each_long}
use Rattle.net_price.specs.Raised.{raised}
use Rattle.net_price.proofs.Raised.{raised-twice, raised-none, words_raised}
use Rattle.net_price.proofs.Raised.{left, left_next, left_none}
use Rattle.net_price.proofs.raise.raise_caps.Goals as goal

pub at-requires : goal.at-requires
at-requires c =
    let many = as_many c.args.net.now.strands c.args.family.now.places c.requires.family in
    let test = c.loop-strand-test.true in
    let end = c.len-strand-end.ensures in
    omega (arith, many, test, end)

pub raise_path-requires : goal.raise_path-requires
raise_path-requires c =
    let net = c.args.net.now in
    let family = c.args.family.now in
    let s = c.loop-strand.strand in
    let inv = c.loop-strand.invariant in
    let test = c.loop-strand-test.true in
    let end = c.len-strand-end.ensures in
    let lt : s < length net.strands = omega (arith, test, end) in
    record {
      caps = inv.long ∙ c.requires.caps;
      words = inv.words;
      net = c.requires.net;
      strand = lt;
      path = ap (λ (ps : List Place). (strand_at net s).first + length ps) c.at.ensures
          ∙ each_long net family c.requires.family s lt;
    }

pub loop-strand-preserved : goal.loop-strand-preserved
loop-strand-preserved c =
    let net = c.args.net.now in
    let family = c.args.family.now in
    let s = c.loop-strand.strand in
    let inv = c.loop-strand.invariant in
    let test = c.loop-strand-test.true in
    let end = c.len-strand-end.ensures in
    let lt : s < length net.strands = omega (arith, test, end) in
    let uses = λ (k : ℕ). count_by (comes_to_bundle net k)
    (path_edges net s c.at.result.now) in
    record {
      long = c.raise_path.ensures.long ∙ inv.long;
      words = words_raised c.args.s uses c.loop-strand.caps c.raise_path.new.caps
          c.raise_path.ensures.long c.raise_path.ensures.raised;
      raised = λ k in_.
          let long = inv.long in
          let p = comes_to_bundle net k in
          let old = get_or c.loop-strand.caps k 0 in
          let more = left p net family (s + 1) in
          ap (λ (n : ℕ). raised c.args.s n more)
          (c.raise_path.ensures.raised k (omega (arith, in_, long)))
          ∙ raised-twice c.args.s old (uses k) more
          ∙ ap (λ (ps : List Place). raised c.args.s old
          (count_by p (path_edges net s ps) + more)) c.at.ensures
          ∙ ap (raised c.args.s old) (sym (left_next p net family s c.requires.family lt))
          ∙ inv.raised k in_;
    }

pub returns-clause-raised : goal.returns-clause-raised
returns-clause-raised c = λ k in_.
    let net = c.args.net.now in
    let inv = c.loop-strand.invariant in
    let within = c.loop-strand.auto.strand-end in
    let past = c.loop-strand-test.false in
    let end = c.len-strand-end.ensures in
    let none = left_none (comes_to_bundle net k) net c.args.family.now c.loop-strand.strand
    (omega (arith, past, end, within)) in
    sym (raised-none c.args.s (get_or c.loop-strand.caps k 0) _ (inv.words k) none)
    ∙ inv.raised k in_
