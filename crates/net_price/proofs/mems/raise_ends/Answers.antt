use Rattle.std.proofs.Common.{ℕ, ◌≡◌, ◌+◌, ◌-◌, ◌≤◌, ◌∙◌, length, drop, get_or}
use Rattle.std.proofs.Common.{count_by, refl, sym, ap, arith}
use Rattle.std.proofs.lemmas.List.{get_or_read, drop_more, drop_all}
use Rattle.net_form.specs.declared.net.Strand.{Strand}
use Rattle.net_form.specs.declared.net.PairEnd.{PairEnd}
use Rattle.net_form.specs.Admitted.{strand_at, no_strand}
use Rattle.net_form.specs.InUse.{in_memory, brings_end}
use Rattle.pra_list.proofs.Counts.{bit, count-cons}
use Rattle.net_form.proofs.PairUses.{strand_ends, pairs_long, pairs_end, all_brought}
use Rattle.net_path.proofs.EndsThere.{among, in_ends, end_is, end_within}
use Rattle.net_price.specs.Raised.{raised}
use Rattle.net_price.proofs.Raised.{raised-twice, raised-none, words_raised}
use Rattle.net_price.proofs.mems.raise_ends.Goals as goal

pub index-start-requires : goal.index-start-requires
index-start-requires c =
    let long = pairs_long c.args.net.now c.requires.net in omega (arith, long)

pub index-stop-requires : goal.index-stop-requires
index-stop-requires c =
    let long = pairs_long c.args.net.now c.requires.net in omega (arith, long)

pub loop-at-init : goal.loop-at-init
loop-at-init c =
    let net = c.args.net.now in
    let s = c.args.strand in
    let long = pairs_long net c.requires.net in
    let from = get_or_read net.index.pairs s c.index-start.result.now (omega (arith, long))
    c.index-start.ensures 0 in
    let first = (strand_at net s).first in
    let none : c.index-start.result.now - get_or net.index.pairs s 0 ≡ 0
    = omega (arith, from) in
    record {
      long = refl;
      words = c.requires.words;
      raised = λ k lt. ap (λ (n : ℕ). raised c.args.s (get_or c.args.mems.now k 0)
          (count_by (brings_end (in_memory c.args.path.now first) k)
          (drop n (strand_ends net s)))) none;
    }

pub index-requires-in-loop-at : goal.index-requires-in-loop-at
index-requires-in-loop-at c =
    let net = c.args.net.now in
    let s = c.args.strand in
    let long = pairs_long net c.requires.net in
    let from = get_or_read net.index.pairs s c.index-start.result.now (omega (arith, long))
    c.index-start.ensures 0 in
    let to = get_or_read net.index.pairs (s + 1) c.index-stop.result.now (omega (arith, long))
    c.index-stop.ensures 0 in
    in_ends net c.requires.net s c.loop-at.at c.index-start.result.now c.index-stop.result.now
    c.requires.strand from to c.loop-at.auto.at c.loop-at-test.true

pub raise_end-requires : goal.raise_end-requires
raise_end-requires c =
    let net = c.args.net.now in
    let s = c.args.strand in
    let long = pairs_long net c.requires.net in
    let from = get_or_read net.index.pairs s c.index-start.result.now (omega (arith, long))
    c.index-start.ensures 0 in
    let to = get_or_read net.index.pairs (s + 1) c.index-stop.result.now (omega (arith, long))
    c.index-stop.ensures 0 in
    let t = get_or_read net.strands s c.index.result.now c.requires.strand c.index.ensures
    no_strand in
    let first = ap (λ (u : Strand). u.first) t in
    let w = end_within net c.requires.net s c.loop-at.at c.index-start.result.now
    c.index-stop.result.now c.requires.strand from to c.loop-at.auto.at c.loop-at-test.true
    c.index-in-loop-at.result.now c.index-in-loop-at.ensures in
    let pair = w.pair in
    let after_ = w.after in
    let before = w.before in
    let masks = (c.requires.net.strands s no_strand c.requires.strand).masks in
    record {
      pair = omega (arith, pair, c.requires.mems, c.loop-at.invariant.long);
      after = omega (arith, first, after_);
      before = omega (arith, first, before, masks, c.requires.path);
      words = c.loop-at.invariant.words;
    }

pub loop-at-preserved : goal.loop-at-preserved
loop-at-preserved c =
    let net = c.args.net.now in
    let s = c.args.strand in
    let inv = c.loop-at.invariant in
    let long = pairs_long net c.requires.net in
    let from = get_or_read net.index.pairs s c.index-start.result.now (omega (arith, long))
    c.index-start.ensures 0 in
    let to = get_or_read net.index.pairs (s + 1) c.index-stop.result.now (omega (arith, long))
    c.index-stop.ensures 0 in
    let t = get_or_read net.strands s c.index.result.now c.requires.strand c.index.ensures
    no_strand in
    let e = c.index-in-loop-at.result.now in
    let start = c.index-start.result.now in
    let stop = c.index-stop.result.now in
    let is = end_is net c.requires.net s c.loop-at.at start stop c.requires.strand from to
    c.loop-at.auto.at c.loop-at-test.true e c.index-in-loop-at.ensures in
    let in_ = among net c.requires.net s c.loop-at.at start stop c.requires.strand from to
    c.loop-at.auto.at c.loop-at-test.true in
    let ends = strand_ends net s in
    let at : ℕ = c.loop-at.at - get_or net.index.pairs s 0 in
    let next : c.loop-at.at + 1 - get_or net.index.pairs s 0 ≡ at + 1
    = omega (arith, from, c.loop-at.auto.at) in
    let first : c.index.result.now.first ≡ (strand_at net s).first
    = ap (λ (u : Strand). u.first) t in
    let brings = λ (k : ℕ) (f : ℕ). brings_end (in_memory c.args.path.now f) k in
    record {
      long = c.raise_end.ensures.long ∙ inv.long;
      words = words_raised c.args.s (λ k. bit (brings k c.index.result.now.first e))
          c.loop-at.mems c.raise_end.new.mems c.raise_end.ensures.long
          c.raise_end.ensures.raised;
      raised = λ k lt.
          let same = inv.long in
          let old = get_or c.loop-at.mems k 0 in
          let p = brings k (strand_at net s).first in
          let left = λ (n : ℕ). count_by p (drop n ends) in
          let split : left at ≡ bit (p e) + left (at + 1)
          = ap (count_by p) (drop_more ends at e in_)
          ∙ count-cons p (get_or ends at e) (drop (at + 1) ends)
          ∙ ap (λ (x : PairEnd). bit (p x) + left (at + 1)) (sym is) in
          ap (λ (n : ℕ). raised c.args.s (get_or c.raise_end.new.mems k 0) (left n)) next
          ∙ ap (λ (n : ℕ). raised c.args.s n (left (at + 1)))
          (c.raise_end.ensures.raised k (omega (arith, lt, same))
          ∙ ap (λ (f : ℕ). raised c.args.s old (bit (brings k f e))) first)
          ∙ raised-twice c.args.s old (bit (p e)) (left (at + 1))
          ∙ ap (raised c.args.s old) (sym split)
          ∙ inv.raised k lt;
    }

pub returns-clause-raised : goal.returns-clause-raised
returns-clause-raised c = λ k lt.
    let net = c.args.net.now in
    let s = c.args.strand in
    let inv = c.loop-at.invariant in
    let long = pairs_long net c.requires.net in
    let from = get_or_read net.index.pairs s c.index-start.result.now (omega (arith, long))
    c.index-start.ensures 0 in
    let to = get_or_read net.index.pairs (s + 1) c.index-stop.result.now (omega (arith, long))
    c.index-stop.ensures 0 in
    let count = pairs_end net c.requires.net s c.requires.strand in
    let ends = strand_ends net s in
    let p = brings_end (in_memory c.args.path.now (strand_at net s).first) k in
    let at : ℕ = c.loop-at.at - get_or net.index.pairs s 0 in
    let all : length ends ≤ at
    = omega (arith, from, to, count, c.loop-at.auto.at-end, c.loop-at-test.false) in
    let none : count_by p (drop at ends) ≡ 0 = ap (count_by p) (drop_all at ends all) in
    sym (raised-none c.args.s (get_or c.loop-at.mems k 0) _ (inv.words k) none)
    ∙ inv.raised k lt
    ∙ ap (raised c.args.s (get_or c.args.mems.now k 0))
    (all_brought net s k c.args.path.now c.requires.net c.requires.strand
    (omega (arith, lt, c.requires.mems)) c.requires.path)
