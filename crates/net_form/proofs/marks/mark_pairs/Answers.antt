use Rattle.std.proofs.Common.{ℕ, ◌≡◌, ◌+◌, ◌-◌, ◌<◌, ◌≤◌, ◌∙◌, List, length, take, get_or, count_by}
use Rattle.std.proofs.Common.{refl, subst, sym, ap, arith}
use Rattle.std.proofs.lemmas.List.{get_or_read, take_all}
use Rattle.net_form.specs.declared.net.Strand.{Strand}
use Rattle.net_form.specs.Admitted.{strand_at, no_strand}
use Rattle.net_form.specs.InUse.{pair_mark, after, in_memory, brings_end}
use Rattle.net_form.proofs.Marking.{after-none, after-twice, pair_mark-small}
use Rattle.pra_list.proofs.Counts.{bit}
use Rattle.net_form.specs.declared.net.Net.{Net}
use Rattle.net_form.specs.declared.net.PairEnd.{PairEnd}
use Rattle.net_form.specs.Formed.{IsFormed}
use Rattle.net_form.proofs.PairUses.{strand_ends, IsEndOf, pairs_long, pairs_end, ends_there}
use Rattle.net_form.proofs.PairUses.{ends_few, ends_within, count_step, all_brought}
use Rattle.net_form.proofs.marks.mark_pairs.Goals as goal

pub index-start-requires : goal.index-start-requires
index-start-requires c = let long = pairs_long c.args.net.now c.requires.net in omega (arith, long)

pub index-stop-requires : goal.index-stop-requires
index-stop-requires c = let long = pairs_long c.args.net.now c.requires.net in omega (arith, long)

pub loop-at-init : goal.loop-at-init
loop-at-init c =
    let net = c.args.net.now in
    let long = pairs_long net c.requires.net in
    let from = get_or_read net.index.pairs c.args.strand c.index-start.result.now
    (omega (arith, long)) c.index-start.ensures 0 in
    record {
      long = refl;
      marks = λ k lt.
          let e : c.index-start.result.now - get_or net.index.pairs c.args.strand 0 ≡ 0 =
          omega (arith, from) in
          sym (after-none c.args.used (pair_mark c.args.mems.now k) _
          (pair_mark-small c.args.mems.now k)
          (ap (λ (n : ℕ). count_by
          (brings_end (in_memory c.args.path.now (strand_at net c.args.strand).first) k)
          (take n (strand_ends net c.args.strand))) e));
    }

-- the end of number `at`, among those of the strand
module _ (net : Net) (formed : IsFormed net) (s at start stop : ℕ) (lt : s < length net.strands)
    (from : start ≡ get_or net.index.pairs s 0) (to : stop ≡ get_or net.index.pairs (s + 1) 0)
    (after_start : start ≤ at) (before_stop : at < stop) where
  abbrev i : ℕ
  i = at - get_or net.index.pairs s 0

  among : i < length (strand_ends net s)
  among = let count = pairs_end net formed s lt in
      omega (arith, count, from, to, after_start, before_stop)

  end_is : (e : PairEnd) → e ≡ get_or net.index.ends at e → e ≡ get_or (strand_ends net s) i e
  end_is e is = is ∙ ap (λ n. get_or net.index.ends n e)
      (let w : at ≡ get_or net.index.pairs s 0 + i = omega (arith, from, after_start) in w)
      ∙ ends_there net formed s i e lt among

  end_within : (e : PairEnd) → e ≡ get_or net.index.ends at e →
      IsEndOf (length net.pairs) (strand_at net s).first (length (strand_at net s).masks) e
  end_within e is = subst (IsEndOf (length net.pairs) (strand_at net s).first
      (length (strand_at net s).masks)) (sym (end_is e is))
      (ends_within net.pairs s (strand_at net s).first (length (strand_at net s).masks) i e among)

pub index-requires-in-loop-at : goal.index-requires-in-loop-at
index-requires-in-loop-at c =
    let net = c.args.net.now in
    let long = pairs_long net c.requires.net in
    let to = get_or_read net.index.pairs (c.args.strand + 1) c.index-stop.result.now
    (omega (arith, long)) c.index-stop.ensures 0 in
    let few = ends_few net c.requires.net c.args.strand c.requires.strand in
    omega (arith, to, few)

pub mark_end-requires : goal.mark_end-requires
mark_end-requires c =
    let net = c.args.net.now in
    let long = pairs_long net c.requires.net in
    let from = get_or_read net.index.pairs c.args.strand c.index-start.result.now
    (omega (arith, long)) c.index-start.ensures 0 in
    let to = get_or_read net.index.pairs (c.args.strand + 1) c.index-stop.result.now
    (omega (arith, long)) c.index-stop.ensures 0 in
    let t = get_or_read net.strands c.args.strand c.index.result.now c.requires.strand
    c.index.ensures no_strand in
    let first = ap (λ (u : Strand). u.first) t in
    let w = end_within net c.requires.net c.args.strand c.loop-at.at c.index-start.result.now
    c.index-stop.result.now c.requires.strand from to c.loop-at.auto.at c.loop-at-test.true
    c.index-in-loop-at.result.now c.index-in-loop-at.ensures in
    let pair = w.pair in
    let after_ = w.after in
    let before = w.before in
    let masks = (c.requires.net.strands c.args.strand no_strand c.requires.strand).masks in
    record {
      pair = omega (arith, pair, c.requires.mems, c.loop-at.invariant.long);
      after = omega (arith, first, after_);
      before = omega (arith, first, before, masks, c.requires.path);
    }

pub loop-at-preserved : goal.loop-at-preserved
loop-at-preserved c =
    let net = c.args.net.now in
    let s = c.args.strand in
    let long = pairs_long net c.requires.net in
    let from = get_or_read net.index.pairs s c.index-start.result.now (omega (arith, long))
    c.index-start.ensures 0 in
    let to = get_or_read net.index.pairs (s + 1) c.index-stop.result.now (omega (arith, long))
    c.index-stop.ensures 0 in
    let t = get_or_read net.strands s c.index.result.now c.requires.strand c.index.ensures
    no_strand in
    let e = c.index-in-loop-at.result.now in
    let is = end_is net c.requires.net s c.loop-at.at c.index-start.result.now
    c.index-stop.result.now c.requires.strand from to c.loop-at.auto.at c.loop-at-test.true e
    c.index-in-loop-at.ensures in
    let at : ℕ = c.loop-at.at - get_or net.index.pairs s 0 in
    let in_ = among net c.requires.net s c.loop-at.at c.index-start.result.now
    c.index-stop.result.now c.requires.strand from to c.loop-at.auto.at c.loop-at-test.true in
    let next : at + 1 ≡ c.loop-at.at + 1 - get_or net.index.pairs s 0 =
    omega (arith, from, c.loop-at.auto.at) in
    let first : c.index.result.now.first ≡ (strand_at net s).first =
    ap (λ (u : Strand). u.first) t in
    record {
      long = c.mark_end.ensures.long ∙ c.loop-at.invariant.long;
      marks = λ k lt.
          let p = brings_end (in_memory c.args.path.now (strand_at net s).first) k in
          let m : ℕ = pair_mark c.args.mems.now k in
          let done : ℕ = count_by p (take at (strand_ends net s)) in
          c.mark_end.ensures.marks k
          ∙ ap (λ (f : ℕ). after c.args.used (pair_mark c.loop-at.mems k)
          (bit (brings_end (in_memory c.args.path.now f) k e))) first
          ∙ ap (λ (n : ℕ). after c.args.used n (bit (p e))) (c.loop-at.invariant.marks k lt)
          ∙ after-twice c.args.used m done (bit (p e))
          ∙ ap (after c.args.used m)
          (ap (λ (x : PairEnd). done + bit (p x)) is
          ∙ sym (count_step p (strand_ends net s) at e in_)
          ∙ ap (λ (n : ℕ). count_by p (take n (strand_ends net s))) next);
    }

pub returns-clause-marks : goal.returns-clause-marks
returns-clause-marks c = λ k lt.
    let net = c.args.net.now in
    let s = c.args.strand in
    let long = pairs_long net c.requires.net in
    let from = get_or_read net.index.pairs s c.index-start.result.now (omega (arith, long))
    c.index-start.ensures 0 in
    let to = get_or_read net.index.pairs (s + 1) c.index-stop.result.now (omega (arith, long))
    c.index-stop.ensures 0 in
    let count = pairs_end net c.requires.net s c.requires.strand in
    let p = brings_end (in_memory c.args.path.now (strand_at net s).first) k in
    let all : length (strand_ends net s) ≤ c.loop-at.at - get_or net.index.pairs s 0 =
    omega (arith, from, to, count, c.loop-at.auto.at-end, c.loop-at-test.false) in
    c.loop-at.invariant.marks k lt
    ∙ ap (λ (es : List PairEnd). after c.args.used (pair_mark c.args.mems.now k) (count_by p es))
    (take_all (c.loop-at.at - get_or net.index.pairs s 0) (strand_ends net s) all)
    ∙ ap (after c.args.used (pair_mark c.args.mems.now k))
    (all_brought net s k c.args.path.now c.requires.net c.requires.strand lt c.requires.path)
