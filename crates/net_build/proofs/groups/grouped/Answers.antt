use Rattle.std.proofs.Common.{ℕ, zero, suc, ◌≡◌, ◌<◌, ◌∙◌, ◌∷◌, ◌++◌, [], List, take, refl, map}
use Rattle.std.proofs.Common.{length, get_or, sym, ap, arith}
use Rattle.std.specs.List.{range_with_len, enumerate_from}
use Rattle.std.proofs.lemmas.List.FromFn.{fill_by_all}
use Rattle.net_form.specs.declared.net.Strand.{Strand}
use Rattle.net_form.specs.Admitted.{no_strand}
use Rattle.net_build.specs.declared.groups.Groups.{Groups}
use Rattle.net_build.specs.Grouped.{grouped_in}
use Rattle.net_build.proofs.Comprehended.{by_number, map-map}
use Rattle.net_build.proofs.groups.grouped.Goals as goal

all_grouped : (g : Groups) (ss made : List Strand) → length made ≡ length ss
    → ((k : ℕ) (d : Strand) → k < length ss → get_or made k d ≡ grouped_in g (k, get_or ss k d)) →
    made ≡ map (grouped_in g) (enumerate_from 0 ss)
all_grouped g ss made long done =
    fill_by_all (λ k. grouped_in g (k, get_or ss k no_strand)) made (length ss) no_strand long
    (λ k lt. done k no_strand lt)
    ∙ sym (ap (map (grouped_in g)) (by_number no_strand ss) ∙ map-map (grouped_in g)
    (λ k. (k, get_or ss k no_strand)) (range_with_len 0 (length ss)))

taken : (xs ys : List Strand) (n : ℕ) → n ≡ length xs → take n (xs ++ ys) ≡ xs
taken [] ys zero e = refl
taken [] ys (suc n) e = absurd (omega (arith, e))
taken (x ∷ xs) ys zero e = absurd (omega (arith, e))
taken (x ∷ xs) ys (suc n) e = ap (λ r. x ∷ r) (taken xs ys n (omega (arith, e)))

pub returns : goal.returns
returns c =
    let long = c.loop-strand.invariant.long in
    let same = c.loop-strand.auto.strand-items in
    let test = c.loop-strand-test.false in
    let count = c.deref_mut-strand-items.ensures.len in
    let whole : c.into_vec-strands.result.len ≡ length c.loop-strand.strand-items =
    omega (arith, same, count) in
    let all = all_grouped c.args.groups.now c.args.strands c.loop-strand.strand-items long
    (λ k d lt. c.loop-strand.invariant.done k d (omega (arith, test, same, long, lt)) lt) in
    c.from_vec.ensures ∙ taken c.loop-strand.strand-items _ c.into_vec-strands.result.len whole
    ∙ all
