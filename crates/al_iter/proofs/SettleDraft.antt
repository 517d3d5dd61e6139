-- One more strand drafted.
use Rattle.std.proofs.Common.{ℕ, ◌≡◌, ◌≢◌, ◌+◌, ◌<◌, ◌+ℤ◌, List, length, get_or, take, sym}
use Rattle.std.proofs.Common.{ap, subst, arith, inl, inr}
use Rattle.std.proofs.lemmas.Int.{ints}
use Rattle.std.proofs.lemmas.Bool.{cases_eq}
use Rattle.std.proofs.lemmas.List.{length-take, get_or-take, get_or_default}
use Rattle.pra_base.specs.declared.ids.Place.{Place}
use Rattle.net_cost.specs.declared.weights.Weights.{Weights}
use Rattle.net_form.specs.declared.net.Net.{Net}
use Rattle.net_form.specs.declared.routes.Routes.{Routes}
use Rattle.net_form.specs.declared.taken.Taken.{Taken}
use Rattle.net_dual.specs.Paths.{path_in}
use Rattle.net_dual.proofs.Totals.{total-agree}
use Rattle.al_iter.specs.SettleState.{AreStrands}
use Rattle.al_iter.specs.SettleSums.{MayGoTied, IsDraft, free_price, sum_of}
use Rattle.al_iter.proofs.SettleSums.{total_more}

draft_same : (net : Net) (w : Weights) (taken : Taken) (p : Place) (old new : Routes) (s : ℕ)
    → path_in new s ≡ path_in old s → IsDraft net w taken p old s → IsDraft net w taken p new s
draft_same net w taken p old new s same draft = record {
  goes = subst (λ ps. MayGoTied net taken p s ps) (sym same) draft.goes;
  least = λ ps may.
      let le = draft.least ps may in
      let price = ap (free_price net w s) same in
      omega (arith, ints, le, price);
}

module _ (net : Net) (w : Weights) (strands : List ℕ) (are : AreStrands net strands)
    (old new : Routes) (i : ℕ) (lt : i < length strands)
    (others : (s : ℕ) → s ≢ get_or strands i 0 → path_in new s ≡ path_in old s) where
  before : (k d : ℕ) → k < i → path_in new (get_or strands k d) ≡ path_in old (get_or strands k d)
  before k d less = others (get_or strands k d) (λ same.
      let rise = are.rising k i d less lt in
      let here = get_or_default strands i d 0 lt in
      omega (arith, same, rise, here))

  pub drafts_more : (taken : Taken) (p : Place)
      → ((k : ℕ) → k < i → IsDraft net w taken p old (get_or strands k 0))
      → IsDraft net w taken p new (get_or strands i 0) → (k : ℕ) → k < i + 1
      → IsDraft net w taken p new (get_or strands k 0)
  drafts_more taken p drafts last k less = elim (cases_eq k i)
      as (λ _. IsDraft net w taken p new (get_or strands k 0)) [
        | inl same ↦ subst (λ j. IsDraft net w taken p new (get_or strands j 0)) (sym same) last
        | inr other ↦
            let in_ : k < i = omega (arith, less, other) in
            draft_same net w taken p old new (get_or strands k 0) (before k 0 in_) (drafts k in_)
      ]

  pub sum_more : sum_of net w new (take (i + 1) strands)
      ≡ sum_of net w old (take i strands)
      +ℤ free_price net w (get_or strands i 0) (path_in new (get_or strands i 0))
  sum_more =
      let more = total_more (λ s. free_price net w s (path_in new s)) strands i lt in
      let same = total-agree (λ s. free_price net w s (path_in new s))
      (λ s. free_price net w s (path_in old s)) (take i strands)
      (λ k d in_.
      let long = length-take i strands in
      let less : k < i = omega (arith, in_, long) in
      let at = get_or-take i strands k d less in
      subst (λ s. free_price net w s (path_in new s) ≡ free_price net w s (path_in old s)) (sym at)
      (ap (free_price net w (get_or strands k d)) (before k d less))) in
      omega (arith, ints, more, same)
