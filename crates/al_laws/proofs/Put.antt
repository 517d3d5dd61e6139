-- Paths put in beside others, when the whole stays admitted.
use Rattle.std.proofs.Common.{ℕ, zero, suc, ◌≡◌, ◌+◌, ◌<◌, ◌≤◌, Bool, true, false, cond}
use Rattle.std.proofs.Common.{length, All, count_by, Some, refl, sym, ap, ◌∙◌, subst, arith}
use Rattle.std.proofs.Common.{inl, inr, ◌⊎◌}
use Rattle.std.specs.Prelude.{IsTrue}
use Rattle.std.proofs.lemmas.Bool.{cases_Bool}
use Rattle.std.proofs.lemmas.List.{get_or_default}
use Rattle.pra_base.specs.declared.ids.Place.{Place}
use Rattle.pra_list.proofs.Counts.{bit}
use Rattle.net_form.specs.declared.net.Tie.{Tie}
use Rattle.net_form.specs.declared.net.Net.{Net}
use Rattle.net_form.specs.declared.routes.Routes.{Routes}
use Rattle.net_form.specs.Flow.{Edge, same_start, arrives, flow, AreRoutes}
use Rattle.net_form.specs.Admitted.{strand_at, no_strand, in_mask, stays_across, uses_bundle}
use Rattle.net_form.specs.Admitted.{uses_memory, KeepsTie, IsAdmitted}
use Rattle.net_form.specs.Cost.{route_at}
use Rattle.net_form.specs.InUse.{AreApart, UsesOnce, pair_at, no_pair}
use Rattle.net_form.specs.Formed.{IsFormed}
use Rattle.net_form.proofs.PlaceEquality.{same_start-true, same_start-refl}
use Rattle.net_form.proofs.RoutesConserve.{flow_conserves}
use Rattle.net_form.proofs.RoutesCost.{flow_at}
use Rattle.net_dual.specs.Paths.{path_in, IsPath}
use Rattle.net_dual.proofs.Strands.{each_is_path}
use Rattle.al_laws.specs.Parts.{part, rest, AgreeBut}
use Rattle.al_laws.proofs.Parts.{flow_sum, rest_agrees, all_of_each}

one_or_other : (m n : ℕ) → m + n ≤ 1 → (m ≡ 0) ⊎ (n ≡ 0)
one_or_other zero n h = inl refl
one_or_other (suc m) n h = inr (omega (arith, h))

-- an admitted flow uses nothing twice, so neither do two parts of it together
pub parts_apart : (net : Net) (mine : ℕ → Bool) (new : Routes) → IsAdmitted net (flow net new)
    → AreApart net (part net mine new) (rest net mine new)
parts_apart net mine new a = record {
  registers = λ n r. one_or_other _ _
      (let sum = flow_sum net new mine (λ e. cond (uses_bundle net n r e) 1 0) in let le = a.bundles
      n r in omega (arith, sum, le));
  pairs = λ k lt. one_or_other _ _
      (let sum = flow_sum net new mine (λ e. cond (uses_memory (pair_at net k) e) 1 0) in
      let le = a.pairs k no_pair lt in omega (arith, sum, le));
}

both_fit : (m n old k : ℕ) → k ≡ m + n → n ≤ old → old ≤ 1 → m ≤ 1 → (m ≡ 0) ⊎ (n ≡ 0) → k ≤ 1
both_fit m n old k sum le one own (inl none) = omega (arith, sum, le, one, none)
both_fit m n old k sum le one own (inr none) = omega (arith, sum, own, none)

-- other paths for mine alone, which use nothing of the others and nothing twice, where ties agree
module _ (net : Net) (formed : IsFormed net) (mine : ℕ
    → Bool) (routes new : Routes) (has : AreRoutes net routes) (goes : AreRoutes net new)
    (agree : AgreeBut mine new routes) (a : IsAdmitted net (flow net routes)) (paths : (s : ℕ)
    → s < length net.strands → mine s ≡ true → IsPath net s (path_in new s)) where
  path_of : (s : ℕ) → s < length net.strands → IsPath net s (path_in new s)
  path_of s lt = elim (cases_Bool (mine s)) as (λ _. IsPath net s (path_in new s)) [
    | inl is ↦ paths s lt is
    | inr other ↦ subst (IsPath net s) (sym (agree s other))
        (each_is_path net routes has a.masks a.across s lt)
  ]

  -- what all others use they have used
  abbrev Fits : (Edge → Bool) → Type 0
  Fits p = (count_by p (part net mine new) ≤ 1)
      → ((count_by p (part net mine new) ≡ 0) ⊎ (count_by p (rest net mine new) ≡ 0))
      → count_by p (flow net routes) ≤ 1
      → count_by p (flow net new) ≤ 1

  fits : (p : Edge → Bool) → Fits p
  fits p once apart was =
      let g : Edge → ℕ = λ e. cond (p e) 1 0 in
      let old = flow_sum net routes mine g in
      let same = rest_agrees net mine new routes goes has agree g in
      both_fit (count_by p (part net mine new)) (count_by p (rest net mine new))
      (count_by p (flow net routes)) (count_by p (flow net new))
      (flow_sum net new mine g) (omega (arith, old, same)) was once apart

  pub put : UsesOnce net (part net mine new) → AreApart net (part net mine new) (rest net mine new)
      → All (KeepsTie net (flow net new)) net.ties → IsAdmitted net (flow net new)
  put once apart ties = record {
    conserves = flow_conserves net.strands new.places (λ k d lt. (formed.strands k d lt).order)
        goes;
    masks = all_of_each net (λ e. IsTrue (in_mask net e)) new (λ s lt. (path_of s lt).masks);
    across = all_of_each net (λ e. IsTrue (stays_across e)) new (λ s lt. (path_of s lt).across);
    bundles = λ n r. fits (uses_bundle net n r) (once.registers n r) (apart.registers n r)
        (a.bundles n r);
    pairs = λ k d lt. subst (λ m. count_by (uses_memory m) (flow net new) ≤ 1)
        (get_or_default net.pairs k no_pair d lt)
        (fits (uses_memory (pair_at net k)) (once.pairs k lt) (apart.pairs k lt)
        (a.pairs k no_pair lt));
    ties = ties;
  }

-- ---- ties by the places of paths

module _ (net : Net) (routes : Routes) (has : AreRoutes net routes) where
  -- as often as the path is there
  pub comes : (s l : ℕ) (q : Place)
      → count_by (arrives s l q) (flow net routes) ≡ bit
      (same_start (route_at net routes s l) (Some q))
  comes s l q = flow_at net.strands routes.places has s l q no_strand

  pub tie_kept : (t : Tie)
      → route_at net routes t.from (strand_at net t.from).last ≡ route_at net routes t.to
      (strand_at net t.to).first → KeepsTie net (flow net routes) t
  tie_kept t same p = comes t.from (strand_at net t.from).last p
      ∙ ap (λ o. bit (same_start o (Some p))) same
      ∙ sym (comes t.to (strand_at net t.to).first p)

  one_bit : (b : Bool) → bit b ≡ 1 → b ≡ true
  one_bit true h = refl
  one_bit false h = absurd (omega (arith, h))

  -- a tie that is kept has one place at both of its ends
  pub kept_tie : (t : Tie) (p : Place) → KeepsTie net (flow net routes) t
      → route_at net routes t.from (strand_at net t.from).last ≡ Some p
      → route_at net routes t.to (strand_at net t.to).first ≡ Some p
  kept_tie t p keeps at =
      let here = ap (λ o. bit (same_start o (Some p))) at in
      let yes = ap bit (same_start-refl (Some p)) in
      let there = comes t.to (strand_at net t.to).first p in
      let out = comes t.from (strand_at net t.from).last p in
      let same = keeps p in
      same_start-true (route_at net routes t.to (strand_at net t.to).first) (Some p)
      (one_bit _ (omega (arith, here, yes, there, out, same)))
