-- What is broken, and what is admitted.
use Rattle.std.proofs.Common.{ℕ, ◌≡◌, ◌<◌, ◌≤◌, List, length, All, count_by, Some, None}
use Rattle.std.proofs.Common.{MatchOption, subst, arith, inl, inr}
use Rattle.std.proofs.lemmas.Bool.{cases_lt}
use Rattle.std.proofs.lemmas.List.Elements.{All-weaker}
use Rattle.std.proofs.lemmas.Option.{slice_get_past}
use Rattle.pra_base.specs.declared.ids.Place.{Place}
use Rattle.pra_base.specs.Places.{number}
use Rattle.net_form.specs.declared.net.Strand.{Strand}
use Rattle.net_form.specs.declared.net.Net.{Net}
use Rattle.net_form.specs.declared.routes.Routes.{Routes}
use Rattle.net_form.specs.Flow.{Edge, flow, AreRoutes}
use Rattle.net_form.specs.Admitted.{IsAdmitted, uses_bundle, in_mask, stays_across, KeepsTie}
use Rattle.net_form.specs.Formed.{IsFormed, IsStrandOf}
use Rattle.net_form.proofs.RoutesConserve.{flow_conserves}
use Rattle.net_gate.specs.declared.broken.Broken.{Broken}
use Rattle.net_gate.specs.declared.broken.Broken.TheVariants.{Mask, Edge as Across, Bundle, Memory}
use Rattle.net_gate.specs.declared.broken.Broken.TheVariants.{Tie}
use Rattle.net_gate.specs.declared.broken.EdgeRule.TheVariants.{InMask, StaysAcross}
use Rattle.net_gate.specs.Broken.{breaks, kind, numbers, IsBefore, IsBroken, IsFirstBroken}
use Rattle.net_gate.specs.Broken.{IsFirstAbove, IsFirstFailing, FailsAt, KeepsPair}
use Rattle.net_gate.proofs.EdgeRules.{all_pass, none_fail}
use Rattle.net_gate.proofs.Firsts.{passes_at}

never_fails : {X : Type 0} (P : X → Type 0) (xs : List X) (d : X) → All P xs → (k : ℕ) →
    ¬ FailsAt P xs k
never_fails P xs d all k fails = elim (cases_lt k (length xs)) as (λ _. ⊥) [
  | inl lt ↦ passes_at P xs k d lt (all k d lt) fails
  | inr le ↦ subst (λ o. MatchOption o ⊥ (λ x. ¬ P x)) (slice_get_past xs k le) fails
]

module _ (net : Net) (f : List Edge) where
  -- what is broken is not admitted
  pub not_admitted : (b : Broken) → IsBroken net f b → ¬ IsAdmitted net f
  not_admitted (Mask s l) broken admitted = let none =
      none_fail (in_mask net) f s l admitted.masks in omega (arith, broken, none)
  not_admitted (Across s l) broken admitted = let none =
      none_fail stays_across f s l admitted.across in omega (arith, broken, none)
  not_admitted (Bundle n r) broken admitted = let few = admitted.bundles n (number r) in
      omega (arith, broken, few)
  not_admitted (Memory k) broken admitted = never_fails (KeepsPair f) net.pairs
      (record { left = 0; left_layer = 0; right = 0; right_layer = 0 }) admitted.pairs k broken
  not_admitted (Tie k) broken admitted = never_fails (KeepsTie net f) net.ties
      (record { from = 0; to = 0 }) admitted.ties k broken

  -- nothing of the kinds before this one is broken
  abbrev pub Clean : ℕ → Type 0
  Clean n = (a : Broken) → kind a < n → ¬ IsBroken net f a

  pub clean_masks : IsFirstAbove 0 (λ s l. count_by (breaks net InMask s l) f) None → Clean 1
  clean_masks none (Mask s l) lt = λ broken. let few = none s l in omega (arith, few, broken)
  clean_masks none (Across s l) lt = absurd (omega (arith, lt))
  clean_masks none (Bundle n r) lt = absurd (omega (arith, lt))
  clean_masks none (Memory k) lt = absurd (omega (arith, lt))
  clean_masks none (Tie k) lt = absurd (omega (arith, lt))

  pub clean_across : Clean 1 → IsFirstAbove 0 (λ s l. count_by (breaks net StaysAcross s l) f)
      None → Clean 2
  clean_across clean none (Mask s l) lt = clean (Mask s l) (omega arith)
  clean_across clean none (Across s l) lt = λ broken. let few = none s l in
      omega (arith, few, broken)
  clean_across clean none (Bundle n r) lt = absurd (omega (arith, lt))
  clean_across clean none (Memory k) lt = absurd (omega (arith, lt))
  clean_across clean none (Tie k) lt = absurd (omega (arith, lt))

  pub clean_bundles : Clean 2 → IsFirstAbove 1 (λ n r. count_by (uses_bundle net n r) f) None →
      Clean 3
  clean_bundles clean none (Mask s l) lt = clean (Mask s l) (omega arith)
  clean_bundles clean none (Across s l) lt = clean (Across s l) (omega arith)
  clean_bundles clean none (Bundle n r) lt = λ broken. let few = none n (number r) in
      omega (arith, few, broken)
  clean_bundles clean none (Memory k) lt = absurd (omega (arith, lt))
  clean_bundles clean none (Tie k) lt = absurd (omega (arith, lt))

  pub clean_pairs : Clean 3 → All (KeepsPair f) net.pairs → Clean 4
  clean_pairs clean all (Mask s l) lt = clean (Mask s l) (omega arith)
  clean_pairs clean all (Across s l) lt = clean (Across s l) (omega arith)
  clean_pairs clean all (Bundle n r) lt = clean (Bundle n r) (omega arith)
  clean_pairs clean all (Memory k) lt = never_fails (KeepsPair f) net.pairs
      (record { left = 0; left_layer = 0; right = 0; right_layer = 0 }) all k
  clean_pairs clean all (Tie k) lt = absurd (omega (arith, lt))

  first_by : (b : Broken) → IsBroken net f b → Clean (kind b) →
      ((a : Broken) → kind a ≡ kind b → IsBefore (numbers a) (numbers b) → ¬ IsBroken net f a) →
      IsFirstBroken net f b
  first_by b broken clean same = (
    broken,
    λ a before. elim before as (λ _. ¬ IsBroken net f a)
        [ inl lt ↦ clean a lt | inr more ↦ same a more.0 more.1 ],
  )

  nothing_before : Clean 0
  nothing_before a lt = absurd (omega (arith, lt))

  pub first_mask : (s l : ℕ) → IsFirstAbove 0 (λ s l. count_by (breaks net InMask s l) f)
      (Some (s, l)) → IsFirstBroken net f (Mask s l)
  first_mask s l first = first_by (Mask s l) first.0 nothing_before same
    where
      same : (a : Broken) → kind a ≡ 0 → IsBefore (numbers a) (s, l) → ¬ IsBroken net f a
      same (Mask r k) is before = λ broken. let few = first.1 r k before in
          omega (arith, few, broken)
      same (Across r k) is before = absurd (omega (arith, is))
      same (Bundle n r) is before = absurd (omega (arith, is))
      same (Memory k) is before = absurd (omega (arith, is))
      same (Tie k) is before = absurd (omega (arith, is))

  pub first_across : (s l : ℕ) → Clean 1 →
      IsFirstAbove 0 (λ s l. count_by (breaks net StaysAcross s l) f) (Some (s, l)) →
      IsFirstBroken net f (Across s l)
  first_across s l clean first = first_by (Across s l) first.0 clean same
    where
      same : (a : Broken) → kind a ≡ 1 → IsBefore (numbers a) (s, l) → ¬ IsBroken net f a
      same (Mask r k) is before = absurd (omega (arith, is))
      same (Across r k) is before = λ broken. let few = first.1 r k before in
          omega (arith, few, broken)
      same (Bundle n r) is before = absurd (omega (arith, is))
      same (Memory k) is before = absurd (omega (arith, is))
      same (Tie k) is before = absurd (omega (arith, is))

  pub first_bundle : (n : ℕ) (r : Place) → Clean 2 →
      IsFirstAbove 1 (λ n r. count_by (uses_bundle net n r) f) (Some (n, number r)) →
      IsFirstBroken net f (Bundle n r)
  first_bundle n r clean first = first_by (Bundle n r) first.0 clean same
    where
      same : (a : Broken) → kind a ≡ 2 → IsBefore (numbers a) (n, number r) → ¬ IsBroken net f a
      same (Mask r k) is before = absurd (omega (arith, is))
      same (Across r k) is before = absurd (omega (arith, is))
      same (Bundle m q) is before = λ broken. let few = first.1 m (number q) before in
          omega (arith, few, broken)
      same (Memory k) is before = absurd (omega (arith, is))
      same (Tie k) is before = absurd (omega (arith, is))

  earlier : (j k : ℕ) → IsBefore (j, 0) (k, 0) → j < k
  earlier j k (inl lt) = lt
  earlier j k (inr more) = let no_ = more.1 in absurd (omega (arith, no_))

  pub first_pair : (k : ℕ) → Clean 3 → IsFirstFailing (KeepsPair f) net.pairs (Some k) →
      IsFirstBroken net f (Memory k)
  first_pair k clean first = first_by (Memory k) first.0 clean same
    where
      same : (a : Broken) → kind a ≡ 3 → IsBefore (numbers a) (k, 0) → ¬ IsBroken net f a
      same (Mask r l) is before = absurd (omega (arith, is))
      same (Across r l) is before = absurd (omega (arith, is))
      same (Bundle n r) is before = absurd (omega (arith, is))
      same (Memory j) is before = first.1 j (earlier j k before)
      same (Tie j) is before = absurd (omega (arith, is))

  pub first_tie : (k : ℕ) → Clean 4 → IsFirstFailing (KeepsTie net f) net.ties (Some k) →
      IsFirstBroken net f (Tie k)
  first_tie k clean first = first_by (Tie k) first.0 clean same
    where
      same : (a : Broken) → kind a ≡ 4 → IsBefore (numbers a) (k, 0) → ¬ IsBroken net f a
      same (Mask r l) is before = absurd (omega (arith, is))
      same (Across r l) is before = absurd (omega (arith, is))
      same (Bundle n r) is before = absurd (omega (arith, is))
      same (Memory j) is before = absurd (omega (arith, is))
      same (Tie j) is before = first.1 j (earlier j k before)

-- where nothing is broken, the routes are admitted
pub all_kept : (net : Net) (routes : Routes) → IsFormed net → AreRoutes net routes
    → IsFirstAbove 0 (λ s l. count_by (breaks net InMask s l) (flow net routes)) None
    → IsFirstAbove 0 (λ s l. count_by (breaks net StaysAcross s l) (flow net routes)) None
    → IsFirstAbove 1 (λ n r. count_by (uses_bundle net n r) (flow net routes)) None
    → All (KeepsPair (flow net routes)) net.pairs → All (KeepsTie net (flow net routes)) net.ties
    → IsAdmitted net (flow net routes)
all_kept net routes formed has masks across bundles pairs ties = record {
  conserves = flow_conserves net.strands routes.places
      (All-weaker (IsStrandOf net.blocks) (λ (t : Strand). t.first ≤ t.last) (λ t is. is.order)
      net.strands formed.strands) has;
  masks = all_pass (in_mask net) (flow net routes)
      (λ s l. let few = masks s l in omega (arith, few));
  across = all_pass stays_across (flow net routes)
      (λ s l. let few = across s l in omega (arith, few));
  bundles = bundles;
  pairs = pairs;
  ties = ties;
}
