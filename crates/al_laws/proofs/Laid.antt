-- What is laid for a plan is admitted.
use Rattle.std.proofs.Common.{ℕ, ◌≡◌, ◌≢◌, ◌-◌, ◌<◌, ◌≤◌, Bool, true, false, cond, eqb, List, []}
use Rattle.std.proofs.Common.{◌∷◌, length, get_or, slice_get, take}
use Rattle.std.proofs.Common.{All, count_by, sum_by, Some, IsPermutation, refl, sym, ap, ◌∙◌, subst}
use Rattle.std.proofs.Common.{arith, inl, inr, ◌⊎◌}
use Rattle.std.specs.Prelude.{IsTrue}
use Rattle.std.specs.List.{range_with_len}
use Rattle.std.proofs.lemmas.Bool.{cases_order, eq-eqb}
use Rattle.std.proofs.lemmas.List.{get_or-take, length-take, get_or_default}
use Rattle.std.proofs.lemmas.List.Folds.{list_any_at}
use Rattle.std.proofs.lemmas.List.FromFn.{length-range_with_len, get_or-range_with_len}
use Rattle.std.proofs.lemmas.List.Sorted.{All-permutation, IsPermutation-sym}
use Rattle.std.proofs.lemmas.List.Sums.{get_or-le-sum_by, sum_by-cons}
use Rattle.std.proofs.lemmas.Option.{slice_get-get_or, get_or_from_slice_get, slice_get_within}
use Rattle.pra_list.proofs.Options.{some_same}
use Rattle.pra_base.specs.declared.ids.Place.{Place}
use Rattle.pra_base.specs.declared.ids.Place.TheVariants.{Mem}
use Rattle.net_cost.specs.declared.weights.Weights.{Weights}
use Rattle.net_form.specs.declared.net.Tie.{Tie}
use Rattle.net_form.specs.declared.net.Net.{Net}
use Rattle.net_form.specs.declared.prices.Prices.{Prices}
use Rattle.net_form.specs.declared.routes.Plan.{Plan}
use Rattle.net_form.specs.declared.routes.Routes.{Routes}
use Rattle.net_form.specs.Flow.{Edge, flow, AreRoutes}
use Rattle.net_form.specs.Admitted.{strand_at, no_strand, in_mask, stays_across, uses_bundle}
use Rattle.net_form.specs.Admitted.{uses_memory, KeepsTie, IsAdmitted}
use Rattle.net_form.specs.InUse.{pair_at, no_pair}
use Rattle.net_form.proofs.RoutesConserve.{flow_conserves}
use Rattle.net_laws.specs.Built.{IsBuilt, IsBlockTie}
use Rattle.net_dual.specs.Paths.{path_edges, path_in, IsPath, IsLeast}
use Rattle.net_dual.specs.Priced.{edge_price}
use Rattle.net_dual.proofs.Strands.{has_places}
use Rattle.al_laws.specs.Laid.{planned, plan_ends, was_laid, AreLaid}
use Rattle.al_laws.specs.Parts.{ClearOf, part}
use Rattle.al_laws.proofs.Ends.{held, at_last, at_first}
use Rattle.al_laws.proofs.Once.{path_register_once, path_pair_once, sum_few}
use Rattle.al_laws.proofs.Parts.{path_sum, part_sum, flow_sum, all_of_each}
use Rattle.al_laws.proofs.Put.{tie_kept}

sum_zeros : (xs : List ℕ) → sum_by (λ x. 0) xs ≡ 0
sum_zeros [] = refl
sum_zeros (x ∷ xs) = let sum = sum_by-cons (λ (x : ℕ). 0) x xs in let more = sum_zeros xs in
    omega (arith, sum, more)

module _ (net : Net) (built : IsBuilt net) (w : Weights) (prices : Prices) (plan : Plan)
    (order : List ℕ) (routes : Routes) (planned_all : length plan.places ≡ net.groups)
    (many : length routes.places ≡ length net.strands)
    (each : IsPermutation (range_with_len 0 (length net.strands)) order)
    (laid : AreLaid net w prices plan order routes) where
  abbrev ns : List ℕ
  ns = range_with_len 0 (length net.strands)

  -- where a strand stands in the order
  abbrev Position : ℕ → Type 0
  Position s = (k : ℕ) × (slice_get order k ≡ Some s)

  position : (s : ℕ) → s < length net.strands → Position s
  position s lt =
      let all : All Position ns = All-permutation Position order ns
      (IsPermutation-sym ns order each) (λ k d in_. (k, slice_get-get_or order k d in_)) in
      let long = length-range_with_len 0 (length net.strands) in
      let at = get_or-range_with_len 0 (length net.strands) s 0 lt in
      subst Position (let e : get_or ns s 0 ≡ s = omega (arith, at) in e)
      (all s 0 (omega (arith, lt, long)))

  way : (s : ℕ) (lt : s < length net.strands)
      → IsLeast net (edge_price net w prices) (plan_ends net plan s)
      (ClearOf net (part net (was_laid order (position s lt).0) routes)) s (path_in routes s)
  way s lt = let p = position s lt in laid p.0 s p.1

  path_of : (s : ℕ) → s < length net.strands → IsPath net s (path_in routes s)
  path_of s lt = (way s lt).goes.path

  pub laid_routes : AreRoutes net routes
  laid_routes = has_places net.strands routes.places many (λ s lt. (path_of s lt).long)

  -- ---- each thing is used once

  -- a part has what each of its strands has
  part_has : (mine : ℕ → Bool) (p : Edge → Bool) (s : ℕ) → s < length net.strands → mine s ≡ true
      → count_by p (path_edges net s (path_in routes s)) ≤ count_by p (part net mine routes)
  part_has mine p s lt is =
      let f : ℕ → ℕ = λ s. cond (mine s) (path_sum net (λ e. cond (p e) 1 0) routes s) 0 in
      let sum = part_sum net routes laid_routes mine (λ e. cond (p e) 1 0) in
      let long = length-range_with_len 0 (length net.strands) in
      let at = get_or-range_with_len 0 (length net.strands) s 0 lt in
      let le = get_or-le-sum_by f ns s 0 (omega (arith, lt, long)) in
      let here : f (get_or ns s 0) ≡ f s = ap f (let e : get_or ns s 0 ≡ s = omega (arith, at) in e)
      in
      let own : f s ≡ count_by p (path_edges net s (path_in routes s)) =
      ap (λ b. cond b (path_sum net (λ e. cond (p e) 1 0) routes s) 0) is in
      omega (arith, sum, le, here, own)

  before : (i j x : ℕ) → i < j → slice_get order i ≡ Some x → was_laid order j x ≡ true
  before i j x lt is =
      let in_ = slice_get_within order i x is in
      let long = length-take j order in
      list_any_at (λ y. eqb x y) (take j order) i x (omega (arith, lt, in_, long))
      (eq-eqb x (get_or (take j order) i x)
      (sym (get_or-take j order i x lt ∙ get_or_from_slice_get order i x x is)))

  -- of two strands the later one is clear of the earlier one
  clear : (p : Edge → Bool) → ((s : ℕ) (lt : s < length net.strands)
      → (count_by p (path_edges net s (path_in routes s)) ≡ 0)
      ⊎ (count_by p (part net (was_laid order (position s lt).0) routes) ≡ 0))
      → (x y : ℕ) → x ≢ y → x < length net.strands → y < length net.strands
      → 0 < count_by p (path_edges net x (path_in routes x))
      → 0 < count_by p (path_edges net y (path_in routes y)) → ⊥
  clear p apart x y other x_lt y_lt one two =
      let i = position x x_lt in
      let j = position y y_lt in
      elim (cases_order i.0 j.0) as (λ _. ⊥) [
        | inl same ↦ other (some_same x y (sym i.1 ∙ ap (slice_get order) same ∙ j.1))
        | inr (inl lt) ↦ later (part_has (was_laid order j.0) p x x_lt (before i.0 j.0 x lt i.1))
            one two (apart y y_lt)
        | inr (inr lt) ↦ later (part_has (was_laid order i.0) p y y_lt (before j.0 i.0 y lt j.1))
            two one (apart x x_lt)
      ]
    where
      later : {a b c : ℕ} → a ≤ c → 0 < a → 0 < b → (b ≡ 0) ⊎ (c ≡ 0) → ⊥
      later le some other (inl none) = omega (arith, other, none)
      later le some other (inr none) = omega (arith, le, some, none)

  once : (p : Edge → Bool) → ((s : ℕ) → count_by p (path_edges net s (path_in routes s)) ≤ 1)
      → ((s : ℕ) (lt : s < length net.strands)
      → (count_by p (path_edges net s (path_in routes s)) ≡ 0)
      ⊎ (count_by p (part net (was_laid order (position s lt).0) routes) ≡ 0))
      → count_by p (flow net routes) ≤ 1
  once p few apart =
      let g : Edge → ℕ = λ e. cond (p e) 1 0 in
      let both = flow_sum net routes (λ _. true) g in
      let own = part_sum net routes laid_routes (λ _. true) g in
      let none = part_sum net routes laid_routes (λ _. false) g in
      let zeros = sum_zeros ns in
      let sum = sum_few (path_sum net g routes) ns (λ k d lt. few (get_or ns k d))
      (λ i j d lt in_ one two.
      let long = length-range_with_len 0 (length net.strands) in
      let at_i = get_or-range_with_len 0 (length net.strands) i d (omega (arith, long, lt, in_)) in
      let at_j = get_or-range_with_len 0 (length net.strands) j d (omega (arith, long, in_)) in
      clear p apart (get_or ns i d) (get_or ns j d) (λ same. omega (arith, same, at_i, at_j, lt))
      (omega (arith, at_i, long, lt, in_)) (omega (arith, at_j, long, in_)) one two) in
      omega (arith, both, own, none, zeros, sum)

  -- ---- ties

  tie_at : (k : ℕ) (d : Tie) → k < length net.ties
      → KeepsTie net (flow net routes) (get_or net.ties k d)
  tie_at k d in_ = tie_kept net routes laid_routes t
      (at_last net built.formed routes laid_routes t.from from
      ∙ held (λ q. slice_get (path_in routes t.from) (length (path_in routes t.from) - 1) ≡ Some q)
      (plan_ends net plan t.from).last place (way t.from from).goes.has_ends.last
      (ap (planned plan) tie.exit_group ∙ there)
      ∙ sym (at_first net built.formed routes laid_routes t.to to
      ∙ held (λ q. slice_get (path_in routes t.to) 0 ≡ Some q) (plan_ends net plan t.to).first place
      (way t.to to).goes.has_ends.first
      (ap (planned plan) tie.entry_group ∙ there)))
    where
      t : Tie
      t = get_or net.ties k d

      tie : IsBlockTie net t
      tie = built.ties k d in_

      from : t.from < length net.strands
      from = built.formed.ties k d in_

      to : t.to < length net.strands
      to = built.room.targets k d in_

      place : Place
      place = get_or plan.places tie.group Mem

      small : tie.group < net.groups
      small = (held (λ g. (g < net.groups) × ((strand_at net t.to).first ≡ 0))
          (strand_at net t.to).entry_group tie.group (built.groups t.to no_strand to).entry
          tie.entry_group).0

      there : slice_get plan.places tie.group ≡ Some place
      there = slice_get-get_or plan.places tie.group Mem
          (let lt = small in omega (arith, lt, planned_all))

  pub laid_admitted : IsAdmitted net (flow net routes)
  laid_admitted = record {
    conserves = flow_conserves net.strands routes.places
        (λ k d lt. (built.formed.strands k d lt).order) laid_routes;
    masks = all_of_each net (λ e. IsTrue (in_mask net e)) routes (λ s lt. (path_of s lt).masks);
    across = all_of_each net (λ e. IsTrue (stays_across e)) routes (λ s lt. (path_of s lt).across);
    bundles = λ n r. once (uses_bundle net n r)
        (λ s. path_register_once net s n r (path_in routes s))
        (λ s lt. (way s lt).goes.is_clear.registers n r);
    pairs = λ k d in_. subst (λ m. count_by (uses_memory m) (flow net routes) ≤ 1)
        (get_or_default net.pairs k no_pair d in_)
        (once (uses_memory (pair_at net k))
        (λ s. path_pair_once net s (pair_at net k) (path_in routes s)
        (λ same. built.two_variables k no_pair in_ (ap (λ r. (strand_at net r).var.0) same)))
        (λ s lt. (way s lt).goes.is_clear.pairs k in_));
    ties = tie_at;
  }
