-- Other paths for the strands of one variable.
use Rattle.std.proofs.Common.{ℕ, suc, ◌≡◌, ◌+◌, ◌-◌, ◌*◌, ◌<◌, ◌≤◌, Bool, true, false, cond, eqb}
use Rattle.std.proofs.Common.{List, [], ◌∷◌, length, get_or, slice_get}
use Rattle.std.proofs.Common.{All, count_by, sum_by, pos, ◌≤ℤ◌, None, Some, refl, sym, ap, ◌∙◌}
use Rattle.std.proofs.Common.{subst, arith, inl, inr, ◌⊎◌}
use Rattle.std.specs.Prelude.{is_some}
use Rattle.std.specs.List.{range_with_len}
use Rattle.std.proofs.lemmas.Int.{ints}
use Rattle.std.proofs.lemmas.Bool.{cases_eq, cases_Bool}
use Rattle.std.proofs.lemmas.List.Sums.{sum_by-cons, get_or-le-sum_by}
use Rattle.std.proofs.lemmas.List.FromFn.{length-range_with_len, get_or-range_with_len}
use Rattle.pra_base.specs.declared.ids.Place.{Place}
use Rattle.net_cost.specs.declared.weights.Weights.{Weights}
use Rattle.net_form.specs.declared.net.Tie.{Tie}
use Rattle.net_form.specs.declared.net.Net.{Net}
use Rattle.net_form.specs.declared.routes.Routes.{Routes}
use Rattle.net_form.specs.InUse.{AreApart, pair_at}
use Rattle.net_form.specs.Flow.{Edge, flow, AreRoutes}
use Rattle.net_form.specs.Admitted.{strand_at, uses_bundle, uses_memory, KeepsTie, IsAdmitted}
use Rattle.net_form.specs.Cost.{place_on, cost_of}
use Rattle.net_form.specs.Rooms.{zero_prices}
use Rattle.net_form.specs.Tables.{all_tables}
use Rattle.net_form.proofs.EdgeCosts.{cost_by_edges}
use Rattle.net_laws.specs.Built.{IsBuilt, IsBlockTie}
use Rattle.net_dual.specs.Paths.{path_edges, path_price, path_in, IsPath, HasEnds}
use Rattle.net_dual.specs.Priced.{pay, edge_price, cost_by_weights}
use Rattle.net_dual.proofs.FreeBound.{free_path}
use Rattle.net_dual.proofs.Strands.{each_is_path}
use Rattle.net_dual.proofs.Totals.{total-le, total-agree, total-scale}
use Rattle.al_laws.specs.Parts.{part, rest, of_variable, AgreeBut}
use Rattle.al_laws.specs.Settled.{tied_ends, variable_price, NoneCheaperAt, IsVariableSettled}
use Rattle.al_laws.proofs.Ends.{held, at_last, at_first, last_place, last_is}
use Rattle.al_laws.proofs.Once.{uses_once}
use Rattle.al_laws.proofs.Parts.{path_sum, own_sum, part_sum, flow_sum, rest_agrees}
use Rattle.al_laws.proofs.Put.{put, parts_apart, tie_kept, kept_tie}

-- the parts of a sum that is 0
part_zero : (f : ℕ → ℕ) (xs : List ℕ) → sum_by f xs ≡ 0 → All (λ x. f x ≡ 0) xs
part_zero f xs none = λ k d lt. let le = get_or-le-sum_by f xs k d lt in omega (arith, le, none)

sum_nothing : (f : ℕ → ℕ) (xs : List ℕ) → All (λ x. f x ≡ 0) xs → sum_by f xs ≡ 0
sum_nothing f [] h = refl
sum_nothing f (x ∷ xs) h =
    let sum = sum_by-cons f x xs in
    let one : f x ≡ 0 = h 0 x (omega arith) in
    let more = sum_nothing f xs (λ k d lt. h (suc k) d (omega (arith, lt))) in
    omega (arith, sum, one, more)

module _ (net : Net) (built : IsBuilt net) (v : ℕ) (routes new : Routes)
    (has : AreRoutes net routes) (goes : AreRoutes net new)
    (agree : AgreeBut (of_variable net v) new routes) where
  abbrev mine : ℕ → Bool
  mine = of_variable net v

  abbrev ns : List ℕ
  ns = range_with_len 0 (length net.strands)

  in_range : (k d : ℕ) → k < length ns → get_or ns k d < length net.strands
  in_range k d lt =
      let long = length-range_with_len 0 (length net.strands) in
      let at = get_or-range_with_len 0 (length net.strands) k d (omega (arith, lt, long)) in
      omega (arith, at, lt, long)

  rest_same : (g : Edge → ℕ) → sum_by g (rest net mine new) ≡ sum_by g (rest net mine routes)
  rest_same g = rest_agrees net mine new routes goes has agree g

  -- ---- each of mine is apart from the others, where all of them are

  abbrev Clears : (Edge → Bool) → ℕ → Type 0
  Clears p s = (count_by p (path_edges net s (path_in new s)) ≡ 0)
      ⊎ (count_by p (rest net mine routes) ≡ 0)

  all_clear : (p : Edge → Bool) → ((s : ℕ) → s < length net.strands → mine s ≡ true → Clears p s)
      → (count_by p (part net mine new) ≡ 0) ⊎ (count_by p (rest net mine new) ≡ 0)
  all_clear p each = elim (cases_eq (count_by p (rest net mine routes)) 0)
      as (λ _. (count_by p (part net mine new) ≡ 0) ⊎ (count_by p (rest net mine new) ≡ 0)) [
        | inl none ↦ inr (rest_same (λ e. cond (p e) 1 0) ∙ none)
        | inr some ↦ inl (part_sum net new goes mine (λ e. cond (p e) 1 0)
            ∙ sum_nothing (λ s. cond (mine s) (path_sum net (λ e. cond (p e) 1 0) new s) 0) ns
            (λ k d lt. row (get_or ns k d) (in_range k d lt) some))
      ]
    where
      of_clear : (s : ℕ) → Clears p s → (count_by p (rest net mine routes) ≡ 0 → ⊥)
          → count_by p (path_edges net s (path_in new s)) ≡ 0
      of_clear s (inl none) some = none
      of_clear s (inr none) some = absurd (some none)

      row : (s : ℕ) → s < length net.strands → (count_by p (rest net mine routes) ≡ 0 → ⊥)
          → cond (mine s) (path_sum net (λ e. cond (p e) 1 0) new s) 0 ≡ 0
      row s lt some = elim (cases_Bool (mine s))
          as (λ _. cond (mine s) (path_sum net (λ e. cond (p e) 1 0) new s) 0 ≡ 0) [
            | inl is ↦ ap (λ b. cond b (path_sum net (λ e. cond (p e) 1 0) new s) 0) is
                ∙ of_clear s (each s lt is) some
            | inr other ↦ ap (λ b. cond b (path_sum net (λ e. cond (p e) 1 0) new s) 0) other
          ]

  one_clear : (p : Edge → Bool)
      → (count_by p (part net mine new) ≡ 0) ⊎ (count_by p (rest net mine new) ≡ 0) → (s : ℕ)
      → s < length net.strands → mine s ≡ true → Clears p s
  one_clear p (inr none) s lt is = inr (sym (rest_same (λ e. cond (p e) 1 0)) ∙ none)
  one_clear p (inl none) s lt is =
      let zero_all = part_zero (λ s. cond (mine s) (path_sum net (λ e. cond (p e) 1 0) new s) 0) ns
      (sym (part_sum net new goes mine (λ e. cond (p e) 1 0)) ∙ none) in
      let long = length-range_with_len 0 (length net.strands) in
      let at = get_or-range_with_len 0 (length net.strands) s 0 lt in
      let here : get_or ns s 0 ≡ s = omega (arith, at) in
      inl (sym (ap (λ b. cond b (path_sum net (λ e. cond (p e) 1 0) new s) 0) is)
      ∙ subst (λ k. cond (mine k) (path_sum net (λ e. cond (p e) 1 0) new k) 0 ≡ 0) here
      (zero_all s 0 (omega (arith, lt, long))))

  -- a way for one of mine past the others
  pub clear_of_admitted : IsAdmitted net (flow net new) → (s : ℕ) → s < length net.strands
      → mine s ≡ true → AreApart net (path_edges net s (path_in new s)) (rest net mine routes)
  clear_of_admitted a s lt is =
      let apart = parts_apart net mine new a in
      record {
        registers = λ n r. one_clear (uses_bundle net n r) (apart.registers n r) s lt is;
        pairs = λ k in_. one_clear (uses_memory (pair_at net k)) (apart.pairs k in_) s lt is;
      }

  -- ---- where the variable is at one place at all of its ties

  module _ (p : Place) (a : IsAdmitted net (flow net routes)) (ends : (s : ℕ)
      → s < length net.strands → mine s ≡ true → HasEnds (tied_ends net p s) (path_in new s)) where
    tie_at : (k : ℕ) (d : Tie) → k < length net.ties
        → KeepsTie net (flow net new) (get_or net.ties k d)
    tie_at k d in_ = elim (cases_Bool (mine t.from)) as (λ _. KeepsTie net (flow net new) t) [
      | inl is ↦ tie_kept net new goes t
          (at_last net built.formed new goes t.from from
          ∙ held (λ q. slice_get (path_in new t.from) (length (path_in new t.from) - 1) ≡ Some q)
          (tied_ends net p t.from).last p (ends t.from from is).last
          (ap (λ o. cond (is_some o) (Some p) None) tie.exit_group)
          ∙ sym (at_first net built.formed new goes t.to to
          ∙ held (λ q. slice_get (path_in new t.to) 0 ≡ Some q) (tied_ends net p t.to).first p
          (ends t.to to (same_variable is)).first
          (ap (λ o. cond (is_some o) (Some p) None) tie.entry_group)))
      | inr other ↦
          let there = at_last net built.formed routes has t.from from
          ∙ last_is net built.formed routes has t.from from in
          tie_kept net new goes t
          (ap (λ qs. place_on qs (strand_at net t.from).first (strand_at net t.from).last)
          (agree t.from other) ∙ there
          ∙ sym (ap (λ qs. place_on qs (strand_at net t.to).first (strand_at net t.to).first)
          (agree t.to (other_variable other))
          ∙ kept_tie net routes has t (last_place net built.formed routes has t.from from)
          (a.ties k d in_) there))
    ]
      where
        t : Tie
        t = get_or net.ties k d

        tie : IsBlockTie net t
        tie = built.ties k d in_

        from : t.from < length net.strands
        from = built.formed.ties k d in_

        to : t.to < length net.strands
        to = built.room.targets k d in_

        same_variable : mine t.from ≡ true → mine t.to ≡ true
        same_variable is = ap (λ x. eqb x v) (sym tie.var) ∙ is

        other_variable : mine t.from ≡ false → mine t.to ≡ false
        other_variable is = ap (λ x. eqb x v) (sym tie.var) ∙ is

    pub variable_put : ((s : ℕ) → s < length net.strands → mine s ≡ true
        → IsPath net s (path_in new s))
        → ((s : ℕ) → s < length net.strands → mine s ≡ true
        → AreApart net (path_edges net s (path_in new s)) (rest net mine routes))
        → IsAdmitted net (flow net new)
    variable_put paths clears = put net built.formed mine routes new has goes agree a paths
        (uses_once net built new goes v)
        (record {
          registers = λ n r. all_clear (uses_bundle net n r)
              (λ s lt is. (clears s lt is).registers n r);
          pairs = λ k in_. all_clear (uses_memory (pair_at net k))
              (λ s lt is. (clears s lt is).pairs k in_);
        }) tie_at

  -- ---- costs

  module _ (w : Weights) where
    abbrev cost : Edge → ℕ
    cost = cost_by_weights net w

    cost_both : (one : Routes) → AreRoutes net one
        → cost_of net w (flow net one) ≡ own_sum net mine cost one ns + sum_by cost
        (rest net mine one)
    cost_both one are =
        let all = cost_by_edges all_tables net w (flow net one) in
        let both = flow_sum net one mine cost in
        let own = part_sum net one are mine cost in
        omega (arith, all, both, own)

    priced_own : (one : Routes)
        → variable_price net w one v ≡ pos (1024 * own_sum net mine cost one ns)
    priced_own one = total-agree _ (λ s. pos (1024 * cond (mine s) (path_sum net cost one s) 0)) ns
        (λ k d lt. row (mine (get_or ns k d)) (get_or ns k d))
        ∙ total-scale (λ s. cond (mine s) (path_sum net cost one s) 0) ns
      where
        row : (b : Bool) (s : ℕ)
            → pay b (path_price net (edge_price net w (zero_prices net)) s (path_in one s)) ≡ pos
            (1024 * cond b (path_sum net cost one s) 0)
        row true s = free_path net cost s (path_in one s)
        row false s = refl

    -- the new paths pay at least what each has to
    new_pays : (p : Place) → NoneCheaperAt net w routes v p
        → ((s : ℕ) → s < length net.strands → mine s ≡ true
        → HasEnds (tied_ends net p s) (path_in new s))
        → IsAdmitted net (flow net new)
        → cost_of net w (flow net routes) ≤ cost_of net w (flow net new)
    new_pays p none ends a =
        let price = edge_price net w (zero_prices net) in
        let le = total-le (λ s. pay (mine s) (none.costs s))
        (λ s. pay (mine s) (path_price net price s (path_in new s))) ns
        (λ k d lt. row (mine (get_or ns k d)) (get_or ns k d) (λ is.
        let s = get_or ns k d in
        let in_ = in_range k d lt in
        none.least s (path_in new s) in_ is (record {
          path = each_is_path net new goes a.masks a.across s in_;
          has_ends = ends s in_ is;
          is_clear = clear_of_admitted a s in_ is;
        })) refl) in
        let sum = none.in_sum in
        let own = priced_own routes in
        let other = priced_own new in
        let old_cost = cost_both routes has in
        let new_cost = cost_both new goes in
        let same = rest_same cost in
        omega (arith, ints, le, sum, own, other, old_cost, new_cost, same)
      where
        row : (b : Bool) (s : ℕ)
            → (mine s ≡ true
            → none.costs s ≤ℤ path_price net (edge_price net w (zero_prices net)) s
            (path_in new s)) → b ≡ mine s
            → pay b (none.costs s) ≤ℤ pay b (path_price net (edge_price net w (zero_prices net)) s
            (path_in new s))
        row true s h is = h (sym is)
        row false s h is = omega (arith, ints)

pub variable_settled : (net : Net) (w : Weights) (routes : Routes) (v : ℕ) → IsBuilt net
    → AreRoutes net routes
    → ((p : Place) → NoneCheaperAt net w routes v p) → IsVariableSettled net w routes v
variable_settled net w routes v built has none new p goes agree ends a =
    new_pays net built v routes new has goes agree w p (none p) ends a
