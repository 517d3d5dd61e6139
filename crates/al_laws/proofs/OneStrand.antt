-- Another path for one strand.
use Rattle.std.proofs.Common.{ℕ, ◌≡◌, ◌≢◌, ◌+◌, ◌-◌, ◌<◌, Bool, true, cond, List, [], length}
use Rattle.std.proofs.Common.{get_or, slice_get}
use Rattle.std.proofs.Common.{All, count_by, sum_by, None, Some, sym, ap, ◌∙◌, subst, arith, inl}
use Rattle.std.proofs.Common.{inr, ◌⊎◌}
use Rattle.std.proofs.lemmas.Int.{ints}
use Rattle.std.proofs.lemmas.Bool.{cases_eq, eq-eqb, eqb-true, eqb-false}
use Rattle.std.proofs.lemmas.List.{get_or-set_same, get_or-set_other}
use Rattle.pra_base.specs.declared.ids.Place.{Place}
use Rattle.net_cost.specs.declared.weights.Weights.{Weights}
use Rattle.net_form.specs.declared.net.Net.{Net}
use Rattle.net_form.specs.declared.routes.Routes.{Routes}
use Rattle.net_form.specs.Flow.{Edge, flow, AreRoutes}
use Rattle.net_form.specs.Admitted.{strand_at, uses_bundle, uses_memory, KeepsTie, IsAdmitted}
use Rattle.net_form.specs.Cost.{place_on, route_at, cost_of}
use Rattle.net_form.specs.InUse.{AreApart, pair_at, no_pair}
use Rattle.net_form.specs.Formed.{IsFormed}
use Rattle.net_form.specs.Tables.{all_tables}
use Rattle.net_form.proofs.EdgeCosts.{cost_by_edges}
use Rattle.net_form.proofs.RoutesConserve.{as_many}
use Rattle.pra_list.proofs.Elements.{length_set}
use Rattle.net_laws.specs.Built.{IsBuilt}
use Rattle.net_dual.specs.Paths.{path_edges, path_in, IsPath, HasEnds}
use Rattle.net_dual.specs.Priced.{cost_by_weights}
use Rattle.net_dual.proofs.FreeBound.{free_path}
use Rattle.net_dual.proofs.Strands.{each_long, has_places}
use Rattle.al_laws.specs.Parts.{part, rest, only_strand, with_path, AgreeBut}
use Rattle.al_laws.specs.Settled.{block_ends, is_at_entry, is_at_exit, NoneCheaper, IsStrandSettled}
use Rattle.al_laws.proofs.Ends.{held, at_last, at_first, last_place, first_place, last_is, first_is}
use Rattle.al_laws.proofs.Once.{path_register_once, path_pair_once}
use Rattle.al_laws.proofs.Parts.{path_sum, flow_sum, one_sum, rest_agrees}
use Rattle.al_laws.proofs.Put.{put, parts_apart, tie_kept, kept_tie}

module _ (net : Net) (formed : IsFormed net) (routes : Routes) (has : AreRoutes net routes) (s : ℕ)
    (lt : s < length net.strands) (ps : List Place) (path : IsPath net s ps) where
  abbrev new : Routes
  new = with_path routes s ps

  many : length routes.places ≡ length net.strands
  many = as_many net.strands routes.places has

  pub here : path_in new s ≡ ps
  here = let same = many in get_or-set_same routes.places s ps [] (omega (arith, lt, same))

  pub elsewhere : (r : ℕ) → r ≢ s → path_in new r ≡ path_in routes r
  elsewhere r other = get_or-set_other routes.places s r ps [] other

  pub agree : AgreeBut (only_strand s) new routes
  agree r other = elsewhere r (eqb-false r s other)

  pub goes : AreRoutes net new
  goes = has_places net.strands new.places
      (let a = length_set routes.places s ps in let b = many in omega (arith, a, b)) (λ r r_lt.
      elim (cases_eq r s)
      as (λ _. (strand_at net r).first + length (path_in new r) ≡ (strand_at net r).last + 1) [
        | inl same ↦ subst (λ k. (strand_at net k).first + length
            (path_in new k) ≡ (strand_at net k).last + 1) (sym same)
            (subst (λ qs. (strand_at net s).first + length qs ≡ (strand_at net s).last + 1)
            (sym here) path.long)
        | inr other ↦ subst (λ qs. (strand_at net r).first + length qs ≡ (strand_at net r).last + 1)
            (sym (elsewhere r other)) (each_long net routes has r r_lt)
      ])

  pub new_sum : (g : Edge → ℕ)
      → sum_by g (part net (only_strand s) new) ≡ sum_by g (path_edges net s ps)
  new_sum g = one_sum net new goes s lt g ∙ ap (λ qs. sum_by g (path_edges net s qs)) here

  rest_same : (g : Edge → ℕ)
      → sum_by g (rest net (only_strand s) new) ≡ sum_by g (rest net (only_strand s) routes)
  rest_same g = rest_agrees net (only_strand s) new routes goes has agree g

  -- what is apart from the others where it was not yet put in is so where it is
  abbrev new_part : List Edge
  new_part = part net (only_strand s) new

  moved : (p : Edge → Bool)
      → (count_by p (path_edges net s ps) ≡ 0) ⊎ (count_by p (rest net (only_strand s) routes) ≡ 0)
      → (count_by p new_part ≡ 0) ⊎ (count_by p (rest net (only_strand s) new) ≡ 0)
  moved p (inl none) = inl (new_sum (λ e. cond (p e) 1 0) ∙ none)
  moved p (inr none) = inr (rest_same (λ e. cond (p e) 1 0) ∙ none)

  back : (p : Edge → Bool)
      → (count_by p new_part ≡ 0) ⊎ (count_by p (rest net (only_strand s) new) ≡ 0)
      → (count_by p (path_edges net s ps) ≡ 0) ⊎ (count_by p (rest net (only_strand s) routes) ≡ 0)
  back p (inl none) = inl (sym (new_sum (λ e. cond (p e) 1 0)) ∙ none)
  back p (inr none) = inr (sym (rest_same (λ e. cond (p e) 1 0)) ∙ none)

  apart_in : AreApart net (path_edges net s ps) (rest net (only_strand s) routes)
      → AreApart net new_part (rest net (only_strand s) new)
  apart_in a = record {
    registers = λ n r. moved (uses_bundle net n r) (a.registers n r);
    pairs = λ k in_. moved (uses_memory (pair_at net k)) (a.pairs k in_);
  }

  pub apart_out : IsAdmitted net (flow net new)
      → AreApart net (path_edges net s ps) (rest net (only_strand s) routes)
  apart_out a =
      let apart = parts_apart net (only_strand s) new a in
      record {
        registers = λ n r. back (uses_bundle net n r) (apart.registers n r);
        pairs = λ k in_. back (uses_memory (pair_at net k)) (apart.pairs k in_);
      }

  -- ---- ties

  module _ (ends : HasEnds (block_ends net routes s) ps) where
    ends_new : HasEnds (block_ends net routes s) (path_in new s)
    ends_new = subst (HasEnds (block_ends net routes s)) (sym here) ends

    exit_same : (r : ℕ) → r < length net.strands → is_at_exit net r ≡ true
        → route_at net new r (strand_at net r).last ≡ route_at net routes r (strand_at net r).last
    exit_same r r_lt at = elim (cases_eq r s)
        as (λ _. route_at net new r (strand_at net r).last ≡ route_at net routes r
        (strand_at net r).last) [
          | inr other ↦ ap (λ qs. place_on qs (strand_at net r).first (strand_at net r).last)
              (elsewhere r other)
          | inl same ↦ subst (λ k. route_at net new k (strand_at net k).last ≡ route_at net routes k
              (strand_at net k).last) (sym same)
              (at_last net formed new goes s lt
              ∙ held (λ p. slice_get (path_in new s) (length (path_in new s) - 1) ≡ Some p)
              (block_ends net routes s).last (last_place net formed routes has s lt) ends_new.last
              (ap (λ b. cond b (slice_get (path_in routes s) (length (path_in routes s) - 1)) None)
              (subst (λ k. is_at_exit net k ≡ true) same at) ∙ last_is net formed routes has s lt)
              ∙ sym (last_is net formed routes has s lt) ∙ sym (at_last net formed routes has s lt))
        ]

    entry_same : (r : ℕ) → r < length net.strands → is_at_entry net r ≡ true
        → route_at net new r (strand_at net r).first ≡ route_at net routes r (strand_at net r).first
    entry_same r r_lt at = elim (cases_eq r s)
        as (λ _. route_at net new r (strand_at net r).first ≡ route_at net routes r
        (strand_at net r).first) [
          | inr other ↦ ap (λ qs. place_on qs (strand_at net r).first (strand_at net r).first)
              (elsewhere r other)
          | inl same ↦ subst (λ k. route_at net new k (strand_at net k).first ≡ route_at net routes
              k
              (strand_at net k).first) (sym same)
              (at_first net formed new goes s lt
              ∙ held (λ p. slice_get (path_in new s) 0 ≡ Some p) (block_ends net routes s).first
              (first_place net formed routes has s lt) ends_new.first
              (ap (λ b. cond b (slice_get (path_in routes s) 0) None)
              (subst (λ k. is_at_entry net k ≡ true) same at) ∙ first_is net formed routes has s lt)
              ∙ sym (first_is net formed routes has s lt)
              ∙ sym (at_first net formed routes has s lt))
        ]

    module _ (built : IsBuilt net) (a : IsAdmitted net (flow net routes)) where
      ties_kept : All (KeepsTie net (flow net new)) net.ties
      ties_kept k d in_ =
          let t = get_or net.ties k d in
          let is = built.ties k d in_ in
          let from = formed.ties k d in_ in
          let to = built.room.targets k d in_ in
          let there = at_last net formed routes has t.from from
          ∙ last_is net formed routes has t.from from in
          tie_kept net new goes t
          (exit_same t.from from (eq-eqb _ _ is.exit) ∙ there
          ∙ sym (entry_same t.to to (eq-eqb _ _ is.entry)
          ∙ kept_tie net routes has t (last_place net formed routes has t.from from)
          (a.ties k d in_) there))

      -- a path with the same places at entry and exit, that uses nothing of the others
      pub path_put : AreApart net (path_edges net s ps) (rest net (only_strand s) routes)
          → IsAdmitted net (flow net new)
      path_put apart = put net formed (only_strand s) routes new has goes agree a
          (λ r r_lt is. let same = eqb-true r s is in subst (λ k. IsPath net k (path_in new k))
          (sym same) (subst (IsPath net s) (sym here) path))
          (record {
            registers = λ n r.
                let sum = new_sum (λ e. cond (uses_bundle net n r e) 1 0) in
                let few = path_register_once net s n r ps in
                omega (arith, sum, few);
            pairs = λ k in_.
                let sum = new_sum (λ e. cond (uses_memory (pair_at net k) e) 1 0) in
                let few = path_pair_once net s (pair_at net k) ps
                (λ same. built.two_variables k no_pair in_ (ap (λ r. (strand_at net r).var.0) same))
                in
                omega (arith, sum, few);
          })
          (apart_in apart) ties_kept

  -- ---- costs

  pub cost_new : (w : Weights)
      → cost_of net w (flow net new) ≡ sum_by (cost_by_weights net w) (path_edges net s ps) + sum_by
      (cost_by_weights net w) (rest net (only_strand s) routes)
  cost_new w =
      let all = cost_by_edges all_tables net w (flow net new) in
      let both = flow_sum net new (only_strand s) (cost_by_weights net w) in
      let one = new_sum (cost_by_weights net w) in
      let other = rest_same (cost_by_weights net w) in
      omega (arith, all, both, one, other)

pub cost_old : (net : Net) (routes : Routes) → AreRoutes net routes → (s : ℕ)
    → s < length net.strands → (w : Weights)
    → cost_of net w (flow net routes) ≡ path_sum net (cost_by_weights net w) routes s + sum_by
    (cost_by_weights net w) (rest net (only_strand s) routes)
cost_old net routes has s lt w =
    let all = cost_by_edges all_tables net w (flow net routes) in
    let both = flow_sum net routes (only_strand s) (cost_by_weights net w) in
    let one = one_sum net routes has s lt (cost_by_weights net w) in
    omega (arith, all, both, one)

-- where no way through what the others leave costs less, the strand is settled
pub strand_settled : (net : Net) (w : Weights) (routes : Routes) (s : ℕ) → IsFormed net
    → AreRoutes net routes → s < length net.strands
    → NoneCheaper net w routes s → IsStrandSettled net w routes s
strand_settled net w routes s formed has lt least ps path ends a =
    let le = least ps
    (record {
      path = path;
      has_ends = ends;
      is_clear = apart_out net formed routes has s lt ps
          path a;
    }) in
    let own = free_path net (cost_by_weights net w) s (path_in routes s) in
    let other = free_path net (cost_by_weights net w) s ps in
    let old = cost_old net routes has s lt w in
    let new = cost_new net formed routes has s lt ps path w in
    omega (arith, ints, le, own, other, old, new)
