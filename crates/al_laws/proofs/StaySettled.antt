-- Who was settled stays so where nothing that it could use came free.
use Rattle.std.proofs.Common.{ℕ, ◌≡◌, ◌+◌, ◌-◌, cond, slice_get, refl, ◌<◌, Bool, true, false, eqb}
use Rattle.std.proofs.Common.{List, length, get_or, None, sym, ap, ◌∙◌, subst, arith, inl, inr, ◌⊎◌}
use Rattle.std.specs.List.{range_with_len}
use Rattle.std.proofs.lemmas.Bool.{and_parts, eqb-true, cases_eq}
use Rattle.std.proofs.lemmas.List.FromFn.{length-range_with_len, get_or-range_with_len}
use Rattle.std.proofs.Common.{◌≤ℤ◌}
use Rattle.pra_base.specs.declared.ids.Place.{Place}
use Rattle.pra_base.specs.declared.ids.Place.TheVariants.{Mem}
use Rattle.net_cost.specs.declared.weights.Weights.{Weights}
use Rattle.net_form.specs.declared.net.Net.{Net}
use Rattle.net_form.specs.declared.routes.Routes.{Routes}
use Rattle.net_form.specs.Flow.{Edge}
use Rattle.net_form.specs.Admitted.{strand_at, layer_of, in_register, uses_bundle, uses_memory}
use Rattle.net_form.specs.Index.{first_layer}
use Rattle.net_form.specs.InUse.{AreApart, pair_at, register_uses, pair_uses}
use Rattle.net_form.specs.Rooms.{zero_prices}
use Rattle.net_form.proofs.Paths.{OfPath, of_path}
use Rattle.net_dual.specs.Paths.{path_edges, path_price, path_in, IsPath, HasEnds}
use Rattle.net_dual.specs.Priced.{total, pay, edge_price}
use Rattle.net_dual.proofs.Totals.{total-agree}
use Rattle.al_laws.specs.Parts.{layer_at, rest, only_strand, of_variable}
use Rattle.al_laws.specs.Settled.{is_at_entry, is_at_exit, block_ends, variable_price, NoneCheaper}
use Rattle.al_laws.specs.Settled.{NoneCheaperAt, NothingFreed}
use Rattle.al_laws.proofs.Once.{IsSide, side_of, Counted, counted}

module _ (net : Net) (s : ℕ) (ps : List Place) (path : IsPath net s ps) where
  no_edge : Edge
  no_edge = record { strand = 0; layer = 0; from = None; to = Mem }

  abbrev es : List Edge
  es = path_edges net s ps

  of : (p : Edge → Bool) (c : Counted p es)
      → OfPath s (strand_at net s).first None (length ps) (get_or es c.at no_edge)
  of p c = of_path s (strand_at net s).first None ps c.at no_edge c.within

  some_of : (n : ℕ) → (n ≡ 0 → ⊥) → 0 < n
  some_of n h = omega (arith, h)

  -- a path that is clear of what is used now was clear of what was used
  pub still_apart : (was now : List Edge) → NothingFreed net s was now → AreApart net es now
      → AreApart net es was
  still_apart was now freed apart = record {
    registers = λ n r. register_by n r
        (apart.registers n r);
    pairs = λ k lt. pair_by k lt (apart.pairs k lt);
  }
    where
      register_by : (n r : ℕ) → (register_uses net es n r ≡ 0) ⊎ (register_uses net now n r ≡ 0)
          → (register_uses net es n r ≡ 0) ⊎ (register_uses net was n r ≡ 0)
      register_by n r (inl none) = inl none
      register_by n r (inr none) = elim (cases_eq (register_uses net es n r) 0)
          as (λ _. (register_uses net es n r ≡ 0) ⊎ (register_uses net was n r ≡ 0)) [
            | inl zero_ ↦ inl zero_
            | inr some ↦
                let c = counted (uses_bundle net n r) es (some_of (register_uses net es n r) some)
                in
                let e = get_or es c.at no_edge in
                let o = of (uses_bundle net n r) c in
                let long = path.long in
                let before = o.before in
                let layer : layer_at net s e.layer ≡ n = ap (λ k. first_layer net.blocks
                (strand_at net k).block.0 + e.layer) (sym o.strand)
                ∙ eqb-true (layer_of net e) n
                (and_parts (eqb (layer_of net e) n) (in_register r e.to)
                (c.passes no_edge)).0 in
                inr (subst (λ k. register_uses net was k r ≡ 0) layer
                (freed.registers e.layer r o.after (omega (arith, before, long))
                (subst (λ k. register_uses net now k r ≡ 0) (sym layer) none)))
          ]

      end_of : (k : ℕ) (e : Edge) → e.strand ≡ s → IsSide (pair_at net k) e
          → ((pair_at net k).left ≡ s) ⊎ ((pair_at net k).right ≡ s)
      end_of k e is (inl one) = inl (sym one.0 ∙ is)
      end_of k e is (inr two) = inr (sym two.0 ∙ is)

      pair_by : (k : ℕ) → k < length net.pairs
          → (pair_uses net es k ≡ 0) ⊎ (pair_uses net now k ≡ 0)
          → (pair_uses net es k ≡ 0) ⊎ (pair_uses net was k ≡ 0)
      pair_by k lt (inl none) = inl none
      pair_by k lt (inr none) = elim (cases_eq (pair_uses net es k) 0)
          as (λ _. (pair_uses net es k ≡ 0) ⊎ (pair_uses net was k ≡ 0)) [
            | inl zero_ ↦ inl zero_
            | inr some ↦
                let c = counted (uses_memory (pair_at net k)) es (some_of (pair_uses net es k) some)
                in
                inr (freed.pairs k lt
                (end_of k (get_or es c.at no_edge) (of (uses_memory (pair_at net k)) c).strand
                (side_of (pair_at net k) (get_or es c.at no_edge) (c.passes no_edge))) none)
          ]

pub strand_stays : (net : Net) (w : Weights) (routes new : Routes) (s : ℕ)
    → path_in new s ≡ path_in routes s
    → NothingFreed net s (rest net (only_strand s) routes) (rest net (only_strand s) new)
    → NoneCheaper net w routes s → NoneCheaper net w new s
strand_stays net w routes new s same freed none ps goes =
    subst (λ qs. path_price net (edge_price net w (zero_prices net)) s qs ≤ℤ path_price net
    (edge_price net w (zero_prices net)) s ps) (sym same)
    (none ps (record {
      path = goes.path;
      has_ends = subst (λ ends. HasEnds ends ps) (ends_same (path_in new s) (path_in routes s) same)
          goes.has_ends;
      is_clear = still_apart net s ps goes.path (rest net (only_strand s) routes)
          (rest net (only_strand s) new) freed goes.is_clear;
    }))
  where
    ends_same : (xs ys : List Place) → xs ≡ ys → block_ends net new s ≡ block_ends net routes s
    ends_same xs ys e = λ i. record {
      first = cond (is_at_entry net s) (slice_get (same i) 0) None;
      last = cond (is_at_exit net s) (slice_get (same i) (length (same i) - 1)) None;
    }

pub variable_stays : (net : Net) (w : Weights) (routes new : Routes) (v : ℕ) (p : Place)
    → ((s : ℕ) → s < length net.strands → of_variable net v s ≡ true
    → path_in new s ≡ path_in routes s)
    → ((s : ℕ) → s < length net.strands → of_variable net v s ≡ true
    → NothingFreed net s (rest net (of_variable net v) routes)
    (rest net (of_variable net v) new))
    → NoneCheaperAt net w routes v p → NoneCheaperAt net w new v p
variable_stays net w routes new v p same freed none = record {
  costs = none.costs;
  least = λ s ps lt is goes. none.least s ps lt is (record {
    path = goes.path;
    has_ends = goes.has_ends;
    is_clear = still_apart net s ps goes.path (rest net (of_variable net v) routes)
        (rest net (of_variable net v) new) (freed s lt is) goes.is_clear;
  });
  in_sum = subst (λ z. z ≤ℤ total (λ s. pay (of_variable net v s) (none.costs s))
      (range_with_len 0 (length net.strands))) price_same none.in_sum;
}
  where
    row : (s : ℕ) → s < length net.strands → (b : Bool) → of_variable net v s ≡ b
        → pay b (path_price net (edge_price net w (zero_prices net)) s (path_in routes s)) ≡ pay b
        (path_price net (edge_price net w (zero_prices net)) s (path_in new s))
    row s lt true is = ap (path_price net (edge_price net w (zero_prices net)) s)
        (sym (same s lt is))
    row s lt false is = refl

    price_same : variable_price net w routes v ≡ variable_price net w new v
    price_same = total-agree _ _ (range_with_len 0 (length net.strands)) (λ k d in_.
        let s = get_or (range_with_len 0 (length net.strands)) k d in
        let long = length-range_with_len 0 (length net.strands) in
        let at = get_or-range_with_len 0 (length net.strands) k d (omega (arith, in_, long)) in
        row s (omega (arith, at, in_, long)) (of_variable net v s) refl)
