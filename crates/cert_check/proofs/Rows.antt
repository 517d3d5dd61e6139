-- From the row of a layer to that of the next.
use Rattle.std.proofs.Common.{◌≡◌, ℕ, suc, ◌+◌, ◌*◌, ◌<◌, ◌≤◌, Bool, true, false, not, ℤ, pos}
use Rattle.std.proofs.Common.{◌+ℤ◌, ◌-ℤ◌, ◌≤ℤ◌, List, [], ◌∷◌, length, Option, Some, None}
use Rattle.std.proofs.Common.{inl, inr, refl, sym, ap, ◌∙◌, subst, arith}
use Rattle.std.specs.Prelude.{IsTrue}
use Rattle.std.proofs.lemmas.Int.{ints}
use Rattle.std.proofs.lemmas.Bool.{or_right, cases_lt}
use Rattle.std.proofs.lemmas.List.{get_or_past}
use Rattle.pra_list.proofs.Truths.{true_false}
use Rattle.pra_list.proofs.Options.{not_both}
use Rattle.pra_base.specs.declared.ids.Place.{Place}
use Rattle.pra_base.specs.Places.{number, place_count, place_at}
use Rattle.pra_base.proofs.PlaceNumbers.{place_at-number, number-place_at, number_below}
use Rattle.net_cost.specs.declared.weights.Weights.{Weights}
use Rattle.net_cost.specs.Weights.{IsValid}
use Rattle.net_form.specs.declared.net.Net.{Net}
use Rattle.net_form.specs.declared.prices.Prices.{Prices}
use Rattle.net_form.specs.Admitted.{strand_at, in_mask, stays_across, is_across}
use Rattle.net_form.specs.Cost.{way_cost, extras_cost}
use Rattle.net_form.specs.Tables.{all_tables}
use Rattle.net_form.proofs.Layers.{in_layers}
use Rattle.net_laws.specs.Built.{IsBuilt}
use Rattle.net_dual.specs.Leasts.{cost_at, IsLeastOf, IsCostWithin}
use Rattle.net_dual.specs.Priced.{edge_price, cap_part, mem_part, exit_part, entry_part}
use Rattle.net_dual.specs.Priced.{AreInRange}
use Rattle.net_dual.specs.Paths.{path_price, IsPath, IsLeastCost, any_ends}
use Rattle.net_dual.specs.Paths.{Anywhere}
use Rattle.net_dual.specs.Small.{IsWithin, most_sum}
use Rattle.net_dual.proofs.Duality.{anywhere}
use Rattle.net_dual.proofs.Small.{part_is_small}
use Rattle.cert_check.specs.Tolls.{edge, toll, way_toll}
use Rattle.cert_check.specs.Pass.{way_to, LeadsTo, IsLeastTo, IsReached, IsPassRow, IsRowBefore}
use Rattle.cert_check.specs.Pass.{via, paid, HasPath}
use Rattle.cert_check.proofs.Coming.{All-one, comes, came_on, comes_on, price_on}
use Rattle.cert_check.proofs.Coming.{nothing_before}
use Rattle.cert_check.proofs.Guarded.{guarded, guarded_some, guarded_is}
use Rattle.std.proofs.Common.{length-append}

in_parts : (a b : ℕ) (c m x y : ℤ)
    → (pos (1024 * (a + b)) +ℤ (c +ℤ m)) +ℤ (x -ℤ y)
    ≡ pos (1024 * a) +ℤ ((pos (1024 * b) +ℤ (c +ℤ m)) +ℤ (x -ℤ y))
in_parts a b c m x y = omega (arith, ints)

module _ (net : Net) (w : Weights) (prices : Prices) (s : ℕ) where
  -- the price of an edge is that of its way and its toll
  pub price_is : (l : ℕ) (from : Option Place) (q : Place)
      → edge_price net w prices (edge s l from q)
      ≡ way_toll net w s l from q +ℤ toll net w prices s l q
  price_is l from q =
      let e = edge s l from q in
      in_parts (way_cost all_tables net w e) (extras_cost net w s l q) (cap_part net prices e)
      (mem_part net prices e) (exit_part net prices e) (entry_part net prices e)

  -- ---- the first layer

  first_reached : (q : Place) (allowed : Bool)
      → in_mask net (edge s (strand_at net s).first None q) ≡ allowed
      → IsReached net (edge_price net w prices) s (strand_at net s).first q
      (guarded allowed (λ d. d +ℤ toll net w prices s (strand_at net s).first q)
      (Some (way_toll net w s (strand_at net s).first None q)))
  first_reached q true mask =
      let l = (strand_at net s).first in
      let e = edge s l None q in
      let none : edge_price net w prices e +ℤ pos 0 ≡ edge_price net w prices e
      = omega (arith, ints) in
      let sum : path_price net (edge_price net w prices) s (way_to [] q)
      ≡ way_toll net w s l None q +ℤ toll net w prices s l q = none ∙ price_is l None q in
      record {
        before = [];
        leads = record {
          long = omega arith;
          masks = All-one (λ e. IsTrue (in_mask net e)) e mask;
          across = All-one (λ e. IsTrue (stays_across e)) e
              (or_right (not (is_across e)) true refl);
        };
        is = sum;
        least = λ other leads.
            let here = ap (λ ps. path_price net (edge_price net w prices) s (way_to ps q))
            (nothing_before net s q other leads) in
            omega (arith, ints);
      }
  first_reached q false mask = λ before leads.
      let there = rw (nothing_before net s q before leads) at leads in
      true_false (in_mask net (edge s (strand_at net s).first None q))
      (there.masks 0 (edge s (strand_at net s).first None q) (omega arith)) mask

  pub first_paid : (q : Place)
      → IsReached net (edge_price net w prices) s (strand_at net s).first q
      (paid net w prices s (strand_at net s).first q
      (Some (way_toll net w s (strand_at net s).first None q)))
  first_paid q = first_reached q (in_mask net (edge s (strand_at net s).first None q)) refl

  -- ---- the next layer

  module _ (l : ℕ) (row : List (Option ℤ)) (after : (strand_at net s).first ≤ l)
      (reached : (p : Place) → IsReached net (edge_price net w prices) s l p
      (cost_at row (number p))) where
    -- what it costs from a place that can be come to
    abbrev Onward : Place → Place → List Place → Type 0
    Onward p q front =
        (d : ℤ) × (via net w s (suc l) row p q ≡ Some (d +ℤ way_toll net w s (suc l) (Some p) q))
        × (d ≤ℤ path_price net (edge_price net w prices) s (way_to front p))

    from_there : (p q : Place) (front : List Place) → LeadsTo net s l p front
        → IsTrue (stays_across (edge s (suc l) (Some p) q)) → Onward p q front
    from_there p q front leads stays = by (cost_at row (number p)) refl (reached p) where
      by : (o : Option ℤ) → cost_at row (number p) ≡ o
          → IsReached net (edge_price net w prices) s l p o → Onward p q front
      by (Some d) is least = (
        d,
        guarded_is (stays_across (edge s (suc l) (Some p) q))
            (λ d. d +ℤ way_toll net w s (suc l) (Some p) q) (cost_at row (number p)) d stays is,
        least.least front leads,
      )
      by None is none = absurd (none front leads)

    next_reached : (q : Place) (best : Option ℤ) (allowed : Bool)
        → IsLeastOf (λ k. via net w s (suc l) row (place_at k) q) place_count best
        → in_mask net (edge s (suc l) None q) ≡ allowed
        → IsReached net (edge_price net w prices) s (suc l) q
        (guarded allowed (λ d. d +ℤ toll net w prices s (suc l) q) best)
    next_reached q best false least mask = λ before leads.
        let came = came_on net s l q before after leads in
        true_false (in_mask net (edge s (suc l) None q)) came.mask mask
    next_reached q None true least mask = λ before leads.
        let came = came_on net s l q before after leads in
        let there = from_there came.from q came.front came.leads came.stays in
        not_both (via net w s (suc l) row came.from q)
        (there.0 +ℤ way_toll net w s (suc l) (Some came.from) q)
        (subst (λ p. via net w s (suc l) row p q ≡ None) (place_at-number came.from)
        (least (number came.from) (number_below came.from))) there.1
    next_reached q (Some z) true least mask =
        let k = least.0.0 in
        let p = place_at k in
        let found = guarded_some (stays_across (edge s (suc l) (Some p) q))
        (λ d. d +ℤ way_toll net w s (suc l) (Some p) q) (cost_at row (number p)) z
        least.0.2 in
        let best : IsLeastTo net (edge_price net w prices) s l p found.old
        = subst (IsReached net (edge_price net w prices) s l p) found.was (reached p) in
        let on = price_on net s (edge_price net w prices) l best.before p q best.leads.long in
        let split = price_is (suc l) (Some p) q in
        record {
          before = way_to best.before p;
          leads = comes_on net s l best.before p q best.leads mask found.test;
          is = omega (arith, ints, on, split, found.is, best.is);
          least = λ other leads.
              let came = came_on net s l q other after leads in
              let there = from_there came.from q came.front came.leads came.stays in
              let no_more = least.1 (number came.from)
              (there.0 +ℤ way_toll net w s (suc l) (Some came.from) q)
              (number_below came.from)
              (ap (λ p. via net w s (suc l) row p q) (place_at-number came.from)
              ∙ there.1) in
              let longer = price_on net s (edge_price net w prices) l came.front came.from q
              came.leads.long in
              let parts = price_is (suc l) (Some came.from) q in
              let here = ap (λ ps. path_price net (edge_price net w prices) s (way_to ps q))
              came.is in
              omega (arith, ints, no_more, longer, parts, there.2, here);
        }

    pub next_paid : (q : Place) (best : Option ℤ)
        → IsLeastOf (λ k. via net w s (suc l) row (place_at k) q) place_count best
        → IsReached net (edge_price net w prices) s (suc l) q
        (paid net w prices s (suc l) q best)
    next_paid q best least = next_reached q best (in_mask net (edge s (suc l) None q)) least refl

  pub first_paid_at : (l : ℕ) → l ≡ (strand_at net s).first → (q : Place)
      → IsReached net (edge_price net w prices) s l q
      (paid net w prices s l q (Some (way_toll net w s l None q)))
  first_paid_at l is q = subst (λ l. IsReached net (edge_price net w prices) s l q
      (paid net w prices s l q (Some (way_toll net w s l None q)))) (sym is) (first_paid q)

  pub next_paid_at : (l : ℕ) (row : List (Option ℤ))
      → IsRowBefore net (edge_price net w prices) s l row → (q : Place) (best : Option ℤ)
      → IsLeastOf (λ k. via net w s l row (place_at k) q) place_count best
      → IsReached net (edge_price net w prices) s l q (paid net w prices s l q best)
  next_paid_at l row before q best = subst (λ l.
      IsLeastOf (λ k. via net w s l row (place_at k) q) place_count best
      → IsReached net (edge_price net w prices) s l q (paid net w prices s l q best))
      before.next
      (next_paid before.layer row before.after before.is_row.reached q best)

  -- ---- the last layer

  module _ (order : (strand_at net s).first ≤ (strand_at net s).last)
      (row : List (Option ℤ))
      (reached : (p : Place) → IsReached net (edge_price net w prices) s (strand_at net s).last p
      (cost_at row (number p))) where
    as_path : (q : Place) (before : List Place) → LeadsTo net s (strand_at net s).last q before
        → IsPath net s (way_to before q)
    as_path q before leads =
        let one = length-append before (q ∷ []) in
        record { long = omega arith; masks = leads.masks; across = leads.across }

    -- a path comes to some place, and costs no less than the row has there
    abbrev Arrives : List Place → Type 0
    Arrives ps = (p : Place) × (d : ℤ) × (cost_at row (number p) ≡ Some d)
        × (d ≤ℤ path_price net (edge_price net w prices) s ps)

    of_path : (ps : List Place) → IsPath net s ps → Arrives ps
    of_path [] path = absurd (omega arith)
    of_path (x ∷ xs) path =
        let way = comes x xs in
        let here : IsPath net s (way_to way.before way.to)
        = subst (IsPath net s) way.is path in
        let one = length-append way.before (way.to ∷ []) in
        subst Arrives (sym way.is) (by way.to way.before
        (record { long = omega arith; masks = here.masks; across = here.across })
        (cost_at row (number way.to)) refl (reached way.to))
      where
        by : (p : Place) (before : List Place) → LeadsTo net s (strand_at net s).last p before
            → (o : Option ℤ) → cost_at row (number p) ≡ o
            → IsReached net (edge_price net w prices) s (strand_at net s).last p o
            → Arrives (way_to before p)
        by p before leads (Some d) is least = (p, d, is, least.least before leads)
        by p before leads None is none = absurd (none before leads)

    pub least_cost_of : (z : ℤ) → IsLeastOf (cost_at row) place_count (Some z)
        → IsLeastCost net (edge_price net w prices) any_ends Anywhere s z
    least_cost_of z least =
        let k = least.0.0 in
        let p = place_at k in
        let at : cost_at row (number p) ≡ Some z
        = ap (cost_at row) (number-place_at k least.0.1) ∙ least.0.2 in
        let best : IsLeastTo net (edge_price net w prices) s (strand_at net s).last p z
        = subst (IsReached net (edge_price net w prices) s (strand_at net s).last p) at
        (reached p) in
        record {
          way = way_to best.before p;
          is_least = record {
            goes = anywhere net s (way_to best.before p) (as_path p best.before best.leads);
            least = λ qs goes.
                let found = of_path qs goes.path in
                let no_more = least.1 (number found.0) found.1 (number_below found.0) found.2 in
                omega (arith, ints, best.is, found.3);
          };
          is = best.is;
        }

    -- where the strand has a path, some place of the last layer is reached
    pub some_least : HasPath net s → IsLeastOf (cost_at row) place_count None → ⊥
    some_least has none =
        let found = of_path has.path has.is_path in
        not_both (cost_at row (number found.0)) found.1
        (none (number found.0) (number_below found.0)) found.2

  -- the row of the last layer, where that is known by equations
  pub at_end : (t l : ℕ) (row : List (Option ℤ)) → t ≡ s → l ≡ (strand_at net s).last
      → IsPassRow net (edge_price net w prices) t l row → (p : Place)
      → IsReached net (edge_price net w prices) s (strand_at net s).last p (cost_at row (number p))
  at_end t l row same last is_row p =
      subst (λ l. IsReached net (edge_price net w prices) s l p (cost_at row (number p))) last
      (subst (λ t. IsReached net (edge_price net w prices) t l p (cost_at row (number p))) same
      (is_row.reached p))

  -- ---- how large the numbers of a row are

  module _ (built : IsBuilt net) (valid : IsValid w) (range : AreInRange net prices)
      (there : s < length net.strands) where
    pub least_within : (z : ℤ) → IsLeastCost net (edge_price net w prices) any_ends Anywhere s z
        → IsWithin most_sum z
    least_within z cost =
        let long = cost.is_least.goes.path.long in
        let within = in_layers net built.formed s there in
        let layers = built.formed.layers in
        subst (IsWithin most_sum) cost.is
        (part_is_small net w prices s cost.way built valid range (omega arith))

    module _ (l : ℕ) (before : l ≤ (strand_at net s).last) where
      reached_within : (q : Place) (o : Option ℤ)
          → IsReached net (edge_price net w prices) s l q o → IsCostWithin most_sum o
      reached_within q None none = tt
      reached_within q (Some z) least =
          let one = length-append least.before (q ∷ []) in
          let long = least.leads.long in
          let within = in_layers net built.formed s there in
          let layers = built.formed.layers in
          subst (IsWithin most_sum) least.is
          (part_is_small net w prices s (way_to least.before q) built valid range (omega arith))

      -- a row whose numbers are those of its places
      pub row_of : (row : List (Option ℤ)) → length row ≡ place_count
          → ((k : ℕ) → k < place_count
          → IsReached net (edge_price net w prices) s l (place_at k) (cost_at row k))
          → IsPassRow net (edge_price net w prices) s l row
      row_of row long each = record {
        reached = λ q. subst (λ p. IsReached net (edge_price net w prices) s l p
            (cost_at row (number q))) (place_at-number q) (each (number q) (number_below q));
        within = λ k. elim (cases_lt k place_count) as (λ _.
            IsCostWithin most_sum (cost_at row k)) [
              | inl lt ↦ reached_within (place_at k) (cost_at row k) (each k lt)
              | inr past ↦ rw (get_or_past row k None (omega arith)) tt
            ];
      }
