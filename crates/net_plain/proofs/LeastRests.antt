-- One layer more: the least of all ways to a place and on is the least of what is left.
use Rattle.std.proofs.Common.{◌≡◌, ℕ, suc, ◌*◌, ◌<◌, ◌≤◌, ℤ, pos, ◌+ℤ◌, ◌≤ℤ◌}
use Rattle.std.proofs.Common.{List, [], ◌∷◌, Option, Some, None, refl, sym, ap}
use Rattle.std.proofs.Common.{◌∙◌, subst, arith}
use Rattle.std.proofs.lemmas.Int.{ints}
use Rattle.std.proofs.lemmas.List.Elements.{All-nil, All-cons, All-head, All-tail}
use Rattle.pra_list.proofs.Options.{not_both}
use Rattle.pra_base.specs.declared.ids.Place.{Place}
use Rattle.pra_base.specs.Places.{number, place_at}
use Rattle.pra_base.proofs.PlaceNumbers.{number_below, place_at-number, number-place_at}
use Rattle.net_cost.specs.declared.weights.Weights.{Weights}
use Rattle.net_form.specs.declared.net.Net.{Net}
use Rattle.net_form.specs.declared.prices.Prices.{Prices}
use Rattle.net_form.specs.declared.routes.Ends.{Ends}
use Rattle.net_form.specs.declared.taken.Taken.{Taken}
use Rattle.net_form.specs.Admitted.{strand_at, stays_across}
use Rattle.net_form.specs.Cost.{way_cost}
use Rattle.net_form.specs.Flow.{Edge, edges}
use Rattle.net_form.specs.Tables.{all_tables}
use Rattle.net_dual.specs.Priced.{edge_price}
use Rattle.net_dual.specs.Leasts.{IsLeastOf, cost_at}
use Rattle.net_path.specs.Grounds.{edge, is_free, is_open, there_price}
use Rattle.net_plain.specs.Rows.{there, coming}
use Rattle.net_plain.specs.Rests.{MayTake, Passes, rest_price, GoToEnd, IsCostOf, IsLeastRest}
use Rattle.net_plain.specs.Rests.{IsRest}
use Rattle.net_plain.proofs.Costs.{added_some, added_is}

module _ (net : Net) (w : Weights) (prices : Prices) (ends : Ends) (taken : Taken) (s : ℕ) where
  -- what an edge pays is what is paid there, and its way
  edge_pays : (l : ℕ) (p : Option Place) (q : Place) → edge_price net w prices (edge s l p q)
      ≡ there_price net w prices (edge s l None q)
      +ℤ pos (1024 * way_cost all_tables net w (edge s l p q))
  edge_pays l p q = omega (arith, ints)

  -- from a place before layer l to q and on
  abbrev pub onward : ℕ → Option Place → Place → Option ℤ → Option ℤ
  onward l p q o = coming net w s l p q (there net w prices ends taken s l q o)

  abbrev Takes : Edge → Type 0
  Takes = MayTake net ends taken s

  record GoesOn (l : ℕ) (p : Option Place) (q : Place) (o : Option ℤ) (z : ℤ) : Type 0 where
    takes : Takes (edge s l p q)
    rest : ℤ
    was : o ≡ Some rest
    is : z ≡ edge_price net w prices (edge s l p q) +ℤ rest

  goes_on : (l : ℕ) (p : Option Place) (q : Place) (o : Option ℤ) (z : ℤ)
      → onward l p q o ≡ Some z → GoesOn l p q o z
  goes_on l p q o z is =
      let come = added_some (stays_across (edge s l p q))
      (pos (1024 * way_cost all_tables net w (edge s l p q)))
      (there net w prices ends taken s l q o) z is in
      let here = added_some (is_open net ends (is_free net taken) s (edge s l None q))
      (there_price net w prices (edge s l None q)) o come.old come.was in
      let pays = edge_pays l p q in record {
        takes = (here.test, come.test);
        rest = here.old;
        was = here.was;
        is = omega (arith, ints);
      }

  goes : (l : ℕ) (p : Option Place) (q : Place) (o : Option ℤ) (rest : ℤ)
      → Takes (edge s l p q) → o ≡ Some rest
      → onward l p q o ≡ Some (edge_price net w prices (edge s l p q) +ℤ rest)
  goes l p q o rest takes was =
      let here = there_price net w prices (edge s l None q) in
      let way = pos (1024 * way_cost all_tables net w (edge s l p q)) in
      let pays = edge_pays l p q in
      let sum : (rest +ℤ here) +ℤ way ≡ edge_price net w prices (edge s l p q) +ℤ rest
      = omega (arith, ints) in
      added_is (stays_across (edge s l p q)) way (there net w prices ends taken s l q o)
      (rest +ℤ here) takes.1
      (added_is (is_open net ends (is_free net taken) s (edge s l None q)) here o rest takes.0 was)
      ∙ ap Some sum

  -- ---- what places cost

  -- a place before them
  pub cost_more : (l : ℕ) (p : Option Place) (q : Place) (qs : List Place) (o : Option ℤ)
      → IsCostOf net w prices ends taken s (suc l) (Some q) qs o
      → IsCostOf net w prices ends taken s l p (q ∷ qs) (onward l p q o)
  cost_more l p q qs o cost = by o (onward l p q o) cost refl where
    by : (o r : Option ℤ) → IsCostOf net w prices ends taken s (suc l) (Some q) qs o
        → onward l p q o ≡ r → IsCostOf net w prices ends taken s l p (q ∷ qs) r
    by None None cost is = λ passes. cost (All-tail Takes _ _ passes)
    by (Some d) None cost is = λ passes. not_both (onward l p q (Some d)) _ is
        (goes l p q (Some d) d (All-head Takes _ _ passes) refl)
    by o (Some z) cost is =
        let g = goes_on l p q o z is in
        let rest = subst (IsCostOf net w prices ends taken s (suc l) (Some q) qs) g.was cost in
        let b = rest.1 in
        (All-cons Takes _ _ g.takes rest.0, omega (arith, ints))

  -- ---- the least

  -- behind the last layer nothing is left
  pub nothing_more : (l : ℕ) (p : Option Place) → l ≡ suc (strand_at net s).last
      → IsRest net w prices ends taken s l p (Some (pos 0))
  nothing_more l p behind = record {
    way = [];
    long = omega arith;
    passes = All-nil Takes;
    is = refl;
    least = none;
  } where
    none : (qs : List Place) → GoToEnd net s l qs → Passes net ends taken s l p qs
        → pos 0 ≤ℤ rest_price net w prices s l p qs
    none [] long passes = omega (arith, ints)
    none (q ∷ qs) long passes = absurd (omega arith)

  module _ (l : ℕ) (p : Option Place) (rests row : List (Option ℤ))
      (last : l ≤ (strand_at net s).last)
      (left : (q : Place) →
      IsRest net w prices ends taken s (suc l) (Some q) (cost_at rests (number q)))
      (there_is : (k : ℕ) → k < 14 →
      cost_at row k ≡ there net w prices ends taken s l (place_at k) (cost_at rests k)) where
    abbrev f : ℕ → Option ℤ
    f k = coming net w s l p (place_at k) (cost_at row k)

    at_index : (k : ℕ) → k < 14 → f k ≡ onward l p (place_at k) (cost_at rests k)
    at_index k lt = ap (coming net w s l p (place_at k)) (there_is k lt)

    at_place : (q : Place) → f (number q) ≡ onward l p q (cost_at rests (number q))
    at_place q = at_index (number q) (number_below q)
        ∙ ap (λ (r : Place). onward l p r (cost_at rests (number q))) (place_at-number q)

    -- what is left behind a place of a path
    some_left : (q : Place) (qs : List Place) → GoToEnd net s l (q ∷ qs)
        → Passes net ends taken s l p (q ∷ qs) → (o : Option ℤ)
        → IsRest net w prices ends taken s (suc l) (Some q) o
        → (z : ℤ) × (o ≡ Some z) × (z ≤ℤ rest_price net w prices s (suc l) (Some q) qs)
    some_left q qs long passes None none =
        absurd (none qs (omega arith) (All-tail Takes _ _ passes))
    some_left q qs long passes (Some z) least =
        (z, refl, least.least qs (omega arith) (All-tail Takes _ _ passes))

    -- a path has a way to its first place and on
    some_way : (q : Place) (qs : List Place) → GoToEnd net s l (q ∷ qs)
        → Passes net ends taken s l p (q ∷ qs)
        → (z : ℤ) × (f (number q) ≡ Some z) × (z ≤ℤ rest_price net w prices s l p (q ∷ qs))
    some_way q qs long passes =
        let rest = some_left q qs long passes (cost_at rests (number q)) (left q) in
        let le = rest.2 in (
          edge_price net w prices (edge s l p q) +ℤ rest.0,
          at_place q ∙ goes l p q _ rest.0 (All-head Takes _ _ passes) rest.1,
          omega (arith, ints),
        )

    none_goes : IsLeastOf f 14 None → (qs : List Place) → GoToEnd net s l qs
        → Passes net ends taken s l p qs → ⊥
    none_goes none [] long passes = absurd (omega arith)
    none_goes none (q ∷ qs) long passes =
        let way = some_way q qs long passes in
        not_both (f (number q)) way.0 (none (number q) (number_below q)) way.1

    no_less : (z : ℤ) → IsLeastOf f 14 (Some z) → (qs : List Place) → GoToEnd net s l qs
        → Passes net ends taken s l p qs → z ≤ℤ rest_price net w prices s l p qs
    no_less z least [] long passes = absurd (omega arith)
    no_less z least (q ∷ qs) long passes =
        let way = some_way q qs long passes in
        let le = way.2 in
        let first = least.1 (number q) way.0 (number_below q) way.1 in
        omega (arith, ints)

    least_is : (z : ℤ) → IsLeastOf f 14 (Some z) → IsLeastRest net w prices ends taken s l p z
    least_is z least =
        let k = least.0.0 in
        let lt = least.0.1 in
        let q = place_at k in
        let g = goes_on l p q (cost_at rests k) z (sym (at_index k lt) ∙ least.0.2) in
        let rest : IsLeastRest net w prices ends taken s (suc l) (Some q) g.rest
        = subst (IsRest net w prices ends taken s (suc l) (Some q)) g.was
        (subst (λ (n : ℕ). IsRest net w prices ends taken s (suc l) (Some q) (cost_at rests n))
        (number-place_at k lt) (left q)) in
        record {
          way = q ∷ rest.way;
          long = omega arith;
          passes = All-cons Takes _ (edges s (suc l) (Some q) rest.way) g.takes rest.passes;
          is = omega (arith, ints);
          least = no_less z least;
        }

    pub rest_more : (o : Option ℤ)
        → IsLeastOf (λ k. coming net w s l p (place_at k) (cost_at row k)) 14 o
        → IsRest net w prices ends taken s l p o
    rest_more None none = none_goes none
    rest_more (Some z) least = least_is z least
