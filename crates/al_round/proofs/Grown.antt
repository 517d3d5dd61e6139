-- Stages with one more behind them.
use Rattle.std.proofs.Common.{◌≡◌, ℕ, zero, suc, ◌<◌, ◌≤◌, ◌⊎◌, inl, inr, ⊎_elim, List}
use Rattle.std.proofs.Common.{[], ◌∷◌, ◌++◌, map, length, Some, refl, sym, ap, subst, ◌∙◌, arith}
use Rattle.std.proofs.Common.{ℤ, ◌≤ℤ◌, ◌<ℤ◌}
use Rattle.std.specs.Prelude.{slice_get}
use Rattle.std.proofs.lemmas.Int.{ints}
use Rattle.std.proofs.lemmas.Option.{slice_get_within}
use Rattle.pra_list.proofs.Elements.{got_front, got_last}
use Rattle.pra_list.proofs.Options.{some_same, none_some}
use Rattle.net_cost.specs.declared.weights.Weights.{Weights}
use Rattle.net_form.specs.declared.net.Net.{Net}
use Rattle.net_form.specs.declared.prices.Prices.{Prices}
use Rattle.net_dual.specs.Priced.{cost_by_weights}
use Rattle.net_dual.specs.Step.{IsNext}
use Rattle.net_dual.specs.Value.{IsValue, IsLagrange}
use Rattle.al_round.specs.Ascents.{AreRaisedPrices}
use Rattle.al_round.specs.Stages.{Stage, AreStages, IsFirstGreatest, IsLastRaised, IsGreatest}

-- what is read from a list with one more is read from the list, or is the one more
pub got_more : {A : Type 0} (xs : List A) (x : A) (k : ℕ) (y : A)
    → slice_get (xs ++ x ∷ []) k ≡ Some y
    → (slice_get xs k ≡ Some y) ⊎ ((k ≡ length xs) × (x ≡ y))
got_more [] x zero y there = inr (refl, some_same x y there)
got_more [] x (suc k) y there = absurd (none_some there)
got_more (z ∷ xs) x zero y there = inl there
got_more (z ∷ xs) x (suc k) y there = ⊎_elim (λ e. inl e) (λ e. inr (ap suc e.0, e.1))
    (got_more xs x k y there)

pub got_before : {A : Type 0} (xs : List A) (x : A) (k : ℕ) (y : A)
    → slice_get (xs ++ x ∷ []) k ≡ Some y → k < length xs → slice_get xs k ≡ Some y
got_before xs x k y there lt = ⊎_elim (λ e. e)
    (λ e. let same = e.0 in absurd (omega (arith, lt, same))) (got_more xs x k y there)

pub got_within : {A : Type 0} (xs : List A) (k : ℕ) → k < length xs
    → (x : A) × (slice_get xs k ≡ Some x)
got_within [] k lt = absurd (omega (arith, lt))
got_within (x ∷ xs) zero lt = (x, refl)
got_within (x ∷ xs) (suc k) lt = got_within xs k (omega (arith, lt))

pub got_mapped : {A B : Type 0} (f : A → B) (xs : List A) (k : ℕ) (y : B)
    → slice_get (map f xs) k ≡ Some y → (x : A) × ((slice_get xs k ≡ Some x) × (f x ≡ y))
got_mapped f [] k y there = absurd (none_some there)
got_mapped f (x ∷ xs) zero y there = (x, (refl, some_same (f x) y there))
got_mapped f (x ∷ xs) (suc k) y there = got_mapped f xs k y there

-- one thing stands at a number
pub got_one : {A : Type 0} (xs : List A) (k : ℕ) (x y : A) → slice_get xs k ≡ Some x
    → slice_get xs k ≡ Some y → x ≡ y
got_one xs k x y one other = some_same x y (sym one ∙ other)

module _ (stages : List Stage) (t : Stage) where
  abbrev more : List Stage
  more = stages ++ t ∷ []

  module _ (net : Net) (w : Weights) (old : AreStages net w stages) where
    -- what holds of each stage and the next one holds also of the last and the new one
    each_next : (P : ℕ → Stage → Stage → Type 0) (s : Stage) (k : ℕ) → suc k ≡ length stages
        → slice_get stages k ≡ Some s → P k s t
        → ((j : ℕ) (a b : Stage) → slice_get stages j ≡ Some a
        → slice_get stages (suc j) ≡ Some b → P j a b)
        → (j : ℕ) (a b : Stage) → slice_get more j ≡ Some a → slice_get more (suc j) ≡ Some b
        → P j a b
    each_next P s k long last new before j a b one two = ⊎_elim
        (λ e.
        let lt = slice_get_within stages (suc j) b e in
        before j a b (got_before stages t j a one (omega (arith, lt))) e)
        (λ e.
        let at = e.0 in
        let same : k ≡ j = omega (arith, at, long) in
        let here : slice_get stages k ≡ Some a
        = subst (λ n. slice_get stages n ≡ Some a) (sym same)
        (got_before stages t j a one (omega (arith, at))) in
        subst (λ n. P n a b) same
        (subst (λ u. P k u b) (got_one stages k s a last here) (subst (P k s) e.1 new)))
        (got_more stages t (suc j) b two)

    -- the last of the stages, and the next one after it
    pub stages_more : (s : Stage) (k : ℕ) → suc k ≡ length stages → slice_get stages k ≡ Some s
        → IsNext net s.family (suc k) s.prices t.prices
        → IsValue net (cost_by_weights net w) t.prices t.family t.value
        → AreRaisedPrices net w s.raised t.raised → IsLagrange net w t.raised t.raised_value
        → AreStages net w more
    stages_more s k long last next value raised raised_value = record {
      starts = λ u there. old.starts u
          (got_before stages t 0 u there (omega (arith, long)));
      goes_on = each_next (λ j a b. IsNext net a.family (suc j) a.prices b.prices) s k long last
          next old.goes_on;
      values = λ j a there. ⊎_elim (λ e. old.values j a e)
          (λ e. subst (λ u. IsValue net (cost_by_weights net w) u.prices u.family u.value) e.1
          value)
          (got_more stages t j a there);
      rise_from = λ u there. old.rise_from u
          (got_before stages t 0 u there (omega (arith, long)));
      rise = each_next (λ j a b. AreRaisedPrices net w a.raised b.raised) s k long last raised
          old.rise;
      raised_values = λ j a there. ⊎_elim (λ e. old.raised_values j a e)
          (λ e. subst (λ u. IsLagrange net w u.raised u.raised_value) e.1 raised_value)
          (got_more stages t j a there);
    }

  first_stays : (k m : ℕ) (prices : Prices) (value : ℤ) → k ≤ m → k < length stages
      → IsFirstGreatest stages k prices value → IsFirstGreatest more m prices value
  first_stays k m prices value le lt f =
      let until = f.until in
      record {
        at = f.at;
        until = omega (arith, until, le);
        stage = f.stage;
        there = got_front stages (t ∷ []) f.at f.stage f.there;
        same_prices = f.same_prices;
        same_value = f.same_value;
        first = λ j s before there. f.first j s before
            (got_before stages t j s there (omega (arith, before, until, lt)));
      }

  raised_stays : (k : ℕ) (prices : Prices) (value : ℤ) → IsLastRaised stages k prices value
      → IsLastRaised more k prices value
  raised_stays k prices value r = record {
    stage = r.stage;
    there = got_front stages (t ∷ []) k r.stage r.there;
    same_prices = r.same_prices;
    same_value = r.same_value;
  }

  pub greatest_stays : (k : ℕ) (prices : Prices) (value : ℤ) → k < length stages
      → IsGreatest stages k prices value → IsGreatest more k prices value
  greatest_stays k prices value lt g = record {
    one = ⊎_elim (λ f. inl (first_stays k k prices value (omega arith) lt f))
        (λ r. inr (raised_stays k prices value r)) g.one;
    most = λ j s le there. g.most j s le (got_before stages t j s there (omega (arith, le, lt)));
    most_raised = λ s there. g.most_raised s (got_before stages t k s there lt);
  }

  module _ (k : ℕ) (prices : Prices) (value : ℤ) (long : suc k ≡ length stages)
      (g : IsGreatest stages k prices value) where
    new_there : slice_get more (suc k) ≡ Some t
    new_there = subst (λ n. slice_get more n ≡ Some t) (sym long) (got_last stages t [])

    -- values are no greater than one that the old greatest one and the new one are no greater than
    all_below : (top : ℤ) → value ≤ℤ top → t.value ≤ℤ top → (j : ℕ) (s : Stage) → j ≤ suc k
        → slice_get more j ≡ Some s → s.value ≤ℤ top
    all_below top above new j s le there = ⊎_elim
        (λ e.
        let lt = slice_get_within stages j s e in
        let below = g.most j s (omega (arith, lt, long)) e in
        omega (arith, ints, below, above))
        (λ e. subst (λ u. u.value ≤ℤ top) e.1 new)
        (got_more stages t j s there)

    raised_below : (top : ℤ) → t.raised_value ≤ℤ top → (s : Stage)
        → slice_get more (suc k) ≡ Some s → s.raised_value ≤ℤ top
    raised_below top new s there = subst (λ u. u.raised_value ≤ℤ top)
        (got_one more (suc k) t s new_there there) new

    -- the value so far stays the greatest, where it is above that of the raised prices
    pub greatest_kept : t.value ≤ℤ value → t.raised_value <ℤ value
        → ((s : Stage) → slice_get stages k ≡ Some s → s.raised_value ≤ℤ t.raised_value)
        → IsGreatest more (suc k) prices value
    greatest_kept less raised rise = record {
      one = ⊎_elim
          (λ f. inl (first_stays k (suc k) prices value (omega arith) (omega (arith, long)) f))
          (λ r.
          let same = r.same_value in
          let below = rise r.stage r.there in
          absurd (omega (arith, ints, same, below, raised)))
          g.one;
      most = all_below value (omega (arith, ints)) less;
      most_raised = raised_below value (omega (arith, ints, raised));
    }

    -- or that of the new prices is
    pub greatest_new : value <ℤ t.value → t.raised_value ≤ℤ t.value
        → IsGreatest more (suc k) t.prices t.value
    greatest_new greater raised = record {
      one = inl (record {
        at = suc k;
        until = omega arith;
        stage = t;
        there = new_there;
        same_prices = refl;
        same_value = refl;
        first = λ j s before there.
            let below = g.most j s (omega (arith, before))
            (got_before stages t j s there (omega (arith, before, long))) in
            omega (arith, ints, below, greater);
      });
      most = all_below t.value (omega (arith, ints, greater)) (omega (arith, ints));
      most_raised = raised_below t.value raised;
    }

    -- or that of the raised prices
    pub greatest_raised : value ≤ℤ t.raised_value → t.value ≤ℤ t.raised_value
        → IsGreatest more (suc k) t.raised t.raised_value
    greatest_raised above new = record {
      one = inr (record {
        stage = t;
        there = new_there;
        same_prices = refl;
        same_value = refl;
      });
      most = all_below t.raised_value above new;
      most_raised = raised_below t.raised_value (omega (arith, ints));
    }
