-- From the row behind a layer to the layer's own row.
use Rattle.std.proofs.Common.{ℕ, zero, suc, ◌≡◌, ◌≢◌, ◌⊎◌, ◌<◌, ◌≤◌, ◌+◌, ◌-◌, ◌%◌, Bool, true}
use Rattle.std.proofs.Common.{false, ℤ, pos, List, length, Some, refl, sym, subst, ◌∙◌, inl, inr}
use Rattle.std.proofs.Common.{arith}
use Rattle.std.proofs.lemmas.Int.{ints}
use Rattle.pra_base.specs.declared.ids.Place.{Place}
use Rattle.pra_base.specs.Places.{number}
use Rattle.net_form.proofs.PlaceEquality.{same_place-true, same_place-refl}
use Rattle.net_path.specs.declared.crossbar.Row.{Row}
use Rattle.net_path.specs.Ways.{at, IsShort, IsLeastWay}
use Rattle.net_path.specs.Rests.{unreached, Terrain, IsFrom, IsRow, IsLowest, IsSlack, AreRows}
use Rattle.net_path.specs.Rows.{costs_at, cell_bound, slack_at, IsAbout, IsGround, IsCell, AreCells}
use Rattle.net_path.specs.Rows.{IsPaid, IsRowWithin, IsPaidLayer}
use Rattle.std.proofs.lemmas.Bool.{cases_eq}
use Rattle.pra_base.proofs.PlaceNumbers.{number_below, place_of}
use Rattle.net_path.proofs.Within.{parity, paid_within}
use Rattle.net_path.proofs.LeastRests.{rest_more, nothing_left}

module _ (step : ℕ → ℕ → ℤ) (first n : ℕ) (t : Terrain) (ground : IsGround step first n t) where
  -- the slack of a layer covers what is paid there
  pub slack_of : (k : ℕ) → k < n → IsSlack t k (slack_at n k) (slack_at n (suc k))
  slack_of k lt = record {
    way_low = λ p q. ground.way_low k p q;
    way_high = λ p q. ground.way_high k p q;
    low = λ q opened. let c = (ground.cells k q lt opened).0 in omega (arith, ints, c);
    high = λ q opened. let c = (ground.cells k q lt opened).1 in omega (arith, ints, c);
    room = omega arith;
  }

  -- across an instruction a value stays
  pub stays_best : (k : ℕ) (costs : List ℤ) (q : Place) → (first + k) % 2 ≡ 0
      → IsLowest t k (Some q) costs (at costs (number q))
  stays_best k costs q even = record {
    below = λ r comes.
        let same = same_place-true q r (sym (ground.across k q r even).0 ∙ comes) in
        let way = (ground.across k q r even).1 in
        rw (way, ← same) (omega (arith, ints));
    met = record {
      place = q;
      comes = (ground.across k q q even).0 ∙ same_place-refl q;
      met = let way = (ground.across k q q even).1 in rw way (omega (arith, ints));
    };
  }

  -- and before a crossbar what was found is the least
  pub crossed_best : (k : ℕ) (behind : List ℤ) (z : ℤ) (q : Place) → (first + k) % 2 ≡ 1
      → IsLeastWay (step (number q)) behind z → IsLowest t k (Some q) behind z
  crossed_best k behind z q odd least =
      let to = place_of least.met.place least.met.within in record {
        below = λ r comes. let way = (ground.crossbar k q r odd).1 in
            let b = least.below (number r) (number_below r) in rw way b;
        met = record {
          place = to.place;
          comes = (ground.crossbar k q to.place odd).0;
          met = let way = (ground.crossbar k q to.place odd).1 in rw (way, to.is) least.met.met;
        };
      }

  -- the row of the last layer is what is paid there
  pub last_row : (k : ℕ) (costs : List ℤ)
      → suc k ≡ n → ((q : Place) → IsCell (t.is_open k q) (t.cell k q) (at costs (number q)))
      → IsRow t 0 k (slack_at n (suc k)) costs
  last_row k costs e cells q = of (t.is_open k q) (cells q) where
    of : (b : Bool) → IsCell b (t.cell k q) (at costs (number q))
        → IsFrom b t 0 k q (slack_at n (suc k)) (at costs (number q))
    of true is = record {
      rest = pos 0;
      least = nothing_left t (suc k) (Some q) (slack_at n (suc k));
      is = omega (arith, ints, is);
    }
    of false is = is

  -- what is paid at a place, and then the best of what is left
  pub record IsPaidBest (k : ℕ) (behind : List ℤ) (q : Place) (cell z : ℤ) : Type 0 where
    pub rest : ℤ
    pub best : IsLowest t k (Some q) behind rest
    pub paid : IsPaid cell rest z

  pub paid_best : (k : ℕ) (behind cells costs : List ℤ) (q : Place)
      → IsPaidLayer step (first + k) behind cells costs
      → IsPaidBest k behind q (at cells (number q)) (at costs (number q))
  paid_best k behind cells costs q paid =
      elim (parity (first + k))
      as (λ _. IsPaidBest k behind q (at cells (number q)) (at costs (number q))) [
        | inl even ↦ record {
          rest = at behind (number q);
          best = stays_best k behind q even;
          paid = paid.across even (number q) (number_below q);
        }
        | inr odd ↦ let over = paid.crossbar odd (number q) (number_below q) in record {
          rest = over.rest;
          best = crossed_best k behind over.rest q odd over.least;
          paid = over.paid;
        }
      ]

  -- that of any other is what is paid there, and the best of what is left
  pub row_before : (m k : ℕ) (cells behind costs : List ℤ) → suc (suc (m + k)) ≡ n
      → ((q : Place) → IsCell (t.is_open k q) (t.cell k q) (at cells (number q)))
      → IsRow t m (suc k) (slack_at n (suc (suc k))) behind
      → ((q : Place) → IsPaidBest (suc k) behind q (at cells (number q)) (at costs (number q)))
      → IsRow t (suc m) k (slack_at n (suc k)) costs
  row_before m k cells behind costs e are row best q =
      of (t.is_open k q) refl (are q) where
        this : IsPaidBest (suc k) behind q (at cells (number q)) (at costs (number q))
        this = best q

        of : (b : Bool) → t.is_open k q ≡ b → IsCell b (t.cell k q) (at cells (number q))
            → IsFrom b t (suc m) k q (slack_at n (suc k)) (at costs (number q))
        of true opened is =
            let about = (ground.cells k q (omega arith) opened).1 in record {
              rest = this.rest;
              least = rest_more t m (suc k) (slack_at n (suc k)) (slack_at n (suc (suc k))) (Some q)
                  behind (slack_of (suc k) (omega arith)) row this.rest this.best;
              is = rw (← is) (this.paid.opened (omega (arith, ints, is, about)));
            }
        of false shut is = this.paid.shut is

  -- the row of the last layer
  pub rows_last : (rows : List Row) → suc (length rows - 1) ≡ length rows → length rows ≡ n
      → AreCells t rows → AreRows t (costs_at rows) (slack_at n) n (n - 1)
  rows_last rows e long cells = record {
    rows = λ m k le end.
        let none : m ≡ 0 = omega arith in
        subst (λ (m : ℕ). IsRow t m k (slack_at n (suc k)) (costs_at rows k)) (sym none)
        (last_row k (costs_at rows k) (omega arith) (λ q. cells k q (omega arith)));
    slacks = λ k le lt. slack_of k lt;
  }

  -- one layer more
  pub rows_more : (old new : List Row) (initial : List Row) (i : ℕ)
      → suc i < n → length initial ≡ n → ((k : ℕ) → suc i ≤ k → costs_at new k ≡ costs_at old k)
      → AreCells t initial
      → IsPaidLayer step (first + suc i) (costs_at old (suc i)) (costs_at initial i)
      (costs_at new i)
      → AreRows t (costs_at old) (slack_at n) n (suc i) → AreRows t (costs_at new) (slack_at n) n i
  rows_more old new initial i lt long same cells paid are = record {
    rows = λ m k le end. elim (cases_eq k i)
        as (λ _. IsRow t m k (slack_at n (suc k)) (costs_at new k)) [
          | inl here ↦ at_here m k here end
          | inr other ↦ subst (λ (xs : List ℤ). IsRow t m k (slack_at n (suc k)) xs)
              (sym (same k (omega arith))) (are.rows m k (omega arith) end)
        ];
    slacks = λ k le lt. slack_of k lt;
  } where
    made : (m : ℕ) → suc (suc m + i) ≡ n → IsRow t (suc m) i (slack_at n (suc i)) (costs_at new i)
    made m end = row_before m i (costs_at initial i) (costs_at old (suc i)) (costs_at new i)
        (omega arith) (λ q. cells i q (omega arith))
        (are.rows m (suc i) (omega arith) (omega arith))
        (λ q. paid_best (suc i) (costs_at old (suc i)) (costs_at initial i) (costs_at new i) q paid)

    at_here : (m k : ℕ) → k ≡ i → suc (m + k) ≡ n
        → IsRow t m k (slack_at n (suc k)) (costs_at new k)
    at_here zero k here end = absurd (omega arith)
    at_here (suc m) k here end =
        subst (λ (k : ℕ). IsRow t (suc m) k (slack_at n (suc k)) (costs_at new k)) (sym here)
        (made m (omega arith))

-- one layer more, as the loop makes it
module _ (step : ℕ → ℕ → ℤ) (short : (p q : ℕ) → IsShort (step p q))
    (first i j n : ℕ) (next : j ≡ suc i) (lt : j < n) (old new initial : List Row)
    (long : length initial ≡ n) (same : (k : ℕ) → k ≢ i → costs_at new k ≡ costs_at old k)
    (left : costs_at old i ≡ costs_at initial i)
    (paid : IsPaidLayer step (first + j) (costs_at old j) (costs_at old i) (costs_at new i)) where
  pub small_more : ((p : ℕ) → p < 14 → (at (costs_at initial i) p ≡ unreached)
      ⊎ IsAbout (cell_bound n i) (at (costs_at initial i) p))
      → IsRowWithin (slack_at n j) (costs_at old j) → IsRowWithin (slack_at n i) (costs_at new i)
  small_more about small =
      paid_within step short n i (first + suc i) (costs_at old (suc i)) (costs_at old i)
      (costs_at new i)
      (omega arith) (rw left about)
      (subst (λ (j : ℕ). IsRowWithin (slack_at n j) (costs_at old j)) next small)
      (subst (λ (j : ℕ). IsPaidLayer step (first + j) (costs_at old j) (costs_at old i)
      (costs_at new i)) next paid)

  pub paid_more : (t : Terrain) → IsGround step first n t → AreCells t initial
      → AreRows t (costs_at old) (slack_at n) n j → AreRows t (costs_at new) (slack_at n) n i
  paid_more t ground cells are =
      rows_more step first n t ground old new initial i (omega arith) long
      (λ k le. same k (omega arith)) cells
      (subst (λ (xs : List ℤ). IsPaidLayer step (first + suc i) (costs_at old (suc i)) xs
      (costs_at new i)) left
      (subst (λ (j : ℕ). IsPaidLayer step (first + j) (costs_at old j) (costs_at old i)
      (costs_at new i)) next paid))
      (subst (λ (j : ℕ). AreRows t (costs_at old) (slack_at n) n j) next are)
