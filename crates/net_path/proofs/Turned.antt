-- A terrain read against the order of its layers: its paths are those of the terrain turned round,
-- at the same price.
use Rattle.std.proofs.Common.{ℕ, suc, ◌≡◌, ◌<◌, ◌+◌, ◌-◌, ◌%◌, ◌^◌, Bool, true, ℤ, pos}
use Rattle.std.proofs.Common.{◌+ℤ◌, ◌≤ℤ◌, List, [], ◌∷◌, length, slice_get, Option, Some, None}
use Rattle.std.proofs.Common.{IsTrue, refl, sym, subst, ap, ◌∙◌, inl, inr, arith, ◌⊎◌}
use mathlib.Core.List.{reverse, reverse_aux}
use Rattle.std.proofs.lemmas.Int.{ints}
use Rattle.std.proofs.lemmas.Bool.Decides.{nat_tests}
use Rattle.std.proofs.lemmas.List.{length-reverse, get_or-reverse, reverse-reverse}
use Rattle.pra_base.specs.declared.ids.Place.{Place}
use Rattle.pra_base.specs.Places.{number}
use Rattle.net_form.specs.Flow.{same_place}
use Rattle.net_path.specs.declared.crossbar.Row.{Row}
use Rattle.net_path.specs.Rests.{unreached, Terrain, Passes, rest_price}
use Rattle.net_path.specs.Rows.{costs_at, no_row, cell_bound, IsAbout, AreCellsWithin, IsGround}
use Rattle.net_path.specs.Rows.{AreCells, IsCell}
use Rattle.net_path.specs.Ways.{at}

abbrev pub comes_back : Terrain → ℕ → Option Place → Place → Bool
comes_back t l None q = true
comes_back t l (Some p) q = t.may_come l (Some q) p

abbrev pub way_back : Terrain → ℕ → Option Place → Place → ℤ
way_back t l None q = pos 0
way_back t l (Some p) q = t.way l (Some q) p

-- the step to layer k of the turned terrain is that to this layer
abbrev pub step_layer : ℕ → ℕ → ℕ
step_layer n k = (n - k) + (k - n)

abbrev pub turned : Terrain → ℕ → Terrain
turned t n = record {
  is_open = λ k q. t.is_open (n - suc k) q;
  may_come = λ k p q. comes_back t (step_layer n k) p q;
  way = λ k p q. way_back t (step_layer n k) p q;
  cell = λ k q. t.cell (n - suc k) q;
}

module _ (t : Terrain) (n : ℕ) where
  abbrev u : Terrain
  u = turned t n

  head_price : (k : ℕ) (q h : Place) (hs : List Place) → rest_price u k (Some q) (h ∷ hs)
      ≡ t.way (step_layer n k) (Some h) q +ℤ rest_price u k None (h ∷ hs)
  head_price k q h hs = omega (arith, ints)

  -- the places from layer l on, in front of those before it
  price_on : (l : ℕ) (h : Place) (hs qs : List Place) → 0 < l → l + length qs ≡ n
      → rest_price u 0 None (reverse_aux qs (h ∷ hs))
      ≡ rest_price u (n - l) None (h ∷ hs) +ℤ rest_price t l (Some h) qs
  price_on l h hs [] some e =
      let none : n - l ≡ 0 = omega (arith, e) in
      let same = ap (λ (k : ℕ). rest_price u k None (h ∷ hs)) none in
      omega (arith, ints, same)
  price_on l h hs (q ∷ qs) some e =
      let more = price_on (suc l) q (h ∷ hs) qs (omega arith) (omega (arith, e)) in
      let here : n - suc (n - suc l) ≡ l = omega (arith, e) in
      let next : suc (n - suc l) ≡ n - l = omega (arith, e) in
      let step : step_layer n (n - l) ≡ l = omega (arith, e) in
      let cell = ap (λ (k : ℕ). t.cell k q) here in
      let behind = ap (λ (k : ℕ). rest_price u k (Some q) (h ∷ hs)) next in
      let head = head_price (n - l) q h hs in
      let way = ap (λ (k : ℕ). t.way k (Some h) q) step in
      omega (arith, ints, more, cell, behind, head, way)

  pub price_back : (ps : List Place) → length ps ≡ n → ((q : Place) → t.way 0 None q ≡ pos 0)
      → rest_price u 0 None (reverse ps) ≡ rest_price t 0 None ps
  price_back [] e free = refl
  price_back (q ∷ qs) e free =
      let more = price_on 1 q [] qs (omega arith) (omega (arith, e)) in
      let here : n - suc (n - 1) ≡ 0 = omega (arith, e) in
      let cell = ap (λ (k : ℕ). t.cell k q) here in
      let way = free q in
      omega (arith, ints, more, cell, way)

  passes_on : (l : ℕ) (h : Place) (hs qs : List Place) → 0 < l → l + length qs ≡ n
      → Passes u (n - l) None (h ∷ hs) → Passes t l (Some h) qs
      → Passes u 0 None (reverse_aux qs (h ∷ hs))
  passes_on l h hs [] some e before after =
      let none : n - l ≡ 0 = omega (arith, e) in
      subst (λ (k : ℕ). Passes u k None (h ∷ hs)) none before
  passes_on l h hs (q ∷ qs) some e before after =
      let here : n - suc (n - suc l) ≡ l = omega (arith, e) in
      let next : suc (n - suc l) ≡ n - l = omega (arith, e) in
      let step : step_layer n (n - l) ≡ l = omega (arith, e) in
      let stepped : Passes u (n - l) (Some q) (h ∷ hs) = (
        before.0,
        subst (λ (k : ℕ). IsTrue (t.may_come k (Some h) q)) (sym step) after.1,
        before.2,
      ) in
      passes_on (suc l) q (h ∷ hs) qs (omega arith) (omega (arith, e)) (
        subst (λ (k : ℕ). IsTrue (t.is_open k q)) (sym here) after.0,
        refl,
        subst (λ (k : ℕ). Passes u k (Some q) (h ∷ hs)) (sym next) stepped,
      ) after.2

  passes_off : (l : ℕ) (h : Place) (hs qs : List Place) → 0 < l → l + length qs ≡ n
      → Passes u 0 None (reverse_aux qs (h ∷ hs))
      → Passes u (n - l) None (h ∷ hs) × Passes t l (Some h) qs
  passes_off l h hs [] some e all =
      let none : n - l ≡ 0 = omega (arith, e) in
      (subst (λ (k : ℕ). Passes u k None (h ∷ hs)) (sym none) all, tt)
  passes_off l h hs (q ∷ qs) some e all =
      let here : n - suc (n - suc l) ≡ l = omega (arith, e) in
      let next : suc (n - suc l) ≡ n - l = omega (arith, e) in
      let step : step_layer n (n - l) ≡ l = omega (arith, e) in
      let more = passes_off (suc l) q (h ∷ hs) qs (omega arith) (omega (arith, e)) all in
      let stepped : Passes u (n - l) (Some q) (h ∷ hs) =
      subst (λ (k : ℕ). Passes u k (Some q) (h ∷ hs)) next more.0.2 in (
        (stepped.0, refl, stepped.2),
        (
          subst (λ (k : ℕ). IsTrue (t.is_open k q)) here more.0.0,
          subst (λ (k : ℕ). IsTrue (t.may_come k (Some h) q)) step stepped.1,
          more.1,
        ),
      )

  pub passes_back : (ps : List Place) → length ps ≡ n → Passes t 0 None ps
      → Passes u 0 None (reverse ps)
  passes_back [] e passes = tt
  passes_back (q ∷ qs) e passes =
      let here : n - suc (n - 1) ≡ 0 = omega (arith, e) in
      passes_on 1 q [] qs (omega arith) (omega (arith, e)) (
        subst (λ (k : ℕ). IsTrue (t.is_open k q)) (sym here) passes.0,
        refl,
        tt,
      ) passes.2

  pub passes_forth : (ps : List Place) → length ps ≡ n →
      ((q : Place) → IsTrue (t.may_come 0 None q))
      → Passes u 0 None (reverse ps) → Passes t 0 None ps
  passes_forth [] e comes all = tt
  passes_forth (q ∷ qs) e comes all =
      let here : n - suc (n - 1) ≡ 0 = omega (arith, e) in
      let off = passes_off 1 q [] qs (omega arith) (omega (arith, e)) all in (
        subst (λ (k : ℕ). IsTrue (t.is_open k q)) here off.0.0,
        comes q,
        off.1,
      )

-- ---- the last place is the first one

behind_all : (qs rest : List Place) (k : ℕ)
    → slice_get (reverse_aux qs rest) (length qs + k) ≡ slice_get rest k
behind_all [] rest k = ap (slice_get rest) (let e : 0 + k ≡ k = omega arith in e)
behind_all (q ∷ qs) rest k =
    let e : length (q ∷ qs) + k ≡ length qs + suc k = omega arith in
    ap (slice_get (reverse_aux qs (q ∷ rest))) e ∙ behind_all qs (q ∷ rest) (suc k)

last_of_turned : (rs : List Place) → slice_get (reverse rs) (length rs - 1) ≡ slice_get rs 0
last_of_turned [] = refl
last_of_turned (r ∷ rs) =
    let e : length (r ∷ rs) - 1 ≡ length rs + 0 = omega arith in
    ap (slice_get (reverse_aux rs (r ∷ []))) e ∙ behind_all rs (r ∷ []) 0

pub last_is_first : (ps : List Place) → slice_get ps (length ps - 1) ≡ slice_get (reverse ps) 0
last_is_first ps =
    let long = length-reverse ps in
    ap (λ (k : ℕ). slice_get ps (k - 1)) (sym long)
    ∙ ap (λ (qs : List Place). slice_get qs (length (reverse ps) - 1)) (sym (reverse-reverse ps))
    ∙ last_of_turned (reverse ps)

-- ---- the ground

either : (p q : Place) → same_place q p ≡ same_place p q
either p q = grind (arith, nat_tests)

low_back : (t : Terrain) → ((k : ℕ) (p : Option Place) (q : Place) → pos 0 ≤ℤ t.way k p q)
    → (l : ℕ) (p : Option Place) (q : Place) → pos 0 ≤ℤ way_back t l p q
low_back t low l None q = omega (arith, ints)
low_back t low l (Some p) q = low l (Some q) p

high_back : (t : Terrain) → ((k : ℕ) (p : Option Place) (q : Place) → t.way k p q ≤ℤ pos (2 ^ 43))
    → (l : ℕ) (p : Option Place) (q : Place) → way_back t l p q ≤ℤ pos (2 ^ 43)
high_back t high l None q = omega (arith, ints)
high_back t high l (Some p) q = high l (Some q) p

pub turned_ground : (step : ℕ → ℕ → ℤ) (first n m : ℕ) (t : Terrain) → m % 2 ≡ (first + n) % 2
    → IsGround step first n t → IsGround (λ p q. step q p) m n (turned t n)
turned_ground step first n m t same ground = record {
  across = λ k p q even.
      let layer : (first + step_layer n k) % 2 ≡ 0 = omega (arith, even, same) in
      let g = ground.across (step_layer n k) q p layer in
      (g.0 ∙ either p q, g.1);
  crossbar = λ k p q odd.
      let layer : (first + step_layer n k) % 2 ≡ 1 = omega (arith, odd, same) in
      ground.crossbar (step_layer n k) q p layer;
  way_low = λ k p q. low_back t ground.way_low (step_layer n k) p q;
  way_high = λ k p q. high_back t ground.way_high (step_layer n k) p q;
  cells = λ k q lt opened.
      let c = ground.cells (n - suc k) q (omega (arith, lt)) opened in (
        let low = c.0 in omega (arith, ints, low, lt),
        let high = c.1 in
            omega (arith, ints, high, lt),
      );
}

-- ---- the rows

module _ (rows : List Row) where
  abbrev n : ℕ
  n = length rows

  turned_row : (k : ℕ) → k < n → costs_at (reverse rows) k ≡ costs_at rows (n - suc k)
  turned_row k lt =
      let e : n - 1 - k ≡ n - suc k = omega arith in
      ap (λ (r : Row). r.costs) (get_or-reverse rows k no_row lt)
      ∙ ap (λ (j : ℕ). costs_at rows j) e

  pub turned_cells : (t : Terrain) → AreCells t rows → AreCells (turned t n) (reverse rows)
  turned_cells t cells k q lt =
      let long = length-reverse rows in
      let below : k < n = omega (arith, long, lt) in
      subst (λ (costs : List ℤ). IsCell (t.is_open (n - suc k) q) (t.cell (n - suc k) q)
      (at costs (number q))) (sym (turned_row k below)) (cells (n - suc k) q (omega (arith, below)))

  pub turned_within : AreCellsWithin rows → AreCellsWithin (reverse rows)
  turned_within within k p lt below =
      let long = length-reverse rows in
      let less : k < n = omega (arith, long, lt) in
      let is = turned_row k less in
      elim (within (n - suc k) p (omega (arith, less)) below)
      as (λ _. (at (costs_at (reverse rows) k) p ≡ unreached)
      ⊎ IsAbout (cell_bound (length (reverse rows)) k) (at (costs_at (reverse rows) k) p)) [
        | inl shut ↦ inl (ap (λ (costs : List ℤ). at costs p) is ∙ shut)
        | inr about ↦ let low = about.0 in let high = about.1 in
            inr (subst (λ (costs : List ℤ). IsAbout (cell_bound (length (reverse rows)) k)
            (at costs p)) (sym is) (
              omega (arith, ints, low, less, long),
              omega (arith, ints, high, less, long),
            ))
      ]
