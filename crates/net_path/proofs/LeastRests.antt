-- The law of rows: the least of coming to a place and of what is paid from there on is the least of
-- the rest, layer by layer from the last one.
use Rattle.std.proofs.Common.{ℕ, zero, suc, ◌≡◌, ◌⊎◌, ◌+◌, ◌^◌, Bool, true, false, ℤ, pos, ◌+ℤ◌}
use Rattle.std.proofs.Common.{◌≤ℤ◌, ◌<ℤ◌, List, [], ◌∷◌, length, Option, Some, IsTrue, refl, sym}
use Rattle.std.proofs.Common.{subst, ap, inl, inr, arith}
use Rattle.std.proofs.lemmas.Int.{ints}
use Rattle.std.proofs.lemmas.Bool.{false≢true}
use Rattle.pra_base.specs.declared.ids.Place.{Place}
use Rattle.pra_base.specs.Places.{number}
use Rattle.net_path.specs.Ways.{at}
use Rattle.net_path.specs.Rests.{unreached, Terrain, Passes, rest_price, IsLeastRest, IsPaidThere}
use Rattle.net_path.specs.Rests.{IsFrom, IsRow, IsLowest, AreBest, IsSlack, AreRows}

-- behind the last layer nothing is left
pub nothing_left : (t : Terrain) (l : ℕ) (p : Option Place) (slack : ℕ)
    → IsLeastRest t 0 l p slack (pos 0)
nothing_left t l p slack = record {
  least = nothing;
  met = inl ([], refl, tt, omega (arith, ints));
  low = omega (arith, ints);
  high = omega (arith, ints);
} where
  nothing : (qs : List Place) → length qs ≡ 0 → Passes t l p qs → pos 0 ≤ℤ rest_price t l p qs
  nothing [] e passes = omega (arith, ints)
  nothing (q ∷ qs) e passes = absurd (omega arith)

module _ (t : Terrain) (n l before behind : ℕ) (p : Option Place) (costs : List ℤ)
    (slack : IsSlack t l before behind) (row : IsRow t n l behind costs) where
  -- what is paid from an open place on
  paid : (q : Place) (b : Bool) → t.is_open l q ≡ b → IsTrue b
      → IsPaidThere t n l q behind (at costs (number q))
  paid q true e h = subst (λ (b : Bool). IsFrom b t n l q behind (at costs (number q))) e (row q)
  paid q false e h = absurd (false≢true h)

  least : (z : ℤ) → IsLowest t l p costs z → (qs : List Place) → length qs ≡ suc n → Passes t l p qs
      → z ≤ℤ rest_price t l p qs
  least z best [] e passes = absurd (omega arith)
  least z best (q ∷ qs) e passes =
      let there = paid q (t.is_open l q) refl passes.0 in
      let is = there.is in
      let rest = there.least.least qs (omega arith) passes.2 in
      let bound = best.below q passes.1 in
      omega (arith, ints, is, rest, bound)

  abbrev Met : ℤ → Type 0
  Met z = ((qs : List Place) × (length qs ≡ suc n) × Passes t l p qs × (rest_price t l p qs ≤ℤ z))
      ⊎ (unreached ≤ℤ (z +ℤ pos before))

  met_there : (z : ℤ) (q : Place) → IsTrue (t.may_come l p q) → (t.way l p q +ℤ at costs (number q))
      ≤ℤ z → IsTrue (t.is_open l q) → IsPaidThere t n l q behind (at costs (number q)) → Met z
  met_there z q comes le opened there = elim there.least.met as (λ _. Met z) [
    | inl path ↦ let is = there.is in let m = path.3 in inl (
      q ∷ path.0,
      ap (λ (k : ℕ). suc k) path.1,
      (opened, comes, path.2),
      omega (arith, ints, is, m),
    )
    | inr far ↦ let is = there.is in let w = slack.way_low p q in let c = slack.low q opened in
        inr (omega (arith, ints, is, w, c))
  ]

  met_at : (z : ℤ) (q : Place) → IsTrue (t.may_come l p q)
      → (t.way l p q +ℤ at costs (number q)) ≤ℤ z → (b : Bool) → t.is_open l q ≡ b → Met z
  met_at z q comes le true e =
      met_there z q comes le (subst IsTrue (sym e) refl) (paid q true e refl)
  met_at z q comes le false e =
      let shut = subst (λ (b : Bool). IsFrom b t n l q behind (at costs (number q))) e (row q) in
      let w = slack.way_low p q in inr (omega (arith, ints, shut, w))

  -- what is paid from any place on is within bounds
  low_at : (q : Place) (b : Bool) → t.is_open l q ≡ b → pos 0 ≤ℤ (at costs (number q) +ℤ pos before)
  low_at q true e =
      let there = paid q true e refl in let is = there.is in let r = there.least.low in
      let c = slack.low q (subst IsTrue (sym e) refl) in omega (arith, ints, is, r, c)
  low_at q false e =
      let shut = subst (λ (b : Bool). IsFrom b t n l q behind (at costs (number q))) e (row q) in
      omega (arith, ints, shut)

  high_at : (q : Place) (b : Bool) → t.is_open l q ≡ b
      → (at costs (number q) +ℤ pos (2 ^ 43)) ≤ℤ (unreached +ℤ pos before)
  high_at q true e =
      let there = paid q true e refl in let is = there.is in let r = there.least.high in
      let c = slack.high q (subst IsTrue (sym e) refl) in omega (arith, ints, is, r, c)
  high_at q false e =
      let shut = subst (λ (b : Bool). IsFrom b t n l q behind (at costs (number q))) e (row q) in
      let room = slack.room in omega (arith, ints, shut, room)

  -- one layer more
  pub rest_more : (z : ℤ) → IsLowest t l p costs z → IsLeastRest t (suc n) l p before z
  rest_more z best = record {
    least = least z best;
    met = met_at z best.met.place best.met.comes best.met.met (t.is_open l best.met.place) refl;
    low = let m = best.met.met in let w = slack.way_low p best.met.place in
        let c = low_at best.met.place (t.is_open l best.met.place) refl in
        omega (arith, ints, m, w, c);
    high = let m = best.below best.met.place best.met.comes in
        let w = slack.way_high p best.met.place in
        let c = high_at best.met.place (t.is_open l best.met.place) refl in
        omega (arith, ints, m, w, c);
  }

  -- the best place to come to, where what is left is not too much
  opened_at : (q : Place) → (z : ℤ) → z ≡ (t.way l p q +ℤ at costs (number q))
      → (z +ℤ pos before) <ℤ unreached → (b : Bool) → t.is_open l q ≡ b → IsTrue (t.is_open l q)
  opened_at q z is small true e = subst IsTrue (sym e) refl
  opened_at q z is small false e =
      let shut = subst (λ (b : Bool). IsFrom b t n l q behind (at costs (number q))) e (row q) in
      let w = slack.way_low p q in absurd (omega (arith, ints, shut, w))

rows_behind : (t : Terrain) (row : ℕ → List ℤ) (slack : ℕ → ℕ) (end l : ℕ)
    → AreRows t row slack end l → AreRows t row slack end (suc l)
rows_behind t row slack end l are = record {
  rows = λ n k le e. are.rows n k (omega arith) e;
  slacks = λ k le lt. are.slacks k (omega arith) lt;
}

-- A path of best places, one after the other, costs what was found for its first.
module _ (t : Terrain) (row : ℕ → List ℤ) (slack : ℕ → ℕ) (end : ℕ) where
  -- what was found for the first of n layers is the least
  pub best_is_least : (n l : ℕ) (p : Option Place) (z : ℤ) → suc (n + l) ≡ end
      → AreRows t row slack end l → IsLowest t l p (row l) z → IsLeastRest t (suc n) l p (slack l) z
  best_is_least n l p z e are best =
      rest_more t n l (slack l) (slack (suc l)) p (row l) (are.slacks l (omega arith) (omega arith))
      (are.rows n l (omega arith) e) z best

  -- any least value is no less than what the best place comes to
  no_more : (n l : ℕ) (p : Option Place) (w z : ℤ) (s : ℕ)
      → IsLeastRest t n l p s z → (z +ℤ pos s) <ℤ unreached
      → ((qs : List Place) → length qs ≡ n → Passes t l p qs → w ≤ℤ rest_price t l p qs) → w ≤ℤ z
  no_more n l p w z s least small all = elim least.met as (λ _. w ≤ℤ z) [
    | inl path ↦ let a = all path.0 path.1 path.2 in let b = path.3 in omega (arith, ints, a, b)
    | inr far ↦ absurd (omega (arith, ints, far, small))
  ]

  pub followed : (n l : ℕ) (p : Option Place) (qs : List Place) (z : ℤ) → length qs ≡ n → n + l
      ≡ end → AreRows t row slack end l → AreBest t row l p qs → IsLeastRest t n l p (slack l) z
      → (z +ℤ pos (slack l)) <ℤ unreached → Passes t l p qs × (rest_price t l p qs ≤ℤ z)
  followed n l p [] z long e are follows least small = (
    tt,
    no_more n l p (pos 0) z (slack l) least small
        (λ qs e passes. (nothing_left t l p 0).least qs (omega arith) passes),
  )
  followed zero l p (q ∷ qs) z long e are follows least small = absurd (omega arith)
  followed (suc n) l p (q ∷ qs) z long e are follows least small =
      let w : ℤ = t.way l p q +ℤ at (row l) (number q) in
      let best = best_is_least n l p w (omega arith) are follows.1 in
      let le = no_more (suc n) l p w z (slack l) least small best.least in
      let step = are.slacks l (omega arith) (omega arith) in
      let this = are.rows n l (omega arith) (omega arith) in
      let opened = opened_at t n l (slack l) (slack (suc l)) p (row l) step this q w refl
      (omega (arith, ints, le, small)) (t.is_open l q) refl in
      let there =
      paid t n l (slack l) (slack (suc l)) p (row l) step this q (t.is_open l q) refl opened in
      let same = there.is in
      let way = step.way_low p q in
      let cell = step.low q opened in
      let near : (there.rest +ℤ pos (slack (suc l))) <ℤ unreached =
      omega (arith, ints, same, le, way, cell, small) in
      let rest = followed n (suc l) (Some q) qs there.rest (omega arith) (omega arith)
      (rows_behind t row slack end l are) follows.2 there.least near in
      ((opened, follows.0, rest.0), let m = rest.1 in omega (arith, ints, same, le, m))
