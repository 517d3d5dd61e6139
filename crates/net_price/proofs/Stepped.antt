-- Prices after a step, as lists.
use Rattle.std.proofs.Common.{ℕ, ◌≡◌, ◌+◌, ◌-◌, ◌*◌, ◌/◌, ◌%◌, ◌<◌, ◌≤◌, ℤ, pos, min}
use Rattle.std.proofs.Common.{List, [], ◌∷◌, length, get_or, take, map, All, count_by}
use Rattle.std.proofs.Common.{None, Some, refl, sym, ap, ◌∙◌, arith, inl, inr}
use Rattle.std.specs.List.{enumerate_from, flat_map, range_with_len}
use Rattle.std.proofs.lemmas.Bool.{cases_lt}
use Rattle.std.proofs.lemmas.List.{get_or_past, get_or-map, length-map, length-append, length-take}
use Rattle.std.proofs.lemmas.List.{ext_get_or}
use Rattle.std.proofs.lemmas.List.Concat.{get_or-flat_map}
use Rattle.std.proofs.lemmas.List.FromFn.{length-enumerate_from, get_or-enumerate_from}
use Rattle.std.proofs.lemmas.List.FromFn.{get_or-map-range_with_len}
use Rattle.pra_base.specs.declared.ids.Place.TheVariants.{Eax}
use Rattle.net_form.specs.declared.net.Net.{Net}
use Rattle.net_form.specs.declared.prices.Prices.{Prices}
use Rattle.net_form.specs.Flow.{Edge}
use Rattle.net_form.specs.Admitted.{no_tie, tie_at, exits_at, enters_at}
use Rattle.net_dual.specs.Priced.{most_price, tie_slot, tie_price, number_at_slot}
use Rattle.net_dual.specs.Step.{used_price, tied_price, tied_places, next_tie, next}
use Rattle.net_price.specs.Raised.{raised, AreWords}
use Rattle.net_price.specs.Tied.{slot_place, next_number}

pub words_of : (prices : List ℕ) → All (λ p. p ≤ most_price) prices → AreWords prices
words_of prices most k = elim (cases_lt k (length prices)) [
  | inl lt ↦ let small = most k 0 lt in omega (arith, small)
  | inr past ↦ let none = get_or_past prices k 0 past in omega (arith, none)
]

pub lowered : (s old uses : ℕ) → s ≤ 4096
    → min (raised s old uses - s) most_price ≡ used_price s old uses
lowered s old uses small = omega (arith, small)

-- ---- caps and mems

module _ {X : Type 0} (s : ℕ) (price uses : ℕ × X → ℕ) (xs : List X) (d : X) where
  pub stepped_list : (new : List ℕ) → length new ≡ length xs
      → ((k : ℕ) → k < length xs
      → get_or new k 0 ≡ used_price s (price (k, get_or xs k d)) (uses (k, get_or xs k d)))
      → new ≡ map (λ x. used_price s (price x) (uses x)) (enumerate_from 0 xs)
  stepped_list new long is =
      let f = λ (x : ℕ × X). used_price s (price x) (uses x) in
      let many = length-enumerate_from 0 xs in
      let mapped = length-map (enumerate_from 0 xs) f in
      ext_get_or 0 new (map f (enumerate_from 0 xs)) (omega (arith, long, many, mapped))
      (λ k lt.
      let within : k < length xs = omega (arith, lt, long) in
      let zero_more : 0 + k ≡ k = omega arith in
      is k within
      ∙ sym (get_or-map f (enumerate_from 0 xs) k (0, d) 0 (omega (arith, within, many))
      ∙ ap f (get_or-enumerate_from 0 xs k (0, d) within)
      ∙ ap (λ n. f (n, get_or xs k d)) zero_more))

-- ---- ties

slot_of : (j : ℕ) → j < 13 → tie_slot (slot_place j) ≡ Some j
slot_of j lt =
    let all : map tie_slot tied_places ≡ map Some (range_with_len 0 13) = refl in
    sym (get_or-map tie_slot tied_places j Eax None lt)
    ∙ ap (λ os. get_or os j None) all
    ∙ get_or-map-range_with_len Some 0 13 j j None lt (omega arith)

-- thirteen numbers for each of a list
module _ {X : Type 0} (f : X → List ℤ) (each : (x : X) → length (f x) ≡ 13) where
  pub rows_long : (xs : List X) → length (flat_map f xs) ≡ 13 * length xs
  rows_long [] = refl
  rows_long (x ∷ xs) =
      let both = length-append (f x) (flat_map f xs) in
      let one = each x in
      let more = rows_long xs in
      omega (arith, both, one, more)

  pub row_at : (xs : List X) (k : ℕ) (d : X) → k < 13 * length xs
      → get_or (flat_map f xs) k (pos 0) ≡ get_or (f (get_or xs (k / 13) d)) (k % 13) (pos 0)
  row_at xs k d lt =
      let i : ℕ = k / 13 in
      let one = each (get_or xs i d) in
      let before = rows_long (take i xs) in
      let size = length-take i xs in
      let at : length (flat_map f (take i xs)) + k % 13 ≡ k = omega (arith, before, size, lt) in
      ap (λ n. get_or (flat_map f xs) n (pos 0)) (sym at)
      ∙ get_or-flat_map f xs i (k % 13) d (pos 0) (omega (arith, lt)) (omega (arith, one))

module _ (net : Net) (f : List Edge) (s : ℕ) (old : Prices) where
  number_is : (k : ℕ) → k < 13 * length net.ties
      → get_or (next net f s old).ties k (pos 0)
      ≡ next_number net f s k (get_or old.ties k (pos 0))
  number_is k lt =
      let i : ℕ = k / 13 in
      let j : ℕ = k % 13 in
      let within : i < length net.ties = omega (arith, lt) in
      let inside : j < 13 = omega arith in
      let many = length-enumerate_from 0 net.ties in
      let zero_more : 0 + i ≡ i = omega arith in
      let whole : 13 * i + j ≡ k = omega arith in
      let t = tie_at net i in
      let number = λ (z : ℤ). tied_price s z (count_by (exits_at net t (slot_place j)) f)
      (count_by (enters_at net t (slot_place j)) f) in
      row_at (next_tie net f s old) (λ x. refl) (enumerate_from 0 net.ties) k (0, no_tie)
      (omega (arith, lt, many))
      ∙ ap (λ x. get_or (next_tie net f s old x) j (pos 0))
      (get_or-enumerate_from 0 net.ties i (0, no_tie) within)
      ∙ ap (λ n. get_or (next_tie net f s old (n, t)) j (pos 0)) zero_more
      ∙ get_or-map (λ p. tied_price s (tie_price old i p) (count_by (exits_at net t p) f)
      (count_by (enters_at net t p) f)) tied_places j Eax (pos 0) inside
      ∙ ap (λ o. number (number_at_slot old.ties i o)) (slot_of j inside)
      ∙ ap (λ n. number (get_or old.ties n (pos 0))) whole

  pub tied_list : (new : List ℤ) → length new ≡ 13 * length net.ties
      → ((k : ℕ) → k < 13 * length net.ties
      → get_or new k (pos 0) ≡ next_number net f s k (get_or old.ties k (pos 0)))
      → new ≡ (next net f s old).ties
  tied_list new long is =
      let rows = rows_long (next_tie net f s old) (λ x. refl) (enumerate_from 0 net.ties) in
      let many = length-enumerate_from 0 net.ties in
      ext_get_or (pos 0) new (next net f s old).ties (omega (arith, long, rows, many))
      (λ k lt.
      let within : k < 13 * length net.ties = omega (arith, lt, long) in
      is k within ∙ sym (number_is k within))
