-- Sums over the ends of memory pairs.
use Rattle.std.proofs.Common.{cond, ℕ, zero, suc, ◌≡◌, ◌≢◌, ◌⊎◌, ◌+◌, ◌*◌, ◌^◌, ◌<◌, ◌≤◌, Bool}
use Rattle.std.proofs.Common.{true, false, ℤ, pos, ◌+ℤ◌, ◌≤ℤ◌, ◌<ℤ◌, List, [], ◌∷◌, ◌++◌, length}
use Rattle.std.proofs.Common.{map, take, get_or, count_by, Option, Some, None, refl, sym, subst, ap}
use Rattle.std.proofs.Common.{◌∙◌, inl, inr, arith, add-one}
use Rattle.std.specs.Prelude.{nat_eq}
use Rattle.std.specs.List.{range_with_len, flat_map, filter_map, enumerate_from}
use Rattle.std.proofs.lemmas.Int.{ints}
use Rattle.std.proofs.lemmas.Bool.{cases_eq, cases_Bool, eq-eqb, ne_eqb}
use Rattle.std.proofs.lemmas.List.{length-append, map-append}
use Rattle.std.proofs.Math.Seq.{take-suc}
use Rattle.pra_list.proofs.Counts.{bit, count-cons}
use Rattle.net_form.specs.declared.net.MemPair.{MemPair}
use Rattle.net_form.specs.declared.net.PairEnd.{PairEnd}
use Rattle.net_form.specs.declared.prices.Prices.{Prices}
use Rattle.net_form.specs.declared.taken.Taken.{Taken}
use Rattle.net_form.specs.Index.{OwnedEnd, is_end, ends_at}
use Rattle.net_dual.specs.Priced.{total, pay}
use Rattle.net_dual.proofs.Totals.{total-append}
use Rattle.net_path.specs.Ends.{ends_sum, busy, mem_number, IsMemory, IsOneEnd}
use Rattle.net_path.specs.Rests.{unreached}

-- ---- one end more

pub ends_more : (g : ℕ → ℤ) (l : ℕ) (es : List PairEnd) (i : ℕ) (d : PairEnd)
    → i < length es → ends_sum g l (take (i + 1) es)
    ≡ ends_sum g l (take i es) +ℤ pay (nat_eq (get_or es i d).layer l) (g (get_or es i d).pair)
ends_more g l es i d lt =
    let f = λ (e : PairEnd). pay (nat_eq e.layer l) (g e.pair) in
    let split = ap (λ (k : ℕ). total f (take k es)) (add-one i) ∙ ap (total f) (take-suc es i d lt)
    ∙ total-append f (take i es) (get_or es i d ∷ []) in
    omega (arith, ints, split)

pub paid_here : (g : ℕ → ℤ) (l : ℕ) (e : PairEnd) → l ≡ e.layer
    → pay (nat_eq e.layer l) (g e.pair) ≡ g e.pair
paid_here g l e same = ap (λ (b : Bool). pay b (g e.pair)) (eq-eqb e.layer l (sym same))

pub unpaid_here : (g : ℕ → ℤ) (l : ℕ) (e : PairEnd) → l ≢ e.layer
    → pay (nat_eq e.layer l) (g e.pair) ≡ pos 0
unpaid_here g l e other =
    ap (λ (b : Bool). pay b (g e.pair)) (ne_eqb e.layer l (λ h. other (sym h)))

-- what is in use is not negative
busy_least : (taken : Taken) (k : ℕ) → pos 0 ≤ℤ busy taken k
busy_least taken k = by (get_or taken.mems k false) where
  by : (b : Bool) → pos 0 ≤ℤ pay b (pos 1)
  by true = omega (arith, ints)
  by false = omega (arith, ints)

pub ends_between : (g : ℕ → ℤ) (b : ℕ) (l : ℕ) (es : List PairEnd)
    → ((k : ℕ) → (pos 0 ≤ℤ g k) × (g k ≤ℤ pos b))
    → (pos 0 ≤ℤ ends_sum g l es) × (ends_sum g l es ≤ℤ pos (b * length es))
ends_between g b l [] each = (omega (arith, ints), omega (arith, ints))
ends_between g b l (e ∷ es) each =
    let one = by (nat_eq e.layer l) in
    let more = ends_between g b l es each in
    let size : b * length (e ∷ es) ≡ b + b * length es = grind arith in
    (omega (arith, ints, one, more), omega (arith, ints, one, more, size))
  where
    by : (t : Bool) → (pos 0 ≤ℤ pay t (g e.pair)) × (pay t (g e.pair) ≤ℤ pos b)
    by true = each e.pair
    by false = (omega (arith, ints), omega (arith, ints))

module _ (prices : Prices) (taken : Taken) (l : ℕ) (es : List PairEnd) (i : ℕ) (d : PairEnd)
    (lt : i < length es) (old z : ℤ) (so_far : IsMemory prices taken l (take i es) old z)
    (in_use_least : pos 0 ≤ℤ ends_sum (busy taken) l (take i es))
    (paid_most : ends_sum (mem_number prices) l (take i es) ≤ℤ pos (2 ^ 57)) where
  abbrev e : PairEnd
  e = get_or es i d

  -- of another layer
  pub other_end : l ≢ e.layer → IsMemory prices taken l (take (i + 1) es) old z
  other_end other =
      let b = ends_more (busy taken) l es i d lt in
      let m = ends_more (mem_number prices) l es i d lt in
      let nb = unpaid_here (busy taken) l e other in
      let nm = unpaid_here (mem_number prices) l e other in record {
        shut = so_far.shut;
        in_use = λ h. so_far.in_use (omega (arith, ints, b, nb, h));
        free = λ about h. let f = so_far.free about (omega (arith, ints, b, nb, h)) in
            omega (arith, ints, f, m, nm);
      }

  -- of this layer
  pub this_end : (z' : ℤ)
      → l ≡ e.layer → IsOneEnd (busy taken e.pair) (mem_number prices e.pair) z z'
      → IsMemory prices taken l (take (i + 1) es) old z'
  this_end z' same one =
      let b = ends_more (busy taken) l es i d lt in
      let m = ends_more (mem_number prices) l es i d lt in
      let hb = paid_here (busy taken) l e same in
      let hm = paid_here (mem_number prices) l e same in
      let least = busy_least taken e.pair in record {
        shut = λ h. one.shut (so_far.shut h);
        in_use = λ h. elim (sign (busy taken e.pair) least) as (λ _. z' ≡ unreached) [
          | inl none ↦ one.shut (so_far.in_use (omega (arith, ints, b, hb, h, none)))
          | inr some ↦ one.in_use some
        ];
        free = λ about h.
            let f = so_far.free about (omega (arith, ints, b, hb, h, least)) in
            let p =
            one.free (omega (arith, ints, b, hb, h, least)) (omega (arith, ints, f, about)) in
            omega (arith, ints, f, p, m, hm);
      }
    where
      sign : (x : ℤ) → pos 0 ≤ℤ x → (x ≡ pos 0) ⊎ (pos 0 <ℤ x)
      sign x le = grind (arith, ints)

-- ---- all ends of a strand

abbrev end_at : ℕ → ℕ → ℕ × MemPair → Option OwnedEnd
end_at s l m =
    cond (is_end s l m.1) (Some (record { strand = s; at = record { layer = l; pair = m.0 } })) None

abbrev of_layer : ℕ → ℕ → ℕ → List MemPair → List PairEnd
of_layer s l n ms = map (λ (e : OwnedEnd). e.at) (filter_map (end_at s l) (enumerate_from n ms))

abbrev one_layer : ℕ → ℕ → ℕ → MemPair → List MemPair → Bool → List PairEnd
one_layer s l n m ms b =
    cond b (record { layer = l; pair = n } ∷ of_layer s l (n + 1) ms) (of_layer s l (n + 1) ms)

layer_one : (s l n : ℕ) (m : MemPair) (ms : List MemPair) (b : Bool) → is_end s l m ≡ b
    → of_layer s l n (m ∷ ms) ≡ one_layer s l n m ms b
layer_one s l n m ms true is = rw is refl
layer_one s l n m ms false is = rw is refl

abbrev pair_sum : (ℕ → ℤ) → ℕ → ℕ → ℕ → List MemPair → ℤ
pair_sum g s l n ms =
    total (λ (m : ℕ × MemPair). pay (is_end s l m.1) (g m.0)) (enumerate_from n ms)

-- at the layer itself, and at others
here_sum : (g : ℕ → ℤ) (s l n : ℕ) (ms : List MemPair)
    → ends_sum g l (of_layer s l n ms) ≡ pair_sum g s l n ms
here_sum g s l n [] = refl
here_sum g s l n (m ∷ ms) = elim (cases_Bool (is_end s l m))
    as (λ _. ends_sum g l (of_layer s l n (m ∷ ms)) ≡ pair_sum g s l n (m ∷ ms)) [
      | inl is ↦
          let left = ap (ends_sum g l) (layer_one s l n m ms true is) in
          let one = ap (λ (b : Bool). pay b (g n)) is in
          let own = paid_here g l (record { layer = l; pair = n }) refl in
          let more = here_sum g s l (n + 1) ms in
          omega (arith, ints, left, one, own, more)
      | inr is ↦
          let left = ap (ends_sum g l) (layer_one s l n m ms false is) in
          let one = ap (λ (b : Bool). pay b (g n)) is in
          let more = here_sum g s l (n + 1) ms in
          omega (arith, ints, left, one, more)
    ]

elsewhere_sum : (g : ℕ → ℤ) (s l k n : ℕ) (ms : List MemPair) → l ≢ k
    → ends_sum g l (of_layer s k n ms) ≡ pos 0
elsewhere_sum g s l k n [] other = refl
elsewhere_sum g s l k n (m ∷ ms) other =
    elim (cases_Bool (is_end s k m)) as (λ _. ends_sum g l (of_layer s k n (m ∷ ms)) ≡ pos 0) [
      | inl is ↦
          let left = ap (ends_sum g l) (layer_one s k n m ms true is) in
          let none = unpaid_here g l (record { layer = k; pair = n }) other in
          let more = elsewhere_sum g s l k (n + 1) ms other in
          omega (arith, ints, left, none, more)
      | inr is ↦ ap (ends_sum g l) (layer_one s k n m ms false is)
          ∙ elsewhere_sum g s l k (n + 1) ms other
    ]

abbrev from_layer : List MemPair → ℕ → ℕ → ℕ → List PairEnd
from_layer ms s k n = map (λ (e : OwnedEnd). e.at) (flat_map (ends_at ms s) (range_with_len k n))

first_layer : (ms : List MemPair) (s k n : ℕ)
    → from_layer ms s k (suc n) ≡ of_layer s k 0 ms ++ from_layer ms s (k + 1) n
first_layer ms s k n = map-append (λ (e : OwnedEnd). e.at) (ends_at ms s k)
    (flat_map (ends_at ms s) (range_with_len (k + 1) n))

later_sum : (g : ℕ → ℤ) (ms : List MemPair) (s l k n : ℕ) → l < k
    → ends_sum g l (from_layer ms s k n) ≡ pos 0
later_sum g ms s l k zero lt = refl
later_sum g ms s l k (suc n) lt =
    let split = ap (ends_sum g l) (first_layer ms s k n)
    ∙ total-append (λ (e : PairEnd). pay (nat_eq e.layer l) (g e.pair)) (of_layer s k 0 ms)
    (from_layer ms s (k + 1) n) in
    let here = elsewhere_sum g s l k 0 ms (λ same. omega (arith, same, lt)) in
    let more = later_sum g ms s l (k + 1) n (omega (arith, lt)) in
    omega (arith, ints, split, here, more)

pub all_sum : (g : ℕ → ℤ) (ms : List MemPair) (s l k n : ℕ) → k ≤ l → l < k + n
    → ends_sum g l (from_layer ms s k n) ≡ pair_sum g s l 0 ms
all_sum g ms s l k zero le lt = absurd (omega (arith, le, lt))
all_sum g ms s l k (suc n) le lt =
    let split = ap (ends_sum g l) (first_layer ms s k n)
    ∙ total-append (λ (e : PairEnd). pay (nat_eq e.layer l) (g e.pair)) (of_layer s k 0 ms)
    (from_layer ms s (k + 1) n) in
    elim (cases_eq k l) as (λ _. ends_sum g l (from_layer ms s k (suc n)) ≡ pair_sum g s l 0 ms) [
      | inl same ↦
          let here = subst (λ (j : ℕ). ends_sum g l (of_layer s j 0 ms) ≡ pair_sum g s l 0 ms)
          (sym same) (here_sum g s l 0 ms) in
          let more = later_sum g ms s l (k + 1) n (omega (arith, same)) in
          omega (arith, ints, split, here, more)
      | inr other ↦
          let here = elsewhere_sum g s l k 0 ms (λ e. other (sym e)) in
          let more = all_sum g ms s l (k + 1) n (omega (arith, le, other)) (omega (arith, lt)) in
          omega (arith, ints, split, here, more)
    ]

-- one end at a layer at most, so no more ends than layers
layer_long : (s l n : ℕ) (ms : List MemPair) → length (of_layer s l n ms) ≡ count_by (is_end s l) ms
layer_long s l n [] = refl
layer_long s l n (m ∷ ms) = elim (cases_Bool (is_end s l m))
    as (λ _. length (of_layer s l n (m ∷ ms)) ≡ count_by (is_end s l) (m ∷ ms)) [
      | inl is ↦
          let left = ap length (layer_one s l n m ms true is) in
          let all = count-cons (is_end s l) m ms in
          let one : cond (is_end s l m) 1 0 ≡ cond true 1 0 = ap (λ (b : Bool). bit b) is in
          let more = layer_long s l (n + 1) ms in
          omega (arith, left, all, one, more)
      | inr is ↦
          let left = ap length (layer_one s l n m ms false is) in
          let all = count-cons (is_end s l) m ms in
          let one : cond (is_end s l m) 1 0 ≡ cond false 1 0 = ap (λ (b : Bool). bit b) is in
          let more = layer_long s l (n + 1) ms in
          omega (arith, left, all, one, more)
    ]

pub ends_few : (ms : List MemPair) (s k n : ℕ) → ((l : ℕ) → count_by (is_end s l) ms ≤ 1)
    → length (from_layer ms s k n) ≤ n
ends_few ms s k zero one = omega arith
ends_few ms s k (suc n) one =
    let split = ap length (first_layer ms s k n)
    ∙ length-append (of_layer s k 0 ms) (from_layer ms s (k + 1) n) in
    let here = layer_long s k 0 ms in
    let most = one k in
    let more = ends_few ms s (k + 1) n one in
    omega (arith, split, here, most, more)
