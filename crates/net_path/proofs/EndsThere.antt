-- The end of a number, among those of a strand; and rows of which one pays it.
use Rattle.std.proofs.Common.{ℕ, ◌≡◌, ◌≢◌, ◌+◌, ◌-◌, ◌^◌, ◌<◌, ◌≤◌, ◌∙◌, Bool, true, false, ℤ, pos}
use Rattle.std.proofs.Common.{◌≤ℤ◌, List, [], length, take, get_or, set, refl, subst, sym, ap}
use Rattle.std.proofs.Common.{arith, inl, inr, get_or-set_same, get_or-set_other}
use Rattle.std.proofs.lemmas.Int.{ints}
use Rattle.std.proofs.lemmas.Bool.{cases_eq}
use Rattle.std.proofs.lemmas.List.{length-take}
use Rattle.net_form.specs.declared.net.Net.{Net}
use Rattle.net_form.specs.declared.net.PairEnd.{PairEnd}
use Rattle.net_form.specs.declared.prices.Prices.{Prices}
use Rattle.net_form.specs.declared.taken.Taken.{Taken}
use Rattle.net_form.specs.Admitted.{strand_at}
use Rattle.net_form.specs.Formed.{IsFormed}
use Rattle.net_form.proofs.PairUses.{IsEndOf, pairs_end, ends_there, ends_few, ends_within}
use Rattle.net_dual.specs.Priced.{pay}
use Rattle.net_path.specs.declared.crossbar.Row.{Row}
use Rattle.net_path.specs.Ends.{ends_sum, busy, mem_number, IsMemoryRow, AreMemoryRows, IsOneEnd}
use Rattle.net_path.specs.Ends.{strand_ends}
use Rattle.net_path.specs.Rows.{costs_at, no_row}
use Rattle.net_path.specs.Ways.{at}
use Rattle.net_path.proofs.EndSums.{other_end, this_end, ends_between}

module _ (net : Net) (formed : IsFormed net) (s number start stop : ℕ) (lt : s < length net.strands)
    (from : start ≡ get_or net.index.pairs s 0) (to : stop ≡ get_or net.index.pairs (s + 1) 0)
    (after : start ≤ number) (before : number < stop) where
  abbrev pub place : ℕ
  place = number - get_or net.index.pairs s 0

  pub among : place < length (strand_ends net s)
  among = let count = pairs_end net formed s lt in omega (arith, count, from, to, after, before)

  pub in_ends : number < length net.index.ends
  in_ends = let few = ends_few net formed s lt in omega (arith, few, to, before)

  pub end_is : (e : PairEnd) → e ≡ get_or net.index.ends number e
      → e ≡ get_or (strand_ends net s) place e
  end_is e is = is ∙ ap (λ (n : ℕ). get_or net.index.ends n e)
      (let w : number ≡ get_or net.index.pairs s 0 + place = omega (arith, from, after) in w)
      ∙ ends_there net formed s place e lt among

  pub end_within : (e : PairEnd) → e ≡ get_or net.index.ends number e
      → IsEndOf (length net.pairs) (strand_at net s).first (length (strand_at net s).masks) e
  end_within e is =
      subst (IsEndOf (length net.pairs) (strand_at net s).first (length (strand_at net s).masks))
      (sym (end_is e is))
      (ends_within net.pairs s (strand_at net s).first (length (strand_at net s).masks)
      place e among)

  pub next_place : number + 1 - get_or net.index.pairs s 0 ≡ place + 1
  next_place = omega (arith, from, after)

pub no_ends : (prices : Prices) (taken : Taken) (first : ℕ) (rows : List Row)
    → AreMemoryRows prices taken first [] rows rows
no_ends prices taken first rows k lt = record {
  others = λ q other. refl;
  memory = record {
    shut = λ h. h;
    in_use = λ h. absurd (omega (arith, ints, h));
    free = λ about h. omega (arith, ints);
  };
}

-- the row of an end pays it
module _ (prices : Prices) (taken : Taken)
    (most : (k : ℕ) → (pos 0 ≤ℤ mem_number prices k) × (mem_number prices k ≤ℤ pos (2 ^ 40)))
    (first i : ℕ) (es : List PairEnd) (e : PairEnd)
    (in_ : i < length es) (few : length es ≤ 2 ^ 15) (is : e ≡ get_or es i e) (old rows : List Row)
    (new : Row) (n : ℕ) (here : n < length rows) (long : length rows ≡ length old)
    (layer : first + n ≡ e.layer) (paid : AreMemoryRows prices taken first (take i es) old rows)
    (others : (q : ℕ) → q ≢ 6 → at new.costs q ≡ at (costs_at rows n) q) (memory : IsOneEnd
    (busy taken e.pair) (mem_number prices e.pair) (at (costs_at rows n) 6) (at new.costs 6)) where
  busy_between : (k : ℕ) → (pos 0 ≤ℤ busy taken k) × (busy taken k ≤ℤ pos 1)
  busy_between k = by (get_or taken.mems k false) where
    by : (b : Bool) → (pos 0 ≤ℤ pay b (pos 1)) × (pay b (pos 1) ≤ℤ pos 1)
    by true = (omega (arith, ints), omega (arith, ints))
    by false = (omega (arith, ints), omega (arith, ints))

  memory_at : (k : ℕ) → k < length old → IsMemoryRow prices taken (first + k) (take (i + 1) es)
      (costs_at old k) (costs_at (set rows n new) k)
  memory_at k lt =
      let b = ends_between (busy taken) 1 (first + k) (take i es) busy_between in
      let m = ends_between (mem_number prices) (2 ^ 40) (first + k) (take i es) most in
      let size = length-take i es in
      let low : pos 0 ≤ℤ ends_sum (busy taken) (first + k) (take i es) = b.0 in
      let high : ends_sum (mem_number prices) (first + k) (take i es) ≤ℤ pos (2 ^ 57) =
      omega (arith, ints, m, size, few) in
      let same_layer : (get_or es i e).layer ≡ e.layer = ap (λ (x : PairEnd). x.layer) (sym is) in
      elim (cases_eq k n) as (λ _. IsMemoryRow prices taken (first + k) (take (i + 1) es)
      (costs_at old k) (costs_at (set rows n new) k)) [
        | inl same ↦
            let row : get_or (set rows n new) k no_row ≡ new =
            ap (λ (j : ℕ). get_or (set rows n new) j no_row) same
            ∙ get_or-set_same rows n new no_row here in
            let was = paid k lt in
            let before : costs_at rows k ≡ costs_at rows n = ap (λ (j : ℕ). costs_at rows j) same in
            subst (λ (r : Row). IsMemoryRow prices taken (first + k) (take (i + 1) es)
            (costs_at old k) r.costs) (sym row) (record {
              others = λ q other. others q other ∙ sym (ap (λ (xs : List ℤ). at xs q) before)
                  ∙ was.others q other;
              memory = this_end prices taken (first + k) es i e in_ (at (costs_at old k) 6)
                  (at (costs_at rows k) 6) was.memory low high (at new.costs 6)
                  (omega (arith, same, layer, same_layer))
                  (subst (λ (x : PairEnd). IsOneEnd (busy taken x.pair) (mem_number prices x.pair)
                  (at (costs_at rows k) 6) (at new.costs 6)) is
                  (subst (λ (xs : List ℤ). IsOneEnd (busy taken e.pair) (mem_number prices e.pair)
                  (at xs 6) (at new.costs 6)) (sym before) memory));
            })
        | inr other ↦
            let row : get_or (set rows n new) k no_row ≡ get_or rows k no_row =
            get_or-set_other rows n k new no_row other in
            let was = paid k lt in
            subst (λ (r : Row). IsMemoryRow prices taken (first + k) (take (i + 1) es)
            (costs_at old k) r.costs) (sym row) (record {
              others = was.others;
              memory = other_end prices taken (first + k) es i e in_
                  (at (costs_at old k) 6) (at (costs_at rows k) 6) was.memory low high
                  (λ h. other (omega (arith, h, layer, same_layer)));
            })
      ]

  pub rows_pay : AreMemoryRows prices taken first (take (i + 1) es) old (set rows n new)
  rows_pay k lt = memory_at k lt
