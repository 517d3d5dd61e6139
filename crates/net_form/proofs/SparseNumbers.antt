-- Numbers in rows of thirteen, of which rows of zeros share one place, as one list.
use Rattle.std.proofs.Common.{ℕ, suc, zero, ◌≡◌, ◌+◌, ◌*◌, ◌/◌, ◌%◌, ◌<◌, ℤ}
use Rattle.std.proofs.Common.{pos, cond}
use Rattle.std.proofs.Common.{List, length, get_or, set, count_by, replicate}
use Rattle.std.proofs.Common.{sym, ap, ◌∙◌, arith, inl, inr, length-set}
use Rattle.std.proofs.lemmas.Bool.{cases_eq, cases_lt}
use Rattle.std.proofs.lemmas.List.{ext_get_or, get_or_past, get_or-replicate, length-replicate}
use Rattle.std.proofs.lemmas.List.{get_or-set_same, get_or-set_other}
use Rattle.std.proofs.lemmas.List.FromFn.{get_or-map-range_with_len, length-map-range_with_len}
use Rattle.std.proofs.lemmas.List.Sums.{sum_by-set, count_by-le-length}
use Rattle.net_form.specs.Sparse.{number_at, flat, has_own, AreRowsOf}

pub length_flat : (rows : List ℕ) (numbers : List ℤ) → length (flat rows numbers) ≡ 13 * length rows
unfolding flat
length_flat rows numbers = length-map-range_with_len (number_at rows numbers) 0 (13 * length rows)

pub flat_at : (rows : List ℕ) (numbers : List ℤ) (k : ℕ) → k < 13 * length rows
    → get_or (flat rows numbers) k (pos 0) ≡ number_at rows numbers k
unfolding flat
flat_at rows numbers k lt =
    get_or-map-range_with_len (number_at rows numbers) 0 (13 * length rows) k k (pos 0) lt
    (omega arith)

-- the number of a slot of a tie
pub flat_slot : (rows : List ℕ) (numbers : List ℤ) (t slot : ℕ) → slot < 13
    → 13 * t + slot < length (flat rows numbers)
    → get_or numbers (13 * get_or rows t 0 + slot) (pos 0)
    ≡ get_or (flat rows numbers) (13 * t + slot) (pos 0)
flat_slot rows numbers t slot few there =
    let long = length_flat rows numbers in
    let tie : (13 * t + slot) / 13 ≡ t = omega (arith, few) in
    let at : (13 * t + slot) % 13 ≡ slot = omega (arith, few) in
    ap (λ u. get_or numbers (13 * get_or rows u 0 + slot) (pos 0)) (sym tie)
    ∙ ap (λ j. get_or numbers (13 * get_or rows ((13 * t + slot) / 13) 0 + j) (pos 0)) (sym at)
    ∙ sym (flat_at rows numbers (13 * t + slot) (omega (arith, few, there, long)))

-- a tie with no row of its own has zeros
pub flat_zero : (rows : List ℕ) (numbers : List ℤ) (capacity t slot : ℕ) → slot < 13
    → 13 * t + slot < length (flat rows numbers) → get_or rows t 0 ≡ 0
    → AreRowsOf rows numbers capacity → get_or (flat rows numbers) (13 * t + slot) (pos 0) ≡ pos 0
flat_zero rows numbers capacity t slot small there none are =
    sym (flat_slot rows numbers t slot small there)
    ∙ ap (λ n. get_or numbers n (pos 0))
    (let e : 13 * get_or rows t 0 + slot ≡ slot = omega (arith, none) in e)
    ∙ are.zeros slot small

-- as many rows with the same numbers mean the same list
pub same_flat : (rows more : List ℕ) (numbers others : List ℤ) → length more ≡ length rows
    → ((k : ℕ) → number_at more others k ≡ number_at rows numbers k)
    → flat more others ≡ flat rows numbers
same_flat rows more numbers others long same =
    let one = length_flat more others in
    let two = length_flat rows numbers in
    ext_get_or (pos 0) (flat more others) (flat rows numbers) (omega (arith, long, one, two))
    (λ k lt.
    flat_at more others k (omega (arith, lt, one)) ∙ same k
    ∙ sym (flat_at rows numbers k (omega (arith, lt, one, long))))

-- ---- zeros

shared : (n j : ℕ) → ◌≡◌ {A = ℕ} (get_or (replicate n 0) j 0) 0
shared n j =
    elim (cases_lt j n) as (λ _. ◌≡◌ {A = ℕ} (get_or (replicate n 0) j 0) 0) [
      | inl lt ↦ get_or-replicate n j 0 0 lt
      | inr past ↦
          let long = length-replicate {A = ℕ} n 0 in
          get_or_past (replicate n 0) j 0 (omega (arith, past, long))
    ]

pub flat_zeros : (rows : List ℕ) (numbers : List ℤ) (n : ℕ) → rows ≡ replicate n 0
    → ((k : ℕ) → get_or numbers k (pos 0) ≡ pos 0)
    → flat rows numbers ≡ replicate (13 * n) (pos 0)
flat_zeros rows numbers n is nothing =
    let long : length rows ≡ n = ap length is ∙ length-replicate {A = ℕ} n 0 in
    let one = length_flat rows numbers in
    let two = length-replicate (13 * n) (pos 0) in
    ext_get_or (pos 0) (flat rows numbers) (replicate (13 * n) (pos 0))
    (omega (arith, long, one, two))
    (λ k lt.
    flat_at rows numbers k (omega (arith, lt, one)) ∙ nothing (13 * get_or rows (k / 13) 0 + k % 13)
    ∙ sym (get_or-replicate (13 * n) k (pos 0) (pos 0) (omega (arith, lt, one, long))))

-- ---- a row of its own

-- of a row that has none, one more has its own then, and not all had
more_own : (rows : List ℕ) (t n : ℕ) → t < length rows → get_or rows t 0 ≡ 0 → 0 < n
    → count_by has_own (set rows t n) ≡ count_by has_own rows + 1
more_own rows t zero lt none own = absurd (omega (arith, own))
more_own rows t (suc n) lt none own =
    let step = sum_by-set (λ r. cond (has_own r) 1 0) rows t (suc n) 0 lt in
    let was : ◌≡◌ {A = ℕ} (cond (has_own (get_or rows t 0)) 1 0) 0
    = ap (λ r. cond (has_own r) 1 0) none in
    omega (arith, step, was)

pub not_all_own : (rows : List ℕ) (t : ℕ) → t < length rows → get_or rows t 0 ≡ 0
    → count_by has_own rows < length rows
not_all_own rows t lt none =
    let more = more_own rows t 1 lt none (omega arith) in
    let most = count_by-le-length has_own (set rows t 1) in
    let long = length-set rows t 1 in
    omega (arith, more, most, long)

-- ---- one number

module _ (rows : List ℕ) (numbers : List ℤ) (capacity t r slot : ℕ) (z : ℤ) (lt : t < length rows)
    (is : r ≡ get_or rows t 0) (own : 0 < r) (small : slot < 13)
    (are : AreRowsOf rows numbers capacity) where
  put_at : (k : ℕ) → k ≡ 13 * t + slot
      → number_at rows (set numbers (13 * r + slot) z) k ≡ z
  put_at k e =
      let at : ℕ = 13 * r + slot in
      let tie : k / 13 ≡ t = omega (arith, e, small) in
      let row : get_or rows (k / 13) 0 ≡ r = ap (λ j. get_or rows j 0) tie ∙ sym is in
      let old = are.there t lt in
      ap (λ j. get_or (set numbers at z) j (pos 0))
      (let same : 13 * get_or rows (k / 13) 0 + k % 13 ≡ at = omega (arith, row, e, small) in same)
      ∙ get_or-set_same numbers at z (pos 0) (omega (arith, old, is, small))

  put_away : (k : ℕ) → (k ≡ 13 * t + slot → ⊥)
      → number_at rows (set numbers (13 * r + slot) z) k
      ≡ number_at rows numbers k
  put_away k away =
      let at : ℕ = 13 * r + slot in
      get_or-set_other numbers at (13 * get_or rows (k / 13) 0 + k % 13) z (pos 0)
      (λ e.
      let row : get_or rows t 0 ≡ get_or rows (k / 13) 0 = omega (arith, e, is, small) in
      let tie = are.apart t (k / 13) row (omega (arith, is, own)) in
      away (omega (arith, e, small, is, row, tie)))

  pub put_flat : flat rows (set numbers (13 * r + slot) z)
      ≡ set (flat rows numbers) (13 * t + slot) z
  put_flat =
      let new = set numbers (13 * r + slot) z in
      let one = length_flat rows new in
      let two = length_flat rows numbers in
      let three = length-set (flat rows numbers) (13 * t + slot) z in
      ext_get_or (pos 0) (flat rows new) (set (flat rows numbers) (13 * t + slot) z)
      (omega (arith, one, two, three))
      (λ k within.
      flat_at rows new k (omega (arith, within, one))
      ∙ elim (cases_eq k (13 * t + slot))
      as (λ _. number_at rows new k
      ≡ get_or (set (flat rows numbers) (13 * t + slot) z) k (pos 0)) [
        | inl here ↦
            put_at k here
            ∙ sym (ap (λ j. get_or (set (flat rows numbers) (13 * t + slot) z) j (pos 0)) here
            ∙ get_or-set_same (flat rows numbers) (13 * t + slot) z (pos 0)
            (omega (arith, here, within, one, two)))
        | inr away ↦
            put_away k away
            ∙ sym (get_or-set_other (flat rows numbers) (13 * t + slot) k z (pos 0) away
            ∙ flat_at rows numbers k (omega (arith, within, one)))
      ])
