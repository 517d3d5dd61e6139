-- What the numbers of ties are with one entry more, and what is packed so far.
use Rattle.std.proofs.Common.{◌≡◌, ◌∙◌, ℕ, ℤ, pos, ◌+◌, ◌*◌, ◌<◌, ◌≤◌, List, [], ◌∷◌, ◌++◌}
use Rattle.std.proofs.Common.{length, get_or, set, take, replicate, sym, ap, arith, inl, inr, refl}
use Rattle.std.proofs.Common.{length-set}
use Rattle.std.specs.List.{fold}
use Rattle.std.proofs.lemmas.Bool.{cases_eq, cases_lt}
use Rattle.std.proofs.lemmas.List.{ext_get_or, get_or_past, get_or-replicate, length-replicate}
use Rattle.std.proofs.lemmas.List.{get_or-set_same, get_or-set_other}
use Rattle.std.proofs.lemmas.List.Elements.{All-nil, All-push}
use Rattle.std.proofs.lemmas.List.Sums.{fold_push, fold_more}
use Rattle.net_kept.specs.declared.prices.NumberAt.{NumberAt}
use Rattle.net_kept.specs.Numbers.{put_number, spread, ArePackedTo}

length_put : (numbers : List ℤ) (entries : List NumberAt)
    → length (fold put_number numbers entries) ≡ length numbers
length_put numbers [] = refl
length_put numbers (entry ∷ entries) =
    length_put (put_number numbers entry) entries ∙ length-set numbers entry.index entry.number

pub length_spread : (ties : ℕ) (entries : List NumberAt)
    → length (spread ties entries) ≡ 13 * ties
unfolding spread
length_spread ties entries =
    length_put (replicate (13 * ties) (pos 0)) entries ∙ length-replicate (13 * ties) (pos 0)

pub spread_none : (ties : ℕ) → spread ties [] ≡ replicate (13 * ties) (pos 0)
unfolding spread
spread_none ties = refl

pub spread_push : (ties : ℕ) (entries : List NumberAt) (entry : NumberAt)
    → spread ties (entries ++ entry ∷ []) ≡ set (spread ties entries) entry.index entry.number
unfolding spread
spread_push ties entries entry =
    fold_push put_number (replicate (13 * ties) (pos 0)) entries entry

pub spread_more : (ties : ℕ) (entries : List NumberAt) (i : ℕ) (d : NumberAt) → i < length entries
    → spread ties (take (i + 1) entries)
    ≡ put_number (spread ties (take i entries)) (get_or entries i d)
unfolding spread
spread_more ties entries i d lt =
    fold_more put_number (replicate (13 * ties) (pos 0)) entries i d lt

-- ---- what is packed so far

zeros_at : (n k : ℕ) → get_or (replicate n (pos 0)) k (pos 0) ≡ pos 0
zeros_at n k =
    elim (cases_lt k n) as (λ _. get_or (replicate n (pos 0)) k (pos 0) ≡ pos 0) [
      | inl lt ↦ get_or-replicate n k (pos 0) (pos 0) lt
      | inr past ↦
          let long = length-replicate n (pos 0) in
          get_or_past (replicate n (pos 0)) k (pos 0) (omega (arith, past, long))
    ]

pub packed_none : (ties : ℕ) (numbers : List ℤ) → ArePackedTo ties 0 numbers []
packed_none ties numbers = record {
  within = All-nil (λ (entry : NumberAt). entry.index < 13 * ties);
  same = λ k lt. absurd (omega (arith, lt));
  zero = λ k _. ap (λ (zs : List ℤ). get_or zs k (pos 0)) (spread_none ties)
      ∙ zeros_at (13 * ties) k;
}

module _ (ties done next : ℕ) (numbers : List ℤ) (entries : List NumberAt)
    (are : ArePackedTo ties done numbers entries) where
  -- numbers that are 0
  pub packed_zeros : ((k : ℕ) → done ≤ k → k < next → get_or numbers k (pos 0) ≡ pos 0)
      → done ≤ next → ArePackedTo ties next numbers entries
  packed_zeros zeros on = record {
    within = are.within;
    same = λ k lt.
        elim (cases_lt k done)
        as (λ _. get_or (spread ties entries) k (pos 0) ≡ get_or numbers k (pos 0)) [
          | inl before ↦ are.same k before
          | inr past ↦ are.zero k past ∙ sym (zeros k past lt)
        ];
    zero = λ k past. are.zero k (omega (arith, past, on));
  }

  -- one number, by its entry
  pub packed_push : (entry : NumberAt) → entry.index ≡ done → done < 13 * ties
      → entry.number ≡ get_or numbers done (pos 0) → next ≡ done + 1
      → ArePackedTo ties next numbers (entries ++ entry ∷ [])
  packed_push entry here within is one =
      let long = length_spread ties entries in
      let at = λ (k : ℕ). ap (λ (zs : List ℤ). get_or zs k (pos 0))
      (spread_push ties entries entry) in
      let other = λ (k : ℕ) (away : k ≡ entry.index → ⊥).
      at k ∙ get_or-set_other (spread ties entries) entry.index k entry.number (pos 0) away in
      record {
        within = All-push (λ (e : NumberAt). e.index < 13 * ties) entries entry are.within
            (omega (arith, here, within));
        same = λ k lt.
            elim (cases_eq k entry.index) as (λ _.
            get_or (spread ties (entries ++ entry ∷ [])) k (pos 0) ≡ get_or numbers k (pos 0)) [
              | inl e ↦
                  at k ∙ ap (λ j. get_or (put_number (spread ties entries) entry) j (pos 0)) e
                  ∙ get_or-set_same (spread ties entries) entry.index entry.number (pos 0)
                  (omega (arith, here, within, long))
                  ∙ is ∙ ap (λ j. get_or numbers j (pos 0)) (sym here ∙ sym e)
              | inr away ↦ other k away ∙ are.same k (omega (arith, away, lt, here, one))
            ];
        zero = λ k past. other k (λ e. omega (arith, e, past, here, one))
            ∙ are.zero k (omega (arith, past, one));
      }

-- all of them
pub packed_all : (ties : ℕ) (numbers : List ℤ) (entries : List NumberAt)
    → 13 * ties ≡ length numbers → ArePackedTo ties (13 * ties) numbers entries
    → spread ties entries ≡ numbers
packed_all ties numbers entries many are =
    let long = length_spread ties entries in
    ext_get_or (pos 0) (spread ties entries) numbers (omega (arith, long, many))
    (λ k lt. are.same k (omega (arith, lt, long)))
