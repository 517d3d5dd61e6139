-- A flow that conserves has, in some order, the edges of one routes.
use Rattle.std.proofs.Common.{ℕ, zero, suc, ◌≡◌, ◌+◌, ◌-◌, ◌<◌, ◌≤◌, Bool, false, not, cond, eqb}
use Rattle.std.proofs.Common.{List, [], ◌∷◌, ◌++◌, length, get_or, slice_get, All, count_by, filter}
use Rattle.std.proofs.Common.{IsPermutation, refl, sym, ap, ◌∙◌, subst, arith, Some, None, Option}
use Rattle.std.proofs.Common.{◌↔◌, inl, inr, unwrap_or, is_some}
use Rattle.std.proofs.lemmas.Bool.{eqb-true, eqb-false, not-true, cases_Bool, and_left, ne_eqb}
use Rattle.std.proofs.lemmas.Bool.{not-false, false≢true}
use Rattle.std.proofs.lemmas.List.Elements.{All-head, All-tail, All-filter, filter_passes}
use Rattle.std.proofs.lemmas.List.Sorted.{IsPermutation-filter_both, IsPermutation-append}
use Rattle.std.proofs.lemmas.List.Sorted.{IsPermutation-trans, IsPermutation-refl}
use Rattle.pra_base.specs.declared.ids.Place.{Place}
use Rattle.net_form.specs.declared.net.Strand.{Strand}
use Rattle.net_form.specs.Flow.{Edge, same_place, is_at, same_start, arrives, leaves, edges}
use Rattle.net_form.specs.Flow.{Conserves, flow_from, flow_of, HasPlaces}
use Rattle.pra_list.proofs.Counts.{count-cons, count-no}
use Rattle.net_form.proofs.Chain.{Chain, chain_path}

-- a test that only elements of a filter pass counts the same in it
pub count-filter : {X : Type 0} (p r : X → Bool) → ((x : X) → r x ≡ false → p x ≡ false) →
    (xs : List X) → count_by p (filter r xs) ≡ count_by p xs
count-filter p r h [] = refl
count-filter p r h (x ∷ xs) =
    elim (cases_Bool (r x)) as (λ _. count_by p (filter r (x ∷ xs)) ≡ count_by p (x ∷ xs)) [
      | inl is ↦ ap (λ b. count_by p (cond b (x ∷ filter r xs) (filter r xs))) is
          ∙ (let a = count-cons p x (filter r xs) in let b = count-cons p x xs in let more =
          count-filter p r h xs in omega (arith, a, b, more))
      | inr is ↦ ap (λ b. count_by p (cond b (x ∷ filter r xs) (filter r xs))) is
          ∙ count-filter p r h xs ∙ sym (count-no p x xs (h x is))
    ]

-- an edge of one of the strands, whose first has the number s
pub record Mine (s : ℕ) (ts : List Strand) (e : Edge) : Type 0 where
  pub i : ℕ
  pub strand : Strand
  pub number : e.strand ≡ s + i
  pub is : slice_get ts i ≡ Some strand
  pub after : strand.first ≤ e.layer
  pub before : e.layer ≤ strand.last
  pub start : (e.from ≡ None) ↔ (e.layer ≡ strand.first)

pub record Rest (s : ℕ) (ts : List Strand) (f : List Edge) : Type 0 where
  pub mine : All (Mine s ts) f
  pub starts : (i : ℕ) (t : Strand) → slice_get ts i ≡ Some t →
      count_by (leaves (s + i) t.first None) f ≡ 1
  pub keeps : (i l : ℕ) (q : Place) (t : Strand) → slice_get ts i ≡ Some t → t.first ≤ l →
      l < t.last →
      count_by (arrives (s + i) l q) f ≡ count_by (leaves (s + i) (l + 1) (Some q)) f

some_inner : {X : Type 0} (x y : X) → Some x ≡ Some y → x ≡ y
some_inner x y e = ap (λ o. unwrap_or o x) e

some_from : (o : Option Place) → (o ≡ None → ⊥) → (q : Place) × (o ≡ Some q)
some_from None h = absurd (h refl)
some_from (Some q) h = (q, refl)

first_of : (s n i : ℕ) (t u : Strand) (ts : List Strand) → n ≡ s + i → n ≡ s →
    slice_get (t ∷ ts) i ≡ Some u → t ≡ u
first_of s n zero t u ts e same is = some_inner t u is
first_of s n (suc i) t u ts e same is = absurd (omega (arith, e, same))

later_of : (s n i : ℕ) (t u : Strand) (ts : List Strand) → n ≡ s + i → (n ≡ s → ⊥) →
    slice_get (t ∷ ts) i ≡ Some u
    → (j : ℕ) × (n ≡ suc s + j) × (slice_get ts j ≡ Some u)
later_of s n zero t u ts e other is = absurd (other (omega (arith, e)))
later_of s n (suc i) t u ts e other is = (i, omega (arith, e), is)

module _ (s : ℕ) (t : Strand) (ts : List Strand) (f : List Edge) (c : Rest s (t ∷ ts) f) where
  abbrev own : Edge → Bool
  own e = eqb e.strand s

  abbrev other : Edge → Bool
  other e = not (eqb e.strand s)

  own_strand : All (λ e. e.strand ≡ s) (filter own f)
  own_strand = λ k d lt. eqb-true _ s (filter_passes own f k d lt)

  own_is : (k : ℕ) (d : Edge) (lt : k < length (filter own f)) →
      t ≡ (All-filter own (Mine s (t ∷ ts)) f c.mine k d lt).strand
  own_is k d lt = let m = All-filter own (Mine s (t ∷ ts)) f c.mine k d lt in
      first_of s _ m.i t m.strand ts m.number (own_strand k d lt) m.is

  leaves_own : (l : ℕ) (p : Option Place) → count_by (leaves s l p) (filter own f) ≡
      count_by (leaves s l p) f
  leaves_own l p = count-filter (leaves s l p) own
      (λ e no. and_left (is_at s l e) (same_start e.from p)
      (and_left (eqb e.strand s) (eqb e.layer l) no)) f

  arrives_own : (l : ℕ) (q : Place) → count_by (arrives s l q) (filter own f) ≡
      count_by (arrives s l q) f
  arrives_own l q = count-filter (arrives s l q) own
      (λ e no. and_left (is_at s l e) (same_place e.to q)
      (and_left (eqb e.strand s) (eqb e.layer l) no)) f

  leaves_other : (r l : ℕ) (p : Option Place) → s < r → count_by (leaves r l p) (filter other f) ≡
      count_by (leaves r l p) f
  leaves_other r l p lt = count-filter (leaves r l p) other
      (λ e no. and_left (is_at r l e) (same_start e.from p)
      (and_left (eqb e.strand r) (eqb e.layer l)
      (ne_eqb e.strand r (λ same. let is = eqb-true e.strand s (not-false (eqb e.strand s) no) in
      omega (arith, same, is, lt))))) f

  arrives_other : (r l : ℕ) (q : Place) → s < r → count_by (arrives r l q) (filter other f) ≡
      count_by (arrives r l q) f
  arrives_other r l q lt = count-filter (arrives r l q) other
      (λ e no. and_left (is_at r l e) (same_place e.to q) (and_left (eqb e.strand r) (eqb e.layer l)
      (ne_eqb e.strand r (λ same. let is = eqb-true e.strand s (not-false (eqb e.strand s) no) in
      omega (arith, same, is, lt))))) f

  starts_at : (i r : ℕ) (u : Strand) → r ≡ s + i → slice_get (t ∷ ts) i ≡ Some u →
      count_by (leaves r u.first None) f ≡ 1
  starts_at i r u e is = subst (λ n. count_by (leaves n u.first None) f ≡ 1) (sym e)
      (c.starts i u is)

  keeps_at : (i r l : ℕ) (q : Place) (u : Strand) → r ≡ s + i → slice_get (t ∷ ts) i ≡ Some u →
      u.first ≤ l → l < u.last
      → count_by (arrives r l q) f ≡ count_by (leaves r (l + 1) (Some q)) f
  keeps_at i r l q u e is le lt =
      subst (λ n. count_by (arrives n l q) f ≡ count_by (leaves n (l + 1) (Some q)) f) (sym e)
      (c.keeps i l q u is le lt)

  pub chain_first : Chain s t.first None (t.last - t.first) (filter own f)
  chain_first = record {
    strand = own_strand;
    after = λ k d lt. let m = All-filter own (Mine s (t ∷ ts)) f c.mine k d lt in
        subst (λ u. u.first ≤ (get_or (filter own f) k d).layer) (sym (own_is k d lt)) m.after;
    before = λ k d lt. let m = All-filter own (Mine s (t ∷ ts)) f c.mine k d lt in
        let b : (get_or (filter own f) k d).layer ≤ t.last =
        subst (λ u. (get_or (filter own f) k d).layer ≤ u.last) (sym (own_is k d lt))
        m.before in omega (arith, b);
    later = λ k d lt more. let m = All-filter own (Mine s (t ∷ ts)) f c.mine k d lt in
        some_from _ (λ none. let same = m.start.0 none in let u =
        ap (λ u. u.first) (own_is k d lt) in omega (arith, same, more, u));
    comes = λ k d lt same. let m = All-filter own (Mine s (t ∷ ts)) f c.mine k d lt in
        m.start.1 (same ∙ ap (λ u. u.first) (own_is k d lt));
    once = leaves_own t.first None ∙ starts_at 0 s t (omega arith) refl;
    keeps = λ l q le lt. arrives_own l q ∙ keeps_at 0 s l q t (omega arith) refl le
        (omega (arith, lt, le)) ∙ sym (leaves_own (l + 1) (Some q));
  }

  pub rest_other : Rest (suc s) ts (filter other f)
  rest_other = record {
    mine = λ k d lt. let m = All-filter other (Mine s (t ∷ ts)) f c.mine k d lt in
        let j = later_of s _ m.i t m.strand ts m.number
        (eqb-false _ s (not-true _ (filter_passes other f k d lt))) m.is in
        record {
          i = j.0;
          strand = m.strand;
          number = j.1;
          is = j.2;
          after = m.after;
          before =
              m.before;
          start = m.start;
        };
    starts = λ i u is. leaves_other (suc s + i) u.first None (omega arith) ∙ starts_at (suc i)
        (suc s + i) u (omega arith) is;
    keeps = λ i l q u is le lt. arrives_other (suc s + i) l q (omega arith) ∙ keeps_at (suc i)
        (suc s + i) l q u (omega arith) is le lt
        ∙ sym (leaves_other (suc s + i) (l + 1) (Some q) (omega arith));
  }

nothing : (s : ℕ) (f : List Edge) → Rest s [] f → f ≡ []
nothing s [] c = refl
nothing s (e ∷ f) c = absurd (let m = All-head (Mine s []) e f c.mine in
    none_past m.strand m.i m.is)
  where
    none_past : (u : Strand) (i : ℕ) → slice_get [] i ≡ Some u → ⊥
    none_past u i h = absurd (false≢true (ap is_some h))

pub flow_of_rest : (s : ℕ) (ts : List Strand) (f : List Edge) → All (λ t. t.first ≤ t.last) ts →
    Rest s ts f
    → (rs : List (List Place)) × HasPlaces ts rs × IsPermutation f (flow_from s ts rs)
flow_of_rest s [] f order c =
    ([], tt, subst (λ l. IsPermutation l []) (sym (nothing s f c)) (IsPermutation-refl []))
flow_of_rest s (t ∷ ts) f order c =
    let one = chain_path s t.first None (t.last - t.first) (filter (own s t ts f c) f)
    (chain_first s t ts f c) in
    let more = flow_of_rest (suc s) ts (filter (other s t ts f c) f)
    (All-tail (λ t. t.first ≤ t.last) t ts order) (rest_other s t ts f c) in
    let le = All-head (λ t. t.first ≤ t.last) t ts order in
    let long = one.1 in (
      one.0 ∷ more.0,
      (omega (arith, le, long), more.1),
      IsPermutation-trans f (filter (own s t ts f c) f ++ filter (other s t ts f c) f) _
          (IsPermutation-filter_both (own s t ts f c) (other s t ts f c) (λ e. refl) f)
          (IsPermutation-append (filter (own s t ts f c) f) (edges s t.first None one.0)
          (filter (other s t ts f c) f) (flow_from (suc s) ts more.0) one.2 more.2),
    )

-- the law
pub flow_is_routes : (ts : List Strand) (f : List Edge) → All (λ t. t.first ≤ t.last) ts →
    Conserves ts f
    → (rs : List (List Place)) × HasPlaces ts rs × IsPermutation f (flow_of ts rs)
flow_is_routes ts f order c = flow_of_rest 0 ts f order (record {
  mine = λ k d lt. let m = c.edges k d lt in
      record {
        i = _;
        strand = m.strand;
        number = omega arith;
        is = m.is;
        after = m.after;
        before =
            m.before;
        start = m.start;
      };
  starts = λ i t is. subst (λ n. count_by (leaves n t.first None) f ≡ 1) (zero_more i)
      (c.starts i t is);
  keeps = λ i l q t is le lt. subst (λ n. count_by (arrives n l q) f ≡
      count_by (leaves n (l + 1) (Some q)) f) (zero_more i) (c.keeps i l q t is le lt);
})
  where
    zero_more : (i : ℕ) → i ≡ 0 + i
    zero_more i = omega arith
