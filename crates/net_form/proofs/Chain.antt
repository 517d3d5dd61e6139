-- The edges of one strand are a path.
use Rattle.std.proofs.Common.{ℕ, zero, suc, ◌≡◌, ◌+◌, ◌<◌, ◌≤◌, true, false, cond, eqb, List, []}
use Rattle.std.proofs.Common.{◌∷◌, length, get_or, All, count_by, IsPermutation, refl, sym, ap, ◌∙◌}
use Rattle.std.proofs.Common.{subst, arith, Some, Option, add-one, inl, inr}
use Rattle.std.proofs.lemmas.Bool.{and_parts, and_from, and_left, and_right, eqb-true, eq-eqb}
use Rattle.std.proofs.lemmas.Bool.{ne_eqb, both_ways}
use Rattle.std.proofs.lemmas.List.Elements.{All-head, All-tail}
use Rattle.std.proofs.lemmas.List.Sorted.{All-permutation, IsPermutation-cons, IsPermutation-trans}
use Rattle.pra_base.specs.declared.ids.Place.{Place}
use Rattle.net_form.specs.Flow.{Edge, is_at, same_place, same_start, arrives, leaves, edges}
use Rattle.net_form.proofs.PlaceEquality.{place_cases, same_place-refl, same_start-refl}
use Rattle.pra_list.proofs.Counts.{count-cons, count-no, count-none, none-count, peel, count-same}
use Rattle.pra_list.proofs.Counts.{bit}

-- what is left of a strand's edges, from the layer l on, which it comes to from p, for n layers
-- more
pub record Chain (s l : ℕ) (p : Option Place) (n : ℕ) (g : List Edge) : Type 0 where
  pub strand : All (λ e. e.strand ≡ s) g
  pub after : All (λ e. l ≤ e.layer) g
  pub before : All (λ e. e.layer ≤ l + n) g
  pub later : All (λ e. l < e.layer → (q : Place) × (e.from ≡ Some q)) g
  pub comes : All (λ e. e.layer ≡ l → e.from ≡ p) g
  pub once : count_by (leaves s l p) g ≡ 1
  pub keeps : (k : ℕ) (q : Place) → l ≤ k → k < l + n → count_by (arrives s k q) g ≡
      count_by (leaves s (k + 1) (Some q)) g

-- in any order
chain-same : (s l : ℕ) (p : Option Place) (n : ℕ) (g h : List Edge) → IsPermutation g h →
    Chain s l p n g → Chain s l p n h
chain-same s l p n g h same c = record {
  strand = All-permutation (λ e. e.strand ≡ s) g h same c.strand;
  after = All-permutation (λ e. l ≤ e.layer) g h same c.after;
  before = All-permutation (λ e. e.layer ≤ l + n) g h same c.before;
  later = All-permutation (λ e. l < e.layer → (q : Place) × (e.from ≡ Some q)) g h same c.later;
  comes = All-permutation (λ e. e.layer ≡ l → e.from ≡ p) g h same c.comes;
  once = count-same _ g h same ∙ c.once;
  keeps = λ k q le lt. count-same _ g h same ∙ c.keeps k q le lt ∙ sym (count-same _ g h same);
}

module _ (s l : ℕ) (p : Option Place) (n : ℕ) (e : Edge) (g : List Edge) (c : Chain s l p n (e ∷ g))
    (is : leaves s l p e ≡ true) (fails : All (λ x. leaves s l p x ≡ false) g) where
  here : is_at s l e ≡ true
  here = (and_parts (is_at s l e) (same_start e.from p) is).0

  is_strand : e.strand ≡ s
  is_strand = All-head (λ e. e.strand ≡ s) e g c.strand

  is_layer : e.layer ≡ l
  is_layer = eqb-true e.layer l (and_parts (eqb e.strand s) (eqb e.layer l) here).1

  is_from : e.from ≡ p
  is_from = All-head (λ e. e.layer ≡ l → e.from ≡ p) e g c.comes is_layer

  strand_more : All (λ e. e.strand ≡ s) g
  strand_more = All-tail (λ e. e.strand ≡ s) e g c.strand

  -- the rest comes later
  after_more : All (λ e. l + 1 ≤ e.layer) g
  after_more = λ k d lt.
      let x : Edge = get_or g k d in
      let le : l ≤ x.layer = All-tail (λ e. l ≤ e.layer) e g c.after k d lt in
      let no : x.layer ≡ l → ⊥ = λ same. both_ways (leaves s l p x) (fails k d lt)
      (and_from (is_at s l x) (same_start x.from p)
      (and_from (eqb x.strand s) (eqb x.layer l) (eq-eqb x.strand s (strand_more k d lt))
      (eq-eqb x.layer l same))
      (subst (λ o. same_start o p ≡ true)
      (sym (All-tail (λ e. e.layer ≡ l → e.from ≡ p) e g c.comes k d lt same))
      (same_start-refl p))) in
      omega (arith, le, no)

  elsewhere : (k : ℕ) → l < k → is_at s k e ≡ false
  elsewhere k lt = and_right (eqb e.strand s) (eqb e.layer k)
      (ne_eqb e.layer k (λ same. omega (arith, same, lt, is_layer)))

  -- at the layer of e only e arrives
  arrives_once : (q : Place) → count_by (arrives s l q) (e ∷ g) ≡ cond (arrives s l q e) 1 0
  arrives_once q =
      let one = count-cons (arrives s l q) e g in
      let none = count-none (arrives s l q) g (λ k d lt.
      let x : Edge = get_or g k d in
      and_left (is_at s l x) (same_place x.to q)
      (and_right (eqb x.strand s) (eqb x.layer l)
      (ne_eqb x.layer l (λ same. let le = after_more k d lt in omega (arith, same, le))))) in
      omega (arith, one, none)

  leaves_more : (k : ℕ) (q : Option Place) → l < k → count_by (leaves s k q) (e ∷ g) ≡
      count_by (leaves s k q) g
  leaves_more k q lt = count-no (leaves s k q) e g
      (and_left (is_at s k e) (same_start e.from q) (elsewhere k lt))

  arrives_more : (k : ℕ) (q : Place) → l < k → count_by (arrives s k q) (e ∷ g) ≡
      count_by (arrives s k q) g
  arrives_more k q lt = count-no (arrives s k q) e g
      (and_left (is_at s k e) (same_place e.to q) (elsewhere k lt))

  -- what goes on from q is one edge where e arrives at q, else none
  goes_on : (q : Place) → l < l + n → count_by (leaves s (l + 1) (Some q)) g ≡
      cond (arrives s l q e) 1 0
  goes_on q lt = sym (leaves_more (l + 1) (Some q) (omega arith))
      ∙ sym (c.keeps l q (omega arith) lt) ∙ arrives_once q

  is_edge : e ≡ record { strand = s; layer = l; from = p; to = e.to }
  is_edge = λ i. record { strand = is_strand i; layer = is_layer i; from = is_from i; to = e.to }

  -- an edge of the rest can only come from where e goes to
  goes_to : (x : Edge) (q : Place) → l < l + n → (count_by (leaves s (l + 1) (Some q)) g ≡ 0 → ⊥) →
      q ≡ e.to
  goes_to x q lt some = elim (place_cases e.to q) as (λ _. q ≡ e.to) [
    | inl same ↦ sym same
    | inr other ↦ absurd (some
        (goes_on q lt ∙ ap bit (and_right (is_at s l e) (same_place e.to q) other)))
  ]

  none_left : n ≡ 0 → g ≡ []
  none_left zero_left = nil g (λ k d lt.
      let a = after_more k d lt in
      let b = All-tail (λ e. e.layer ≤ l + n) e g c.before k d lt in
      omega (arith, a, b, zero_left))
    where
      nil : (xs : List Edge) → All (λ e. ⊥) xs → xs ≡ []
      nil [] h = refl
      nil (x ∷ xs) h = absurd (All-head (λ e. ⊥) x xs h)

-- and so is the rest
chain-rest : (s l : ℕ) (p : Option Place) (n : ℕ) (e : Edge) (g : List Edge) →
    Chain s l p (suc n) (e ∷ g) → leaves s l p e ≡ true
    → All (λ x. leaves s l p x ≡ false) g → Chain s (l + 1) (Some e.to) n g
chain-rest s l p n e g c is fails = record {
  strand = strand_more s l p (suc n) e g c is fails;
  after = after_more s l p (suc n) e g c is fails;
  before = λ k d lt. let b = All-tail (λ e. e.layer ≤ l + suc n) e g c.before k d lt in
      omega (arith, b);
  later = λ k d lt more. All-tail (λ e. l < e.layer → (q : Place) × (e.from ≡ Some q)) e g c.later k
      d lt (omega (arith, more));
  comes = λ k d lt same.
      let x : Edge = get_or g k d in
      let from = All-tail (λ e. l < e.layer → (q : Place) × (e.from ≡ Some q)) e g c.later k d lt
      (omega (arith, same)) in
      from.1 ∙ ap Some (goes_to s l p (suc n) e g c is fails x from.0 (omega arith) (λ zero_left.
      both_ways (leaves s (l + 1) (Some from.0) x)
      (none-count (leaves s (l + 1) (Some from.0)) g zero_left k d lt)
      (and_from (is_at s (l + 1) x) (same_start x.from (Some from.0))
      (and_from (eqb x.strand s) (eqb x.layer (l + 1))
      (eq-eqb x.strand s (strand_more s l p (suc n) e g c is fails k d lt))
      (eq-eqb x.layer (l + 1) same))
      (subst (λ o. same_start o (Some from.0) ≡ true) (sym from.1)
      (same_start-refl (Some from.0))))));
  once = goes_on s l p (suc n) e g c is fails e.to (omega arith) ∙ ap bit
      (and_from (is_at s l e) (same_place e.to e.to) (here s l p (suc n) e g c is fails)
      (same_place-refl e.to));
  keeps = λ k q le lt. sym (arrives_more s l p (suc n) e g c is fails k q (omega (arith, le)))
      ∙ c.keeps k q (omega (arith, le)) (omega (arith, lt))
      ∙ leaves_more s l p (suc n) e g c is fails (k + 1) (Some q) (omega (arith, le));
}

-- the edges of a strand are, in some order, those of one path
pub chain_path : (s l : ℕ) (p : Option Place) (n : ℕ) (g : List Edge) → Chain s l p n g →
    (ps : List Place) × (length ps ≡ suc n) × IsPermutation g (edges s l p ps)
chain_path s l p zero g c =
    let t = peel (leaves s l p) g c.once in
    let d = chain-same s l p zero g (t.one ∷ t.rest) t.same c in
    let none = none_left s l p zero t.one t.rest d t.passes t.fails refl in (
      t.one.to ∷ [],
      refl,
      subst (λ e. IsPermutation g (e ∷ []))
          (is_edge s l p zero t.one t.rest d t.passes t.fails)
          (subst (λ r. IsPermutation g (t.one ∷ r)) none t.same),
    )
chain_path s l p (suc n) g c =
    let t = peel (leaves s l p) g c.once in
    let d = chain-same s l p (suc n) g (t.one ∷ t.rest) t.same c in
    let more = chain_path s (suc l) (Some t.one.to) n t.rest
    (subst (λ k. Chain s k (Some t.one.to) n t.rest) (add-one l)
    (chain-rest s l p n t.one t.rest d t.passes t.fails)) in (
      t.one.to ∷ more.0,
      ap suc more.1,
      subst (λ e. IsPermutation g (e ∷ edges s (suc l) (Some t.one.to) more.0))
          (is_edge s l p (suc n) t.one t.rest d t.passes t.fails)
          (IsPermutation-trans g (t.one ∷ t.rest) (t.one ∷ edges s (suc l) (Some t.one.to) more.0)
          t.same (IsPermutation-cons t.one t.rest (edges s (suc l) (Some t.one.to) more.0)
          more.2)),
    )
