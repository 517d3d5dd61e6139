-- The edges of routes conserve.
use Rattle.std.proofs.Common.{ℕ, suc, ◌≡◌, ◌+◌, ◌<◌, ◌≤◌, Bool, ◌&&◌, eqb, List, [], ◌∷◌, length}
use Rattle.std.proofs.Common.{get_or, All, count_by, refl, sym, ap, ◌∙◌, subst, arith, Some, None}
use Rattle.std.proofs.Common.{Option, inl, inr, ◌⊎◌}
use Rattle.std.proofs.lemmas.Bool.{and_left, and_right, eq-eqb, ne_eqb, cases_eq}
use Rattle.std.proofs.lemmas.List.Elements.{All-cons, All-nil, All-weaker}
use Rattle.pra_base.specs.declared.ids.Place.{Place}
use Rattle.net_form.specs.Flow.{Edge, same_place, is_at, same_start, arrives, leaves, edges}
use Rattle.pra_list.proofs.Counts.{bit, count-cons, count-none, count-no}

-- what the edges of a path are
pub record OfPath (s l : ℕ) (p : Option Place) (n : ℕ) (e : Edge) : Type 0 where
  pub strand : e.strand ≡ s
  pub after : l ≤ e.layer
  pub before : e.layer < l + n
  pub first : e.layer ≡ l → e.from ≡ p
  pub later : l < e.layer → (q : Place) × (e.from ≡ Some q)

pub of_path : (s l : ℕ) (p : Option Place) (ps : List Place) → All (OfPath s l p (length ps))
    (edges s l p ps)
of_path s l p [] = All-nil _
of_path s l p (q ∷ qs) = All-cons (OfPath s l p (suc (length qs))) _ _
    (record {
      strand = refl;
      after = omega arith;
      before = omega arith;
      first = λ _. refl;
      later =
          λ lt. absurd (omega (arith, lt));
    })
    (All-weaker (OfPath s (suc l) (Some q) (length qs)) (OfPath s l p (suc (length qs)))
    (λ e o. record {
      strand = o.strand;
      after = let a = o.after in omega (arith, a);
      before = let b = o.before in omega (arith, b);
      first = λ same. let a = o.after in absurd (omega (arith, a, same));
      later = λ lt. later_of e o (cases_eq e.layer (suc l));
    }) _ (of_path s (suc l) (Some q) qs))
  where
    later_of : (e : Edge) → OfPath s (suc l) (Some q) (length qs) e → (e.layer ≡ suc l) ⊎
        (e.layer ≡ suc l → ⊥) → (r : Place) × (e.from ≡ Some r)
    later_of e o (inl same) = (q, o.first same)
    later_of e o (inr other) = o.later (let a = o.after in omega (arith, a, other))

-- a test of an earlier layer counts none
pub none_earlier : (s l : ℕ) (p : Option Place) (ps : List Place) (k : ℕ) (c : Edge → Bool) →
    k < l → count_by (λ e. is_at s k e && c e) (edges s l p ps) ≡ 0
none_earlier s l p ps k c lt = count-none (λ e. is_at s k e && c e) (edges s l p ps) (λ j d in_.
    let x : Edge = get_or (edges s l p ps) j d in
    let a = (of_path s l p ps j d in_).after in
    and_left (is_at s k x) (c x)
    (and_right (eqb x.strand s) (eqb x.layer k)
    (ne_eqb x.layer k (λ same. omega (arith, same, a, lt)))))

-- at the first layer of a path the first edge alone is counted
pub first_only : (s l : ℕ) (p : Option Place) (q : Place) (qs : List Place) (c : Edge → Bool)
    → count_by (λ e. is_at s l e && c e) (edges s l p (q ∷ qs)) ≡
    bit (c (record { strand = s; layer = l; from = p; to = q }))
first_only s l p q qs c =
    let e : Edge = record { strand = s; layer = l; from = p; to = q } in
    let one = count-cons (λ e. is_at s l e && c e) e (edges s (suc l) (Some q) qs) in
    let none = none_earlier s (suc l) (Some q) qs l c (omega arith) in
    let here : (is_at s l e && c e) ≡ c e =
    ap (λ b. b && c e) (ap (λ b. b && eqb l l) (eq-eqb s s refl) ∙ eq-eqb l l refl) in
    let test = ap bit here in
    omega (arith, one, none, test)

pub path_starts : (s l : ℕ) (ps : List Place) → 0 < length ps →
    count_by (leaves s l None) (edges s l None ps) ≡ 1
path_starts s l [] lt = absurd (omega (arith, lt))
path_starts s l (q ∷ qs) lt = first_only s l None q qs (λ e. same_start e.from None)

pub later_layer : (s l k : ℕ) (p : Option Place) (q : Place) (qs : List Place) (c : Edge → Bool) →
    l < k
    → count_by (λ e. is_at s k e && c e) (edges s l p (q ∷ qs)) ≡ count_by (λ e. is_at s k e && c e)
    (edges s (suc l) (Some q) qs)
later_layer s l k p q qs c lt = count-no (λ e. is_at s k e && c e) _ (edges s (suc l) (Some q) qs)
    (and_left (eqb s s && eqb l k) (c (record { strand = s; layer = l; from = p; to = q }))
    (and_right (eqb s s) (eqb l k) (ne_eqb l k (λ same. omega (arith, same, lt)))))

pub path_keeps : (s l : ℕ) (p : Option Place) (ps : List Place) (k : ℕ) (q : Place) → l ≤ k →
    k + 1 < l + length ps
    → count_by (arrives s k q) (edges s l p ps) ≡ count_by (leaves s (k + 1) (Some q))
    (edges s l p ps)
path_keeps s l p [] k q le lt = absurd (omega (arith, le, lt))
path_keeps s l p (x ∷ []) k q le lt = absurd (omega (arith, le, lt))
path_keeps s l p (x ∷ y ∷ qs) k q le lt =
    elim (cases_eq k l) as (λ _. count_by (arrives s k q) (edges s l p (x ∷ y ∷ qs)) ≡
    count_by (leaves s (k + 1) (Some q)) (edges s l p (x ∷ y ∷ qs))) [
      | inl same ↦ subst (λ k. count_by (arrives s k q) (edges s l p (x ∷ y ∷ qs)) ≡
          count_by (leaves s (k + 1) (Some q)) (edges s l p (x ∷ y ∷ qs))) (sym same)
          (first_only s l p x (y ∷ qs) (λ e. same_place e.to q)
          ∙ sym (later_layer s l (l + 1) p x (y ∷ qs) (λ e. same_start e.from (Some q))
          (omega arith)
          ∙ subst (λ k. count_by (leaves s k (Some q)) (edges s (suc l) (Some x) (y ∷ qs)) ≡
          bit (same_place x q)) (let e : suc l ≡ l + 1 = omega arith in e)
          (first_only s (suc l) (Some x) y qs (λ e. same_start e.from (Some q)))))
      | inr other ↦ later_layer s l k p x (y ∷ qs) (λ e. same_place e.to q)
          (omega (arith, le, other))
          ∙ path_keeps s (suc l) (Some x) (y ∷ qs) k q (omega (arith, le, other))
          (omega (arith, lt))
          ∙ sym (later_layer s l (k + 1) p x (y ∷ qs) (λ e. same_start e.from (Some q))
          (omega (arith, le)))
    ]
