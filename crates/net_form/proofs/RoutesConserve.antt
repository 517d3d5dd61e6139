-- The edges of routes conserve.
use Rattle.std.proofs.Common.{ℕ, zero, suc, ◌≡◌, ◌+◌, ◌<◌, ◌≤◌, Bool, true, false, ◌&&◌, eqb, List}
use Rattle.std.proofs.Common.{[], ◌∷◌, length, get_or, slice_get, set, All, count_by, refl, sym, ap}
use Rattle.std.proofs.Common.{◌∙◌, subst, arith, Some, None, Option, inl, inr, unwrap_or, ◌⊎◌}
use Rattle.std.proofs.lemmas.Bool.{and_left, ne_eqb, cases_eq, cases_Bool}
use Rattle.std.proofs.lemmas.List.Elements.{All-nil, All-append, All-weaker}
use Rattle.std.proofs.lemmas.Option.{get_or_from_slice_get, slice_get_within}
use Rattle.std.proofs.lemmas.List.{set-get_or}
use Rattle.pra_base.specs.declared.ids.Place.{Place}
use Rattle.net_form.specs.declared.net.Strand.{Strand}
use Rattle.net_form.specs.Flow.{Edge, is_at, same_place, same_start, arrives, leaves, edges}
use Rattle.net_form.specs.Flow.{flow_from, flow_of, HasPlaces, IsEdge, Conserves}
use Rattle.pra_list.proofs.Counts.{bit, count-cons, count-none}
use Rattle.net_form.proofs.Paths.{OfPath, of_path, path_starts, path_keeps}
use Rattle.net_form.proofs.OneStrand.{sum_split, others}
use Rattle.pra_list.proofs.Options.{none_some}

others_apart : (k : ℕ) (ts : List Strand) (rs : List (List Place)) (i : ℕ) →
    All (λ e. e.strand ≡ k + i → ⊥) (flow_from k ts (set rs i []))
others_apart k [] rs i = All-nil _
others_apart k (t ∷ ts) [] i = All-nil _
others_apart k (t ∷ ts) (r ∷ rs) zero = All-weaker (λ e. k < e.strand) (λ e. e.strand ≡ k + 0 → ⊥)
    (λ e lt same. omega (arith, lt, same)) _ (from_next (suc k) ts rs (omega arith))
  where
    from_next : (n : ℕ) (ts : List Strand) (rs : List (List Place)) → k < n →
        All (λ e. k < e.strand) (flow_from n ts rs)
    from_next n [] rs lt = All-nil _
    from_next n (t ∷ ts) [] lt = All-nil _
    from_next n (t ∷ ts) (r ∷ rs) lt = All-append (λ e. k < e.strand) (edges n t.first None r) _
        (All-weaker (OfPath n t.first None (length r)) (λ e. k < e.strand)
        (λ e o. let s = o.strand in omega (arith, s, lt)) _ (of_path n t.first None r))
        (from_next (suc n) ts rs (omega (arith, lt)))
others_apart k (t ∷ ts) (r ∷ rs) (suc i) = All-append (λ e. e.strand ≡ k + suc i → ⊥)
    (edges k t.first None r) _
    (All-weaker (OfPath k t.first None (length r)) (λ e. e.strand ≡ k + suc i → ⊥)
    (λ e o same. let s = o.strand in omega (arith, s, same)) _ (of_path k t.first None r))
    (All-weaker (λ e. e.strand ≡ suc k + i → ⊥) (λ e. e.strand ≡ k + suc i → ⊥)
    (λ e h same. h (omega (arith, same))) _ (others_apart (suc k) ts rs i))

module _ (us : List Strand) (rs : List (List Place)) (s : ℕ) (t : Strand) (has : HasPlaces us rs)
    (is : slice_get us s ≡ Some t) where
  -- what is counted at strand s is counted on its path
  pub own_count : (l : ℕ) (c : Edge → Bool) (ps : List Place)
      → count_by (λ e. is_at s l e && c e) (flow_of us (set rs s ps)) ≡
      count_by (λ e. is_at s l e && c e) (edges s t.first None ps)
  own_count l c ps =
      let sum = sum_split us rs s t has is (λ e. bit (is_at s l e && c e)) ps in
      let none = count-none (λ e. is_at s l e && c e) (others us rs s) (λ k d lt.
      let x : Edge = get_or (others us rs s) k d in
      and_left (is_at s l x) (c x)
      (and_left (eqb x.strand s) (eqb x.layer l)
      (ne_eqb x.strand s (λ same. others_apart 0 us rs s k d lt (omega (arith, same)))))) in
      omega (arith, sum, none)

  pub starts_once : (ps : List Place) → 0 < length ps → count_by (leaves s t.first None)
      (flow_of us (set rs s ps)) ≡ 1
  starts_once ps lt = own_count t.first (λ e. same_start e.from None) ps
      ∙ path_starts s t.first ps lt

  pub keeps_all : (ps : List Place) (l : ℕ) (q : Place) → t.first + length ps ≡ t.last + 1 →
      t.first ≤ l → l < t.last
      → count_by (arrives s l q) (flow_of us (set rs s ps)) ≡ count_by (leaves s (l + 1) (Some q))
      (flow_of us (set rs s ps))
  keeps_all ps l q long le lt = own_count l (λ e. same_place e.to q) ps
      ∙ path_keeps s t.first None ps l q le (omega (arith, long, lt))
      ∙ sym (own_count (l + 1) (λ e. same_start e.from (Some q)) ps)

-- a path is at most once at a layer: what is counted there is at most one
pub at_most_once : (c : Edge → Bool) (s l : ℕ) (p : Option Place) (ps : List Place)
    → ((e x : Edge) → e.strand ≡ s → x.strand ≡ s → c e ≡ true → c x ≡ true → e.layer ≡ x.layer) →
    count_by c (edges s l p ps) ≤ 1
at_most_once c s l p [] one = omega arith
at_most_once c s l p (q ∷ qs) one =
    elim (cases_Bool (c (record { strand = s; layer = l; from = p; to = q })))
    as (λ _. count_by c (edges s l p (q ∷ qs)) ≤ 1) [
      | inl is ↦
          let e : Edge = record { strand = s; layer = l; from = p; to = q } in
          let count = count-cons c e (edges s (suc l) (Some q) qs) in
          let none = count-none c (edges s (suc l) (Some q) qs) (λ k d lt.
          let x : Edge = get_or (edges s (suc l) (Some q) qs) k d in
          let o = of_path s (suc l) (Some q) qs k d lt in
          false_if (c x) (λ too. let same = one e x refl o.strand is too in let a = o.after in
          omega (arith, same, a))) in
          let bits = ap bit is in
          omega (arith, count, none, bits)
      | inr is ↦
          let count = count-cons c (record { strand = s; layer = l; from = p; to = q })
          (edges s (suc l) (Some q) qs) in
          let more = at_most_once c s (suc l) (Some q) qs one in
          let bits = ap bit is in
          omega (arith, count, more, bits)
    ]
  where
    false_if : (b : Bool) → (b ≡ true → ⊥) → b ≡ false
    false_if true h = absurd (h refl)
    false_if false h = refl

pub edges_are : (ts us : List Strand) (k : ℕ) (rs : List (List Place)) →
    ((i : ℕ) (t : Strand) → slice_get ts i ≡ Some t → slice_get us (k + i) ≡ Some t)
    → HasPlaces ts rs → All (IsEdge us) (flow_from k ts rs)
edges_are [] us k [] same has = All-nil _
edges_are [] us k (r ∷ rs) same has = absurd has
edges_are (t ∷ ts) us k [] same has = absurd has
edges_are (t ∷ ts) us k (r ∷ rs) same has = All-append (IsEdge us) (edges k t.first None r) _
    (All-weaker (OfPath k t.first None (length r)) (IsEdge us) (λ e o. record {
      strand = t;
      is = subst (λ n. slice_get us n ≡ Some t) (let s = o.strand in let w : k + 0 ≡ e.strand =
          omega (arith, s) in w) (same 0 t refl);
      after = o.after;
      before = let b = o.before in let long = has.0 in omega (arith, b, long);
      start = (λ none. start_of e o none (cases_eq e.layer t.first), o.first);
    }) _ (of_path k t.first None r))
    (edges_are ts us (suc k) rs
    (λ i u is. subst (λ n. slice_get us n ≡ Some u)
    (let w : k + suc i ≡ suc k + i = omega arith in w) (same (suc i) u is)) has.1)
  where
    start_of : (e : Edge) → OfPath k t.first None (length r) e → e.from ≡ None →
        (e.layer ≡ t.first) ⊎ (e.layer ≡ t.first → ⊥) → e.layer ≡ t.first
    start_of e o none (inl same) = same
    start_of e o none (inr other) = let l = o.later (let a = o.after in omega (arith, a, other)) in
        absurd (none_some (sym none ∙ l.1))

row_long : (ts : List Strand) (rs : List (List Place)) (s : ℕ) (t : Strand) → HasPlaces ts rs →
    slice_get ts s ≡ Some t → t.first + length (get_or rs s []) ≡ t.last + 1
row_long [] rs s t has is = absurd (none_some is)
row_long (u ∷ ts) [] s t has is = absurd has
row_long (u ∷ ts) (r ∷ rs) zero t has is = subst (λ t. t.first + length r ≡ t.last + 1)
    (ap (λ o. unwrap_or o u) is) has.0
row_long (u ∷ ts) (r ∷ rs) (suc s) t has is = row_long ts rs s t has.1 is

-- the edges of routes conserve
pub flow_conserves : (us : List Strand) (rs : List (List Place)) → All (λ t. t.first ≤ t.last) us →
    HasPlaces us rs → Conserves us (flow_of us rs)
flow_conserves us rs order has = record {
  edges = edges_are us us 0 rs
      (λ i t is. subst (λ n. slice_get us n ≡ Some t) (let w : i ≡ 0 + i = omega arith in w) is)
      has;
  starts = λ s t is.
      let long = row_long us rs s t has is in
      let le = ordered us s t order is in
      subst (λ l. count_by (leaves s t.first None) (flow_of us l) ≡ 1) (set-get_or rs s [])
      (starts_once us rs s t has is (get_or rs s []) (omega (arith, long, le)));
  keeps = λ s l q t is le lt.
      subst (λ x. count_by (arrives s l q) (flow_of us x) ≡ count_by (leaves s (l + 1) (Some q))
      (flow_of us x)) (set-get_or rs s [])
      (keeps_all us rs s t has is (get_or rs s []) l q (row_long us rs s t has is) le lt);
}
  where
    ordered : (ts : List Strand) (s : ℕ) (t : Strand) → All (λ t. t.first ≤ t.last) ts →
        slice_get ts s ≡ Some t → t.first ≤ t.last
    ordered ts s t all is = subst (λ u. u.first ≤ u.last) (get_or_from_slice_get ts s t t is)
        (all s t (slice_get_within ts s t is))

-- as many paths as strands
pub as_many : (ts : List Strand) (rs : List (List Place)) → HasPlaces ts rs → length rs ≡ length ts
as_many [] [] h = refl
as_many [] (r ∷ rs) h = absurd h
as_many (t ∷ ts) [] h = absurd h
as_many (t ∷ ts) (r ∷ rs) h = ap suc (as_many ts rs h.1)
