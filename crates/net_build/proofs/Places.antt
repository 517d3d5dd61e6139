-- Where a place stands among strands in order.
use Rattle.std.proofs.Common.{ℕ, ◌≡◌, ◌+◌, ◌<◌, ◌≤◌, ◌⊎◌, inl, inr, List, [], ◌∷◌, ◌++◌, length}
use Rattle.std.proofs.Common.{get_or, refl, subst, sym, ap, ◌∙◌, arith}
use Rattle.std.proofs.lemmas.Bool.{cases_eq, cases_lt}
use Rattle.std.proofs.Math.Seq.{get_or-append_seam}
use Rattle.std.proofs.lemmas.List.{get_or_default, get_or_append_left, length-append}
use Rattle.net_form.specs.declared.net.Strand.{Strand}
use Rattle.net_form.specs.Admitted.{no_strand}
use Rattle.net_build.specs.Order.{Key, key_of, Precedes, block, first, var, AreInOrder, IsBetween}
use Rattle.net_build.specs.Order.{StartsAt, AreStarts, IsEntry}

pub trans : (a b c : Key) → Precedes a b → Precedes b c → Precedes a c
trans a b c (block x) (block y) = block (omega (arith, x, y))
trans a b c (block x) (first e y) = block (omega (arith, x, e))
trans a b c (block x) (var e f y) = block (omega (arith, x, e))
trans a b c (first d x) (block y) = block (omega (arith, d, y))
trans a b c (first d x) (first e y) = first (omega (arith, d, e)) (omega (arith, x, y))
trans a b c (first d x) (var e f y) = first (omega (arith, d, e)) (omega (arith, x, f))
trans a b c (var d g x) (block y) = block (omega (arith, d, y))
trans a b c (var d g x) (first e y) = first (omega (arith, d, e)) (omega (arith, g, y))
trans a b c (var d g x) (var e f y) = var (omega (arith, d, e)) (omega (arith, g, f))
    (omega (arith, x, y))

pub irreflexive : (a b : Key) → a.0 ≡ b.0 → a.1 ≡ b.1 → a.2 ≡ b.2 → Precedes a b → ⊥
irreflexive a b d e f (block x) = omega (arith, d, x)
irreflexive a b d e f (first p x) = omega (arith, e, x)
irreflexive a b d e f (var p q x) = omega (arith, f, x)

module _ (ss : List Strand) (order : AreInOrder ss) (place : Key) (low high : ℕ)
    (bounds : IsBetween ss place low high) (m : ℕ) (t : Strand) (within : m < length ss)
    (is : t ≡ get_or ss m t) where
  at : (d : Strand) → get_or ss m d ≡ t
  at d = get_or_default ss m d t within ∙ sym is

  pub go_up : Precedes (key_of t) place → IsBetween ss place (m + 1) high
  go_up here = record {
    before = λ k d lt. elim (cases_eq k m) as (λ _. Precedes (key_of (get_or ss k d)) place) [
      | inl same ↦ subst (λ n. Precedes (key_of (get_or ss n d)) place) (sym same)
          (subst (λ x. Precedes (key_of x) place) (sym (at d)) here)
      | inr other ↦ trans (key_of (get_or ss k d)) (key_of (get_or ss m d)) place
          (order k m d (omega (arith, lt, other)) within)
          (subst (λ x. Precedes (key_of x) place) (sym (at d)) here)
    ];
    behind = bounds.behind;
  }

  pub go_down : (Precedes (key_of t) place → ⊥) → IsBetween ss place low m
  go_down not_here = record {
    before = bounds.before;
    behind = λ k d le lt before. elim (cases_eq k m) as (λ _. ⊥) [
      | inl same ↦ not_here (subst (λ x. Precedes (key_of x) place) (at d)
          (subst (λ n. Precedes (key_of (get_or ss n d)) place) same before))
      | inr other ↦ not_here (subst (λ x. Precedes (key_of x) place) (at d)
          (trans (key_of (get_or ss m d)) (key_of (get_or ss k d)) place
          (order m k d (omega (arith, le, other)) lt) before))
    ];
  }

-- one strand at most stands at a place
pub one_place : (ss : List Strand) (place : Key) (n k : ℕ) (d : Strand) → AreInOrder ss →
    IsBetween ss place n n → k < length ss → key_of (get_or ss k d) ≡ place → n ≡ k
one_place ss place n k d order bounds lt same = by (cases_lt k n) (cases_lt n k)
  where
    by : (k < n) ⊎ (n ≤ k) → (n < k) ⊎ (k ≤ n) → n ≡ k
    by (inl less) more = absurd (irreflexive place place refl refl refl
        (subst (λ x. Precedes x place) same (bounds.before k d less)))
    by (inr le) (inl more) =
        absurd (bounds.behind n d (omega arith) (omega (arith, more, lt))
        (subst (Precedes (key_of (get_or ss n d))) same (order n k d more lt)))
    by (inr le) (inr ge) = omega (arith, le, ge)

pub one_entry : (ss : List Strand) (b v n k : ℕ) (d : Strand) → AreInOrder ss → IsEntry ss b v n →
    k < length ss → key_of (get_or ss k d) ≡ (b, 0, v) → n ≡ k
one_entry ss b v n k d order here lt same = by (cases_lt k n) (cases_lt n k)
  where
    twice : (a c : Key) → a ≡ (b, 0, v) → c ≡ (b, 0, v) → Precedes a c → ⊥
    twice a c p q before = irreflexive (b, 0, v) (b, 0, v) refl refl refl
        (subst (Precedes (b, 0, v)) q (subst (λ x. Precedes x c) p before))

    by : (k < n) ⊎ (n ≤ k) → (n < k) ⊎ (k ≤ n) → n ≡ k
    by (inl less) more = absurd (twice (key_of (get_or ss k d)) (key_of (get_or ss n d)) same
        (here.key d) (order k n d less here.within))
    by (inr le) (inl more) = absurd (twice (key_of (get_or ss n d)) (key_of (get_or ss k d))
        (here.key d) same (order n k d more lt))
    by (inr le) (inr ge) = omega (arith, le, ge)

-- ---- where the strands of a block begin

not_later : (a b : Key) → Precedes a b → a.0 ≤ b.0
not_later a b (block x) = omega (arith, x)
not_later a b (first e x) = omega (arith, e)
not_later a b (var e f x) = omega (arith, e)

pub starts_here : (ss : List Strand) (b at : ℕ) → AreInOrder ss → at ≤ length ss
    → ((k : ℕ) (d : Strand) → k < at → (get_or ss k d).block.0 < b)
    → ((d : Strand) → at < length ss → b ≤ (get_or ss at d).block.0) → StartsAt ss b at
starts_here ss b at order within before here = record {
  within = within;
  before = before;
  behind = λ k d le lt. elim (cases_eq k at) as (λ _. b ≤ (get_or ss k d).block.0) [
    | inl same ↦ subst (λ n. b ≤ (get_or ss n d).block.0) (sym same)
        (here d (omega (arith, same, lt)))
    | inr other ↦
        let one = here d (omega (arith, le, lt)) in
        let two = not_later (key_of (get_or ss at d)) (key_of (get_or ss k d))
        (order at k d (omega (arith, le, other)) lt) in
        omega (arith, one, two)
  ];
}

pub starts_in_order : (ss : List Strand) (b low high : ℕ) → StartsAt ss b low →
    StartsAt ss (b + 1) high → low ≤ high
starts_in_order ss b low high one two = by (cases_lt high low)
  where
    by : (high < low) ⊎ (low ≤ high) → low ≤ high
    by (inr le) = le
    by (inl lt) =
        let within = one.within in
        let before = one.before high no_strand lt in
        let behind = two.behind high no_strand (omega arith) (omega (arith, lt, within)) in
        absurd (omega (arith, before, behind))

pub between_starts : (ss : List Strand) (b v low high : ℕ) → StartsAt ss b low →
    StartsAt ss (b + 1) high → IsBetween ss (b, 0, v) low high
between_starts ss b v low high one two = record {
  before = λ k d lt. block (one.before k d lt);
  behind = λ k d le lt is.
      let most = not_later (key_of (get_or ss k d)) (b, 0, v) is in
      let least = two.behind k d le lt in
      omega (arith, most, least);
}

pub starts_pushed : (ss : List Strand) (starts : List ℕ) (at : ℕ) → AreStarts ss starts →
    StartsAt ss (length starts) at → AreStarts ss (starts ++ at ∷ [])
starts_pushed ss starts at all here b lt =
    elim (cases_lt b (length starts)) as (λ _. StartsAt ss b (get_or (starts ++ at ∷ []) b 0)) [
      | inl less ↦ subst (StartsAt ss b) (sym (get_or_append_left starts (at ∷ []) 0 b less))
          (all b less)
      | inr le ↦
          let long = length-append starts (at ∷ []) in
          let same : b ≡ length starts = omega (arith, long, lt, le) in
          let last : get_or (starts ++ at ∷ []) b 0 ≡ at =
          ap (λ n. get_or (starts ++ at ∷ []) n 0) same
          ∙ get_or-append_seam starts at [] 0 in
          subst (λ n. StartsAt ss n (get_or (starts ++ at ∷ []) b 0)) (sym same)
          (subst (StartsAt ss (length starts)) (sym last) here)
    ]
