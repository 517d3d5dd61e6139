-- Where the edges of routes break a rule.
use Rattle.std.proofs.Common.{ℕ, suc, ◌≡◌, ◌+◌, ◌-◌, ◌<◌, ◌≤◌, Bool, true, false, not, ◌&&◌, eqb}
use Rattle.std.proofs.Common.{List, [], ◌∷◌, length, get_or, slice_get, take, drop, count_by, All}
use Rattle.std.proofs.Common.{Some, None, Option, refl, sym, ap, ◌∙◌, subst, arith, add-one, inl}
use Rattle.std.proofs.Common.{inr}
use Rattle.std.proofs.lemmas.Bool.{and_left, and_right, ne_eqb, eq-eqb, cases_eq, cases_lt}
use Rattle.std.proofs.lemmas.List.{set-get_or, take_all}
use Rattle.std.proofs.lemmas.Option.{slice_get_past, slice_get-get_or}
use Rattle.pra_base.specs.declared.ids.Place.{Place}
use Rattle.net_form.specs.declared.net.Net.{Net}
use Rattle.net_form.specs.declared.routes.Routes.{Routes}
use Rattle.net_form.specs.Flow.{Edge, is_at, edges, flow, flow_of, AreRoutes}
use Rattle.net_form.specs.Admitted.{strand_at, no_strand}
use Rattle.pra_list.proofs.Counts.{bit, count-no, count-none, none-count}
use Rattle.net_form.proofs.Paths.{none_earlier, first_only}
use Rattle.pra_list.proofs.Options.{none_some}
use Rattle.net_form.proofs.RoutesConserve.{own_count, edges_are}
use Rattle.net_gate.specs.declared.broken.EdgeRule.{EdgeRule}
use Rattle.net_gate.specs.Broken.{keeps_rule, breaks, IsFirstLayer, IsFirstAbove, IsBefore}

module _ (net : Net) (rule : EdgeRule) (s l : ℕ) (p : Option Place) (q : Place) (qs : List Place)
  where
    abbrev first_one : Edge
    first_one = record { strand = s; layer = l; from = p; to = q }

    -- an edge that keeps the rule is not counted
    pub kept : (k : ℕ) → keeps_rule net rule first_one ≡ true
        → count_by (breaks net rule s k) (edges s l p (q ∷ qs)) ≡ count_by (breaks net rule s k)
        (edges s (l + 1) (Some q) qs)
    kept k is =
        count-no (breaks net rule s k) first_one (edges s (suc l) (Some q) qs)
        (and_right (is_at s k first_one) (not (keeps_rule net rule first_one)) (ap not is))
        ∙ ap (λ n. count_by (breaks net rule s k) (edges s n (Some q) qs)) (sym (add-one l))

    -- one that breaks it is the first of its path
    pub broken : keeps_rule net rule first_one ≡ false →
        IsFirstLayer (λ k. count_by (breaks net rule s k) (edges s l p (q ∷ qs))) (Some l)
    broken is = (
      let here = first_only s l p q qs (λ e. not (keeps_rule net rule e)) in
          let one = ap (λ b. bit (not b)) is in
          omega (arith, here, one),
      λ k lt. none_earlier s l p (q ∷ qs) k (λ e. not (keeps_rule net rule e)) lt,
    )

-- the same, of the places that are left of a path
module _ (net : Net) (rule : EdgeRule) (s l : ℕ) (p : Option Place) where
  pub kept_rest : (xs : List Place) (d : Place) → 1 ≤ length xs
      → keeps_rule net rule (record { strand = s; layer = l; from = p; to = get_or xs 0 d }) ≡ true
      → (k : ℕ) → count_by (breaks net rule s k)
      (edges s (l + 1) (Some (get_or xs 0 d)) (take (length xs - 1) (drop 1 xs))) ≡
      count_by (breaks net rule s k) (edges s l p xs)
  kept_rest [] d some is k = absurd (omega (arith, some))
  kept_rest (q ∷ qs) d some is k =
      ap (λ r. count_by (breaks net rule s k) (edges s (l + 1) (Some q) r))
      (take_all (suc (length qs) - 1) qs (omega arith))
      ∙ sym (kept net rule s l p q qs k is)

  pub broken_rest : (xs : List Place) (d : Place) → 1 ≤ length xs
      → keeps_rule net rule (record { strand = s; layer = l; from = p; to = get_or xs 0 d }) ≡ false
      → IsFirstLayer (λ k. count_by (breaks net rule s k) (edges s l p xs)) (Some l)
  broken_rest [] d some is = absurd (omega (arith, some))
  broken_rest (q ∷ qs) d some is = broken net rule s l p q qs is

  pub nothing_left : (xs : List Place) (k : ℕ) → length xs < 1 → count_by (breaks net rule s k)
      (edges s l p xs) ≡ 0
  nothing_left [] k none = refl
  nothing_left (q ∷ qs) k none = absurd (omega (arith, none))

module _ (net : Net) (routes : Routes) (has : AreRoutes net routes) (s k : ℕ) (c : Edge → Bool)
  where
    -- what is counted at a strand is counted on its path
    pub at_strand : s < length net.strands
        → count_by (λ e. is_at s k e && c e) (flow net routes) ≡ count_by (λ e. is_at s k e && c e)
        (edges s (strand_at net s).first None (get_or routes.places s []))
    at_strand lt =
        subst (λ x. count_by (λ e. is_at s k e && c e) (flow_of net.strands x) ≡
        count_by (λ e. is_at s k e && c e)
        (edges s (strand_at net s).first None (get_or routes.places s [])))
        (set-get_or routes.places s [])
        (own_count net.strands routes.places s (strand_at net s) has
        (slice_get-get_or net.strands s no_strand lt) k c (get_or routes.places s []))

    -- nothing is counted where there is no strand
    pub past_strands : length net.strands ≤ s → count_by (λ e. is_at s k e && c e)
        (flow net routes) ≡
        0
    past_strands le =
        count-none (λ e. is_at s k e && c e) (flow net routes) (λ i x lt.
        let e : Edge = get_or (flow net routes) i x in
        let m = edges_are net.strands net.strands 0 routes.places
        (λ i t is. subst (λ n. slice_get net.strands n ≡ Some t)
        (let w : i ≡ 0 + i = omega arith in w) is) has i x lt in
        and_left (is_at s k e) (c e)
        (and_left (eqb e.strand s) (eqb e.layer k) (ne_eqb e.strand s (λ same.
        none_some (sym (slice_get_past net.strands e.strand (omega (arith, same, le))) ∙ m.is)))))

-- ---- by the paths of the strands, those of all strands

module _ (net : Net) (rule : EdgeRule) (routes : Routes) (has : AreRoutes net routes) (s : ℕ) where
  abbrev count_path : ℕ → ℕ
  count_path k = count_by (breaks net rule s k)
      (edges s (strand_at net s).first None (get_or routes.places s []))

  abbrev count_all : ℕ → ℕ → ℕ
  count_all r k = count_by (breaks net rule r k) (flow net routes)

  same_at : (k : ℕ) → s < length net.strands → count_all s k ≡ count_path k
  same_at k lt = at_strand net routes has s k (λ e. not (keeps_rule net rule e)) lt

  pub first_here : (l : ℕ) → s < length net.strands → IsFirstLayer count_path (Some l) →
      ((r k : ℕ) → r < s → count_all r k ≡ 0)
      → IsFirstAbove 0 count_all (Some (s, l))
  first_here l lt here none =
      (let same = same_at l lt in let some = here.0 in omega (arith, same, some), before)
    where
      before : (a b : ℕ) → IsBefore (a, b) (s, l) → count_all a b ≤ 0
      before a b (inl less) = let zero_ = none a b less in omega (arith, zero_)
      before a b (inr (same, less)) =
          let is = same_at b lt in
          let zero_ = here.1 b less in
          let moved = ap (λ r. count_all r b) same in
          omega (arith, is, zero_, moved)

  pub none_here : s < length net.strands → IsFirstLayer count_path None →
      ((r k : ℕ) → r < s → count_all r k ≡ 0)
      → (r k : ℕ) → r < s + 1 → count_all r k ≡ 0
  none_here lt here none r k less = elim (cases_eq r s) as (λ _. count_all r k ≡ 0) [
    | inl same ↦ ap (λ n. count_all n k) same ∙ same_at k lt ∙ here k
    | inr other ↦ none r k (omega (arith, less, other))
  ]

  pub none_anywhere : ((r k : ℕ) → r < length net.strands → count_all r k ≡ 0) → (k : ℕ) →
      count_all s k ≤ 0
  none_anywhere none k = elim (cases_lt s (length net.strands)) as (λ _. count_all s k ≤ 0) [
    | inl lt ↦ let zero_ = none s k lt in omega (arith, zero_)
    | inr le ↦ let zero_ = past_strands net routes has s k (λ e. not (keeps_rule net rule e)) le in
        omega (arith, zero_)
  ]

-- where nothing is counted at any strand and layer, each edge passes
pub all_pass : (c : Edge → Bool) (f : List Edge) →
    ((s k : ℕ) → count_by (λ e. is_at s k e && not (c e)) f ≡ 0) → All (λ e. c e ≡ true) f
all_pass c f none i x lt =
    let e : Edge = get_or f i x in
    let here = none-count (λ (y : Edge). is_at e.strand e.layer y && not (c y)) f
    (none e.strand e.layer) i x lt in
    passes (c e) (sym (ap (λ b. b && not (c e))
    (ap (λ b. b && eqb e.layer e.layer) (eq-eqb e.strand e.strand refl)
    ∙ eq-eqb e.layer e.layer refl)) ∙ here)
  where
    passes : (b : Bool) → not b ≡ false → b ≡ true
    passes true h = refl
    passes false h = sym h

-- and where each edge passes, nothing is counted
pub none_fail : (c : Edge → Bool) (f : List Edge) (s k : ℕ) → All (λ e. c e ≡ true) f →
    count_by (λ e. is_at s k e && not (c e)) f ≡ 0
none_fail c f s k all = count-none (λ e. is_at s k e && not (c e)) f (λ i x lt.
    and_right (is_at s k (get_or f i x)) (not (c (get_or f i x))) (ap not (all i x lt)))
