-- Labels of ends, as ends are put under others and joined.
use Rattle.std.proofs.Common.{ℕ, zero, suc, ◌≡◌, ◌+◌, ◌<◌, ◌≤◌, inl, inr, cond, eqb, List, length}
use Rattle.std.proofs.Common.{get_or, set, refl, sym, ap, ◌∙◌, subst, arith, min, max}
use Rattle.std.specs.Prelude.{Contains}
use Rattle.std.specs.List.{range_with_len}
use Rattle.std.proofs.lemmas.Bool.{cases_eq, cases_lt, eq-eqb, ne_eqb}
use Rattle.std.proofs.lemmas.List.{get_or-set_same, get_or-set_other, get_or_default}
use Rattle.net_form.specs.declared.net.Tie.{Tie}
use Rattle.net_form.specs.Groups.{Ties, Joined, here, on, IsLeastEnd, entry_end, exit_end}
use Rattle.net_build.specs.Labels.{parent, GoDown, AreLabels, merged, AreUnited}

module _ (ps : List ℕ) (at v : ℕ) (within : at < length ps) where
  moved : (e : ℕ) → e ≡ at → parent (set ps at v) e ≡ v
  moved e same = subst (λ (n : ℕ). get_or (set ps at v) n n ≡ v) (sym same)
      (get_or-set_same ps at v at within)

  pub kept : (e : ℕ) → (e ≡ at → ⊥) → parent (set ps at v) e ≡ parent ps e
  kept e other = get_or-set_other ps at e v e other

  -- an end that is put under a lesser one
  pub still_down : GoDown ps → v ≤ at → GoDown (set ps at v)
  still_down down le e = elim (cases_eq e at) as (λ _. parent (set ps at v) e ≤ e) [
    | inl same ↦ let m = moved e same in omega (arith, m, same, le)
    | inr other ↦ let k = kept e other in let d = down e in omega (arith, k, d)
  ]

  -- or under one with its own label
  pub still_labels : (label : ℕ → ℕ) → AreLabels ps label → label v ≡ label at → (v ≡ at → ⊥) →
      AreLabels (set ps at v) label
  still_labels label is same_label apart = record {
    along = λ e. elim (cases_eq e at) as (λ _. label (parent (set ps at v) e) ≡ label e) [
      | inl same ↦ ap label (moved e same) ∙ same_label ∙ ap label (sym same)
      | inr other ↦ ap label (kept e other) ∙ is.along e
    ];
    own = λ e top. elim (cases_eq e at) as (λ _. label e ≡ e) [
      | inl same ↦ absurd (apart (sym (moved e same) ∙ top ∙ same))
      | inr other ↦ is.own e (sym (kept e other) ∙ top)
    ];
    low = is.low;
    once = is.once;
  }

  abbrev new_label : (ℕ → ℕ) → ℕ → ℕ
  new_label label = merged v at label

  has_new : (label : ℕ → ℕ) (e : ℕ) → label e ≡ at → new_label label e ≡ v
  has_new label e is = ap (λ b. cond b v (label e)) (eq-eqb (label e) at is)

  has_old : (label : ℕ → ℕ) (e : ℕ) → (label e ≡ at → ⊥) → new_label label e ≡ label e
  has_old label e other = ap (λ b. cond b v (label e)) (ne_eqb (label e) at other)

  -- the label `at` and the label `v`, which is no greater, become one
  pub merged_labels : (label : ℕ → ℕ) → AreLabels ps label → v ≤ at → label at ≡ at → label v ≡ v →
      AreLabels (set ps at v) (merged v at label)
  merged_labels label is le at_own v_own = record {
    along = λ e. elim (cases_eq e at) as (λ _. new_label label (parent (set ps at v) e) ≡
        new_label label e) [
          | inl same ↦ ap (new_label label) (moved e same) ∙ v_is
              ∙ sym (has_new label e (ap label same ∙ at_own))
          | inr other ↦ ap (new_label label) (kept e other) ∙ ap (λ (n : ℕ). cond (eqb n at) v n)
              (is.along e)
        ];
    own = λ e top. elim (cases_eq e at) as (λ _. new_label label e ≡ e) [
      | inl same ↦ has_new label e (ap label same ∙ at_own) ∙ sym (moved e same) ∙ top
      | inr other ↦
          let own = is.own e (sym (kept e other) ∙ top) in
          has_old label e (λ a. other (sym own ∙ a)) ∙ own
    ];
    low = λ e. elim (cases_eq (label e) at) as (λ _. new_label label e ≤ e) [
      | inl same ↦ let n = has_new label e same in let l = is.low e in omega (arith, n, l, le, same)
      | inr other ↦ let n = has_old label e other in let l = is.low e in omega (arith, n, l)
    ];
    once = λ e. elim (cases_eq (label e) at) as (λ _. new_label label (new_label label e) ≡
        new_label label e) [
          | inl same ↦ ap (new_label label) (has_new label e same) ∙ v_is
              ∙ sym (has_new label e same)
          | inr other ↦
              ap (new_label label) (has_old label e other)
              ∙ has_old label (label e) (λ a. other (sym (is.once e) ∙ a))
              ∙ is.once e ∙ sym (has_old label e other)
        ];
  }
    where
      v_is : new_label label v ≡ v
      v_is = elim (cases_eq (label v) at) as (λ _. new_label label v ≡ v) [
        | inl same ↦ has_new label v same
        | inr other ↦ has_old label v other ∙ v_own
      ]

-- ---- joined ends

module _ (ties : List Tie) where
  other_way : (t : Tie) (e f : ℕ) → Ties t e f → Ties t f e
  other_way t e f (inl p) = inr p
  other_way t e f (inr p) = inl p

  pub through : (e f g : ℕ) → Joined ties e f → Joined ties f g → Joined ties e g
  through e f _ one here = one
  through e f _ one (on m g t two in_ ends) = on m g t (through e f m one two) in_ ends

  pub back : (e f : ℕ) → Joined ties e f → Joined ties f e
  back e _ here = here
  back e _ (on m g t one in_ ends) = through g m e (on g m t here in_ (other_way t m g ends))
      (back e m one)

  pub tied : (t : Tie) → Contains ties t → Joined ties (exit_end t.from) (entry_end t.to)
  tied t in_ = on (exit_end t.from) (entry_end t.to) t here in_ (inl (refl, refl))

  module _ (label : ℕ → ℕ) (low : (e : ℕ) → label e ≤ e)
      (joined : (e : ℕ) → Joined ties e (label e)) where
    -- ends that ties join have one label, if the ends of each tie have
    same_label : ((t : Tie) → Contains ties t → label (exit_end t.from) ≡ label (entry_end t.to)) →
        (e f : ℕ) → Joined ties e f → label e ≡ label f
    same_label same e _ here = refl
    same_label same e _ (on m g t one in_ (inl p)) =
        same_label same e m one ∙ ap label p.0 ∙ same t in_ ∙ sym (ap label p.1)
    same_label same e _ (on m g t one in_ (inr p)) =
        same_label same e m one ∙ ap label p.1 ∙ sym (same t in_) ∙ sym (ap label p.0)

    pub least : ((t : Tie) → Contains ties t → label (exit_end t.from) ≡ label (entry_end t.to)) →
        (e : ℕ) → IsLeastEnd ties e (label e)
    least same e = record {
      joined = joined e;
      least = λ f j. let one = same_label same e f j in let l = low f in omega (arith, one, l);
    }

-- ---- one more tie

at_low : (a b : ℕ) → cond (eqb a (max a b)) (min a b) a ≡ min a b
at_low a b = elim (cases_eq a (max a b)) as (λ _. cond (eqb a (max a b)) (min a b) a ≡ min a b) [
  | inl same ↦ ap (λ t. cond t (min a b) a) (eq-eqb a (max a b) same)
  | inr other ↦ ap (λ t. cond t (min a b) a) (ne_eqb a (max a b) other) ∙ omega (arith, other)
]

at_low_too : (a b : ℕ) → cond (eqb b (max a b)) (min a b) b ≡ min a b
at_low_too a b = elim (cases_eq b (max a b)) as (λ _. cond (eqb b (max a b)) (min a b) b ≡ min a b) [
  | inl same ↦ ap (λ t. cond t (min a b) b) (eq-eqb b (max a b) same)
  | inr other ↦ ap (λ t. cond t (min a b) b) (ne_eqb b (max a b) other) ∙ omega (arith, other)
]

-- of two labels that are their own, the greater and the lesser are
pub greater_own : (label : ℕ → ℕ) (a b : ℕ) → label a ≡ a → label b ≡ b → label (max a b) ≡ max a b
greater_own label a b one two = elim (cases_lt a b) as (λ _. label (max a b) ≡ max a b) [
  | inl lt ↦ let e : max a b ≡ b = omega (arith, lt) in ap label e ∙ two ∙ sym e
  | inr le ↦ let e : max a b ≡ a = omega (arith, le) in ap label e ∙ one ∙ sym e
]

pub lesser_own : (label : ℕ → ℕ) (a b : ℕ) → label a ≡ a → label b ≡ b → label (min a b) ≡ min a b
lesser_own label a b one two = elim (cases_lt a b) as (λ _. label (min a b) ≡ min a b) [
  | inl lt ↦ let e : min a b ≡ a = omega (arith, lt) in ap label e ∙ one ∙ sym e
  | inr le ↦ let e : min a b ≡ b = omega (arith, le) in ap label e ∙ two ∙ sym e
]

module _ (ties : List Tie) (i : ℕ) (ps new : List ℕ) (t : Tie) (lt_i : i < length ties)
    (is_t : get_or ties i t ≡ t) (u : AreUnited ties i ps) where
  abbrev one : ℕ
  one = u.label (exit_end t.from)

  abbrev other : ℕ
  other = u.label (entry_end t.to)

  abbrev now : ℕ → ℕ
  now = merged (min one other) (max one other) u.label

  together : Joined ties one other
  together = through ties one (exit_end t.from) other
      (back ties (exit_end t.from) one (u.joined (exit_end t.from)))
      (through ties (exit_end t.from) (entry_end t.to) other (tied ties t (i, lt_i, is_t))
      (u.joined (entry_end t.to)))

  high_low : Joined ties (max one other) (min one other)
  high_low = elim (cases_lt one other) as (λ _. Joined ties (max one other) (min one other)) [
    | inl lt ↦
        let high : other ≡ max one other = omega (arith, lt) in
        let low : one ≡ min one other = omega (arith, lt) in
        subst (λ h. Joined ties h (min one other)) high
        (subst (Joined ties other) low (back ties one other together))
    | inr le ↦
        let high : one ≡ max one other = omega (arith, le) in
        let low : other ≡ min one other = omega (arith, le) in
        subst (λ h. Joined ties h (min one other)) high (subst (Joined ties one) low together)
  ]

  now_joined : (e : ℕ) → Joined ties e (now e)
  now_joined e = elim (cases_eq (u.label e) (max one other)) as (λ _. Joined ties e (now e)) [
    | inl same ↦ subst (Joined ties e)
        (sym (ap (λ b. cond b (min one other) (u.label e))
        (eq-eqb (u.label e) (max one other) same)))
        (through ties e (max one other) (min one other) (subst (Joined ties e) same (u.joined e))
        high_low)
    | inr apart ↦ subst (Joined ties e)
        (sym (ap (λ b. cond b (min one other) (u.label e))
        (ne_eqb (u.label e) (max one other) apart))) (u.joined e)
  ]

  pub united_more : AreLabels new now → AreUnited ties (i + 1) new
  united_more labels = record {
    label = now;
    labels = labels;
    joined = now_joined;
    same = λ k s lt is. elim (cases_eq k i) as (λ _. now (exit_end s.from) ≡ now (entry_end s.to)) [
      | inl same ↦
          let this : s ≡ t = sym is ∙ ap (λ n. get_or ties n s) same
          ∙ get_or_default ties i s t lt_i ∙ is_t in
          ap (λ (x : Tie). now (exit_end x.from)) this ∙ at_low one other
          ∙ sym (at_low_too one other) ∙ sym (ap (λ (x : Tie). now (entry_end x.to)) this)
      | inr before ↦ ap (λ n. cond (eqb n (max one other)) (min one other) n)
          (u.same k s (omega (arith, lt, before)) is)
    ];
  }

-- ---- ends that are each under itself

parent-range : (n a i : ℕ) → get_or (range_with_len a n) i (a + i) ≡ a + i
parent-range zero a i = refl
parent-range (suc n) a zero = omega arith
parent-range (suc n) a (suc i) =
    let e : a + suc i ≡ a + 1 + i = omega arith in
    ap (get_or (range_with_len (a + 1) n) i) e ∙ parent-range n (a + 1) i ∙ sym e

pub own_parent : (n e : ℕ) → parent (range_with_len 0 n) e ≡ e
own_parent n e =
    let z : e ≡ 0 + e = omega arith in
    ap (get_or (range_with_len 0 n) e) z ∙ parent-range n 0 e ∙ sym z

pub none_united : (ties : List Tie) (ps : List ℕ) → ((e : ℕ) → parent ps e ≡ e) →
    AreUnited ties 0 ps
none_united ties ps own = record {
  label = λ e. e;
  labels = record { along = own; own = λ e _. refl; low = λ e. omega arith; once = λ e. refl };
  joined = λ e. here;
  same = λ k t lt. absurd (omega (arith, lt));
}

pub found : (ties : List Tie) (ps flat : List ℕ) → (u : AreUnited ties (length ties) ps) →
    ((e : ℕ) → parent flat e ≡ u.label e) → (e : ℕ) → IsLeastEnd ties e (parent flat e)
found ties ps flat u is e = subst (IsLeastEnd ties e) (sym (is e))
    (least ties u.label u.labels.low u.joined (λ t in_. u.same in_.0 t in_.1 in_.2) e)

pub least_below : (ties : List Tie) (e r : ℕ) → IsLeastEnd ties e r → r ≤ e
least_below ties e r is = is.least e here
