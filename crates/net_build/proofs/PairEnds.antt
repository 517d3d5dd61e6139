-- The ends of memory pairs by strand and layer are those by their owners.
use Rattle.std.proofs.Common.{ℕ, zero, suc, ◌≡◌, ◌+◌, ◌*◌, ◌/◌, ◌%◌, ◌<◌, ◌≤◌, ◌⊎◌, inl, inr, Bool}
use Rattle.std.proofs.Common.{true, false, cond, eqb, ◌&&◌, ◌||◌, List, [], ◌∷◌, ◌++◌, map, length}
use Rattle.std.proofs.Common.{get_or, Some, None, Option, option_to_list, refl, sym, ap, ◌∙◌, subst}
use Rattle.std.proofs.Common.{arith, append_assoc}
use Rattle.std.specs.List.{range_with_len, flat_map, filter_map, cons_option}
use Rattle.std.proofs.lemmas.Bool.{cases_eq, eq-eqb, ne_eqb, false_from_ne_true}
use Rattle.std.proofs.lemmas.List.{map-append}
use Rattle.pra_list.proofs.Truths.{or_none}
use Rattle.net_form.specs.declared.net.Strand.{Strand}
use Rattle.net_form.specs.declared.net.MemPair.{MemPair}
use Rattle.net_form.specs.Admitted.{no_strand}
use Rattle.net_form.specs.Index.{OwnedEnd, is_end, ends_at, owned_ends}
use Rattle.net_build.specs.Owners.{owner_of, if_owned, owned, by_owner, end_owners, pair_end}
use Rattle.net_build.specs.Owners.{ArePairs}
use Rattle.net_form.specs.InUse.{no_pair}
use Rattle.net_build.proofs.Comprehended.{filter_map-map, flat_map-map, map-flat_map, by_number}
use Rattle.net_build.proofs.Comprehended.{flat_map-agree, filter_map-empty, flat_map-empty}
use Rattle.net_build.proofs.Ranges.{filter_map_more}

-- ---- the owners of ends

pub left_at : (ps : List MemPair) (k : ℕ) → owner_of (end_owners ps) (2 * k) ≡
    (get_or ps k no_pair).left
left_at [] k = refl
left_at (m ∷ ms) zero = refl
left_at (m ∷ ms) (suc k) =
    let e : 2 * suc k ≡ suc (suc (2 * k)) = omega arith in
    ap (owner_of (end_owners (m ∷ ms))) e ∙ left_at ms k

pub right_at : (ps : List MemPair) (k : ℕ) → owner_of (end_owners ps) (2 * k + 1) ≡
    (get_or ps k no_pair).right
right_at [] k = refl
right_at (m ∷ ms) zero = refl
right_at (m ∷ ms) (suc k) =
    let e : 2 * suc k + 1 ≡ suc (suc (2 * k + 1)) = omega arith in
    ap (owner_of (end_owners (m ∷ ms))) e ∙ right_at ms k

pub count_of : (ps : List MemPair) → length (end_owners ps) ≡ 2 * length ps
count_of [] = refl
count_of (m ∷ ms) = let more = count_of ms in omega (arith, more)

-- ---- an end at one layer, put in front of ends at higher layers

module _ {Y : Type 0} (e : ℕ → Y) (at : ℕ) (f : ℕ → List Y) where
  abbrev pub with_end : ℕ → List Y
  with_end l = cons_option (cond (eqb l at) (Some (e l)) None) (f l)

  elsewhere : (l : ℕ) → (l ≡ at → ⊥) → with_end l ≡ f l
  elsewhere l other = ap (λ t. cons_option (cond t (Some (e l)) None) (f l)) (ne_eqb l at other)

  pub put_in : (n a : ℕ) → a ≤ at → at < a + n → ((l : ℕ) → l < at → f l ≡ []) →
      flat_map with_end (range_with_len a n) ≡ e at ∷ flat_map f (range_with_len a n)
  put_in zero a ge lt none = absurd (omega (arith, ge, lt))
  put_in (suc n) a ge lt none =
      elim (cases_eq a at) as (λ _. with_end a ++ flat_map with_end (range_with_len (a + 1) n) ≡
      e at ∷ (f a ++ flat_map f (range_with_len (a + 1) n))) [
        | inl same ↦
            ap (λ t. cons_option (cond t (Some (e a)) None) (f a) ++ flat_map with_end
            (range_with_len (a + 1) n)) (eq-eqb a at same)
            ∙ ap (λ r. e a ∷ (f a ++ r))
            (flat_map-agree with_end f n (a + 1)
            (λ l le _. elsewhere l (λ is. omega (arith, is, same, le))))
            ∙ ap (λ l. e l ∷ (f a ++ flat_map f (range_with_len (a + 1) n))) same
        | inr other ↦
            let empty = none a (omega (arith, ge, other)) in
            ap (λ r. r ++ flat_map with_end (range_with_len (a + 1) n)) (elsewhere a other ∙ empty)
            ∙ put_in n (a + 1) (omega (arith, ge, other)) (omega (arith, lt)) none
            ∙ ap (λ r. e at ∷ (r ++ flat_map f (range_with_len (a + 1) n))) (sym empty)
      ]

-- ---- the ends that belong to one strand

module _ (ss : List Strand) (ps : List MemPair) (are : ArePairs ss ps) (s : ℕ)
    (lt_s : s < length ss) where
  abbrev pair_at : ℕ → MemPair
  pair_at k = get_or ps k no_pair

  abbrev end_at : ℕ → ℕ → OwnedEnd
  end_at l k = record { strand = s; at = record { layer = l; pair = k } }

  -- the strand's end of a pair
  abbrev pub end_in : ℕ → Option OwnedEnd
  end_in k =
      cond (eqb (pair_at k).left s) (Some (end_at (pair_at k).left_layer k))
      (cond (eqb (pair_at k).right s) (Some (end_at (pair_at k).right_layer k)) None)

  abbrev pub named : ℕ → OwnedEnd
  named e = record { strand = owner_of (end_owners ps) e; at = pair_end ps e }

  abbrev ifs : ℕ → Option ℕ
  ifs e = if_owned (end_owners ps) s e

  named_left : (k : ℕ) → (pair_at k).left ≡ s → named (2 * k) ≡ end_at (pair_at k).left_layer k
  named_left k same =
      let half : (2 * k) / 2 ≡ k = omega arith in
      let even : (2 * k) % 2 ≡ 0 = omega arith in
      (λ i. record {
        strand = (left_at ps k ∙ same) i;
        at =
            record {
              layer = cond (eqb (even i) 0) (get_or ps (half i) no_pair).left_layer
                  (get_or ps (half i) no_pair).right_layer;
              pair = half i;
            };
      })

  named_right : (k : ℕ) → (pair_at k).right ≡ s → named (2 * k + 1) ≡
      end_at (pair_at k).right_layer k
  named_right k same =
      let half : (2 * k + 1) / 2 ≡ k = omega arith in
      let odd : (2 * k + 1) % 2 ≡ 1 = omega arith in
      (λ i. record {
        strand = (right_at ps k ∙ same) i;
        at =
            record {
              layer = cond (eqb (odd i) 0) (get_or ps (half i) no_pair).left_layer
                  (get_or ps (half i) no_pair).right_layer;
              pair = half i;
            };
      })

  two_ends : (k : ℕ) → k < length ps → map named (option_to_list (ifs (2 * k)))
      ++ map named (option_to_list (ifs (2 * k + 1))) ≡ option_to_list (end_in k)
  two_ends k lt = by (cases_eq (pair_at k).left s) (cases_eq (pair_at k).right s)
    where
      left_is : (t : Bool) → eqb (pair_at k).left s ≡ t → ifs (2 * k) ≡ cond t (Some (2 * k)) None
      left_is t is = ap (λ (o : ℕ). cond (eqb o s) (Some (2 * k)) None) (left_at ps k)
          ∙ ap (λ u. cond u (Some (2 * k)) None) is

      right_is : (t : Bool) → eqb (pair_at k).right s ≡ t → ifs (2 * k + 1) ≡
          cond t (Some (2 * k + 1)) None
      right_is t is = ap (λ (o : ℕ). cond (eqb o s) (Some (2 * k + 1)) None) (right_at ps k)
          ∙ ap (λ u. cond u (Some (2 * k + 1)) None) is

      both : (t u : Bool) → eqb (pair_at k).left s ≡ t → eqb (pair_at k).right s ≡ u
          → map named (option_to_list (ifs (2 * k))) ++ map named (option_to_list (ifs (2 * k + 1)))
          ≡ map named (option_to_list (cond t (Some (2 * k)) None))
          ++ map named (option_to_list (cond u (Some (2 * k + 1)) None))
      both t u one two =
          ap (λ o. map named (option_to_list o) ++ map named (option_to_list (ifs (2 * k + 1))))
          (left_is t one)
          ∙ ap (λ o. map named (option_to_list (cond t (Some (2 * k)) None))
          ++ map named (option_to_list o)) (right_is u two)

      ends : (t u : Bool) → eqb (pair_at k).left s ≡ t → eqb (pair_at k).right s ≡ u
          → end_in k ≡ cond t (Some (end_at (pair_at k).left_layer k))
          (cond u (Some (end_at (pair_at k).right_layer k)) None)
      ends t u one two = (λ i. cond (one i) (Some (end_at (pair_at k).left_layer k))
          (cond (two i) (Some (end_at (pair_at k).right_layer k)) None))

      by : ((pair_at k).left ≡ s) ⊎ ((pair_at k).left ≡ s → ⊥) → ((pair_at k).right ≡ s) ⊎
          ((pair_at k).right ≡ s → ⊥)
          → map named (option_to_list (ifs (2 * k)))
          ++ map named (option_to_list (ifs (2 * k + 1))) ≡ option_to_list (end_in k)
      by (inl l) (inl r) =
          let past = (are.each k no_pair lt).apart (l ∙ sym r) in
          absurd (omega (arith, past, l, lt_s))
      by (inl l) (inr not_r) =
          both true false (eq-eqb _ s l) (ne_eqb _ s not_r) ∙ ap (λ e. e ∷ []) (named_left k l)
          ∙ sym (ap option_to_list (ends true false (eq-eqb _ s l) (ne_eqb _ s not_r)))
      by (inr not_l) (inl r) =
          both false true (ne_eqb _ s not_l) (eq-eqb _ s r) ∙ ap (λ e. e ∷ []) (named_right k r)
          ∙ sym (ap option_to_list (ends false true (ne_eqb _ s not_l) (eq-eqb _ s r)))
      by (inr not_l) (inr not_r) =
          both false false (ne_eqb _ s not_l) (ne_eqb _ s not_r)
          ∙ sym (ap option_to_list (ends false false (ne_eqb _ s not_l) (ne_eqb _ s not_r)))

  first_ends : (n : ℕ) → n ≤ length ps → map named (filter_map ifs (range_with_len 0 (2 * n))) ≡
      filter_map end_in (range_with_len 0 n)
  first_ends zero le = refl
  first_ends (suc n) le =
      let e : 2 * suc n ≡ 2 * n + 1 + 1 = omega arith in
      let a : suc n ≡ n + 1 = omega arith in
      let front = filter_map ifs (range_with_len 0 (2 * n)) in
      ap (λ k. map named (filter_map ifs (range_with_len 0 k))) e
      ∙ ap (map named) (filter_map_more ifs (2 * n + 1)
      ∙ ap (λ r. r ++ option_to_list (ifs (2 * n + 1))) (filter_map_more ifs (2 * n)))
      ∙ map-append named (front ++ option_to_list (ifs (2 * n))) (option_to_list (ifs (2 * n + 1)))
      ∙ ap (λ r. r ++ map named (option_to_list (ifs (2 * n + 1))))
      (map-append named front (option_to_list (ifs (2 * n))))
      ∙ append_assoc (map named front) (map named (option_to_list (ifs (2 * n))))
      (map named (option_to_list (ifs (2 * n + 1))))
      ∙ ap (λ r. map named front ++ r) (two_ends n (omega (arith, le)))
      ∙ ap (λ r. r ++ option_to_list (end_in n)) (first_ends n (omega (arith, le)))
      ∙ sym (filter_map_more end_in n)
      ∙ sym (ap (λ k. filter_map end_in (range_with_len 0 k)) a)

  all_ends : map named (owned (end_owners ps) s) ≡ filter_map end_in (range_with_len 0 (length ps))
  all_ends = ap (λ n. map named (filter_map ifs (range_with_len 0 n))) (count_of ps)
      ∙ first_ends (length ps) (omega arith)

  -- ---- the same ends by layers

  abbrev at_layer : ℕ → ℕ → Option OwnedEnd
  at_layer l k = cond (is_end s l (pair_at k)) (Some (end_at l k)) None

  -- where the strand's end is at layer a
  abbrev IsAt : ℕ → ℕ → Type 0
  IsAt k a = (l : ℕ) → is_end s l (pair_at k) ≡ eqb l a

  swapped : (a b : ℕ) → eqb a b ≡ eqb b a
  swapped a b = elim (cases_eq a b) as (λ _. eqb a b ≡ eqb b a) [
    | inl same ↦ eq-eqb a b same ∙ sym (eq-eqb b a (sym same))
    | inr other ↦ ne_eqb a b other ∙ sym (ne_eqb b a (λ e. other (sym e)))
  ]

  is_end_by : (t u : Bool) (k l : ℕ) → eqb (pair_at k).left s ≡ t → eqb (pair_at k).right s ≡ u
      → is_end s l (pair_at k) ≡
      ((t && eqb (pair_at k).left_layer l) || (u && eqb (pair_at k).right_layer l))
  is_end_by t u k l one two =
      (λ i. (one i && eqb (pair_at k).left_layer l) || (two i && eqb (pair_at k).right_layer l))

  end_in_by : (t u : Bool) (k : ℕ) → eqb (pair_at k).left s ≡ t → eqb (pair_at k).right s ≡ u
      → end_in k ≡ cond t (Some (end_at (pair_at k).left_layer k))
      (cond u (Some (end_at (pair_at k).right_layer k)) None)
  end_in_by t u k one two =
      (λ i. cond (one i) (Some (end_at (pair_at k).left_layer k))
      (cond (two i) (Some (end_at (pair_at k).right_layer k)) None))

  module _ (t : Strand) (is_t : get_or ss s no_strand ≡ t) where
    data EndOf (k : ℕ) : Type 0 where
      none : end_in k ≡ None → ((l : ℕ) → is_end s l (pair_at k) ≡ false) → EndOf k
      one : (a : ℕ) → end_in k ≡ Some (end_at a k) → IsAt k a → t.first ≤ a → a ≤ t.last → EndOf k

    end_of : (k : ℕ) → k < length ps → EndOf k
    end_of k lt = by (cases_eq (pair_at k).left s) (cases_eq (pair_at k).right s)
      where
        by : ((pair_at k).left ≡ s) ⊎ ((pair_at k).left ≡ s → ⊥) → ((pair_at k).right ≡ s) ⊎
            ((pair_at k).right ≡ s → ⊥) → EndOf k
        by (inl l) (inl r) =
            let past = (are.each k no_pair lt).apart (l ∙ sym r) in
            absurd (omega (arith, past, l, lt_s))
        by (inl l) (inr not_r) =
            let p = eq-eqb (pair_at k).left s l in
            let q = ne_eqb (pair_at k).right s not_r in
            let there = (are.each k no_pair lt).left no_strand (omega (arith, l, lt_s)) in
            let it : get_or ss (pair_at k).left no_strand ≡ t =
            ap (λ (n : ℕ). get_or ss n no_strand) l ∙ is_t in
            one (pair_at k).left_layer (end_in_by true false k p q)
            (λ x. is_end_by true false k x p q ∙ or_none (eqb (pair_at k).left_layer x)
            ∙ swapped (pair_at k).left_layer x)
            (subst (λ (u : Strand). u.first ≤ (pair_at k).left_layer) it there.0)
            (subst (λ (u : Strand). (pair_at k).left_layer ≤ u.last) it there.1)
        by (inr not_l) (inl r) =
            let p = ne_eqb (pair_at k).left s not_l in
            let q = eq-eqb (pair_at k).right s r in
            let there = (are.each k no_pair lt).right no_strand (omega (arith, r, lt_s)) in
            let it : get_or ss (pair_at k).right no_strand ≡ t =
            ap (λ (n : ℕ). get_or ss n no_strand) r ∙ is_t in
            one (pair_at k).right_layer (end_in_by false true k p q)
            (λ x. is_end_by false true k x p q ∙ swapped (pair_at k).right_layer x)
            (subst (λ (u : Strand). u.first ≤ (pair_at k).right_layer) it there.0)
            (subst (λ (u : Strand). (pair_at k).right_layer ≤ u.last) it there.1)
        by (inr not_l) (inr not_r) =
            let p = ne_eqb (pair_at k).left s not_l in
            let q = ne_eqb (pair_at k).right s not_r in
            none (end_in_by false false k p q) (λ x. is_end_by false false k x p q)

    abbrev later : ℕ → ℕ → ℕ → List OwnedEnd
    later n a l = filter_map (at_layer l) (range_with_len (a + 1) n)

    by_layers : (n a count : ℕ) → a + n ≡ length ps → t.first + count ≡ t.last + 1
        → filter_map end_in (range_with_len a n) ≡
        flat_map (λ l. filter_map (at_layer l) (range_with_len a n))
        (range_with_len t.first count)
    by_layers zero a count all masks =
        sym (flat_map-empty (λ l. filter_map (at_layer l) (range_with_len a zero)) (λ l. refl)
        (range_with_len t.first count))
    by_layers (suc n) a count all masks = by (end_of a (omega (arith, all)))
        (by_layers n (a + 1) count (omega (arith, all)) masks)
      where
        -- ends of later pairs are at higher layers
        higher : (x : ℕ) → IsAt a x → (l : ℕ) → l < x → later n a l ≡ []
        higher x at l lt = filter_map-empty (at_layer l) n (a + 1)
            (λ k ge lt_k. ap (λ b. cond b (Some (end_at l k)) None)
            (false_from_ne_true (is_end s l (pair_at k)) (λ yes.
            let after = are.order a k no_pair (omega (arith, ge)) (omega (arith, lt_k, all)) s x l
            lt_s (at x ∙ eq-eqb x x refl) yes in
            absurd (omega (arith, after, lt)))))

        by : EndOf a → filter_map end_in (range_with_len (a + 1) n) ≡ flat_map (later n a)
            (range_with_len t.first count)
            → cons_option (end_in a) (filter_map end_in (range_with_len (a + 1) n)) ≡
            flat_map (λ l. cons_option (at_layer l a) (later n a l))
            (range_with_len t.first count)
        by (none nothing nowhere) rest =
            ap (λ o. cons_option o (filter_map end_in (range_with_len (a + 1) n))) nothing ∙ rest
            ∙ sym (flat_map-agree (λ l. cons_option (at_layer l a) (later n a l)) (later n a) count
            t.first (λ l _ _. ap (λ b. cons_option (cond b (Some (end_at l a)) None)
            (later n a l)) (nowhere l)))
        by (one x is at low high) rest =
            ap (λ o. cons_option o (filter_map end_in (range_with_len (a + 1) n))) is
            ∙ ap (λ r. end_at x a ∷ r) rest
            ∙ sym (put_in (λ l. end_at l a) x (later n a) count t.first low
            (omega (arith, high, masks)) (higher x at))
            ∙ sym (flat_map-agree (λ l. cons_option (at_layer l a) (later n a l))
            (with_end (λ l. end_at l a) x (later n a)) count t.first
            (λ l _ _. ap (λ b. cons_option (cond b (Some (end_at l a)) None) (later n a l))
            (at l)))

  ends_by_number : (l : ℕ) → ends_at ps s l ≡ filter_map (at_layer l) (range_with_len 0 (length ps))
  ends_by_number l =
      ap (filter_map (λ m. cond (is_end s l m.1) (Some (end_at l m.0)) None)) (by_number no_pair ps)
      ∙ filter_map-map (λ m. cond (is_end s l m.1) (Some (end_at l m.0)) None) (λ k. (k, pair_at k))
      (range_with_len 0 (length ps))

  pub strand_ends : (get_or ss s no_strand).first + length (get_or ss s no_strand).masks ≡
      (get_or ss s no_strand).last + 1
      → map named (owned (end_owners ps) s) ≡ flat_map (ends_at ps s)
      (range_with_len (get_or ss s no_strand).first (length (get_or ss s no_strand).masks))
  strand_ends masks =
      let t = get_or ss s no_strand in
      all_ends
      ∙ by_layers t refl (length ps) 0 (length t.masks)
      (let e : 0 + length ps ≡ length ps = omega arith in e) masks
      ∙ sym (flat_map-agree (ends_at ps s)
      (λ l. filter_map (at_layer l) (range_with_len 0 (length ps))) (length t.masks) t.first
      (λ l _ _. ends_by_number l))

-- all ends
pub ends_are : (ss : List Strand) (ps : List MemPair) → ArePairs ss ps
    → ((k : ℕ) → k < length ss → (get_or ss k no_strand).first + length
    (get_or ss k no_strand).masks ≡ (get_or ss k no_strand).last + 1)
    → owned_ends ps ss ≡ map
    (λ e. record { strand = owner_of (end_owners ps) e; at = pair_end ps e })
    (by_owner (end_owners ps) (length ss))
ends_are ss ps are masks =
    let of_strand : ℕ × Strand → List OwnedEnd = λ s. flat_map (ends_at ps s.0)
    (range_with_len s.1.first (length s.1.masks)) in
    let name : ℕ → OwnedEnd =
    λ e. record { strand = owner_of (end_owners ps) e; at = pair_end ps e } in
    ap (flat_map of_strand) (by_number no_strand ss)
    ∙ flat_map-map of_strand (λ k. (k, get_or ss k no_strand)) (range_with_len 0 (length ss))
    ∙ sym (flat_map-agree (λ k. map name (owned (end_owners ps) k))
    (λ k. of_strand (k, get_or ss k no_strand)) (length ss) 0
    (λ k _ lt. let lt_k : k < length ss = omega (arith, lt) in strand_ends ss ps are k lt_k
    (masks k lt_k)))
    ∙ sym (map-flat_map name (owned (end_owners ps)) (range_with_len 0 (length ss)))
