-- One strand more is given its path.
use Rattle.std.proofs.Common.{ℕ, ◌≡◌, ◌+◌, ◌-◌, ◌%◌, ◌<◌, ◌≤◌, min, max, Bool, true, false, not}
use Rattle.std.proofs.Common.{◌&&◌, ◌||◌, cond, eqb, leb, List, [], ◌∷◌, ◌++◌, length, get_or}
use Rattle.std.proofs.Common.{count_by, bit_or, refl, sym, ap, ◌∙◌, subst, arith, inl, inr, None}
use Rattle.std.proofs.Common.{slice_index}
use Rattle.std.specs.Prelude.{nat_lt}
use Rattle.std.specs.Int.{bit_at}
use Rattle.std.proofs.lemmas.Bool.{cases_Bool, cases_eq, cases_lt, and_parts, and_from, or_parts}
use Rattle.std.proofs.lemmas.Bool.{eqb-true, eq-eqb, ne_eqb, lt-ltb, ltb-true, leb-true, le-leb}
use Rattle.std.proofs.lemmas.Bool.{both_ways, not-false}
use Rattle.std.proofs.lemmas.List.{get_or_push, get_or_append_left, length_push}
use Rattle.std.proofs.lemmas.List.FromFn.{length-map-range_with_len, get_or-map-range_with_len}
use Rattle.std.proofs.lemmas.Nat.{and_comm, or_comm}
use Rattle.std.proofs.lemmas.Nat.Bits.{bit_at_or, bit_at-lt}
use Rattle.pra_base.specs.declared.ids.Place.{Place}
use Rattle.pra_base.specs.declared.ids.Place.TheVariants.{Mem}
use Rattle.pra_base.specs.Places.{number, allows, meet, has_register, register_of}
use Rattle.net_form.specs.declared.net.Strand.{Strand}
use Rattle.net_form.specs.declared.net.Net.{Net}
use Rattle.net_form.specs.Flow.{flow_from}
use Rattle.net_form.specs.Strands.{across}
use Rattle.net_form.specs.Admitted.{strand_at, no_strand, in_register, uses_bundle}
use Rattle.net_form.specs.Formed.{IsFormed}
use Rattle.net_form.specs.Index.{first_layer}
use Rattle.net_form.specs.InUse.{mark}
use Rattle.net_form.proofs.PathUses.{uses}
use Rattle.net_laws.specs.Homes.{HasRoom, is_there, passes, mask_in, allowed, has_home, home_of}
use Rattle.net_laws.specs.Homes.{yields_at, yields, needs_register}
use Rattle.al_laws.specs.Parts.{layer_at}
use Rattle.al_edge.specs.Choice.{busy_at, pick, place_for, path_for}
use Rattle.al_edge.proofs.Uses.{held_is, held_once, uses_at, uses_below, count_push}
use Rattle.al_edge.proofs.Picked.{picked, IsPicked}
use Rattle.al_edge.proofs.Free.{home_apart, register_number, not_full}
use Rattle.al_edge.specs.HomePaths.{IsGood, IsHomePath, IsSoFar}

-- ---- both sides of an instruction are alike

pub across_twice : (l : ℕ) → 0 < l → across (across l) ≡ l
across_twice l some = elim (cases_eq (l % 2) 1) as (λ _. across (across l) ≡ l) [
  | inl odd ↦
      let one : across l ≡ l + 1 = ap (λ t. cond t (l + 1) (l - 1)) (eq-eqb (l % 2) 1 odd) in
      ap across one ∙ ap (λ t. cond t (l + 1 + 1) (l + 1 - 1))
      (ne_eqb ((l + 1) % 2) 1 (λ e. omega (arith, e, odd)))
      ∙ (let e : l + 1 - 1 ≡ l = omega arith in e)
  | inr even ↦
      let one : across l ≡ l - 1 = ap (λ t. cond t (l + 1) (l - 1)) (ne_eqb (l % 2) 1 even) in
      ap across one ∙ ap (λ t. cond t (l - 1 + 1) (l - 1 - 1))
      (eq-eqb ((l - 1) % 2) 1 (omega (arith, even, some)))
      ∙ (let e : l - 1 + 1 ≡ l = omega (arith, some) in e)
]

across_some : (l : ℕ) → 0 < l → 0 < across l
across_some l some = elim (cases_eq (l % 2) 1) as (λ _. 0 < across l) [
  | inl odd ↦ let one : across l ≡ l + 1 = ap (λ t. cond t (l + 1) (l - 1))
      (eq-eqb (l % 2) 1 odd) in omega (arith, one)
  | inr even ↦ let one : across l ≡ l - 1 = ap (λ t. cond t (l + 1) (l - 1))
      (ne_eqb (l % 2) 1 even) in omega (arith, one, even, some)
]

module _ (net : Net) (regs : List ℕ) (s l : ℕ) (there : is_there (strand_at net s) l ≡ true)
    (pass : passes (strand_at net s) l ≡ true) where
  abbrev u : Strand
  u = strand_at net s

  some : 0 < l
  some = ltb-true 0 l (and_parts (nat_lt 0 l) (is_there u (across l)) pass).0

  back : across (across l) ≡ l
  back = across_twice l some

  passes_back : passes u (across l) ≡ true
  passes_back = and_from (nat_lt 0 (across l)) (is_there u (across (across l)))
      (lt-ltb 0 (across l) (across_some l some)) (ap (is_there u) back ∙ there)

  same_mask : allowed u l ≡ allowed u (across l)
  same_mask =
      ap (λ t. cond t (meet (mask_in u l) (mask_in u (across l))) (mask_in u l)) pass
      ∙ and_comm (mask_in u l) (mask_in u (across l))
      ∙ ap (λ k. meet (mask_in u (across l)) (mask_in u k)) (sym back)
      ∙ sym (ap (λ t. cond t (meet (mask_in u (across l)) (mask_in u (across (across l))))
      (mask_in u (across l))) passes_back)

  same_yield : yields net s l ≡ yields net s (across l)
  same_yield =
      ap (λ t. yields_at net s l || (t && yields_at net s (across l))) pass
      ∙ swap (yields_at net s l) (yields_at net s (across l))
      ∙ ap (λ k. yields_at net s (across l) || yields_at net s k) (sym back)
      ∙ sym (ap (λ t. yields_at net s (across l) || (t && yields_at net s (across (across l))))
      passes_back)
    where
      swap : (x y : Bool) → (x || y) ≡ (y || x)
      swap true true = refl
      swap true false = refl
      swap false true = refl
      swap false false = refl

  same_need : needs_register net s l ≡ needs_register net s (across l)
  same_need = ap (λ m. not (allows m (number (home_of u))) || (not u.constant && yields net s l))
      same_mask
      ∙ ap (λ t. not (has_home u (across l)) || (not u.constant && t)) same_yield

  same_busy : busy_at net regs s l ≡ busy_at net regs s (across l)
  same_busy =
      let at : ℕ → ℕ = λ k. slice_index regs (layer_at net s k) in
      ap (λ t. cond t (bit_or (at l) (at (across l))) (at l)) pass
      ∙ or_comm (at l) (at (across l))
      ∙ ap (λ k. bit_or (at (across l)) (at k)) (sym back)
      ∙ sym (ap (λ t. cond t (bit_or (at (across l)) (at (across (across l)))) (at (across l)))
      passes_back)

  pub same_place_for : place_for net regs s l ≡ place_for net regs s (across l)
  same_place_for =
      ap (λ t. cond t (pick (allowed u l) (busy_at net regs s l)) (home_of u)) same_need
      ∙ ap (λ m. cond (needs_register net s (across l)) (pick m (busy_at net regs s l)) (home_of u))
      same_mask
      ∙ ap (λ b. cond (needs_register net s (across l)) (pick (allowed u (across l)) b) (home_of u))
      same_busy

-- ---- the path

module _ (net : Net) (formed : IsFormed net) (room : HasRoom net) (rs : List (List Place))
    (regs : List ℕ)
    (marks : (n r : ℕ) → mark regs n r ≡ count_by (uses_bundle net n r)
    (flow_from 0 net.strands rs))
    (placed : (x : ℕ) → x < length rs → IsHomePath net x (get_or rs x [])) (s : ℕ)
    (s_lt : s < length net.strands) (count : length rs ≡ s) where
  abbrev t : Strand
  t = strand_at net s

  abbrev path : List Place
  path = path_for net regs s

  pick_at : (l : ℕ) → is_there t l ≡ true → needs_register net s l ≡ true →
      IsPicked (allowed t l) (busy_at net regs s l) (pick (allowed t l) (busy_at net regs s l))
  pick_at l there need = elim (picked (allowed t l) (busy_at net regs s l))
      as (λ _. IsPicked (allowed t l) (busy_at net regs s l)
      (pick (allowed t l) (busy_at net regs s l))) [
        | inl p ↦ p
        | inr full ↦ absurd (not_full net formed room rs regs marks placed s l s_lt
            (omega (arith, count)) there need full)
      ]

  is_pick : (l : ℕ) → needs_register net s l ≡ true → place_for net regs s l ≡ pick (allowed t l)
      (busy_at net regs s l)
  is_pick l need = ap (λ b. cond b (pick (allowed t l) (busy_at net regs s l)) (home_of t)) need

  is_home : (l : ℕ) → needs_register net s l ≡ false → place_for net regs s l ≡ home_of t
  is_home l no_ = ap (λ b. cond b (pick (allowed t l) (busy_at net regs s l)) (home_of t)) no_

  good_at : (l : ℕ) → is_there t l ≡ true → IsGood net s l (place_for net regs s l)
  good_at l there = elim (cases_Bool (needs_register net s l))
      as (λ _. IsGood net s l (place_for net regs s l)) [
        | inl need ↦ let p = pick_at l there need in subst (IsGood net s l) (sym (is_pick l need))
            (record {
              inside = p.allowed;
              kept = λ no_. absurd (both_ways (needs_register net s l) no_ need);
              moved = λ _. p.register;
            })
        | inr no_ ↦ subst (IsGood net s l) (sym (is_home l no_)) (record {
          inside = not-false (has_home t l)
              (or_parts (not (has_home t l)) (not t.constant && yields net s l) no_).0;
          kept = λ _. refl;
          moved = λ need. absurd (both_ways (needs_register net s l) no_ need);
        })
      ]

  free_at : (l r : ℕ) → is_there t l ≡ true → in_register r (place_for net regs s l) ≡ true →
      mark regs (layer_at net s l) r ≡ 0
  free_at l r there is =
      let p = place_for net regs s l in
      let parts = and_parts (has_register (number p)) (eqb (register_of (number p)) r) is in
      elim (cases_Bool (needs_register net s l)) as (λ _. mark regs (layer_at net s l) r ≡ 0) [
        | inr no_ ↦ absurd (both_ways (has_register (number p))
            (ap (λ q. has_register (number q)) (is_home l no_) ∙ home_apart t) parts.0)
        | inl need ↦
            let g = pick_at l there need in
            let same = is_pick l need in
            let at_r : number (pick (allowed t l) (busy_at net regs s l)) ≡ r =
            sym (register_number (number (pick (allowed t l) (busy_at net regs s l)))
            g.register) ∙ sym (ap (λ q. register_of (number q)) same)
            ∙ eqb-true (register_of (number p)) r parts.1 in
            let one = slice_index regs (layer_at net s l) in
            let small = bit_at-lt one r in
            let not_one : bit_at one r ≡ 1 → ⊥ =
            λ e. g.free (ap (bit_at (busy_at net regs s l)) at_r ∙ busy (passes t l) one
            (slice_index regs (layer_at net s (across l))) r e) in
            omega (arith, small, not_one)
      ]
    where
      busy : (b : Bool) (one two r : ℕ) → bit_at one r ≡ 1 →
          bit_at (cond b (bit_or one two) one) r ≡ 1
      busy true one two r e = bit_at_or one two r
          ∙ (let small = bit_at-lt two r in let m : max (bit_at one r) (bit_at two r) ≡ 1 =
          omega (arith, e, small) in m)
      busy false one two r e = e

  bounds : (l : ℕ) → is_there t l ≡ true → (t.first ≤ l) × (l ≤ t.last)
  bounds l at = let p = and_parts (leb t.first l) (leb l t.last) at in
      (leb-true t.first l p.0, leb-true l t.last p.1)

  masks_long : t.first + length t.masks ≡ t.last + 1
  masks_long = (formed.strands s no_strand s_lt).masks

  path_at : (l : ℕ) → is_there t l ≡ true → get_or path (l - t.first) Mem ≡ place_for net regs s l
  path_at l there =
      let b = bounds l there in
      let lo = b.0 in
      let hi = b.1 in
      let long = masks_long in
      get_or-map-range_with_len (place_for net regs s) t.first (length t.masks) (l - t.first) l Mem
      (omega (arith, lo, hi, long)) (omega (arith, lo))

  path_long : length path ≡ length t.masks
  path_long = length-map-range_with_len (place_for net regs s) t.first (length t.masks)

  pub path_placed : IsHomePath net s path
  path_placed = record {
    long = let a = path_long in let b = masks_long in omega (arith, a, b);
    good = λ l there. subst (IsGood net s l) (sym (path_at l there)) (good_at l there);
    stays = λ l there pass. path_at l there ∙ same_place_for net regs s l there pass
        ∙ sym (path_at (across l) (and_parts (nat_lt 0 l) (is_there t (across l)) pass).1);
  }

  path_free : (n r : ℕ) → 0 < uses net n r s t.first None path → mark regs n r ≡ 0
  path_free n r used =
      let base = first_layer net.blocks t.block.0 in
      elim (cases_lt n base) as (λ _. mark regs n r ≡ 0) [
        | inl below ↦ absurd (let none = uses_below net s r None path n t.first below in
            omega (arith, none, used))
        | inr from ↦
            let l = n - base in
            let e : n ≡ base + l = omega (arith, from) in
            let same = sym (ap (λ n. uses net n r s t.first None path) e) in
            let at = uses_at net s r None path l t.first in
            let h = held_is (in_register r) path t.first l (omega (arith, same, at, used)) in
            let after = h.after in
            let before = h.before in
            let a = path_long in
            let b = masks_long in
            let there : is_there t l ≡ true = and_from (leb t.first l) (leb l t.last)
            (le-leb t.first l after) (le-leb l t.last (omega (arith, before, a, b))) in
            ap (λ n. mark regs n r) e ∙ free_at l r there
            (ap (in_register r) (sym (path_at l there)) ∙ h.is)
      ]

  path_once : (n r : ℕ) → uses net n r s t.first None path ≤ 1
  path_once n r =
      let base = first_layer net.blocks t.block.0 in
      elim (cases_lt n base) as (λ _. uses net n r s t.first None path ≤ 1) [
        | inl below ↦ let none = uses_below net s r None path n t.first below in omega (arith, none)
        | inr from ↦
            let l = n - base in
            let e : n ≡ base + l = omega (arith, from) in
            let same = ap (λ n. uses net n r s t.first None path) e in
            let at = uses_at net s r None path l t.first in
            let few = held_once (in_register r) path t.first l in
            omega (arith, same, at, few)
      ]

  pub marks_more : (new : List ℕ) →
      ((n r : ℕ) → mark new n r ≡ min 1 (mark regs n r + uses net n r s t.first None path))
      → (n r : ℕ) → mark new n r ≡ count_by (uses_bundle net n r)
      (flow_from 0 net.strands (rs ++ path ∷ []))
  marks_more new said n r =
      let is = said n r in
      let was = marks n r in
      let more = count_push (uses_bundle net n r) net.strands rs path no_strand s count s_lt in
      let once = path_once n r in
      let small = bit_at-lt (slice_index regs n) r in
      elim (cases_lt 0 (uses net n r s t.first None path)) as (λ _. mark new n r ≡
      count_by (uses_bundle net n r) (flow_from 0 net.strands (rs ++ path ∷ []))) [
        | inl used ↦ let free = path_free n r used in omega (arith, is, was, more, once, free)
        | inr none ↦ omega (arith, is, was, more, none, small)
      ]

  pub placed_more : (x : ℕ) → x < length (rs ++ path ∷ []) →
      IsHomePath net x (get_or (rs ++ path ∷ []) x [])
  placed_more x lt = elim (cases_eq x (length rs))
      as (λ _. IsHomePath net x (get_or (rs ++ path ∷ []) x [])) [
        | inl last ↦ subst (IsHomePath net x) (sym (get_or_push rs path [] x (sym last)))
            (subst (λ x. IsHomePath net x path) (sym (last ∙ count)) path_placed)
        | inr other ↦
            let long = length_push rs path in
            let small : x < length rs = omega (arith, lt, long, other) in
            subst (IsHomePath net x) (sym (get_or_append_left rs (path ∷ []) [] x small))
            (placed x small)
      ]

-- one more, in all
pub so_far_more : (net : Net) (formed : IsFormed net) (room : HasRoom net) (rs : List (List Place))
    (regs new : List ℕ) (s : ℕ) (path : List Place) → s < length net.strands
    → IsSoFar net regs rs s → path ≡ path_for net regs s → length new ≡ length regs
    → ((n r : ℕ) → mark new n r ≡
    min 1 (mark regs n r + uses net n r s (strand_at net s).first None path)) →
    IsSoFar net new (rs ++ path ∷ []) (s + 1)
so_far_more net formed room rs regs new s path s_lt so is long said =
    subst (λ ps. IsSoFar net new (rs ++ ps ∷ []) (s + 1)) (sym is) (record {
      room = long ∙ so.room;
      count = let n = length_push rs (path_for net regs s) in let m = so.count in
          omega (arith, n, m);
      marks = marks_more net formed room rs regs so.marks so.placed s s_lt so.count new
          (λ n r. subst (λ ps. mark new n r ≡
          min 1 (mark regs n r + uses net n r s (strand_at net s).first None ps)) is
          (said n r));
      placed = placed_more net formed room rs regs so.marks so.placed s s_lt so.count;
    })
