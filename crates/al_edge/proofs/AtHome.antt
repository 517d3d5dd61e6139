-- Strands that are at home at all their layers.
use Rattle.std.proofs.Common.{ℕ, zero, suc, ◌≡◌, ◌+◌, ◌-◌, ◌<◌, ◌≤◌, Bool, true, false, not, ◌&&◌}
use Rattle.std.proofs.Common.{◌||◌, cond, eqb, leb, List, [], ◌∷◌, ◌++◌, length, map, get_or}
use Rattle.std.proofs.Common.{replicate, refl, sym, ap, ◌∙◌, arith, inl, inr, None, slice_index}
use Rattle.std.specs.Prelude.{nat_lt}
use Rattle.std.specs.List.{list_all, range_with_len}
use Rattle.std.proofs.lemmas.Bool.{cases_Bool, cases_lt, and_parts, and_left, and_right, both_ways}
use Rattle.std.proofs.lemmas.Bool.{and_from, le-leb}
use Rattle.std.proofs.lemmas.List.{length-replicate, get_or-replicate}
use Rattle.std.proofs.lemmas.List.Sums.{AllPass-from_list_all}
use Rattle.std.proofs.lemmas.Nat.Bits.{bit_at-lt}
use Rattle.pra_base.specs.declared.ids.Place.{Place}
use Rattle.pra_base.specs.declared.ids.Place.TheVariants.{Mem}
use Rattle.pra_base.specs.Places.{number, allows, meet, has_register, register_of}
use Rattle.net_form.specs.declared.net.Strand.{Strand}
use Rattle.net_form.specs.declared.net.Net.{Net}
use Rattle.net_form.specs.Strands.{across}
use Rattle.net_form.specs.Admitted.{strand_at, no_strand, in_register}
use Rattle.net_form.specs.Formed.{IsFormed}
use Rattle.net_form.specs.Index.{first_layer}
use Rattle.net_form.proofs.PathUses.{uses}
use Rattle.net_laws.specs.Homes.{HasRoom, is_there, passes, mask_in, allowed, has_home}
use Rattle.net_laws.specs.Homes.{home_of, yields_at, yields, needs_register}
use Rattle.net_laws.proofs.Bits.{both_allow}
use Rattle.al_edge.specs.Choice.{busy_at, pick, place_for, path_for}
use Rattle.al_edge.specs.HomePaths.{IsSoFar}
use Rattle.al_edge.specs.Yielding.{IsTable, row_of}
use Rattle.al_edge.proofs.Free.{home_apart}
use Rattle.al_edge.proofs.Step.{so_far_more}
use Rattle.al_edge.proofs.Tables.{bounds, entry}
use Rattle.al_edge.proofs.Uses.{held, held_is, uses_at, uses_below}

-- ---- whose home is in all its masks

module _ (net : Net) (s : ℕ) where
  abbrev mine : Strand
  mine = strand_at net s

  abbrev is_in : ℕ → Bool
  is_in mask = allows mask (number (home_of mine))

  module _ (formed : IsFormed net) (s_lt : s < length net.strands)
      (all : list_all is_in mine.masks ≡ true) where
    in_mask : (l : ℕ) → is_there mine l ≡ true → is_in (mask_in mine l) ≡ true
    in_mask l there =
        let b = bounds mine l there in
        let lo = b.0 in
        let hi = b.1 in
        let long = (formed.strands s no_strand s_lt).masks in
        AllPass-from_list_all is_in mine.masks all (l - mine.first) 0 (omega (arith, lo, hi, long))

    in_allowed : (l : ℕ) → is_there mine l ≡ true → has_home mine l ≡ true
    in_allowed l there = elim (cases_Bool (passes mine l)) as (λ _. has_home mine l ≡ true) [
      | inl pass ↦ ap (λ t. is_in (cond t (meet (mask_in mine l) (mask_in mine (across l)))
          (mask_in mine l))) pass
          ∙ both_allow (mask_in mine l) (mask_in mine (across l)) (number (home_of mine))
          (in_mask l there)
          (in_mask (across l) (and_parts (nat_lt 0 l) (is_there mine (across l)) pass).1)
      | inr no_ ↦ ap (λ t. is_in (cond t (meet (mask_in mine l) (mask_in mine (across l)))
          (mask_in mine l))) no_ ∙ in_mask l there
    ]

    pub constant_home : mine.constant ≡ true → (l : ℕ) → is_there mine l ≡ true
        → needs_register net s l ≡ false
    constant_home is l there = ap (λ t. not t || (not mine.constant && yields net s l))
        (in_allowed l there)
        ∙ ap (λ t. not t && yields net s l) is

    module _ (table : List (List Bool)) (is : IsTable net (length net.pairs) table)
        (none : row_of table s ≡ []) where
      no_yield_at : (l : ℕ) → is_there mine l ≡ true → yields_at net s l ≡ false
      no_yield_at l there = sym (entry net formed table is s l s_lt there)
          ∙ ap (λ r. get_or r (l - mine.first) false) none

      no_yield : (l : ℕ) → is_there mine l ≡ true → yields net s l ≡ false
      no_yield l there = ap (λ t. t || (passes mine l && yields_at net s (across l)))
          (no_yield_at l there)
          ∙ elim (cases_Bool (passes mine l))
          as (λ _. (passes mine l && yields_at net s (across l)) ≡ false) [
            | inl pass ↦ and_right (passes mine l) (yields_at net s (across l))
                (no_yield_at (across l)
                (and_parts (nat_lt 0 l) (is_there mine (across l)) pass).1)
            | inr no_ ↦ and_left (passes mine l) (yields_at net s (across l)) no_
          ]

      pub value_home : (l : ℕ) → is_there mine l ≡ true → needs_register net s l ≡ false
      value_home l there = ap (λ t. not t || (not mine.constant && yields net s l))
          (in_allowed l there)
          ∙ and_right (not mine.constant) (yields net s l) (no_yield l there)

-- ---- their paths

same_all : (f : ℕ → Place) (x : Place) (a n : ℕ)
    → ((l : ℕ) → a ≤ l → l < a + n → f l ≡ x) → replicate n x ≡ map f (range_with_len a n)
same_all f x a zero is = refl
same_all f x a (suc n) is =
    ap (λ y. y ∷ replicate n x) (sym (is a (omega arith) (omega arith)))
    ∙ ap (λ ys. f a ∷ ys) (same_all f x (a + 1) n (λ l le lt. is l (omega (arith, le))
    (omega (arith, lt))))

module _ (net : Net) (formed : IsFormed net) (s : ℕ) (s_lt : s < length net.strands) where
  abbrev t : Strand
  t = strand_at net s

  abbrev at_home : List Place
  at_home = replicate (length t.masks) (home_of t)

  is_path : (regs : List ℕ)
      → ((l : ℕ) → is_there t l ≡ true → needs_register net s l ≡ false)
      → at_home ≡ path_for net regs s
  is_path regs kept =
      let long = (formed.strands s no_strand s_lt).masks in
      same_all (place_for net regs s) (home_of t) t.first (length t.masks)
      (λ l le lt. ap (λ b. cond b (pick (allowed t l) (busy_at net regs s l)) (home_of t))
      (kept l (and_from (leb t.first l) (leb l t.last) (le-leb t.first l le)
      (le-leb l t.last (omega (arith, long, lt))))))

  no_register : (l r : ℕ) → held (in_register r) at_home t.first l ≡ 0
  no_register l r = elim (cases_lt 0 (held (in_register r) at_home t.first l))
      as (λ _. held (in_register r) at_home t.first l ≡ 0) [
        | inl some ↦
            let h = held_is (in_register r) at_home t.first l some in
            let after = h.after in
            let before = h.before in
            let long = length-replicate (length t.masks) (home_of t) in
            let p = get_or at_home (l - t.first) Mem in
            let is = get_or-replicate (length t.masks) (l - t.first) (home_of t) Mem
            (omega (arith, after, before, long)) in
            let parts = and_parts (has_register (number p)) (eqb (register_of (number p)) r) h.is in
            absurd (both_ways (has_register (number p))
            (ap (λ (q : Place). has_register (number q)) is ∙ home_apart t) parts.0)
        | inr none ↦ omega (arith, none)
      ]

  uses_none : (n r : ℕ) → uses net n r s t.first None at_home ≡ 0
  uses_none n r =
      let base = first_layer net.blocks t.block.0 in
      elim (cases_lt n base) as (λ _. uses net n r s t.first None at_home ≡ 0) [
        | inl below ↦ uses_below net s r None at_home n t.first below
        | inr from ↦
            let l = n - base in
            let e : n ≡ base + l = omega (arith, from) in
            ap (λ n. uses net n r s t.first None at_home) e
            ∙ uses_at net s r None at_home l t.first ∙ no_register l r
      ]

  -- one more, which takes no register
  pub home_more : HasRoom net → (rs : List (List Place)) (regs : List ℕ) → IsSoFar net regs rs s
      → ((l : ℕ) → is_there t l ≡ true → needs_register net s l ≡ false)
      → IsSoFar net regs (rs ++ at_home ∷ []) (s + 1)
  home_more room rs regs so kept = so_far_more net formed room rs regs regs s at_home s_lt so
      (is_path regs kept) refl (λ n r.
      let none = uses_none n r in
      let small = bit_at-lt (slice_index regs n) r in omega (arith, none, small))
