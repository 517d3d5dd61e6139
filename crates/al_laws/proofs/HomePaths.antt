-- Every strand of a built network has a path: at home where it can be, and else in a register.
use Rattle.std.proofs.Common.{ℕ, zero, suc, ◌≡◌, ◌+◌, ◌-◌, ◌%◌, ◌<◌, ◌≤◌, Bool, true, false, not}
use Rattle.std.proofs.Common.{◌&&◌, ◌||◌, cond, ltb, leb, List, length, get_or, map}
use Rattle.std.proofs.Common.{All, Option, None, Some, refl, sym, ap, ◌∙◌, subst, arith}
use Rattle.std.proofs.Common.{inl, inr, ◌⊎◌}
use Rattle.std.specs.Prelude.{IsTrue}
use Rattle.std.specs.List.{range_with_len, prefix_len}
use Rattle.std.proofs.lemmas.Bool.{cases_Bool, cases_eq, and_from, le-leb}
use Rattle.std.proofs.lemmas.Bool.{lt-ltb, ne_eqb, eq-eqb}
use Rattle.std.proofs.lemmas.List.{length-map}
use Rattle.std.proofs.lemmas.List.Elements.{All-cons, All-nil}
use Rattle.std.proofs.lemmas.List.FromFn.{length-range_with_len, get_or-range_with_len}
use Rattle.std.proofs.lemmas.Nat.{and_comm}
use Rattle.pra_list.proofs.Mapped.{any-count}
use Rattle.pra_base.specs.declared.ids.Place.{Place}
use Rattle.pra_base.specs.declared.ids.Place.TheVariants.{Eax, Ecx, Edx, Ebx, Esi, Edi}
use Rattle.pra_base.specs.Places.{number, allows, meet}
use Rattle.net_form.specs.declared.net.Strand.{Strand}
use Rattle.net_form.specs.declared.net.Net.{Net}
use Rattle.net_form.specs.Flow.{Edge, edges, same_place}
use Rattle.net_form.specs.Admitted.{strand_at, no_strand, in_mask, is_across}
use Rattle.net_form.specs.Admitted.{stays_across}
use Rattle.net_form.specs.Strands.{across, is_before}
use Rattle.net_form.proofs.PlaceEquality.{same_place-refl}
use Rattle.net_laws.specs.Built.{IsBuilt}
use Rattle.net_laws.specs.Homes.{home_of, is_there, passes, mask_in, allowed, has_home, yields}
use Rattle.net_laws.specs.Homes.{choices, registers}
use Rattle.net_laws.proofs.Bits.{met_allows}
use Rattle.net_laws.proofs.Found.{first_that}
use Rattle.net_dual.specs.Paths.{IsPath}

-- a register by its number, and the first one that a mask has
register : ℕ → Place
register zero = Eax
register (suc zero) = Ecx
register (suc (suc zero)) = Edx
register (suc (suc (suc zero))) = Ebx
register (suc (suc (suc (suc zero)))) = Esi
register (suc (suc (suc (suc (suc r))))) = Edi

number-register : (r : ℕ) → r < 6 → number (register r) ≡ r
unfolding register
number-register zero lt = refl
number-register (suc zero) lt = refl
number-register (suc (suc zero)) lt = refl
number-register (suc (suc (suc zero))) lt = refl
number-register (suc (suc (suc (suc zero)))) lt = refl
number-register (suc (suc (suc (suc (suc zero))))) lt = refl
number-register (suc (suc (suc (suc (suc (suc r)))))) lt = absurd (omega (arith, lt))

first_register : ℕ → ℕ
first_register mask = prefix_len (λ r. not (allows mask r)) registers

first_allowed : (mask : ℕ) → 0 < choices mask
    → allows mask (number (register (first_register mask))) ≡ true
unfolding first_register
first_allowed mask some =
    let any = sym (any-count (allows mask) registers) ∙ lt-ltb 0 (choices mask) some in
    let first = first_that (allows mask) registers 0 any in
    let small : first_register mask < 6 = first.0 in
    let at = get_or-range_with_len 0 6 (first_register mask) 0 small in
    let here : get_or registers (first_register mask) 0 ≡ first_register mask = omega (arith, at) in
    ap (allows mask) (number-register (first_register mask) small) ∙ ap (allows mask) (sym here)
    ∙ first.1

-- where a strand with this home stands, if the mask is where it may be
place_by : Place → ℕ → Place
place_by home mask = cond (allows mask (number home)) home (register (first_register mask))

module _ (net : Net) (built : IsBuilt net) (s : ℕ) (lt : s < length net.strands) where
  abbrev t : Strand
  t = strand_at net s

  place_for : ℕ → Place
  place_for l = place_by (home_of t) (allowed t l)

  there : (l : ℕ) → t.first ≤ l → l ≤ t.last → is_there t l ≡ true
  there l low high = and_from (leb t.first l) (leb l t.last) (le-leb t.first l low)
      (le-leb l t.last high)

  -- it may be there
  may : (l : ℕ) → t.first ≤ l → l ≤ t.last → allows (allowed t l) (number (place_for l)) ≡ true
  unfolding place_for place_by
  may l low high = elim (cases_Bool (has_home t l))
      as (λ _. allows (allowed t l)
      (number (cond (allows (allowed t l) (number (home_of t))) (home_of t)
      (register (first_register (allowed t l))))) ≡ true) [
        | inl is ↦ ap (λ b. allows (allowed t l)
            (number (cond b (home_of t) (register (first_register (allowed t l)))))) is ∙ is
        | inr no_ ↦
            ap (λ b. allows (allowed t l)
            (number (cond b (home_of t) (register (first_register (allowed t l)))))) no_
            ∙ first_allowed (allowed t l)
            (let few = built.room.registers s l lt (there l low high)
            (ap (λ b. not b || (not t.constant && yields net s l)) no_) in omega (arith, few))
      ]

  in_its_mask : (l : ℕ) (p : Place) → allows (allowed t l) (number p) ≡ true
      → allows (mask_in t l) (number p) ≡ true
  in_its_mask l p h = elim (cases_Bool (passes t l))
      as (λ _. allows (mask_in t l) (number p) ≡ true) [
        | inl is ↦ (met_allows (mask_in t l) (mask_in t (across l)) (number p)
            (sym (ap (λ x. allows (cond x (meet (mask_in t l) (mask_in t (across l))) (mask_in t l))
            (number p)) is) ∙ h)).0
        | inr no_ ↦
            sym (ap (λ x. allows (cond x (meet (mask_in t l) (mask_in t (across l))) (mask_in t l))
            (number p)) no_) ∙ h
      ]

  -- it is at one place before and after an instruction
  met_at : (l : ℕ) → 0 < l → is_there t (across l) ≡ true
      → allowed t l ≡ meet (mask_in t l) (mask_in t (across l))
  met_at l some beyond = ap (λ b. cond b (meet (mask_in t l) (mask_in t (across l))) (mask_in t l))
      (and_from (ltb 0 l) (is_there t (across l)) (lt-ltb 0 l some) beyond)

  same_across : (l : ℕ) → l % 2 ≡ 0 → t.first < l → l ≤ t.last → place_for (l - 1) ≡ place_for l
  unfolding place_for
  same_across l even low high =
      let odd : is_before (l - 1) ≡ true = eq-eqb ((l - 1) % 2) 1 (omega (arith, even, low)) in
      let later : is_before l ≡ false = ne_eqb (l % 2) 1 (λ one. omega (arith, one, even)) in
      let there_ : across (l - 1) ≡ l = ap (λ b. cond b ((l - 1) + 1) ((l - 1) - 1)) odd
      ∙ (let e : (l - 1) + 1 ≡ l = omega (arith, low) in e) in
      let back : across l ≡ l - 1 = ap (λ b. cond b (l + 1) (l - 1)) later in
      let one = met_at (l - 1) (omega (arith, even, low)) (ap (is_there t) there_
      ∙ there l (omega (arith, low)) high) in
      let two = met_at l (omega (arith, low)) (ap (is_there t) back
      ∙ there (l - 1) (omega (arith, low)) (omega (arith, high, low))) in
      ap (place_by (home_of t))
      (one ∙ ap (λ k. meet (mask_in t (l - 1)) (mask_in t k)) there_
      ∙ and_comm (mask_in t (l - 1)) (mask_in t l)
      ∙ sym (two ∙ ap (λ k. meet (mask_in t l) (mask_in t k)) back))

  abbrev edge : ℕ → Option Place → Edge
  edge l a = record { strand = s; layer = l; from = a; to = place_for l }

  masks : (l n : ℕ) (a : Option Place) → t.first ≤ l → l + n ≤ t.last + 1
      → All (λ e. IsTrue (in_mask net e)) (edges s l a (map place_for (range_with_len l n)))
  masks l zero a low high = All-nil _
  masks l (suc n) a low high =
      let next : suc l ≡ l + 1 = omega arith in
      All-cons (λ e. IsTrue (in_mask net e)) (edge l a)
      (edges s (suc l) (Some (place_for l)) (map place_for (range_with_len (l + 1) n)))
      (in_its_mask l (place_for l) (may l low (omega (arith, high))))
      (subst (λ k. All (λ e. IsTrue (in_mask net e))
      (edges s k (Some (place_for l)) (map place_for (range_with_len (l + 1) n)))) (sym next)
      (masks (l + 1) n (Some (place_for l)) (omega (arith, low)) (omega (arith, high))))

  -- it comes from its place at the layer before, or from Start
  abbrev Comes : ℕ → Option Place → Type 0
  Comes l a = (a ≡ None) ⊎ ((t.first < l) × (a ≡ Some (place_for (l - 1))))

  stays_there : (b : Bool) → (not b || true) ≡ true
  stays_there true = refl
  stays_there false = refl

  stays : (l : ℕ) (a : Option Place) → l ≤ t.last → Comes l a → stays_across (edge l a) ≡ true
  stays l a high (inl start) = subst (λ o. stays_across (edge l o) ≡ true) (sym start)
      (stays_there (is_across (edge l None)))
  stays l a high (inr is) = subst (λ o. stays_across (edge l o) ≡ true) (sym is.1)
      (elim (cases_eq (l % 2) 0) as (λ _. stays_across (edge l (Some (place_for (l - 1)))) ≡ true) [
        | inl even ↦ ap (λ q. not (is_across (edge l (Some (place_for (l - 1))))) || same_place q
            (place_for l)) (same_across l even is.0 high)
            ∙ ap (λ b. not (is_across (edge l (Some (place_for (l - 1))))) || b)
            (same_place-refl (place_for l))
            ∙ stays_there (is_across (edge l (Some (place_for (l - 1)))))
        | inr odd ↦ ap (λ b. not b || same_place (place_for (l - 1)) (place_for l))
            (ne_eqb (l % 2) 0 odd)
      ])

  keeps : (l n : ℕ) (a : Option Place) → t.first ≤ l → l + n ≤ t.last + 1 → Comes l a
      → All (λ e. IsTrue (stays_across e)) (edges s l a (map place_for (range_with_len l n)))
  keeps l zero a low high from = All-nil _
  keeps l (suc n) a low high from =
      let next : suc l ≡ l + 1 = omega arith in
      All-cons (λ e. IsTrue (stays_across e)) (edge l a)
      (edges s (suc l) (Some (place_for l)) (map place_for (range_with_len (l + 1) n)))
      (stays l a (omega (arith, high)) from)
      (subst (λ k. All (λ e. IsTrue (stays_across e))
      (edges s k (Some (place_for l)) (map place_for (range_with_len (l + 1) n)))) (sym next)
      (keeps (l + 1) n (Some (place_for l)) (omega (arith, low)) (omega (arith, high))
      (inr (
        omega (arith, low),
        ap (λ k. Some (place_for k))
            (let e : l ≡ (l + 1) - 1 = omega arith in e),
      ))))

  pub home_path : (ps : List Place) × IsPath net s ps
  home_path =
      let order = (built.formed.strands s no_strand lt).order in
      let n = t.last + 1 - t.first in (
        map place_for (range_with_len t.first n),
        record {
          long = let a = length-map (range_with_len t.first n) place_for in let b =
              length-range_with_len t.first n in omega (arith, a, b, order);
          masks = masks t.first n None (omega arith) (omega (arith, order));
          across = keeps t.first n None (omega arith) (omega (arith, order)) (inl refl);
        },
      )
