-- Each strand of a built network has a path: at home where it may be, and else in a register.
use Rattle.std.proofs.Common.{cond, ℕ, zero, suc, ◌≡◌, ◌<◌, ◌≤◌, ◌+◌, ◌-◌, ◌%◌, Bool, true, false}
use Rattle.std.proofs.Common.{◌&&◌, ◌||◌, not, eqb, List, [], ◌∷◌, length, map, count_by, min}
use Rattle.std.proofs.Common.{Option, Some, None, All, IsTrue, refl, sym, subst, ap, ◌∙◌, inl, inr}
use Rattle.std.proofs.Common.{arith}
use Rattle.std.specs.Prelude.{nat_lt}
use Rattle.std.specs.Int.{bit_at}
use Rattle.std.specs.List.{range_with_len}
use Rattle.std.proofs.lemmas.Bool.{cases_Bool, cases_eq, eq-eqb, ne_eqb, eqb-true, and_from, lt-ltb}
use Rattle.std.proofs.lemmas.Bool.Decides.{nat_tests}
use Rattle.std.proofs.lemmas.Nat.Bits.{bit_at_and, bit_at-lt}
use Rattle.std.proofs.lemmas.List.{length-map}
use Rattle.std.proofs.lemmas.List.FromFn.{length-range_with_len}
use Rattle.std.proofs.lemmas.List.Elements.{All-nil, All-cons}
use Rattle.pra_list.proofs.Counts.{count-no}
use Rattle.pra_base.specs.declared.ids.Place.{Place}
use Rattle.pra_base.specs.declared.ids.Place.TheVariants.{Eax, Ecx, Edx, Ebx, Esi, Edi}
use Rattle.pra_base.specs.Places.{number, allows, meet}
use Rattle.net_form.specs.declared.net.Strand.{Strand}
use Rattle.net_form.specs.declared.net.Net.{Net}
use Rattle.net_form.specs.Admitted.{strand_at, no_strand, in_mask, stays_across, is_across}
use Rattle.net_form.specs.Flow.{edges, same_place}
use Rattle.net_form.specs.Strands.{across}
use Rattle.net_form.proofs.PlaceEquality.{same_place-refl}
use Rattle.net_laws.specs.Built.{IsBuilt}
use Rattle.net_laws.specs.Homes.{home_of, is_there, passes, mask_in, allowed, needs_register}
use Rattle.net_laws.specs.Homes.{yields}
use Rattle.net_dual.specs.Paths.{IsPath}
use Rattle.net_path.specs.Grounds.{edge}

-- ---- a place that a test lets pass

abbrev pick_in : (ℕ → Bool) → List Place → Place → Place
pick_in ok [] d = d
pick_in ok (p ∷ ps) d = cond (ok (number p)) p (pick_in ok ps d)

abbrev six : List Place
six = Eax ∷ Ecx ∷ Edx ∷ Ebx ∷ Esi ∷ Edi ∷ []

abbrev pick : (ℕ → Bool) → Place → Place
pick ok home = cond (ok (number home)) home (pick_in ok six home)

passes_in : (ok : ℕ → Bool) (ps : List Place) (d : Place) → 0 < count_by (λ p. ok (number p)) ps
    → ok (number (pick_in ok ps d)) ≡ true
passes_in ok [] d some = absurd (omega (arith, some))
passes_in ok (p ∷ ps) d some =
    elim (cases_Bool (ok (number p))) as (λ _. ok (number (pick_in ok (p ∷ ps) d)) ≡ true) [
      | inl is ↦ subst (λ (b : Bool). ok (number (cond b p (pick_in ok ps d))) ≡ true) (sym is) is
      | inr is ↦
          subst (λ (b : Bool). ok (number (cond b p (pick_in ok ps d))) ≡ true) (sym is)
          (passes_in ok ps d
          (let fewer = count-no (λ p. ok (number p)) p ps is in omega (arith, fewer, some)))
    ]

picked : (ok : ℕ → Bool) (home : Place)
    → (ok (number home) ≡ false → 0 < count_by ok (range_with_len 0 6))
    → ok (number (pick ok home)) ≡ true
picked ok home some =
    elim (cases_Bool (ok (number home))) as (λ _. ok (number (pick ok home)) ≡ true) [
      | inl is ↦
          subst (λ (b : Bool). ok (number (cond b home (pick_in ok six home))) ≡ true) (sym is) is
      | inr is ↦
          subst (λ (b : Bool). ok (number (cond b home (pick_in ok six home))) ≡ true) (sym is)
          (passes_in ok six home (some is))
    ]

same_in : (a b : ℕ → Bool) (ps : List Place) (d : Place) → ((k : ℕ) → a k ≡ b k)
    → pick_in a ps d ≡ pick_in b ps d
same_in a b [] d same = refl
same_in a b (p ∷ ps) d same = ap (λ (t : Bool). cond t p (pick_in a ps d)) (same (number p))
    ∙ ap (λ (q : Place). cond (b (number p)) p q) (same_in a b ps d same)

same_pick : (a b : ℕ → Bool) (home : Place) → ((k : ℕ) → a k ≡ b k) → pick a home ≡ pick b home
same_pick a b home same = ap (λ (t : Bool). cond t home (pick_in a six home)) (same (number home))
    ∙ ap (λ (q : Place). cond (b (number home)) home q) (same_in a b six home same)

-- ---- masks

met_either : (a b k : ℕ) → allows (meet a b) k ≡ allows (meet b a) k
met_either a b k = ap (λ (n : ℕ). eqb n 1) (bit_at_and a b k
    ∙ (let e : min (bit_at a k) (bit_at b k) ≡ min (bit_at b k) (bit_at a k) = omega arith in e)
    ∙ sym (bit_at_and b a k))

met_first : (a b k : ℕ) → allows (meet a b) k ≡ true → allows a k ≡ true
met_first a b k h =
    let both = eqb-true (bit_at (meet a b) k) 1 h in
    let is = bit_at_and a b k in
    let most = bit_at-lt a k in
    eq-eqb (bit_at a k) 1 (omega (arith, both, is, most))

module _ (net : Net) (built : IsBuilt net) (s : ℕ) (lt : s < length net.strands) where
  abbrev t : Strand
  t = strand_at net s

  abbrev place : ℕ → Place
  place l = pick (allows (allowed t l)) (home_of t)

  there : (l : ℕ) → t.first ≤ l → l ≤ t.last → is_there t l ≡ true
  there l a b = grind (arith, nat_tests)

  open_there : (l : ℕ) → t.first ≤ l → l ≤ t.last → allows (allowed t l) (number (place l)) ≡ true
  open_there l a b = picked (allows (allowed t l)) (home_of t) (λ away.
      let needs : needs_register net s l ≡ true =
      ap (λ (h : Bool). not h || (not t.constant && yields net s l)) away in
      let fewer = built.room.registers s l lt (there l a b) needs in
      omega (arith, fewer))

  -- the masks allow it
  masked : (l : ℕ) → t.first ≤ l → l ≤ t.last → allows (mask_in t l) (number (place l)) ≡ true
  masked l a b =
      elim (cases_Bool (passes t l)) as (λ _. allows (mask_in t l) (number (place l)) ≡ true) [
        | inl is ↦ met_first (mask_in t l) (mask_in t (across l)) (number (place l))
            (subst (λ (m : ℕ). allows m (number (place l)) ≡ true)
            (ap (λ (x : Bool). cond x (meet (mask_in t l) (mask_in t (across l))) (mask_in t l)) is)
            (open_there l a b))
        | inr is ↦ subst (λ (m : ℕ). allows m (number (place l)) ≡ true)
            (ap (λ (x : Bool). cond x (meet (mask_in t l) (mask_in t (across l))) (mask_in t l)) is)
            (open_there l a b)
      ]

  -- and it is the same on both sides of an instruction
  across_even : (l : ℕ) → l % 2 ≡ 0 → across l ≡ l - 1
  across_even l even =
      ap (λ (b : Bool). cond b (l + 1) (l - 1)) (ne_eqb (l % 2) 1 (λ h. omega (arith, even, h)))

  across_odd : (l : ℕ) → l % 2 ≡ 1 → across l ≡ l + 1
  across_odd l odd = ap (λ (b : Bool). cond b (l + 1) (l - 1)) (eq-eqb (l % 2) 1 odd)

  passes_there : (l k : ℕ) → 0 < l → across l ≡ k → t.first ≤ k → k ≤ t.last → passes t l ≡ true
  passes_there l k some is a b = and_from (nat_lt 0 l) (is_there t (across l)) (lt-ltb 0 l some)
      (ap (λ (j : ℕ). is_there t j) is ∙ there k a b)

  allowed_there : (l k : ℕ) → 0 < l → across l ≡ k → t.first ≤ k → k ≤ t.last
      → allowed t l ≡ meet (mask_in t l) (mask_in t k)
  allowed_there l k some is a b =
      ap (λ (x : Bool). cond x (meet (mask_in t l) (mask_in t (across l))) (mask_in t l))
      (passes_there l k some is a b)
      ∙ ap (λ (j : ℕ). meet (mask_in t l) (mask_in t j)) is

  both_sides : (l : ℕ) → l % 2 ≡ 0 → t.first < l → l ≤ t.last → place (l - 1) ≡ place l
  both_sides l even a b =
      let before = allowed_there (l - 1) l (omega (arith, even, a))
      (across_odd (l - 1) (omega (arith, even, a))
      ∙ (let e : l - 1 + 1 ≡ l = omega (arith, a) in e)) (omega (arith, a)) b in
      let behind = allowed_there l (l - 1) (omega (arith, a)) (across_even l even)
      (omega (arith, a)) (omega (arith, a, b)) in
      same_pick (allows (allowed t (l - 1))) (allows (allowed t l)) (home_of t) (λ k.
      ap (λ (m : ℕ). allows m k) before ∙ met_either (mask_in t (l - 1)) (mask_in t l) k
      ∙ sym (ap (λ (m : ℕ). allows m k) behind))

  -- ---- the path
  abbrev places : ℕ → ℕ → List Place
  places l n = map place (range_with_len l n)

  data From (l : ℕ) : Option Place → Type 0 where
    start : l ≡ t.first → From l None
    before : t.first < l → From l (Some (place (l - 1)))

  stays : (l : ℕ) (p : Option Place) → From l p → l ≤ t.last
      → stays_across (edge s l p (place l)) ≡ true
  stays l None from b = by (is_across (edge s l None (place l))) where
    by : (x : Bool) → (not x || true) ≡ true
    by true = refl
    by false = refl
  stays l (Some p) (before a) b = elim (cases_eq (l % 2) 0)
      as (λ _. stays_across (edge s l (Some (place (l - 1))) (place l)) ≡ true) [
        | inl even ↦ ap (λ (x : Bool). not x || same_place (place (l - 1)) (place l))
            (eq-eqb (l % 2) 0 even)
            ∙ subst (λ (q : Place). same_place (place (l - 1)) q ≡ true) (both_sides l even a b)
            (same_place-refl (place (l - 1)))
        | inr odd ↦ ap (λ (x : Bool). not x || same_place (place (l - 1)) (place l))
            (ne_eqb (l % 2) 0 odd)
      ]

  next : (l : ℕ) → t.first ≤ l → From (suc l) (Some (place l))
  next l a = let e : suc l - 1 ≡ l = omega arith in
      subst (λ (k : ℕ). From (suc l) (Some (place k))) e (before (omega (arith, a)))

  all_masked : (n l : ℕ) (p : Option Place) → t.first ≤ l → l + n ≤ t.last + 1
      → All (λ e. IsTrue (in_mask net e)) (edges s l p (places l n))
  all_masked zero l p a b = All-nil (λ e. IsTrue (in_mask net e))
  all_masked (suc n) l p a b = All-cons (λ e. IsTrue (in_mask net e)) (edge s l p (place l))
      (edges s (suc l) (Some (place l)) (places (l + 1) n)) (masked l a (omega (arith, b)))
      (subst (λ (k : ℕ). All (λ e. IsTrue (in_mask net e))
      (edges s (suc l) (Some (place l)) (places k n)))
      (let e : suc l ≡ l + 1 = omega arith in e)
      (all_masked n (suc l) (Some (place l)) (omega (arith, a)) (omega (arith, b))))

  all_stay : (n l : ℕ) (p : Option Place) → From l p → t.first ≤ l → l + n ≤ t.last + 1
      → All (λ e. IsTrue (stays_across e)) (edges s l p (places l n))
  all_stay zero l p from a b = All-nil (λ e. IsTrue (stays_across e))
  all_stay (suc n) l p from a b = All-cons (λ e. IsTrue (stays_across e)) (edge s l p (place l))
      (edges s (suc l) (Some (place l)) (places (l + 1) n)) (stays l p from (omega (arith, b)))
      (subst (λ (k : ℕ). All (λ e. IsTrue (stays_across e))
      (edges s (suc l) (Some (place l)) (places k n)))
      (let e : suc l ≡ l + 1 = omega arith in e)
      (all_stay n (suc l) (Some (place l)) (next l a) (omega (arith, a)) (omega (arith, b))))

  pub some_path : (ps : List Place) × IsPath net s ps
  some_path =
      let order = (built.formed.strands s no_strand lt).order in
      let n = t.last + 1 - t.first in (
        places t.first n,
        record {
          long = let l = length-map (range_with_len t.first n) place in
              let r = length-range_with_len t.first n in omega (arith, l, r, order);
          masks = all_masked n t.first None (omega arith) (omega (arith, order));
          across = all_stay n t.first None (start refl) (omega arith) (omega (arith, order));
        },
      )
