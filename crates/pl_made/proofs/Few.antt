-- Few moves stand before an instruction: each uses a register that no other uses.
use Rattle.std.proofs.Common.{◌≡◌, ℕ, ℤ, ◌+◌, ◌*◌, ◌≤◌, ◌⊎◌, inl, inr, ⊎_elim, Bool, true, false}
use Rattle.std.proofs.Common.{not, ◌&&◌, ◌||◌, nat_eq, if◌then◌else◌, List, [], ◌∷◌, map, count_by}
use Rattle.std.proofs.Common.{sum_by, Option, Some, None, refl, sym, ap, ◌∙◌, arith}
use Rattle.std.proofs.lemmas.Bool.Decides.{nat_tests}
use Rattle.std.proofs.lemmas.List.Sums.{sum_by-cons}
use Rattle.pra_list.proofs.Truths.{true_false}
use Rattle.pra_list.specs.Among.{Among}
use Rattle.pra_list.proofs.Counts.{bit, count-cons}
use Rattle.pra_base.specs.declared.ids.Place.{Place}
use Rattle.pra_base.specs.declared.ids.Place.TheVariants.{Eax, Ecx, Edx, Ebx, Esi, Edi, Mem, Const}
use Rattle.pra_base.specs.declared.ids.Place.TheVariants.{EaxM, EcxM, EdxM, EbxM, EsiM, EdiM}
use Rattle.pra_base.specs.declared.code.VProc.{VProc}
use Rattle.pra_base.specs.Places.{number, has_register, register_of, is_register, is_both}
use Rattle.net_form.specs.declared.net.Net.{Net}
use Rattle.net_form.specs.declared.routes.Routes.{Routes}
use Rattle.net_form.specs.Network.{IsNet}
use Rattle.net_form.specs.Flow.{Edge, flow, AreRoutes}
use Rattle.net_form.specs.Admitted.{in_register, IsAdmitted}
use Rattle.pl_moves.specs.declared.transfer.Pair.{Pair}
use Rattle.pl_moves.specs.Assignment.{suits, suits_pair, share_register, are_apart}
use Rattle.pl_moves.specs.Crossbar.{crosses_into_both, most_moves}
use Rattle.pl_place.specs.Behind.{pair_of, pairs_at}
use Rattle.pl_place.specs.Valid.{most_moves_before}
use Rattle.pl_routed.specs.Routed.{routed}
use Rattle.pl_made.proofs.Apart.{EachTwo, two_weaker}
use Rattle.pl_made.proofs.CanMove.{layer_edges, edges_suit, edges_apart}

-- ---- a place in a register is in one of six

abbrev six : Place → ℕ
six q = bit (in_register 0 q) + bit (in_register 1 q) + bit (in_register 2 q) + bit
    (in_register 3 q) + bit (in_register 4 q) + bit (in_register 5 q)

one_of_six : (q : Place) → bit (has_register (number q)) ≡ six q
one_of_six Eax = refl
one_of_six x = refl

module _ (g : Edge → Place) where
  abbrev in_ : ℕ → Edge → Bool
  in_ m e = in_register m (g e)

  abbrev sum_six : List Edge → ℕ
  sum_six es = count_by (in_ 0) es + count_by (in_ 1) es + count_by (in_ 2) es + count_by
      (in_ 3) es + count_by (in_ 4) es + count_by (in_ 5) es

  by_register : (es : List Edge) → count_by (λ e. has_register (number (g e))) es ≡ sum_six es
  by_register [] = refl
  by_register (e ∷ es) =
      let ih = by_register es in
      let all = count-cons (λ e. has_register (number (g e))) e es in
      let one = one_of_six (g e) in
      let c0 = count-cons (in_ 0) e es in
      let c1 = count-cons (in_ 1) e es in
      let c2 = count-cons (in_ 2) e es in
      let c3 = count-cons (in_ 3) e es in
      let c4 = count-cons (in_ 4) e es in
      let c5 = count-cons (in_ 5) e es in
      omega (arith, ih, all, one, c0, c1, c2, c3, c4, c5)

  share : (p q : Place) (m : ℕ) → in_register m p ≡ true → in_register m q ≡ true →
      share_register p q ≡ true
  share p q m e f =
      let x = split (has_register (number p)) (nat_eq (register_of (number p)) m) e in
      let y = split (has_register (number q)) (nat_eq (register_of (number q)) m) f in
      let a = x.1 in
      let c = y.1 in
      let same : nat_eq (register_of (number p)) (register_of (number q)) ≡ true =
      grind (arith, nat_tests) in
      three (has_register (number p)) (has_register (number q))
      (nat_eq (register_of (number p)) (register_of (number q))) x.0 y.0 same
    where
      split : (a c : Bool) → (a && c) ≡ true → (a ≡ true) × (c ≡ true)
      split true c e = (refl, e)
      split false c e = cc

      three : (a c d : Bool) → a ≡ true → c ≡ true → d ≡ true → (a && c && d) ≡ true
      three a c d e f h = rw (e, f, h) refl

  none_in : (m : ℕ) (es : List Edge) → ((e : Edge) → Among e es → in_ m e ≡ true → ⊥) →
      count_by (in_ m) es ≡ 0
  none_in m [] f = refl
  none_in m (e ∷ es) f =
      let ih = none_in m es (λ d i. f d (inr i)) in
      let all = count-cons (in_ m) e es in
      by_test (in_ m e) (f e (inl refl)) all ih
    where
      by_test : (b : Bool) → (b ≡ true → ⊥) → count_by (in_ m) (e ∷ es) ≡
          bit b + count_by (in_ m) es → count_by (in_ m) es ≡ 0 → count_by (in_ m) (e ∷ es) ≡ 0
      by_test true f all ih = absurd (f refl)
      by_test false f all ih = omega (arith, all, ih)

  one_in : (m : ℕ) (es : List Edge) → EachTwo (λ e d. share_register (g e) (g d) ≡ false) es →
      count_by (in_ m) es ≤ 1
  one_in m [] f = omega arith
  one_in m (e ∷ es) f =
      let all = count-cons (in_ m) e es in
      by_test (in_ m e) (λ t. none_in m es
      (λ d i u. true_false (share_register (g e) (g d)) (share (g e) (g d) m t u) (f.0 d i)))
      all (one_in m es f.1)
    where
      by_test : (b : Bool) → (b ≡ true → count_by (in_ m) es ≡ 0) → count_by (in_ m) (e ∷ es) ≡
          bit b + count_by (in_ m) es → count_by (in_ m) es ≤ 1 → count_by (in_ m) (e ∷ es) ≤ 1
      by_test true f all ih = let none = f refl in omega (arith, all, none)
      by_test false f all ih = omega (arith, all, ih)

  pub six_at_most : (es : List Edge) → EachTwo (λ e d. share_register (g e) (g d) ≡ false) es →
      count_by (λ e. has_register (number (g e))) es ≤ 6
  six_at_most es f =
      let all = by_register es in
      let c0 = one_in 0 es f in
      let c1 = one_in 1 es f in
      let c2 = one_in 2 es f in
      let c3 = one_in 3 es f in
      let c4 = one_in 4 es f in
      let c5 = one_in 5 es f in
      omega (arith, all, c0, c1, c2, c3, c4, c5)

-- ---- what a pair needs

no_register : (q : Place) → has_register (number q) ≡ false → (number q ≡ 6) ⊎ (number q ≡ 7)
no_register Mem e = inl refl
no_register Const e = inr refl
no_register x e = cc

alike : (c : Option ℤ) (p q : ℕ) → (p ≡ 6) ⊎ (p ≡ 7) → (q ≡ 6) ⊎ (q ≡ 7) → suits c p ≡ true →
    suits c q ≡ true → p ≡ q
alike c p q a d e f =
    ⊎_elim
    (λ (x : p ≡ 6). ⊎_elim (λ (y : q ≡ 6). x ∙ sym y)
    (λ (y : q ≡ 7). absurd (mixed c (ap (suits c) (sym x) ∙ e) (ap (suits c) (sym y) ∙ f))) d)
    (λ (x : p ≡ 7). ⊎_elim (λ
    (y : q ≡ 6). absurd (mixed c (ap (suits c) (sym y) ∙ f) (ap (suits c) (sym x) ∙ e)))
    (λ (y : q ≡ 7). x ∙ sym y) d)
    a
  where
    mixed : (c : Option ℤ) → suits c 6 ≡ true → suits c 7 ≡ true → ⊥
    mixed (Some n) e f = true_false false e refl
    mixed None e f = true_false false f refl

registers_needed : (x : Pair) → suits_pair x ≡ true → most_moves x ≤
    bit (has_register (number x.from)) + bit (has_register (number x.to))
registers_needed x ok =
    let s = split (suits x.constant (number x.from)) (suits x.constant (number x.to)) ok in
    by_test (nat_eq (number x.from) (number x.to)) (crosses_into_both (number x.from) (number x.to))
    (has_register (number x.from)) (has_register (number x.to))
    (λ e f. let same = alike x.constant (number x.from) (number x.to) (no_register x.from e)
    (no_register x.to f) s.0 s.1 in grind (arith, nat_tests))
    (λ e. let both = crossed (is_register (number x.from)) (is_both (number x.to)) _ e in (
      or_left (is_register (number x.from)) (is_both (number x.from)) both.0,
      or_right (is_register (number x.to)) (is_both (number x.to)) both.1,
    ))
  where
    split : (a c : Bool) → (a && c) ≡ true → (a ≡ true) × (c ≡ true)
    split true c e = (refl, e)
    split false c e = cc

    crossed : (a c d : Bool) → (a && c && d) ≡ true → (a ≡ true) × (c ≡ true)
    crossed true true d e = (refl, refl)
    crossed true false d e = cc
    crossed false c d e = cc

    or_left : (a c : Bool) → a ≡ true → (a || c) ≡ true
    or_left true c e = refl
    or_left false c e = cc

    or_right : (a c : Bool) → c ≡ true → (a || c) ≡ true
    or_right true c e = refl
    or_right false c e = e

    by_test : (t u f g : Bool) → (f ≡ false → g ≡ false → t ≡ true) →
        (u ≡ true → (f ≡ true) × (g ≡ true)) → (if t then 0 else (if u then 2 else 1)) ≤
        bit f + bit g
    by_test true u f g h k = omega arith
    by_test false true f g h k = let both = k refl in let f_is : f ≡ true = both.0 in let g_is : g ≡
        true = both.1 in rw (f_is, g_is) (omega arith)
    by_test false false true g h k = omega arith
    by_test false false false true h k = omega arith
    by_test false false false false h k = absurd (true_false false (h refl refl) refl)

module _ (f : Edge → Pair) where
  sum_needed : (es : List Edge) → ((e : Edge) → Among e es → suits_pair (f e) ≡ true) →
      sum_by most_moves (map f es) ≤ count_by (λ e. has_register (number (f e).from)) es + count_by
      (λ e. has_register (number (f e).to)) es
  sum_needed [] g = omega arith
  sum_needed (e ∷ es) g =
      let ih = sum_needed es (λ d i. g d (inr i)) in
      let one = registers_needed (f e) (g e (inl refl)) in
      let sum = sum_by-cons most_moves (f e) (map f es) in
      let from = count-cons (λ d. has_register (number (f d).from)) e es in
      let to = count-cons (λ d. has_register (number (f d).to)) e es in
      omega (arith, ih, one, sum, from, to)

parts_false : (a c d : Bool) → (not a && not c && not d) ≡ true → (c ≡ false) × (d ≡ false)
parts_false true c d e = cc
parts_false false true d e = cc
parts_false false false true e = cc
parts_false false false false e = (refl, refl)

pub few_at : (code : VProc) (net : Net) (routes : Routes) → IsNet net code → AreRoutes net routes →
    IsAdmitted net (flow net routes) → (b k : ℕ) →
    sum_by most_moves (pairs_at (routed code net routes) b (2 * k + 1)) ≤ most_moves_before
few_at code net routes is has admitted b k =
    let r = routed code net routes in
    let es = layer_edges code net routes is has admitted b k in
    let apart = edges_apart code net routes is has admitted b k in
    let sum = sum_needed (pair_of r) es (edges_suit code net routes is has admitted b k) in
    let from = six_at_most (λ e. (pair_of r e).from) es
    (two_weaker (λ e d. are_apart (pair_of r e) (pair_of r d) ≡ true)
    (λ e d. share_register (pair_of r e).from (pair_of r d).from ≡ false) es
    (λ e d i j t. (parts_false (nat_eq (pair_of r e).var.0 (pair_of r d).var.0)
    (share_register (pair_of r e).from (pair_of r d).from)
    (share_register (pair_of r e).to (pair_of r d).to) t).0) apart) in
    let to = six_at_most (λ e. (pair_of r e).to) es
    (two_weaker (λ e d. are_apart (pair_of r e) (pair_of r d) ≡ true)
    (λ e d. share_register (pair_of r e).to (pair_of r d).to ≡ false) es
    (λ e d i j t. (parts_false (nat_eq (pair_of r e).var.0 (pair_of r d).var.0)
    (share_register (pair_of r e).from (pair_of r d).from)
    (share_register (pair_of r e).to (pair_of r d).to) t).1) apart) in
    omega (arith, sum, from, to)
