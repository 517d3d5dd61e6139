-- The ties that go from a strand lie together.
use Rattle.std.proofs.Common.{cond, ℕ, zero, suc, ◌≡◌, ◌+◌, ◌-◌, ◌<◌, ◌≤◌, Bool, true, false, eqb}
use Rattle.std.proofs.Common.{ℤ, List, [], ◌∷◌, length, get_or, count_by, None, refl, sym, ap, ◌∙◌}
use Rattle.std.proofs.Common.{inl, inr, arith}
use Rattle.std.specs.Prelude.{nat_lt, nat_eq}
use Rattle.std.proofs.lemmas.Bool.Decides.{nat_tests}
use Rattle.pra_list.proofs.Counts.{count-cons}
use Rattle.std.specs.List.{range_with_len, enumerate_from, AllPairs}
use Rattle.std.proofs.lemmas.Int.{ints}
use Rattle.std.proofs.lemmas.Bool.{and_from, and_left, ltb-true, lt-ltb, ltb-false, eq-eqb, ne_eqb}
use Rattle.std.proofs.lemmas.Bool.{cases_lt}
use Rattle.std.proofs.lemmas.List.FromFn.{length-map-range_with_len, get_or-map-range_with_len}
use Rattle.std.proofs.lemmas.List.Sums.{count_by-le-length}
use Rattle.pra_base.specs.declared.ids.Place.{Place}
use Rattle.net_form.specs.declared.net.Net.{Net}
use Rattle.net_form.specs.declared.net.NetIndex.{NetIndex}
use Rattle.net_form.specs.declared.net.Tie.{Tie}
use Rattle.net_form.specs.declared.prices.Prices.{Prices}
use Rattle.net_form.specs.Admitted.{strand_at}
use Rattle.net_form.specs.Flow.{Edge}
use Rattle.net_form.specs.Formed.{IsFormed}
use Rattle.net_form.proofs.ExtrasInOrder.{front_passes, behind_fails}
use Rattle.net_laws.specs.Built.{goes_from}
use Rattle.net_laws.specs.Ordered.{TieBefore}
use Rattle.net_laws.specs.Ordered.TieBefore.{from, to}
use Rattle.net_dual.specs.Priced.{total, pay, exits, exit_part, tie_price}
use Rattle.net_path.specs.Grounds.{edge}
use Rattle.net_path.specs.Ties.{exit_ties}

-- a sum over those that pass, where they lie from number a to number b
pub sum_range : {X : Type 0} (test : X → Bool) (g : ℕ → ℤ) (d : X) (n a b : ℕ) (xs : List X)
    → a ≤ b → b ≤ length xs → ((i : ℕ) → i < length xs → i < a → test (get_or xs i d) ≡ false)
    → ((i : ℕ) → i < length xs → a ≤ i → i < b → test (get_or xs i d) ≡ true)
    → ((i : ℕ) → i < length xs → b ≤ i → test (get_or xs i d) ≡ false)
    → total (λ (t : ℕ × X). pay (test t.1) (g t.0)) (enumerate_from n xs)
    ≡ total g (range_with_len (n + a) (b - a))
sum_range test g d n a b [] ab bl before within behind =
    let e : b - a ≡ 0 = omega (arith, bl) in rw e refl
sum_range test g d n (suc a) (suc b) (x ∷ xs) ab bl before within behind =
    let none = ap (λ (t : Bool). pay t (g n)) (before 0 (omega arith) (omega arith)) in
    let more = sum_range test g d (n + 1) a b xs (omega (arith, ab))
    (omega (arith, bl)) (λ i lt la. before (suc i) (omega arith) (omega arith))
    (λ i lt ge lb. within (suc i) (omega arith) (omega arith) (omega arith))
    (λ i lt ge. behind (suc i) (omega arith) (omega arith)) in
    let e : n + 1 + a ≡ n + suc a = omega arith in
    let f : suc b - suc a ≡ b - a = omega arith in
    rw (f, ← e) (omega (arith, ints, none, more))
sum_range test g d n (suc a) zero (x ∷ xs) ab bl before within behind = absurd (omega (arith, ab))
sum_range test g d n zero zero (x ∷ xs) ab bl before within behind =
    let none = ap (λ (t : Bool). pay t (g n)) (behind 0 (omega arith) (omega arith)) in
    let more = sum_range test g d (n + 1) 0 0 xs (omega arith) (omega arith)
    (λ i lt la. absurd (omega (arith, la))) (λ i lt ge lb. absurd (omega (arith, lb)))
    (λ i lt ge. behind (suc i) (omega arith) (omega arith)) in
    omega (arith, ints, none, more)
sum_range test g d n zero (suc b) (x ∷ xs) ab bl before within behind =
    let one = ap (λ (t : Bool). pay t (g n)) (within 0 (omega arith) (omega arith) (omega arith)) in
    let more = sum_range test g d (n + 1) 0 b xs (omega arith) (omega (arith, bl))
    (λ i lt la. absurd (omega (arith, la))) (λ i lt ge lb. within (suc i) (omega arith)
    (omega arith) (omega arith)) (λ i lt ge. behind (suc i) (omega arith) (omega arith)) in
    let e : n + 1 + 0 ≡ n + 1 = omega arith in
    let f : suc b - 0 ≡ suc b = omega arith in
    let h : b - 0 ≡ b = omega arith in
    let k : n + 0 ≡ n = omega arith in
    let more2 = rw (e, h) at more in
    rw (f, k) (omega (arith, ints, one, more2))

module _ (net : Net) (formed : IsFormed net) (order : AllPairs TieBefore net.ties) where
  abbrev before : ℕ → Tie → Bool
  before s t = nat_lt t.from s

  pub exits_long : length net.index.exits ≡ length net.strands + 1
  exits_long = ap (λ (i : NetIndex). length i.exits) formed.index
      ∙ length-map-range_with_len (λ s. count_by (λ (t : Tie). nat_lt t.from s) net.ties) 0
      (length net.strands + 1)

  pub exits_begin : (s : ℕ) → s ≤ length net.strands
      → get_or net.index.exits s 0 ≡ count_by (λ (t : Tie). nat_lt t.from s) net.ties
  exits_begin s le = ap (λ (i : NetIndex). get_or i.exits s 0) formed.index
      ∙ get_or-map-range_with_len (λ s. count_by (λ (t : Tie). nat_lt t.from s) net.ties) 0
      (length net.strands + 1) s s 0 (omega (arith, le)) (omega arith)

  falls : (s : ℕ) (x y : Tie) → TieBefore x y → before s y ≡ true → before s x ≡ true
  falls s x y (from lt) h = lt-ltb x.from s (let b = ltb-true y.from s h in omega (arith, lt, b))
  falls s x y (to same lt) h =
      lt-ltb x.from s (let b = ltb-true y.from s h in omega (arith, same, b))

  no_tie : Tie
  no_tie = record { from = 0; to = 0 }

  low : (s i : ℕ) → i < length net.ties → i < count_by (before s) net.ties
      → (get_or net.ties i no_tie).from < s
  low s i lt below = ltb-true (get_or net.ties i no_tie).from s
      (front_passes (before s) TieBefore (falls s) net.ties order i no_tie below lt)

  high : (s i : ℕ) → i < length net.ties → count_by (before s) net.ties ≤ i
      → s ≤ (get_or net.ties i no_tie).from
  high s i lt above = ltb-false (get_or net.ties i no_tie).from s
      (behind_fails (before s) TieBefore (falls s) net.ties order i no_tie above lt)

  pub in_order : (s : ℕ) → count_by (before s) net.ties ≤ count_by (before (s + 1)) net.ties
  in_order s = elim (cases_lt (count_by (before (s + 1)) net.ties) (count_by (before s) net.ties))
      as (λ _. count_by (before s) net.ties ≤ count_by (before (s + 1)) net.ties) [
        | inl lt ↦
            let b = count_by (before (s + 1)) net.ties in
            let few = count_by-le-length (before s) net.ties in
            let l = low s b (omega (arith, lt, few)) lt in
            let h = high (s + 1) b (omega (arith, lt, few)) (omega arith) in
            absurd (omega (arith, l, h))
        | inr le ↦ le
      ]

  pub exits_within : (s : ℕ) → s < length net.strands
      → get_or net.index.exits (s + 1) 0 ≤ length net.ties
  exits_within s lt = let is = exits_begin (s + 1) (omega (arith, lt)) in
      let few = count_by-le-length (before (s + 1)) net.ties in omega (arith, is, few)

  pub exits_order : (s : ℕ) → s < length net.strands
      → get_or net.index.exits s 0 ≤ get_or net.index.exits (s + 1) 0
  exits_order s lt = let a = exits_begin s (omega (arith, lt)) in
      let b = exits_begin (s + 1) (omega (arith, lt)) in let le = in_order s in
      omega (arith, a, b, le)

  module _ (s : ℕ) (place : Place) where
    abbrev e : Edge
    e = edge s (strand_at net s).last None place

    apart : (t : Tie) → (t.from ≡ s → ⊥) → exits net t e ≡ false
    apart t other = and_left (eqb s t.from) (eqb (strand_at net s).last (strand_at net t.from).last)
        (ne_eqb s t.from (λ h. other (sym h)))

    same : (t : Tie) → t.from ≡ s → exits net t e ≡ true
    same t is = and_from (eqb s t.from) (eqb (strand_at net s).last (strand_at net t.from).last)
        (eq-eqb s t.from (sym is))
        (eq-eqb (strand_at net s).last (strand_at net t.from).last
        (ap (λ (k : ℕ). (strand_at net k).last) (sym is)))

    pub exit_sum : (prices : Prices) → s < length net.strands
        → total (λ i. tie_price prices i place) (exit_ties net s) ≡ exit_part net prices e
    exit_sum prices lt =
        let a = count_by (before s) net.ties in
        let b = count_by (before (s + 1)) net.ties in
        let from_is = exits_begin s (omega arith) in
        let to_is = exits_begin (s + 1) (omega arith) in
        let few = count_by-le-length (before (s + 1)) net.ties in
        let ab = in_order s in
        let sum = sum_range (λ (t : Tie). exits net t e) (λ i. tie_price prices i place)
        no_tie 0 a b net.ties ab few
        (λ i in_ la. apart (get_or net.ties i no_tie)
        (λ is. let l = low s i in_ la in omega (arith, is, l)))
        (λ i in_ ge lb. same (get_or net.ties i no_tie)
        (let h = high s i in_ ge in let l = low (s + 1) i in_ lb in omega (arith, h, l)))
        (λ i in_ ge. apart (get_or net.ties i no_tie)
        (λ is. let h = high (s + 1) i in_ ge in omega (arith, is, h))) in
        let z : 0 + a ≡ a = omega arith in
        rw (from_is, to_is) (sym (rw z at sum))

  -- as many as go from the strand
  pub exits_few : (s : ℕ) → s < length net.strands → get_or net.index.exits (s + 1) 0
      ≡ get_or net.index.exits s 0 + count_by (goes_from s) net.ties
  exits_few s lt =
      let a = exits_begin s (omega (arith, lt)) in
      let b = exits_begin (s + 1) (omega (arith, lt)) in
      let sum = split net.ties in
      omega (arith, a, b, sum)
    where
      one : (t : Tie) → cond (nat_lt t.from (s + 1)) 1 0
          ≡ cond (nat_lt t.from s) 1 0 + cond (nat_eq t.from s) 1 0
      one t = grind (arith, nat_tests)

      split : (ts : List Tie)
          → count_by (before (s + 1)) ts ≡ count_by (before s) ts + count_by (goes_from s) ts
      split [] = refl
      split (t ∷ ts) =
          let x = count-cons (before (s + 1)) t ts in
          let y = count-cons (before s) t ts in
          let z = count-cons (goes_from s) t ts in
          let o = one t in
          let more = split ts in
          omega (arith, x, y, z, o, more)
