-- Marks of registers and of memory pairs.
use Rattle.std.proofs.Common.{ℕ, ◌≡◌, ◌≢◌, ◌+◌, ◌<◌, ◌≤◌, Bool, true, false, cond, eqb, ◌&&◌, List}
use Rattle.std.proofs.Common.{length, get_or, set, refl, sym, ap, ◌∙◌, arith, inl, inr}
use Rattle.std.specs.Int.{bit_at}
use Rattle.std.proofs.lemmas.Bool.{cases_eq, eq-eqb, ne_eqb, and_left, and_right}
use Rattle.std.proofs.lemmas.List.{get_or-set_same, get_or-set_other}
use Rattle.std.proofs.lemmas.Nat.Bits.{bit_at-lt}
use Rattle.pra_base.specs.declared.ids.Place.{Place}
use Rattle.pra_base.specs.Places.{number, has_register, register_of}
use Rattle.net_form.specs.Admitted.{in_register}
use Rattle.net_form.specs.InUse.{mark, pair_mark, lands_in, after}
use Rattle.pra_list.proofs.Counts.{bit}

-- ---- what one more comes to

pub comes_nowhere : (n : ℕ) (p : Place) → has_register (number p) ≡ false → (m q : ℕ) →
    lands_in n p m q ≡ 0
comes_nowhere n p no_register m q =
    ap bit (and_right (eqb n m) (in_register q p)
    (and_left (has_register (number p)) (eqb (register_of (number p)) q) no_register))

pub comes_here : (n : ℕ) (p : Place) → has_register (number p) ≡ true →
    lands_in n p n (register_of (number p)) ≡ 1
comes_here n p register =
    ap bit (ap (λ b. b && in_register (register_of (number p)) p) (eq-eqb n n refl)
    ∙ ap (λ b. b && eqb (register_of (number p)) (register_of (number p))) register
    ∙ eq-eqb (register_of (number p)) (register_of (number p)) refl)

pub comes_elsewhere : (n : ℕ) (p : Place) (m q : ℕ) → ¬ ((m ≡ n) × (q ≡ register_of (number p))) →
    lands_in n p m q ≡ 0
comes_elsewhere n p m q other = elim (cases_eq m n) as (λ _. lands_in n p m q ≡ 0) [
  | inl same ↦ ap bit (and_right (eqb n m) (in_register q p)
      (and_right (has_register (number p)) (eqb (register_of (number p)) q)
      (ne_eqb (register_of (number p)) q (λ e. other (same, sym e)))))
  | inr apart ↦ ap bit (and_left (eqb n m) (in_register q p) (ne_eqb n m (λ e. apart (sym e))))
]

-- ---- one mark after another

pub after-small : (used : Bool) (old uses : ℕ) → old ≤ 1 → after used old uses ≤ 1
after-small true old uses small = omega arith
after-small false old uses small = omega (arith, small)

pub after-none : (used : Bool) (old uses : ℕ) → old ≤ 1 → uses ≡ 0 → after used old uses ≡ old
after-none true old uses small none = omega (arith, small, none)
after-none false old uses small none = omega (arith, none)

pub after-some : (used : Bool) (old uses : ℕ) → old ≤ 1 → 0 < uses → after used old uses ≡ bit used
after-some true old uses small some = omega (arith, some)
after-some false old uses small some = omega (arith, small, some)

pub after-twice : (used : Bool) (old one more : ℕ) → after used (after used old one) more ≡
    after used old (one + more)
after-twice true old one more = omega arith
after-twice false old one more = omega arith

pub mark-small : (regs : List ℕ) (n r : ℕ) → mark regs n r ≤ 1
mark-small regs n r = let lt = bit_at-lt (get_or regs n 0) r in omega (arith, lt)

pub pair_mark-small : (mems : List Bool) (k : ℕ) → pair_mark mems k ≤ 1
pair_mark-small mems k = small (get_or mems k false)
  where
    small : (b : Bool) → cond b 1 0 ≤ 1
    small true = omega arith
    small false = omega arith

-- a byte in which one bit is what it is to be, and the others are as they were
module _ (used : Bool) (regs : List ℕ) (layer r byte : ℕ) (lt : layer < length regs)
    (here : bit_at byte r ≡ bit used) (others : (q : ℕ) → q ≢ r → bit_at byte q ≡ mark regs layer q)
  where
    pub place_marked : (to : Place) → has_register (number to) ≡ true →
        r ≡ register_of (number to) →
        (n q : ℕ)
        → mark (set regs layer byte) n q ≡ after used (mark regs n q) (lands_in layer to n q)
    place_marked to comes is n q =
        elim (cases_eq n layer) as (λ _. mark (set regs layer byte) n q ≡ after used (mark regs n q)
        (lands_in layer to n q)) [
          | inr apart ↦
              ap (λ b. bit_at b q) (get_or-set_other regs layer n byte 0 apart)
              ∙ sym (after-none used (mark regs n q) (lands_in layer to n q) (mark-small regs n q)
              (comes_elsewhere layer to n q (λ e. apart e.0)))
          | inl same ↦ ap (λ k. mark (set regs layer byte) k q) same ∙ ap (λ b. bit_at b q)
              (get_or-set_same regs layer byte 0 lt)
              ∙ elim (cases_eq q r) as (λ _. bit_at byte q ≡ after used (mark regs n q)
              (lands_in layer to n q)) [
                | inl at ↦
                    let once = ap (λ k. lands_in layer to k q) same ∙ ap (lands_in layer to layer)
                    (at ∙ is) ∙ comes_here layer to comes in
                    ap (bit_at byte) at ∙ here
                    ∙ sym (after-some used (mark regs n q) (lands_in layer to n q)
                    (mark-small regs n q) (omega (arith, once)))
                | inr apart ↦
                    others q apart ∙ ap (λ k. mark regs k q) (sym same)
                    ∙ sym (after-none used (mark regs n q) (lands_in layer to n q)
                    (mark-small regs n q)
                    (comes_elsewhere layer to n q (λ e. apart (e.1 ∙ sym is))))
              ]
        ]

-- one mark of a pair
pub pair_marked : (used : Bool) (mems : List Bool) (at k : ℕ) → at < length mems →
    pair_mark (set mems at used) k ≡ after used (pair_mark mems k) (bit (eqb at k))
pair_marked used mems at k lt =
    elim (cases_eq at k) as (λ _. pair_mark (set mems at used) k ≡ after used (pair_mark mems k)
    (bit (eqb at k))) [
      | inl same ↦
          let once = ap bit (eq-eqb at k same) in
          ap (λ n. pair_mark (set mems at used) n) (sym same)
          ∙ ap bit (get_or-set_same mems at used false lt)
          ∙ sym (after-some used (pair_mark mems k) (bit (eqb at k)) (pair_mark-small mems k)
          (omega (arith, once)))
      | inr apart ↦
          let none = ap bit (ne_eqb at k apart) in
          ap bit (get_or-set_other mems at k used false (λ e. apart (sym e)))
          ∙ sym (after-none used (pair_mark mems k) (bit (eqb at k)) (pair_mark-small mems k) none)
    ]
