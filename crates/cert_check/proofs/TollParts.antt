-- What an edge pays to memory pairs and to ties, by its strand, its layer and its place.
use Rattle.std.proofs.Common.{◌≡◌, ℕ, ◌<◌, Bool, true, false, ◌&&◌, ℤ, pos, ◌+ℤ◌}
use Rattle.std.proofs.Common.{List, [], ◌∷◌, length, Option, Some, None, inl, inr, refl, sym, ap}
use Rattle.std.proofs.Common.{◌∙◌, subst, arith}
use Rattle.std.specs.Prelude.{nat_eq, IfSome}
use Rattle.std.specs.List.{enumerate_from}
use Rattle.std.proofs.lemmas.Int.{ints}
use Rattle.std.proofs.lemmas.Bool.{cases_eq}
use Rattle.std.proofs.lemmas.Bool.Decides.{nat_tests}
use Rattle.pra_base.specs.declared.ids.Place.{Place}
use Rattle.pra_base.specs.declared.ids.Place.TheVariants.{Const}
use Rattle.pra_base.specs.Places.{number, is_mem}
use Rattle.net_form.specs.declared.net.Strand.{Strand}
use Rattle.net_form.specs.declared.net.Tie.{Tie}
use Rattle.net_form.specs.declared.net.MemPair.{MemPair}
use Rattle.net_form.specs.declared.net.Net.{Net}
use Rattle.net_form.specs.declared.net.BlockEnd.{BlockEnd}
use Rattle.net_form.specs.declared.net.BlockEnd.TheVariants.{Entry, Exit}
use Rattle.net_form.specs.declared.prices.Prices.{Prices}
use Rattle.net_form.specs.Admitted.{strand_at}
use Rattle.net_dual.specs.Priced.{total, pay, mem_price, number_at_slot, tie_slot, mem_part}
use Rattle.net_dual.specs.Priced.{exit_part, entry_part}
use Rattle.cert_check.specs.Tolls.{edge, tied_strand, slot_sum, place_sum, is_end}
use Rattle.cert_check.specs.Tolls.{mems_sum, AreTiesSums}

pay_nothing : (b : Bool) → pay b (pos 0) ≡ pos 0
pay_nothing true = refl
pay_nothing false = refl

pay_sum : (b : Bool) (y z : ℤ) → pay b (y +ℤ z) ≡ pay b y +ℤ pay b z
pay_sum true y z = refl
pay_sum false y z = omega (arith, ints)

pay_both : (a b : Bool) (z : ℤ) → pay (a && b) z ≡ pay b (pay a z)
pay_both true b z = refl
pay_both false b z = sym (pay_nothing b)

module _ (net : Net) (prices : Prices) (s l : ℕ) where
  -- ---- memory pairs

  if_memory : (b : Bool) (ms : List (ℕ × MemPair))
      → total (λ m. pay (is_end s l m.1 && b) (pos (mem_price prices m.0))) ms
      ≡ pay b (total (λ m. pay (is_end s l m.1) (pos (mem_price prices m.0))) ms)
  if_memory b [] = sym (pay_nothing b)
  if_memory b (m ∷ ms) =
      let z = pos (mem_price prices m.0) in
      omega (
        arith,
        ints,
        pay_both (is_end s l m.1) b z,
        if_memory b ms,
        pay_sum b (pay (is_end s l m.1) z)
            (total (λ m. pay (is_end s l m.1) (pos (mem_price prices m.0))) ms),
      )

  pub mem_part_is : (q : Place) → mem_part net prices (edge s l None q)
      ≡ pay (is_mem (number q)) (mems_sum net.pairs prices s l)
  mem_part_is q = if_memory (is_mem (number q)) (enumerate_from 0 net.pairs)

  -- ---- ties

  module _ (end : BlockEnd) (at : Strand → ℕ) where
    one_end : (t : Tie) (z : ℤ)
        → pay (nat_eq s (tied_strand end t) && nat_eq l (at (strand_at net (tied_strand end t)))) z
        ≡ pay (nat_eq l (at (strand_at net s))) (pay (nat_eq (tied_strand end t) s) z)
    one_end t z = elim (cases_eq (tied_strand end t) s) as (λ _.
        pay (nat_eq s (tied_strand end t) && nat_eq l (at (strand_at net (tied_strand end t)))) z
        ≡ pay (nat_eq l (at (strand_at net s))) (pay (nat_eq (tied_strand end t) s) z)) [
          | inl is ↦
              let one : nat_eq s (tied_strand end t) ≡ true = grind (arith, nat_tests, is) in
              let other : nat_eq (tied_strand end t) s ≡ true = grind (arith, nat_tests, is) in
              (λ i. pay (one i && nat_eq l (at (strand_at net (is i)))) z)
              ∙ (λ i. pay (nat_eq l (at (strand_at net s))) (pay (sym other i) z))
          | inr not_it ↦
              let one : nat_eq s (tied_strand end t) ≡ false = grind (arith, nat_tests, not_it) in
              let other : nat_eq (tied_strand end t) s ≡ false = grind (arith, nat_tests, not_it) in
              (λ i. pay (one i && nat_eq l (at (strand_at net (tied_strand end t)))) z)
              ∙ sym (pay_nothing (nat_eq l (at (strand_at net s))))
              ∙ (λ i. pay (nat_eq l (at (strand_at net s))) (pay (sym other i) z))
        ]

    all_ends : (o : Option ℕ) (ts : List (ℕ × Tie))
        → total (λ t. pay (nat_eq s (tied_strand end t.1)
        && nat_eq l (at (strand_at net (tied_strand end t.1))))
        (number_at_slot prices.ties t.0 o)) ts
        ≡ pay (nat_eq l (at (strand_at net s)))
        (total (λ t. pay (nat_eq (tied_strand end t.1) s) (number_at_slot prices.ties t.0 o)) ts)
    all_ends o [] = sym (pay_nothing (nat_eq l (at (strand_at net s))))
    all_ends o (t ∷ ts) =
        let z = number_at_slot prices.ties t.0 o in
        let one = one_end t.1 z in
        let more = all_ends o ts in
        let sum = pay_sum (nat_eq l (at (strand_at net s))) (pay (nat_eq (tied_strand end t.1) s) z)
        (total (λ t. pay (nat_eq (tied_strand end t.1) s) (number_at_slot prices.ties t.0 o)) ts) in
        omega (arith, ints, one, more, sum)

    nothing_paid : (ts : List (ℕ × Tie))
        → total (λ t. pay (nat_eq (tied_strand end t.1) s) (pos 0)) ts ≡ pos 0
    nothing_paid [] = refl
    nothing_paid (t ∷ ts) =
        omega (arith, ints, pay_nothing (nat_eq (tied_strand end t.1) s), nothing_paid ts)

    slots : (o : Option ℕ)
        → total (λ t. pay (nat_eq (tied_strand end t.1) s) (number_at_slot prices.ties t.0 o))
        (enumerate_from 0 net.ties)
        ≡ slot_sum net.ties prices end s o
    slots None = nothing_paid (enumerate_from 0 net.ties)
    slots (Some j) = refl

    pub part_is : (o : Option ℕ)
        → total (λ t. pay (nat_eq s (tied_strand end t.1)
        && nat_eq l (at (strand_at net (tied_strand end t.1)))) (number_at_slot prices.ties t.0 o))
        (enumerate_from 0 net.ties)
        ≡ pay (nat_eq l (at (strand_at net s))) (slot_sum net.ties prices end s o)
    part_is o = all_ends o (enumerate_from 0 net.ties)
        ∙ ap (pay (nat_eq l (at (strand_at net s)))) (slots o)

  pub exit_part_is : (q : Place) → exit_part net prices (edge s l None q)
      ≡ pay (nat_eq l (strand_at net s).last) (place_sum net.ties prices Exit s q)
  exit_part_is q = part_is Exit (λ t. t.last) (tie_slot q)

  pub entry_part_is : (q : Place) → entry_part net prices (edge s l None q)
      ≡ pay (nat_eq l (strand_at net s).first) (place_sum net.ties prices Entry s q)
  entry_part_is q = part_is Entry (λ t. t.first) (tie_slot q)

slot_small : (q : Place) → IfSome (tie_slot q) (λ j. j < 13)
slot_small Const = tt
slot_small q = omega arith

-- what is kept for a place is the sum of its numbers
pub kept_sum : (net : Net) (prices : Prices) (end : BlockEnd) (sums : List ℤ) (s : ℕ) (q : Place)
    → AreTiesSums net prices end sums → s < length net.strands
    → number_at_slot sums s (tie_slot q) ≡ place_sum net.ties prices end s q
kept_sum net prices end sums s q are lt = by (tie_slot q) refl
  where
    by : (o : Option ℕ) → tie_slot q ≡ o
        → number_at_slot sums s o ≡ slot_sum net.ties prices end s o
    by None is = refl
    by (Some j) is = are.each s j lt (subst (λ o. IfSome o (λ j. j < 13)) is (slot_small q))
