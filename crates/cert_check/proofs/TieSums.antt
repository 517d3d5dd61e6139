-- What ties ask of strands, tie by tie.
use Rattle.std.proofs.Common.{◌≡◌, ℕ, ◌+◌, ◌*◌, ◌/◌, ◌%◌, ◌^◌, ◌<◌, Bool, true, false}
use Rattle.std.proofs.Common.{◌&&◌, ℤ, pos, List, length, get_or, take}
use Rattle.std.proofs.Common.{Some, inl, inr, refl, ap, arith}
use Rattle.std.specs.Prelude.{nat_eq, nat_lt}
use Rattle.std.proofs.lemmas.Int.{ints}
use Rattle.std.proofs.lemmas.Bool.{cases_lt}
use Rattle.std.proofs.lemmas.Bool.Decides.{nat_tests}
use Rattle.std.proofs.lemmas.List.{get_or_past}
use Rattle.net_form.specs.declared.net.Tie.{Tie}
use Rattle.net_form.specs.declared.net.Net.{Net}
use Rattle.net_form.specs.declared.net.BlockEnd.{BlockEnd}
use Rattle.net_form.specs.declared.prices.Prices.{Prices}
use Rattle.net_dual.specs.Priced.{pay, number_at_slot, AreInRange}
use Rattle.net_dual.specs.Small.{IsWithin}
use Rattle.net_dual.proofs.Totals.{sum_more}
use Rattle.cert_check.specs.Tolls.{tied_strand, ties_sum, HasAdded, AreSumsWithin, AreNumbersWithin}

-- ---- a whole tie

pay_within : (b : Bool) (n : ℕ) (z : ℤ) → IsWithin n z → IsWithin n (pay b z)
pay_within true n z w = w
pay_within false n z w = record { low = omega (arith, ints); high = omega (arith, ints) }

pub sums_within : (old numbers new : List ℤ) (strand tie : ℕ) →
    HasAdded old numbers strand tie 13 new
    → AreSumsWithin tie old → AreNumbersWithin numbers → AreSumsWithin (tie + 1) new
sums_within old numbers new strand tie added sums small k =
    let s = k / 13 in
    let j = k % 13 in
    let is : 13 * s + j ≡ k = omega arith in
    let few : j < 13 = omega arith in
    let a = added s j few in
    let at_new : get_or new (13 * s + j) (pos 0) ≡ get_or new k (pos 0)
    = ap (λ n. get_or new n (pos 0)) is in
    let at_old : get_or old (13 * s + j) (pos 0) ≡ get_or old k (pos 0)
    = ap (λ n. get_or old n (pos 0)) is in
    let w = pay_within (nat_eq strand s && nat_lt j 13) (2 ^ 40)
    (get_or numbers (13 * tie + j) (pos 0))
    (small (13 * tie + j)) in
    let o = sums k in
    record { low = omega (arith, ints); high = omega (arith, ints) }

pub numbers_within : (net : Net) (prices : Prices) → AreInRange net prices
    → AreNumbersWithin prices.ties
numbers_within net prices range k = elim (cases_lt k (length prices.ties))
    as (λ _. IsWithin (2 ^ 40) (get_or prices.ties k (pos 0))) [
      | inl lt ↦
          let low = range.least_tie k (pos 0) lt in
          let high = range.most_tie k (pos 0) lt in
          record { low = omega (arith, ints); high = omega (arith, ints) }
      | inr past ↦
          let none = get_or_past prices.ties k (pos 0) past in
          record { low = omega (arith, ints); high = omega (arith, ints) }
    ]

-- the sums of one tie more
pub ties_more : (ties : List Tie) (prices : Prices) (end : BlockEnd) (old new : List ℤ) (n : ℕ)
    (t : Tie)
    → n < length ties → t ≡ get_or ties n t
    → HasAdded old prices.ties (tied_strand end t) n 13 new
    → (s j : ℕ) → j < 13
    → get_or old (13 * s + j) (pos 0) ≡ ties_sum (take n ties) prices end s j
    → get_or new (13 * s + j) (pos 0) ≡ ties_sum (take (n + 1) ties) prices end s j
ties_more ties prices end old new n t lt read added s j few was =
    let more = sum_more (λ (t : ℕ × Tie). pay (nat_eq (tied_strand end t.1) s)
    (number_at_slot prices.ties t.0 (Some j))) ties n t lt in
    let a = added s j few in
    let test : (nat_eq (tied_strand end t) s && nat_lt j 13) ≡ nat_eq (tied_strand end t) s
    = within_thirteen (nat_eq (tied_strand end t) s) j few in
    let here = ap (λ b. pay b (get_or prices.ties (13 * n + j) (pos 0))) test in
    let same : pay (nat_eq (tied_strand end t) s) (get_or prices.ties (13 * n + j) (pos 0))
    ≡ pay (nat_eq (tied_strand end (get_or ties n t)) s) (get_or prices.ties (13 * n + j) (pos 0))
    = ap (λ (t : Tie). pay (nat_eq (tied_strand end t) s) (get_or prices.ties (13 * n + j) (pos 0)))
    read in
    omega (arith, ints)
  where
    within_thirteen : (b : Bool) (j : ℕ) → j < 13 → (b && nat_lt j 13) ≡ b
    within_thirteen true j few = grind (arith, nat_tests)
    within_thirteen false j few = refl
