-- Rows of numbers that are not too large.
use Rattle.std.proofs.Common.{ℕ, suc, ◌≡◌, ◌⊎◌, ◌<◌, ◌≤◌, ◌+◌, ◌%◌, ◌^◌, ℤ, pos}
use Rattle.std.proofs.Common.{◌+ℤ◌, ◌≤ℤ◌, List, inl, inr, arith}
use Rattle.std.proofs.lemmas.Int.{ints}
use Rattle.std.proofs.lemmas.Bool.{cases_eq}
use Rattle.net_path.specs.Ways.{at, IsShort, IsDebt, AreDebts}
use Rattle.net_path.specs.Ways.{IsLeastWay}
use Rattle.net_path.specs.Rests.{unreached}
use Rattle.net_path.specs.Rows.{cell_bound, slack_at, IsAbout, IsRowWithin, AreCostsCells}
use Rattle.net_path.specs.Rows.{IsPaid, IsPaidLayer}

pub parity : (n : ℕ) → (n % 2 ≡ 0) ⊎ (n % 2 ≡ 1)
parity n = elim (cases_eq (n % 2) 0)
    as (λ _. (n % 2 ≡ 0) ⊎ (n % 2 ≡ 1)) [ inl e ↦ inl e | inr ne ↦ inr (omega arith) ]

-- what is left before a layer: a way more at most
abbrev pub IsRest : ℕ → ℤ → Type 0
IsRest b z = (pos 0 ≤ℤ (z +ℤ pos b)) × (z ≤ℤ (unreached +ℤ pos (b + 2 ^ 43)))

module _ (step : ℕ → ℕ → ℤ) (short : (p q : ℕ) → IsShort (step p q)) where
  pub crossed_within : (b : ℕ) (behind : List ℤ) (p : ℕ) (z : ℤ) → IsRowWithin b behind → p < 14
      → IsLeastWay (step p) behind z → IsRest b z
  crossed_within b behind p z small lt least =
      let met = least.met.met in
      let way = short p least.met.place in
      let there = small least.met.place least.met.within in
      let own = least.below p lt in
      let stay = short p p in
      let here = small p lt in
      (omega (arith, ints, met, way, there), omega (arith, ints, own, stay, here))

  -- what is left behind a place
  pub record IsLeft (b : ℕ) (cell z : ℤ) : Type 0 where
    pub rest : ℤ
    pub bounded : IsRest b rest
    pub paid : IsPaid cell rest z

  pub left_within : (b layer : ℕ) (behind cells costs : List ℤ) → IsRowWithin b behind
      → IsPaidLayer step layer behind cells costs → (p : ℕ) → p < 14
      → IsLeft b (at cells p) (at costs p)
  left_within b layer behind cells costs small paid p lt =
      elim (parity layer) as (λ _. IsLeft b (at cells p) (at costs p)) [
        | inl even ↦ let h = small p lt in record {
          rest = at behind p;
          bounded = (omega (arith, ints, h), omega (arith, ints, h));
          paid = paid.across even p lt;
        }
        | inr odd ↦ let over = paid.crossbar odd p lt in record {
          rest = over.rest;
          bounded = crossed_within b behind p over.rest small lt over.least;
          paid = over.paid;
        }
      ]

  pub paid_within : (n k layer : ℕ) (behind cells costs : List ℤ) → k < n
      → ((p : ℕ) → p < 14 → (at cells p ≡ unreached) ⊎ IsAbout (cell_bound n k) (at cells p))
      → IsRowWithin (slack_at n (suc k)) behind → IsPaidLayer step layer behind cells costs
      → IsRowWithin (slack_at n k) costs
  paid_within n k layer behind cells costs lt about small paid p lp =
      let left = left_within (slack_at n (suc k)) layer behind cells costs small paid p lp in
      elim (about p lp) as (λ _. (pos 0 ≤ℤ (at costs p +ℤ pos (slack_at n k)))
      × (at costs p ≤ℤ (unreached +ℤ pos (slack_at n k)))) [
        | inl shut ↦ let z = left.paid.shut shut in
            (omega (arith, ints, z), omega (arith, ints, z))
        | inr opened ↦
            let z = left.paid.opened (omega (arith, ints, opened)) in
            let r = left.bounded in
            (omega (arith, ints, z, r, opened), omega (arith, ints, z, r, opened))
      ]

  -- over a crossbar what is left behind a row is a debt
  pub least_is_debt : (behind : List ℤ) (p : ℕ) (z : ℤ) → IsRowWithin (2 ^ 60 + 2 ^ 59) behind
      → p < 14 → IsLeastWay (step p) behind z → IsDebt z
  least_is_debt behind p z small lt least =
      let h = crossed_within (2 ^ 60 + 2 ^ 59) behind p z small lt least in
      (omega (arith, ints, h), omega (arith, ints, h))

pub cells_within : (n k : ℕ) (costs : List ℤ)
    → k < n → ((p : ℕ) → p < 14 → (at costs p ≡ unreached) ⊎ IsAbout (cell_bound n k) (at costs p))
    → IsRowWithin (slack_at n k) costs
cells_within n k costs lt about p lp =
    elim (about p lp) as (λ _. (pos 0 ≤ℤ (at costs p +ℤ pos (slack_at n k)))
    × (at costs p ≤ℤ (unreached +ℤ pos (slack_at n k)))) [
      | inl shut ↦ (omega (arith, ints), omega (arith, ints))
      | inr opened ↦ (omega (arith, ints, opened), omega (arith, ints, opened))
    ]

pub costs_are_cells : (n k : ℕ) (costs : List ℤ)
    → ((p : ℕ) → p < 14 → (at costs p ≡ unreached) ⊎ IsAbout (cell_bound n k) (at costs p))
    → AreCostsCells costs
costs_are_cells n k costs about p lp =
    elim (about p lp) as (λ _. (at costs p ≡ unreached) ⊎ IsAbout (2 ^ 60) (at costs p)) [
      | inl shut ↦ inl shut
      | inr opened ↦ inr (omega (arith, ints, opened), omega (arith, ints, opened))
    ]

pub wide_is_debts : (costs : List ℤ) → IsRowWithin (2 ^ 60 + 2 ^ 59) costs → AreDebts costs
wide_is_debts costs small p lt = let h = small p lt in
    (omega (arith, ints, h), omega (arith, ints, h))

-- the slack of few layers
pub row_is_wide : (n k : ℕ) (costs : List ℤ) → n ≤ 2 ^ 15 → IsRowWithin (slack_at n k) costs
    → IsRowWithin (2 ^ 60 + 2 ^ 59) costs
row_is_wide n k costs few small p lt = let h = small p lt in
    (omega (arith, ints, h), omega (arith, ints, h))
