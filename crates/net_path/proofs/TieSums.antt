-- What several ties add.
use Rattle.std.proofs.Common.{ℕ, ◌≡◌, ◌*◌, ◌^◌, Bool, true, false, ℤ, pos, ◌+ℤ◌, ◌-ℤ◌, List}
use Rattle.std.proofs.Common.{[], ◌∷◌, length, inl, inr, arith}
use Rattle.std.proofs.lemmas.Int.{ints}
use Rattle.pra_base.specs.declared.ids.Place.{Place}
use Rattle.pra_base.specs.Places.{number}
use Rattle.net_form.specs.declared.prices.Prices.{Prices}
use Rattle.net_dual.specs.Priced.{total, tie_price}
use Rattle.net_dual.specs.Small.{IsWithin}
use Rattle.net_path.specs.Rows.{IsAbout}
use Rattle.net_path.specs.Ties.{HasPayRoom, HaveTieRoom, HavePayRoom, ArePaidMore, ArePaidInAll}
use Rattle.net_path.specs.Ties.{tie_pay}
use Rattle.net_path.specs.Ways.{at}

-- a sum of numbers that are each within 2^40
pub about_sum : {X : Type 0} (f : X → ℤ) (xs : List X) → ((x : X) → IsAbout (2 ^ 40) (f x))
    → IsAbout (2 ^ 40 * length xs) (total f xs)
about_sum f [] each = (omega (arith, ints), omega (arith, ints))
about_sum f (x ∷ xs) each =
    let one = each x in
    let more = about_sum f xs each in
    (omega (arith, ints, one, more), omega (arith, ints, one, more))

-- nothing is added yet
pub none_more : (costs : List ℤ) → ArePaidInAll (λ _. pos 0) costs costs
none_more costs place = record { shut = λ e. e; opened = λ about. omega (arith, ints) }

-- room for one more where few were added
pub room_left : (old new : List ℤ) (price : Place → ℤ) → HaveTieRoom old
    → ArePaidInAll price old new → ((place : Place) → IsAbout (2 ^ 56) (price place))
    → HavePayRoom new
room_left old new price room paid about place =
    elim (room place) as (λ _. HasPayRoom (at new (number place))) [
      | inl shut ↦ inl ((paid place).shut shut)
      | inr opened ↦ let z = (paid place).opened opened in let p = about place in
          inr (omega (arith, ints, z, p, opened), omega (arith, ints, z, p, opened))
    ]

pub one_more : (old mid new : List ℤ) (price one : Place → ℤ) (all : Place → ℤ)
    → HaveTieRoom old → ((place : Place) → IsAbout (2 ^ 56) (price place))
    → ((place : Place) → all place ≡ price place +ℤ one place) → ArePaidInAll price old mid
    → ArePaidMore one mid new → ArePaidInAll all old new
one_more old mid new price one all room about is paid more place = record {
  shut = λ shut. (more place).shut ((paid place).shut shut);
  opened = λ opened.
      let a = (paid place).opened opened in
      let p = about place in
      let b = (more place).opened
      (omega (arith, ints, a, p, opened), omega (arith, ints, a, p, opened)) in
      let e = is place in
      omega (arith, ints, a, b, e);
}

-- the numbers of ties are within 2^40
pub pay_about : (prices : Prices) (leaves : Bool) (i : ℕ) (place : Place)
    → IsWithin (2 ^ 40) (tie_price prices i place)
    → IsAbout (2 ^ 40) (tie_pay prices leaves i place)
pay_about prices true i place w = let l = w.low in let h = w.high in
    (omega (arith, ints, l), omega (arith, ints, h))
pay_about prices false i place w = let l = w.low in let h = w.high in
    (omega (arith, ints, h), omega (arith, ints, l))

pub total_pay : (prices : Prices) (place : Place) (xs : List ℕ)
    → total (λ i. tie_pay prices false i place) xs
    ≡ pos 0 -ℤ total (λ i. tie_price prices i place) xs
total_pay prices place [] = omega (arith, ints)
total_pay prices place (x ∷ xs) = let more = total_pay prices place xs in omega (arith, ints, more)
