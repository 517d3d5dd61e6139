-- What ties add at the ends of a strand.
use Rattle.std.specs.Prelude.{◌≡◌, ◌⊎◌, ℕ, ◌+◌, ◌-◌, ◌^◌, Bool, if◌then◌else◌, ℤ, pos, ◌+ℤ◌, ◌-ℤ◌}
use Rattle.std.specs.Prelude.{List, slice_index, nat_eq, Some, None}
use Rattle.std.specs.List.{range_with_len, filter_map, enumerate_from}
use Rattle.pra_base.specs.declared.ids.Place.{Place}
use Rattle.pra_base.specs.Places.{number}
use Rattle.net_form.specs.declared.net.Net.{Net}
use Rattle.net_form.specs.declared.prices.Prices.{Prices}
use Rattle.net_dual.specs.Priced.{tie_price}
use Rattle.net_path.specs.Rests.{unreached}
use Rattle.net_path.specs.Rows.{IsAbout}
use Rattle.net_path.specs.Ways.{at}

-- what is closed stays so, anything else pays so much more
pub record IsMore (cost price z : ℤ) : Type 0 where
  pub shut : cost ≡ unreached → z ≡ unreached
  pub opened : IsAbout (2 ^ 59) cost → z ≡ cost +ℤ price

-- room for what ties add
abbrev pub HasTieRoom : ℤ → Type 0
HasTieRoom z = (z ≡ unreached) ⊎ IsAbout (2 ^ 58) z

abbrev pub HaveTieRoom : List ℤ → Type 0
HaveTieRoom costs = (place : Place) → HasTieRoom (at costs (number place))

abbrev pub HasPayRoom : ℤ → Type 0
HasPayRoom z = (z ≡ unreached) ⊎ IsAbout (2 ^ 59) z

abbrev pub HavePayRoom : List ℤ → Type 0
HavePayRoom costs = (place : Place) → HasPayRoom (at costs (number place))

-- who leaves pays the number, who comes is paid it
abbrev pub tie_pay : Prices → Bool → ℕ → Place → ℤ
tie_pay prices leaves i place =
    if leaves then tie_price prices i place else pos 0 -ℤ tie_price prices i place

abbrev pub ArePaidMore : (Place → ℤ) → List ℤ → List ℤ → Type 0
ArePaidMore price old new =
    (place : Place) → IsMore (at old (number place)) (price place) (at new (number place))

pub record IsSumMore (cost price z : ℤ) : Type 0 where
  pub shut : cost ≡ unreached → z ≡ unreached
  pub opened : IsAbout (2 ^ 58) cost → z ≡ cost +ℤ price

abbrev pub ArePaidInAll : (Place → ℤ) → List ℤ → List ℤ → Type 0
ArePaidInAll price old new =
    (place : Place) → IsSumMore (at old (number place)) (price place) (at new (number place))

-- the numbers of the exits of strand s, and of its entries
abbrev pub exit_ties : Net → ℕ → List ℕ
exit_ties net s =
    let start = slice_index net.index.exits s in
    range_with_len start (slice_index net.index.exits (s + 1) - start)

abbrev pub entry_ties : Net → ℕ → List ℕ
entry_ties net s =
    filter_map (λ t. if nat_eq t.1.to s then Some t.0 else None) (enumerate_from 0 net.ties)
