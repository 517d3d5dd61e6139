-- Prices as a certificate lists them: an entry for each that is not 0.
use Rattle.std.specs.Prelude.{◌≢◌, ℕ, suc, ◌*◌, ◌<◌, ◌≤◌, ℤ, pos, ◌-ℤ◌, ◌≤ℤ◌, List, [], ◌∷◌}
use Rattle.std.specs.Prelude.{length, replicate, slice_set, ⊤}
use Rattle.pra_base.specs.Places.{register_count}
use Rattle.net_form.specs.declared.net.Net.{Net}
use Rattle.net_form.specs.declared.prices.Prices.{Prices}
use Rattle.net_form.specs.Rooms.{layer_total, tie_numbers}
use Rattle.net_dual.specs.Priced.{most_price}
use Rattle.cert_form.specs.declared.certificate.CapAt.{CapAt}
use Rattle.cert_form.specs.declared.certificate.TieAt.{TieAt}
use Rattle.cert_form.specs.declared.certificate.Cert.{Cert}

-- an entry of a list of so many prices
pub record IsCap (count : ℕ) (x : CapAt) : Type 0 where
  pub within : x.at < count
  pub some : x.price ≢ 0
  pub most : x.price ≤ most_price

-- an entry of a list of so many numbers of ties
pub record IsNumber (count : ℕ) (x : TieAt) : Type 0 where
  pub within : x.at < count
  pub some : x.number ≢ pos 0
  pub most : x.number ≤ℤ pos most_price
  pub least : (pos 0 -ℤ pos most_price) ≤ℤ x.number

-- entries whose indexes rise, the first of which is at least `from`
abbrev pub AreCaps : ℕ → ℕ → List CapAt → Type 0
AreCaps count from [] = ⊤
AreCaps count from (x ∷ xs) = (from ≤ x.at) × IsCap count x × AreCaps count (suc x.at) xs

abbrev pub AreTieNumbers : ℕ → ℕ → List TieAt → Type 0
AreTieNumbers count from [] = ⊤
AreTieNumbers count from (x ∷ xs) =
    (from ≤ x.at) × IsNumber count x × AreTieNumbers count (suc x.at) xs

-- how many prices a network has of each kind
abbrev pub cap_count : Net → ℕ
cap_count net = register_count * layer_total net.blocks

abbrev pub mem_count : Net → ℕ
mem_count net = length net.pairs

abbrev pub number_count : Net → ℕ
number_count net = tie_numbers * length net.ties

pub record HasPrices (net : Net) (cert : Cert) : Type 0 where
  pub caps : AreCaps (cap_count net) 0 cert.caps
  pub mems : AreCaps (mem_count net) 0 cert.mems
  pub ties : AreTieNumbers (number_count net) 0 cert.ties

-- ---- the prices that are listed

-- a list in which each entry has been put
abbrev pub with_caps : List ℕ → List CapAt → List ℕ
with_caps prices [] = prices
with_caps prices (x ∷ xs) = with_caps (slice_set prices x.at x.price) xs

abbrev pub with_tie_numbers : List ℤ → List TieAt → List ℤ
with_tie_numbers numbers [] = numbers
with_tie_numbers numbers (x ∷ xs) = with_tie_numbers (slice_set numbers x.at x.number) xs

-- what has no entry is 0
abbrev pub prices_of : Net → Cert → Prices
prices_of net cert = record {
  caps = with_caps (replicate (cap_count net) 0) cert.caps;
  mems = with_caps (replicate (mem_count net) 0) cert.mems;
  ties = with_tie_numbers (replicate (number_count net) (pos 0)) cert.ties;
}
