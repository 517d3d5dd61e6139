-- Prices that are listed are in range.
use Rattle.std.proofs.Common.{◌≡◌, ℕ, suc, ◌≤◌, ℤ, pos, ◌-ℤ◌, ◌≤ℤ◌, List, [], ◌∷◌, length, set}
use Rattle.std.proofs.Common.{All, refl, ◌∙◌, length-set}
use Rattle.std.proofs.lemmas.List.Elements.{All-set}
use Rattle.net_form.specs.declared.net.Net.{Net}
use Rattle.net_form.specs.Rooms.{zero_prices}
use Rattle.net_dual.specs.Priced.{AreInRange, most_price}
use Rattle.net_dual.proofs.Ranges.{zero_in_range}
use Rattle.cert_form.specs.declared.certificate.CapAt.{CapAt}
use Rattle.cert_form.specs.declared.certificate.TieAt.{TieAt}
use Rattle.cert_form.specs.declared.certificate.Cert.{Cert}
use Rattle.cert_check.specs.Listed.{AreCaps, AreTieNumbers, HasPrices, with_caps, with_tie_numbers}
use Rattle.cert_check.specs.Listed.{prices_of}

pub length-with_caps : (prices : List ℕ) (xs : List CapAt) → length (with_caps prices xs) ≡
    length prices
length-with_caps prices [] = refl
length-with_caps prices (x ∷ xs) =
    length-with_caps (set prices x.at x.price) xs ∙ length-set prices x.at x.price

pub length-with_numbers : (numbers : List ℤ) (xs : List TieAt)
    → length (with_tie_numbers numbers xs) ≡ length numbers
length-with_numbers numbers [] = refl
length-with_numbers numbers (x ∷ xs) =
    length-with_numbers (set numbers x.at x.number) xs ∙ length-set numbers x.at x.number

caps_most : (count from : ℕ) (prices : List ℕ) (xs : List CapAt) → AreCaps count from xs
    → All (λ c. c ≤ most_price) prices → All (λ c. c ≤ most_price) (with_caps prices xs)
caps_most count from prices [] are all = all
caps_most count from prices (x ∷ xs) are all =
    caps_most count (suc x.at) (set prices x.at x.price) xs are.2
    (All-set (λ c. c ≤ most_price) prices x.at x.price are.1.most all)

-- what holds of each number in range holds of all
numbers_all : (P : ℤ → Type 0)
    → ((z : ℤ) → (pos 0 -ℤ pos most_price) ≤ℤ z → z ≤ℤ pos most_price → P z)
    → (count from : ℕ) (numbers : List ℤ) (xs : List TieAt) → AreTieNumbers count from xs
    → All P numbers → All P (with_tie_numbers numbers xs)
numbers_all P holds count from numbers [] are all = all
numbers_all P holds count from numbers (x ∷ xs) are all =
    numbers_all P holds count (suc x.at) (set numbers x.at x.number) xs are.2
    (All-set P numbers x.at x.number (holds x.number are.1.least are.1.most) all)

pub in_range : (net : Net) (cert : Cert) → HasPrices net cert → AreInRange net (prices_of net cert)
in_range net cert has =
    let zero = zero_in_range net in
    let empty = zero_prices net in
    record {
      caps = length-with_caps empty.caps cert.caps ∙ zero.caps;
      mems = length-with_caps empty.mems cert.mems ∙ zero.mems;
      ties = length-with_numbers empty.ties cert.ties ∙ zero.ties;
      most_cap = caps_most _ 0 empty.caps cert.caps has.caps zero.most_cap;
      most_mem = caps_most _ 0 empty.mems cert.mems has.mems zero.most_mem;
      most_tie = numbers_all (λ z. z ≤ℤ pos most_price) (λ z least most. most) _ 0 empty.ties
          cert.ties has.ties zero.most_tie;
      least_tie = numbers_all (λ z. (pos 0 -ℤ pos most_price) ≤ℤ z) (λ z least most. least) _ 0
          empty.ties cert.ties has.ties zero.least_tie;
    }
