-- Rows that are filled from the front.
use Rattle.std.proofs.Common.{◌≡◌, ℕ, suc, ◌^◌, ◌<◌, ℤ, pos, List, length, get_or, set, replicate}
use Rattle.std.proofs.Common.{Option}
use Rattle.std.proofs.Common.{Some, None, refl, get_or-set_same, get_or-set_other, subst, inl}
use Rattle.std.proofs.Common.{inr, arith}
use Rattle.std.proofs.lemmas.Bool.{cases_eq, cases_lt}
use Rattle.std.proofs.lemmas.List.{get_or_past, get_or-replicate}
use Rattle.pra_base.specs.declared.ids.Place.{Place}
use Rattle.pra_base.specs.Places.{number, place_at}
use Rattle.pra_base.proofs.PlaceNumbers.{number_below, place_at-number}
use Rattle.net_cost.specs.declared.weights.Weights.{Weights}
use Rattle.net_cost.specs.Weights.{IsValid}
use Rattle.net_form.specs.declared.net.Net.{Net}
use Rattle.net_form.specs.declared.prices.Prices.{Prices}
use Rattle.net_form.specs.declared.routes.Ends.{Ends}
use Rattle.net_form.specs.declared.taken.Taken.{Taken}
use Rattle.net_form.specs.Admitted.{strand_at}
use Rattle.net_laws.specs.Built.{IsBuilt}
use Rattle.net_dual.specs.Priced.{AreInRange}
use Rattle.net_dual.specs.Leasts.{IsCostWithin, cost_at}
use Rattle.net_plain.specs.Rows.{AreCostsWithin}
use Rattle.net_plain.specs.Rests.{IsRest, AreRests}
use Rattle.net_plain.proofs.LeastRests.{nothing_more}
use Rattle.net_plain.proofs.Whole.{rest_within}

pub set_within : (n : ℕ) (row : List (Option ℤ)) (at : ℕ) (x : Option ℤ) → at < length row
    → AreCostsWithin n row → IsCostWithin n x → AreCostsWithin n (set row at x)
set_within n row at x lt within here k =
    elim (cases_eq k at) as (λ _. IsCostWithin n (get_or (set row at x) k None)) [
      | inl is ↦ rw (is, get_or-set_same row at x None lt) here
      | inr other ↦ rw (get_or-set_other row at k x None other) (within k)
    ]

-- what is left behind each place, by the places' numbers
pub rests_of : (net : Net) (built : IsBuilt net) (prices : Prices) (range : AreInRange net prices)
    (w : Weights) (valid : IsValid w) (ends : Ends) (taken : Taken) (s : ℕ)
    → s < length net.strands → (l : ℕ) (rests : List (Option ℤ)) → length rests ≡ 14
    → ((k : ℕ) → k < 14
    → IsRest net w prices ends taken s l (Some (place_at k)) (cost_at rests k))
    → AreRests net w prices ends taken s l rests
rests_of net built prices range w valid ends taken s lt l rests long each = record {
  long = long;
  each = λ p. subst (λ (q : Place). IsRest net w prices ends taken s l (Some q)
      (cost_at rests (number p))) (place_at-number p) (each (number p) (number_below p));
  within = λ k. elim (cases_lt k 14) as (λ _. IsCostWithin (2 ^ 68) (cost_at rests k)) [
    | inl below ↦ rest_within net built s lt prices range w valid ends taken l
        (Some (place_at k)) (cost_at rests k) (each k below)
    | inr past ↦ rw (get_or_past rests k None (omega arith)) tt
  ];
}

-- behind the last layer nothing is left
pub rests_at_end : (net : Net) (built : IsBuilt net) (prices : Prices)
    (range : AreInRange net prices) (w : Weights) (valid : IsValid w) (ends : Ends) (taken : Taken)
    (s : ℕ)
    → s < length net.strands → (l : ℕ) → l ≡ suc (strand_at net s).last
    → AreRests net w prices ends taken s l (replicate 14 (Some (pos 0)))
rests_at_end net built prices range w valid ends taken s lt l behind =
    rests_of net built prices range w valid ends taken s lt l (replicate 14 (Some (pos 0))) refl
    (λ k below. rw (get_or-replicate 14 k (Some (pos 0)) None below)
    (nothing_more net w prices ends taken s l (Some (place_at k)) behind))
