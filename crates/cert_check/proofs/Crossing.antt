-- Edges that stay across an instruction.
use Rattle.std.proofs.Common.{◌≡◌, ℕ, ◌%◌, true, false, not, Some, ap, arith}
use Rattle.std.proofs.lemmas.Bool.{or_left, or_right, eq-eqb}
use Rattle.std.proofs.lemmas.Bool.Decides.{nat_tests}
use Rattle.std.specs.Prelude.{nat_eq}
use Rattle.pra_base.specs.declared.ids.Place.{Place}
use Rattle.pra_base.specs.Places.{number}
use Rattle.net_form.specs.Admitted.{stays_across, is_across}
use Rattle.net_form.specs.Flow.{same_place}
use Rattle.cert_check.specs.Tolls.{edge}

odd : (n : ℕ) → (n ≡ 0 → ⊥) → not (nat_eq n 0) ≡ true
odd n other = let e : nat_eq n 0 ≡ false = grind (arith, nat_tests, other) in ap not e

pub stays_same : (s l : ℕ) (p q : Place) → number p ≡ number q
    → stays_across (edge s l (Some p) q) ≡ true
stays_same s l p q is =
    or_right (not (is_across (edge s l (Some p) q))) (same_place p q)
    (eq-eqb (number p) (number q) is)

pub stays_odd : (s l : ℕ) (p q : Place) → (l % 2 ≡ 0 → ⊥)
    → stays_across (edge s l (Some p) q) ≡ true
stays_odd s l p q is =
    or_left (not (is_across (edge s l (Some p) q))) (same_place p q) (odd (l % 2) is)
