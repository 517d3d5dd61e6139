-- Words of a list that are written.
use Rattle.std.proofs.Common.{◌≡◌, ℕ, zero, suc, ◌-◌, ◌<◌, ◌≤◌, ⊎_elim, Bool, true, false, nat_eq}
use Rattle.std.proofs.Common.{nat_lt, if◌then◌else◌, [], ◌∷◌, length, slice_get, slice_set, Some}
use Rattle.std.proofs.Common.{None, refl, sym, ap, ap₂, ◌∙◌, arith}
use Rattle.std.proofs.lemmas.Bool.{cases_lt}
use Rattle.std.proofs.Math.Dec.{eqb-suc-zero, eqb-zero-suc}
use Rattle.std.proofs.lemmas.Bool.Decides.{nat_tests}
use Rattle.std.proofs.lemmas.List.{length-set}
use Rattle.pra_list.proofs.Truths.{if_true, if_false}
use Rattle.vc_code.specs.Value.{Held, Words}
use Rattle.vc_code.specs.Machine.{last_get, last_set}

pub differ : (i j : ℕ) → (i ≡ j → ⊥) → nat_eq i j ≡ false
differ i j ne = grind (arith, nat_tests)

pub last_inside : (ws : Words) (i : ℕ) (old : Held) → last_get ws i ≡ Some old → i < length ws
last_inside ws i old e = ⊎_elim (λ (lt : i < length ws). lt)
    (λ (le : length ws ≤ i). absurd (none (nat_lt i (length ws)) (grind (arith, nat_tests)) e))
    (cases_lt i (length ws))
  where
    none : (b : Bool) → b ≡ false → (if b then slice_get ws (length ws - 1 - i) else None) ≡
        Some old → ⊥
    none true b e = cc
    none false b e = cc

pub set_get : (ws : Words) (i j : ℕ) (h old : Held) → slice_get ws i ≡ Some old →
    slice_get (slice_set ws i h) j ≡ (if nat_eq j i then Some h else slice_get ws j)
set_get [] i j h old e = cc
set_get (x ∷ ws) zero zero h old e = refl
set_get (x ∷ ws) zero (suc j) h old e =
    sym (if_false (nat_eq (suc j) 0) (Some h) (slice_get ws j) (eqb-suc-zero j))
set_get (x ∷ ws) (suc i) zero h old e =
    sym (if_false (nat_eq 0 (suc i)) (Some h) (Some x) (eqb-zero-suc i))
set_get (x ∷ ws) (suc i) (suc j) h old e =
    let tests : nat_eq j i ≡ nat_eq (suc j) (suc i) = grind (arith, nat_tests) in
    set_get ws i j h old e ∙ ap (λ b. if b then Some h else slice_get ws j) tests

pub last_set_get : (ws : Words) (i j : ℕ) (h old : Held) → last_get ws i ≡ Some old →
    last_get (last_set ws i h) j ≡ (if nat_eq j i then Some h else last_get ws j)
last_set_get ws i j h old e =
    let lt : i < length ws = last_inside ws i old e in
    let there : slice_get ws (length ws - 1 - i) ≡ Some old =
    sym (if_true (nat_lt i (length ws)) (slice_get ws (length ws - 1 - i)) None
    (grind (arith, nat_tests))) ∙ e in
    let long : length (last_set ws i h) ≡ length ws = length-set ws (length ws - 1 - i) h in
    ⊎_elim
    (λ (in_ : j < length ws).
    let is : nat_lt j (length ws) ≡ true = grind (arith, nat_tests) in
    let tests : nat_eq (length ws - 1 - j) (length ws - 1 - i) ≡ nat_eq j i =
    grind (arith, nat_tests) in
    ap (λ n. if nat_lt j n then slice_get (last_set ws i h) (n - 1 - j) else None) long
    ∙ if_true (nat_lt j (length ws)) _ None is
    ∙ set_get ws (length ws - 1 - i) (length ws - 1 - j) h old there
    ∙ ap₂ (λ b o. if b then Some h else o) tests
    (sym (if_true (nat_lt j (length ws)) (slice_get ws (length ws - 1 - j)) None is)))
    (λ (out : length ws ≤ j).
    let is : nat_lt j (length ws) ≡ false = grind (arith, nat_tests) in
    let other : nat_eq j i ≡ false = grind (arith, nat_tests) in
    ap (λ n. if nat_lt j n then slice_get (last_set ws i h) (n - 1 - j) else None) long
    ∙ if_false (nat_lt j (length ws)) _ None is
    ∙ sym (if_false (nat_lt j (length ws)) (slice_get ws (length ws - 1 - j)) None is)
    ∙ sym (if_false (nat_eq j i) (Some h) (last_get ws j) other))
    (cases_lt j (length ws))
