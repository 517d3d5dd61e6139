-- Bundles and places by their numbers.
use Rattle.std.proofs.Common.{ℕ, ◌/◌, ◌%◌, ◌≤◌, ◌≡◌, List, count_by, ℤ, subst, arith, ◌∙◌, sym, ap}
use Rattle.std.proofs.lemmas.Int.{ints}
use Rattle.pra_base.specs.declared.ids.Place.{Place}
use Rattle.pra_base.specs.declared.ids.Place.TheVariants.{Eax, Ecx, Edx, Ebx, Esi, Edi, Mem, Const}
use Rattle.pra_base.specs.declared.ids.Place.TheVariants.{EaxM, EcxM, EdxM, EbxM, EsiM, EdiM}
use Rattle.pra_base.specs.Places.{all_places}
use Rattle.net_form.specs.declared.net.Net.{Net}
use Rattle.net_form.specs.Flow.{Edge, same_place}
use Rattle.net_form.specs.Admitted.{uses_bundle}
use Rattle.net_form.specs.Bundles.{bundle_key, comes_to_bundle}
use Rattle.net_form.proofs.Bundles.{count_by_key}
use Rattle.net_dual.specs.Priced.{total, pay}

-- a bundle that is used once by its layer and register is used once by its number
pub key_once : (net : Net) (f : List Edge) → ((n r : ℕ) → count_by (uses_bundle net n r) f ≤ 1)
    → (k : ℕ) → count_by (comes_to_bundle net k) f ≤ 1
key_once net f once k =
    let key : bundle_key (k / 6) (k % 6) ≡ k = omega arith in
    subst (λ n. n ≤ 1)
    (sym (ap (λ j. count_by (comes_to_bundle net j) f) (sym key)
    ∙ count_by_key net (k / 6) (k % 6) f (omega arith)))
    (once (k / 6) (k % 6))

-- a look-up by a place is a sum over all places of which one pays
pub look-up-place : (g : Place → ℤ) (q : Place)
    → g q ≡ total (λ p. pay (same_place q p) (g p)) all_places
look-up-place g Eax = omega (arith, ints)
look-up-place g Ecx = omega (arith, ints)
look-up-place g Edx = omega (arith, ints)
look-up-place g Ebx = omega (arith, ints)
look-up-place g Esi = omega (arith, ints)
look-up-place g Edi = omega (arith, ints)
look-up-place g Mem = omega (arith, ints)
look-up-place g Const = omega (arith, ints)
look-up-place g EaxM = omega (arith, ints)
look-up-place g EcxM = omega (arith, ints)
look-up-place g EdxM = omega (arith, ints)
look-up-place g EbxM = omega (arith, ints)
look-up-place g EsiM = omega (arith, ints)
look-up-place g EdiM = omega (arith, ints)
