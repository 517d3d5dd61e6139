-- Registers at layers by one number.
use Rattle.std.proofs.Common.{ℕ, ◌≡◌, ◌<◌, Bool, true, false, ◌&&◌, eqb, List, get_or, count_by}
use Rattle.std.proofs.Common.{refl, sym, ◌∙◌, arith, true≢false, inl, inr}
use Rattle.std.proofs.lemmas.Bool.{and_right, and_parts, and_from, eqb-true, eq-eqb, cases_Bool}
use Rattle.pra_base.specs.declared.ids.Place.{Place}
use Rattle.pra_base.specs.declared.ids.Place.TheVariants.{Eax, Ecx, Edx, Ebx, Esi, Edi, Mem, Const}
use Rattle.pra_base.specs.declared.ids.Place.TheVariants.{EaxM, EcxM, EdxM, EbxM, EsiM, EdiM}
use Rattle.pra_base.specs.Places.{number, has_register, register_of, register_count}
use Rattle.net_form.specs.declared.net.Net.{Net}
use Rattle.net_form.specs.Flow.{Edge}
use Rattle.net_form.specs.Admitted.{layer_of, uses_bundle}
use Rattle.net_form.specs.Bundles.{bundle_key, bundle_of, comes_to_bundle}
use Rattle.pra_list.proofs.Counts.{count-agree}

pub register_below : (p : Place) → has_register (number p) ≡ true → register_of (number p) <
    register_count
register_below Eax h = omega arith
register_below Ecx h = omega arith
register_below Edx h = omega arith
register_below Ebx h = omega arith
register_below Esi h = omega arith
register_below Edi h = omega arith
register_below Mem h = absurd (true≢false (sym h))
register_below Const h = absurd (true≢false (sym h))
register_below EaxM h = omega arith
register_below EcxM h = omega arith
register_below EdxM h = omega arith
register_below EbxM h = omega arith
register_below EsiM h = omega arith
register_below EdiM h = omega arith

-- one number for one register of one layer
pub same_key : (a r b q : ℕ) → r < register_count → q < register_count → bundle_key a r ≡
    bundle_key b q → (a ≡ b) × (r ≡ q)
same_key a r b q small few same = (omega (arith, same, small, few), omega (arith, same, small, few))

module _ (net : Net) (n r : ℕ) (e : Edge) (small : r < register_count) where
  abbrev comes : Bool
  comes = has_register (number e.to)

  same_test : (b : Bool) → b ≡ comes →
      (eqb (layer_of net e) n && (b && eqb (register_of (number e.to)) r)) ≡
      (b && eqb (bundle_of net e) (bundle_key n r))
  same_test false is = and_right (eqb (layer_of net e) n) false refl
  same_test true is = elim (cases_Bool (eqb (bundle_of net e) (bundle_key n r)))
      as (λ _. (eqb (layer_of net e) n && eqb (register_of (number e.to)) r) ≡ eqb (bundle_of net e)
      (bundle_key n r)) [
        | inl same ↦
            let parts = same_key (layer_of net e) (register_of (number e.to)) n r
            (register_below e.to (sym is)) small (eqb-true _ _ same) in
            and_from (eqb (layer_of net e) n) (eqb (register_of (number e.to)) r)
            (eq-eqb _ _ parts.0)
            (eq-eqb _ _ parts.1) ∙ sym same
        | inr other ↦ elim (cases_Bool
            (eqb (layer_of net e) n && eqb (register_of (number e.to)) r))
            as (λ _. (eqb (layer_of net e) n && eqb (register_of (number e.to)) r) ≡
            eqb (bundle_of net e) (bundle_key n r)) [
              | inl both ↦
                  let parts = and_parts (eqb (layer_of net e) n) (eqb (register_of (number e.to)) r)
                  both in
                  let layer : layer_of net e ≡ n = eqb-true _ _ parts.0 in
                  let register : register_of (number e.to) ≡ r = eqb-true _ _ parts.1 in
                  both ∙ sym (eq-eqb (bundle_of net e) (bundle_key n r)
                  (omega (arith, layer, register)))
              | inr neither ↦ neither ∙ sym other
            ]
      ]

  -- to use a bundle is to come to a register whose key is the bundle's
  pub uses_by_key : uses_bundle net n r e ≡ comes_to_bundle net (bundle_key n r) e
  uses_by_key = same_test comes refl

pub count_by_key : (net : Net) (n r : ℕ) (f : List Edge) → r < register_count →
    count_by (comes_to_bundle net (bundle_key n r)) f ≡ count_by (uses_bundle net n r) f
count_by_key net n r f small =
    sym (count-agree (uses_bundle net n r) (comes_to_bundle net (bundle_key n r)) f
    (λ k d lt. uses_by_key net n r (get_or f k d) small))
