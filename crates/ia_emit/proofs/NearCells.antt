-- Slots and argument cells lie within the displacements of their procedure: near ones in 8 bits.
use Rattle.std.proofs.Common.{◌≡◌, ◌≢◌, true, ℕ, zero, suc, ◌≤◌, ◌<◌, List, [], ◌∷◌, length, Option}
use Rattle.std.proofs.Common.{Some, None, refl, sym, ap, ◌∙◌, arith}
use Rattle.std.specs.Prelude.{pos, nat_le, slice_get, count_by}
use Rattle.std.proofs.lemmas.Int.{ints}
use Rattle.std.proofs.lemmas.Bool.Decides.{nat_tests}
use Rattle.std.proofs.lemmas.List.Quantifiers.{position-Some}
use Rattle.pra_list.proofs.Choices.{either, and_true}
use Rattle.pra_list.proofs.Counts.{count-yes, count-no, count-cons}
use Rattle.ia_code.specs.declared.ins.Width.TheVariants.{D8, D32}
use Rattle.ia_code.specs.DecodeTable.{Holds}
use Rattle.ia_emit.specs.Operands.{IsSmall, argument_at, slot_at, spot_at, width_of}
use Rattle.ia_emit.proofs.Soundness.{CellsHold}
use Rattle.pl_place.specs.declared.placed.LProc.{LProc}
use Rattle.pl_place.specs.Machine.{spot_as}
use Rattle.pl_place.specs.Placed.{kind_of, slot_of}
use Rattle.pl_place.specs.Valid.{IsPlaced}
use Rattle.pra_base.specs.declared.code.VarKind.{VarKind}
use Rattle.pra_base.specs.declared.code.VarKind.TheVariants.{Param, Plain, Constant}
use Rattle.pra_base.specs.declared.ids.VarId.{VarId}
use Rattle.pra_base.specs.Code.{is_plain}

-- ---- no more slots than local variables

-- the list without a local variable at one place
without : List VarKind → ℕ → List VarKind
without [] k = []
without (x ∷ xs) zero = Param 0 ∷ xs
without (x ∷ xs) (suc k) = x ∷ without xs k

one_less : (xs : List VarKind) (k : ℕ) → slice_get xs k ≡ Some Plain → count_by is_plain xs ≡
    suc (count_by is_plain (without xs k))
unfolding without
one_less [] k e = cc
one_less (x ∷ xs) zero e =
    let plain : is_plain x ≡ true = let same : x ≡ Plain = cc in ap is_plain same in
    let here = count-yes is_plain x xs plain in
    let gone = count-no is_plain (Param 0) xs refl in
    omega (arith, here, gone)
one_less (x ∷ xs) (suc k) e =
    let more = one_less xs k e in
    let here = count-cons is_plain x xs in
    let there = count-cons is_plain x (without xs k) in
    omega (arith, more, here, there)

others_stay : (xs : List VarKind) (k j : ℕ) → j ≢ k → slice_get (without xs k) j ≡ slice_get xs j
unfolding without
others_stay [] k j apart = refl
others_stay (x ∷ xs) zero zero apart = absurd (apart refl)
others_stay (x ∷ xs) zero (suc j) apart = refl
others_stay (x ∷ xs) (suc k) zero apart = refl
others_stay (x ∷ xs) (suc k) (suc j) apart = others_stay xs k j (λ e. apart (ap suc e))

few_slots : (slots : List VarId) (vars : List VarKind) →
    ((k : ℕ) (u : VarId) → slice_get slots k ≡ Some u → slice_get vars u.0 ≡ Some Plain) →
    ((k j : ℕ) (u : VarId) → slice_get slots k ≡ Some u → slice_get slots j ≡ Some u → k ≡ j) →
    length slots ≤ count_by is_plain vars
few_slots [] vars plain apart = omega arith
few_slots (u ∷ slots) vars plain apart =
    let less = one_less vars u.0 (plain 0 u refl) in
    let rest = few_slots slots (without vars u.0)
    (λ k w e. others_stay vars u.0 w.0 (λ same. absurd (other k w e same)) ∙ plain (suc k) w e)
    (λ k j w e f. let next : suc k ≡ suc j = apart (suc k) (suc j) w e f in omega arith) in
    omega (arith, less, rest)
  where
    other : (k : ℕ) (w : VarId) → slice_get slots k ≡ Some w → w.0 ≡ u.0 → ⊥
    other k w e same =
        let equal : w ≡ u = ap (λ n. let v : VarId = record { 0 = n } in v) same in
        let zero_is : 0 ≡ suc k = apart 0 (suc k) u refl (e ∙ ap Some equal) in
        omega arith

-- ---- displacements

slot_holds : (p : LProc) (k : ℕ) → k ≤ 16383 → (p.near ≡ true → k ≤ 28) →
    Holds (width_of p) (slot_at k)
slot_holds p k small few =
    either (λ w. Holds w (slot_at k)) p.near D8 D32 (λ e. let low = few e in omega (arith, ints))
    (λ _. omega (arith, ints))

argument_holds : (p : LProc) (args i : ℕ) → args ≤ 32 → (p.near ≡ true → args ≤ 30) →
    Holds (width_of p) (argument_at args i)
argument_holds p args i small few =
    either (λ w. Holds w (argument_at args i)) p.near D8 D32
    (λ e. let low = few e in omega (arith, ints)) (λ _. omega (arith, ints))

nought_holds : (p : LProc) → Holds (width_of p) (pos 0)
nought_holds p = either (λ w. Holds w (pos 0)) p.near D8 D32 (λ _. omega (arith, ints))
    (λ _. omega (arith, ints))

module _ (p : LProc) (small : IsSmall p) (is : IsPlaced p) where
  near_counts : p.near ≡ true → (count_by is_plain p.vars ≤ 29) × (p.args ≤ 30)
  near_counts e =
      let both = and_true (nat_le (count_by is_plain p.vars) 29) (nat_le p.args 30)
      (sym is.numbers_in_range.near_is ∙ e) in
      (grind (arith, nat_tests, both.0), grind (arith, nat_tests, both.1))

  slots_few : length p.slots ≤ count_by is_plain p.vars
  slots_few = few_slots p.slots p.vars is.numbers_in_range.slots_plain is.memory_there.distinct

  spot_holds : (kind : VarKind) (slot : Option ℕ) → ((k : ℕ) → slot ≡ Some k → k < length p.slots) →
      Holds (width_of p) (spot_at p.args (spot_as kind slot))
  spot_holds (Param i) slot within = argument_holds p p.args i small.args (λ e. (near_counts e).1)
  spot_holds Plain (Some k) within =
      let low = within k refl in
      slot_holds p k (omega (arith, low, small.slots))
      (λ e. let counts = near_counts e in omega (arith, low, slots_few, counts.0))
  spot_holds Plain None within = nought_holds p
  spot_holds (Constant n) slot within = nought_holds p

  pub cells_hold : CellsHold p
  cells_hold v = spot_holds (kind_of p v) (slot_of p v) (λ k e. (position-Some _ p.slots k v_0 e).0)
    where
      v_0 : VarId
      v_0 = record { 0 = 0 }
