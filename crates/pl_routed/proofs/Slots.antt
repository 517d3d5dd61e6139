-- A variable that is brought to memory has memory in the frame.
use Rattle.std.proofs.Common.{◌≡◌, ℕ, ◌+◌, ◌<◌, ⊎_elim, Bool, true, false, not, ◌||◌, cond, nat_eq}
use Rattle.std.proofs.Common.{nat_lt, List, [], ◌∷◌, length, map, slice_get, slice_index_or, Some}
use Rattle.std.proofs.Common.{None, refl, sym, ap, subst, ◌∙◌, arith}
use Rattle.std.specs.List.{list_any, position_or_len}
use Rattle.std.proofs.lemmas.Bool.Decides.{nat_tests}
use Rattle.std.proofs.lemmas.Option.{slice_get-get_or}
use Rattle.pra_list.specs.Among.{Among}
use Rattle.pra_base.specs.declared.ids.VarId.{VarId}
use Rattle.pra_base.specs.declared.code.VarKind.{VarKind}
use Rattle.pra_base.specs.declared.code.VarKind.TheVariants.{Param, Plain, Constant}
use Rattle.pra_base.specs.declared.code.VProc.{VProc}
use Rattle.pra_base.specs.Code.{kind_of}
use Rattle.pra_base.specs.Valid.{IsSized}
use Rattle.pl_moves.specs.Assignment.{suits}
use Rattle.pl_moves.specs.Meaning.{Memory}
use Rattle.pl_place.specs.declared.placed.LProc.{LProc}
use Rattle.pl_place.specs.Placed.{slot_of}
use Rattle.pl_place.specs.Placed as placed
use Rattle.pl_place.specs.Behind.{constant}
use Rattle.pl_place.specs.Machine.{Slot, Argument, spot, spot_as, slotted}
use Rattle.pl_simulation.specs.Correspondence.{InFrame, IsCell}
use Rattle.pra_list.proofs.Among.{of_map}

pub any_in : {X : Type 0} (p : X → Bool) (xs : List X) (x : X) → Among x xs → p x ≡ true →
    list_any p xs ≡ true
any_in p [] x i e = absurd i
any_in p (y ∷ ys) x i e =
    ⊎_elim (λ (same : x ≡ y). first (p y) (list_any p ys) (sym (ap p same) ∙ e))
    (λ (more : Among x ys). later (p y) (list_any p ys) (any_in p ys x more e)) i
  where
    first : (b c : Bool) → b ≡ true → (b || c) ≡ true
    first true c e = refl
    first false c e = cc

    later : (b c : Bool) → c ≡ true → (b || c) ≡ true
    later true c e = refl
    later false c e = e

position_in : {X : Type 0} (p : X → Bool) (xs : List X) (x : X) → Among x xs → p x ≡ true →
    position_or_len p xs < length xs
position_in p [] x i e = absurd i
position_in p (y ∷ ys) x i e = by_test (p y) refl (λ more. position_in p ys x more e)
  where
    true_false : (b : Bool) → b ≡ true → b ≡ false → ⊥
    true_false b e f = cc

    by_test : (b : Bool) → p y ≡ b → (Among x ys → position_or_len p ys < length ys) →
        cond (not b) (1 + position_or_len p ys) 0 < length (y ∷ ys)
    by_test true t ih = omega arith
    by_test false t ih = ⊎_elim
        (λ (same : x ≡ y). absurd (true_false (p y) (sym (ap p same) ∙ e) t))
        (λ (more : Among x ys). let lt = ih more in omega (arith, lt)) i

-- a variable that is among the slots has one
pub slot_there : (p : LProc) (v : ℕ) → Among v (map (λ (u : VarId). u.0) p.slots) → (k : ℕ) ×
    (slot_of p v ≡ Some k) × (k < length p.slots)
slot_there p v i =
    let u = of_map (λ (u : VarId). u.0) p.slots v i in
    let test : VarId → Bool = λ w. nat_eq w.0 v in
    let is : nat_eq u.0.0 v ≡ true = (let e = u.2 in grind (arith, nat_tests)) in
    let lt = position_in test p.slots u.0 u.1 is in
    let inside : nat_lt (position_or_len test p.slots) (length p.slots) ≡ true =
    grind (arith, nat_tests) in (
      position_or_len test p.slots,
      ap (λ b. cond b (Some (position_or_len test p.slots)) None)
          inside,
      lt,
    )

kind_there : (vars : List VarKind) (v : ℕ) → v < length vars → slice_get vars v ≡
    Some (slice_index_or vars v Plain)
kind_there vars v lt = slice_get-get_or vars v Plain lt

-- a Param has its argument's cell, a Plain variable with a slot that
pub memory_of : (code : VProc) (p : LProc) → IsSized code → p.vars ≡ code.vars →
    p.args ≡ code.args → (v : ℕ) → v < length code.vars → (kind : VarKind) → kind_of code v ≡ kind →
    (kind ≡ Plain → Among v (map (λ (u : VarId). u.0) p.slots)) → suits (constant kind) 6 ≡ true →
    IsCell p (Memory v)
memory_of code p sized vars args v lt (Param i) e slot ok =
    let same : placed.kind_of p v ≡ Param i = ap (λ (ks : List VarKind). slice_index_or ks v Plain)
    vars ∙ e in
    let inside : i < code.args = sized.params_in_range v i (kind_there code.vars v lt ∙ ap Some e)
    in
    let here : spot p v ≡ Argument i = ap (λ k. spot_as k (slot_of p v)) same in
    subst (InFrame p) (sym here) (let many : i < p.args = omega (arith, inside, args) in many)
memory_of code p sized vars args v lt Plain e slot ok =
    let same : placed.kind_of p v ≡ Plain = ap (λ (ks : List VarKind). slice_index_or ks v Plain)
    vars ∙ e in
    let s = slot_there p v (slot refl) in
    let here : spot p v ≡ Slot s.0 = ap (λ k. spot_as k (slot_of p v)) same ∙ ap slotted s.1 in
    subst (InFrame p) (sym here) s.2
memory_of code p sized vars args v lt (Constant n) e slot ok = cc
