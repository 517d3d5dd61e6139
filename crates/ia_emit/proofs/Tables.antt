-- The table of the displacements: arguments first, then slot after slot.
use Rattle.std.proofs.Common.{◌≡◌, ◌≢◌, true, false, ℕ, zero, suc, ◌+◌, ◌≤◌, ◌<◌, Bool, List, []}
use Rattle.std.proofs.Common.{◌∷◌, length, Option, Some, None, refl, sym, ap, subst, ◌∙◌, arith}
use Rattle.std.proofs.Common.{◌⊎◌, inl, inr, get_or, cond, eq-eqb}
use Rattle.std.specs.Prelude.{ℤ, nat_eq, slice_get, slice_set, slice_index_or, nat_lt, map}
use Rattle.std.specs.Prelude.{position}
use Rattle.std.specs.List.{position_or_len}
use Rattle.std.specs.Int.{w32, cast_signed, cast_unsigned}
use Rattle.std.specs.Int.RustNames.{FitsSigned}
use Rattle.std.proofs.lemmas.Int.{ints, to_z-of_z}
use Rattle.std.proofs.lemmas.Bool.Decides.{nat_tests}
use Rattle.std.proofs.lemmas.Grind.{common_steps}
use Rattle.std.proofs.lemmas.List.Quantifiers.{position-Some}
use Rattle.std.proofs.lemmas.List.Sums.{fails_before_first}
use Rattle.std.proofs.lemmas.Option.{slice_get-get_or, slice_get_within, get_or_from_slice_get}
use Rattle.pra_list.proofs.Elements.{got_set, got_unset, length_set}
use Rattle.ia_emit.specs.Operands.{slot_at, spot_at, IsTable}
use Rattle.pl_place.specs.declared.placed.LProc.{LProc}
use Rattle.pl_place.specs.Machine.{spot_as}
use Rattle.pl_place.specs.Placed.{kind_of, slot_of}
use Rattle.pl_place.specs.Valid.{IsPlaced}
use Rattle.pra_base.specs.declared.code.VarKind.{VarKind}
use Rattle.pra_base.specs.declared.code.VarKind.TheVariants.{Plain}
use Rattle.pra_base.specs.declared.ids.VarId.{VarId}

-- the displacement of a variable that has no slot
abbrev pub without_slot : LProc → VarKind → ℤ
without_slot p kind = spot_at p.args (spot_as kind None)

-- with the slots below k entered
pub record Entered (p : LProc) (k : ℕ) (table : List ℤ) : Type 0 where
  pub long : length table ≡ length p.vars
  pub slots_are : (j : ℕ) (u : VarId) → j < k → slice_get p.slots j ≡ Some u → slice_get table u.0 ≡
      Some (slot_at j)
  pub others : (v : ℕ) (d : ℤ) → slice_get table v ≡ Some d →
      ((j : ℕ) (u : VarId) → j < k → slice_get p.slots j ≡ Some u → u.0 ≢ v) →
      without_slot p (kind_of p v) ≡ d

length_map : {X Y : Type 0} (f : X → Y) (xs : List X) → length (map f xs) ≡ length xs
length_map f [] = refl
length_map f (x ∷ xs) = ap suc (length_map f xs)

got_map : {X Y : Type 0} (f : X → Y) (xs : List X) (v : ℕ) (y : Y) (d : X) →
    slice_get (map f xs) v ≡ Some y → f (slice_index_or xs v d) ≡ y
got_map f [] v y d e = cc
got_map f (x ∷ xs) zero y d e = cc
got_map f (x ∷ xs) (suc v) y d e = got_map f xs v y d e

pub none_entered : (p : LProc) (table : List ℤ) → table ≡ map (without_slot p) p.vars →
    Entered p 0 table
none_entered p table e = record {
  long = ap length e ∙ length_map (without_slot p) p.vars;
  slots_are = λ j u lt f. absurd (omega (arith, lt));
  others = λ v d f apart. got_map (without_slot p) p.vars v d Plain
      (ap (λ l. slice_get l v) (sym e) ∙ f);
}

module _ (p : LProc) (is : IsPlaced p) where
  slot_in_table : (k : ℕ) (u : VarId) → slice_get p.slots k ≡ Some u → u.0 < length p.vars
  slot_in_table k u e = slice_get_within p.vars u.0 Plain (is.numbers_in_range.slots_plain k u e)

  pub in_table : (k : ℕ) (table : List ℤ) (u : VarId) → Entered p k table → slice_get p.slots k ≡
      Some u → u.0 < length table
  in_table k table u so_far e = let lt = slot_in_table k u e in omega (arith, lt, so_far.long)

  apart_from : (j k : ℕ) (u w : VarId) → slice_get p.slots j ≡ Some u → slice_get p.slots k ≡
      Some w → u.0 ≡ w.0 → j ≡ k
  apart_from j k u w e f same =
      let equal : w ≡ u = ap (λ n. let v : VarId = record { 0 = n } in v) (sym same) in
      is.memory_there.distinct j k u e (f ∙ ap Some equal)

  pub one_entered : (k : ℕ) (old new : List ℤ) (u : VarId) → Entered p k old → slice_get p.slots k ≡
      Some u → new ≡ slice_set old u.0 (slot_at k) → Entered p (k + 1) new
  one_entered k old new u so_far e set = record {
    long = ap length set ∙ length_set old u.0 (slot_at k) ∙ so_far.long;
    slots_are = λ j w lt f. elim (below_or_at j k lt) [
      | inl below ↦
          let other : w.0 ≢ u.0 = λ same. let here = apart_from j k w u f e same in
          absurd (omega (arith, here, below)) in
          ap (λ l. slice_get l w.0) set ∙ got_unset old u.0 w.0 (slot_at k) other
          ∙ so_far.slots_are j w below f
      | inr here ↦
          let same : Some w ≡ Some u = sym f ∙ ap (slice_get p.slots) here ∙ e in
          let variable : w.0 ≡ u.0 = cc in
          ap (λ l. slice_get l w.0) set ∙ ap (slice_get (slice_set old u.0 (slot_at k))) variable
          ∙ got_set old u.0 (slot_at k) (in_table k old u so_far e) ∙ ap (λ n. Some (slot_at n))
          (sym here)
    ];
    others = λ v d f apart.
        let other : v ≢ u.0 = λ same. apart k u (omega arith) e (sym same) in
        so_far.others v d (sym (got_unset old u.0 v (slot_at k) other) ∙ ap (λ l. slice_get l v)
        (sym set) ∙ f)
        (λ j w lt g. apart j w (omega (arith, lt)) g);
  }
    where
      below_or_at : (j k : ℕ) → j < k + 1 → (j < k) ⊎ (j ≡ k)
      below_or_at j k lt = grind arith

  -- all slots entered
  memory_is : (k : ℕ) (table : List ℤ) → length p.slots ≤ k → Entered p k table → (v : ℕ) (d : ℤ) →
      slice_get table v ≡ Some d →
      (slot : Option ℕ) → slot_of p v ≡ slot → spot_at p.args (spot_as (kind_of p v) slot) ≡ d
  memory_is k table le so_far v d e (Some j) there =
      let first = position-Some (λ (u : VarId). nat_eq u.0 v) p.slots j nought there in
      let u = get_or p.slots j nought in
      let got : slice_get p.slots j ≡ Some u = slice_get-get_or p.slots j nought first.0 in
      let named : u.0 ≡ v = grind (arith, nat_tests, first.1) in
      let plain : kind_of p v ≡ Plain = ap (kind_of p) (sym named)
      ∙ get_or_from_slice_get p.vars u.0 Plain Plain (is.numbers_in_range.slots_plain j u got)
      in
      let entered : slice_get table v ≡ Some (slot_at j) = ap (slice_get table) (sym named)
      ∙ so_far.slots_are j u (omega (arith, le, first.0)) got in
      let same : Some (slot_at j) ≡ Some d = sym entered ∙ e in
      ap (λ kind. spot_at p.args (spot_as kind (Some j))) plain ∙ cc
    where
      nought : VarId
      nought = record { 0 = 0 }
  memory_is k table le so_far v d e None there =
      so_far.others v d e (λ j u lt got named. not_there p.slots j u got named there)
    where
      not_there : (slots : List VarId) (j : ℕ) (u : VarId) → slice_get slots j ≡ Some u → u.0 ≡ v →
          position (λ (w : VarId). nat_eq w.0 v) slots ≡ None → ⊥
      not_there slots j u got named none =
          let test : VarId → Bool = λ w. nat_eq w.0 v in
          let inside = slice_get_within slots j u got in
          let is = get_or_from_slice_get slots j u u got in
          let beyond : length slots ≤ position_or_len test slots =
          beyond_none (position_or_len test slots) (length slots) none in
          let fails : nat_eq (get_or slots j u).0 v ≡ false = fails_before_first test slots j u
          (omega (arith, inside, beyond)) in
          let same : nat_eq (get_or slots j u).0 v ≡ true = ap test is ∙ eq-eqb u.0 v named in
          cc
        where
          beyond_none : (n m : ℕ) → cond (nat_lt n m) (Some n) None ≡ None → m ≤ n
          beyond_none n m e = grind (arith, nat_tests, common_steps)

  pub all_entered : (k : ℕ) (table : List ℤ) → length p.slots ≤ k → Entered p k table →
      IsTable p table
  all_entered k table le so_far = λ v d e. memory_is k table le so_far v d e (slot_of p v) refl

slot_fits : (k : ℕ) → k ≤ 16383 → FitsSigned w32 (slot_at k)
slot_fits k le = omega (arith, ints)

pub slot_again : (k : ℕ) (d : ℤ) → k ≤ 16383 → d ≡ slot_at k →
    cast_signed w32 (cast_unsigned w32 d) ≡ slot_at k
slot_again k d le e = to_z-of_z w32 d (subst (FitsSigned w32) (sym e) (slot_fits k le)) ∙ e
