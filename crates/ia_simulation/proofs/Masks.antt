-- What the masks of valid placed code say of the machine's operands.
use Rattle.std.proofs.Common.{◌≡◌, ℕ, Bool, true, false, List, [], ◌∷◌, ◌++◌, Some, refl}
use Rattle.std.specs.Prelude.{nat_lt, if◌then◌else◌, fold, count_by, slice_get}
use Rattle.ia_emit.proofs.Soundness.{allowed_first, allowed_second}
use Rattle.pra_list.proofs.Choices.{either}
use Rattle.ia_code.specs.declared.ins.MemAddr.{MemAddr}
use Rattle.ia_code.specs.declared.ins.Reg.{Reg}
use Rattle.ia_code.specs.declared.ins.Reg.TheVariants.{Eax}
use Rattle.ia_emit.specs.declared.item.Operand.TheVariants.{Register, Memory, Number}
use Rattle.ia_emit.specs.Operands.{register_at, operand, cell}
use Rattle.pl_place.specs.declared.placed.LProc.{LProc}
use Rattle.pl_place.specs.Placed.{kind_of, place_in}
use Rattle.pl_place.specs.Valid.{OperandsPlaced, roles}
use Rattle.pra_base.specs.declared.code.VInstr.{VInstr}
use Rattle.pra_base.specs.declared.ids.Place.{Place}
use Rattle.pra_base.specs.declared.ids.Place.TheVariants as place
use Rattle.pra_base.specs.Operands.{R, M, Role, Line, is_role_of, is_star_of, meets, common}
use Rattle.pra_base.specs.Operands.{all_roles, but_memory, mask_of, own_places, every}
use Rattle.pra_base.specs.Places.{number, has_register, is_mem, allows, meet, only, with_both, ◌∪◌}
use Rattle.ia_simulation.proofs.Effects.{IsPlace, OneInMemory}

-- the place is in the mask of each role of the variable
abbrev pub AllowedBy : ℕ → List Role → ℕ → Type 0
AllowedBy v [] q = Unit {0}
AllowedBy v (r ∷ rs) q = (is_role_of v r ≡ true → allows r.mask q ≡ true) × AllowedBy v rs q

met : (b : Bool) (m n q : ℕ) → allows (if b then meet m n else m) q ≡ true → (allows m q ≡ true) ×
    (b ≡ true → allows n q ≡ true)
met true m n q e = (allowed_first m n q e, λ _. allowed_second m n q e)
met false m n q e = (e, λ f. cc)

allowed_by_all : (v m : ℕ) (rs : List Role) (q : ℕ) → allows (fold (meets v) m rs) q ≡ true →
    (allows m q ≡ true) × AllowedBy v rs q
allowed_by_all v m [] q e = (e, tt)
allowed_by_all v m (r ∷ rs) q e =
    let rest = allowed_by_all v (meets v m r) rs q e in
    let here = met (is_role_of v r) m r.mask q rest.0 in
    (here.0, (here.1, rest.1))

pub in_mask : (l : Line) (v q : ℕ) → allows (mask_of l v) q ≡ true → AllowedBy v (all_roles l) q
in_mask l v q e =
    let m = common (all_roles l) v in
    let all : allows m q ≡ true =
    either (λ n. allows n q ≡ true → allows m q ≡ true)
    (nat_lt 1 (count_by (is_star_of v) (l.reads ++ l.writes))) (but_memory m) m
    (λ _. allowed_first m _ q) (λ _ e. e) e in
    (allowed_by_all v every (all_roles l) q all).1

-- role k of an instruction lets its place be there
pub allowed_at : (p : LProc) (i : VInstr) (places : List Place) → OperandsPlaced p i places →
    (k : ℕ) (role : Role) → slice_get (roles i) k ≡ Some role →
    allows role.mask (place_in places k) ≡ true
allowed_at p i places is k role e = allowed_first role.mask (own_places (kind_of p role.var))
    (place_in places k) (is.allowed k role e)

-- ---- operands

module _ (p : LProc) (v : ℕ) where
  widened_place : (q : Place) → allows (with_both (R ∪ M)) (number q) ≡ true →
      IsPlace (operand p v (number q))
  widened_place place.Const e = cc
  widened_place x e = tt

  narrow_place : (q : Place) → allows (R ∪ M) (number q) ≡ true → IsPlace (operand p v (number q))
  narrow_place place.Const e = cc
  narrow_place x e = tt

  -- a register or memory
  pub is_place : (b : Bool) (q : Place) → allows (if b then R ∪ M else with_both (R ∪ M))
      (number q) ≡ true → IsPlace (operand p v (number q))
  is_place true q e = narrow_place q e
  is_place false q e = widened_place q e

  widened_register : (q : Place) → allows (with_both R) (number q) ≡ true →
      has_register (number q) ≡ true
  widened_register place.Mem e = cc
  widened_register place.Const e = cc
  widened_register x e = refl

  narrow_register : (q : Place) → allows R (number q) ≡ true → has_register (number q) ≡ true
  narrow_register place.Mem e = cc
  narrow_register place.Const e = cc
  narrow_register x e = refl

  -- a register
  pub is_register : (b : Bool) (q : Place) → allows (if b then R else with_both R) (number q) ≡
      true → has_register (number q) ≡ true
  is_register true q e = narrow_register q e
  is_register false q e = widened_register q e

one_of : (a b c d : Bool) (r q : Reg) (x y : MemAddr) (m n : _) → (b ≡ true → d ≡ false) →
    OneInMemory (if a then Register r else if b then Memory x else Number m)
    (if c then Register q else if d then Memory y else Number n)
one_of true b c d r q x y m n f = tt
one_of false false c d r q x y m n f = tt
one_of false true true d r q x y m n f = tt
one_of false true false true r q x y m n f = let none = f refl in cc
one_of false true false false r q x y m n f = tt

-- of two operands of the memory pair one is in memory at most
pub one_in_memory : (p : LProc) (v w q t : ℕ) → (is_mem q ≡ true → is_mem t ≡ false) →
    OneInMemory (operand p v q) (operand p w t)
one_in_memory p v w q t f = one_of (has_register q) (is_mem q) (has_register t) (is_mem t)
    (register_at q) (register_at t) (cell p v) (cell p w) _ _ f

-- EAX alone
pub in_eax : (p : LProc) (v : ℕ) (b : Bool) (q : Place) →
    allows (if b then only place.Eax else with_both (only place.Eax)) (number q) ≡ true →
    operand p v (number q) ≡ Register Eax
in_eax p v true place.Eax e = refl
in_eax p v true place.Ecx e = cc
in_eax p v true place.Edx e = cc
in_eax p v true place.Ebx e = cc
in_eax p v true place.Esi e = cc
in_eax p v true place.Edi e = cc
in_eax p v true place.Mem e = cc
in_eax p v true place.Const e = cc
in_eax p v true place.EaxM e = cc
in_eax p v true place.EcxM e = cc
in_eax p v true place.EdxM e = cc
in_eax p v true place.EbxM e = cc
in_eax p v true place.EsiM e = cc
in_eax p v true place.EdiM e = cc
in_eax p v false place.Eax e = refl
in_eax p v false place.Ecx e = cc
in_eax p v false place.Edx e = cc
in_eax p v false place.Ebx e = cc
in_eax p v false place.Esi e = cc
in_eax p v false place.Edi e = cc
in_eax p v false place.Mem e = cc
in_eax p v false place.Const e = cc
in_eax p v false place.EaxM e = refl
in_eax p v false place.EcxM e = cc
in_eax p v false place.EdxM e = cc
in_eax p v false place.EbxM e = cc
in_eax p v false place.EsiM e = cc
in_eax p v false place.EdiM e = cc
