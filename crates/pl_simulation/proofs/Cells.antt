-- What cells hold once one of them is written.
use Rattle.std.proofs.Common.{◌≡◌, ℕ, ⊎_elim, Bool, true, false, ◌||◌, nat_eq, if◌then◌else◌, List}
use Rattle.std.proofs.Common.{[], ◌∷◌, slice_get, slice_set, slice_index_or, Option, Some, None}
use Rattle.std.proofs.Common.{refl, sym, ap, ◌∙◌, zero, suc}
use Rattle.std.specs.List.{list_any}
use Rattle.std.proofs.lemmas.Bool.{cases_eq}
use Rattle.std.proofs.lemmas.List.Quantifiers.{position-Some}
use Rattle.pra_list.proofs.Truths.{true_false, nat_is, itself, if_false}
use Rattle.pra_base.specs.declared.ids.VarId.{VarId}
use Rattle.pra_base.specs.declared.code.VarKind.{VarKind}
use Rattle.pra_base.specs.declared.code.VarKind.TheVariants.{Param, Plain, Constant}
use Rattle.vc_code.specs.Value.{Held, Words}
use Rattle.vc_code.specs.Machine.{Activation, last_get, is_param}
use Rattle.pl_moves.specs.Meaning.{Cell, Register, Memory, Fixed, same_cell}
use Rattle.pl_place.specs.declared.placed.LProc.{LProc}
use Rattle.pl_place.specs.Placed.{kind_of, slot_of}
use Rattle.pl_place.specs.Machine.{Cells, Spot, Slot, Argument, Nowhere, spot, spot_as, in_spot}
use Rattle.pl_place.specs.Machine.{with_regs, with_spot, if_there, at_cell, put_cell}
use Rattle.pra_list.specs.Each.{Each}
use Rattle.pl_simulation.specs.Correspondence.{InFrame, IsCell}
use Rattle.pl_simulation.proofs.Words.{differ, set_get, last_set_get}

-- an argument in whose cell a variable's value is
abbrev pub is_own : LProc → ℕ → Bool
is_own p i = list_any (is_param i) p.vars

-- no two Params name one argument
abbrev pub ParamsApart : LProc → Type 0
ParamsApart p = (v w i : ℕ) → kind_of p v ≡ Param i → kind_of p w ≡ Param i → v ≡ w

abbrev pub HasCells : LProc → Activation Cells → Type 0
HasCells p d = (cell : Cell) → IsCell p cell → (old : Held) × (at_cell p d cell ≡ Some old)

-- ---- spots

abbrev pub same_spot : Spot → Spot → Bool
same_spot (Slot a) (Slot b) = nat_eq a b
same_spot (Argument a) (Argument b) = nat_eq a b
same_spot _ _ = false

-- what spots hold once one of them is written
spot_written : (p : LProc) (d : Activation Cells) (s : Spot) (h old : Held) → InFrame p s →
    in_spot d s ≡ Some old → (t : Spot) → in_spot (with_spot d s h) t ≡
    (if same_spot t s then Some h else in_spot d t)
spot_written p d (Slot k) h old is e (Slot j) = last_set_get d.home.slots k j h old e
spot_written p d (Slot k) h old is e (Argument j) = refl
spot_written p d (Slot k) h old is e Nowhere = refl
spot_written p d (Argument k) h old is e (Slot j) = refl
spot_written p d (Argument k) h old is e (Argument j) = last_set_get d.args k j h old e
spot_written p d (Argument k) h old is e Nowhere = refl
spot_written p d Nowhere h old is e t = absurd is

own_spot : (p : LProc) (s : Spot) → InFrame p s → same_spot s s ≡ true
own_spot p (Slot k) is = itself k
own_spot p (Argument i) is = itself i
own_spot p Nowhere is = absurd is

spots_differ : (v w : VarKind) (a b : Option ℕ) → ((i : ℕ) → v ≡ Param i → w ≡ Param i → ⊥) →
    ((k : ℕ) → a ≡ Some k → b ≡ Some k → ⊥) → same_spot (spot_as v a) (spot_as w b) ≡ false
spots_differ (Param i) (Param j) a b f g = differ i j (λ is. f i refl (ap Param (sym is)))
spots_differ (Param i) Plain a None f g = refl
spots_differ (Param i) Plain a (Some k) f g = refl
spots_differ (Param i) (Constant n) a b f g = refl
spots_differ Plain w None b f g = refl
spots_differ Plain (Param j) (Some k) b f g = refl
spots_differ Plain Plain (Some k) None f g = refl
spots_differ Plain Plain (Some k) (Some l) f g = differ k l (λ is. g k refl (ap Some (sym is)))
spots_differ Plain (Constant n) (Some k) b f g = refl
spots_differ (Constant n) w a b f g = refl

no_slot : VarId
no_slot = record { 0 = 0 }

-- a slot is one variable's
slots_apart : (p : LProc) (v w k : ℕ) → slot_of p v ≡ Some k → slot_of p w ≡ Some k → v ≡ w
slots_apart p v w k e f =
    let a = position-Some (λ (u : VarId). nat_eq u.0 v) p.slots k no_slot e in
    let b = position-Some (λ (u : VarId). nat_eq u.0 w) p.slots k no_slot f in
    sym (nat_is _ v a.1) ∙ nat_is _ w b.1

-- the call with another value in a cell
abbrev pub write : LProc → Activation Cells → Cell → Held → Activation Cells
write p d (Register r) h = with_regs d (slice_set d.home.regs r h)
write p d (Memory v) h = with_spot d (spot p v) h
write p d (Fixed n) h = d

module _ (p : LProc) (params : ParamsApart p) where
  same_memory : (v w : ℕ) → InFrame p (spot p v) → same_spot (spot p w) (spot p v) ≡ nat_eq w v
  same_memory v w is =
      ⊎_elim
      (λ (e : w ≡ v). ap (λ u. same_spot (spot p u) (spot p v)) e ∙ own_spot p (spot p v) is
      ∙ sym (ap (λ u. nat_eq u v) e ∙ itself v))
      (λ (ne : w ≡ v → ⊥). spots_differ (kind_of p w) (kind_of p v) (slot_of p w) (slot_of p v)
      (λ i a b. ne (params w v i a b)) (λ k a b. ne (slots_apart p w v k a b))
      ∙ sym (differ w v ne))
      (cases_eq w v)

  spot_at : (d : Activation Cells) (regs : Words) (s : Spot) → in_spot (with_regs d regs) s ≡
      in_spot d s
  spot_at d regs (Slot k) = refl
  spot_at d regs (Argument i) = refl
  spot_at d regs Nowhere = refl

  regs_at : (d : Activation Cells) (s : Spot) (h : Held) → (with_spot d s h).home.regs ≡ d.home.regs
  regs_at d (Slot k) h = refl
  regs_at d (Argument i) h = refl
  regs_at d Nowhere h = refl

  pub written_cell : (d : Activation Cells) (a : Cell) (h old : Held) → IsCell p a → at_cell p d a ≡
      Some old → (b : Cell) → at_cell p (write p d a h) b ≡
      (if same_cell b a then Some h else at_cell p d b)
  written_cell d (Register r) h old is e (Register q) = set_get d.home.regs r q h old e
  written_cell d (Register r) h old is e (Memory w) = spot_at d (slice_set d.home.regs r h)
      (spot p w)
  written_cell d (Register r) h old is e (Fixed n) = refl
  written_cell d (Memory v) h old is e (Register q) = ap (λ (ws : Words). slice_get ws q)
      (regs_at d (spot p v) h)
  written_cell d (Memory v) h old is e (Memory w) = spot_written p d (spot p v) h old is e
      (spot p w) ∙ ap (λ b. if b then Some h else in_spot d (spot p w)) (same_memory v w is)
  written_cell d (Memory v) h old is e (Fixed n) = refl
  written_cell d (Fixed n) h old is e b = absurd is

  pub same_is : (a : Cell) → IsCell p a → same_cell a a ≡ true
  same_is (Register r) is = itself r
  same_is (Memory v) is = itself v
  same_is (Fixed n) is = absurd is

  pub put_is : (d : Activation Cells) (a : Cell) (h old : Held) → IsCell p a → at_cell p d a ≡
      Some old → put_cell p d a h ≡ Some (write p d a h)
  put_is d (Register r) h old is e = ap (λ o. if_there o (with_regs d (slice_set d.home.regs r h)))
      e
  put_is d (Memory v) h old is e = ap (λ o. if_there o (with_spot d (spot p v) h)) e
  put_is d (Fixed n) h old is e = absurd is

  pub still_there : (d : Activation Cells) (a : Cell) (h : Held) → IsCell p a → HasCells p d →
      HasCells p (write p d a h)
  still_there d a h is there b is_b =
      let law = written_cell d a h (there a is).0 is (there a is).1 b in
      choose (same_cell b a) law
    where
      choose : (t : Bool) → at_cell p (write p d a h) b ≡ (if t then Some h else at_cell p d b) →
          (old : Held) × (at_cell p (write p d a h) b ≡ Some old)
      choose true e = (h, e)
      choose false e = let o = there b is_b in (o.0, e ∙ o.1)

  -- what is in other cells stays
  pub stay : (d : Activation Cells) (a : Cell) (h x : Held) → IsCell p a → HasCells p d →
      (bs : List Cell) → Each (λ b. same_cell b a ≡ false) bs →
      Each (λ b. at_cell p d b ≡ Some x) bs → Each (λ b. at_cell p (write p d a h) b ≡ Some x) bs
  stay d a h x is there [] apart each = tt
  stay d a h x is there (b ∷ bs) apart each = (
    written_cell d a h (there a is).0 is (there a is).1 b ∙ if_false (same_cell b a) (Some h)
        (at_cell p d b) apart.0 ∙ each.0,
    stay d a h x is there bs apart.1 each.1,
  )

-- ---- what else a call has

-- the calls differ in cells that are places of variables, and in nothing else
pub record Alike (p : LProc) (d u : Activation Cells) : Type 0 where
  pub aggregates : u.aggregates ≡ d.aggregates
  pub args : (i : ℕ) → is_own p i ≡ false → last_get u.args i ≡ last_get d.args i
  pub proc : u.proc ≡ d.proc
  pub block : u.home.block ≡ d.home.block
  pub end : u.home.end ≡ d.home.end
  pub rest : u.home.rest ≡ d.home.rest

pub alike_itself : (p : LProc) (d : Activation Cells) → Alike p d d
alike_itself p d = record {
  aggregates = refl;
  args = λ i _. refl;
  proc = refl;
  block = refl;
  end =
      refl;
  rest = refl;
}

pub alike_then : (p : LProc) (a b c : Activation Cells) → Alike p a b → Alike p b c → Alike p a c
alike_then p a b c f g = record {
  aggregates = g.aggregates ∙ f.aggregates;
  args = λ i own. g.args i own ∙ f.args i own;
  proc = g.proc ∙ f.proc;
  block = g.block ∙ f.block;
  end = g.end ∙ f.end;
  rest = g.rest ∙ f.rest;
}

pub param_is : (vars : List VarKind) (v i : ℕ) → slice_index_or vars v Plain ≡ Param i →
    list_any (is_param i) vars ≡ true
param_is [] v i e = cc
param_is (k ∷ vars) zero i e = ap (λ kind. is_param i kind || list_any (is_param i) vars) e
    ∙ ap (λ b. b || list_any (is_param i) vars) (itself i)
param_is (k ∷ vars) (suc v) i e = or_true (is_param i k) (param_is vars v i e)
  where
    or_true : (b : Bool) {c : Bool} → c ≡ true → (b || c) ≡ true
    or_true true e = refl
    or_true false e = e

spot_alike : (p : LProc) (d : Activation Cells) (v : ℕ) (kind : VarKind) → kind_of p v ≡ kind →
    (slot : Option ℕ) (h old : Held) → in_spot d (spot_as kind slot) ≡ Some old →
    Alike p d (with_spot d (spot_as kind slot) h)
spot_alike p d v (Param i) is slot h old e = record {
  aggregates = refl;
  args = λ j own. last_set_get d.args i j h old e
      ∙ if_false (nat_eq j i) (Some h) (last_get d.args j)
      (differ j i (λ same. true_false (is_own p i) (param_is p.vars v i is)
      (ap (is_own p) (sym same) ∙ own)));
  proc = refl;
  block = refl;
  end = refl;
  rest = refl;
}
spot_alike p d v Plain is (Some k) h old e =
    record {
      aggregates = refl;
      args = λ i _. refl;
      proc = refl;
      block = refl;
      end = refl;
      rest =
          refl;
    }
spot_alike p d v Plain is None h old e = alike_itself p d
spot_alike p d v (Constant n) is slot h old e = alike_itself p d

pub alike : (p : LProc) (d : Activation Cells) (a : Cell) (h old : Held) → at_cell p d a ≡
    Some old → Alike p d (write p d a h)
alike p d (Register r) h old e =
    record {
      aggregates = refl;
      args = λ i _. refl;
      proc = refl;
      block = refl;
      end = refl;
      rest =
          refl;
    }
alike p d (Memory v) h old e = spot_alike p d v (kind_of p v) refl (slot_of p v) h old e
alike p d (Fixed n) h old e = alike_itself p d
