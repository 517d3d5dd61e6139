-- What instructions with an address have in common: the variables of the address are in registers.
use Rattle.std.proofs.Common.{◌≡◌, ℕ, zero, suc, ◌+◌, ◌<◌, ◌≤◌, true, List, [], ◌∷◌, length, map}
use Rattle.std.proofs.Common.{drop, Option, Some, None, refl, sym, ap, ◌∙◌, subst, arith}
use Rattle.std.specs.Prelude.{slice_get, slice_index_or}
use Rattle.ia_code.specs.declared.ins.Ins.{Ins}
use Rattle.ia_emit.specs.declared.item.Item.TheVariants.{Plain}
use Rattle.ia_emit.specs.declared.item.Operand.TheVariants as at
use Rattle.ia_emit.specs.Emission.{emit, via_count, index_count}
use Rattle.ia_emit.specs.Operands as emitted
use Rattle.ia_step.specs.Registers.{get}
use Rattle.ia_step.specs.Run.{Ran}
use Rattle.ia_step.specs.State as machine
use Rattle.pl_place.specs.declared.placed.LInstr.{LInstr}
use Rattle.pl_place.specs.declared.placed.LInstr.TheVariants as placed_
use Rattle.pl_place.specs.declared.placed.LProc.{LProc}
use Rattle.pl_place.specs.Machine.{Cells, proc_of, operand, operands}
use Rattle.pl_place.specs.Placed.{place_in}
use Rattle.pra_base.specs.declared.code.Base.{Base}
use Rattle.pra_base.specs.declared.code.Base.TheVariants as base
use Rattle.pra_base.specs.declared.code.VInstr.{VInstr}
use Rattle.pra_base.specs.declared.ids.Place.{Place}
use Rattle.pra_base.specs.declared.ids.VarId.{VarId}
use Rattle.pra_base.specs.Operands.{read_by}
use Rattle.pra_base.specs.Places.{number as number_of, has_register}
use Rattle.pra_base.specs.Valid.{NamesCell}
use Rattle.vc_code.specs.declared.value.Value.{Value}
use Rattle.vc_code.specs.Operation.{base_count}
use Rattle.vc_code.specs.Value.{Held}
use Rattle.vc_code.specs.Machine.{Activation, State}
use Rattle.ia_simulation.specs.Frames.{Means}
use Rattle.ia_simulation.specs.Realizes.{IsLoadable, Realizes}
use Rattle.ia_simulation.proofs.Addresses as addresses
use Rattle.ia_simulation.proofs.Checks.{bare_has}
use Rattle.ia_simulation.proofs.Computes.{register_operand}
use Rattle.ia_simulation.proofs.Effects.{ok_same}
use Rattle.ia_simulation.proofs.Ops as ops
use Rattle.ia_simulation.proofs.Spots.{read}
use Rattle.ia_simulation.proofs.Standing as standing
use Rattle.ia_simulation.proofs.Start.{bare_there}
use Rattle.ia_simulation.proofs.Steps as steps

-- ---- operands by their numbers

pub operand_at : (p : LProc) (c : Activation Cells) (vs : List ℕ) (l : List Place) (k v : ℕ)
    (d : Value) → slice_get vs k ≡ Some v → k < length l →
    slice_index_or (operands p c vs (map number_of l)) k None ≡ Some d →
    operand p c v (place_in l k) ≡ Some d
operand_at p c [] l k v d e lt h = cc
operand_at p c (w ∷ vs) [] k v d e lt h = absurd (omega (arith, lt))
operand_at p c (w ∷ vs) (a ∷ l) zero v d e lt h = let same : w ≡ v = cc in
    subst (λ v. operand p c v (number_of a) ≡ Some d) same h
operand_at p c (w ∷ vs) (a ∷ l) (suc k) v d e lt h = operand_at p c vs l k v d e (omega (arith, lt))
    h

pub last_of : (l : List Place) (n : ℕ) → length l ≡ suc n → drop n (map number_of l) ≡
    place_in l n ∷ []
last_of [] n e = absurd (omega (arith, e))
last_of (a ∷ []) zero e = refl
last_of (a ∷ b ∷ l) zero e = absurd (omega (arith, e))
last_of (a ∷ l) (suc n) e = last_of l n (omega (arith, e))

pub counts : (b : Base) → base_count b ≡ via_count b
counts (base.Global g) = refl
counts x = refl

-- the variables of the address are the first that the instruction reads, and are in registers
pub record HasAddress (this : VInstr) (b : Base) (x : Option VarId) (l : List Place) : Type 0 where
  pub long : via_count b + index_count x ≤ length l
  pub via_is : (u : VarId) → b ≡ base.Via u → slice_get (read_by this) 0 ≡ Some u.0
  pub via_there : (u : VarId) → b ≡ base.Via u → has_register (place_in l 0) ≡ true
  pub index_is : (u : VarId) → x ≡ Some u → slice_get (read_by this) (via_count b) ≡ Some u.0
  pub index_there : (u : VarId) → x ≡ Some u → has_register (place_in l (via_count b)) ≡ true
  pub cell_is : (n : ℕ) → b ≡ base.Cell n → NamesCell this n

module _ (procs : List LProc) (data_words : ℕ) (ok : IsLoadable procs data_words) (s : State Cells)
    (r : Ran) (y : Realizes procs s r) (o : s.over ≡ None) where
  abbrev p : LProc
  p = proc_of procs s.top.proc

  module _ (this : VInstr) (places : _) (more : List LInstr)
      (e : s.top.home.rest ≡ placed_.Op this places ∷ more) (j : Ins)
      (em : emit p (placed_.Op this places) ≡ Plain j ∷ []) where
    abbrev l : List Place
    l = places.items

    abbrev now : machine.State
    now = ops.now procs data_words ok s r y o this places more e j em

    abbrev held : List Held
    held = operands p s.top (read_by this) (map number_of l)

    -- a variable in a register
    pub in_register : (n u : ℕ) (value : Value) → slice_get (read_by this) n ≡ Some u →
        n < length l → has_register (place_in l n) ≡ true → slice_index_or held n None ≡
        Some value →
        Means value (get now.regs (emitted.register_at (place_in l n)))
    in_register n u value is lt has h =
        let from_is = register_operand p u (place_in l n) has in
        let got = ops.reads_here procs data_words ok s r y o this places more e j em u
        (place_in l n) value (λ z e. let no_number : at.Register
        (emitted.register_at (place_in l n)) ≡ at.Number z = sym from_is ∙ e in cc)
        (operand_at p s.top (read_by this) l n u value is lt h) in
        subst (Means value) (sym
        (ok_same (get now.regs (emitted.register_at (place_in l n))) got.0
        (ap (read now) (sym from_is) ∙ got.1))) got.2

    pub are_there : (b : Base) (x : Option VarId) → HasAddress this b x l →
        addresses.InRegisters procs (steps.x procs data_words ok s r y o).backs s.pushed s.top
        s.below s.globals now (steps.x procs data_words ok s r y o).lies b x l held
    are_there b x so =
        let run_x = steps.x procs data_words ok s r y o in
        let has = standing.instr_is procs s.top.proc s.top.home.block s.top.home.rest s.top.home.end
        (length s.pushed) r.state.eip run_x.stands (placed_.Op this places) more e in
        let bare = bare_has has.0.code run_x.stands.index this places has.2 in
        let cells = (ok.placed.each s.top.proc p run_x.stands.there).numbers_in_range.cells
        s.top.home.block bare.0 this
        (ap (λ l. slice_get l bare.0) (bare_there p.blocks s.top.home.block has.0 has.1)
        ∙ bare.1) in
        let long = so.long in
        record {
          via = λ u is value h. let one = ap via_count is in
              in_register 0 u.0 value (so.via_is u is) (omega (arith, long, one))
              (so.via_there u is) h;
          index = λ u is value h.
              let count = counts b in
              let one = ap index_count is in
              in_register (via_count b) u.0 value (so.index_is u is) (omega (arith, long, one))
              (so.index_there u is) (ap (λ n. slice_index_or held n None) (sym count) ∙ h);
          cell = λ n is. cells n (so.cell_is n is);
        }
