-- MOV from an object's word.
use Rattle.std.proofs.Common.{◌≡◌, ℕ, ◌+◌, List, [], ◌∷◌, length, map, drop, Option, Some, None}
use Rattle.std.proofs.Common.{refl, sym, ap, ◌∙◌, subst}
use Rattle.std.specs.Prelude.{ℤ}
use Rattle.std.specs.Int.{w32}
use Rattle.std.specs.Int.RustNames.{FitsSigned}
use Rattle.pra_list.specs.Results.{◌>>=◌}
use Rattle.ia_code.specs.declared.ins.Rm.TheVariants as rm
use Rattle.ia_code.specs.declared.ins.Ins.{Ins}
use Rattle.ia_code.specs.declared.ins.Ins.TheVariants as ins
use Rattle.ia_emit.specs.declared.item.Operand.{Operand}
use Rattle.ia_emit.specs.declared.item.Operand.TheVariants as at
use Rattle.ia_emit.specs.Emission.{reg_of, address, via_count, index_count}
use Rattle.ia_emit.specs.Operands as emitted
use Rattle.ia_step.specs.Effect.{effect, goes, load, mov, read_rm, write_rm}
use Rattle.ia_step.specs.Run.{Ran}
use Rattle.ia_step.specs.State as machine
use Rattle.pl_place.specs.declared.placed.LInstr.{LInstr}
use Rattle.pl_place.specs.declared.placed.LInstr.TheVariants as placed_
use Rattle.pl_place.specs.declared.placed.LProc.{LProc}
use Rattle.pl_place.specs.Machine.{Cells, proc_of, shape, operands, put, put_all, behind}
use Rattle.pl_place.specs.Placed.{place_in}
use Rattle.pl_place.specs.Valid.{OperandsPlaced, counts_of}
use Rattle.pra_base.specs.declared.code.Addr.{Addr}
use Rattle.pra_base.specs.declared.code.Base.{Base}
use Rattle.pra_base.specs.declared.code.VInstr.{VInstr}
use Rattle.pra_base.specs.declared.code.VInstr.TheVariants as instr
use Rattle.pra_base.specs.declared.ids.Place.{Place}
use Rattle.pra_base.specs.declared.ids.VarId.{VarId}
use Rattle.pra_base.specs.Operands.{read_by}
use Rattle.pra_base.specs.Places.{number as number_of}
use Rattle.pra_base.specs.Valid.{TakesArgs}
use Rattle.vc_code.specs.declared.action.Action.TheVariants as action
use Rattle.vc_code.specs.declared.value.Value.TheVariants.{Num}
use Rattle.vc_code.specs.Operation.{placed}
use Rattle.vc_code.specs.Value.{Held}
use Rattle.vc_code.specs.Machine.{State, After, number_in, with_top}
use Rattle.ia_simulation.specs.Realizes.{IsLoadable, Realizes, Leads}
use Rattle.ia_simulation.proofs.Addresses as addresses
use Rattle.ia_simulation.proofs.Computes as computes
use Rattle.ia_simulation.proofs.Computes.{register_operand}
use Rattle.ia_simulation.proofs.Addressed.{last_of, HasAddress, are_there}
use Rattle.ia_simulation.proofs.Locates.{Placed, places_are}
use Rattle.ia_simulation.proofs.Objects.{loads_object}
use Rattle.ia_simulation.proofs.Ops as ops
use Rattle.ia_simulation.proofs.Ops.{put_done}
use Rattle.ia_simulation.proofs.Rows.{Led}
use Rattle.ia_simulation.proofs.Steps as steps
use Rattle.ia_simulation.proofs.Steps.{found_ok}

-- ---- what valid code says of the places of an address

-- LEA has the same row
located : (p : LProc) (v : VarId) (a : Addr) (l : List Place) →
    OperandsPlaced p (instr.Load v a) l → OperandsPlaced p (instr.Addr v a) l
located p v a l is = record {
  count = is.count;
  allowed = is.allowed;
  in_place = is.in_place;
  pair =
      is.pair;
}

module _ (procs : List LProc) (data_words : ℕ) (ok : IsLoadable procs data_words) (s : State Cells)
    (r : Ran) (y : Realizes procs s r) (o : s.over ≡ None) where
  abbrev p : LProc
  p = proc_of procs s.top.proc

  abbrev P : State Cells → Type 0
  P = Leads procs s r

  abbrev T : ℕ → ℕ → Type 0
  T = TakesArgs (counts_of procs)

  module _ (v : VarId) (b : Base) (off : ℤ) (x : Option VarId) (fits : FitsSigned w32 off)
      (places : _) (more : List LInstr)
      (e : s.top.home.rest ≡ placed_.Op
      (instr.Load v (record { base = b; offset = off; index = x })) places ∷ more) where
    abbrev a : Addr
    a = record { base = b; offset = off; index = x }

    abbrev this : VInstr
    this = instr.Load v a

    abbrev l : List Place
    l = places.items

    abbrev k : ℕ
    k = via_count b + index_count x

    abbrev to : Operand
    to = emitted.operand p v.0 (place_in l k)

    abbrev j : Ins
    j = ins.MovRRm (reg_of to) (rm.Mem (address p a l))

    is_l : OperandsPlaced p this l
    is_l = computes.placed_so procs data_words ok s r y o this places more e

    so : Placed p v off b x l
    so = places_are p v off b x l (located p v a l is_l)

    has : HasAddress this b x l
    has = let z = so.has_address in
        record {
          long = z.long;
          via_is = z.via_is;
          via_there = z.via_there;
          index_is = z.index_is;
          index_there = z.index_there;
          cell_is = z.cell_is;
        }

    abbrev now : machine.State
    now = ops.now procs data_words ok s r y o this places more e j refl

    abbrev held : List Held
    held = operands p s.top (read_by this) (map number_of l)

    are : addresses.InRegisters procs (steps.x procs data_words ok s r y o).backs s.pushed s.top
        s.below s.globals now (steps.x procs data_words ok s r y o).lies b x l held
    are = are_there procs data_words ok s r y o this places more e j refl b x has

    pub loads_it : Led procs data_words ok s r y o this more l
    unfolding effect write_rm read_rm mov
    loads_it ns =
        let run_x = steps.x procs data_words ok s r y o in
        let after : After Cells = behind p this (map number_of l) more s.top in
        ops.bound_ok procs data_words ok s r y o after
        (placed (addresses.here_is procs run_x.backs s.pushed s.top s.below s.globals now
        run_x.lies) a held) (λ t. Some (action.Load t.0 t.1)) ns (λ t te ns.
        found_ok (Leads procs s r) s (number_in (shape procs) s t.0 t.1) _ ns (λ d de ns.
        found_ok (Leads procs s r) s (after (Num d ∷ [])) (with_top s) ns (λ c ce _.
        let place_is = addresses.address_is procs run_x.backs s.pushed s.top s.below s.globals now
        run_x.lies b off x l held fits are t.0 t.1 te in
        let got = loads_object procs run_x.backs s now run_x.lies run_x.waiting
        (steps.few procs data_words ok s r y o) t.0 t.1 d de in
        let n = got.0 in
        let reg = emitted.register_at (place_in l k) in
        let to_is : to ≡ at.Register reg = register_operand p v.0 (place_in l k) so.to_there in
        let long = so.long in
        let last : drop (length (read_by this)) (map number_of l) ≡ place_in l k ∷ [] =
        ap (λ n. drop n (map number_of l)) so.read ∙ last_of l k long in
        let after_it = ops.passed_by procs data_words ok s r y o this places more e in
        let put_it : put p after_it v.0 (place_in l k) (Some (Num d)) ≡ Some c =
        put_done p (put p after_it v.0 (place_in l k) (Some (Num d))) [] [] c
        (ap (λ q. put_all p (Some after_it) (v.0 ∷ []) q (Num d ∷ [])) (sym last) ∙ ce) in
        let wrote = subst (λ q. ops.Writes procs data_words ok s r y o this places more e j refl q n
        c) to_is (ops.writes_here procs data_words ok s r y o this places more e j refl v.0
        (place_in l k) (Num d) n c put_it got.2) in
        ops.gave procs data_words ok s r y o this places more e j refl (at.Register reg) n c
        now.flags wrote
        (computes.lead_on procs data_words ok s r y o this places more e
        (steps.lead procs data_words ok s r y o (placed_.Op this places) more e))
        (ap (λ a. load now a >>= λ v. write_rm now (rm.Reg (reg_of to)) v >>= goes) place_is
        ∙ ap (λ v. v >>= λ v. write_rm now (rm.Reg (reg_of to)) v >>= goes) got.1
        ∙ ap (λ q. write_rm now (rm.Reg (reg_of q)) n >>= goes) to_is
        ∙ ap (λ q. q >>= goes) wrote.is))))
