-- LEA.
use Rattle.std.proofs.Common.{◌≡◌, ℕ, suc, ◌+◌, true, List, [], ◌∷◌, length, map, drop, Option}
use Rattle.std.proofs.Common.{Some, None, refl, sym, ap, ◌∙◌, subst, arith}
use Rattle.std.specs.Prelude.{ℤ, slice_index_or}
use Rattle.std.specs.Int.{w32}
use Rattle.std.specs.Int.RustNames.{FitsSigned}
use Rattle.pra_list.proofs.Truths.{itself}
use Rattle.ia_code.specs.declared.ins.Ins.{Ins}
use Rattle.ia_code.specs.declared.ins.Ins.TheVariants as ins
use Rattle.ia_emit.specs.declared.item.Operand.{Operand}
use Rattle.ia_emit.specs.declared.item.Operand.TheVariants as at
use Rattle.ia_emit.specs.Emission.{reg_of, address, via_count, index_count}
use Rattle.ia_emit.specs.Operands as emitted
use Rattle.ia_step.specs.Effect.{effect, goes, write_rm}
use Rattle.ia_step.specs.Registers.{address_of}
use Rattle.ia_step.specs.Run.{Ran}
use Rattle.ia_step.specs.State as machine
use Rattle.pl_place.specs.declared.placed.LInstr.{LInstr}
use Rattle.pl_place.specs.declared.placed.LInstr.TheVariants as placed_
use Rattle.pl_place.specs.declared.placed.LProc.{LProc}
use Rattle.pl_place.specs.Machine.{Cells, proc_of, operands, put, put_all, behind}
use Rattle.pl_place.specs.Placed.{place_in}
use Rattle.pl_place.specs.Valid.{OperandsPlaced, counts_of}
use Rattle.pra_base.specs.Code.{cell_of}
use Rattle.pra_base.specs.declared.code.Addr.{Addr}
use Rattle.pra_base.specs.declared.code.Base.{Base}
use Rattle.pra_base.specs.declared.code.Base.TheVariants as base
use Rattle.pra_base.specs.declared.code.VInstr.{VInstr}
use Rattle.pra_base.specs.declared.code.VInstr.TheVariants as instr
use Rattle.pra_base.specs.declared.ids.Place.{Place}
use Rattle.pra_base.specs.declared.ids.Place.TheVariants as place
use Rattle.pra_base.specs.declared.ids.VarId.{VarId}
use Rattle.pra_base.specs.Operands.{read_by, table, line_writes}
use Rattle.pra_base.specs.Places.{number as number_of, has_register}
use Rattle.pra_base.specs.Valid.{TakesArgs}
use Rattle.vc_code.specs.declared.action.Action.TheVariants as action
use Rattle.vc_code.specs.declared.value.Value.TheVariants.{At}
use Rattle.vc_code.specs.Operation.{placed}
use Rattle.vc_code.specs.Value.{Held}
use Rattle.vc_code.specs.Machine.{State, After}
use Rattle.ia_simulation.specs.Frames.{Means}
use Rattle.ia_simulation.specs.Realizes.{IsLoadable, Realizes, Leads}
use Rattle.ia_simulation.proofs.Addressed.{last_of, HasAddress, are_there}
use Rattle.ia_simulation.proofs.Addresses as addresses
use Rattle.ia_simulation.proofs.Computes as computes
use Rattle.ia_simulation.proofs.Computes.{register_operand}
use Rattle.ia_simulation.proofs.Effects.{ok_same}
use Rattle.ia_simulation.proofs.Masks.{in_mask, allowed_at, is_register}
use Rattle.ia_simulation.proofs.Ops as ops
use Rattle.ia_simulation.proofs.Ops.{put_done}
use Rattle.ia_simulation.proofs.Rows.{Led}
use Rattle.ia_simulation.proofs.Steps as steps

-- ---- what valid code says of the places of an address

module _ (p : LProc) (v : VarId) (off : ℤ) where
  abbrev i : Base → Option VarId → VInstr
  i b x = instr.Addr v (record { base = b; offset = off; index = x })

  pub record Placed (b : Base) (x : Option VarId) (l : List Place) : Type 0 where
    pub has_address : HasAddress (i b x) b x l
    pub to_there : has_register (place_in l (via_count b + index_count x)) ≡ true
    pub long : length l ≡ suc (via_count b + index_count x)
    pub read : length (read_by (i b x)) ≡ via_count b + index_count x

  pub places_are : (b : Base) (x : Option VarId) (l : List Place) → OperandsPlaced p (i b x) l →
      Placed b x l
  places_are (base.Global g) None l is = record {
    has_address = record {
      long = let long = is.count in omega (arith, long);
      via_is = λ w e. cc;
      via_there = λ w e. cc;
      index_is = λ w e. cc;
      index_there = λ w e. cc;
      cell_is = λ n e. ap cell_of e;
    };
    to_there = is_register p v.0 true (slice_index_or l 0 place.Eax)
        ((in_mask (table (i (base.Global g) None)) v.0 (place_in l 0)
        (allowed_at p (i (base.Global g) None) l is 0 _ refl)).0 (itself v.0));
    long = is.count;
    read = refl;
  }
  places_are (base.Global g) (Some z) l is = record {
    has_address = record {
      long = let long = is.count in omega (arith, long);
      via_is = λ w e. cc;
      via_there = λ w e. cc;
      index_is = λ w e. let same : z ≡ w = cc in ap (λ (u : VarId). Some u.0) same;
      index_there = λ w e. is_register p z.0 (line_writes (table (i (base.Global g) (Some z))) z.0)
          (slice_index_or l 0 place.Eax)
          ((in_mask (table (i (base.Global g) (Some z))) z.0 (place_in l 0)
          (allowed_at p (i (base.Global g) (Some z)) l is 0 _ refl)).0 (itself z.0));
      cell_is = λ n e. ap cell_of e;
    };
    to_there = is_register p v.0 true (slice_index_or l 1 place.Eax)
        ((in_mask (table (i (base.Global g) (Some z))) v.0 (place_in l 1)
        (allowed_at p (i (base.Global g) (Some z)) l is 1 _ refl)).1.0 (itself v.0));
    long = is.count;
    read = refl;
  }
  places_are (base.Frame g) None l is = record {
    has_address = record {
      long = let long = is.count in omega (arith, long);
      via_is = λ w e. cc;
      via_there = λ w e. cc;
      index_is = λ w e. cc;
      index_there = λ w e. cc;
      cell_is = λ n e. ap cell_of e;
    };
    to_there = is_register p v.0 true (slice_index_or l 0 place.Eax)
        ((in_mask (table (i (base.Frame g) None)) v.0 (place_in l 0)
        (allowed_at p (i (base.Frame g) None) l is 0 _ refl)).0 (itself v.0));
    long = is.count;
    read = refl;
  }
  places_are (base.Frame g) (Some z) l is = record {
    has_address = record {
      long = let long = is.count in omega (arith, long);
      via_is = λ w e. cc;
      via_there = λ w e. cc;
      index_is = λ w e. let same : z ≡ w = cc in ap (λ (u : VarId). Some u.0) same;
      index_there = λ w e. is_register p z.0 (line_writes (table (i (base.Frame g) (Some z))) z.0)
          (slice_index_or l 0 place.Eax)
          ((in_mask (table (i (base.Frame g) (Some z))) z.0 (place_in l 0)
          (allowed_at p (i (base.Frame g) (Some z)) l is 0 _ refl)).0 (itself z.0));
      cell_is = λ n e. ap cell_of e;
    };
    to_there = is_register p v.0 true (slice_index_or l 1 place.Eax)
        ((in_mask (table (i (base.Frame g) (Some z))) v.0 (place_in l 1)
        (allowed_at p (i (base.Frame g) (Some z)) l is 1 _ refl)).1.0 (itself v.0));
    long = is.count;
    read = refl;
  }
  places_are (base.Cell g) None l is = record {
    has_address = record {
      long = let long = is.count in omega (arith, long);
      via_is = λ w e. cc;
      via_there = λ w e. cc;
      index_is = λ w e. cc;
      index_there = λ w e. cc;
      cell_is = λ n e. ap cell_of e;
    };
    to_there = is_register p v.0 true (slice_index_or l 0 place.Eax)
        ((in_mask (table (i (base.Cell g) None)) v.0 (place_in l 0)
        (allowed_at p (i (base.Cell g) None) l is 0 _ refl)).0 (itself v.0));
    long = is.count;
    read = refl;
  }
  places_are (base.Cell g) (Some z) l is = record {
    has_address = record {
      long = let long = is.count in omega (arith, long);
      via_is = λ w e. cc;
      via_there = λ w e. cc;
      index_is = λ w e. let same : z ≡ w = cc in ap (λ (u : VarId). Some u.0) same;
      index_there = λ w e. is_register p z.0 (line_writes (table (i (base.Cell g) (Some z))) z.0)
          (slice_index_or l 0 place.Eax)
          ((in_mask (table (i (base.Cell g) (Some z))) z.0 (place_in l 0)
          (allowed_at p (i (base.Cell g) (Some z)) l is 0 _ refl)).0 (itself z.0));
      cell_is = λ n e. ap cell_of e;
    };
    to_there = is_register p v.0 true (slice_index_or l 1 place.Eax)
        ((in_mask (table (i (base.Cell g) (Some z))) v.0 (place_in l 1)
        (allowed_at p (i (base.Cell g) (Some z)) l is 1 _ refl)).1.0 (itself v.0));
    long = is.count;
    read = refl;
  }
  places_are (base.Via u) None l is = record {
    has_address = record {
      long = let long = is.count in omega (arith, long);
      via_is = λ w e. let same : u ≡ w = cc in ap (λ (u : VarId). Some u.0) same;
      via_there = λ w e. is_register p u.0 (line_writes (table (i (base.Via u) None)) u.0)
          (slice_index_or l 0 place.Eax)
          ((in_mask (table (i (base.Via u) None)) u.0 (place_in l 0)
          (allowed_at p (i (base.Via u) None) l is 0 _ refl)).0 (itself u.0));
      index_is = λ w e. cc;
      index_there = λ w e. cc;
      cell_is = λ n e. ap cell_of e;
    };
    to_there = is_register p v.0 true (slice_index_or l 1 place.Eax)
        ((in_mask (table (i (base.Via u) None)) v.0 (place_in l 1)
        (allowed_at p (i (base.Via u) None) l is 1 _ refl)).1.0 (itself v.0));
    long = is.count;
    read = refl;
  }
  places_are (base.Via u) (Some z) l is = record {
    has_address = record {
      long = let long = is.count in omega (arith, long);
      via_is = λ w e. let same : u ≡ w = cc in ap (λ (u : VarId). Some u.0) same;
      via_there = λ w e. is_register p u.0 (line_writes (table (i (base.Via u) (Some z))) u.0)
          (slice_index_or l 0 place.Eax)
          ((in_mask (table (i (base.Via u) (Some z))) u.0 (place_in l 0)
          (allowed_at p (i (base.Via u) (Some z)) l is 0 _ refl)).0 (itself u.0));
      index_is = λ w e. let same : z ≡ w = cc in ap (λ (u : VarId). Some u.0) same;
      index_there = λ w e. is_register p z.0 (line_writes (table (i (base.Via u) (Some z))) z.0)
          (slice_index_or l 1 place.Eax)
          ((in_mask (table (i (base.Via u) (Some z))) z.0 (place_in l 1)
          (allowed_at p (i (base.Via u) (Some z)) l is 1 _ refl)).1.0 (itself z.0));
      cell_is = λ n e. ap cell_of e;
    };
    to_there = is_register p v.0 true (slice_index_or l 2 place.Eax)
        ((in_mask (table (i (base.Via u) (Some z))) v.0 (place_in l 2)
        (allowed_at p (i (base.Via u) (Some z)) l is 2 _ refl)).1.1.0 (itself v.0));
    long = is.count;
    read = refl;
  }

module _ (procs : List LProc) (data_words : ℕ) (ok : IsLoadable procs data_words) (s : State Cells)
    (r : Ran) (y : Realizes procs s r) (o : s.over ≡ None) where
  abbrev p : LProc
  p = proc_of procs s.top.proc

  abbrev P : State Cells → Type 0
  P = Leads procs s r

  abbrev T : ℕ → ℕ → Type 0
  T = TakesArgs (counts_of procs)

  module _ (v : VarId) (b : Base) (off : ℤ) (x : Option VarId) (fits : FitsSigned w32 off)
      (places : _) (more : List LInstr)
      (e : s.top.home.rest ≡ placed_.Op
      (instr.Addr v (record { base = b; offset = off; index = x })) places ∷ more) where
    abbrev a : Addr
    a = record { base = b; offset = off; index = x }

    abbrev this : VInstr
    this = instr.Addr v a

    abbrev l : List Place
    l = places.items

    abbrev k : ℕ
    k = via_count b + index_count x

    abbrev to : Operand
    to = emitted.operand p v.0 (place_in l k)

    abbrev j : Ins
    j = ins.Lea (reg_of to) (address p a l)

    is_l : OperandsPlaced p this l
    is_l = computes.placed_so procs data_words ok s r y o this places more e

    so : Placed p v off b x l
    so = places_are p v off b x l is_l

    abbrev now : machine.State
    now = ops.now procs data_words ok s r y o this places more e j refl

    abbrev held : List Held
    held = operands p s.top (read_by this) (map number_of l)

    are : addresses.InRegisters procs (steps.x procs data_words ok s r y o).backs s.pushed s.top
        s.below s.globals now (steps.x procs data_words ok s r y o).lies b x l held
    are = are_there procs data_words ok s r y o this places more e j refl b x so.has_address

    pub locates_it : Led procs data_words ok s r y o this more l
    unfolding effect write_rm
    locates_it ns =
        let run_x = steps.x procs data_words ok s r y o in
        let after : After Cells = behind p this (map number_of l) more s.top in
        ops.bound_ok procs data_words ok s r y o after
        (placed (addresses.here_is procs run_x.backs s.pushed s.top s.below s.globals now
        run_x.lies) a held) (λ t. Some (action.Give (At t.0 t.1))) ns (λ t te ns.
        ops.gives_ok procs data_words ok s r y o after (At t.0 t.1) ns (λ c ce.
        let n = address_of now.regs (address p a l) in
        let means : Means (At t.0 t.1) n = addresses.address_is procs run_x.backs s.pushed s.top
        s.below s.globals now run_x.lies b off x l held fits are t.0 t.1 te in
        let reg = emitted.register_at (place_in l k) in
        let to_is : to ≡ at.Register reg = register_operand p v.0 (place_in l k) so.to_there in
        let long = so.long in
        let last : drop (length (read_by this)) (map number_of l) ≡ place_in l k ∷ [] =
        ap (λ n. drop n (map number_of l)) so.read ∙ last_of l k long in
        let after_it = ops.passed_by procs data_words ok s r y o this places more e in
        let put_it : put p after_it v.0 (place_in l k) (Some (At t.0 t.1)) ≡ Some c =
        put_done p (put p after_it v.0 (place_in l k) (Some (At t.0 t.1))) [] [] c
        (ap (λ q. put_all p (Some after_it) (v.0 ∷ []) q (At t.0 t.1 ∷ [])) (sym last) ∙ ce) in
        let wrote = subst (λ q. ops.Writes procs data_words ok s r y o this places more e j refl q n
        c) to_is (ops.writes_here procs data_words ok s r y o this places more e j refl v.0
        (place_in l k) (At t.0 t.1) n c put_it means) in
        ops.gave procs data_words ok s r y o this places more e j refl (at.Register reg) n c
        now.flags wrote
        (computes.lead_on procs data_words ok s r y o this places more e
        (steps.lead procs data_words ok s r y o (placed_.Op this places) more e))
        (ap (λ q. goes (machine.with_register now (reg_of q) n)) to_is
        ∙ ap goes (ok_same (machine.with_register now reg n)
        (record now { regs = wrote.regs; stack = wrote.stack }) wrote.is))))
