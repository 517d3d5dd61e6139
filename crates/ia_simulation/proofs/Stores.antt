-- MOV to an object's word.
use Rattle.std.proofs.Common.{◌≡◌, ℕ, suc, ◌+◌, ◌^◌, ◌%◌, ◌≤◌, Bool, true, false, List, [], ◌∷◌}
use Rattle.std.proofs.Common.{◌++◌, length, map, Option, Some, None, refl, sym, ap, ◌∙◌, subst}
use Rattle.std.proofs.Common.{arith, ◌-◌, ◌/◌, length-append}
use Rattle.std.specs.Prelude.{ℤ, Ok, slice_get, slice_index_or, if◌then◌else◌, slice_set}
use Rattle.std.specs.Int.{w32}
use Rattle.std.specs.Int.RustNames.{FitsSigned}
use Rattle.pra_list.proofs.Elements.{length_set}
use Rattle.pra_list.proofs.Truths.{itself}
use Rattle.pra_list.specs.Results.{◌>>=◌}
use Rattle.ia_code.specs.declared.ins.Rm.TheVariants as rm
use Rattle.ia_code.specs.declared.ins.Ins.{Ins}
use Rattle.ia_emit.specs.declared.item.Item.TheVariants.{Plain}
use Rattle.ia_emit.specs.declared.item.Operand.{Operand}
use Rattle.ia_emit.specs.declared.item.Operand.TheVariants as at
use Rattle.ia_code.specs.declared.ins.MemAddr.{MemAddr}
use Rattle.ia_code.specs.DecodeTable.{IsSound}
use Rattle.ia_code.specs.Regions.{data_base, stack_base}
use Rattle.ia_emit.specs.Emission.{address, via_count, index_count, store as store_it}
use Rattle.ia_emit.specs.Operands as emitted
use Rattle.ia_step.specs.Effect.{effect, goes, mov, store, write_rm}
use Rattle.ia_step.specs.declared.out.StepOut.TheVariants as out
use Rattle.ia_step.specs.Memory.{with_word}
use Rattle.ia_step.proofs.MemoryWords.{length_put}
use Rattle.ia_step.specs.Registers.{get}
use Rattle.ia_step.specs.Run.{Ran, run_end}
use Rattle.ia_step.specs.State as machine
use Rattle.pl_place.specs.declared.placed.LInstr.{LInstr}
use Rattle.pl_place.specs.declared.placed.LInstr.TheVariants as placed_
use Rattle.pl_place.specs.declared.placed.LProc.{LProc}
use Rattle.pl_place.specs.Machine.{Cells, proc_of, shape, operands, behind}
use Rattle.pl_place.specs.Placed.{place_in}
use Rattle.pl_place.specs.Valid.{OperandsPlaced, counts_of}
use Rattle.pra_base.specs.Code.{cell_of}
use Rattle.pra_base.specs.declared.code.Addr.{Addr}
use Rattle.pra_base.specs.declared.code.Base.{Base}
use Rattle.pra_base.specs.declared.code.Base.TheVariants as base
use Rattle.pra_base.specs.declared.code.VInstr.{VInstr}
use Rattle.pra_base.specs.declared.code.VInstr.TheVariants as instr
use Rattle.pra_base.specs.declared.ids.Place.{Place}
use Rattle.pra_base.specs.declared.ids.Place.TheVariants as place
use Rattle.pra_base.specs.declared.ids.VarId.{VarId}
use Rattle.pra_base.specs.Operands.{R, K, read_by, table, line_writes}
use Rattle.pra_base.specs.Places.{number as number_of, allows, has_register, with_both, ◌∪◌}
use Rattle.pra_base.specs.Valid.{TakesArgs}
use Rattle.vc_code.specs.declared.action.Action.TheVariants as action
use Rattle.vc_code.specs.declared.value.Object.{Object}
use Rattle.vc_code.specs.declared.value.Object.TheVariants.{Data, Aggregates, Cell}
use Rattle.vc_code.specs.declared.value.Value.TheVariants.{Num}
use Rattle.vc_code.specs.Operation.{base_count, number_at, placed}
use Rattle.vc_code.specs.Value.{Held}
use Rattle.vc_code.specs.Machine.{Activation, State, After, object, with_calls, with_object}
use Rattle.vc_code.specs.Machine.{with_top, word_at}
use Rattle.vc_code.specs.Operation as low
use Rattle.pra_base.specs.Words.{word}
use Rattle.ia_simulation.specs.Frames.{Means, Stacked, base_of, frames}
use Rattle.ia_simulation.specs.Realizes.{IsLoadable, RegistersHold, Lies, Runs, Realizes, Leads}
use Rattle.ia_simulation.proofs.Addresses as addresses
use Rattle.ia_simulation.proofs.Computes as computes
use Rattle.ia_simulation.proofs.Computes.{register_operand}
use Rattle.ia_simulation.proofs.Effects.{ok_same}
use Rattle.ia_simulation.proofs.Addressed.{operand_at, counts, are_there}
use Rattle.ia_simulation.proofs.Cells.{get_inside, set_back, store_cell, store_word}
use Rattle.ia_simulation.proofs.Changed.{Stored, stored, same_depth, same_ebp, sizes_alike}
use Rattle.ia_simulation.proofs.Changed.{stands_alike, waits_alike}
use Rattle.ia_simulation.proofs.Objects.{all_sized, word_is}
use Rattle.ia_simulation.proofs.Sizes.{live_long}
use Rattle.ia_simulation.proofs.Spots.{data_below, few_words}
use Rattle.ia_simulation.proofs.Masks.{in_mask, allowed_at, is_register}
use Rattle.ia_simulation.proofs.Ops as ops
use Rattle.ia_simulation.proofs.Ops.{number_is}
use Rattle.ia_simulation.proofs.Rows.{Led}
use Rattle.ia_simulation.proofs.Spots.{read}
use Rattle.ia_simulation.proofs.Steps as steps
use Rattle.ia_simulation.proofs.Steps.{found_ok}

-- ---- what is stored is a register or a number

abbrev IsValue : Operand → Type 0
IsValue (at.Register r) = Unit {0}
IsValue (at.Memory a) = ⊥
IsValue (at.Number n) = Unit {0}

module _ (p : LProc) (v : ℕ) where
  value_narrow : (q : Place) → allows (R ∪ K) (number_of q) ≡ true →
      IsValue (emitted.operand p v (number_of q))
  value_narrow place.Mem e = cc
  value_narrow place.EaxM e = cc
  value_narrow place.EcxM e = cc
  value_narrow place.EdxM e = cc
  value_narrow place.EbxM e = cc
  value_narrow place.EsiM e = cc
  value_narrow place.EdiM e = cc
  value_narrow x e = tt

  value_wide : (q : Place) → allows (with_both (R ∪ K)) (number_of q) ≡ true →
      IsValue (emitted.operand p v (number_of q))
  value_wide place.Mem e = cc
  value_wide x e = tt

  is_value : (b : Bool) (q : Place) → allows (if b then R ∪ K else with_both (R ∪ K))
      (number_of q) ≡ true → IsValue (emitted.operand p v (number_of q))
  is_value true q e = value_narrow q e
  is_value false q e = value_wide q e

stores_value : (m : machine.State) (a : MemAddr) (from : Operand) (n : ℕ) → IsValue from →
    read m from ≡ Ok n → effect m (store_it a from) ≡ write_rm m (rm.Mem a) n >>= goes
unfolding effect mov
stores_value m a (at.Register r) n is e = ap (λ k. write_rm m (rm.Mem a) k >>= goes)
    (ok_same (get m.regs r) n e)
stores_value m a (at.Memory b) n is e = absurd is
stores_value m a (at.Number k) n is e = ap (λ k. write_rm m (rm.Mem a) k >>= goes)
    (ok_same (word k) n e)

-- ---- what valid code says of the places

module _ (p : LProc) (v : VarId) (off : ℤ) where
  abbrev i : Base → Option VarId → VInstr
  i b x = instr.Store (record { base = b; offset = off; index = x }) v

  pub record Placed (b : Base) (x : Option VarId) (l : List Place) : Type 0 where
    pub via_there : (u : VarId) → b ≡ base.Via u → has_register (place_in l 0) ≡ true
    pub index_there : (u : VarId) → x ≡ Some u → has_register (place_in l (via_count b)) ≡ true
    pub from_there : IsValue (emitted.operand p v.0 (place_in l (via_count b + index_count x)))
    pub long : length l ≡ suc (via_count b + index_count x)
    pub via_is : (u : VarId) → b ≡ base.Via u → slice_get (read_by (i b x)) 0 ≡ Some u.0
    pub index_is : (u : VarId) → x ≡ Some u → slice_get (read_by (i b x)) (via_count b) ≡ Some u.0
    pub from_is : slice_get (read_by (i b x)) (via_count b + index_count x) ≡ Some v.0

  places_are : (b : Base) (x : Option VarId) (l : List Place) → OperandsPlaced p (i b x) l →
      Placed b x l
  places_are (base.Global g) None l is = record {
    via_there = λ w e. cc;
    index_there = λ w e. cc;
    from_there = is_value p v.0 (line_writes (table (i (base.Global g) None)) v.0)
        (slice_index_or l 0 place.Eax)
        ((in_mask (table (i (base.Global g) None)) v.0 (place_in l 0)
        (allowed_at p (i (base.Global g) None) l is 0 _ refl)).0 (itself v.0));
    long = is.count;
    via_is = λ w e. cc;
    index_is = λ w e. cc;
    from_is = refl;
  }
  places_are (base.Global g) (Some z) l is = record {
    via_there = λ w e. cc;
    index_there = λ w e. is_register p z.0 (line_writes (table (i (base.Global g) (Some z))) z.0)
        (slice_index_or l 0 place.Eax)
        ((in_mask (table (i (base.Global g) (Some z))) z.0 (place_in l 0)
        (allowed_at p (i (base.Global g) (Some z)) l is 0 _ refl)).0 (itself z.0));
    from_there = is_value p v.0 (line_writes (table (i (base.Global g) (Some z))) v.0)
        (slice_index_or l 1 place.Eax)
        ((in_mask (table (i (base.Global g) (Some z))) v.0 (place_in l 1)
        (allowed_at p (i (base.Global g) (Some z)) l is 1 _ refl)).1.0 (itself v.0));
    long = is.count;
    via_is = λ w e. cc;
    index_is = λ w e. let same : z ≡ w = cc in ap (λ (u : VarId). Some u.0) same;
    from_is = refl;
  }
  places_are (base.Frame g) None l is = record {
    via_there = λ w e. cc;
    index_there = λ w e. cc;
    from_there = is_value p v.0 (line_writes (table (i (base.Frame g) None)) v.0)
        (slice_index_or l 0 place.Eax)
        ((in_mask (table (i (base.Frame g) None)) v.0 (place_in l 0)
        (allowed_at p (i (base.Frame g) None) l is 0 _ refl)).0 (itself v.0));
    long = is.count;
    via_is = λ w e. cc;
    index_is = λ w e. cc;
    from_is = refl;
  }
  places_are (base.Frame g) (Some z) l is = record {
    via_there = λ w e. cc;
    index_there = λ w e. is_register p z.0 (line_writes (table (i (base.Frame g) (Some z))) z.0)
        (slice_index_or l 0 place.Eax)
        ((in_mask (table (i (base.Frame g) (Some z))) z.0 (place_in l 0)
        (allowed_at p (i (base.Frame g) (Some z)) l is 0 _ refl)).0 (itself z.0));
    from_there = is_value p v.0 (line_writes (table (i (base.Frame g) (Some z))) v.0)
        (slice_index_or l 1 place.Eax)
        ((in_mask (table (i (base.Frame g) (Some z))) v.0 (place_in l 1)
        (allowed_at p (i (base.Frame g) (Some z)) l is 1 _ refl)).1.0 (itself v.0));
    long = is.count;
    via_is = λ w e. cc;
    index_is = λ w e. let same : z ≡ w = cc in ap (λ (u : VarId). Some u.0) same;
    from_is = refl;
  }
  places_are (base.Cell g) None l is = record {
    via_there = λ w e. cc;
    index_there = λ w e. cc;
    from_there = is_value p v.0 (line_writes (table (i (base.Cell g) None)) v.0)
        (slice_index_or l 0 place.Eax)
        ((in_mask (table (i (base.Cell g) None)) v.0 (place_in l 0)
        (allowed_at p (i (base.Cell g) None) l is 0 _ refl)).0 (itself v.0));
    long = is.count;
    via_is = λ w e. cc;
    index_is = λ w e. cc;
    from_is = refl;
  }
  places_are (base.Cell g) (Some z) l is = record {
    via_there = λ w e. cc;
    index_there = λ w e. is_register p z.0 (line_writes (table (i (base.Cell g) (Some z))) z.0)
        (slice_index_or l 0 place.Eax)
        ((in_mask (table (i (base.Cell g) (Some z))) z.0 (place_in l 0)
        (allowed_at p (i (base.Cell g) (Some z)) l is 0 _ refl)).0 (itself z.0));
    from_there = is_value p v.0 (line_writes (table (i (base.Cell g) (Some z))) v.0)
        (slice_index_or l 1 place.Eax)
        ((in_mask (table (i (base.Cell g) (Some z))) v.0 (place_in l 1)
        (allowed_at p (i (base.Cell g) (Some z)) l is 1 _ refl)).1.0 (itself v.0));
    long = is.count;
    via_is = λ w e. cc;
    index_is = λ w e. let same : z ≡ w = cc in ap (λ (u : VarId). Some u.0) same;
    from_is = refl;
  }
  places_are (base.Via u) None l is = record {
    via_there = λ w e. is_register p u.0 (line_writes (table (i (base.Via u) None)) u.0)
        (slice_index_or l 0 place.Eax)
        ((in_mask (table (i (base.Via u) None)) u.0 (place_in l 0)
        (allowed_at p (i (base.Via u) None) l is 0 _ refl)).0 (itself u.0));
    index_there = λ w e. cc;
    from_there = is_value p v.0 (line_writes (table (i (base.Via u) None)) v.0)
        (slice_index_or l 1 place.Eax)
        ((in_mask (table (i (base.Via u) None)) v.0 (place_in l 1)
        (allowed_at p (i (base.Via u) None) l is 1 _ refl)).1.0 (itself v.0));
    long = is.count;
    via_is = λ w e. let same : u ≡ w = cc in ap (λ (u : VarId). Some u.0) same;
    index_is = λ w e. cc;
    from_is = refl;
  }
  places_are (base.Via u) (Some z) l is = record {
    via_there = λ w e. is_register p u.0 (line_writes (table (i (base.Via u) (Some z))) u.0)
        (slice_index_or l 0 place.Eax)
        ((in_mask (table (i (base.Via u) (Some z))) u.0 (place_in l 0)
        (allowed_at p (i (base.Via u) (Some z)) l is 0 _ refl)).0 (itself u.0));
    index_there = λ w e. is_register p z.0 (line_writes (table (i (base.Via u) (Some z))) z.0)
        (slice_index_or l 1 place.Eax)
        ((in_mask (table (i (base.Via u) (Some z))) z.0 (place_in l 1)
        (allowed_at p (i (base.Via u) (Some z)) l is 1 _ refl)).1.0 (itself z.0));
    from_there = is_value p v.0 (line_writes (table (i (base.Via u) (Some z))) v.0)
        (slice_index_or l 2 place.Eax)
        ((in_mask (table (i (base.Via u) (Some z))) v.0 (place_in l 2)
        (allowed_at p (i (base.Via u) (Some z)) l is 2 _ refl)).1.1.0 (itself v.0));
    long = is.count;
    via_is = λ w e. let same : u ≡ w = cc in ap (λ (u : VarId). Some u.0) same;
    index_is = λ w e. let same : z ≡ w = cc in ap (λ (u : VarId). Some u.0) same;
    from_is = refl;
  }

module _ (procs : List LProc) (data_words : ℕ) (ok : IsLoadable procs data_words) (s : State Cells)
    (r : Ran) (y : Realizes procs s r) (o : s.over ≡ None) where
  abbrev p : LProc
  p = proc_of procs s.top.proc

  abbrev P : State Cells → Type 0
  P = Leads procs s r

  abbrev T : ℕ → ℕ → Type 0
  T = TakesArgs (counts_of procs)

  module _ (v : VarId) (b : Base) (off : ℤ) (x : Option VarId) (fits : FitsSigned w32 off)
      (places : _) (more : List LInstr)
      (e : s.top.home.rest ≡ placed_.Op
      (instr.Store (record { base = b; offset = off; index = x }) v) places ∷ more) where
    abbrev a : Addr
    a = record { base = b; offset = off; index = x }

    abbrev this : VInstr
    this = instr.Store a v

    abbrev l : List Place
    l = places.items

    abbrev k : ℕ
    k = via_count b + index_count x

    abbrev from : Operand
    from = emitted.operand p v.0 (place_in l k)

    abbrev j : Ins
    j = store_it (address p a l) from

    so : Placed p v off b x l
    so = places_are p v off b x l
        (computes.placed_so procs data_words ok s r y o this places more e)

    abbrev now : machine.State
    now = ops.now procs data_words ok s r y o this places more e j refl

    abbrev held : List Held
    held = operands p s.top (read_by this) (map number_of l)

    abbrev run_x : Runs procs s r.state
    run_x = steps.x procs data_words ok s r y o

    few : length s.pushed ≤ 32
    few = steps.few procs data_words ok s r y o

    are : addresses.InRegisters procs run_x.backs s.pushed s.top s.below s.globals now run_x.lies b
        x l held
    are =
        let long = so.long in
        are_there procs data_words ok s r y o this places more e j refl b x (
        record {
          long = omega (arith, long);
          via_is = so.via_is;
          via_there = so.via_there;
          index_is = so.index_is;
          index_there = so.index_there;
          cell_is = λ n is. ap cell_of is;
        }
        )

    abbrev top1 : Activation Cells
    top1 = ops.passed_by procs data_words ok s r y o this places more e

    abbrev t0 : State Cells
    t0 = with_top s top1

    lies1 : Lies procs run_x.backs s.pushed top1 s.below s.globals now.regs now.stack now.storage
    lies1 = ops.lies_behind procs data_words ok s r y o this places more e j refl

    runs1 : Runs procs t0 (record r.state {
      regs = r.state.regs;
      stack = r.state.stack;
      flags =
          r.state.flags;
      eip = now.eip;
    })
    runs1 =
        steps.runs_on procs data_words ok s r y o (placed_.Op this places) more e top1 None
        r.state.flags r.state.regs r.state.stack now.eip (steps.clobbered_same this more s.top)
        (computes.lead_on procs data_words ok s r y o this places more e
        (steps.lead procs data_words ok s r y o (placed_.Op this places) more e)) lies1 tt
        (steps.alone procs data_words ok s r y o (placed_.Op this places) more e (Plain j)
        [] refl refl)

    leads : (t : machine.State) (s1 : State Cells) → effect now j ≡ Ok (t, out.Going) → t.ending ≡
        r.state.ending → t.taken ≡ r.state.taken → s1.over ≡ s.over → s1.events ≡ s.events →
        s1.taken ≡ s.taken → Runs procs s1 t → Leads procs s r s1
    leads t s1 f ends took over events taken runs =
        steps.leads procs data_words ok s r y o (placed_.Op this places) more e (Plain j)
        [] refl t out.Going s1 f (record {
          ending = ap run_end ends ∙ y.ending ∙ sym over;
          events = y.events ∙ sym events;
          taken = took ∙ y.taken ∙ sym taken;
          going = λ _. runs;
        })

    -- a word of a live call
    in_calls : (z : Object) (o1 n d : ℕ) → Means (Num d) n → effect now j ≡
        store now ((base_of z + o1) % 2 ^ 32) n >>= goes → (new : List (Activation Cells)) →
        Stored procs run_x.backs (top1 ∷ s.below) new z o1 (Some (Num d)) →
        Leads procs s r (with_calls t0 new)
    in_calls z o1 n d means f [] g = absurd g.alike
    in_calls z o1 n d means f (c ∷ calls) g =
        let all = s.pushed ++ frames procs run_x.backs (top1 ∷ s.below) in
        let long = length-append s.pushed (frames procs run_x.backs (top1 ∷ s.below)) in
        let mine = live_long procs top1 s.below run_x.backs lies1.sizes run_x.waiting in
        let at_cell = length s.pushed + g.cell in
        let h : Held = Some (Num d) in
        let w = store_cell all now lies1.words
        (data_below procs run_x.backs s.pushed top1 s.below s.globals now lies1 run_x.waiting
        few) (few_words procs run_x.backs s.pushed top1 s.below s.globals now lies1
        run_x.waiting few) at_cell ((base_of z + o1) % 2 ^ 32)
        (omega (arith, long, g.inside))
        (omega (arith, g.place, lies1.words.top, long, mine, lies1.deep, g.inside)) h n means in
        let stack = with_word now.stack ((base_of z + o1) % 2 ^ 32 - stack_base) n in
        let moved : slice_set all at_cell h ≡ s.pushed ++ frames procs run_x.backs (c ∷ calls) =
        set_back s.pushed (frames procs run_x.backs (top1 ∷ s.below)) g.cell _ h refl
        ∙ ap (λ q. s.pushed ++ q) (sym g.frames_are) in
        let depths = same_depth procs (top1 ∷ s.below) (c ∷ calls) g.alike in
        leads (record now { stack = stack }) (with_calls t0 (c ∷ calls))
        (f ∙ ap (λ q. q >>= goes) w.0) refl refl refl refl refl (record {
          backs = run_x.backs;
          code = runs1.code;
          stands = stands_alike procs top1 c (length s.pushed) now.eip g.alike.0 runs1.stands;
          waiting = waits_alike procs s.below calls run_x.backs g.alike.1 run_x.waiting;
          lies = record {
            sizes = sizes_alike procs top1 c g.alike.0 lies1.sizes;
            registers = subst (λ (h : Cells). RegistersHold h.regs now.regs) (sym g.alike.0.home)
                lies1.registers;
            words = subst (λ q. Stacked q now.regs.esp stack) moved w.1;
            ebp = lies1.ebp ∙ sym (same_ebp procs top1 c s.below calls g.alike.0 g.alike.1);
            deep = omega (arith, depths, lies1.deep);
            globals_hold = lies1.globals_hold;
            data_long = lies1.data_long;
            data_few = lies1.data_few;
          };
          flags = tt;
          input = runs1.input;
          input_fits = runs1.input_fits;
        })

    written : (z : Object) (o1 n d : ℕ) (old : Held) → Means (Num d) n → effect now j ≡
        store now ((base_of z + o1) % 2 ^ 32) n >>= goes → word_at (object (shape procs) t0 z) o1 ≡
        Some old → Leads procs s r (with_object (shape procs) t0 z (o1 / 4) (Some (Num d)))
    written Data o1 n d old means f e =
        let w = word_is s.globals o1 old e in
        let inside = get_inside s.globals (o1 / 4) old w.1 in
        let h : Held = Some (Num d) in
        let g = store_word s.globals now lies1.globals_hold lies1.data_long lies1.data_few (o1 / 4)
        ((data_base + o1) % 2 ^ 32) inside (omega (arith, w.0, inside, lies1.data_few)) h n
        means in
        let storage = with_word now.storage ((data_base + o1) % 2 ^ 32 - data_base) n in
        let long = length_set s.globals (o1 / 4) h in
        let same = length_put now.storage ((data_base + o1) % 2 ^ 32 - data_base) n in
        leads (record now { storage = storage }) (with_object (shape procs) t0 Data (o1 / 4) h)
        (f ∙ ap (λ q. q >>= goes) g.0) refl refl refl refl refl (record {
          backs = run_x.backs;
          code = runs1.code;
          stands = runs1.stands;
          waiting = run_x.waiting;
          lies = record {
            sizes = lies1.sizes;
            registers = lies1.registers;
            words = lies1.words;
            ebp = lies1.ebp;
            deep = lies1.deep;
            globals_hold = g.1;
            data_long = omega (arith, same, lies1.data_long, long);
            data_few = omega (arith, long, lies1.data_few);
          };
          flags = tt;
          input = runs1.input;
          input_fits = runs1.input_fits;
        })
    written (Aggregates q sum) o1 n d old means f e =
        in_calls (Aggregates q sum) o1 n d means f _
        (stored procs (top1 ∷ s.below) run_x.backs
        (lies1.sizes, all_sized procs s.below run_x.backs run_x.waiting) lies1.deep
        (Aggregates q sum) o1 (Some (Num d)) old e)
    written (Cell q below i) o1 n d old means f e =
        in_calls (Cell q below i) o1 n d means f _
        (stored procs (top1 ∷ s.below) run_x.backs
        (lies1.sizes, all_sized procs s.below run_x.backs run_x.waiting) lies1.deep
        (Cell q below i) o1 (Some (Num d)) old e)

    pub stores_it : Led procs data_words ok s r y o this more l
    unfolding write_rm
    stores_it ns =
        let after : After Cells = behind p this (map number_of l) more s.top in
        let sound = ops.sound procs data_words ok s r y o this places more e j refl in
        let long = so.long in
        let count = counts b in
        ops.bound_ok procs data_words ok s r y o after
        (placed (addresses.here_is procs run_x.backs s.pushed s.top s.below s.globals now
        run_x.lies) a held) _ ns (λ t te ns.
        ops.bound_ok procs data_words ok s r y o after (number_at held (low.address_count a))
        (λ n. Some (action.Store t.0 t.1 n)) ns (λ d de ns.
        let place_is = addresses.address_is procs run_x.backs s.pushed s.top s.below s.globals now
        run_x.lies b off x l held fits are t.0 t.1 te in
        let d_is : slice_index_or held k None ≡ Some (Num d) = ap (λ n. slice_index_or held n None)
        (index_sum b x) ∙ number_is _ d de in
        let got = ops.reads_here procs data_words ok s r y o this places more e j refl v.0
        (place_in l k) (Num d) (λ n e. store_fits (address p a l) n
        (subst (λ o. IsSound (store_it (address p a l) o)) e sound))
        (operand_at p s.top (read_by this) l k v.0 (Num d) so.from_is (omega (arith, long))
        d_is) in
        found_ok (Leads procs s r) s (word_at (object (shape procs) t0 t.0) t.1) _ ns (λ old oe _.
        written t.0 t.1 got.0 d old got.2
        (stores_value now (address p a l) from got.0 so.from_there got.1
        ∙ ap (λ q. store now q got.0 >>= goes) place_is) oe)))
      where
        store_fits : (m : MemAddr) (n : ℤ) → IsSound (store_it m (at.Number n)) → FitsSigned w32 n
        store_fits m n sound = sound.1

        index_sum : (b : Base) (x : Option VarId) → via_count b + index_count x ≡
            base_count b + low.index_count x
        index_sum (base.Global g) None = refl
        index_sum (base.Frame g) None = refl
        index_sum (base.Cell g) None = refl
        index_sum (base.Via u) None = refl
        index_sum (base.Global g) (Some z) = refl
        index_sum (base.Frame g) (Some z) = refl
        index_sum (base.Cell g) (Some z) = refl
        index_sum (base.Via u) (Some z) = refl
