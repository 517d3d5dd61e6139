-- CMP with SETcc and MOVZX, and CDQ with IDIV.
use Rattle.std.proofs.Common.{◌≡◌, ◌≢◌, ℕ, ◌+◌, ◌*◌, ◌%◌, ◌^◌, ◌≤◌, ◌<◌, Bool, true, false, List}
use Rattle.std.proofs.Common.{[], ◌∷◌, ◌++◌, length, map, Option, Some, None, refl, sym, ap, ◌∙◌}
use Rattle.std.proofs.Common.{subst, arith, inl}
use Rattle.std.specs.Prelude.{ℤ, pos, ◌<ℤ◌, Ok, if◌then◌else◌, int_div, int_rem}
use Rattle.std.specs.List.{filter_map}
use Rattle.std.specs.Int.{w32}
use Rattle.std.specs.Int.RustNames.{FitsSigned, unsigned_abs}
use Rattle.std.proofs.lemmas.Bool.Decides.{nat_tests}
use Rattle.std.proofs.lemmas.Int.{ints, rem_below, fits_signed_from_abs, quot_fits}
use Rattle.pra_list.proofs.Truths.{itself}
use Rattle.pra_list.specs.Results.{◌>>=◌}
use Rattle.ia_code.specs.declared.ins.AluOp.TheVariants as alu
use Rattle.ia_code.specs.declared.ins.Ins.{Ins}
use Rattle.ia_code.specs.declared.ins.Reg.{Reg}
use Rattle.ia_code.specs.declared.ins.Reg.TheVariants.{Eax, Ecx, Edx, Ebx, Esp, Ebp, Esi, Edi}
use Rattle.ia_code.specs.declared.ins.Ins.TheVariants as ins
use Rattle.ia_emit.specs.declared.item.Item.{Item}
use Rattle.ia_emit.specs.declared.item.Item.TheVariants.{Plain}
use Rattle.ia_emit.specs.declared.item.Target.{Target}
use Rattle.ia_emit.specs.declared.item.Operand.TheVariants as at
use Rattle.ia_emit.specs.Code.{size_of, size}
use Rattle.ia_emit.specs.Emission.{emit, emit_op, reg_of, rm_of, combine}
use Rattle.ia_emit.specs.Operands as emitted
use Rattle.ia_emit.proofs.Sizes.{size-cons}
use Rattle.ia_step.specs.declared.flags.Flags.{Flags}
use Rattle.ia_step.specs.declared.registers.Registers.{Registers}
use Rattle.ia_step.specs.Arithmetic.{diff_flags, no_flags, quotient, with_low_byte}
use Rattle.ia_step.specs.Effect.{effect, load, set, sign_word, idiv, divided, write_rm}
use Rattle.ia_step.specs.Registers.{get, with_reg}
use Rattle.ia_step.specs.Run.{Ran}
use Rattle.ia_step.specs.State as machine
use Rattle.ia_step.proofs.Conditions.{holds-diff_flags}
use Rattle.ia_step.proofs.Division.{positive_quotient}
use Rattle.ia_step.proofs.Reaches.{Reaches, reach_on}
use Rattle.ia_step.proofs.RegisterLemmas.{get-with_reg}
use Rattle.pl_place.specs.declared.placed.LInstr.{LInstr}
use Rattle.pl_place.specs.declared.placed.LInstr.TheVariants as placed
use Rattle.pl_place.specs.declared.placed.LProc.{LProc}
use Rattle.pl_place.specs.Machine.{Cells, proc_of, passed, operand, put, put_all, behind}
use Rattle.pl_place.specs.Machine.{placed_machine}
use Rattle.pl_place.specs.Placed.{op_of}
use Rattle.pl_place.specs.Valid.{OperandsPlaced, counts_of}
use Rattle.pra_base.specs.declared.code.VInstr.{VInstr}
use Rattle.pra_base.specs.declared.code.VInstr.TheVariants as instr
use Rattle.pra_base.specs.declared.ids.Cond.{Cond}
use Rattle.pra_base.specs.declared.ids.Place.{Place}
use Rattle.pra_base.specs.declared.ids.Place.TheVariants as place
use Rattle.pra_base.specs.declared.ids.VarId.{VarId}
use Rattle.pra_base.specs.Operands.{R, M, B, but, table, line_writes}
use Rattle.pra_base.specs.Places.{number as number_of, allows, only, with_both, ◌∪◌}
use Rattle.pra_base.specs.RunEnd.{Wrong}
use Rattle.pra_base.specs.Valid.{PushesLead, TakesArgs}
use Rattle.pra_base.specs.Words.{signed, is_positive, quotient32, remainder32, compares, truth}
use Rattle.vc_code.specs.declared.value.Value.{Value}
use Rattle.vc_code.specs.declared.value.Value.TheVariants.{Num}
use Rattle.vc_code.specs.declared.action.Action.TheVariants as action
use Rattle.vc_code.specs.Operation.{gives, divided as divided_by}
use Rattle.vc_code.specs.Value.{Words}
use Rattle.vc_code.specs.Machine.{Activation, State, After, apply, with_top}
use Rattle.ia_simulation.specs.Frames.{Means, frames}
use Rattle.ia_simulation.specs.Realizes.{IsLoadable, Lies, Runs, Realizes, Leads}
use Rattle.ia_simulation.proofs.Effects.{IsPlace, OneInMemory, ok_same, read_place, combines}
use Rattle.ia_simulation.proofs.Effects.{operates}
use Rattle.ia_simulation.proofs.Masks.{in_mask, allowed_at, is_place, in_eax, one_in_memory}
use Rattle.ia_simulation.proofs.Spots.{Same, Wrote, esp_stays, read, reads, writes}
use Rattle.ia_simulation.proofs.Standing as standing
use Rattle.ia_simulation.proofs.Ops as ops
use Rattle.ia_simulation.proofs.Ops.{three_are, combined_fits, no_number, put_done}
use Rattle.ia_simulation.proofs.Steps as steps
use Rattle.ia_simulation.proofs.Steps.{found_ok, lies_clobbered}
use Rattle.ia_simulation.proofs.Rows.{Led}
use Rattle.ia_simulation.proofs.Computes as computes
use Rattle.ia_simulation.proofs.Walks.{Walks, goes_on, reaches}

-- ---- registers that are written twice

twice : (g : Registers) (r : Reg) (x z : ℕ) → with_reg (with_reg g r x) r z ≡ with_reg g r z
twice g Eax x z = refl
twice g y x z = refl

low_byte : (v : ℕ) (b : Bool) → with_low_byte v (truth b) % 256 ≡ truth b
low_byte v true = omega arith
low_byte v false = omega arith

truth_below : (b : Bool) → truth b < 2 ^ 32
truth_below true = omega arith
truth_below false = omega arith

-- the registers with a low byte
byte_register : (p : LProc) (v : ℕ) (q : Place) → allows B (number_of q) ≡ true →
    (emitted.operand p v (number_of q) ≡ at.Register (emitted.free_register (number_of q))) ×
    (number_of q < 6)
byte_register p v place.Eax e = (refl, omega arith)
byte_register p v place.Ecx e = (refl, omega arith)
byte_register p v place.Edx e = (refl, omega arith)
byte_register p v place.Ebx e = (refl, omega arith)
byte_register p v x e = cc

-- EDX alone
in_edx : (p : LProc) (v : ℕ) (q : Place) → allows (only place.Edx) (number_of q) ≡ true →
    emitted.operand p v (number_of q) ≡ at.Register Edx
in_edx p v place.Edx e = refl
in_edx p v x e = cc

-- CDQ does not change the divisor
module _ (p : LProc) (v : ℕ) (m : machine.State) (n : ℕ) where
  abbrev Stays : Place → Type 0
  Stays q = IsPlace (emitted.operand p v (number_of q)) ×
      (read (machine.with_register m Edx n) (emitted.operand p v (number_of q)) ≡
      read m (emitted.operand p v (number_of q)))

  stays_narrow : (q : Place) → allows (but place.Eax place.Edx (R ∪ M)) (number_of q) ≡ true →
      Stays q
  unfolding load
  stays_narrow place.Ecx e = (tt, refl)
  stays_narrow place.Ebx e = (tt, refl)
  stays_narrow place.Esi e = (tt, refl)
  stays_narrow place.Edi e = (tt, refl)
  stays_narrow place.Mem e = (tt, refl)
  stays_narrow x e = cc

  stays_wide : (q : Place) → allows (with_both (but place.Eax place.Edx (R ∪ M))) (number_of q) ≡
      true → Stays q
  unfolding load
  stays_wide place.Eax e = cc
  stays_wide place.Edx e = cc
  stays_wide place.Const e = cc
  stays_wide place.EaxM e = cc
  stays_wide place.EdxM e = cc
  stays_wide x e = (tt, refl)

  divisor_stays : (b : Bool) (q : Place) →
      allows (if b then but place.Eax place.Edx (R ∪ M) else with_both
      (but place.Eax place.Edx (R ∪ M))) (number_of q) ≡ true → Stays q
  divisor_stays true q e = stays_narrow q e
  divisor_stays false q e = stays_wide q e

-- quotient and remainder are words
module _ (x d : ℕ) (fx : x < 2 ^ 32) (fd : d < 2 ^ 32) (up : is_positive d ≡ true) where
  signed_fits : FitsSigned w32 (signed x)
  signed_fits = omega (arith, ints)

  above : pos 0 <ℤ signed d
  above = grind (arith, nat_tests)

  some : 0 < unsigned_abs (signed d)
  some = grind (arith, nat_tests)

  small : unsigned_abs (signed d) ≤ 2 ^ 31
  small = grind (arith, nat_tests)

  quotient_below : quotient32 x d < 2 ^ 32
  quotient_below = computes.word_fits (int_div (signed x) (signed d))
      (quot_fits w32 (signed x) (signed d) signed_fits above)

  remainder_below : remainder32 x d < 2 ^ 32
  remainder_below =
      let below : unsigned_abs (int_rem (signed x) (signed d)) < unsigned_abs (signed d) =
      rem_below (signed x) (signed d) some in
      computes.word_fits (int_rem (signed x) (signed d))
      (fits_signed_from_abs w32 (int_rem (signed x) (signed d)) (let m = small in omega arith))

-- two values are written one after the other
put_two : (p : LProc) (o : Option (Activation Cells)) (v q : ℕ) (value : Value)
    (c : Activation Cells) → put_all p o (v ∷ []) (q ∷ []) (value ∷ []) ≡ Some c →
    (d : Activation Cells) × (o ≡ Some d) × (put p d v q (Some value) ≡ Some c)
put_two p None v q value c e = cc
put_two p (Some d) v q value c e = (d, refl, put_done p (put p d v q (Some value)) [] [] c e)

four_are : (l : List Place) → length l ≡ 4 → (a : Place) × (b : Place) × (c : Place) × (d : Place) ×
    (l ≡ a ∷ b ∷ c ∷ d ∷ [])
four_are [] n = cc
four_are (a ∷ l) n = let m : length l ≡ 3 = omega (arith, n) in let t = three_are l m in
    (a, t.0, t.1, t.2, ap (λ l. a ∷ l) t.3)

module _ (procs : List LProc) (data_words : ℕ) (ok : IsLoadable procs data_words) (s : State Cells)
    (r : Ran) (y : Realizes procs s r) (o : s.over ≡ None) where
  abbrev p : LProc
  p = proc_of procs s.top.proc

  abbrev P : State Cells → Type 0
  P = Leads procs s r

  abbrev T : ℕ → ℕ → Type 0
  T = TakesArgs (counts_of procs)

  module _ (i : VInstr) (places : _) (more : List LInstr)
      (e : s.top.home.rest ≡ placed.Op i places ∷ more) where
    abbrev after_it : Activation Cells
    after_it = computes.after_it procs data_words ok s r y o i places more e

    placed_so : OperandsPlaced p i places.items
    placed_so = computes.placed_so procs data_words ok s r y o i places more e

    lead_on : (length s.pushed ≡ 0) × PushesLead T 0 (filter_map op_of more) →
        PushesLead T (length s.pushed) (filter_map op_of more)
    lead_on = computes.lead_on procs data_words ok s r y o i places more e

  -- instructions of the machine, the last of which leaves the call there
  module _ (i : VInstr) (places : _) (more : List LInstr)
      (e : s.top.home.rest ≡ placed.Op i places ∷ more) (j : Ins) (others : List Item)
      (em : emit p (placed.Op i places) ≡ Plain j ∷ others) where
    abbrev l : LInstr
    l = placed.Op i places

    abbrev x : Runs procs s r.state
    x = steps.x procs data_words ok s r y o

    abbrev pub now : machine.State
    now = steps.fetched procs data_words ok s r y o l more e (Plain j) others em

    pub lies_behind : Lies procs x.backs s.pushed (after_it i places more e) s.below s.globals
        now.regs now.stack now.storage
    lies_behind = lies_clobbered procs x.backs s.pushed s.top s.below s.globals now.regs now.stack
        now.storage i more x.lies

    pub reads_now : (v q : ℕ) (value : Value) →
        ((n : ℤ) → emitted.operand p v q ≡ at.Number n → FitsSigned w32 n) → operand p s.top v q ≡
        Some value →
        (n : ℕ) × (read now (emitted.operand p v q) ≡ Ok n) × Means value n
    reads_now = reads procs x.backs s.pushed s.top s.below s.globals now x.lies x.waiting
        (steps.few procs data_words ok s r y o)

    pub writes_now : (v q : ℕ) (value : Value) (n : ℕ) (c : Activation Cells) →
        put p (after_it i places more e) v q (Some value) ≡ Some c → Means value n →
        Wrote procs x.backs s.pushed (after_it i places more e) s.below s.globals now lies_behind
        x.waiting (steps.few procs data_words ok s r y o) (emitted.operand p v q) n c
    writes_now = writes procs x.backs s.pushed (after_it i places more e) s.below s.globals now
        lies_behind x.waiting (steps.few procs data_words ok s r y o)

    abbrev all : Words
    all = s.pushed ++ frames procs x.backs (s.top ∷ s.below)

    abbrev pub from : ℕ
    from = steps.here procs data_words ok s r y o l more e

    abbrev pub target : Target → ℕ
    target = standing.target procs s.top.proc s.top.home.block s.top.home.rest s.top.home.end
        (length s.pushed) r.state.eip x.stands

    pub walks : Walks procs r.state all target from
        (Plain j ∷ (others ++ steps.behind procs data_words ok s r y o l more e))
    walks = steps.walks_here procs data_words ok s r y o l more e (Plain j) others em

    -- in k steps the machine is behind it, and the call has these registers and words
    pub arrives : (k : ℕ) (t : machine.State) (c : Activation Cells) (regs : Registers)
        (stack : List ℕ) (flags : Flags) → 0 < k → Reaches k r.state t →
        t ≡ record now {
          regs = regs;
          stack = stack;
          flags = flags;
          eip =
              r.state.eip + size (emit p l);
        } →
        Same (after_it i places more e) c → PushesLead T (length s.pushed) (filter_map op_of more) →
        Lies procs x.backs s.pushed c s.below s.globals regs stack now.storage →
        P (with_top s c)
    arrives k t c regs stack flags some reach is same lead lies = (
      k,
      inl some,
      subst (Realizes procs (with_top s c))
          (sym (reach.by r.events r.steps
          ∙ ap (λ t. let z : Ran = record { state = t; events = r.events; steps = r.steps + k } in
          z) is)) (record {
            ending = y.ending;
            events = y.events;
            taken = y.taken;
            going = λ _. steps.runs_on procs data_words ok s r y o l more e c None flags regs stack
                _
                (steps.same_then (passed more s.top) (after_it i places more e) c
                (steps.clobbered_same i more s.top) same) lead lies tt refl;
          }),
    )

  -- CMP, SETcc and MOVZX
  module _ (k : Cond) (v a b : VarId) (places : _) (more : List LInstr) where
    pub sets_condition : s.top.home.rest ≡ placed.Op (instr.CmpSet k v a b) places ∷ more →
        Led procs data_words ok s r y o (instr.CmpSet k v a b) more places.items
    unfolding effect write_rm
    sets_condition e =
        let i = instr.CmpSet k v a b in
        let is = placed_so i places more e in
        let t = three_are places.items is.count in
        let qa = t.0 in
        let qb = t.1 in
        let qv = t.2 in
        let is_l : OperandsPlaced p i (qa ∷ qb ∷ qv ∷ []) = subst (OperandsPlaced p i) t.3 is in
        let one = emitted.operand p a.0 (number_of qa) in
        let other = emitted.operand p b.0 (number_of qb) in
        let to = emitted.operand p v.0 (number_of qv) in
        let place_one : IsPlace one = is_place p a.0 (line_writes (table i) a.0) qa
        ((in_mask (table i) a.0 (number_of qa)
        (allowed_at p i (qa ∷ qb ∷ qv ∷ []) is_l 0 _ refl)).0 (itself a.0)) in
        let apart : OneInMemory one other = one_in_memory p a.0 b.0 (number_of qa) (number_of qb)
        (is_l.pair 0 1 _ _ refl refl refl refl (λ e. cc)) in
        let byte = byte_register p v.0 qv
        ((in_mask (table i) v.0 (number_of qv)
        (allowed_at p i (qa ∷ qb ∷ qv ∷ []) is_l 2 _ refl)).1.1.0 (itself v.0)) in
        let reg : Reg = emitted.free_register (number_of qv) in
        let j = combine alu.Cmp one other in
        let x1 = Plain (ins.Set k reg) in
        let x2 = Plain (ins.Movzx reg reg) in
        let others : List Item = x1 ∷ x2 ∷ [] in
        let em : emit p (placed.Op i places) ≡ Plain j ∷ others = ap (emit_op p i) t.3
        ∙ ap (λ o. Plain j ∷ Plain (ins.Set k (reg_of o)) ∷ Plain
        (ins.Movzx (reg_of o) (reg_of o)) ∷ []) byte.0 in
        let m0 = now i places more e j others em in
        let sound = steps.sound_here procs data_words ok s r y o (placed.Op i places) more e
        (Plain j) others em in
        let after : After Cells = behind p i (map number_of (qa ∷ qb ∷ qv ∷ [])) more s.top in
        let rest = steps.behind procs data_words ok s r y o (placed.Op i places) more e in
        let target_is = target i places more e j others em in
        let from_is = from i places more e j others em in
        let words = all i places more e j others em in
        subst (Led procs data_words ok s r y o i more) (sym t.3) (λ ns.
        ops.both_ok procs data_words ok s r y o after (operand p s.top a.0 (number_of qa))
        (operand p s.top b.0 (number_of qb)) (λ ab. gives (truth (compares k ab.0 ab.1))) ns
        (λ x z xe ze ns.
        let bit = compares k x z in
        ops.gives_ok procs data_words ok s r y o after (Num (truth bit)) ns (λ c ce.
        let got = reads_now i places more e j others em a.0 (number_of qa) (Num x)
        (no_number one place_one) xe in
        let got_b = reads_now i places more e j others em b.0 (number_of qb) (Num z)
        (combined_fits alu.Cmp one other sound) ze in
        let f = diff_flags x z in
        let m1 : machine.State = record m0 { flags = f } in
        let r1 : Reaches 1 r.state m1 = steps.reaches procs data_words ok s r y o
        (placed.Op i places) more e (Plain j) others em m1
        (combines m0 alu.Cmp one other z place_one apart (got_b.1 ∙ ap Ok got_b.2.0)
        ∙ operates m0 alu.Cmp one x z m0 place_one (got.1 ∙ ap Ok got.2.0) refl) in
        let w1 : Walks procs m1 words target_is (from_is + size_of (Plain j)) (x1 ∷ x2 ∷ rest) =
        goes_on procs ok.sound r.state words target_is from_is (Plain j) (x1 ∷ x2 ∷ rest)
        (walks i places more e j others em) r.state.regs f refl in
        let low = with_low_byte (get m1.regs reg) (truth bit) in
        let m2 : machine.State =
        record m1 { regs = with_reg m1.regs reg low; eip = m1.eip + size_of x1 } in
        let r2 : Reaches 1 m1 m2 = reaches procs ok.sound m1 words target_is
        (from_is + size_of (Plain j)) x1 (x2 ∷ rest) w1 m2
        (ap (set (machine.at m1 (m1.eip + size_of x1)) reg)
        (holds-diff_flags x z got.2.1 got_b.2.1 k)) in
        let w2 : Walks procs m2 words target_is (from_is + size_of (Plain j) + size_of x1)
        (x2 ∷ rest) = goes_on procs ok.sound m1 words target_is (from_is + size_of (Plain j)) x1
        (x2 ∷ rest) w1 (with_reg m1.regs reg low) f
        (esp_stays m1.regs low (number_of qv) byte.1) in
        let m3 : machine.State =
        record m2 {
          regs = with_reg m2.regs reg (get m2.regs reg % 256);
          eip =
              m2.eip + size_of x2;
        } in
        let r3 : Reaches 1 m2 m3 = reaches procs ok.sound m2 words target_is
        (from_is + size_of (Plain j) + size_of x1) x2 rest w2 m3 refl in
        let reach : Reaches 3 r.state m3 = reach_on 1 2 r.state m1 m3 r1
        (reach_on 1 1 m1 m2 m3 r2 r3) in
        let wrote = subst (λ q. Wrote procs (steps.x procs data_words ok s r y o).backs s.pushed
        (after_it i places more e) s.below s.globals m0
        (lies_behind i places more e j others em) (steps.x procs data_words ok s r y o).waiting
        (steps.few procs data_words ok s r y o) q (truth bit) c) byte.0
        (writes_now i places more e j others em v.0 (number_of qv) (Num (truth bit)) (truth bit) c
        (put_done p (put p (after_it i places more e) v.0 (number_of qv)
        (Some (Num (truth bit)))) [] [] c ce) (refl, truth_below bit)) in
        let regs_are : with_reg (with_reg m1.regs reg low) reg
        (get (with_reg m1.regs reg low) reg % 256) ≡ with_reg m0.regs reg (truth bit) =
        ap (λ n. with_reg (with_reg m1.regs reg low) reg (n % 256)) (get-with_reg m1.regs reg low)
        ∙ ap (λ n. with_reg (with_reg m1.regs reg low) reg n) (low_byte (get m1.regs reg) bit)
        ∙ twice m1.regs reg low (truth bit) in
        let long = ap size em in
        let s0 = size-cons (Plain j) others in
        let s1 = size-cons x1 (x2 ∷ []) in
        let s2 = size-cons x2 [] in
        let place : m3.eip ≡ r.state.eip + size (emit p (placed.Op i places)) =
        omega (arith, long, s0, s1, s2) in
        arrives i places more e j others em 3 m3 c wrote.regs wrote.stack f (omega arith) reach
        (ap (λ g. let u : machine.State = record m2 { regs = g; eip = m3.eip } in u) regs_are
        ∙ ap (λ (u : machine.State). let u1 : machine.State =
        record u { flags = f; eip = m3.eip } in u1)
        (ok_same (machine.with_register m0 reg (truth bit))
        (record m0 { regs = wrote.regs; stack = wrote.stack }) wrote.is)
        ∙ ap (λ n. let u : machine.State =
        record m0 { regs = wrote.regs; stack = wrote.stack; flags = f; eip = n } in u) place)
        wrote.same (lead_on i places more e
        (steps.lead procs data_words ok s r y o (placed.Op i places) more e)) wrote.lies)))

  -- CDQ and IDIV
  module _ (q r1 a d : VarId) (places : _) (more : List LInstr) where
    pub divides : s.top.home.rest ≡ placed.Op (instr.DivMod q r1 a d) places ∷ more →
        Led procs data_words ok s r y o (instr.DivMod q r1 a d) more places.items
    unfolding effect write_rm idiv
    divides e =
        let i = instr.DivMod q r1 a d in
        let is = placed_so i places more e in
        let t = four_are places.items is.count in
        let qa = t.0 in
        let qd = t.1 in
        let qq = t.2 in
        let qr = t.3 in
        let l : List Place = qa ∷ qd ∷ qq ∷ qr ∷ [] in
        let is_l : OperandsPlaced p i l = subst (OperandsPlaced p i) t.4 is in
        let from_a = emitted.operand p a.0 (number_of qa) in
        let from_d = emitted.operand p d.0 (number_of qd) in
        let a_is : from_a ≡ at.Register Eax = in_eax p a.0 (line_writes (table i) a.0) qa
        ((in_mask (table i) a.0 (number_of qa) (allowed_at p i l is_l 0 _ refl)).0 (itself a.0))
        in
        let d_allowed = (in_mask (table i) d.0 (number_of qd) (allowed_at p i l is_l 1 _ refl)).1.0
        (itself d.0) in
        let q_is : emitted.operand p q.0 (number_of qq) ≡ at.Register Eax =
        in_eax p q.0 true qq ((in_mask (table i) q.0 (number_of qq)
        (allowed_at p i l is_l 2 _ refl)).1.1.0 (itself q.0)) in
        let r_is : emitted.operand p r1.0 (number_of qr) ≡ at.Register Edx =
        in_edx p r1.0 qr ((in_mask (table i) r1.0 (number_of qr)
        (allowed_at p i l is_l 3 _ refl)).1.1.1.0 (itself r1.0)) in
        let j = ins.Cdq in
        let x1 = Plain (ins.Idiv (rm_of from_d)) in
        let others : List Item = x1 ∷ [] in
        let em : emit p (placed.Op i places) ≡ Plain j ∷ others = ap (emit_op p i) t.4 in
        let m0 = now i places more e j others em in
        let m1 : machine.State = machine.with_register m0 Edx (sign_word m0.regs.eax) in
        let r_1 : Reaches 1 r.state m1 = steps.reaches procs data_words ok s r y o
        (placed.Op i places) more e (Plain j) others em m1 refl in
        let rest = steps.behind procs data_words ok s r y o (placed.Op i places) more e in
        let target_is = target i places more e j others em in
        let from_is = from i places more e j others em in
        let words = all i places more e j others em in
        let w1 : Walks procs m1 words target_is (from_is + size_of (Plain j)) (x1 ∷ rest) =
        goes_on procs ok.sound r.state words target_is from_is (Plain j) (x1 ∷ rest)
        (walks i places more e j others em) m1.regs r.state.flags refl in
        let after : After Cells = behind p i (map number_of l) more s.top in
        subst (Led procs data_words ok s r y o i more) (sym t.4) (λ ns.
        ops.both_ok procs data_words ok s r y o after (operand p s.top a.0 (number_of qa))
        (operand p s.top d.0 (number_of qd)) (λ ab. divided_by ab.0 ab.1) ns (λ x z xe ze ns.
        by_sign after x z (is_positive z) refl (λ up ns.
        found_ok P s (after (Num (quotient32 x z) ∷ Num (remainder32 x z) ∷ [])) (λ c. with_top s c)
        ns (λ c ce _.
        let e_now = m1.eip + size_of x1 in
        let stays = divisor_stays p d.0 (machine.at m0 e_now) (sign_word m0.regs.eax)
        (line_writes (table i) d.0) qd d_allowed in
        let got = reads_now i places more e j others em a.0 (number_of qa) (Num x)
        (no_number from_a (subst IsPlace (sym a_is) tt)) xe in
        let eax : m0.regs.eax ≡ x =
        ok_same m0.regs.eax x (ap (read m0) (sym a_is) ∙ got.1 ∙ ap Ok got.2.0) in
        let ran_x = steps.x procs data_words ok s r y o in
        let got_d = reads procs ran_x.backs s.pushed s.top s.below s.globals (machine.at m0 e_now)
        ran_x.lies ran_x.waiting (steps.few procs data_words ok s r y o) d.0 (number_of qd)
        (Num z) (no_number from_d stays.0) ze in
        let read_d = read_place (machine.at m1 e_now) from_d z stays.0
        (stays.1 ∙ got_d.1 ∙ ap Ok got_d.2.0) in
        let qt = quotient32 x z in
        let rm_ = remainder32 x z in
        let two = put_two p (put p (after_it i places more e) q.0 (number_of qq) (Some (Num qt)))
        r1.0 (number_of qr) (Num rm_) c ce in
        let wrote = subst (λ op. Wrote procs ran_x.backs s.pushed (after_it i places more e) s.below
        s.globals m0 (lies_behind i places more e j others em) ran_x.waiting
        (steps.few procs data_words ok s r y o) op qt two.0) q_is
        (writes_now i places more e j others em q.0 (number_of qq) (Num qt) qt two.0 two.1
        (refl, quotient_below x z got.2.1 got_d.2.1 up)) in
        let u : machine.State = record m0 { regs = wrote.regs; stack = wrote.stack } in
        let put_r : put (proc_of procs two.0.proc) two.0 r1.0 (number_of qr) (Some (Num rm_)) ≡
        Some c = ap (λ n. put (proc_of procs n) two.0 r1.0 (number_of qr) (Some (Num rm_)))
        wrote.same.proc ∙ two.2 in
        let r_is_there : emitted.operand (proc_of procs two.0.proc) r1.0 (number_of qr) ≡
        at.Register Edx = ap (λ n. emitted.operand (proc_of procs n) r1.0 (number_of qr))
        wrote.same.proc ∙ r_is in
        let wrote_r = subst (λ op. Wrote procs ran_x.backs s.pushed two.0 s.below s.globals u
        wrote.lies ran_x.waiting (steps.few procs data_words ok s r y o) op rm_ c) r_is_there
        (writes procs ran_x.backs s.pushed two.0 s.below s.globals u wrote.lies ran_x.waiting
        (steps.few procs data_words ok s r y o) r1.0 (number_of qr) (Num rm_) rm_ c put_r
        (refl, remainder_below x z got.2.1 got_d.2.1 up)) in
        let m2 : machine.State =
        record m1 {
          regs = with_reg (with_reg m1.regs Eax qt) Edx rm_;
          flags = no_flags;
          eip =
              e_now;
        } in
        let quotient_is = ap (λ n. quotient (sign_word n * 2 ^ 32 + n) z) eax
        ∙ positive_quotient x z got.2.1 got_d.2.1 up in
        let r_2 : Reaches 1 m1 m2 = reaches procs ok.sound m1 words target_is
        (from_is + size_of (Plain j)) x1 rest w1 m2
        (ap (λ v. v >>= idiv (machine.at m1 e_now)) read_d ∙ ap (divided (machine.at m1 e_now))
        quotient_is) in
        let long = ap size em in
        let s0 = size-cons (Plain j) others in
        let s1 = size-cons x1 [] in
        let place : m2.eip ≡ r.state.eip + size (emit p (placed.Op i places)) =
        omega (arith, long, s0, s1) in
        arrives i places more e j others em 2 m2 c wrote_r.regs wrote_r.stack no_flags (omega arith)
        (reach_on 1 1 r.state m1 m2 r_1 r_2)
        (ap (λ (v : machine.State). let v1 : machine.State =
        record (machine.with_register v Edx rm_) { flags = no_flags; eip = m2.eip } in v1)
        (ok_same (machine.with_register m0 Eax qt) u wrote.is)
        ∙ ap (λ (v : machine.State). let v1 : machine.State =
        record v { flags = no_flags; eip = m2.eip } in v1)
        (ok_same (machine.with_register u Edx rm_)
        (record u { regs = wrote_r.regs; stack = wrote_r.stack }) wrote_r.is)
        ∙ ap (λ n. let v : machine.State =
        record m0 { regs = wrote_r.regs; stack = wrote_r.stack; flags = no_flags; eip = n } in
        v) place)
        (steps.same_then (after_it i places more e) two.0 c wrote.same wrote_r.same)
        (lead_on i places more e
        (steps.lead procs data_words ok s r y o (placed.Op i places) more e)) wrote_r.lies))
        ns))
      where
        by_sign : (after : After Cells) (x z : ℕ) (b : Bool) → is_positive z ≡ b →
            (is_positive z ≡ true → (apply (placed_machine procs) after
            (Some (action.GiveBoth (Num (quotient32 x z)) (Num (remainder32 x z)))) s).over ≢
            Some Wrong → P (apply (placed_machine procs) after
            (Some (action.GiveBoth (Num (quotient32 x z)) (Num (remainder32 x z)))) s)) →
            (apply (placed_machine procs) after (divided_by x z) s).over ≢ Some Wrong →
            P (apply (placed_machine procs) after (divided_by x z) s)
        by_sign after x z true up k =
            subst (λ b. (apply (placed_machine procs) after
            (if b then Some (action.GiveBoth (Num (quotient32 x z)) (Num (remainder32 x z)))
            else None) s).over ≢ Some Wrong →
            P (apply (placed_machine procs) after
            (if b then Some (action.GiveBoth (Num (quotient32 x z)) (Num (remainder32 x z)))
            else None) s)) (sym up) (k up)
        by_sign after x z false up k =
            subst (λ b. (apply (placed_machine procs) after
            (if b then Some (action.GiveBoth (Num (quotient32 x z)) (Num (remainder32 x z)))
            else None) s).over ≢ Some Wrong →
            P (apply (placed_machine procs) after
            (if b then Some (action.GiveBoth (Num (quotient32 x z)) (Num (remainder32 x z)))
            else None) s)) (sym up) (λ ns. absurd (ns refl))
