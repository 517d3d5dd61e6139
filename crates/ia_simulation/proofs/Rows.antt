-- The operations of one row of opcodes: v op= w, wherever the variables are.
use Rattle.std.proofs.Common.{◌≡◌, ◌≢◌, ℕ, ◌^◌, ◌<◌, true, false, List, [], ◌∷◌, length, map, Some}
use Rattle.std.proofs.Common.{None, refl, sym, ap, ◌∙◌, subst, arith}
use Rattle.std.specs.Prelude.{Ok, bit_and, bit_or, bit_xor}
use Rattle.std.specs.List.{filter_map}
use Rattle.std.proofs.lemmas.Nat.{and_le_l, or_of_32, xor_of_32}
use Rattle.pra_list.proofs.Truths.{itself}
use Rattle.ia_code.specs.declared.ins.AluOp.{AluOp}
use Rattle.ia_code.specs.declared.ins.AluOp.TheVariants as alu
use Rattle.ia_code.specs.declared.ins.Ins.{Ins}
use Rattle.ia_code.specs.declared.ins.Rm.{Rm}
use Rattle.ia_emit.specs.declared.item.Item.TheVariants.{Plain}
use Rattle.ia_emit.specs.Emission.{emit, emit_op, rm_of, combine}
use Rattle.ia_emit.specs.Operands as emitted
use Rattle.ia_step.specs.Effect.{write_rm, keep_result}
use Rattle.ia_step.specs.Arithmetic.{result_of, flags_of}
use Rattle.ia_step.specs.Run.{Ran}
use Rattle.ia_step.specs.State as machine
use Rattle.pl_place.specs.declared.placed.LInstr.{LInstr}
use Rattle.pl_place.specs.declared.placed.LInstr.TheVariants as placed
use Rattle.pl_place.specs.declared.placed.LProc.{LProc}
use Rattle.pl_place.specs.Machine.{Cells, proc_of, shape, operand, operands, put, behind}
use Rattle.pl_place.specs.Machine.{placed_machine}
use Rattle.pl_place.specs.Placed.{op_of, place_in}
use Rattle.pl_place.specs.Valid.{counts_of}
use Rattle.pra_base.specs.declared.code.VInstr.{VInstr}
use Rattle.pra_base.specs.declared.code.VInstr.TheVariants as instr
use Rattle.pra_base.specs.declared.ids.Place.{Place}
use Rattle.pra_base.specs.declared.ids.VarId.{VarId}
use Rattle.pra_base.specs.Operands.{read_by, arithmetic, mask_of}
use Rattle.pra_base.specs.Places.{number as number_of, allows, is_mem}
use Rattle.pra_base.specs.RunEnd.{Wrong}
use Rattle.pra_base.specs.Valid.{PushesLead, TakesArgs}
use Rattle.pra_base.specs.Words.{sum32, diff32}
use Rattle.vc_code.specs.declared.value.Value.{Value}
use Rattle.vc_code.specs.declared.value.Value.TheVariants.{Num}
use Rattle.vc_code.specs.Operation.{operate, computes, gives}
use Rattle.vc_code.specs.Machine.{Activation, State, After, here, apply}
use Rattle.ia_simulation.specs.Realizes.{IsLoadable, Realizes, Leads}
use Rattle.ia_simulation.proofs.Effects.{IsPlace, OneInMemory, combines, operates}
use Rattle.ia_simulation.proofs.Masks.{in_mask, allowed_at, is_place, one_in_memory}
use Rattle.ia_simulation.proofs.Ops as ops
use Rattle.ia_simulation.proofs.Ops.{one_is, two_are, three_are, combined_fits, no_number, put_done}
use Rattle.ia_simulation.proofs.Steps as steps

module _ (procs : List LProc) (data_words : ℕ) (ok : IsLoadable procs data_words) (s : State Cells)
    (r : Ran) (y : Realizes procs s r) (o : s.over ≡ None) where
  abbrev p : LProc
  p = proc_of procs s.top.proc

  abbrev P : State Cells → Type 0
  P = Leads procs s r

  abbrev T : ℕ → ℕ → Type 0
  T = TakesArgs (counts_of procs)

  -- what an instruction with these places makes of the state
  abbrev pub done : VInstr → List LInstr → List Place → State Cells
  done i more l =
      apply (placed_machine procs) (behind p i (map number_of l) more s.top)
      (operate (here (shape procs) s) i (operands p s.top (read_by i) (map number_of l))) s

  -- it is led to, where it is not stuck
  abbrev pub Led : VInstr → List LInstr → List Place → Type 0
  Led i more l = (done i more l).over ≢ Some Wrong → P (done i more l)

  pub plain_lead : (rest : List VInstr) (n : ℕ) → (n ≡ 0) × PushesLead T 0 rest →
      PushesLead T n rest
  plain_lead rest n l = subst (λ k. PushesLead T k rest) (sym l.0) l.1

  -- ---- operations of one row of opcodes

  abbrev Keeps : AluOp → Type 0
  Keeps op = (m : machine.State) (rm : Rm) (n : ℕ) → keep_result op m rm n ≡ write_rm m rm n

  abbrev Below : (ℕ → ℕ → ℕ) → Type 0
  Below f = (a b : ℕ) → a < 2 ^ 32 → b < 2 ^ 32 → f a b < 2 ^ 32

  module _ (i : VInstr) (places : _) (more : List LInstr)
      (e : s.top.home.rest ≡ placed.Op i places ∷ more) (op : AluOp) (f : ℕ → ℕ → ℕ) (v w q t : ℕ)
      (em : emit p (placed.Op i places) ≡
      Plain (combine op (emitted.operand p v q) (emitted.operand p w t)) ∷ [])
      (is : IsPlace (emitted.operand p v q))
      (one : OneInMemory (emitted.operand p v q) (emitted.operand p w t))
      (lead : PushesLead T (length s.pushed) (filter_map op_of more)) where
    abbrev j : Ins
    j = combine op (emitted.operand p v q) (emitted.operand p w t)

    binary : Keeps op → ((a b : ℕ) → result_of op a b ≡ f a b) → Below f → (after : After Cells) →
        ((value : Value) (c : Activation Cells) → after (value ∷ []) ≡ Some c →
        put p (ops.passed_by procs data_words ok s r y o i places more e) v q (Some value) ≡
        Some c) →
        (apply (placed_machine procs) after
        (computes f (operand p s.top v q ∷ operand p s.top w t ∷ [])) s).over ≢ Some Wrong →
        P (apply (placed_machine procs) after
        (computes f (operand p s.top v q ∷ operand p s.top w t ∷ [])) s)
    binary keeps result below after writes ns =
        ops.both_ok procs data_words ok s r y o after (operand p s.top v q) (operand p s.top w t)
        (λ ab. gives (f ab.0 ab.1)) ns (λ a b va wb ns.
        ops.gives_ok procs data_words ok s r y o after (Num (f a b)) ns (λ c ce.
        let now = ops.now procs data_words ok s r y o i places more e j em in
        let sound = ops.sound procs data_words ok s r y o i places more e j em in
        let ra = ops.reads_here procs data_words ok s r y o i places more e j em v q (Num a)
        (no_number (emitted.operand p v q) is) va in
        let rb = ops.reads_here procs data_words ok s r y o i places more e j em w t (Num b)
        (combined_fits op (emitted.operand p v q) (emitted.operand p w t) sound) wb in
        let wrote = ops.writes_here procs data_words ok s r y o i places more e j em v q
        (Num (f a b)) (f a b) c (writes (Num (f a b)) c ce) (refl, below a b ra.2.1 rb.2.1) in
        ops.gave procs data_words ok s r y o i places more e j em (emitted.operand p v q) (f a b) c
        (flags_of op a b) wrote lead
        (combines now op (emitted.operand p v q) (emitted.operand p w t) b is one
        (rb.1 ∙ ap Ok rb.2.0)
        ∙ operates now op (emitted.operand p v q) a b _ is (ra.1 ∙ ap Ok ra.2.0)
        (keeps now _ _ ∙ ap (write_rm now (rm_of (emitted.operand p v q))) (result a b)
        ∙ wrote.is))))

  -- what the places of an operation of a row have to do with each other
  arithmetic_place : (v w : VarId) (q : Place) → allows (mask_of (arithmetic v w) v.0)
      (number_of q) ≡ true → IsPlace (emitted.operand p v.0 (number_of q))
  arithmetic_place v w q a =
      is_place p v.0 _ q ((in_mask (arithmetic v w) v.0 (number_of q) a).0 (itself v.0))

  module _ (i : VInstr) (v w : VarId) (op : AluOp) (f : ℕ → ℕ → ℕ) (places : _) (more : List LInstr)
      (e : s.top.home.rest ≡ placed.Op i places ∷ more) where
    -- what valid code says of the three places
    pub record Places (l : List Place) : Type 0 where
      pub in_mask_of : allows (mask_of (arithmetic v w) v.0) (place_in l 0) ≡ true
      pub pair : is_mem (place_in l 0) ≡ true → is_mem (place_in l 1) ≡ false
      pub same : place_in l 0 ≡ place_in l 2

    -- what the definitions say of it at any three places
    pub record Says : Type 0 where
      pub emits : (a b c : Place) → emit_op p i (a ∷ b ∷ c ∷ []) ≡
          Plain (combine op (emitted.operand p v.0 (number_of a))
          (emitted.operand p w.0 (number_of b))) ∷ []
      pub acts : (a b c : Place) → operate (here (shape procs) s) i
          (operands p s.top (read_by i) (map number_of (a ∷ b ∷ c ∷ []))) ≡
          computes f (operand p s.top v.0 (number_of a) ∷ operand p s.top w.0 (number_of b) ∷ [])
      pub writes : (a b c : Place) (value : Value) (d : Activation Cells) →
          behind p i (map number_of (a ∷ b ∷ c ∷ [])) more s.top (value ∷ []) ≡ Some d →
          put p (ops.passed_by procs data_words ok s r y o i places more e) v.0 (number_of c)
          (Some value) ≡ Some d

    row : Keeps op → ((a b : ℕ) → result_of op a b ≡ f a b) → Below f → Says → Places places.items →
        length places.items ≡ 3 →
        PushesLead T (length s.pushed) (filter_map op_of more) → Led i more places.items
    row keeps result below says are three lead =
        let t = three_are places.items three in
        let a = t.0 in
        let b = t.1 in
        let c = t.2 in
        let at_them : Places (a ∷ b ∷ c ∷ []) = subst Places t.3 are in
        let after : After Cells = behind p i (map number_of (a ∷ b ∷ c ∷ [])) more s.top in
        subst (Led i more) (sym t.3)
        (subst (λ act. (apply (placed_machine procs) after act s).over ≢ Some Wrong →
        P (apply (placed_machine procs) after act s)) (sym (says.acts a b c))
        (binary i places more e op f v.0 w.0 (number_of a) (number_of b)
        (ap (emit_op p i) t.3 ∙ says.emits a b c) (arithmetic_place v w a at_them.in_mask_of)
        (one_in_memory p v.0 w.0 (number_of a) (number_of b) at_them.pair) lead keeps result below
        after
        (λ value d de. ap (λ q. put p (ops.passed_by procs data_words ok s r y o i places more e)
        v.0 q (Some value)) at_them.same ∙ says.writes a b c value d de)))

  -- ---- each of them

  module _ (v w : VarId) (places : _) (more : List LInstr) where
    pub adds : s.top.home.rest ≡ placed.Op (instr.Add v w) places ∷ more →
        Led (instr.Add v w) more places.items
    adds e =
        let i = instr.Add v w in
        let is = ops.operands_placed procs data_words ok s r y o i places more e in
        row i v w alu.Add sum32 places more e (λ m rm n. refl) (λ a b. refl)
        (λ a b la lb. omega arith)
        (record {
          emits = λ a b c. refl;
          acts = λ a b c. refl;
          writes =
              λ a b c value d de. put_done p
              (put p (ops.passed_by procs data_words ok s r y o i places more e) v.0 (number_of c)
              (Some value)) [] [] d de;
        })
        (record {
          in_mask_of = allowed_at p i places.items is 0 _ refl;
          pair =
              is.pair 0 1 _ _ refl refl refl refl (λ e. cc);
          same =
              is.in_place 0 0 _ _ refl refl refl;
        })
        is.count (plain_lead (filter_map op_of more) (length s.pushed)
        (steps.lead procs data_words ok s r y o (placed.Op i places) more e))

    pub subtracts : s.top.home.rest ≡ placed.Op (instr.Sub v w) places ∷ more →
        Led (instr.Sub v w) more places.items
    subtracts e =
        let i = instr.Sub v w in
        let is = ops.operands_placed procs data_words ok s r y o i places more e in
        row i v w alu.Sub diff32 places more e (λ m rm n. refl) (λ a b. refl)
        (λ a b la lb. omega arith)
        (record {
          emits = λ a b c. refl;
          acts = λ a b c. refl;
          writes =
              λ a b c value d de. put_done p
              (put p (ops.passed_by procs data_words ok s r y o i places more e) v.0 (number_of c)
              (Some value)) [] [] d de;
        })
        (record {
          in_mask_of = allowed_at p i places.items is 0 _ refl;
          pair =
              is.pair 0 1 _ _ refl refl refl refl (λ e. cc);
          same =
              is.in_place 0 0 _ _ refl refl refl;
        })
        is.count (plain_lead (filter_map op_of more) (length s.pushed)
        (steps.lead procs data_words ok s r y o (placed.Op i places) more e))

    pub ands : s.top.home.rest ≡ placed.Op (instr.And v w) places ∷ more →
        Led (instr.And v w) more places.items
    ands e =
        let i = instr.And v w in
        let is = ops.operands_placed procs data_words ok s r y o i places more e in
        row i v w alu.And bit_and places more e (λ m rm n. refl) (λ a b. refl)
        (λ a b la lb. (let le = and_le_l a b in omega (arith, le, la)))
        (record {
          emits = λ a b c. refl;
          acts = λ a b c. refl;
          writes =
              λ a b c value d de. put_done p
              (put p (ops.passed_by procs data_words ok s r y o i places more e) v.0 (number_of c)
              (Some value)) [] [] d de;
        })
        (record {
          in_mask_of = allowed_at p i places.items is 0 _ refl;
          pair =
              is.pair 0 1 _ _ refl refl refl refl (λ e. cc);
          same =
              is.in_place 0 0 _ _ refl refl refl;
        })
        is.count (plain_lead (filter_map op_of more) (length s.pushed)
        (steps.lead procs data_words ok s r y o (placed.Op i places) more e))

    pub ors : s.top.home.rest ≡ placed.Op (instr.Or v w) places ∷ more →
        Led (instr.Or v w) more places.items
    ors e =
        let i = instr.Or v w in
        let is = ops.operands_placed procs data_words ok s r y o i places more e in
        row i v w alu.Or bit_or places more e (λ m rm n. refl) (λ a b. refl)
        (λ a b la lb. or_of_32 a b la lb)
        (record {
          emits = λ a b c. refl;
          acts = λ a b c. refl;
          writes =
              λ a b c value d de. put_done p
              (put p (ops.passed_by procs data_words ok s r y o i places more e) v.0 (number_of c)
              (Some value)) [] [] d de;
        })
        (record {
          in_mask_of = allowed_at p i places.items is 0 _ refl;
          pair =
              is.pair 0 1 _ _ refl refl refl refl (λ e. cc);
          same =
              is.in_place 0 0 _ _ refl refl refl;
        })
        is.count (plain_lead (filter_map op_of more) (length s.pushed)
        (steps.lead procs data_words ok s r y o (placed.Op i places) more e))

    pub xors : s.top.home.rest ≡ placed.Op (instr.Xor v w) places ∷ more →
        Led (instr.Xor v w) more places.items
    xors e =
        let i = instr.Xor v w in
        let is = ops.operands_placed procs data_words ok s r y o i places more e in
        row i v w alu.Xor bit_xor places more e (λ m rm n. refl) (λ a b. refl)
        (λ a b la lb. xor_of_32 a b la lb)
        (record {
          emits = λ a b c. refl;
          acts = λ a b c. refl;
          writes =
              λ a b c value d de. put_done p
              (put p (ops.passed_by procs data_words ok s r y o i places more e) v.0 (number_of c)
              (Some value)) [] [] d de;
        })
        (record {
          in_mask_of = allowed_at p i places.items is 0 _ refl;
          pair =
              is.pair 0 1 _ _ refl refl refl refl (λ e. cc);
          same =
              is.in_place 0 0 _ _ refl refl refl;
        })
        is.count (plain_lead (filter_map op_of more) (length s.pushed)
        (steps.lead procs data_words ok s r y o (placed.Op i places) more e))
