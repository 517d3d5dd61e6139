-- The other instructions that compute: numbers go into variables, wherever these are.
use Rattle.std.proofs.Common.{◌≡◌, ℕ, ◌%◌, ◌^◌, ◌<◌, true, List, [], ◌∷◌, length, map, Some, None}
use Rattle.std.proofs.Common.{refl, sym, ap, ◌∙◌, subst, arith}
use Rattle.std.specs.Prelude.{ℤ, Ok, if◌then◌else◌}
use Rattle.std.specs.List.{filter_map}
use Rattle.std.specs.Int.{w32}
use Rattle.std.specs.Int.RustNames.{FitsSigned}
use Rattle.std.proofs.lemmas.Int.{ints}
use Rattle.pra_list.proofs.Truths.{itself}
use Rattle.ia_code.specs.declared.ins.Ins.TheVariants as ins
use Rattle.ia_code.specs.DecodeTable.{IsSound}
use Rattle.ia_emit.specs.declared.item.Item.TheVariants.{Plain}
use Rattle.ia_emit.specs.declared.item.Operand.{Operand}
use Rattle.ia_emit.specs.declared.item.Operand.TheVariants as at
use Rattle.ia_emit.specs.Emission.{emit, emit_op, rm_of, copy, set}
use Rattle.ia_emit.specs.Operands as emitted
use Rattle.ia_step.specs.Arithmetic.{diff_flags, shift_flags}
use Rattle.ia_step.specs.Run.{Ran}
use Rattle.pl_place.specs.declared.placed.LInstr.{LInstr}
use Rattle.pl_place.specs.declared.placed.LInstr.TheVariants as placed
use Rattle.pl_place.specs.declared.placed.LProc.{LProc}
use Rattle.pl_place.specs.Machine.{Cells, proc_of, operand, put, behind}
use Rattle.pl_place.specs.Placed.{op_of, kind_of}
use Rattle.pl_place.specs.Valid.{OperandsPlaced, counts_of}
use Rattle.pra_base.specs.declared.code.VInstr.{VInstr}
use Rattle.pra_base.specs.declared.code.VInstr.TheVariants as instr
use Rattle.pra_base.specs.declared.ids.ShiftOp.{ShiftOp}
use Rattle.pra_base.specs.declared.ids.VarId.{VarId}
use Rattle.pra_base.specs.Operands.{table}
use Rattle.pra_base.specs.Places.{number as number_of, has_register, is_mem}
use Rattle.pra_base.specs.Valid.{PushesLead, TakesArgs}
use Rattle.pra_base.specs.Words.{word, diff32, shifted}
use Rattle.vc_code.specs.declared.value.Value.TheVariants.{Num}
use Rattle.vc_code.specs.declared.action.Action.TheVariants as action
use Rattle.vc_code.specs.Operation.{gives, number}
use Rattle.vc_code.specs.Machine.{Activation, State, After}
use Rattle.ia_simulation.specs.Realizes.{IsLoadable, Realizes, Leads}
use Rattle.ia_simulation.proofs.Effects.{IsPlace, OneInMemory, sets, copies, negates, shifts_low}
use Rattle.pra_base.proofs.Shifts.{shifted_small}
use Rattle.ia_simulation.proofs.Masks.{in_mask, allowed_at, is_place, one_in_memory}
use Rattle.ia_simulation.proofs.Ops as ops
use Rattle.ia_simulation.proofs.Ops.{one_is, two_are, three_are, number_is, combined_fits}
use Rattle.ia_simulation.proofs.Ops.{no_number, put_done}
use Rattle.ia_simulation.proofs.Steps as steps
use Rattle.ia_simulation.proofs.Rows.{Led, plain_lead}

-- ---- operands

-- the operand of a place with a register
pub register_operand : (p : LProc) (v q : ℕ) → has_register q ≡ true → emitted.operand p v q ≡
    at.Register (emitted.register_at q)
register_operand p v q e =
    ap (λ b. if b then at.Register (emitted.register_at q) else if is_mem q then at.Memory
    (emitted.cell p v) else at.Number (emitted.number_of (kind_of p v))) e

set_fits : (to : Operand) (n : ℤ) → IsPlace to → IsSound (set to n) → FitsSigned w32 n
set_fits (at.Register r) n is sound = sound
set_fits (at.Memory a) n is sound = sound.1
set_fits (at.Number k) n is sound = absurd is

pub word_fits : (n : ℤ) → FitsSigned w32 n → word n < 2 ^ 32
word_fits n f = omega (arith, ints)

module _ (procs : List LProc) (data_words : ℕ) (ok : IsLoadable procs data_words) (s : State Cells)
    (r : Ran) (y : Realizes procs s r) (o : s.over ≡ None) where
  abbrev p : LProc
  p = proc_of procs s.top.proc

  abbrev P : State Cells → Type 0
  P = Leads procs s r

  abbrev T : ℕ → ℕ → Type 0
  T = TakesArgs (counts_of procs)

  module _ (i : VInstr) (places : _) (more : List LInstr)
      (e : s.top.home.rest ≡ placed.Op i places ∷ more) where
    -- the call behind it, before values are in its written roles
    abbrev pub after_it : Activation Cells
    after_it = ops.passed_by procs data_words ok s r y o i places more e

    pub placed_so : OperandsPlaced p i places.items
    placed_so = ops.operands_placed procs data_words ok s r y o i places more e

    pub lead_on : (length s.pushed ≡ 0) × PushesLead T 0 (filter_map op_of more) →
        PushesLead T (length s.pushed) (filter_map op_of more)
    lead_on = plain_lead procs data_words ok s r y o (filter_map op_of more) (length s.pushed)

  module _ (v w : VarId) (places : _) (more : List LInstr) where
    -- MOV of a number
    pub sets_it : (n : ℤ) → s.top.home.rest ≡ placed.Op (instr.Set v n) places ∷ more →
        Led procs data_words ok s r y o (instr.Set v n) more places.items
    sets_it n e =
        let i = instr.Set v n in
        let is = placed_so i places more e in
        let t = one_is places.items is.count in
        let a = t.0 in
        let is_a : OperandsPlaced p i (a ∷ []) = subst (OperandsPlaced p i) t.1 is in
        let to = emitted.operand p v.0 (number_of a) in
        let place : IsPlace to =
        is_place p v.0 true a ((in_mask (table i) v.0 (number_of a)
        (allowed_at p i (a ∷ []) is_a 0 _ refl)).0 (itself v.0)) in
        let em : emit p (placed.Op i places) ≡ Plain (set to n) ∷ [] = ap (emit_op p i) t.1 in
        let now = ops.now procs data_words ok s r y o i places more e (set to n) em in
        let fits = set_fits to n place
        (ops.sound procs data_words ok s r y o i places more e (set to n) em) in
        subst (Led procs data_words ok s r y o i more) (sym t.1) (λ ns.
        ops.gives_ok procs data_words ok s r y o (behind p i (map number_of (a ∷ [])) more s.top)
        (Num (word n)) ns (λ c ce.
        let wrote = ops.writes_here procs data_words ok s r y o i places more e (set to n) em v.0
        (number_of a) (Num (word n)) (word n) c
        (put_done p (put p (after_it i places more e) v.0 (number_of a) (Some (Num (word n)))) []
        [] c ce) (refl, word_fits n fits) in
        ops.gave procs data_words ok s r y o i places more e (set to n) em to (word n) c now.flags
        wrote (lead_on i places more e
        (steps.lead procs data_words ok s r y o (placed.Op i places) more e))
        (sets now to n _ place wrote.is)))

    -- MOV
    pub copies_it : s.top.home.rest ≡ placed.Op (instr.Copy v w) places ∷ more →
        Led procs data_words ok s r y o (instr.Copy v w) more places.items
    copies_it e =
        let i = instr.Copy v w in
        let is = placed_so i places more e in
        let t = two_are places.items is.count in
        let a = t.0 in
        let b = t.1 in
        let is_ab : OperandsPlaced p i (a ∷ b ∷ []) = subst (OperandsPlaced p i) t.2 is in
        let from = emitted.operand p w.0 (number_of a) in
        let to = emitted.operand p v.0 (number_of b) in
        let from_place : IsPlace from =
        is_place p w.0 _ a ((in_mask (table i) w.0 (number_of a)
        (allowed_at p i (a ∷ b ∷ []) is_ab 0 _ refl)).0 (itself w.0)) in
        let to_place : IsPlace to =
        is_place p v.0 true b ((in_mask (table i) v.0 (number_of b)
        (allowed_at p i (a ∷ b ∷ []) is_ab 1 _ refl)).1.0 (itself v.0)) in
        let one : OneInMemory to from = one_in_memory p v.0 w.0 (number_of b) (number_of a)
        (is_ab.pair 1 0 _ _ refl refl refl refl (λ e. cc)) in
        let em : emit p (placed.Op i places) ≡ Plain (copy to from) ∷ [] = ap (emit_op p i) t.2 in
        let now = ops.now procs data_words ok s r y o i places more e (copy to from) em in
        let after : After Cells = behind p i (map number_of (a ∷ b ∷ [])) more s.top in
        subst (Led procs data_words ok s r y o i more) (sym t.2) (λ ns.
        ops.bound_ok procs data_words ok s r y o after (operand p s.top w.0 (number_of a))
        (λ x. Some (action.Give x)) ns (λ x xe ns.
        ops.gives_ok procs data_words ok s r y o after x ns (λ c ce.
        let got = ops.reads_here procs data_words ok s r y o i places more e (copy to from) em w.0
        (number_of a) x (no_number from from_place) xe in
        let wrote = ops.writes_here procs data_words ok s r y o i places more e (copy to from) em
        v.0 (number_of b) x got.0 c
        (put_done p (put p (after_it i places more e) v.0 (number_of b) (Some x)) [] [] c ce)
        got.2 in
        ops.gave procs data_words ok s r y o i places more e (copy to from) em to got.0 c now.flags
        wrote (lead_on i places more e
        (steps.lead procs data_words ok s r y o (placed.Op i places) more e))
        (copies now to from got.0 _ to_place from_place one got.1 wrote.is))))

    -- NEG
    pub negates_it : s.top.home.rest ≡ placed.Op (instr.Neg v) places ∷ more →
        Led procs data_words ok s r y o (instr.Neg v) more places.items
    negates_it e =
        let i = instr.Neg v in
        let is = placed_so i places more e in
        let t = two_are places.items is.count in
        let a = t.0 in
        let b = t.1 in
        let is_ab : OperandsPlaced p i (a ∷ b ∷ []) = subst (OperandsPlaced p i) t.2 is in
        let to = emitted.operand p v.0 (number_of a) in
        let place : IsPlace to =
        is_place p v.0 _ a ((in_mask (table i) v.0 (number_of a)
        (allowed_at p i (a ∷ b ∷ []) is_ab 0 _ refl)).0 (itself v.0)) in
        let same : number_of a ≡ number_of b = is_ab.in_place 0 0 _ _ refl refl refl in
        let em : emit p (placed.Op i places) ≡ Plain (ins.Neg (rm_of to)) ∷ [] =
        ap (emit_op p i) t.2 in
        let j = ins.Neg (rm_of to) in
        let now = ops.now procs data_words ok s r y o i places more e j em in
        let after : After Cells = behind p i (map number_of (a ∷ b ∷ [])) more s.top in
        subst (Led procs data_words ok s r y o i more) (sym t.2) (λ ns.
        ops.bound_ok procs data_words ok s r y o after (number (operand p s.top v.0 (number_of a)))
        (λ x. gives (diff32 0 x)) ns (λ x xe ns.
        ops.gives_ok procs data_words ok s r y o after (Num (diff32 0 x)) ns (λ c ce.
        let got = ops.reads_here procs data_words ok s r y o i places more e j em v.0 (number_of a)
        (Num x) (no_number to place) (number_is _ x xe) in
        let put_b = put_done p (put p (after_it i places more e) v.0 (number_of b)
        (Some (Num (diff32 0 x)))) [] [] c ce in
        let wrote = ops.writes_here procs data_words ok s r y o i places more e j em v.0
        (number_of a) (Num (diff32 0 x)) (diff32 0 x) c
        (ap (λ q. put p (after_it i places more e) v.0 q (Some (Num (diff32 0 x)))) same ∙ put_b)
        (refl, omega arith) in
        ops.gave procs data_words ok s r y o i places more e j em to (diff32 0 x) c (diff_flags 0 x)
        wrote (lead_on i places more e
        (steps.lead procs data_words ok s r y o (placed.Op i places) more e))
        (negates now to x _ place (got.1 ∙ ap Ok got.2.0) wrote.is))))

    -- SHL, SHR, SAR
    pub shifts_it : (op : ShiftOp) (k : ℕ) →
        s.top.home.rest ≡ placed.Op (instr.Shift op v k) places ∷ more →
        Led procs data_words ok s r y o (instr.Shift op v k) more places.items
    shifts_it op k e =
        let i = instr.Shift op v k in
        let is = placed_so i places more e in
        let t = two_are places.items is.count in
        let a = t.0 in
        let b = t.1 in
        let is_ab : OperandsPlaced p i (a ∷ b ∷ []) = subst (OperandsPlaced p i) t.2 is in
        let to = emitted.operand p v.0 (number_of a) in
        let place : IsPlace to =
        is_place p v.0 _ a ((in_mask (table i) v.0 (number_of a)
        (allowed_at p i (a ∷ b ∷ []) is_ab 0 _ refl)).0 (itself v.0)) in
        let same : number_of a ≡ number_of b = is_ab.in_place 0 0 _ _ refl refl refl in
        let em : emit p (placed.Op i places) ≡ Plain (ins.Shift op (rm_of to) (k % 32)) ∷ [] =
        ap (emit_op p i) t.2 in
        let j = ins.Shift op (rm_of to) (k % 32) in
        let now = ops.now procs data_words ok s r y o i places more e j em in
        let after : After Cells = behind p i (map number_of (a ∷ b ∷ [])) more s.top in
        subst (Led procs data_words ok s r y o i more) (sym t.2) (λ ns.
        ops.bound_ok procs data_words ok s r y o after (number (operand p s.top v.0 (number_of a)))
        (λ x. gives (shifted op x k)) ns (λ x xe ns.
        ops.gives_ok procs data_words ok s r y o after (Num (shifted op x k)) ns (λ c ce.
        let got = ops.reads_here procs data_words ok s r y o i places more e j em v.0 (number_of a)
        (Num x) (no_number to place) (number_is _ x xe) in
        let put_b = put_done p (put p (after_it i places more e) v.0 (number_of b)
        (Some (Num (shifted op x k)))) [] [] c ce in
        let wrote = ops.writes_here procs data_words ok s r y o i places more e j em v.0
        (number_of a) (Num (shifted op x k)) (shifted op x k) c
        (ap (λ q. put p (after_it i places more e) v.0 q (Some (Num (shifted op x k)))) same
        ∙ put_b)
        (refl, shifted_small op x k got.2.1) in
        ops.gave procs data_words ok s r y o i places more e j em to (shifted op x k) c
        (shift_flags now.flags (shifted op x k) (k % 32))
        wrote (lead_on i places more e
        (steps.lead procs data_words ok s r y o (placed.Op i places) more e))
        (shifts_low now op to x k _ place (got.1 ∙ ap Ok got.2.0) wrote.is))))
