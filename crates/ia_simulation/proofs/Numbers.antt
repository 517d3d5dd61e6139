-- IMUL and CMP.
use Rattle.std.proofs.Common.{◌≡◌, ℕ, List, [], ◌∷◌, length, map, Some, None, refl, sym, ap, ◌∙◌}
use Rattle.std.proofs.Common.{subst, arith}
use Rattle.std.specs.Prelude.{ℤ, Ok}
use Rattle.std.specs.List.{filter_map}
use Rattle.std.specs.Int.{w32}
use Rattle.std.specs.Int.RustNames.{FitsSigned}
use Rattle.pra_list.proofs.Truths.{itself}
use Rattle.pra_list.proofs.Choices.{either}
use Rattle.net_form.specs.Tables.{is_short}
use Rattle.ia_code.specs.declared.ins.AluOp.TheVariants as alu
use Rattle.ia_code.specs.declared.ins.Reg.{Reg}
use Rattle.ia_code.specs.declared.ins.Rm.TheVariants as rm
use Rattle.ia_code.specs.declared.ins.Ins.TheVariants as ins
use Rattle.ia_code.specs.DecodeTable.{IsSound}
use Rattle.ia_emit.specs.declared.item.Item.TheVariants.{Plain}
use Rattle.ia_emit.specs.declared.item.Operand.{Operand}
use Rattle.ia_emit.specs.declared.item.Operand.TheVariants as at
use Rattle.ia_emit.specs.Emission.{emit, emit_op, reg_of, combine, multiply, multiply_number}
use Rattle.ia_emit.specs.Operands as emitted
use Rattle.ia_step.specs.Arithmetic.{diff_flags}
use Rattle.ia_step.specs.Effect.{goes, write_rm}
use Rattle.ia_step.specs.Run.{Ran}
use Rattle.ia_step.specs.State as machine
use Rattle.pl_place.specs.declared.placed.LInstr.{LInstr}
use Rattle.pl_place.specs.declared.placed.LInstr.TheVariants as placed
use Rattle.pl_place.specs.declared.placed.LProc.{LProc}
use Rattle.pl_place.specs.Machine.{Cells, proc_of, operand, put, behind}
use Rattle.pl_place.specs.Placed.{op_of}
use Rattle.pl_place.specs.Valid.{OperandsPlaced, counts_of}
use Rattle.pra_base.specs.declared.code.VInstr.{VInstr}
use Rattle.pra_base.specs.declared.code.VInstr.TheVariants as instr
use Rattle.pra_base.specs.declared.ids.VarId.{VarId}
use Rattle.pra_base.specs.Operands.{table, line_writes}
use Rattle.pra_base.specs.Places.{number as number_of}
use Rattle.pra_base.specs.Valid.{PushesLead, TakesArgs}
use Rattle.pra_base.specs.Words.{product32}
use Rattle.vc_code.specs.declared.value.Value.TheVariants.{Num}
use Rattle.vc_code.specs.declared.action.Action.TheVariants as action
use Rattle.vc_code.specs.Operation.{gives}
use Rattle.vc_code.specs.Machine.{Activation, State, After}
use Rattle.ia_simulation.specs.Realizes.{IsLoadable, Realizes, Leads}
use Rattle.ia_simulation.proofs.Effects.{IsPlace, OneInMemory, ok_same, multiplies, combines}
use Rattle.ia_simulation.proofs.Effects.{operates}
use Rattle.ia_simulation.proofs.Masks.{in_mask, allowed_at, is_place, is_register, one_in_memory}
use Rattle.ia_simulation.proofs.Spots.{read}
use Rattle.ia_simulation.proofs.Ops as ops
use Rattle.ia_simulation.proofs.Ops.{one_is, two_are, three_are, number_is, combined_fits}
use Rattle.ia_simulation.proofs.Ops.{no_number, put_done, short_is_word}
use Rattle.ia_simulation.proofs.Steps as steps
use Rattle.ia_simulation.proofs.Rows.{Led}
use Rattle.ia_simulation.proofs.Computes as computes
use Rattle.ia_simulation.proofs.Computes.{register_operand}

number_fits : (reg : Reg) (n : ℤ) → IsSound (multiply_number reg n) → FitsSigned w32 n
number_fits reg n = either (λ i. IsSound i → FitsSigned w32 n) (is_short n)
    (ins.ImulB reg (rm.Reg reg) n) (ins.ImulI reg (rm.Reg reg) n) (λ _ s. short_is_word n s.1)
    (λ _ s. s.1)

module _ (procs : List LProc) (data_words : ℕ) (ok : IsLoadable procs data_words) (s : State Cells)
    (r : Ran) (y : Realizes procs s r) (o : s.over ≡ None) where
  abbrev p : LProc
  p = proc_of procs s.top.proc

  abbrev P : State Cells → Type 0
  P = Leads procs s r

  abbrev T : ℕ → ℕ → Type 0
  T = TakesArgs (counts_of procs)

  module _ (i : VInstr) (places : _) (more : List LInstr)
      (e : s.top.home.rest ≡ placed.Op i places ∷ more) where
    abbrev after_it : Activation Cells
    after_it = computes.after_it procs data_words ok s r y o i places more e

    placed_so : OperandsPlaced p i places.items
    placed_so = computes.placed_so procs data_words ok s r y o i places more e

    lead_on : (length s.pushed ≡ 0) × PushesLead T 0 (filter_map op_of more) →
        PushesLead T (length s.pushed) (filter_map op_of more)
    lead_on = computes.lead_on procs data_words ok s r y o i places more e

  module _ (v w : VarId) (places : _) (more : List LInstr) where
    -- IMUL
    pub multiplies_it : s.top.home.rest ≡ placed.Op (instr.Mul v w) places ∷ more →
        Led procs data_words ok s r y o (instr.Mul v w) more places.items
    unfolding write_rm
    multiplies_it e =
        let i = instr.Mul v w in
        let is = placed_so i places more e in
        let t = three_are places.items is.count in
        let a = t.0 in
        let b = t.1 in
        let c = t.2 in
        let is_l : OperandsPlaced p i (a ∷ b ∷ c ∷ []) = subst (OperandsPlaced p i) t.3 is in
        let to = emitted.operand p v.0 (number_of a) in
        let from = emitted.operand p w.0 (number_of b) in
        let reg = emitted.register_at (number_of a) in
        let to_is : to ≡ at.Register reg =
        register_operand p v.0 (number_of a)
        (is_register p v.0 _ a ((in_mask (table i) v.0 (number_of a)
        (allowed_at p i (a ∷ b ∷ c ∷ []) is_l 0 _ refl)).0 (itself v.0))) in
        let same : number_of a ≡ number_of c = is_l.in_place 0 0 _ _ refl refl refl in
        let j = multiply reg from in
        let em : emit p (placed.Op i places) ≡ Plain j ∷ [] = ap (emit_op p i) t.3
        ∙ ap (λ x. Plain (multiply (reg_of x) from) ∷ []) to_is in
        let now = ops.now procs data_words ok s r y o i places more e j em in
        let sound = ops.sound procs data_words ok s r y o i places more e j em in
        let after : After Cells = behind p i (map number_of (a ∷ b ∷ c ∷ [])) more s.top in
        subst (Led procs data_words ok s r y o i more) (sym t.3) (λ ns.
        ops.both_ok procs data_words ok s r y o after (operand p s.top v.0 (number_of a))
        (operand p s.top w.0 (number_of b)) (λ ab. gives (product32 ab.0 ab.1)) ns
        (λ x z xe ze ns.
        ops.gives_ok procs data_words ok s r y o after (Num (product32 x z)) ns (λ d de.
        let got = ops.reads_here procs data_words ok s r y o i places more e j em v.0 (number_of a)
        (Num x) (no_number to (subst IsPlace (sym to_is) tt)) xe in
        let other = ops.reads_here procs data_words ok s r y o i places more e j em w.0
        (number_of b) (Num z) (multiplied_fits reg from sound) ze in
        let put_c = put_done p (put p (after_it i places more e) v.0 (number_of c)
        (Some (Num (product32 x z)))) [] [] d de in
        let wrote = subst (λ q. ops.Writes procs data_words ok s r y o i places more e j em q
        (product32 x z) d) to_is
        (ops.writes_here procs data_words ok s r y o i places more e j em v.0 (number_of a)
        (Num (product32 x z)) (product32 x z) d
        (ap (λ q. put p (after_it i places more e) v.0 q (Some (Num (product32 x z)))) same ∙ put_c)
        (refl, omega arith)) in
        let m = multiplies now reg from x z (ap (read now) (sym to_is) ∙ got.1 ∙ ap Ok got.2.0)
        (other.1 ∙ ap Ok other.2.0) in
        ops.gave procs data_words ok s r y o i places more e j em (at.Register reg) (product32 x z)
        d m.0 wrote (lead_on i places more e
        (steps.lead procs data_words ok s r y o (placed.Op i places) more e))
        (m.1 ∙ ap (λ t. goes (machine.with_flags t m.0))
        (ok_same (machine.with_register now reg (product32 x z))
        (record now { regs = wrote.regs; stack = wrote.stack }) wrote.is)))))
      where
        multiplied_fits : (reg : _) (from : Operand) → IsSound (multiply reg from) → (n : ℤ) →
            from ≡ at.Number n → FitsSigned w32 n
        multiplied_fits reg from sound n e =
            number_fits reg n (subst (λ o. IsSound (multiply reg o)) e sound)

    -- CMP
    pub compares_it : s.top.home.rest ≡ placed.Op (instr.Cmp v w) places ∷ more →
        Led procs data_words ok s r y o (instr.Cmp v w) more places.items
    compares_it e =
        let i = instr.Cmp v w in
        let is = placed_so i places more e in
        let t = two_are places.items is.count in
        let a = t.0 in
        let b = t.1 in
        let is_l : OperandsPlaced p i (a ∷ b ∷ []) = subst (OperandsPlaced p i) t.2 is in
        let one_is_ = emitted.operand p v.0 (number_of a) in
        let other_is = emitted.operand p w.0 (number_of b) in
        let place : IsPlace one_is_ = is_place p v.0 (line_writes (table i) v.0) a
        ((in_mask (table i) v.0 (number_of a) (allowed_at p i (a ∷ b ∷ []) is_l 0 _ refl)).0
        (itself v.0)) in
        let one : OneInMemory one_is_ other_is = one_in_memory p v.0 w.0 (number_of a) (number_of b)
        (is_l.pair 0 1 _ _ refl refl refl refl (λ e. cc)) in
        let j = combine alu.Cmp one_is_ other_is in
        let em : emit p (placed.Op i places) ≡ Plain j ∷ [] = ap (emit_op p i) t.2 in
        let now = ops.now procs data_words ok s r y o i places more e j em in
        let sound = ops.sound procs data_words ok s r y o i places more e j em in
        let after : After Cells = behind p i (map number_of (a ∷ b ∷ [])) more s.top in
        subst (Led procs data_words ok s r y o i more) (sym t.2) (λ ns.
        ops.both_ok procs data_words ok s r y o after (operand p s.top v.0 (number_of a))
        (operand p s.top w.0 (number_of b)) (λ ab. Some (action.Compare ab.0 ab.1)) ns
        (λ x z xe ze ns.
        let got = ops.reads_here procs data_words ok s r y o i places more e j em v.0 (number_of a)
        (Num x) (no_number one_is_ place) xe in
        let other = ops.reads_here procs data_words ok s r y o i places more e j em w.0
        (number_of b) (Num z) (combined_fits alu.Cmp one_is_ other_is sound) ze in
        ops.changes procs data_words ok s r y o i places more e j em (after_it i places more e)
        (Some (x, z)) (diff_flags x z) now.regs now.stack
        (record { proc = refl; block = refl; rest = refl; end = refl })
        (lead_on i places more e
        (steps.lead procs data_words ok s r y o (placed.Op i places) more e))
        (ops.lies_behind procs data_words ok s r y o i places more e j em)
        (refl, got.2.1, other.2.1)
        (combines now alu.Cmp one_is_ other_is z place one (other.1 ∙ ap Ok other.2.0)
        ∙ operates now alu.Cmp one_is_ x z now place (got.1 ∙ ap Ok got.2.0) refl)))
