-- The instructions that call the host: a number or a line is written, a number is read.
use Rattle.std.proofs.Common.{◌≡◌, ◌≢◌, ℕ, ◌+◌, ◌++◌, true, List, [], ◌∷◌, length, map, Some, None}
use Rattle.std.proofs.Common.{refl, sym, ap, ◌∙◌, subst, arith}
use Rattle.std.specs.Prelude.{ℤ, Ok}
use Rattle.std.specs.List.{filter_map}
use Rattle.pra_list.proofs.Truths.{itself}
use Rattle.ia_code.specs.declared.ins.Ins.{Ins}
use Rattle.ia_code.specs.declared.ins.Reg.TheVariants.{Eax}
use Rattle.ia_code.specs.declared.ins.Ins.TheVariants as ins
use Rattle.ia_emit.specs.declared.item.Item.TheVariants.{Plain}
use Rattle.ia_emit.specs.declared.item.Operand.TheVariants as at
use Rattle.ia_emit.specs.Emission.{emit}
use Rattle.ia_emit.specs.Operands as emitted
use Rattle.ia_step.specs.declared.out.Ending.TheVariants as ending
use Rattle.ia_step.specs.declared.out.StepOut.{StepOut}
use Rattle.ia_step.specs.declared.out.StepOut.TheVariants as out
use Rattle.ia_step.specs.Effect.{effect, goes, service, take_input, write_rm}
use Rattle.ia_step.specs.Run.{Ran, noted}
use Rattle.ia_step.specs.State as machine
use Rattle.pl_place.specs.declared.placed.LInstr.{LInstr}
use Rattle.pl_place.specs.declared.placed.LInstr.TheVariants as placed
use Rattle.pl_place.specs.declared.placed.LProc.{LProc}
use Rattle.pl_place.specs.Machine.{Cells, proc_of, passed, operand, put, behind}
use Rattle.pl_place.specs.Placed.{op_of}
use Rattle.pl_place.specs.Valid.{OperandsPlaced, counts_of}
use Rattle.pra_base.specs.declared.code.VInstr.{VInstr}
use Rattle.pra_base.specs.declared.code.VInstr.TheVariants as instr
use Rattle.pra_base.specs.declared.ids.VarId.{VarId}
use Rattle.pra_base.specs.Operands.{table, line_writes}
use Rattle.pra_base.specs.Places.{number as number_of}
use Rattle.pra_base.specs.Valid.{PushesLead, TakesArgs}
use Rattle.pra_base.specs.Words.{word, signed}
use Rattle.pra_base.specs.RunEnd.{Wrong, Trapped}
use Rattle.pra_base.specs.declared.event.OutEvent.{OutEvent}
use Rattle.pra_base.specs.declared.event.OutEvent.TheVariants as event
use Rattle.pra_base.specs.declared.event.TrapKind.TheVariants as trap
use Rattle.pra_base.specs.declared.ids.Place.{Place}
use Rattle.vc_code.specs.declared.value.Value.TheVariants.{Num}
use Rattle.vc_code.specs.declared.action.Action.TheVariants as action
use Rattle.vc_code.specs.Operation.{number}
use Rattle.vc_code.specs.Machine.{Activation, State, After, ended, takes, with_event, with_rest}
use Rattle.ia_simulation.specs.Realizes.{IsLoadable, AreWords, Runs, Realizes, Leads}
use Rattle.ia_simulation.proofs.Effects.{IsPlace, ok_same}
use Rattle.ia_simulation.proofs.Masks.{in_mask, allowed_at, in_eax}
use Rattle.ia_simulation.proofs.Spots.{read}
use Rattle.ia_simulation.proofs.Ops as ops
use Rattle.ia_simulation.proofs.Ops.{one_is, two_are, three_are, number_is, combined_fits}
use Rattle.ia_simulation.proofs.Ops.{no_number, put_done}
use Rattle.ia_simulation.proofs.Steps as steps
use Rattle.ia_simulation.proofs.Steps.{found_ok}
use Rattle.ia_simulation.proofs.Rows.{Led}
use Rattle.ia_simulation.proofs.Computes as computes

module _ (procs : List LProc) (data_words : ℕ) (ok : IsLoadable procs data_words) (s : State Cells)
    (r : Ran) (y : Realizes procs s r) (o : s.over ≡ None) where
  abbrev p : LProc
  p = proc_of procs s.top.proc

  abbrev P : State Cells → Type 0
  P = Leads procs s r

  abbrev T : ℕ → ℕ → Type 0
  T = TakesArgs (counts_of procs)

  module _ (i : VInstr) (places : _) (more : List LInstr)
      (e : s.top.home.rest ≡ placed.Op i places ∷ more) where
    abbrev after_it : Activation Cells
    after_it = computes.after_it procs data_words ok s r y o i places more e

    placed_so : OperandsPlaced p i places.items
    placed_so = computes.placed_so procs data_words ok s r y o i places more e

    lead_on : (length s.pushed ≡ 0) × PushesLead T 0 (filter_map op_of more) →
        PushesLead T (length s.pushed) (filter_map op_of more)
    lead_on = computes.lead_on procs data_words ok s r y o i places more e

  -- the machine goes on with other events
  runs_told : (events : _) (t : State Cells) (m : machine.State) → Runs procs t m →
      Runs procs (record t { events = events }) m
  runs_told events t m z = record {
    backs = z.backs;
    code = z.code;
    stands = z.stands;
    waiting = z.waiting;
    lies = z.lies;
    flags = z.flags;
    input = z.input;
    input_fits = z.input_fits;
  }

  module _ (i : VInstr) (places : _) (more : List LInstr)
      (e : s.top.home.rest ≡ placed.Op i places ∷ more) (j : Ins)
      (em : emit p (placed.Op i places) ≡ Plain j ∷ [])
      (lead : PushesLead T (length s.pushed) (filter_map op_of more)) where
    abbrev now : machine.State
    now = ops.now procs data_words ok s r y o i places more e j em

    -- it tells an event, and nothing else changes
    tells : (event : OutEvent) (told : StepOut) → effect now j ≡ Ok (now, told) →
        noted r.events told ≡ r.events ++ event ∷ [] →
        P (with_event event s (after_it i places more e))
    tells event told f n =
        let c = after_it i places more e in
        steps.leads procs data_words ok s r y o (placed.Op i places) more e (Plain j) [] em now told
        (with_event event s c) f (record {
          ending = y.ending;
          events = n ∙ ap (λ l. l ++ event ∷ []) y.events;
          taken = y.taken;
          going = λ _.
              runs_told (s.events ++ event ∷ []) (record s { top = c; compared = None }) now
              (steps.runs_on procs data_words ok s r y o (placed.Op i places) more e c None
              now.flags now.regs now.stack _
              (steps.clobbered_same i more s.top) lead
              (ops.lies_behind procs data_words ok s r y o i places more e j em) tt
              (steps.alone procs data_words ok s r y o (placed.Op i places) more e (Plain j)
              [] em refl));
        })

  module _ (v : VarId) (places : _) (more : List LInstr) where
    -- INT 21h writes EAX
    pub writes_it : s.top.home.rest ≡ placed.Op (instr.Write v) places ∷ more →
        Led procs data_words ok s r y o (instr.Write v) more places.items
    unfolding effect service
    writes_it e =
        let i = instr.Write v in
        let is = placed_so i places more e in
        let t = one_is places.items is.count in
        let a = t.0 in
        let is_l : OperandsPlaced p i (a ∷ []) = subst (OperandsPlaced p i) t.1 is in
        let from = emitted.operand p v.0 (number_of a) in
        let from_is : from ≡ at.Register Eax = in_eax p v.0 (line_writes (table i) v.0) a
        ((in_mask (table i) v.0 (number_of a) (allowed_at p i (a ∷ []) is_l 0 _ refl)).0
        (itself v.0)) in
        let j = ins.Int 0x21 in
        let em : emit p (placed.Op i places) ≡ Plain j ∷ [] = refl in
        let now = ops.now procs data_words ok s r y o i places more e j em in
        let after : After Cells = behind p i (map number_of (a ∷ [])) more s.top in
        subst (Led procs data_words ok s r y o i more) (sym t.1) (λ ns.
        ops.bound_ok procs data_words ok s r y o after (number (operand p s.top v.0 (number_of a)))
        (λ x. Some (action.Tell (event.Number (signed x)))) ns (λ x xe ns.
        let got = ops.reads_here procs data_words ok s r y o i places more e j em v.0 (number_of a)
        (Num x) (no_number from (subst IsPlace (sym from_is) tt)) (number_is _ x xe) in
        let eax : now.regs.eax ≡ x =
        ok_same now.regs.eax x (ap (read now) (sym from_is) ∙ got.1 ∙ ap Ok got.2.0) in
        tells i places more e j em
        (lead_on i places more e
        (steps.lead procs data_words ok s r y o (placed.Op i places) more e))
        (event.Number (signed x)) (out.Wrote (signed now.regs.eax)) refl
        (ap (λ n. r.events ++ event.Number (signed n) ∷ []) eax)))

    -- INT 22h ends the line
    pub lines_it : s.top.home.rest ≡ placed.Op instr.Line places ∷ more →
        Led procs data_words ok s r y o instr.Line more places.items
    unfolding effect service
    lines_it e ns =
        tells instr.Line places more e (ins.Int 0x22) refl
        (lead_on instr.Line places more e
        (steps.lead procs data_words ok s r y o (placed.Op instr.Line places) more e))
        event.Line out.Line refl refl

    -- INT 23h reads a word into EAX
    pub reads_it : s.top.home.rest ≡ placed.Op (instr.Read v) places ∷ more →
        Led procs data_words ok s r y o (instr.Read v) more places.items
    unfolding effect service write_rm
    reads_it e =
        let i = instr.Read v in
        let is = placed_so i places more e in
        let t = one_is places.items is.count in
        let a = t.0 in
        let is_l : OperandsPlaced p i (a ∷ []) = subst (OperandsPlaced p i) t.1 is in
        let to = emitted.operand p v.0 (number_of a) in
        let to_is : to ≡ at.Register Eax =
        in_eax p v.0 true a ((in_mask (table i) v.0 (number_of a)
        (allowed_at p i (a ∷ []) is_l 0 _ refl)).0 (itself v.0)) in
        let j = ins.Int 0x23 in
        let em : emit p (placed.Op i places) ≡ Plain j ∷ [] = refl in
        subst (Led procs data_words ok s r y o i more) (sym t.1) (taking e a to_is s.input refl)
      where
        taking : (e : s.top.home.rest ≡ placed.Op (instr.Read v) places ∷ more) (a : Place) →
            emitted.operand p v.0 (number_of a) ≡ at.Register Eax → (input : List ℤ) → s.input ≡
            input →
            (takes s s.input (behind p (instr.Read v) (map number_of (a ∷ [])) more s.top)).over ≢
            Some Wrong → P (takes s s.input
            (behind p (instr.Read v) (map number_of (a ∷ [])) more s.top))
        taking e a to_is [] none =
            let i = instr.Read v in
            let j = ins.Int 0x23 in
            let now = ops.now procs data_words ok s r y o i places more e j refl in
            let x = steps.x procs data_words ok s r y o in
            subst (λ l. (takes s l (behind p i (map number_of (a ∷ [])) more s.top)).over ≢ Some
            Wrong → P (takes s l (behind p i (map number_of (a ∷ [])) more s.top))) (sym none)
            (λ ns.
            steps.leads procs data_words ok s r y o (placed.Op i places) more e (Plain j) [] refl
            (machine.over now (ending.Trap trap.Input)) (out.Trap trap.Input)
            (ended s (Trapped trap.Input))
            (ap (take_input now) (x.input ∙ none))
            (record { ending = refl; events = y.events; taken = y.taken; going = λ e. cc }))
        taking e a to_is (n ∷ rest) some =
            let i = instr.Read v in
            let j = ins.Int 0x23 in
            let now = ops.now procs data_words ok s r y o i places more e j refl in
            let x = steps.x procs data_words ok s r y o in
            let fits : AreWords (n ∷ rest) = subst AreWords some x.input_fits in
            let after : After Cells = behind p i (map number_of (a ∷ [])) more s.top in
            subst (λ l. (takes s l after).over ≢ Some Wrong → P (takes s l after)) (sym some) (λ ns.
            found_ok P s (after (Num (word n) ∷ [])) (with_rest rest s) ns (λ c ce _.
            let wrote = subst (λ q. ops.Writes procs data_words ok s r y o i places more e j refl q
            (word n) c) to_is
            (ops.writes_here procs data_words ok s r y o i places more e j refl v.0 (number_of a)
            (Num (word n)) (word n) c
            (put_done p (put p (after_it i places more e) v.0 (number_of a) (Some (Num (word n))))
            [] [] c ce) (refl, computes.word_fits n fits.0)) in
            let left : machine.State = record now { regs = wrote.regs; stack = wrote.stack } in
            let z = steps.runs_on procs data_words ok s r y o (placed.Op i places) more e c None
            now.flags wrote.regs wrote.stack _
            (steps.same_then (passed more s.top) (after_it i places more e) c
            (steps.clobbered_same i more s.top) wrote.same)
            (lead_on i places more e
            (steps.lead procs data_words ok s r y o (placed.Op i places) more e)) wrote.lies tt
            (steps.alone procs data_words ok s r y o (placed.Op i places) more e (Plain j)
            [] refl refl) in
            steps.leads procs data_words ok s r y o (placed.Op i places) more e (Plain j) [] refl
            (record left { input = rest; taken = now.taken + 1 }) out.Going (with_rest rest s c)
            (ap (take_input now) (x.input ∙ some)
            ∙ ap (λ (t : machine.State). goes (record t { input = rest; taken = now.taken + 1 }))
            (ok_same (machine.with_register now Eax (word n)) left wrote.is)) (record {
              ending = y.ending;
              events = y.events;
              taken = omega (arith, y.taken);
              going = λ _. record {
                backs = z.backs;
                code = z.code;
                stands = z.stands;
                waiting = z.waiting;
                lies = z.lies;
                flags = z.flags;
                input = refl;
                input_fits = fits.1;
              };
            })))
