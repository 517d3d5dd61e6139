-- PUSH.
use Rattle.std.proofs.Common.{◌≡◌, ℕ, suc, ◌+◌, ◌*◌, ◌≤◌, ◌++◌, length-append, List, [], ◌∷◌}
use Rattle.std.proofs.Common.{length, map, Some, None, refl, sym, ap, ◌∙◌, subst, arith}
use Rattle.pra_list.specs.Results.{◌>>=◌}
use Rattle.ia_code.specs.DecodeTable.{IsSound}
use Rattle.ia_code.specs.Regions.{stack_length}
use Rattle.ia_emit.specs.declared.item.Item.TheVariants.{Plain}
use Rattle.ia_emit.specs.Emission.{emit, emit_op, push}
use Rattle.ia_emit.specs.Operands.{free_register}
use Rattle.ia_emit.specs.Operands as emitted
use Rattle.ia_step.specs.declared.out.StepOut.TheVariants as out
use Rattle.ia_step.specs.Effect.{goes}
use Rattle.ia_step.specs.Registers.{get}
use Rattle.ia_step.specs.Run.{Ran}
use Rattle.ia_step.specs.State as machine
use Rattle.ia_step.proofs.Access.{push_here, pushed}
use Rattle.pl_place.specs.declared.placed.LInstr.{LInstr}
use Rattle.pl_place.specs.declared.placed.LInstr.TheVariants as placed
use Rattle.pl_place.specs.declared.placed.LProc.{LProc}
use Rattle.pl_place.specs.Machine.{Cells, proc_of, operand, behind}
use Rattle.pl_place.specs.Valid.{OperandsPlaced, counts_of}
use Rattle.pra_base.specs.declared.code.VInstr.{VInstr}
use Rattle.pra_base.specs.declared.code.VInstr.TheVariants as instr
use Rattle.pra_base.specs.declared.ids.VarId.{VarId}
use Rattle.pra_base.specs.Places.{number as number_of}
use Rattle.pra_base.specs.Valid.{TakesArgs}
use Rattle.vc_code.specs.declared.action.Action.TheVariants as action
use Rattle.vc_code.specs.Machine.{Activation, State, After}
use Rattle.ia_simulation.specs.Realizes.{IsLoadable, StandsBefore, Realizes, Leads}
use Rattle.ia_simulation.specs.Frames.{Holds, register_held, frames}
use Rattle.ia_simulation.proofs.Sizes.{live_long}
use Rattle.ia_simulation.proofs.Spots.{below_6}
use Rattle.ia_simulation.proofs.Walks.{push_stacked}
use Rattle.ia_simulation.proofs.Effects.{pushes}
use Rattle.ia_simulation.proofs.Ops as ops
use Rattle.ia_simulation.proofs.Ops.{one_is, two_are, three_are, number_is, combined_fits}
use Rattle.ia_simulation.proofs.Ops.{no_number, put_done}
use Rattle.ia_simulation.proofs.Steps as steps
use Rattle.ia_simulation.proofs.Rows.{Led}
use Rattle.ia_simulation.proofs.Computes as computes

module _ (procs : List LProc) (data_words : ℕ) (ok : IsLoadable procs data_words) (s : State Cells)
    (r : Ran) (y : Realizes procs s r) (o : s.over ≡ None) where
  abbrev p : LProc
  p = proc_of procs s.top.proc

  abbrev P : State Cells → Type 0
  P = Leads procs s r

  abbrev T : ℕ → ℕ → Type 0
  T = TakesArgs (counts_of procs)

  module _ (i : VInstr) (places : _) (more : List LInstr)
      (e : s.top.home.rest ≡ placed.Op i places ∷ more) where
    abbrev after_it : Activation Cells
    after_it = computes.after_it procs data_words ok s r y o i places more e

    placed_so : OperandsPlaced p i places.items
    placed_so = computes.placed_so procs data_words ok s r y o i places more e

  module _ (v : VarId) (places : _) (more : List LInstr) where
    pub pushes_it : s.top.home.rest ≡ placed.Op (instr.Push v) places ∷ more →
        Led procs data_words ok s r y o (instr.Push v) more places.items
    pushes_it e =
        let i = instr.Push v in
        let is = placed_so i places more e in
        let t = one_is places.items is.count in
        let a = t.0 in
        let from = emitted.operand p v.0 (number_of a) in
        let j = push from in
        let em : emit p (placed.Op i places) ≡ Plain j ∷ [] = ap (emit_op p i) t.1 in
        let now = ops.now procs data_words ok s r y o i places more e j em in
        let sound = ops.sound procs data_words ok s r y o i places more e j em in
        let x = steps.x procs data_words ok s r y o in
        let few = steps.few procs data_words ok s r y o in
        let c = after_it i places more e in
        let all = s.pushed ++ frames procs x.backs (s.top ∷ s.below) in
        let after : After Cells = behind p i (map number_of (a ∷ [])) more s.top in
        subst (Led procs data_words ok s r y o i more) (sym t.1) (λ ns.
        ops.bound_ok procs data_words ok s r y o after (operand p s.top v.0 (number_of a))
        (λ x. Some (action.Push x)) ns (λ value ve _.
        let got = ops.reads_here procs data_words ok s r y o i places more e j em v.0 (number_of a)
        value (λ n e. subst (λ o. IsSound (push o)) e sound) ve in
        let n = got.0 in
        let lies = ops.lies_behind procs data_words ok s r y o i places more e j em in
        let long = length-append s.pushed (frames procs x.backs (s.top ∷ s.below)) in
        let mine = live_long procs s.top s.below x.backs x.lies.sizes x.waiting in
        let room : 4 * length all + 4 ≤ stack_length =
        omega (arith, long, mine, few, x.lies.deep) in
        let k = x.lies.words in
        let u : machine.State = pushed now n in
        let s1 : State Cells = record s { top = c; compared = None; pushed = Some value ∷ s.pushed }
        in
        steps.leads procs data_words ok s r y o (placed.Op i places) more e (Plain j)
        [] em u out.Going s1
        (pushes now from n got.1 ∙ ap (λ q. q >>= goes)
        (push_here now (omega (arith, x.lies.data_long, x.lies.data_few)) (omega (arith, k.top))
        n (omega (arith, k.top, room)) (omega (arith, k.top, k.long)))) (record {
          ending = y.ending;
          events = y.events;
          taken = y.taken;
          going = λ _. record {
            backs = x.backs;
            code = x.code;
            stands =
                subst (StandsBefore procs c.proc c.home.block c.home.rest c.home.end
                (suc (length s.pushed)))
                (sym (steps.alone procs data_words ok s r y o (placed.Op i places) more e
                (Plain j) [] em refl))
                (steps.stands_after procs data_words ok s r y o (placed.Op i places) more e c
                (suc (length s.pushed)) (steps.clobbered_same i more s.top)
                (steps.lead procs data_words ok s r y o (placed.Op i places) more e));
            waiting = x.waiting;
            lies = record {
              sizes = lies.sizes;
              registers =
                  below_6 (λ r. Holds (register_held c.home.regs r) (get u.regs (free_register r)))
                  (lies.registers 0 (omega arith)) (lies.registers 1 (omega arith))
                  (lies.registers 2 (omega arith)) (lies.registers 3 (omega arith))
                  (lies.registers 4 (omega arith)) (lies.registers 5 (omega arith));
              words = push_stacked (Some value) all now.regs.esp n now.stack k room got.2;
              ebp = lies.ebp;
              deep = lies.deep;
              globals_hold = lies.globals_hold;
              data_long = lies.data_long;
              data_few = lies.data_few;
            };
            flags = tt;
            input = x.input;
            input_fits = x.input_fits;
          };
        })))
