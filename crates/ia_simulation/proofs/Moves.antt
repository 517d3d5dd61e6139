-- Moves.
use Rattle.std.proofs.Common.{◌≡◌, ◌≢◌, ℕ, ◌≤◌, List, [], ◌∷◌, length, Some, None, refl, ap, ◌∙◌}
use Rattle.std.proofs.Common.{subst}
use Rattle.std.specs.Prelude.{ℤ, Ok}
use Rattle.std.specs.Int.{w32}
use Rattle.std.specs.Int.RustNames.{FitsSigned}
use Rattle.pra_list.proofs.Options.{bind_some}
use Rattle.ia_code.specs.declared.ins.Rm.TheVariants as rm
use Rattle.ia_code.specs.DecodeTable.{IsSound}
use Rattle.ia_emit.specs.declared.item.Item.TheVariants.{Plain}
use Rattle.ia_emit.specs.declared.item.Operand.TheVariants as at
use Rattle.ia_emit.specs.Emission.{emit_move, place_reg}
use Rattle.ia_emit.specs.Operands.{cell as memory_of}
use Rattle.ia_step.specs.declared.out.StepOut.TheVariants as out
use Rattle.ia_step.specs.declared.registers.Registers.{Registers}
use Rattle.ia_step.specs.Effect.{effect, goes, write_rm}
use Rattle.ia_step.specs.Registers.{get}
use Rattle.ia_step.specs.Run.{Ran}
use Rattle.ia_step.specs.State as machine
use Rattle.pl_moves.specs.declared.transfer.Move.{Move}
use Rattle.pl_moves.specs.declared.transfer.Move.TheVariants.{Copy, Swap, Load, Store, Set}
use Rattle.pl_moves.specs.Meaning.{Cell, Memory, Fixed, reg, moved}
use Rattle.pl_place.specs.declared.placed.LInstr.{LInstr}
use Rattle.pl_place.specs.declared.placed.LInstr.TheVariants as placed
use Rattle.pl_place.specs.declared.placed.LProc.{LProc}
use Rattle.pl_place.specs.Machine.{Cells, proc_of, at_cell, put_cell, holding, passed}
use Rattle.pl_place.specs.Machine.{placed_machine}
use Rattle.pra_base.specs.Words.{word}
use Rattle.pra_base.specs.RunEnd.{Wrong}
use Rattle.vc_code.specs.declared.value.Value.TheVariants.{Num}
use Rattle.vc_code.specs.Value.{Held, Words}
use Rattle.vc_code.specs.Machine.{Activation, State, Moves, act}
use Rattle.ia_simulation.specs.Realizes.{IsLoadable, AllWait, Lies, Realizes, Leads}
use Rattle.ia_simulation.proofs.Effects.{ok_same, copies, sets}
use Rattle.ia_simulation.proofs.Spots.{Same, reads_cell, writes_cell}
use Rattle.ia_simulation.proofs.Steps as steps
use Rattle.ia_simulation.proofs.Steps.{found_ok, lies_passed}

module _ (procs : List LProc) (backs : List ℕ) (pushed : Words) (top : Activation Cells)
    (below : List (Activation Cells)) (globals : Words) (m : machine.State)
    (y : Lies procs backs pushed top below globals m.regs m.stack m.storage)
    (waits : AllWait procs below backs) (few : length pushed ≤ 32) where
  abbrev p : LProc
  p = proc_of procs top.proc

  -- what a move leaves
  pub record Moved (move : Move) (c : Activation Cells) : Type 0 where
    pub regs : Registers
    pub stack : List ℕ
    pub is : effect m (emit_move p move) ≡ Ok (record m { regs = regs; stack = stack }, out.Going)
    pub lies : Lies procs backs pushed c below globals regs stack m.storage
    pub same : Same top c

  -- both registers hold what the other held
  swaps : (a b : _) (c : Activation Cells) → moved (holding p) (Swap a b) top ≡ Some c →
      Moved (Swap a b) c
  unfolding effect write_rm
  swaps a b c e =
      let one = bind_some (at_cell p top (reg a)) _ c e in
      let other = bind_some (at_cell p top (reg b)) _ c one.2 in
      let first = bind_some (put_cell p top (reg a) other.0) _ c other.2 in
      let ra = place_reg a in
      let rb = place_reg b in
      let got_a = reads_cell procs backs pushed top below globals m y waits few (reg a) one.0
      (λ n k. cc) one.1 in
      let got_b = reads_cell procs backs pushed top below globals m y waits few (reg b) other.0
      (λ n k. cc) other.1 in
      let w = writes_cell procs backs pushed top below globals m y waits few (reg a) other.0 got_b.0
      first.0 first.1 got_b.2 in
      let t : machine.State = record m { regs = w.regs; stack = w.stack } in
      let same_proc = w.same.proc in
      let put : put_cell (proc_of procs first.0.proc) first.0 (reg b) one.0 ≡ Some c =
      ap (λ n. put_cell (proc_of procs n) first.0 (reg b) one.0) same_proc ∙ first.2 in
      let v = writes_cell procs backs pushed first.0 below globals t w.lies waits few (reg b) one.0
      got_a.0 c put got_a.2 in
      record {
        regs = v.regs;
        stack = v.stack;
        is =
            ap (λ n. goes (machine.with_register (machine.with_register m ra n) rb (get m.regs ra)))
            (ok_same (get m.regs rb) got_b.0 got_b.1)
            ∙ ap (λ n. goes (machine.with_register (machine.with_register m ra got_b.0) rb n))
            (ok_same (get m.regs ra) got_a.0 got_a.1)
            ∙ ap (λ u. goes (machine.with_register u rb got_a.0))
            (ok_same (machine.with_register m ra got_b.0) t w.is)
            ∙ ap goes (ok_same (machine.with_register t rb got_a.0)
            (record t { regs = v.regs; stack = v.stack }) v.is);
        lies = v.lies;
        same = steps.same_then top first.0 c w.same v.same;
      }

  pub does_move : (move : Move) (c : Activation Cells) →
      ((to : _) (n : ℤ) → move ≡ Set to n → FitsSigned w32 n) → moved (holding p) move top ≡
      Some c → Moved move c
  does_move (Copy to from) c fits e =
      let b = bind_some (at_cell p top (reg from)) _ c e in
      let got = reads_cell procs backs pushed top below globals m y waits few (reg from) b.0
      (λ n k. cc) b.1 in
      let w = writes_cell procs backs pushed top below globals m y waits few (reg to) b.0 got.0 c
      b.2 got.2 in
      record {
        regs = w.regs;
        stack = w.stack;
        is = copies m (at.Register (place_reg to))
            (at.Register (place_reg from)) got.0 _ tt tt tt got.1 w.is;
        lies = w.lies;
        same = w.same;
      }
  does_move (Swap a b) c fits e = swaps a b c e
  does_move (Load to v) c fits e =
      let b = bind_some (at_cell p top (Memory v.0)) _ c e in
      let got = reads_cell procs backs pushed top below globals m y waits few (Memory v.0) b.0
      (λ n k. cc) b.1 in
      let w = writes_cell procs backs pushed top below globals m y waits few (reg to) b.0 got.0 c
      b.2 got.2 in
      record {
        regs = w.regs;
        stack = w.stack;
        is = copies m (at.Register (place_reg to))
            (at.Memory (memory_of p v.0)) got.0 _ tt tt tt got.1 w.is;
        lies = w.lies;
        same = w.same;
      }
  does_move (Store v from) c fits e =
      let b = bind_some (at_cell p top (reg from)) _ c e in
      let got = reads_cell procs backs pushed top below globals m y waits few (reg from) b.0
      (λ n k. cc) b.1 in
      let w = writes_cell procs backs pushed top below globals m y waits few (Memory v.0) b.0 got.0
      c b.2 got.2 in
      record {
        regs = w.regs;
        stack = w.stack;
        is = copies m (at.Memory (memory_of p v.0))
            (at.Register (place_reg from)) got.0 _ tt tt tt got.1 w.is;
        lies = w.lies;
        same = w.same;
      }
  does_move (Set to n) c fits e =
      let h : Held = Some (Num (word n)) in
      let got = reads_cell procs backs pushed top below globals m y waits few (Fixed n) h
      (λ k same. subst (FitsSigned w32) (fixed_same n k same) (fits to n refl)) refl in
      let w = writes_cell procs backs pushed top below globals m y waits few (reg to) h got.0 c e
      got.2 in
      record {
        regs = w.regs;
        stack = w.stack;
        is = sets m (at.Register (place_reg to)) n _ tt
            (ap (λ k. write_rm m (rm.Reg (place_reg to)) k) (ok_same (word n) got.0 got.1) ∙ w.is);
        lies = w.lies;
        same = w.same;
      }
    where
      fixed_same : (n k : ℤ) → ◌≡◌ {A = Cell} (Fixed n) (Fixed k) → n ≡ k
      fixed_same n k e = cc

module _ (procs : List LProc) (data_words : ℕ) (ok : IsLoadable procs data_words) (s : State Cells)
    (r : Ran) (y : Realizes procs s r) (o : s.over ≡ None) (move : Move) (more : List LInstr)
    (e : s.top.home.rest ≡ placed.Move move ∷ more) where
  abbrev p_here : LProc
  p_here = proc_of procs s.top.proc

  -- a move of placed code is one instruction
  pub move_leads : (act (placed_machine procs)
      (Moves (moved (holding p_here) move (passed more s.top))) s).over ≢ Some Wrong →
      Leads procs s r (act (placed_machine procs)
      (Moves (moved (holding p_here) move (passed more s.top))) s)
  move_leads ns =
      found_ok (Leads procs s r) s (moved (holding p_here) move (passed more s.top))
      (λ c. record s { top = c }) ns
      (λ c is _.
      let x = steps.x procs data_words ok s r y o in
      let i = placed.Move move in
      let first = Plain (emit_move p_here move) in
      let f = steps.fetched procs data_words ok s r y o i more e first [] refl in
      let sound = steps.sound_here procs data_words ok s r y o i more e first [] refl in
      let lies = lies_passed procs x.backs s.pushed s.top s.below s.globals f.regs f.stack f.storage
      more x.lies in
      let d = does_move procs x.backs s.pushed (passed more s.top) s.below s.globals f lies
      x.waiting (steps.few procs data_words ok s r y o) move c
      (λ to n same. subst (λ mv. IsSound (emit_move p_here mv)) same sound) is in
      steps.leads procs data_words ok s r y o i more e first [] refl
      (record f { regs = d.regs; stack = d.stack }) out.Going (record s { top = c }) d.is
      (record {
        ending = y.ending;
        events = y.events;
        taken = y.taken;
        going = λ _.
            steps.runs_on procs data_words ok s r y o i more e c s.compared r.state.flags d.regs
            d.stack _ d.same (steps.lead procs data_words ok s r y o i more e) d.lies x.flags
            (steps.alone procs data_words ok s r y o i more e first [] refl refl);
      }))
