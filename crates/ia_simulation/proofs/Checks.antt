-- CMP with a bound and a jump to the code of a trap.
use Rattle.std.proofs.Common.{◌≡◌, ◌≢◌, ℕ, zero, suc, ◌+◌, ◌++◌, ◌^◌, ◌<◌, inl, Bool, true, false}
use Rattle.std.proofs.Common.{List, [], ◌∷◌, length, map, Some, None, refl, sym, ap, ◌∙◌, subst}
use Rattle.std.proofs.Common.{arith}
use Rattle.std.specs.Prelude.{ℤ, pos, negsuc, ◌≤ℤ◌, not, Ok, if◌then◌else◌, slice_get}
use Rattle.std.proofs.lemmas.Bool.Decides.{nat_tests}
use Rattle.pra_list.proofs.Truths.{itself}
use Rattle.pra_list.proofs.Options.{some_same}
use Rattle.std.specs.List.{filter_map}
use Rattle.std.proofs.lemmas.Int.{ints}
use Rattle.ia_code.specs.declared.ins.AluOp.TheVariants as alu
use Rattle.ia_code.specs.declared.ins.Ins.{Ins}
use Rattle.ia_code.specs.Regions.{code_base}
use Rattle.ia_code.specs.DecodeTable.{IsSound}
use Rattle.ia_emit.specs.declared.item.Item.{Item}
use Rattle.ia_emit.specs.declared.item.Item.TheVariants.{Plain}
use Rattle.ia_emit.specs.declared.item.Item.TheVariants as item
use Rattle.ia_emit.specs.declared.item.Target.{Target}
use Rattle.ia_emit.specs.declared.item.Target.TheVariants.{Stub}
use Rattle.ia_emit.specs.Code.{size_of, size, distance, stub, stub_start}
use Rattle.ia_emit.proofs.Sizes.{size-cons}
use Rattle.ia_emit.specs.declared.item.Operand.{Operand}
use Rattle.ia_emit.specs.Emission.{emit, emit_op, alu_number}
use Rattle.ia_emit.specs.Operands as emitted
use Rattle.ia_step.specs.Arithmetic.{diff_flags, holds}
use Rattle.ia_step.specs.Effect.{effect, goes, branch}
use Rattle.ia_step.specs.State as machine
use Rattle.ia_step.proofs.Conditions.{holds-diff_flags}
use Rattle.ia_step.proofs.Reaches.{Reaches, reach_on}
use Rattle.ia_step.specs.Run.{Ran}
use Rattle.pl_place.specs.declared.placed.LInstr.{LInstr}
use Rattle.pl_place.specs.declared.placed.LInstr.TheVariants as placed
use Rattle.pl_place.specs.declared.placed.LProc.{LProc}
use Rattle.pl_place.specs.Machine.{Cells, proc_of, operand, behind, placed_machine}
use Rattle.pl_place.specs.Placed.{op_of}
use Rattle.pl_place.specs.Valid.{OperandsPlaced, counts_of}
use Rattle.pra_base.specs.declared.code.VInstr.{VInstr}
use Rattle.pra_base.specs.declared.code.VInstr.TheVariants as instr
use Rattle.pra_base.specs.declared.ids.VarId.{VarId}
use Rattle.pra_base.specs.Operands.{table, line_writes}
use Rattle.pra_base.specs.Places.{number as number_of}
use Rattle.pra_base.specs.Valid.{PushesLead, TakesArgs}
use Rattle.pra_base.specs.Words.{word, sum32, is_positive, compares}
use Rattle.pra_base.specs.RunEnd.{Trapped}
use Rattle.pra_base.specs.declared.event.TrapKind.{TrapKind}
use Rattle.pra_base.specs.declared.event.TrapKind.TheVariants as trap
use Rattle.pra_base.specs.declared.event.TrapKind.TheVariants.{Input}
use Rattle.pra_base.specs.declared.ids.Cond.{Cond}
use Rattle.pra_base.specs.declared.ids.Cond.TheVariants as cond
use Rattle.vc_code.specs.declared.value.Value.TheVariants.{Num}
use Rattle.vc_code.specs.declared.action.Action.TheVariants as action
use Rattle.vc_code.specs.Operation.{number}
use Rattle.vc_code.specs.Machine.{Activation, State, After, apply, ended, with_top}
use Rattle.vc_code.specs.Value.{Words, is_index}
use Rattle.ia_simulation.specs.Realizes.{IsLoadable, Runs, Realizes, Leads}
use Rattle.ia_simulation.proofs.Effects.{IsPlace, number_op, operates}
use Rattle.ia_simulation.proofs.Masks.{in_mask, allowed_at, is_place}
use Rattle.ia_simulation.specs.Frames.{frames}
use Rattle.ia_simulation.proofs.Enter.{stub_at}
use Rattle.ia_simulation.proofs.Here as at
use Rattle.ia_simulation.proofs.Places.{no_target}
use Rattle.ia_simulation.proofs.Spots.{read, reads}
use Rattle.ia_simulation.proofs.Standing as standing
use Rattle.ia_simulation.proofs.Start.{bare_there}
use Rattle.ia_simulation.proofs.Steps.{lies_clobbered}
use Rattle.ia_simulation.proofs.Traps.{traps_lead}
use Rattle.ia_simulation.proofs.Walks.{Walks, aimed_at, goes_on, reaches}
use Rattle.ia_simulation.proofs.Ops as ops
use Rattle.ia_simulation.proofs.Ops.{one_is, number_is, no_number, alu_fits}
use Rattle.ia_simulation.proofs.Steps as steps
use Rattle.ia_simulation.proofs.Rows.{Led}
use Rattle.ia_simulation.proofs.Computes as computes

-- ---- the tests are the same

in_range : (a : ℕ) (n : ℤ) → a < 2 ^ 32 → pos 0 ≤ℤ n → n ≤ℤ pos 2147483647 →
    compares cond.Ae a (word n) ≡ not (is_index a n)
in_range a (pos n) l low high = grind (arith, nat_tests, ints)
in_range a (negsuc n) l low high = absurd (omega (arith, ints, low))

above_0 : (a : ℕ) → a < 2 ^ 32 → compares cond.Le a (word (pos 0)) ≡ not (is_positive a)
above_0 a l = grind (arith, nat_tests, ints)

-- an instruction is there without the moves too
pub bare_has : (code : List LInstr) (k : ℕ) (i : VInstr) (places : _) → slice_get code k ≡
    Some (placed.Op i places) → (j : ℕ) × (slice_get (filter_map op_of code) j ≡ Some i)
bare_has [] k i places e = cc
bare_has (x ∷ code) zero i places e =
    let same : x ≡ placed.Op i places = some_same x (placed.Op i places) e in
    (0, ap (λ x. slice_get (filter_map op_of (x ∷ code)) 0) same)
bare_has (placed.Move m ∷ code) (suc k) i places e = bare_has code k i places e
bare_has (placed.Op i1 places1 ∷ code) (suc k) i places e = let rest = bare_has code k i places e in
    (suc rest.0, rest.1)

module _ (procs : List LProc) (data_words : ℕ) (ok : IsLoadable procs data_words) (s : State Cells)
    (r : Ran) (y : Realizes procs s r) (o : s.over ≡ None) where
  abbrev p : LProc
  p = proc_of procs s.top.proc

  abbrev P : State Cells → Type 0
  P = Leads procs s r

  abbrev T : ℕ → ℕ → Type 0
  T = TakesArgs (counts_of procs)

  module _ (i : VInstr) (places : _) (more : List LInstr)
      (e : s.top.home.rest ≡ placed.Op i places ∷ more) where
    abbrev after_it : Activation Cells
    after_it = computes.after_it procs data_words ok s r y o i places more e

    placed_so : OperandsPlaced p i places.items
    placed_so = computes.placed_so procs data_words ok s r y o i places more e

    lead_on : (length s.pushed ≡ 0) × PushesLead T 0 (filter_map op_of more) →
        PushesLead T (length s.pushed) (filter_map op_of more)
    lead_on = computes.lead_on procs data_words ok s r y o i places more e

  module _ (i : VInstr) (places : _) (more : List LInstr)
      (e : s.top.home.rest ≡ placed.Op i places ∷ more) (from : Operand) (n : ℤ) (c : Cond)
      (trap : TrapKind)
      (em : emit p (placed.Op i places) ≡ Plain (alu_number alu.Cmp from n) ∷ item.Branch c
      (Stub trap) ∷ []) (is : IsPlace from) (there : trap ≢ Input)
      (lead : PushesLead T (length s.pushed) (filter_map op_of more)) where
    abbrev j : Ins
    j = alu_number alu.Cmp from n

    abbrev x0 : Item
    x0 = Plain j

    abbrev x1 : Item
    x1 = item.Branch c (Stub trap)

    abbrev l : LInstr
    l = placed.Op i places

    abbrev x : Runs procs s r.state
    x = steps.x procs data_words ok s r y o

    abbrev pub now : machine.State
    now = steps.fetched procs data_words ok s r y o l more e x0 (x1 ∷ []) em

    pub sound : IsSound j
    sound = steps.sound_here procs data_words ok s r y o l more e x0 (x1 ∷ []) em

    abbrev here_is : ℕ
    here_is = steps.here procs data_words ok s r y o l more e

    abbrev all : Words
    all = s.pushed ++ frames procs x.backs (s.top ∷ s.below)

    module _ (a : ℕ) (got : read now from ≡ Ok a) (below : a < 2 ^ 32) where
      abbrev m1 : machine.State
      m1 = record now { flags = diff_flags a (word n) }

      compared : Reaches 1 r.state m1
      compared =
          steps.reaches procs data_words ok s r y o l more e x0 (x1 ∷ []) em m1
          (number_op now alu.Cmp from n ∙ operates now alu.Cmp from a (word n) now is got refl)

      abbrev items : List Item
      items = steps.behind procs data_words ok s r y o l more e

      abbrev target : Target → ℕ
      target = standing.target procs s.top.proc s.top.home.block s.top.home.rest s.top.home.end
          (length s.pushed) r.state.eip x.stands

      w1 : Walks procs m1 all target (here_is + size_of x0) (x1 ∷ items)
      w1 =
          goes_on procs ok.sound r.state all target here_is x0 (x1 ∷ items)
          (steps.walks_here procs data_words ok s r y o l more e x0 (x1 ∷ []) em) r.state.regs
          (diff_flags a (word n)) refl

      word_below : word n < 2 ^ 32
      word_below = computes.word_fits n (alu_fits alu.Cmp from n sound)

      condition : holds m1.flags c ≡ Some (compares c a (word n))
      condition = holds-diff_flags a (word n) below word_below c

      abbrev d : ℤ
      d = distance (here_is + size_of x0 + size_of x1) (stub_start trap)

      -- the trap
      abbrev m2 : machine.State
      m2 = machine.at m1 (code_base + stub_start trap)

      w2 : Walks procs m2 all no_target (stub_start trap) (stub trap)
      w2 = record {
        code = w1.code;
        going = w1.going;
        stack = w1.stack;
        small = w1.small;
        place =
            refl;
        items_at = stub_at procs trap there;
      }

      traps : compares c a (word n) ≡ true → Leads procs s r (ended s (Trapped trap))
      unfolding effect
      traps t =
          let inside = at.within procs target (here_is + size_of x0) (x1 ∷ items) w1.items_at in
          let size = size-cons x1 items in
          let stubbed = at.within procs no_target (stub_start trap) (stub trap)
          (stub_at procs trap there) in
          let to : sum32 (m1.eip + size_of x1) (word d) ≡ code_base + stub_start trap =
          ap (λ k. sum32 k (word d)) (omega (arith, w1.place))
          ∙ aimed_at (here_is + size_of x0 + size_of x1) (stub_start trap)
          (omega (arith, inside, size, ok.short)) (omega (arith, stubbed, ok.short)) in
          let reach : Reaches 1 m1 m2 = reaches procs ok.sound m1 all target (here_is + size_of x0)
          x1 items w1 m2
          (ap (branch (machine.at m1 (m1.eip + size_of x1)) d) (condition ∙ ap Some t)
          ∙ ap (λ k. goes (machine.at m1 k)) to) in
          traps_lead procs data_words ok s r y trap 2 m2 all
          (reach_on 1 1 r.state m1 m2 compared reach) w2 refl

      -- or it goes on
      abbrev m3 : machine.State
      m3 = machine.at m1 (m1.eip + size_of x1)

      passes : compares c a (word n) ≡ false →
          Leads procs s r (with_top s (after_it i places more e))
      unfolding effect
      passes t =
          let reach : Reaches 1 m1 m3 = reaches procs ok.sound m1 all target (here_is + size_of x0)
          x1 items w1 m3
          (ap (branch (machine.at m1 (m1.eip + size_of x1)) d) (condition ∙ ap Some t)) in
          let both : Reaches 2 r.state m3 = reach_on 1 1 r.state m1 m3 compared reach in
          let long = ap size em in
          let one = size-cons x0 (x1 ∷ []) in
          let two = size-cons x1 [] in
          let lies = lies_clobbered procs x.backs s.pushed s.top s.below s.globals r.state.regs
          r.state.stack r.state.storage i more x.lies in (
            2,
            inl (omega arith),
            subst (Realizes procs (with_top s (after_it i places more e)))
                (sym (both.by r.events r.steps)) (record {
                  ending = y.ending;
                  events = y.events;
                  taken = y.taken;
                  going = λ _.
                      steps.runs_on procs data_words ok s r y o l more e (after_it i places more e)
                      None
                      m1.flags m1.regs m1.stack m3.eip
                      (steps.clobbered_same i more s.top) lead lies tt
                      (omega (arith, long, one, two));
                }),
          )

      pub checked : (b : Bool) → compares c a (word n) ≡ not b →
          Leads procs s r (if b then with_top s (after_it i places more e) else ended s
          (Trapped trap))
      checked true e = passes e
      checked false e = traps e

  -- what a check makes of the state, after nothing was written
  acts : (i : VInstr) (places : _) (more : List LInstr)
      (e : s.top.home.rest ≡ placed.Op i places ∷ more) (b : Bool) (k : TrapKind) →
      (if b then with_top s (after_it i places more e) else ended s (Trapped k)) ≡
      apply (placed_machine procs) (λ xs. Some (after_it i places more e))
      (if b then Some action.Nothing else Some (action.Trap k)) s
  acts i places more e true k = refl
  acts i places more e false k = refl

  module _ (v : VarId) (places : _) (more : List LInstr) where
    pub checks_it : (n : ℤ) → s.top.home.rest ≡ placed.Op (instr.Check v n) places ∷ more →
        Led procs data_words ok s r y o (instr.Check v n) more places.items
    checks_it n e =
        let i = instr.Check v n in
        let is = placed_so i places more e in
        let t = one_is places.items is.count in
        let a = t.0 in
        let is_l : OperandsPlaced p i (a ∷ []) = subst (OperandsPlaced p i) t.1 is in
        let from = emitted.operand p v.0 (number_of a) in
        let place : IsPlace from = is_place p v.0 (line_writes (table i) v.0) a
        ((in_mask (table i) v.0 (number_of a) (allowed_at p i (a ∷ []) is_l 0 _ refl)).0
        (itself v.0)) in
        let em : emit p (placed.Op i places) ≡ Plain (alu_number alu.Cmp from n) ∷ item.Branch
        cond.Ae (Stub trap.Index) ∷ [] = ap (emit_op p i) t.1 in
        let lead = lead_on i places more e
        (steps.lead procs data_words ok s r y o (placed.Op i places) more e) in
        let x = steps.x procs data_words ok s r y o in
        let placed_code = ok.placed.each s.top.proc p x.stands.there in
        let has = standing.instr_is procs s.top.proc s.top.home.block s.top.home.rest s.top.home.end
        (length s.pushed) r.state.eip x.stands (placed.Op i places) more e in
        let bare = bare_has has.0.code x.stands.index i places has.2 in
        let range = placed_code.block_rules.check_range s.top.home.block bare.0 i
        (ap (λ l. slice_get l bare.0) (bare_there p.blocks s.top.home.block has.0 has.1)
        ∙ bare.1) v n refl in
        let after : After Cells = behind p i (map number_of (a ∷ [])) more s.top in
        subst (Led procs data_words ok s r y o i more) (sym t.1) (λ ns.
        ops.bound_ok procs data_words ok s r y o after (number (operand p s.top v.0 (number_of a)))
        (λ z. if is_index z n then Some action.Nothing else Some (action.Trap trap.Index)) ns
        (λ z ze _.
        let now_is = now i places more e from n cond.Ae trap.Index em place (λ e. cc) lead in
        let got = reads procs x.backs s.pushed s.top s.below s.globals now_is x.lies x.waiting
        (steps.few procs data_words ok s r y o) v.0 (number_of a) (Num z) (no_number from place)
        (number_is _ z ze) in
        subst (Leads procs s r) (acts i places more e (is_index z n) trap.Index)
        (checked i places more e from n cond.Ae trap.Index em place (λ e. cc) lead z
        (got.1 ∙ ap Ok got.2.0) got.2.1 (is_index z n) (in_range z n got.2.1 range.0 range.1))))

    pub checks_positive : s.top.home.rest ≡ placed.Op (instr.CheckPos v) places ∷ more →
        Led procs data_words ok s r y o (instr.CheckPos v) more places.items
    checks_positive e =
        let i = instr.CheckPos v in
        let n = pos 0 in
        let is = placed_so i places more e in
        let t = one_is places.items is.count in
        let a = t.0 in
        let is_l : OperandsPlaced p i (a ∷ []) = subst (OperandsPlaced p i) t.1 is in
        let from = emitted.operand p v.0 (number_of a) in
        let place : IsPlace from = is_place p v.0 (line_writes (table i) v.0) a
        ((in_mask (table i) v.0 (number_of a) (allowed_at p i (a ∷ []) is_l 0 _ refl)).0
        (itself v.0)) in
        let em : emit p (placed.Op i places) ≡ Plain (alu_number alu.Cmp from n) ∷ item.Branch
        cond.Le (Stub trap.Divide) ∷ [] = ap (emit_op p i) t.1 in
        let lead = lead_on i places more e
        (steps.lead procs data_words ok s r y o (placed.Op i places) more e) in
        let x = steps.x procs data_words ok s r y o in
        let after : After Cells = behind p i (map number_of (a ∷ [])) more s.top in
        subst (Led procs data_words ok s r y o i more) (sym t.1) (λ ns.
        ops.bound_ok procs data_words ok s r y o after (number (operand p s.top v.0 (number_of a)))
        (λ z. if is_positive z then Some action.Nothing else Some (action.Trap trap.Divide)) ns
        (λ z ze _.
        let now_is = now i places more e from n cond.Le trap.Divide em place (λ e. cc) lead in
        let got = reads procs x.backs s.pushed s.top s.below s.globals now_is x.lies x.waiting
        (steps.few procs data_words ok s r y o) v.0 (number_of a) (Num z) (no_number from place)
        (number_is _ z ze) in
        subst (Leads procs s r) (acts i places more e (is_positive z) trap.Divide)
        (checked i places more e from n cond.Le trap.Divide em place (λ e. cc) lead z
        (got.1 ∙ ap Ok got.2.0) got.2.1 (is_positive z) (above_0 z got.2.1))))
