-- One step of placed code is some steps of the machine: what all instructions have in common.
use Rattle.std.proofs.Common.{◌≡◌, ◌≢◌, ℕ, zero, suc, ◌+◌, ◌≤◌, Bool, true, false, List, [], ◌∷◌}
use Rattle.std.proofs.Common.{◌++◌, length, Option, Some, None, refl, sym, ap, ◌∙◌, subst, arith}
use Rattle.std.proofs.Common.{inl}
use Rattle.std.specs.Prelude.{Ok, nat_eq, if◌then◌else◌}
use Rattle.std.specs.List.{filter_map}
use Rattle.std.specs.Int.{bit_at}
use Rattle.ia_code.specs.declared.ins.Ins.{Ins}
use Rattle.ia_code.specs.DecodeTable.{IsSound}
use Rattle.ia_emit.specs.declared.item.Item.{Item}
use Rattle.ia_emit.specs.Code.{size_of, size, aimed, entry}
use Rattle.ia_emit.specs.Emission.{emit}
use Rattle.ia_emit.proofs.Sizes.{size-cons}
use Rattle.ia_step.specs.declared.flags.Flags.{Flags}
use Rattle.ia_step.specs.declared.out.Ending.{Ending}
use Rattle.ia_step.specs.declared.out.Ending.TheVariants as ending
use Rattle.ia_step.specs.declared.out.StepOut.{StepOut}
use Rattle.ia_step.specs.declared.out.StepOut.TheVariants as out
use Rattle.ia_step.specs.declared.registers.Registers.{Registers}
use Rattle.ia_step.specs.Effect.{effect}
use Rattle.ia_step.specs.Run.{Ran, noted, advance, run_end}
use Rattle.ia_step.specs.State as machine
use Rattle.ia_step.specs.Step.{settled}
use Rattle.ia_step.proofs.Reaches.{Reaches, advance_step, reach_one}
use Rattle.pl_place.specs.declared.placed.LInstr.{LInstr}
use Rattle.pl_place.specs.declared.placed.LProc.{LProc}
use Rattle.pl_place.specs.Machine.{Cells, proc_of, cleared, passed, clobbered, next_of}
use Rattle.pl_place.specs.Machine.{placed_machine}
use Rattle.pl_place.specs.Placed.{op_of}
use Rattle.pl_place.specs.Valid.{counts_of}
use Rattle.pra_base.specs.Operands.{table}
use Rattle.pra_base.specs.declared.code.End.{End}
use Rattle.pra_base.specs.declared.code.VInstr.{VInstr}
use Rattle.pra_base.specs.RunEnd.{Wrong}
use Rattle.pra_base.specs.Valid.{PushesLead, TakesArgs}
use Rattle.vc_code.specs.Value.{Words}
use Rattle.vc_code.specs.Machine.{Activation, State, found, act, act_on, leave, step}
use Rattle.ia_simulation.specs.Frames.{Holds, register_held, frames}
use Rattle.ia_simulation.specs.Realizes.{IsLoadable, StandsBefore, FlagsTell, Lies, Runs, Realizes}
use Rattle.ia_simulation.specs.Realizes.{Leads, StepLeads}
use Rattle.ia_simulation.proofs.Here.{AreAt}
use Rattle.ia_simulation.proofs.Here as at
use Rattle.ia_simulation.proofs.Sizes.{few_pushes}
use Rattle.ia_simulation.proofs.Spots.{Same}
use Rattle.ia_simulation.proofs.Standing as standing
use Rattle.ia_simulation.proofs.Walks.{Walks}

-- ---- what is not stuck

pub found_ok : {A : Type 0} (P : State Cells → Type 0) (s : State Cells) (o : Option A)
    (go : A → State Cells) → (found s o go).over ≢ Some Wrong →
    ((x : A) → o ≡ Some x → (go x).over ≢ Some Wrong → P (go x)) → P (found s o go)
found_ok P s None go ns k = absurd (ns refl)
found_ok P s (Some x) go ns k = k x refl ns

-- ---- the call behind an instruction

lies_same : (procs : List LProc) (backs : List ℕ) (pushed : Words) (c : Activation Cells)
    (below : List (Activation Cells)) (globals : Words) (regs : Registers) (stack storage : List ℕ)
    (rest : List LInstr) →
    Lies procs backs pushed c below globals regs stack storage →
    Lies procs backs pushed (passed rest c) below globals regs stack storage
lies_same procs backs pushed c below globals regs stack storage rest y = record {
  sizes = record {
    aggregates_long = y.sizes.aggregates_long;
    args_long = y.sizes.args_long;
    slots_long = y.sizes.slots_long;
    regs_long = y.sizes.regs_long;
  };
  registers = y.registers;
  words = y.words;
  ebp = y.ebp;
  deep = y.deep;
  globals_hold = y.globals_hold;
  data_long = y.data_long;
  data_few = y.data_few;
}

-- registers that hold nothing may be anything
cleared_holds : (mask r q n : ℕ) (regs : Words) → Holds (register_held regs q) n →
    Holds (register_held (cleared mask r regs) q) n
cleared_holds mask r q n [] h = h
cleared_holds mask r zero n (x ∷ regs) h = one (nat_eq (bit_at mask r) 1)
  where
    one : (b : Bool) → Holds (if b then None else x) n
    one true = tt
    one false = h
cleared_holds mask r (suc q) n (x ∷ regs) h = cleared_holds mask (r + 1) q n regs h

cleared_long : (mask r : ℕ) (regs : Words) → length (cleared mask r regs) ≡ length regs
cleared_long mask r [] = refl
cleared_long mask r (x ∷ regs) = ap suc (cleared_long mask (r + 1) regs)

pub lies_clobbered : (procs : List LProc) (backs : List ℕ) (pushed : Words) (c : Activation Cells)
    (below : List (Activation Cells)) (globals : Words) (regs : Registers) (stack storage : List ℕ)
    (i : VInstr) (rest : List LInstr) →
    Lies procs backs pushed c below globals regs stack storage →
    Lies procs backs pushed (clobbered i rest c) below globals regs stack storage
lies_clobbered procs backs pushed c below globals regs stack storage i rest y = record {
  sizes = record {
    aggregates_long = y.sizes.aggregates_long;
    args_long = y.sizes.args_long;
    slots_long = y.sizes.slots_long;
    regs_long = cleared_long (table i).clobbers 0 c.home.regs
        ∙ y.sizes.regs_long;
  };
  registers = λ r l. cleared_holds (table i).clobbers 0 r _ c.home.regs (y.registers r l);
  words = y.words;
  ebp = y.ebp;
  deep = y.deep;
  globals_hold = y.globals_hold;
  data_long = y.data_long;
  data_few = y.data_few;
}

pub lies_passed : (procs : List LProc) (backs : List ℕ) (pushed : Words) (c : Activation Cells)
    (below : List (Activation Cells)) (globals : Words) (regs : Registers) (stack storage : List ℕ)
    (rest : List LInstr) →
    Lies procs backs pushed c below globals regs stack storage →
    Lies procs backs pushed (passed rest c) below globals regs stack storage
lies_passed = lies_same

pub same_then : (a b c : Activation Cells) → Same a b → Same b c → Same a c
same_then a b c f g = record {
  proc = g.proc ∙ f.proc;
  block = g.block ∙ f.block;
  rest =
      g.rest ∙ f.rest;
  end = g.end ∙ f.end;
}

pub clobbered_same : (i : VInstr) (rest : List LInstr) (c : Activation Cells) →
    Same (passed rest c) (clobbered i rest c)
clobbered_same i rest c = record { proc = refl; block = refl; rest = refl; end = refl }

-- the same call stands where it stood
same_stands : (procs : List LProc) (c d : Activation Cells) (n place : ℕ) → Same c d →
    StandsBefore procs c.proc c.home.block c.home.rest c.home.end n place →
    StandsBefore procs d.proc d.home.block d.home.rest d.home.end n place
same_stands procs c d n place same s =
    subst (λ p. StandsBefore procs p d.home.block d.home.rest d.home.end n place) (sym same.proc)
    (subst (λ b. StandsBefore procs c.proc b d.home.rest d.home.end n place) (sym same.block)
    (subst (λ r. StandsBefore procs c.proc c.home.block r d.home.end n place) (sym same.rest)
    (subst (λ e. StandsBefore procs c.proc c.home.block c.home.rest e n place) (sym same.end) s)))

-- ---- a step

-- the step of placed code at an instruction
pub stepped : (procs : List LProc) (s : State Cells) (r : Ran) (i : LInstr) (more : List LInstr) →
    s.over ≡ None → s.top.home.rest ≡ i ∷ more →
    ((act (placed_machine procs) (next_of (proc_of procs s.top.proc) s.top (i ∷ more)) s).over ≢
    Some Wrong → Leads procs s r
    (act (placed_machine procs) (next_of (proc_of procs s.top.proc) s.top (i ∷ more)) s)) →
    StepLeads procs s r
stepped procs s r i more o e leads =
    let m = placed_machine procs in
    let p = proc_of procs s.top.proc in
    let same : step m s ≡ act m (next_of p s.top (i ∷ more)) s = ap (λ over. act_on m over s) o
    ∙ ap (λ rest. act m (next_of p s.top rest) s) e in
    subst (λ t. t.over ≢ Some Wrong → Leads procs s r t) (sym same) leads

-- and at a block's end
pub ended : (procs : List LProc) (s : State Cells) (r : Ran) (e : End) → s.over ≡ None →
    s.top.home.rest ≡ [] → s.top.home.end ≡ e →
    ((leave (placed_machine procs) e s).over ≢ Some Wrong →
    Leads procs s r (leave (placed_machine procs) e s)) → StepLeads procs s r
ended procs s r e o done is leads =
    let m = placed_machine procs in
    let p = proc_of procs s.top.proc in
    let same : step m s ≡ leave m e s = ap (λ over. act_on m over s) o
    ∙ ap (λ rest. act m (next_of p s.top rest) s) done ∙ ap (λ e. leave m e s) is in
    subst (λ t. t.over ≢ Some Wrong → Leads procs s r t) (sym same) leads

going_is : (e : Ending) → run_end e ≡ None → e ≡ ending.Going
going_is ending.Going h = refl
going_is x h = cc

module _ (procs : List LProc) (data_words : ℕ) (ok : IsLoadable procs data_words) (s : State Cells)
    (r : Ran) (y : Realizes procs s r) (o : s.over ≡ None) where
  abbrev pub m : machine.State
  m = r.state

  abbrev pub x : Runs procs s m
  x = y.going o

  abbrev pub p : LProc
  p = proc_of procs s.top.proc

  abbrev T : ℕ → ℕ → Type 0
  T = TakesArgs (counts_of procs)

  pub going : m.ending ≡ ending.Going
  going = going_is m.ending (y.ending ∙ o)

  pub few : length s.pushed ≤ 32
  few = few_pushes procs data_words ok (length s.pushed) (filter_map op_of s.top.home.rest)
      x.stands.pushes_lead

  module _ (i : LInstr) (more : List LInstr) (e : s.top.home.rest ≡ i ∷ more) where
    abbrev pub here : ℕ
    here = standing.here procs s.top.proc s.top.home.block s.top.home.rest s.top.home.end
        (length s.pushed) m.eip x.stands

    abbrev pub behind : List Item
    behind = standing.behind_it procs s.top.proc s.top.home.block s.top.home.rest s.top.home.end
        (length s.pushed) m.eip x.stands i more e

    -- the pushes that stand lead to a call
    pub lead : PushesLead T (length s.pushed) (filter_map op_of (i ∷ more))
    lead = subst (λ rest. PushesLead T (length s.pushed) (filter_map op_of rest)) e
        x.stands.pushes_lead

    -- where the call then stands
    pub stands_after : (c : Activation Cells) (n : ℕ) → Same (passed more s.top) c →
        PushesLead T n (filter_map op_of more) →
        StandsBefore procs c.proc c.home.block c.home.rest c.home.end n (m.eip + size (emit p i))
    stands_after c n same lead =
        same_stands procs (passed more s.top) c n (m.eip + size (emit p i)) same
        (standing.stands_on procs s.top.proc s.top.home.block s.top.home.rest s.top.home.end
        (length s.pushed) m.eip x.stands i more e n lead)

    -- the machine m goes on behind the instruction, with these registers, flags and words
    pub runs_on : (c : Activation Cells) (compared : Option (ℕ × ℕ)) (flags : Flags)
        (regs : Registers) (stack : List ℕ) (place : ℕ) → Same (passed more s.top) c →
        PushesLead T (length s.pushed) (filter_map op_of more) →
        Lies procs x.backs s.pushed c s.below s.globals regs stack m.storage →
        FlagsTell compared flags →
        place ≡ m.eip + size (emit p i) →
        Runs procs (record s { top = c; compared = compared })
        (record m { regs = regs; stack = stack; flags = flags; eip = place })
    runs_on c compared flags regs stack place same lead lies tell there = record {
      backs = x.backs;
      code = x.code;
      stands = subst (StandsBefore procs c.proc c.home.block c.home.rest c.home.end
          (length s.pushed)) (sym there) (stands_after c (length s.pushed) same lead);
      waiting = x.waiting;
      lies = lies;
      flags = tell;
      input = x.input;
      input_fits = x.input_fits;
    }

    -- the first item of what it becomes
    module _ (first : Item) (others : List Item) (em : emit p i ≡ first ∷ others) where
      abbrev pub ins : Ins
      ins = aimed (standing.target procs s.top.proc s.top.home.block s.top.home.rest s.top.home.end
          (length s.pushed) m.eip x.stands) (entry procs) (here + size_of first) first

      -- the state in which it is executed
      abbrev pub fetched : machine.State
      fetched = machine.at m (m.eip + size_of first)

      pub first_at : AreAt procs
          (standing.target procs s.top.proc s.top.home.block s.top.home.rest s.top.home.end
          (length s.pushed) m.eip x.stands) here (first ∷ (others ++ behind))
      first_at =
          subst (λ l. AreAt procs (standing.target procs s.top.proc s.top.home.block s.top.home.rest
          s.top.home.end (length s.pushed) m.eip x.stands) here (l ++ behind)) em
          (standing.instr_at procs s.top.proc s.top.home.block s.top.home.rest s.top.home.end
          (length s.pushed) m.eip x.stands i more e)

      pub sound_here : IsSound ins
      sound_here = at.first_sound procs _ here first (others ++ behind) first_at ok.sound

      -- the machine's step
      pub does : (t : machine.State) (told : StepOut) → effect fetched ins ≡ Ok (t, told) →
          advance r ≡ record { state = t; events = noted r.events told; steps = r.steps + 1 }
      does t told f =
          advance_step m t told going
          (at.step_here procs _ here m first (others ++ behind) first_at x.code ok.sound
          x.stands.place_is going ∙ ap (settled m) f)
          r.events r.steps

      pub reaches : (t : machine.State) → effect fetched ins ≡ Ok (t, out.Going) → Reaches 1 m t
      reaches t f =
          reach_one m t going
          (at.step_here procs _ here m first (others ++ behind) first_at x.code ok.sound
          x.stands.place_is going ∙ ap (settled m) f)

      -- a walk through its items begins
      pub walks_here : Walks procs m (s.pushed ++ frames procs x.backs (s.top ∷ s.below))
          (standing.target procs s.top.proc s.top.home.block s.top.home.rest s.top.home.end
          (length s.pushed) m.eip x.stands) here (first ∷ (others ++ behind))
      walks_here = record {
        code = x.code;
        going = going;
        stack = x.lies.words;
        small = omega (arith, x.lies.data_long, x.lies.data_few);
        place = x.stands.place_is;
        items_at = first_at;
      }

      -- it is all of it
      pub alone : others ≡ [] → m.eip + size_of first ≡ m.eip + size (emit p i)
      alone none =
          let long : size (emit p i) ≡ size_of first = ap size em ∙ ap (λ l. size (first ∷ l)) none
          ∙ (let one = size-cons first [] in omega (arith, one)) in
          omega (arith, long)

      -- it alone leads there
      pub leads : (t : machine.State) (told : StepOut) (s1 : State Cells) → effect fetched ins ≡
          Ok (t, told) →
          Realizes procs s1 (record {
            state = t;
            events = noted r.events told;
            steps =
                r.steps + 1;
          }) → Leads procs s r s1
      leads t told s1 f rep = (
        1,
        inl (omega arith),
        subst (Realizes procs s1) (sym (does t told f))
            rep,
      )
