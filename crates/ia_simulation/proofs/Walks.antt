-- A walk through instructions that write nothing, while words stand in the stack.
use Rattle.std.proofs.Common.{◌≡◌, ℕ, ◌+◌, ◌-◌, ◌*◌, ◌≤◌, List, ◌∷◌, ◌++◌, length, sym, ap, ◌∙◌}
use Rattle.std.proofs.Common.{subst, arith, []}
use Rattle.std.specs.Prelude.{pos, ◌-ℤ◌, Ok}
use Rattle.std.specs.Int.{w32}
use Rattle.std.proofs.lemmas.Int.{ints, int_wrap_fits}
use Rattle.pra_list.specs.Results.{◌>>=◌}
use Rattle.ia_code.specs.declared.ins.Reg.{Reg}
use Rattle.ia_code.specs.declared.ins.Ins.TheVariants as ins
use Rattle.ia_code.specs.Image.{max_code_bytes}
use Rattle.ia_code.specs.Listing.{bytes_of_all, AreSound}
use Rattle.ia_code.specs.Regions.{code_base, data_base, stack_base, stack_length}
use Rattle.ia_emit.specs.declared.item.Item.{Item}
use Rattle.ia_emit.specs.declared.item.Item.TheVariants.{Plain}
use Rattle.ia_emit.specs.declared.item.Target.{Target}
use Rattle.ia_emit.specs.Code.{size_of, distance, aimed, entry, code_of}
use Rattle.ia_step.specs.declared.flags.Flags.{Flags}
use Rattle.ia_step.specs.declared.out.Ending.TheVariants.{Going}
use Rattle.ia_step.specs.declared.out.StepOut.{StepOut}
use Rattle.ia_step.specs.declared.out.StepOut.TheVariants as out
use Rattle.ia_step.specs.declared.registers.Registers.{Registers}
use Rattle.ia_step.specs.Effect.{effect, goes}
use Rattle.ia_step.specs.Memory.{word_in, with_word}
use Rattle.ia_step.specs.Registers.{get}
use Rattle.ia_step.specs.State.{State, at, with_register}
use Rattle.ia_step.specs.Step.{step, settled}
use Rattle.ia_step.proofs.Access.{push_here, pop_here, pushed, popped}
use Rattle.ia_step.proofs.AtEip.{jump_fits}
use Rattle.ia_step.proofs.MemoryWords.{length_put}
use Rattle.ia_step.proofs.Reaches.{Reaches, reach_one}
use Rattle.pl_place.specs.declared.placed.LProc.{LProc}
use Rattle.pra_base.specs.Words.{word, sum32}
use Rattle.vc_code.specs.Value.{Held, Words}
use Rattle.ia_simulation.specs.Frames.{Holds, WordsHold, Stacked}
use Rattle.ia_simulation.proofs.Cells.{hold_push, hold_drop}
use Rattle.ia_simulation.proofs.Here.{AreAt}
use Rattle.ia_simulation.proofs.Here as here

-- ---- the stack

-- ESP goes down by a word
pub push_stacked : (h : Held) (words : Words) (esp n : ℕ) (stack : List ℕ) →
    Stacked words esp stack → 4 * length words + 4 ≤ stack_length → Holds h n →
    Stacked (h ∷ words) (esp - 4) (with_word stack (esp - 4 - stack_base) n)
push_stacked h words esp n stack k room f =
    let a = esp - 4 - stack_base in
    let up : esp - stack_base ≡ a + 4 = omega (arith, k.top, room) in
    record {
      long = length_put stack a n ∙ k.long;
      top = omega (arith, k.top, room);
      held = hold_push h words stack a n (omega (arith, k.top, k.long, room)) f
          (subst (WordsHold words stack) up k.held);
    }

-- ESP goes up over some words
pub drop_stacked : (xs ys : Words) (esp new : ℕ) (stack : List ℕ) → new ≡ esp + 4 * length xs →
    length (xs ++ ys) ≡ length xs + length ys → 4 * length (xs ++ ys) ≤ stack_length →
    Stacked (xs ++ ys) esp stack → Stacked ys new stack
drop_stacked xs ys esp new stack e l room k =
    let z : esp - stack_base + 4 * length xs ≡ new - stack_base =
    omega (arith, k.top, e, l, room) in
    record {
      long = k.long;
      top = omega (arith, k.top, e, l);
      held = subst (WordsHold ys stack) z (hold_drop xs ys stack (esp - stack_base) k.held);
    }

-- ---- distances

-- a jump goes to the place that it is aimed at
pub aimed_at : (n t : ℕ) → n ≤ max_code_bytes → t ≤ max_code_bytes →
    sum32 (code_base + n) (word (distance n t)) ≡ code_base + t
aimed_at n t f g =
    let fits = jump_fits n t (omega (arith, f)) (omega (arith, g)) in
    let same : distance n t ≡ pos t -ℤ pos n = int_wrap_fits w32 (pos t -ℤ pos n) fits in
    ap (λ d. sum32 (code_base + n) (word d)) same ∙ omega (arith, ints, f, g)

-- ---- walks

-- The machine is going on before these items, and these words stand in its stack.
pub record Walks (procs : List LProc) (m : State) (words : Words) (target : Target → ℕ) (from : ℕ)
    (items : List Item) : Type 0 where
  pub code : m.code ≡ bytes_of_all (code_of procs)
  pub going : m.ending ≡ Going
  pub stack : Stacked words m.regs.esp m.stack
  pub small : data_base + length m.storage ≤ stack_base
  pub place : m.eip ≡ code_base + from
  pub items_at : AreAt procs target from items

module _ (procs : List LProc) (sound : AreSound (code_of procs)) (m : State) (words : Words)
    (target : Target → ℕ) (from : ℕ) (x : Item) (more : List Item)
    (w : Walks procs m words target from (x ∷ more)) where
  -- one step
  pub does : (t : State) (told : StepOut) → effect (at m (m.eip + size_of x))
      (aimed target (entry procs) (from + size_of x) x) ≡ Ok (t, told) →
      ◌≡◌ {A = State × StepOut} (step m) (t, told)
  does t told e = here.step_here procs target from m x more w.items_at w.code sound w.place w.going
      ∙ ap (settled m) e

  pub reaches : (t : State) → effect (at m (m.eip + size_of x))
      (aimed target (entry procs) (from + size_of x) x) ≡ Ok (t, out.Going) → Reaches 1 m t
  reaches t e = reach_one m t w.going (does t out.Going e)

  -- registers but ESP, and flags, change
  pub goes_on : (regs : Registers) (flags : Flags) → regs.esp ≡ m.regs.esp →
      Walks procs (record m { regs = regs; flags = flags; eip = m.eip + size_of x }) words target
      (from + size_of x) more
  goes_on regs flags e = record {
    code = w.code;
    going = w.going;
    stack = subst (λ n. Stacked words n m.stack) (sym e) w.stack;
    small = w.small;
    place = omega (arith, w.place);
    items_at = here.next procs target from x more w.items_at;
  }

-- a register is pushed
module _ (procs : List LProc) (sound : AreSound (code_of procs)) (m : State) (words : Words)
    (target : Target → ℕ) (from : ℕ) (q : Reg) (more : List Item)
    (w : Walks procs m words target from (Plain (ins.PushR q) ∷ more))
    (room : 4 * length words + 4 ≤ stack_length) where
  abbrev pub behind_push : State
  behind_push = at (pushed m (get m.regs q)) (m.eip + size_of (Plain (ins.PushR q)))

  pub pushes : Reaches 1 m behind_push
  unfolding effect
  pushes =
      let s = at m (m.eip + size_of (Plain (ins.PushR q))) in
      let k = w.stack in
      reaches procs sound m words target from (Plain (ins.PushR q)) more w behind_push
      (ap (λ x. x >>= goes) (push_here s w.small (omega (arith, k.top)) (get m.regs q)
      (omega (arith, k.top, room)) (omega (arith, k.top, k.long))))

  pub pushes_on : (h : Held) → Holds h (get m.regs q) → Walks procs behind_push (h ∷ words) target
      (from + size_of (Plain (ins.PushR q))) more
  pushes_on h f = record {
    code = w.code;
    going = w.going;
    stack = push_stacked h words m.regs.esp (get m.regs q) m.stack w.stack room f;
    small = w.small;
    place = omega (arith, w.place);
    items_at = here.next procs target from (Plain (ins.PushR q)) more w.items_at;
  }

-- a word is popped into a register
module _ (procs : List LProc) (sound : AreSound (code_of procs)) (m : State) (h : Held)
    (words : Words) (target : Target → ℕ) (from : ℕ) (q : Reg) (more : List Item)
    (w : Walks procs m (h ∷ words) target from (Plain (ins.PopR q) ∷ more))
    (room : 4 * length words + 4 ≤ stack_length) where
  abbrev pub top_word : ℕ
  top_word = word_in m.stack (m.regs.esp - stack_base)

  abbrev pub behind_pop : State
  behind_pop = at (with_register (popped m) q top_word) (m.eip + size_of (Plain (ins.PopR q)))

  pub popped_holds : Holds h top_word
  popped_holds = w.stack.held.0

  pub pops : Reaches 1 m behind_pop
  unfolding effect
  pops =
      let s = at m (m.eip + size_of (Plain (ins.PopR q))) in
      let k = w.stack in
      reaches procs sound m (h ∷ words) target from (Plain (ins.PopR q)) more w behind_pop
      (ap (λ x. x >>= λ x. goes (with_register x.1 q x.0))
      (pop_here s w.small (omega (arith, k.top)) (omega (arith, k.top, room))
      (omega (arith, k.top, k.long)) (omega (arith, k.top))))

  pub pops_on : behind_pop.regs.esp ≡ m.regs.esp + 4 → Walks procs behind_pop words target
      (from + size_of (Plain (ins.PopR q))) more
  pops_on up = record {
    code = w.code;
    going = w.going;
    stack = drop_stacked (h ∷ []) words m.regs.esp behind_pop.regs.esp m.stack (omega (arith, up))
        (omega arith) (omega (arith, room)) w.stack;
    small = w.small;
    place = omega (arith, w.place);
    items_at = here.next procs target from (Plain (ins.PopR q)) more w.items_at;
  }
