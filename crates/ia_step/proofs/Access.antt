-- Accesses that lie in a region, and a push and a pop within the stack.
use Rattle.std.proofs.Common.{◌≡◌, ℕ, ◌+◌, ◌-◌, ◌^◌, ◌≤◌, ◌<◌, true, false, List, length, refl}
use Rattle.std.proofs.Common.{arith}
use Rattle.std.specs.Prelude.{Ok}
use Rattle.std.proofs.lemmas.Bool.Decides.{nat_tests}
use Rattle.ia_code.specs.declared.ins.Reg.TheVariants.{Esp}
use Rattle.pra_base.specs.Words.{sum32, diff32}
use Rattle.ia_code.specs.Regions.{data_base, stack_base}
use Rattle.ia_step.specs.Memory.{word_in, with_word}
use Rattle.ia_step.specs.State.{State, with_register}
use Rattle.ia_step.specs.Effect.{lies_in, load, store, push, pop}

pub lies : (a base : ℕ) (region : List ℕ) → base ≤ a → a + 4 ≤ base + length region →
    lies_in a base region ≡ true
lies a base region low high = grind (arith, nat_tests)

pub lies_above : (a base : ℕ) (region : List ℕ) → base + length region < a + 4 →
    lies_in a base region ≡ false
lies_above a base region high = grind (arith, nat_tests)

module _ (s : State) (a : ℕ) (low : data_base ≤ a) (high : a + 4 ≤ data_base + length s.storage)
  where
    pub load_data : load s a ≡ Ok (word_in s.storage (a - data_base))
    unfolding load
    load_data = rw (lies a data_base s.storage low high) refl

    pub store_data : (v : ℕ) → store s a v ≡
        Ok (record s { storage = with_word s.storage (a - data_base) v })
    unfolding store
    store_data v = rw (lies a data_base s.storage low high) refl

-- the data end below the stack
module _ (s : State) (a : ℕ) (small : data_base + length s.storage ≤ stack_base)
    (low : stack_base ≤ a) (high : a + 4 ≤ stack_base + length s.stack) where
  outside : lies_in a data_base s.storage ≡ false
  outside = lies_above a data_base s.storage (omega arith)

  pub load_stack : load s a ≡ Ok (word_in s.stack (a - stack_base))
  unfolding load
  load_stack = rw (outside, lies a stack_base s.stack low high) refl

  pub store_stack : (v : ℕ) → store s a v ≡
      Ok (record s { stack = with_word s.stack (a - stack_base) v })
  unfolding store
  store_stack v = rw (outside, lies a stack_base s.stack low high) refl

-- a state with one word more, and one less, on the stack
abbrev pub pushed : State → ℕ → State
pushed s v = with_register (record s { stack = with_word s.stack (s.regs.esp - 4 - stack_base) v })
    Esp (s.regs.esp - 4)

abbrev pub popped : State → State
popped s = with_register s Esp (s.regs.esp + 4)

module _ (s : State) (small : data_base + length s.storage ≤ stack_base) (top : s.regs.esp < 2 ^ 32)
  where
    pub push_here : (v : ℕ) → stack_base + 4 ≤ s.regs.esp → s.regs.esp ≤
        stack_base + length s.stack →
        push s v ≡ Ok (pushed s v)
    unfolding push
    push_here v low high =
        let down : diff32 s.regs.esp 4 ≡ s.regs.esp - 4 = omega arith in
        let stored : store s (s.regs.esp - 4) v ≡
        Ok (record s { stack = with_word s.stack (s.regs.esp - 4 - stack_base) v }) =
        store_stack s (s.regs.esp - 4) small (omega arith) (omega arith) v in
        rw (down, stored) refl

    pub pop_here : stack_base ≤ s.regs.esp → s.regs.esp + 4 ≤ stack_base + length s.stack →
        s.regs.esp + 4 < 2 ^ 32 → pop s ≡ Ok (word_in s.stack (s.regs.esp - stack_base), popped s)
    unfolding pop
    pop_here low high fits =
        let up : sum32 s.regs.esp 4 ≡ s.regs.esp + 4 = omega arith in
        rw (load_stack s s.regs.esp small low high, up) refl
