-- What stands at a place of the running call is read and written by the machine's operand, whatever
-- place it is.
use Rattle.std.proofs.Common.{◌≡◌, ◌≢◌, ℕ, zero, suc, ◌+◌, ◌-◌, ◌*◌, ◌^◌, ◌≤◌, ◌<◌, Bool, true}
use Rattle.std.proofs.Common.{false, List, [], ◌∷◌, ◌++◌, length, Option, Some, None, refl, sym, ap}
use Rattle.std.proofs.Common.{◌∙◌, subst, arith, length-append, nat_lt, ◌⊎◌, inl, inr}
use Rattle.std.proofs.lemmas.Bool.{cases_eq}
use Rattle.std.specs.Prelude.{ℤ, ◌==◌, ◌||◌, if◌then◌else◌, Result, Ok, slice_get, slice_set}
use Rattle.std.specs.Int.{w32}
use Rattle.std.specs.Int.RustNames.{FitsSigned}
use Rattle.std.proofs.lemmas.Bool.Decides.{nat_tests}
use Rattle.std.proofs.lemmas.Int.{ints}
use Rattle.pra_list.proofs.Elements.{got_set, got_unset, length_set}
use Rattle.pra_list.proofs.Options.{some_same}
use Rattle.ia_code.specs.declared.ins.Width.{Width}
use Rattle.ia_code.specs.DecodeTable.{reg_number}
use Rattle.ia_code.specs.Regions.{data_base, stack_base, stack_top, stack_length}
use Rattle.ia_emit.specs.declared.item.Operand.{Operand}
use Rattle.ia_emit.specs.declared.item.Operand.TheVariants as at
use Rattle.ia_emit.specs.Emission.{rm_of}
use Rattle.ia_emit.specs.Operands.{free_register, register_at, slot_at, argument_at, spot_at}
use Rattle.ia_emit.specs.Operands.{frame_word, width_of, number_of}
use Rattle.ia_emit.specs.Operands as emit
use Rattle.ia_step.specs.declared.out.FaultKind.{FaultKind}
use Rattle.ia_step.specs.declared.registers.Registers.{Registers}
use Rattle.ia_step.specs.Effect.{load, write_rm}
use Rattle.ia_step.specs.Memory.{with_word}
use Rattle.ia_step.specs.Registers.{get, with_reg, address_of}
use Rattle.ia_step.specs.State.{State}
use Rattle.ia_step.proofs.RegisterLemmas.{get-with_reg, get-with_reg_other}
use Rattle.pl_moves.specs.Meaning.{Cell, Register, Memory, Fixed}
use Rattle.pl_place.specs.declared.placed.LProc.{LProc}
use Rattle.pl_place.specs.Machine.{Cells, Spot, Slot, Argument, Nowhere, spot, in_spot, with_spot}
use Rattle.pl_place.specs.Machine.{with_regs, if_there, at_cell, put_cell, cells, only_if, fixed}
use Rattle.pl_place.specs.Machine.{first_held, put_first, shape, proc_of}
use Rattle.pl_place.specs.Machine as low
use Rattle.pl_place.specs.Placed.{kind_of}
use Rattle.pra_base.specs.declared.code.VarKind.{VarKind}
use Rattle.pra_base.specs.declared.code.VarKind.TheVariants.{Param, Plain, Constant}
use Rattle.pra_base.specs.Places.{register_count, has_register, register_of, is_mem, is_both}
use Rattle.pra_base.specs.Places.{is_const}
use Rattle.pra_base.specs.Words.{word}
use Rattle.vc_code.specs.declared.value.Value.{Value}
use Rattle.vc_code.specs.declared.value.Value.TheVariants.{Num}
use Rattle.vc_code.specs.Value.{Held, Words}
use Rattle.vc_code.specs.Machine.{Activation, depth, last_get, joined}
use Rattle.ia_simulation.specs.Frames.{Means, Holds, Stacked, register_held, saved, rest_of, frames}
use Rattle.ia_simulation.specs.Realizes.{AllWait, RegistersHold, Lies}
use Rattle.ia_simulation.proofs.Cells.{load_cell, store_cell, get_front, get_back, set_front}
use Rattle.ia_simulation.proofs.Cells.{set_back, get_inside}
use Rattle.ia_simulation.proofs.Sizes.{live_long, saved_long}

-- ---- registers

pub below_6 : (P : ℕ → Type 0) → P 0 → P 1 → P 2 → P 3 → P 4 → P 5 → (r : ℕ) → r < 6 → P r
below_6 P a b c d e f zero l = a
below_6 P a b c d e f (suc zero) l = b
below_6 P a b c d e f (suc (suc zero)) l = c
below_6 P a b c d e f (suc (suc (suc zero))) l = d
below_6 P a b c d e f (suc (suc (suc (suc zero)))) l = e
below_6 P a b c d e f (suc (suc (suc (suc (suc zero))))) l = f
below_6 P a b c d e f (suc (suc (suc (suc (suc (suc r)))))) l = absurd (omega (arith, l))

-- places of different numbers are different registers of the machine
registers_apart : (r : ℕ) → r < 6 → (q : ℕ) → q < 6 → q ≢ r →
    (reg_number (free_register q) == reg_number (free_register r)) ≡ false
registers_apart =
    below_6 (λ r. (q : ℕ) → q < 6 → q ≢ r →
    (reg_number (free_register q) == reg_number (free_register r)) ≡ false)
    (below_6 _ (λ n. absurd (n refl)) (λ n. refl) (λ n. refl) (λ n. refl) (λ n. refl) (λ n. refl))
    (below_6 _ (λ n. refl) (λ n. absurd (n refl)) (λ n. refl) (λ n. refl) (λ n. refl) (λ n. refl))
    (below_6 _ (λ n. refl) (λ n. refl) (λ n. absurd (n refl)) (λ n. refl) (λ n. refl) (λ n. refl))
    (below_6 _ (λ n. refl) (λ n. refl) (λ n. refl) (λ n. absurd (n refl)) (λ n. refl) (λ n. refl))
    (below_6 _ (λ n. refl) (λ n. refl) (λ n. refl) (λ n. refl) (λ n. absurd (n refl)) (λ n. refl))
    (below_6 _ (λ n. refl) (λ n. refl) (λ n. refl) (λ n. refl) (λ n. refl) (λ n. absurd (n refl)))

-- ESP and EBP are none of them
pub esp_stays : (regs : Registers) (n r : ℕ) → r < 6 → (with_reg regs (free_register r) n).esp ≡
    regs.esp
esp_stays regs n = below_6 (λ r. (with_reg regs (free_register r) n).esp ≡ regs.esp) refl refl refl
    refl refl refl

pub ebp_stays : (regs : Registers) (n r : ℕ) → r < 6 → (with_reg regs (free_register r) n).ebp ≡
    regs.ebp
ebp_stays regs n = below_6 (λ r. (with_reg regs (free_register r) n).ebp ≡ regs.ebp) refl refl refl
    refl refl refl

-- one of them is written
pub registers_set : (held : Words) (regs : Registers) (r : ℕ) (h : Held) (n : ℕ) → length held ≡
    register_count → r < 6 → Holds h n →
    RegistersHold held regs → RegistersHold (slice_set held r h) (with_reg regs (free_register r) n)
registers_set held regs r h n long l m all q k = one (cases_eq q r)
  where
    one : (q ≡ r) ⊎ (q ≢ r) → Holds (register_held (slice_set held r h) q)
        (get (with_reg regs (free_register r) n) (free_register q))
    one (inl e) =
        subst (λ q. Holds (register_held (slice_set held r h) q)
        (get (with_reg regs (free_register r) n) (free_register q))) (sym e)
        (subst (λ g. Holds g (get (with_reg regs (free_register r) n) (free_register r)))
        (sym (ap joined (got_set held r h (omega (arith, long, l)))))
        (subst (Holds h) (sym (get-with_reg regs (free_register r) n)) m))
    one (inr ne) =
        subst (λ g. Holds g (get (with_reg regs (free_register r) n) (free_register q)))
        (sym (ap joined (got_unset held r q h ne)))
        (subst (Holds (register_held held q))
        (sym (get-with_reg_other regs (free_register r) (free_register q) n
        (registers_apart r l q k ne))) (all q k))

-- ---- what is there

pub last_there : (ws : Words) (i : ℕ) (h : Held) → last_get ws i ≡ Some h → (i < length ws) ×
    (slice_get ws (length ws - 1 - i) ≡ Some h)
last_there ws i h e = one (nat_lt i (length ws)) refl e
  where
    one : (b : Bool) → nat_lt i (length ws) ≡ b →
        (if b then slice_get ws (length ws - 1 - i) else None) ≡ Some h → (i < length ws) ×
        (slice_get ws (length ws - 1 - i) ≡ Some h)
    one true t e = (grind (arith, nat_tests), e)
    one false t e = cc

there_is : (o : Option Held) (c d : Activation Cells) → if_there o c ≡ Some d → (old : Held) ×
    (o ≡ Some old) × (c ≡ d)
there_is None c d e = cc
there_is (Some old) c d e = (old, refl, some_same c d e)

-- the same call, that stands at the same instruction
pub record Same (c d : Activation Cells) : Type 0 where
  pub proc : d.proc ≡ c.proc
  pub block : d.home.block ≡ c.home.block
  pub rest : d.home.rest ≡ c.home.rest
  pub end : d.home.end ≡ c.home.end

-- The operand of a cell: a register, or a variable's memory with a displacement of this width.
abbrev pub cell_operand : LProc → Cell → Operand
cell_operand p (Register r) = at.Register (free_register r)
cell_operand p (Memory v) = at.Memory (emit.cell p v)
cell_operand p (Fixed n) = at.Number n

-- ---- the first cell of a place

module _ (p : LProc) (v : ℕ) where
  abbrev IsFirst : List Cell → Operand → Type 0
  IsFirst cs o = (cs ≡ []) ⊎
      ((c : Cell) × (more : List Cell) × (cs ≡ c ∷ more) × (o ≡ cell_operand p c))

  first_by : (place : ℕ) (r mem both const : Bool) (kind : VarKind) → (r ≡ false → both ≡ false) →
      IsFirst
      (only_if r (Register (register_of place) ∷ [])
      ++ (only_if (mem || both) (Memory v ∷ []) ++ only_if const (fixed kind)))
      (if r then at.Register (register_at place) else if mem then at.Memory (emit.cell p v) else
      at.Number (number_of kind))
  first_by place true mem both const kind f = inr (Register (register_of place), _, refl, refl)
  first_by place false true both const kind f = inr (Memory v, _, refl, refl)
  first_by place false false true const kind f = let no_both = f refl in cc
  first_by place false false false false kind f = inl refl
  first_by place false false false true (Constant n) f = inr (Fixed n, _, refl, refl)
  first_by place false false false true Plain f = inl refl
  first_by place false false false true (Param i) f = inl refl

  or_false : (a b : Bool) → (a || b) ≡ false → b ≡ false
  or_false true b e = cc
  or_false false b e = e

  pub first_is : (place : ℕ) → IsFirst (cells p v place) (emit.operand p v place)
  first_is place = first_by place (has_register place) (is_mem place) (is_both place)
      (is_const place) (kind_of p v) (or_false _ (is_both place))

-- ---- the machine's operands

-- what an operand is read as
abbrev pub read : State → Operand → Result ℕ FaultKind
read m (at.Register r) = Ok (get m.regs r)
read m (at.Memory a) = load m (address_of m.regs a)
read m (at.Number n) = Ok (word n)

-- ---- the frame of the running call

module _ (procs : List LProc) (backs : List ℕ) (pushed : Words) (top : Activation Cells)
    (below : List (Activation Cells)) (globals : Words) (m : State)
    (y : Lies procs backs pushed top below globals m.regs m.stack m.storage)
    (waits : AllWait procs below backs) (few : length pushed ≤ 32) where
  abbrev p : LProc
  p = proc_of procs top.proc

  abbrev kept : Words
  kept = saved procs backs below

  abbrev outer : Words
  outer = frames procs (rest_of backs) below

  abbrev mine : Words
  mine = frames procs backs (top ∷ below)

  abbrev all : Words
  all = pushed ++ mine

  abbrev esp : ℕ
  esp = m.regs.esp

  mine_long : 4 * length mine ≡ depth (shape procs) (top ∷ below)
  mine_long = live_long procs top below backs y.sizes waits

  all_long : length all ≡ length pushed + length mine
  all_long = length-append pushed mine

  pub few_words : 4 * length all ≤ stack_length
  few_words = omega (arith, mine_long, all_long, few, y.deep)

  pub data_below : data_base + length m.storage ≤ stack_base
  data_below = omega (arith, y.data_long, y.data_few)

  -- ---- slots and arguments

  abbrev slot_index : ℕ → ℕ
  slot_index k = length pushed + (length top.aggregates + (length top.home.slots - 1 - k))

  abbrev arg_index : ℕ → ℕ
  arg_index i = length pushed +
      (length top.aggregates + (length top.home.slots + (length kept + (length top.args - 1 - i))))

  parts_long : length mine ≡
      length top.aggregates + (length top.home.slots + (5 + (length top.args + length outer)))
  parts_long =
      let la = length-append top.aggregates (top.home.slots ++ (kept ++ (top.args ++ outer))) in
      let lb = length-append top.home.slots (kept ++ (top.args ++ outer)) in
      let lc = length-append kept (top.args ++ outer) in
      let ld = length-append top.args outer in
      let five = saved_long procs backs below in
      omega (arith, la, lb, lc, ld, five)

  slot_inside : (k : ℕ) → k < length top.home.slots → slot_index k < length all
  slot_inside k l = omega (arith, l, all_long, parts_long)

  slot_place : (w : Width) (k : ℕ) → k < length top.home.slots →
      address_of m.regs (frame_word w (slot_at k)) ≡ esp + 4 * slot_index k
  slot_place w k l =
      let high = y.ebp in
      omega (
        arith,
        ints,
        high,
        y.words.top,
        mine_long,
        all_long,
        parts_long,
        y.deep,
        y.sizes.args_long,
        y.sizes.slots_long,
        y.sizes.aggregates_long,
        l,
        few,
      )

  arg_inside : (i : ℕ) → i < length top.args → arg_index i < length all
  arg_inside i l = let five = saved_long procs backs below in
      omega (arith, l, all_long, parts_long, five)

  arg_place : (w : Width) (i : ℕ) → i < length top.args →
      address_of m.regs (frame_word w (argument_at p.args i)) ≡ esp + 4 * arg_index i
  arg_place w i l =
      let five = saved_long procs backs below in
      omega (
        arith,
        ints,
        five,
        y.ebp,
        y.words.top,
        mine_long,
        all_long,
        parts_long,
        y.deep,
        y.sizes.args_long,
        y.sizes.slots_long,
        y.sizes.aggregates_long,
        l,
        few,
      )

  -- ---- what a cell holds is read

  reads_spot : (s : Spot) (h : Held) → in_spot top s ≡ Some h →
      (n : ℕ) × (load m (address_of m.regs (frame_word (width_of p) (spot_at p.args s))) ≡ Ok n) ×
      Holds h n
  reads_spot (Slot k) h e =
      let t = last_there top.home.slots k h e in
      let j = length top.home.slots - 1 - k in
      load_cell all m y.words data_below few_words (slot_index k) _ (slot_inside k t.0)
      (slot_place (width_of p) k t.0) h
      (get_back pushed mine (length top.aggregates + j) _ refl
      ∙ get_back top.aggregates (top.home.slots ++ (kept ++ (top.args ++ outer))) j _ refl
      ∙ get_front top.home.slots (kept ++ (top.args ++ outer)) j (omega (arith, t.0)) ∙ t.1)
  reads_spot (Argument i) h e =
      let t = last_there top.args i h e in
      let j = length top.args - 1 - i in
      load_cell all m y.words data_below few_words (arg_index i) _ (arg_inside i t.0)
      (arg_place (width_of p) i t.0) h
      (get_back pushed mine (length top.aggregates + (length top.home.slots + (length kept + j))) _
      refl
      ∙ get_back top.aggregates (top.home.slots ++ (kept ++ (top.args ++ outer)))
      (length top.home.slots + (length kept + j)) _ refl
      ∙ get_back top.home.slots (kept ++ (top.args ++ outer)) (length kept + j) _ refl
      ∙ get_back kept (top.args ++ outer) j _ refl
      ∙ get_front top.args outer j (omega (arith, t.0)) ∙ t.1)
  reads_spot Nowhere h e = cc

  pub reads_cell : (a : Cell) (h : Held) → ((n : ℤ) → a ≡ Fixed n → FitsSigned w32 n) →
      at_cell p top a ≡ Some h →
      (n : ℕ) × (read m (cell_operand p a) ≡ Ok n) × Holds h n
  reads_cell (Register r) h fits e =
      let inside = get_inside top.home.regs r h e in
      let l : r < 6 = omega (arith, inside, y.sizes.regs_long) in (
        get m.regs (free_register r),
        refl,
        subst (λ g. Holds g (get m.regs (free_register r)))
            (ap joined e) (y.registers r l),
      )
  reads_cell (Memory v) h fits e = reads_spot (spot p v) h e
  reads_cell (Fixed n) h fits e =
      let is : FitsSigned w32 n = fits n refl in
      let same : Some (Num (word n)) ≡ h = some_same (Some (Num (word n))) h e in
      (word n, refl, subst (λ g. Holds g (word n)) same (refl, word_fits n is))
    where
      word_fits : (n : ℤ) → FitsSigned w32 n → word n < 2 ^ 32
      word_fits n is = omega (arith, ints)

  -- ---- and it is written

  -- the registers and the stack that a write leaves, where the call is then this one
  pub record Wrote (o : Operand) (n : ℕ) (c : Activation Cells) : Type 0 where
    pub regs : Registers
    pub stack : List ℕ
    pub is : write_rm m (rm_of o) n ≡ Ok (record m { regs = regs; stack = stack })
    pub lies : Lies procs backs pushed c below globals regs stack m.storage
    pub same : Same top c

  wrote_register : (r : ℕ) (h : Held) (n : ℕ) → r < 6 → Holds h n →
      Wrote (at.Register (free_register r)) n (with_regs top (slice_set top.home.regs r h))
  unfolding write_rm
  wrote_register r h n l f =
      let regs = with_reg m.regs (free_register r) n in
      let up : regs.esp ≡ m.regs.esp = esp_stays m.regs n r l in
      record {
        regs = regs;
        stack = m.stack;
        is = refl;
        lies = record {
          sizes = record {
            aggregates_long = y.sizes.aggregates_long;
            args_long = y.sizes.args_long;
            slots_long = y.sizes.slots_long;
            regs_long = length_set top.home.regs r h
                ∙ y.sizes.regs_long;
          };
          registers = registers_set top.home.regs m.regs r h n y.sizes.regs_long l f y.registers;
          words = subst (λ e. Stacked all e m.stack) (sym up) y.words;
          ebp = ebp_stays m.regs n r l ∙ y.ebp;
          deep = y.deep;
          globals_hold = y.globals_hold;
          data_long = y.data_long;
          data_few = y.data_few;
        };
        same = record { proc = refl; block = refl; rest = refl; end = refl };
      }

  abbrev memory_at : Spot → Operand
  memory_at s = at.Memory (frame_word (width_of p) (spot_at p.args s))

  wrote_spot : (s : Spot) (h old : Held) (n : ℕ) → in_spot top s ≡ Some old → Holds h n →
      Wrote (memory_at s) n (with_spot top s h)
  unfolding write_rm
  wrote_spot (Slot k) h old n e f =
      let t = last_there top.home.slots k old e in
      let j = length top.home.slots - 1 - k in
      let rest = kept ++ (top.args ++ outer) in
      let w = store_cell all m y.words data_below few_words (slot_index k) _ (slot_inside k t.0)
      (slot_place (width_of p) k t.0) h n f in
      let moved : slice_set all (slot_index k) h ≡ pushed
      ++ (top.aggregates ++ (slice_set top.home.slots j h ++ rest)) =
      set_back pushed mine (length top.aggregates + j) _ h refl
      ∙ ap (λ l. pushed ++ l) (set_back top.aggregates (top.home.slots ++ rest) j _ h refl
      ∙ ap (λ l. top.aggregates ++ l) (set_front top.home.slots rest j h (omega (arith, t.0)))) in
      let stack = with_word m.stack
      (address_of m.regs (frame_word (width_of p) (slot_at k)) - stack_base) n in
      record {
        regs = m.regs;
        stack = stack;
        is = w.0;
        lies = record {
          sizes = record {
            aggregates_long = y.sizes.aggregates_long;
            args_long = y.sizes.args_long;
            slots_long = length_set top.home.slots j h ∙ y.sizes.slots_long;
            regs_long =
                y.sizes.regs_long;
          };
          registers = y.registers;
          words = subst (λ l. Stacked l m.regs.esp stack) moved w.1;
          ebp = y.ebp;
          deep = y.deep;
          globals_hold = y.globals_hold;
          data_long = y.data_long;
          data_few = y.data_few;
        };
        same = record { proc = refl; block = refl; rest = refl; end = refl };
      }
  wrote_spot (Argument i) h old n e f =
      let t = last_there top.args i old e in
      let j = length top.args - 1 - i in
      let w = store_cell all m y.words data_below few_words (arg_index i) _ (arg_inside i t.0)
      (arg_place (width_of p) i t.0) h n f in
      let moved : slice_set all (arg_index i) h ≡ pushed
      ++ (top.aggregates ++ (top.home.slots ++ (kept ++ (slice_set top.args j h ++ outer)))) =
      set_back pushed mine (length top.aggregates + (length top.home.slots + (length kept + j))) _ h
      refl
      ∙ ap (λ l. pushed ++ l) (set_back top.aggregates
      (top.home.slots ++ (kept ++ (top.args ++ outer)))
      (length top.home.slots + (length kept + j)) _ h refl
      ∙ ap (λ l. top.aggregates ++ l)
      (set_back top.home.slots (kept ++ (top.args ++ outer)) (length kept + j) _ h refl
      ∙ ap (λ l. top.home.slots ++ l) (set_back kept (top.args ++ outer) j _ h refl
      ∙ ap (λ l. kept ++ l) (set_front top.args outer j h (omega (arith, t.0)))))) in
      let stack = with_word m.stack
      (address_of m.regs (frame_word (width_of p) (argument_at p.args i)) - stack_base) n in
      let long = length_set top.args j h in
      record {
        regs = m.regs;
        stack = stack;
        is = w.0;
        lies = record {
          sizes = record {
            aggregates_long = y.sizes.aggregates_long;
            args_long =
                long ∙ y.sizes.args_long;
            slots_long = y.sizes.slots_long;
            regs_long =
                y.sizes.regs_long;
          };
          registers = y.registers;
          words = subst (λ l. Stacked l m.regs.esp stack) moved w.1;
          ebp = y.ebp ∙ ap (λ n. stack_top - (depth (shape procs) below + 4 * n + 8)) (sym long);
          deep = y.deep;
          globals_hold = y.globals_hold;
          data_long = y.data_long;
          data_few = y.data_few;
        };
        same = record { proc = refl; block = refl; rest = refl; end = refl };
      }
  wrote_spot Nowhere h old n e f = cc

  pub writes_cell : (a : Cell) (h : Held) (n : ℕ) (c : Activation Cells) → put_cell p top a h ≡
      Some c → Holds h n → Wrote (cell_operand p a) n c
  writes_cell (Register r) h n c e f =
      let t = there_is (slice_get top.home.regs r) _ c e in
      let inside = get_inside top.home.regs r t.0 t.1 in
      subst (Wrote (at.Register (free_register r)) n) t.2
      (wrote_register r h n (omega (arith, inside, y.sizes.regs_long)) f)
  writes_cell (Memory v) h n c e f =
      let t = there_is (in_spot top (spot p v)) _ c e in
      subst (Wrote (memory_at (spot p v)) n) t.2 (wrote_spot (spot p v) h t.0 n t.1 f)
  writes_cell (Fixed k) h n c e f = cc

  -- ---- a variable at a place

  pub reads : (v place : ℕ) (x : Value) →
      ((n : ℤ) → emit.operand p v place ≡ at.Number n → FitsSigned w32 n) →
      low.operand p top v place ≡ Some x →
      (n : ℕ) × (read m (emit.operand p v place) ≡ Ok n) × Means x n
  reads v place x fits e = one (first_is p v place)
    where
      held : (o : Option Held) (x : Value) → joined o ≡ Some x → o ≡ Some (Some x)
      held None x e = cc
      held (Some h) x e = ap Some e

      one : IsFirst p v (cells p v place) (emit.operand p v place) → (n : ℕ) ×
          (read m (emit.operand p v place) ≡ Ok n) × Means x n
      one (inl none) = let is : None ≡ Some x = sym (ap (first_held p top) none) ∙ e in cc
      one (inr f) =
          let is : joined (at_cell p top f.0) ≡ Some x = sym (ap (first_held p top) f.2) ∙ e in
          let got = reads_cell f.0 (Some x) (λ n same. fits n (f.3 ∙ ap (cell_operand p) same))
          (held (at_cell p top f.0) x is) in
          (got.0, ap (read m) f.3 ∙ got.1, got.2)

  pub writes : (v place : ℕ) (x : Value) (n : ℕ) (c : Activation Cells) →
      low.put p top v place (Some x) ≡ Some c → Means x n → Wrote (emit.operand p v place) n c
  writes v place x n c e f = one (first_is p v place)
    where
      one : IsFirst p v (cells p v place) (emit.operand p v place) →
          Wrote (emit.operand p v place) n c
      one (inl none) = let is : None ≡ Some c = sym (ap (λ cs. put_first p top cs (Some x)) none)
          ∙ e in cc
      one (inr g) =
          subst (λ o. Wrote o n c) (sym g.3)
          (writes_cell g.0 (Some x) n c (sym (ap (λ cs. put_first p top cs (Some x)) g.2) ∙ e) f)
