-- A word of an object of live calls is a word of the stack.
use Rattle.std.proofs.Common.{◌≡◌, ℕ, zero, suc, ◌+◌, ◌-◌, ◌*◌, ◌/◌, ◌%◌, ◌^◌, ◌≤◌, Bool, true}
use Rattle.std.proofs.Common.{false, ◌&&◌, List, [], ◌∷◌, ◌++◌, length, Option, Some, None, refl}
use Rattle.std.proofs.Common.{ap, ◌∙◌, arith, length-append, nat_eq}
use Rattle.std.specs.Prelude.{if◌then◌else◌, Ok, slice_get}
use Rattle.std.proofs.lemmas.Bool.Decides.{nat_tests}
use Rattle.pra_list.proofs.Choices.{and_true}
use Rattle.ia_code.specs.Regions.{data_base, stack_top}
use Rattle.ia_step.specs.Effect.{load}
use Rattle.ia_step.specs.State.{State as Machine}
use Rattle.pl_place.specs.declared.placed.LProc.{LProc}
use Rattle.pl_place.specs.Machine.{Cells, proc_of, shape}
use Rattle.pra_base.specs.Words.{stack_limit}
use Rattle.vc_code.specs.declared.value.Object.{Object}
use Rattle.vc_code.specs.declared.value.Object.TheVariants.{Data, Aggregates, Cell}
use Rattle.vc_code.specs.declared.value.Value.TheVariants.{Num}
use Rattle.vc_code.specs.Operation.{number}
use Rattle.vc_code.specs.Value.{Held, Words}
use Rattle.vc_code.specs.Machine.{Activation, State, depth, cell_words, is_home, joined, last_get}
use Rattle.vc_code.specs.Machine.{number_in, word_at, words_of}
use Rattle.ia_simulation.specs.Frames.{Means, base_of, saved, rest_of, frames}
use Rattle.ia_simulation.specs.Realizes.{HasSizes, AllWait, Lies}
use Rattle.ia_simulation.proofs.Cells.{get_back, get_front, get_inside, load_cell, load_word}
use Rattle.ia_simulation.proofs.Ops.{number_is}
use Rattle.ia_simulation.proofs.Sizes.{live_long, saved_long}
use Rattle.ia_simulation.proofs.Spots.{data_below, few_words, last_there}

-- ---- the word at an offset

pub word_is : (ws : Words) (o : ℕ) (h : Held) → word_at ws o ≡ Some h → (o % 4 ≡ 0) ×
    (slice_get ws (o / 4) ≡ Some h)
word_is ws o h e = one (nat_eq (o % 4) 0) refl e
  where
    one : (b : Bool) → nat_eq (o % 4) 0 ≡ b → (if b then slice_get ws (o / 4) else None) ≡ Some h →
        (o % 4 ≡ 0) × (slice_get ws (o / 4) ≡ Some h)
    one true t e = (grind (arith, nat_tests), e)
    one false t e = cc

pub same_is : (a b : ℕ) → nat_eq a b ≡ true → a ≡ b
same_is a b e = grind (arith, nat_tests)

-- the one word of an argument's cell
pub one_word : (home : Bool) (o : Option Held) (k : ℕ) (h : Held) →
    slice_get (if home then [] else cell_words o) k ≡ Some h → (k ≡ 0) × (o ≡ Some h)
one_word true o k h e = cc
one_word false None k h e = cc
one_word false (Some x) zero h e = (refl, e)
one_word false (Some x) (suc k) h e = cc

-- ---- where it is

abbrev pub AllSized : List LProc → List (Activation Cells) → Type 0
AllSized procs [] = Unit {0}
AllSized procs (c ∷ calls) = HasSizes (proc_of procs c.proc) c.aggregates c.args c.home.slots
    c.home.regs × AllSized procs calls

pub all_sized : (procs : List LProc) (calls : List (Activation Cells)) (backs : List ℕ) →
    AllWait procs calls backs → AllSized procs calls
all_sized procs [] backs w = tt
all_sized procs (c ∷ calls) [] w = absurd w
all_sized procs (c ∷ calls) (b ∷ backs) w = (w.0.sizes, all_sized procs calls backs w.1)

pub record Found (procs : List LProc) (backs : List ℕ) (calls : List (Activation Cells))
    (x : Object) (o : ℕ) (h : Held) : Type 0 where
  pub cell : ℕ
  pub is : slice_get (frames procs backs calls) cell ≡ Some h
  pub place : base_of x + o + depth (shape procs) calls ≡ stack_top + 4 * cell

module _ (procs : List LProc) where
  module _ (c : Activation Cells) (calls : List (Activation Cells)) (backs : List ℕ)
      (sizes : HasSizes (proc_of procs c.proc) c.aggregates c.args c.home.slots c.home.regs)
      (x : Object) (o : ℕ) (h : Held) where
    abbrev kept : Words
    kept = saved procs backs calls

    abbrev outer : Words
    outer = frames procs (rest_of backs) calls

    -- it is in a frame below
    below_it : Found procs (rest_of backs) calls x o h → Found procs backs (c ∷ calls) x o h
    below_it f =
        let five = saved_long procs backs calls in
        record {
          cell = length c.aggregates +
              (length c.home.slots + (length kept + (length c.args + f.cell)));
          is =
              get_back c.aggregates (c.home.slots ++ (kept ++ (c.args ++ outer)))
              (length c.home.slots + (length kept + (length c.args + f.cell))) _ refl
              ∙ get_back c.home.slots (kept ++ (c.args ++ outer))
              (length kept + (length c.args + f.cell)) _ refl
              ∙ get_back kept (c.args ++ outer) (length c.args + f.cell) _ refl
              ∙ get_back c.args outer f.cell _ refl ∙ f.is;
          place = omega (
            arith,
            f.place,
            five,
            sizes.aggregates_long,
            sizes.args_long,
            sizes.slots_long,
          );
        }

    in_aggregates : (n sum : ℕ) → x ≡ Aggregates n sum → sum ≡ depth (shape procs) (c ∷ calls) →
        depth (shape procs) (c ∷ calls) ≤ stack_limit → o % 4 ≡ 0 → slice_get c.aggregates (o / 4) ≡
        Some h → Found procs backs (c ∷ calls) x o h
    in_aggregates n sum is same deep whole e = record {
      cell = o / 4;
      is = get_front c.aggregates (c.home.slots ++ (kept ++ (c.args ++ outer))) (o / 4)
          (get_inside c.aggregates (o / 4) h e) ∙ e;
      place = let b = ap base_of is in omega (arith, b, same, deep, whole);
    }

    in_arguments : (n below k : ℕ) → x ≡ Cell n below k → below ≡ depth (shape procs) calls →
        depth (shape procs) (c ∷ calls) ≤ stack_limit → o % 4 ≡ 0 → o / 4 ≡ 0 → last_get c.args k ≡
        Some h → Found procs backs (c ∷ calls) x o h
    in_arguments n below k is same deep whole none e =
        let five = saved_long procs backs calls in
        let t = last_there c.args k h e in
        let j = length c.args - 1 - k in
        record {
          cell = length c.aggregates + (length c.home.slots + (length kept + j));
          is =
              get_back c.aggregates (c.home.slots ++ (kept ++ (c.args ++ outer)))
              (length c.home.slots + (length kept + j)) _ refl
              ∙ get_back c.home.slots (kept ++ (c.args ++ outer)) (length kept + j) _ refl
              ∙ get_back kept (c.args ++ outer) j _ refl
              ∙ get_front c.args outer j (omega (arith, t.0)) ∙ t.1;
          place = let b = ap base_of is in
              omega (
                arith,
                b,
                same,
                deep,
                whole,
                none,
                five,
                t.0,
                sizes.aggregates_long,
                sizes.args_long,
                sizes.slots_long,
              );
        }

  pub found : (calls : List (Activation Cells)) (backs : List ℕ) → AllSized procs calls →
      depth (shape procs) calls ≤ stack_limit → (x : Object) (o : ℕ) (h : Held) →
      word_at (words_of (shape procs) calls x) o ≡ Some h → Found procs backs calls x o h
  found [] backs sized deep x o h e = let w = word_is [] o h e in cc
  found (c ∷ calls) backs sized deep Data o h e = let w = word_is [] o h e in cc
  found (c ∷ calls) backs sized deep (Aggregates n sum) o h e =
      one (nat_eq n (length calls) && nat_eq sum (depth (shape procs) (c ∷ calls))) refl e
      (λ f. found calls (rest_of backs) sized.1 (omega (arith, deep)) (Aggregates n sum) o h f)
    where
      one : (b : Bool) → (nat_eq n (length calls) && nat_eq sum (depth (shape procs) (c ∷ calls))) ≡
          b → word_at (if b then c.aggregates else words_of (shape procs) calls (Aggregates n sum))
          o ≡ Some h →
          (word_at (words_of (shape procs) calls (Aggregates n sum)) o ≡ Some h →
          Found procs (rest_of backs) calls (Aggregates n sum) o h) →
          Found procs backs (c ∷ calls) (Aggregates n sum) o h
      one true t e rest =
          let both = and_true (nat_eq n (length calls))
          (nat_eq sum (depth (shape procs) (c ∷ calls))) t in
          let w = word_is c.aggregates o h e in
          in_aggregates c calls backs sized.0 (Aggregates n sum) o h n sum refl
          (same_is sum (depth (shape procs) (c ∷ calls)) both.1) deep w.0 w.1
      one false t e rest = below_it c calls backs sized.0 (Aggregates n sum) o h (rest e)
  found (c ∷ calls) backs sized deep (Cell n below k) o h e =
      one (nat_eq n (length calls) && nat_eq below (depth (shape procs) calls)) refl e
      (λ f. found calls (rest_of backs) sized.1 (omega (arith, deep)) (Cell n below k) o h f)
    where
      one : (b : Bool) → (nat_eq n (length calls) && nat_eq below (depth (shape procs) calls)) ≡ b →
          word_at (if b then (if is_home (shape procs c.proc) k then [] else cell_words
          (last_get c.args k)) else words_of (shape procs) calls (Cell n below k)) o ≡ Some h →
          (word_at (words_of (shape procs) calls (Cell n below k)) o ≡ Some h →
          Found procs (rest_of backs) calls (Cell n below k) o h) →
          Found procs backs (c ∷ calls) (Cell n below k) o h
      one true t e rest =
          let both = and_true (nat_eq n (length calls)) (nat_eq below (depth (shape procs) calls))
          t in
          let w = word_is (if is_home (shape procs c.proc) k then [] else cell_words
          (last_get c.args k)) o h e in
          let z = one_word (is_home (shape procs c.proc) k) (last_get c.args k) (o / 4) h w.1 in
          in_arguments c calls backs sized.0 (Cell n below k) o h n below k refl
          (same_is below (depth (shape procs) calls) both.1) deep w.0 z.0 z.1
      one false t e rest = below_it c calls backs sized.0 (Cell n below k) o h (rest e)

-- ---- it is loaded

module _ (procs : List LProc) (backs : List ℕ) (s : State Cells) (m : Machine)
    (y : Lies procs backs s.pushed s.top s.below s.globals m.regs m.stack m.storage)
    (waits : AllWait procs s.below backs) (few : length s.pushed ≤ 32) where
  abbrev all : Words
  all = s.pushed ++ frames procs backs (s.top ∷ s.below)

  -- in the stack
  loads_found : (x : Object) (o n : ℕ) → Found procs backs (s.top ∷ s.below) x o (Some (Num n)) →
      (k : ℕ) × (load m ((base_of x + o) % 2 ^ 32) ≡ Ok k) × Means (Num n) k
  loads_found x o n f =
      let long = length-append s.pushed (frames procs backs (s.top ∷ s.below)) in
      let mine = live_long procs s.top s.below backs y.sizes waits in
      let inside = get_inside (frames procs backs (s.top ∷ s.below)) f.cell (Some (Num n)) f.is in
      let at = length s.pushed + f.cell in
      let place : (base_of x + o) % 2 ^ 32 ≡ m.regs.esp + 4 * at =
      omega (arith, f.place, y.words.top, long, mine, y.deep, inside) in
      load_cell all m y.words (data_below procs backs s.pushed s.top s.below s.globals m y waits
      few) (few_words procs backs s.pushed s.top s.below s.globals m y waits few) at _
      (omega (arith, long, inside)) place (Some (Num n))
      (get_back s.pushed (frames procs backs (s.top ∷ s.below)) f.cell _ refl ∙ f.is)

  held_word : (o : Option Held) (n : ℕ) → number (joined o) ≡ Some n → o ≡ Some (Some (Num n))
  held_word None n e = cc
  held_word (Some h) n e = ap Some (number_is h n e)

  pub loads_object : (x : Object) (o n : ℕ) → number_in (shape procs) s x o ≡ Some n → (k : ℕ) ×
      (load m ((base_of x + o) % 2 ^ 32) ≡ Ok k) × Means (Num n) k
  loads_object Data o n e =
      let w = word_is s.globals o (Some (Num n)) (held_word (word_at s.globals o) n e) in
      let inside = get_inside s.globals (o / 4) (Some (Num n)) w.1 in
      let place : (data_base + o) % 2 ^ 32 ≡ data_base + 4 * (o / 4) =
      omega (arith, w.0, inside, y.data_few) in
      load_word s.globals m y.globals_hold y.data_long y.data_few (o / 4) _ inside place
      (Some (Num n)) w.1
  loads_object (Aggregates k sum) o n e =
      loads_found (Aggregates k sum) o n
      (found procs (s.top ∷ s.below) backs (y.sizes, all_sized procs s.below backs waits) y.deep
      (Aggregates k sum) o (Some (Num n))
      (held_word (word_at (words_of (shape procs) (s.top ∷ s.below) (Aggregates k sum)) o) n e))
  loads_object (Cell k below i) o n e =
      loads_found (Cell k below i) o n
      (found procs (s.top ∷ s.below) backs (y.sizes, all_sized procs s.below backs waits) y.deep
      (Cell k below i) o (Some (Num n))
      (held_word (word_at (words_of (shape procs) (s.top ∷ s.below) (Cell k below i)) o) n e))
