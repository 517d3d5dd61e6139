-- Words of a region that stand for what cells hold: one is read, one is written, and some come or
-- go at the front.
use Rattle.std.proofs.Common.{◌≡◌, ℕ, zero, suc, ◌+◌, ◌-◌, ◌*◌, ◌^◌, ◌≤◌, ◌<◌, List, [], ◌∷◌, ◌++◌}
use Rattle.std.proofs.Common.{length, Some, None, refl, sym, ap, ◌∙◌, subst, arith, inl, inr}
use Rattle.std.specs.Prelude.{Ok, slice_get, slice_set, replicate}
use Rattle.pra_list.proofs.Elements.{length_set}
use Rattle.ia_code.specs.Image.{max_data_words}
use Rattle.ia_code.specs.Regions.{data_base, stack_base, stack_length}
use Rattle.ia_step.specs.Effect.{load, store}
use Rattle.ia_step.specs.Memory.{word_in, with_word}
use Rattle.ia_step.specs.State.{State}
use Rattle.ia_step.proofs.Access.{load_data, store_data, load_stack, store_stack}
use Rattle.ia_step.proofs.MemoryWords.{length_put, word_put, word_other}
use Rattle.vc_code.specs.declared.value.Value.{Value}
use Rattle.vc_code.specs.declared.value.Value.TheVariants.{Num, At}
use Rattle.vc_code.specs.Value.{Held, Words}
use Rattle.ia_simulation.specs.Frames.{Means, Holds, WordsHold, Stacked}

pub means_word : (v : Value) (n : ℕ) → Means v n → n < 2 ^ 32
means_word (Num v) n m = omega (arith, m.0, m.1)
means_word (At x o) n m = omega (arith, m)

-- ---- words from a place on

pub hold_at : (cs : Words) (m : List ℕ) (a i : ℕ) (h : Held) → WordsHold cs m a → slice_get cs i ≡
    Some h → Holds h (word_in m (a + 4 * i))
hold_at [] m a i h all e = cc
hold_at (c ∷ cs) m a zero h all e =
    let same : c ≡ h = cc in
    let z : a + 4 * zero ≡ a = omega arith in
    subst (λ k. Holds h (word_in m k)) (sym z) (subst (λ c. Holds c (word_in m a)) same all.0)
hold_at (c ∷ cs) m a (suc i) h all e =
    let z : a + 4 + 4 * i ≡ a + 4 * suc i = omega arith in
    subst (λ k. Holds h (word_in m k)) z (hold_at cs m (a + 4) i h all.1 e)

-- a word that is written in front of them
pub hold_other : (cs : Words) (m : List ℕ) (a b n : ℕ) → b + 4 ≤ a → WordsHold cs m a →
    WordsHold cs (with_word m b n) a
hold_other [] m a b n l all = tt
hold_other (c ∷ cs) m a b n l all = (
  subst (Holds c) (sym (word_other m b n a (inr l))) all.0,
  hold_other cs m (a + 4) b n
      (omega (arith, l)) all.1,
)

written : (h : Held) (m : List ℕ) (a n : ℕ) → a + 4 ≤ length m → Holds h n →
    Holds h (word_in (with_word m a n) a)
written None m a n r f = tt
written (Some v) m a n r f = subst (Means v) (sym (word_put m a n r (means_word v n f))) f

-- one of them is written, and no other changes
pub hold_set : (cs : Words) (m : List ℕ) (a i : ℕ) (h : Held) (n : ℕ) → i < length cs →
    a + 4 * length cs ≤ length m → Holds h n → WordsHold cs m a → WordsHold (slice_set cs i h)
    (with_word m (a + 4 * i) n) a
hold_set [] m a i h n l r f all = absurd (omega (arith, l))
hold_set (c ∷ cs) m a zero h n l r f all =
    let z : a ≡ a + 4 * zero = omega arith in
    subst (λ k. WordsHold (h ∷ cs) (with_word m k n) a) z
    (written h m a n (omega (arith, r)) f, hold_other cs m (a + 4) a n (omega arith) all.1)
hold_set (c ∷ cs) m a (suc i) h n l r f all =
    let z : a + 4 + 4 * i ≡ a + 4 * suc i = omega arith in
    subst (λ k. WordsHold (c ∷ slice_set cs i h) (with_word m k n) a) z (
      subst (Holds c) (sym (word_other m (a + 4 + 4 * i) n a (inl (omega arith)))) all.0,
      hold_set cs m (a + 4) i h n (omega (arith, l)) (omega (arith, r)) f all.1,
    )

pub hold_push : (h : Held) (cs : Words) (m : List ℕ) (a n : ℕ) → a + 4 ≤ length m → Holds h n →
    WordsHold cs m (a + 4) → WordsHold (h ∷ cs) (with_word m a n) a
hold_push h cs m a n r f all = (written h m a n r f, hold_other cs m (a + 4) a n (omega arith) all)

pub hold_drop : (xs ys : Words) (m : List ℕ) (a : ℕ) → WordsHold (xs ++ ys) m a →
    WordsHold ys m (a + 4 * length xs)
hold_drop [] ys m a all = let z : a ≡ a + 4 * 0 = omega arith in subst (WordsHold ys m) z all
hold_drop (x ∷ xs) ys m a all = let z : a + 4 + 4 * length xs ≡ a + 4 * suc (length xs) =
    omega arith in subst (WordsHold ys m) z (hold_drop xs ys m (a + 4) all.1)

pub hold_nothing : (k : ℕ) (cs : Words) (m : List ℕ) (a : ℕ) → WordsHold cs m (a + 4 * k) →
    WordsHold (replicate k None ++ cs) m a
hold_nothing zero cs m a all = let z : a + 4 * zero ≡ a = omega arith in
    subst (WordsHold cs m) z all
hold_nothing (suc k) cs m a all = let z : a + 4 * suc k ≡ a + 4 + 4 * k = omega arith in
    (tt, hold_nothing k cs m (a + 4) (subst (WordsHold cs m) z all))

-- ---- places in two lists

pub get_front : {A : Type 0} (xs ys : List A) (i : ℕ) → i < length xs → slice_get (xs ++ ys) i ≡
    slice_get xs i
get_front [] ys i l = absurd (omega (arith, l))
get_front (x ∷ xs) ys zero l = refl
get_front (x ∷ xs) ys (suc i) l = get_front xs ys i (omega (arith, l))

pub get_back : {A : Type 0} (xs ys : List A) (i j : ℕ) → j ≡ length xs + i →
    slice_get (xs ++ ys) j ≡ slice_get ys i
get_back [] ys i j e = let z : j ≡ i = omega (arith, e) in ap (slice_get ys) z
get_back (x ∷ xs) ys i zero e = absurd (omega (arith, e))
get_back (x ∷ xs) ys i (suc j) e = get_back xs ys i j (omega (arith, e))

pub set_front : {A : Type 0} (xs ys : List A) (i : ℕ) (y : A) → i < length xs →
    slice_set (xs ++ ys) i y ≡ slice_set xs i y ++ ys
set_front [] ys i y l = absurd (omega (arith, l))
set_front (x ∷ xs) ys zero y l = refl
set_front (x ∷ xs) ys (suc i) y l = ap (λ zs. x ∷ zs) (set_front xs ys i y (omega (arith, l)))

pub set_back : {A : Type 0} (xs ys : List A) (i j : ℕ) (y : A) → j ≡ length xs + i →
    slice_set (xs ++ ys) j y ≡ xs ++ slice_set ys i y
set_back [] ys i j y e = let z : j ≡ i = omega (arith, e) in ap (λ k. slice_set ys k y) z
set_back (x ∷ xs) ys i zero y e = absurd (omega (arith, e))
set_back (x ∷ xs) ys i (suc j) y e = ap (λ zs. x ∷ zs) (set_back xs ys i j y (omega (arith, e)))

pub get_inside : {A : Type 0} (xs : List A) (i : ℕ) (y : A) → slice_get xs i ≡ Some y →
    i < length xs
get_inside [] i y e = cc
get_inside (x ∷ xs) zero y e = omega arith
get_inside (x ∷ xs) (suc i) y e = omega (arith, get_inside xs i y e)

-- ---- a word of the stack, and one of the data

module _ (cs : Words) (s : State) (stacked : Stacked cs s.regs.esp s.stack)
    (small : data_base + length s.storage ≤ stack_base) (few : 4 * length cs ≤ stack_length)
    (i a : ℕ) (inside : i < length cs) (place : a ≡ s.regs.esp + 4 * i) where
  low : stack_base ≤ a
  low = omega (arith, stacked.top, few, place)

  high : a + 4 ≤ stack_base + length s.stack
  high = omega (arith, stacked.top, stacked.long, inside, place)

  spot : s.regs.esp - stack_base + 4 * i ≡ a - stack_base
  spot = omega (arith, stacked.top, few, place)

  pub load_cell : (h : Held) → slice_get cs i ≡ Some h → (n : ℕ) × (load s a ≡ Ok n) × Holds h n
  load_cell h e = (
    word_in s.stack (a - stack_base),
    load_stack s a small low high,
    subst (λ b. Holds h (word_in s.stack b)) spot
        (hold_at cs s.stack (s.regs.esp - stack_base) i h stacked.held e),
  )

  pub store_cell : (h : Held) (n : ℕ) → Holds h n →
      (store s a n ≡ Ok (record s { stack = with_word s.stack (a - stack_base) n }))
      × Stacked (slice_set cs i h) s.regs.esp (with_word s.stack (a - stack_base) n)
  store_cell h n f = (
    store_stack s a small low high n,
    record {
      long = length_put s.stack (a - stack_base) n ∙ stacked.long;
      top = omega (arith, stacked.top, length_set cs i h);
      held =
          subst (λ b. WordsHold (slice_set cs i h) (with_word s.stack b n)
          (s.regs.esp - stack_base)) spot
          (hold_set cs s.stack (s.regs.esp - stack_base) i h n inside
          (omega (arith, stacked.top, stacked.long, few)) f stacked.held);
    },
  )

module _ (cs : Words) (s : State) (held : WordsHold cs s.storage 0)
    (long : length s.storage ≡ 4 * length cs) (few : length cs ≤ max_data_words) (i a : ℕ)
    (inside : i < length cs) (place : a ≡ data_base + 4 * i) where
  high_data : a + 4 ≤ data_base + length s.storage
  high_data = omega (arith, place, long, inside)

  spot_data : 0 + 4 * i ≡ a - data_base
  spot_data = omega (arith, place)

  pub load_word : (h : Held) → slice_get cs i ≡ Some h → (n : ℕ) × (load s a ≡ Ok n) × Holds h n
  load_word h e = (
    word_in s.storage (a - data_base),
    load_data s a (omega (arith, place)) high_data,
    subst (λ b. Holds h (word_in s.storage b)) spot_data (hold_at cs s.storage 0 i h held e),
  )

  pub store_word : (h : Held) (n : ℕ) → Holds h n →
      (store s a n ≡ Ok (record s { storage = with_word s.storage (a - data_base) n }))
      × WordsHold (slice_set cs i h) (with_word s.storage (a - data_base) n) 0
  store_word h n f = (
    store_data s a (omega (arith, place)) high_data n,
    subst (λ b. WordsHold (slice_set cs i h) (with_word s.storage b n) 0) spot_data
        (hold_set cs s.storage 0 i h n inside (omega (arith, long)) f held),
  )
