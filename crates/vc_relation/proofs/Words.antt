-- A word of an object that is written: it holds what was written, and every other word, and every
-- variable, holds what it held.
use Rattle.std.proofs.Common.{◌≡◌, ℕ, zero, suc, ◌+◌, ◌-◌, ◌<◌, Bool, true, false, List, [], ◌∷◌}
use Rattle.std.proofs.Common.{length, map, Option, Some, None, refl, sym, ap, ◌∙◌, arith, ⊎_elim}
use Rattle.std.specs.Prelude.{slice_get, slice_set, nat_eq, nat_lt, if◌then◌else◌, ◌&&◌}
use Rattle.std.proofs.lemmas.Bool.{ltb-true, lt-ltb, eqb-true, cases_eq}
use Rattle.std.proofs.lemmas.List.{length-set}
use Rattle.pra_list.proofs.Options.{none_some}
use Rattle.pra_list.proofs.Choices.{and_true, by_test}
use Rattle.vc_code.specs.declared.value.Object.{Object}
use Rattle.vc_code.specs.declared.value.Object.TheVariants.{Data, Aggregates, Cell}
use Rattle.vc_code.specs.Value.{Held, Words}
use Rattle.vc_code.specs.Machine.{Shape, Activation, State, depth, is_home, last_get, last_set}
use Rattle.vc_code.specs.Machine.{cell_words, cell, words_of, with_aggregate, with_argument}
use Rattle.vc_code.specs.Machine.{calls_with, with_calls, with_object, live_in, object}

-- ---- lists

pub get-set : {X : Type 0} (xs : List X) (i : ℕ) (old new : X) → slice_get xs i ≡ Some old →
    slice_get (slice_set xs i new) i ≡ Some new
get-set [] i old new e = absurd (none_some e)
get-set (x ∷ xs) zero old new e = refl
get-set (x ∷ xs) (suc i) old new e = get-set xs i old new e

pub get-set_other : {X : Type 0} (xs : List X) (i j : ℕ) (new : X) → (j ≡ i → ⊥) →
    slice_get (slice_set xs i new) j ≡ slice_get xs j
get-set_other [] i j new d = refl
get-set_other (x ∷ xs) zero zero new d = absurd (d refl)
get-set_other (x ∷ xs) zero (suc j) new d = refl
get-set_other (x ∷ xs) (suc i) zero new d = refl
get-set_other (x ∷ xs) (suc i) (suc j) new d = get-set_other xs i j new (λ e. d (ap suc e))

-- the only word of a cell
cell_word : (o : Option Held) (w : ℕ) (old : Held) → slice_get (cell_words o) w ≡ Some old →
    (w ≡ 0) × (o ≡ Some old)
cell_word None w old e = absurd (none_some e)
cell_word (Some h) zero old e = (refl, e)
cell_word (Some h) (suc w) old e = absurd (none_some e)

last_within : (words : Words) (i : ℕ) (old : Held) → last_get words i ≡ Some old → i < length words
last_within words i old e =
    by_test (nat_lt i (length words)) (slice_get words (length words - 1 - i)) None (Some old)
    (λ t at. ltb-true i (length words) t) (λ t at. absurd (none_some at)) e

last_at : (words : Words) (i : ℕ) → i < length words → last_get words i ≡
    slice_get words (length words - 1 - i)
last_at words i lt = ap (λ b. if b then slice_get words (length words - 1 - i) else None)
    (lt-ltb i (length words) lt)

last_get-set : (words : Words) (i : ℕ) (old new : Held) → last_get words i ≡ Some old →
    last_get (last_set words i new) i ≡ Some new
last_get-set words i old new e =
    let lt = last_within words i old e in
    let n : length (last_set words i new) ≡ length words =
    length-set words (length words - 1 - i) new in
    last_at (last_set words i new) i (omega (arith, lt, n))
    ∙ ap (λ m. slice_get (last_set words i new) (m - 1 - i)) n
    ∙ get-set words (length words - 1 - i) old new (sym (last_at words i lt) ∙ e)

last_get-set_other : (words : Words) (i j : ℕ) (new : Held) → i < length words → (j ≡ i → ⊥) →
    last_get (last_set words i new) j ≡ last_get words j
last_get-set_other words i j new lt d =
    let n : length (last_set words i new) ≡ length words =
    length-set words (length words - 1 - i) new in
    ap (λ m. if nat_lt j m then slice_get (last_set words i new) (m - 1 - j) else None) n
    ∙ by_place (nat_lt j (length words)) refl
  where
    by_place : (b : Bool) → nat_lt j (length words) ≡ b →
        (if b then slice_get (last_set words i new) (length words - 1 - j) else None) ≡
        (if b then slice_get words (length words - 1 - j) else None)
    by_place true t = get-set_other words (length words - 1 - i) (length words - 1 - j) new
        (λ e. d (omega (arith, e, lt, ltb-true j (length words) t)))
    by_place false t = refl

same_names : (a b c d m n : ℕ) → (nat_eq a m && nat_eq b c) ≡ true → (nat_eq n m && nat_eq d c) ≡
    true → (n ≡ a) × (d ≡ b)
same_names a b c d m n one other =
    let p = and_true (nat_eq a m) (nat_eq b c) one in
    let q = and_true (nat_eq n m) (nat_eq d c) other in
    (eqb-true n m q.0 ∙ sym (eqb-true a m p.0), eqb-true d c q.1 ∙ sym (eqb-true b c p.1))

module _ {H : Type 0} (shape : ℕ → Shape) where
  -- ---- an object of one call

  -- an object is of this call
  abbrev pub named : Object → Activation H → List (Activation H) → Bool
  named Data c calls = false
  named (Aggregates n sum) c calls = nat_eq n (length calls) && nat_eq sum (depth shape (c ∷ calls))
  named (Cell n below i) c calls = nat_eq n (length calls) && nat_eq below (depth shape calls)

  abbrev own : Object → Activation H → Words
  own Data c = []
  own (Aggregates n sum) c = c.aggregates
  own (Cell n below i) c = cell shape c i

  abbrev pub put_in : Object → ℕ → Held → Activation H → Activation H
  put_in Data w h c = c
  put_in (Aggregates n sum) w h c = with_aggregate c w h
  put_in (Cell n below i) w h c = with_argument c i h

  no_data : (calls : List (Activation H)) → words_of shape calls Data ≡ []
  no_data [] = refl
  no_data (c ∷ calls) = refl

  data_stays : (calls : List (Activation H)) (w : ℕ) (h : Held) → calls_with shape calls Data w h ≡
      calls
  data_stays [] w h = refl
  data_stays (c ∷ calls) w h = refl

  words_cons : (y : Object) (c : Activation H) (calls : List (Activation H)) →
      words_of shape (c ∷ calls) y ≡ (if named y c calls then own y c else words_of shape calls y)
  words_cons Data c calls = sym (no_data calls)
  words_cons (Aggregates n sum) c calls = refl
  words_cons (Cell n below i) c calls = refl

  pub with_cons : (x : Object) (w : ℕ) (h : Held) (c : Activation H) (calls : List (Activation H)) →
      calls_with shape (c ∷ calls) x w h ≡
      (if named x c calls then put_in x w h c ∷ calls else c ∷ calls_with shape calls x w h)
  with_cons Data w h c calls = ap (λ cs. c ∷ cs) (sym (data_stays calls w h))
  with_cons (Aggregates n sum) w h c calls = refl
  with_cons (Cell n below i) w h c calls = refl

  own_same : (x : Object) (w : ℕ) (h old : Held) (c : Activation H) → slice_get (own x c) w ≡
      Some old → slice_get (own x (put_in x w h c)) w ≡ Some h
  own_same Data w h old c e = absurd (none_some e)
  own_same (Aggregates n sum) w h old c e = get-set c.aggregates w old h e
  own_same (Cell n below i) w h old c e = by_home (is_home (shape c.proc) i) e
    where
      by_home : (b : Bool) → slice_get (if b then [] else cell_words (last_get c.args i)) w ≡
          Some old → slice_get (if b then [] else cell_words (last_get (last_set c.args i h) i)) w ≡
          Some h
      by_home true d = absurd (none_some d)
      by_home false d =
          let known = cell_word (last_get c.args i) w old d in
          ap (slice_get (cell_words (last_get (last_set c.args i h) i))) known.0
          ∙ ap (λ o. slice_get (cell_words o) 0) (last_get-set c.args i old h known.1)

  module _ (w : ℕ) (h old : Held) (k : ℕ) (c : Activation H) (calls : List (Activation H)) where
    own_other : (x y : Object) → named x c calls ≡ true → named y c calls ≡ true →
        slice_get (own x c) w ≡ Some old → (y ≡ x → k ≡ w → ⊥) →
        slice_get (own y (put_in x w h c)) k ≡ slice_get (own y c) k
    own_other Data y one other e d = refl
    own_other (Aggregates n sum) Data one other e d = refl
    own_other (Aggregates n sum) (Cell m below i) one other e d = refl
    own_other (Aggregates n sum) (Aggregates m sum') one other e d =
        let same = same_names n sum (depth shape (c ∷ calls)) sum' (length calls) m one other in
        get-set_other c.aggregates w k h
        (d (ap (λ z. Aggregates z sum') same.0 ∙ ap (Aggregates n) same.1))
    own_other (Cell n below i) Data one other e d = refl
    own_other (Cell n below i) (Aggregates m sum) one other e d = refl
    own_other (Cell n below i) (Cell m below' j) one other e d =
        let same = same_names n below (depth shape calls) below' (length calls) m one other in
        by_home (is_home (shape c.proc) i) refl (is_home (shape c.proc) j) refl e
        (λ at. d (ap (λ z. Cell z below' j) same.0 ∙ ap (λ z. Cell n z j) same.1
        ∙ ap (Cell n below) at))
      where
        past : (o : Option Held) (k : ℕ) → (k ≡ 0 → ⊥) → slice_get (cell_words o) k ≡ None
        past None k d = refl
        past (Some z) zero d = absurd (d refl)
        past (Some z) (suc k) d = refl

        by_home : (a : Bool) → is_home (shape c.proc) i ≡ a → (b : Bool) →
            is_home (shape c.proc) j ≡ b →
            slice_get (if a then [] else cell_words (last_get c.args i)) w ≡ Some old →
            (j ≡ i → k ≡ w → ⊥) →
            slice_get (if b then [] else cell_words (last_get (last_set c.args i h) j)) k ≡
            slice_get (if b then [] else cell_words (last_get c.args j)) k
        by_home true ea b eb e d = absurd (none_some e)
        by_home false ea true eb e d = refl
        by_home false ea false eb e d =
            let known = cell_word (last_get c.args i) w old e in
            ⊎_elim
            (λ (at : j ≡ i). let far : k ≡ 0 → ⊥ = λ z. d at (z ∙ sym known.0) in
            past (last_get (last_set c.args i h) j) k far
            ∙ sym (past (last_get c.args j) k far))
            (λ (off : j ≡ i → ⊥). ap (λ o. slice_get (cell_words o) k)
            (last_get-set_other c.args i j h (last_within c.args i old known.1) off))
            (cases_eq j i)

  named_put : (x y : Object) (w : ℕ) (h : Held) (c : Activation H) (calls : List (Activation H)) →
      named y (put_in x w h c) calls ≡ named y c calls
  named_put Data y w h c calls = refl
  named_put (Aggregates n sum) Data w h c calls = refl
  named_put (Aggregates n sum) (Aggregates m sum') w h c calls = refl
  named_put (Aggregates n sum) (Cell m below i) w h c calls = refl
  named_put (Cell n below i) Data w h c calls = refl
  named_put (Cell n below i) (Aggregates m sum') w h c calls = refl
  named_put (Cell n below i) (Cell m below' j) w h c calls = refl

  proc_put : (x : Object) (w : ℕ) (h : Held) (c : Activation H) → (put_in x w h c).proc ≡ c.proc
  proc_put Data w h c = refl
  proc_put (Aggregates n sum) w h c = refl
  proc_put (Cell n below i) w h c = refl

  pub home_put : (x : Object) (w : ℕ) (h : Held) (c : Activation H) → (put_in x w h c).home ≡ c.home
  home_put Data w h c = refl
  home_put (Aggregates n sum) w h c = refl
  home_put (Cell n below i) w h c = refl

  -- ---- all calls

  module _ (x : Object) (w : ℕ) (h : Held) where
    -- the calls after the write, by whether the first one has the object
    abbrev after : Bool → Activation H → List (Activation H) → List (Activation H)
    after b c calls = if b then put_in x w h c ∷ calls else c ∷ calls_with shape calls x w h

    pub same_procs : (calls : List (Activation H)) →
        map (λ c. c.proc) (calls_with shape calls x w h) ≡ map (λ c. c.proc) calls
    same_procs [] = refl
    same_procs (c ∷ calls) = ap (map (λ c. c.proc)) (with_cons x w h c calls)
        ∙ by_name (same_procs calls) (named x c calls)
      where
        by_name : map (λ c. c.proc) (calls_with shape calls x w h) ≡ map (λ c. c.proc) calls →
            (b : Bool) → map (λ c. c.proc) (after b c calls) ≡ c.proc ∷ map (λ c. c.proc) calls
        by_name more true = ap (λ p. p ∷ map (λ c. c.proc) calls) (proc_put x w h c)
        by_name more false = ap (λ ps. c.proc ∷ ps) more

    pub same_length : (calls : List (Activation H)) → length (calls_with shape calls x w h) ≡
        length calls
    same_length [] = refl
    same_length (c ∷ calls) = ap (λ cs. length cs) (with_cons x w h c calls)
        ∙ by_name (same_length calls) (named x c calls)
      where
        by_name : length (calls_with shape calls x w h) ≡ length calls → (b : Bool) →
            length (after b c calls) ≡ suc (length calls)
        by_name more true = refl
        by_name more false = ap suc more

    same_depth : (calls : List (Activation H)) → depth shape (calls_with shape calls x w h) ≡
        depth shape calls
    same_depth [] = refl
    same_depth (c ∷ calls) = ap (depth shape) (with_cons x w h c calls) ∙ by_name (same_depth calls)
        (named x c calls)
      where
        by_name : depth shape (calls_with shape calls x w h) ≡ depth shape calls → (b : Bool) →
            depth shape (after b c calls) ≡ (shape c.proc).frame_size + depth shape calls
        by_name more true = ap (λ p. (shape p).frame_size + depth shape calls) (proc_put x w h c)
        by_name more false = ap (λ n. (shape c.proc).frame_size + n) more

    named_after : (y : Object) (c : Activation H) (calls : List (Activation H)) →
        named y c (calls_with shape calls x w h) ≡ named y c calls
    named_after Data c calls = refl
    named_after (Aggregates n sum) c calls =
        ap (λ m. nat_eq n m && nat_eq sum
        ((shape c.proc).frame_size + depth shape (calls_with shape calls x w h)))
        (same_length calls)
        ∙ ap (λ m. nat_eq n (length calls) && nat_eq sum ((shape c.proc).frame_size + m))
        (same_depth calls)
    named_after (Cell n below i) c calls =
        ap (λ m. nat_eq n m && nat_eq below (depth shape (calls_with shape calls x w h)))
        (same_length calls)
        ∙ ap (λ m. nat_eq n (length calls) && nat_eq below m) (same_depth calls)

    module _ (old : Held) where
      pub written_word : (calls : List (Activation H)) → slice_get (words_of shape calls x) w ≡
          Some old → slice_get (words_of shape (calls_with shape calls x w h) x) w ≡ Some h
      written_word [] e = absurd (none_some e)
      written_word (c ∷ calls) e =
          ap (λ cs. slice_get (words_of shape cs x) w) (with_cons x w h c calls)
          ∙ by_name (λ there. written_word calls there) (named x c calls) refl
          (sym (ap (λ ws. slice_get ws w) (words_cons x c calls)) ∙ e)
        where
          by_name : (slice_get (words_of shape calls x) w ≡ Some old →
              slice_get (words_of shape (calls_with shape calls x w h) x) w ≡ Some h) → (b : Bool) →
              named x c calls ≡ b → slice_get (if b then own x c else words_of shape calls x) w ≡
              Some old → slice_get (words_of shape (after b c calls) x) w ≡ Some h
          by_name more true is there =
              ap (λ ws. slice_get ws w) (words_cons x (put_in x w h c) calls)
              ∙ ap (λ b. slice_get (if b then own x (put_in x w h c) else words_of shape calls x) w)
              (named_put x x w h c calls ∙ is)
              ∙ own_same x w h old c there
          by_name more false is there =
              ap (λ ws. slice_get ws w) (words_cons x c (calls_with shape calls x w h))
              ∙ ap (λ b. slice_get (if b then own x c else words_of shape
              (calls_with shape calls x w h) x) w) (named_after x c calls ∙ is)
              ∙ more there

      pub other_word : (calls : List (Activation H)) (y : Object) (k : ℕ) →
          slice_get (words_of shape calls x) w ≡ Some old → (y ≡ x → k ≡ w → ⊥) →
          slice_get (words_of shape (calls_with shape calls x w h) y) k ≡
          slice_get (words_of shape calls y) k
      other_word [] y k e d = refl
      other_word (c ∷ calls) y k e d =
          ap (λ cs. slice_get (words_of shape cs y) k) (with_cons x w h c calls)
          ∙ by_name (λ there. other_word calls y k there d) (named x c calls) refl (named y c calls)
          refl (sym (ap (λ ws. slice_get ws w) (words_cons x c calls)) ∙ e)
          ∙ sym (ap (λ ws. slice_get ws k) (words_cons y c calls))
        where
          by_name : (slice_get (words_of shape calls x) w ≡ Some old →
              slice_get (words_of shape (calls_with shape calls x w h) y) k ≡
              slice_get (words_of shape calls y) k) → (a : Bool) → named x c calls ≡ a →
              (b : Bool) → named y c calls ≡ b →
              slice_get (if a then own x c else words_of shape calls x) w ≡ Some old →
              slice_get (words_of shape (after a c calls) y) k ≡
              slice_get (if named y c calls then own y c else words_of shape calls y) k
          by_name more true is true as_well there =
              ap (λ ws. slice_get ws k) (words_cons y (put_in x w h c) calls)
              ∙ ap (λ b. slice_get (if b then own y (put_in x w h c) else words_of shape calls y) k)
              (named_put x y w h c calls ∙ as_well)
              ∙ own_other w h old k c calls x y is as_well there d
              ∙ sym (ap (λ b. slice_get (if b then own y c else words_of shape calls y) k) as_well)
          by_name more true is false as_well there =
              ap (λ ws. slice_get ws k) (words_cons y (put_in x w h c) calls)
              ∙ ap (λ b. slice_get (if b then own y (put_in x w h c) else words_of shape calls y) k)
              (named_put x y w h c calls ∙ as_well)
              ∙ sym (ap (λ b. slice_get (if b then own y c else words_of shape calls y) k) as_well)
          by_name more false is b as_well there =
              ap (λ ws. slice_get ws k) (words_cons y c (calls_with shape calls x w h))
              ∙ ap (λ b. slice_get (if b then own y c else words_of shape
              (calls_with shape calls x w h) y) k) (named_after y c calls)
              ∙ by_other (named y c calls)
            where
              by_other : (b : Bool) → slice_get
                  (if b then own y c else words_of shape (calls_with shape calls x w h) y) k ≡
                  slice_get (if b then own y c else words_of shape calls y) k
              by_other true = refl
              by_other false = more there

  -- ---- the state

  live_with : (s : State H) (n : ℕ) (calls : List (Activation H)) → length calls ≡ suc n →
      live_in (with_calls s calls) ≡ calls
  live_with s n [] e = absurd (omega (arith, e))
  live_with s n (c ∷ calls) e = refl

  globals_with : (s : State H) (calls : List (Activation H)) → (with_calls s calls).globals ≡
      s.globals
  globals_with s [] = refl
  globals_with s (c ∷ calls) = refl

  pub live_after : (s : State H) (x : Object) (w : ℕ) (h : Held) →
      live_in (with_object shape s x w h) ≡ calls_with shape (live_in s) x w h
  live_after s Data w h = refl
  live_after s (Aggregates n sum) w h = live_with s (length s.below) _
      (same_length (Aggregates n sum) w h (s.top ∷ s.below))
  live_after s (Cell n below i) w h = live_with s (length s.below) _
      (same_length (Cell n below i) w h (s.top ∷ s.below))

  module _ (s : State H) (w : ℕ) (h old : Held) where
    pub written_object : (x : Object) → slice_get (object shape s x) w ≡ Some old →
        slice_get (object shape (with_object shape s x w h) x) w ≡ Some h
    written_object Data e = get-set s.globals w old h e
    written_object (Aggregates n sum) e =
        ap (λ cs. slice_get (words_of shape cs (Aggregates n sum)) w)
        (live_after s (Aggregates n sum) w h) ∙ written_word (Aggregates n sum) w h old
        (live_in s) e
    written_object (Cell n below i) e =
        ap (λ cs. slice_get (words_of shape cs (Cell n below i)) w)
        (live_after s (Cell n below i) w h) ∙ written_word (Cell n below i) w h old
        (live_in s) e

    pub other_object : (x y : Object) (k : ℕ) → slice_get (object shape s x) w ≡ Some old →
        (y ≡ x → k ≡ w → ⊥) →
        slice_get (object shape (with_object shape s x w h) y) k ≡ slice_get (object shape s y) k
    other_object Data Data k e d = get-set_other s.globals w k h (d refl)
    other_object Data (Aggregates n sum) k e d = refl
    other_object Data (Cell n below i) k e d = refl
    other_object (Aggregates n sum) Data k e d =
        ap (λ ws. slice_get ws k)
        (globals_with s (calls_with shape (s.top ∷ s.below) (Aggregates n sum) w h))
    other_object (Cell n below i) Data k e d =
        ap (λ ws. slice_get ws k)
        (globals_with s (calls_with shape (s.top ∷ s.below) (Cell n below i) w h))
    other_object (Aggregates n sum) (Aggregates m sum') k e d =
        ap (λ cs. slice_get (words_of shape cs (Aggregates m sum')) k)
        (live_after s (Aggregates n sum) w h) ∙ other_word (Aggregates n sum) w h old
        (live_in s) (Aggregates m sum') k e d
    other_object (Aggregates n sum) (Cell m below i) k e d =
        ap (λ cs. slice_get (words_of shape cs (Cell m below i)) k)
        (live_after s (Aggregates n sum) w h) ∙ other_word (Aggregates n sum) w h old
        (live_in s) (Cell m below i) k e d
    other_object (Cell n below i) (Aggregates m sum) k e d =
        ap (λ cs. slice_get (words_of shape cs (Aggregates m sum)) k)
        (live_after s (Cell n below i) w h) ∙ other_word (Cell n below i) w h old (live_in s)
        (Aggregates m sum) k e d
    other_object (Cell n below i) (Cell m below' j) k e d =
        ap (λ cs. slice_get (words_of shape cs (Cell m below' j)) k)
        (live_after s (Cell n below i) w h) ∙ other_word (Cell n below i) w h old (live_in s)
        (Cell m below' j) k e d
