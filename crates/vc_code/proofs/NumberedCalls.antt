-- Live calls by number, the body's 0: what objects hold, and what a written word leaves, where the
-- calls stand in a list with the body first.
use Rattle.std.proofs.Common.{◌≡◌, ℕ, zero, suc, ◌<◌, Bool, true, false, List, [], ◌∷◌, ◌++◌}
use Rattle.std.proofs.Common.{length, reverse, take, Option, Some, None, nat_eq, if◌then◌else◌}
use Rattle.std.proofs.Common.{refl, sym, ap, ◌∙◌, subst, arith, slice_get, slice_set}
use Rattle.std.specs.Prelude.{◌&&◌}
use Rattle.std.proofs.lemmas.List.{reverse-append, reverse-reverse, length-reverse, take_all}
use Rattle.std.proofs.lemmas.List.{take-append-le, set-append_left}
use Rattle.std.proofs.Math.Seq.{set-append_seam}
use Rattle.std.proofs.lemmas.Bool.Decides.{nat_tests}
use Rattle.std.proofs.lemmas.Option.{slice_get_past, slice_get_within}
use Rattle.vc_code.specs.declared.value.Object.TheVariants.{Aggregates, Cell}
use Rattle.vc_code.specs.Value.{Held, Words}
use Rattle.vc_code.specs.Machine.{Shape, Activation, depth, words_of, calls_with, cell}
use Rattle.vc_code.specs.Machine.{with_aggregates, with_args, last_set}
use Rattle.vc_code.specs.Numbered.{on_call, has_sum, has_below}

-- ---- lists

pub from_last : {X : Type 0} (P : List X → Type 0) → P [] →
    ((xs : List X) (x : X) → P xs → P (xs ++ x ∷ [])) → (xs : List X) → P xs
from_last {X} P none more xs = subst P (reverse-reverse xs) (go (reverse xs))
  where
    go : (ys : List X) → P (reverse ys)
    go [] = none
    go (y ∷ ys) = subst P (sym (reverse-append (y ∷ []) ys)) (more (reverse ys) y (go ys))

pub get-push : {X : Type 0} (xs : List X) (y : X) (n : ℕ) → slice_get (xs ++ y ∷ []) n ≡
    (if nat_eq n (length xs) then Some y else slice_get xs n)
get-push [] y zero = refl
get-push [] y (suc n) = let e : nat_eq (suc n) 0 ≡ false = grind (arith, nat_tests) in
    ap (λ b. if b then Some y else None) (sym e)
get-push (x ∷ xs) y zero = let e : nat_eq 0 (suc (length xs)) ≡ false = grind (arith, nat_tests) in
    ap (λ b. if b then Some y else Some x) (sym e)
get-push (x ∷ xs) y (suc n) =
    let e : nat_eq n (length xs) ≡ nat_eq (suc n) (suc (length xs)) = grind (arith, nat_tests) in
    get-push xs y n ∙ ap (λ b. if b then Some y else slice_get xs n) e

-- ---- a call that is sought from the latest on

module _ {H : Type 0} (T : Activation H → List (Activation H) → Bool) where
  abbrev sought : (Activation H → Words) → ℕ → List (Activation H) → Words
  sought W n [] = []
  sought W n (c ∷ calls) = if nat_eq n (length calls) && T c calls then W c else sought W n calls

  abbrev changed : (Activation H → Activation H) → ℕ → List (Activation H) → List (Activation H)
  changed F n [] = []
  changed F n (c ∷ calls) = if nat_eq n (length calls) && T c calls then F c ∷ calls else
      c ∷ changed F n calls

  count : (xs : List (Activation H)) (n : ℕ) (b : Bool) → nat_eq n (length xs) ≡ b →
      nat_eq n (length (reverse xs)) ≡ b
  count xs n b e = ap (nat_eq n) (length-reverse xs) ∙ e

  -- of one call more, what is below the others is the same
  same_below : (xs : List (Activation H)) (c d : Activation H) (n : ℕ) → slice_get xs n ≡ Some d →
      take n (xs ++ c ∷ []) ≡ take n xs
  same_below xs c d n there = let w : n < length xs = slice_get_within xs n d there in
      take-append-le n xs (c ∷ []) (omega (arith, w))

  all_below : (xs : List (Activation H)) (c : Activation H) (n : ℕ) → n ≡ length xs →
      take n (xs ++ c ∷ []) ≡ xs
  all_below xs c n is = take-append-le n xs (c ∷ []) (omega (arith, is))
      ∙ take_all n xs (omega (arith, is))

  module _ (W : Activation H → Words) (n : ℕ) where
    abbrev IsSought : List (Activation H) → Type 0
    IsSought calls = sought W n (reverse calls) ≡ on_call [] (slice_get calls n)
        (λ d. if T d (reverse (take n calls)) then W d else [])

    past : (xs : List (Activation H)) → IsSought xs → n ≡ length xs → sought W n (reverse xs) ≡ []
    past xs is last = is ∙ ap (λ o. on_call [] o
        (λ d. if T d (reverse (take n xs)) then W d else []))
        (slice_get_past xs n (omega (arith, last)))

    earlier : (xs : List (Activation H)) (c : Activation H) (o : Option (Activation H)) →
        slice_get xs n ≡ o →
        on_call [] o (λ d. if T d (reverse (take n xs)) then W d else []) ≡
        on_call [] o (λ d. if T d (reverse (take n (xs ++ c ∷ []))) then W d else [])
    earlier xs c None there = refl
    earlier xs c (Some d) there = ap (λ l. if T d (reverse l) then W d else [])
        (sym (same_below xs c d n there))

    one_more : (xs : List (Activation H)) (c : Activation H) (b : Bool) → nat_eq n (length xs) ≡ b →
        IsSought xs →
        (if b && T c (reverse xs) then W c else sought W n (reverse xs)) ≡
        on_call [] (if b then Some c else slice_get xs n)
        (λ d. if T d (reverse (take n (xs ++ c ∷ []))) then W d else [])
    one_more xs c true e is =
        let last : n ≡ length xs = grind (arith, nat_tests) in
        ap (λ ws. if T c (reverse xs) then W c else ws) (past xs is last)
        ∙ ap (λ l. if T c (reverse l) then W c else []) (sym (all_below xs c n last))
    one_more xs c false e is = is ∙ earlier xs c (slice_get xs n) refl

    pub is_sought : (calls : List (Activation H)) → IsSought calls
    is_sought calls = from_last IsSought refl (λ xs c is.
        ap (sought W n) (reverse-append xs (c ∷ []))
        ∙ ap (λ b. if b && T c (reverse xs) then W c else sought W n (reverse xs))
        (count xs n (nat_eq n (length xs)) refl)
        ∙ one_more xs c (nat_eq n (length xs)) refl is
        ∙ ap (λ o. on_call [] o (λ d. if T d (reverse (take n (xs ++ c ∷ []))) then W d else []))
        (sym (get-push xs c n))) calls

  module _ (F : Activation H → Activation H) (n : ℕ) where
    abbrev put_at : List (Activation H) → Activation H → List (Activation H)
    put_at calls d = if T d (reverse (take n calls)) then slice_set calls n (F d) else calls

    abbrev IsChanged : List (Activation H) → Type 0
    IsChanged calls = changed F n (reverse calls) ≡
        reverse (on_call calls (slice_get calls n) (put_at calls))

    past_changed : (xs : List (Activation H)) → IsChanged xs → n ≡ length xs →
        changed F n (reverse xs) ≡ reverse xs
    past_changed xs is last = is ∙ ap (λ o. reverse (on_call xs o (put_at xs)))
        (slice_get_past xs n (omega (arith, last)))

    set_last : (xs : List (Activation H)) (c d : Activation H) → n ≡ length xs →
        reverse (slice_set (xs ++ c ∷ []) n d) ≡ d ∷ reverse xs
    set_last xs c d last =
        ap (λ i. reverse (slice_set (xs ++ c ∷ []) i d)) last
        ∙ ap reverse (set-append_seam xs c [] d) ∙ reverse-append xs (d ∷ [])

    set_earlier : (xs : List (Activation H)) (c d e : Activation H) → slice_get xs n ≡ Some e →
        reverse (slice_set (xs ++ c ∷ []) n d) ≡ c ∷ reverse (slice_set xs n d)
    set_earlier xs c d e there =
        let w : n < length xs = slice_get_within xs n e there in
        ap reverse (set-append_left xs (c ∷ []) n d w) ∙ reverse-append (slice_set xs n d) (c ∷ [])

    last_changed : (xs : List (Activation H)) (c : Activation H) (t : Bool) → n ≡ length xs →
        changed F n (reverse xs) ≡ reverse xs →
        (if t then F c ∷ reverse xs else c ∷ changed F n (reverse xs)) ≡
        reverse (if t then slice_set (xs ++ c ∷ []) n (F c) else xs ++ c ∷ [])
    last_changed xs c true last same = sym (set_last xs c (F c) last)
    last_changed xs c false last same = ap (λ ys. c ∷ ys) same ∙ sym (reverse-append xs (c ∷ []))

    earlier_put : (xs : List (Activation H)) (c d : Activation H) (t : Bool) → slice_get xs n ≡
        Some d →
        c ∷ reverse (if t then slice_set xs n (F d) else xs) ≡
        reverse (if t then slice_set (xs ++ c ∷ []) n (F d) else xs ++ c ∷ [])
    earlier_put xs c d true there = sym (set_earlier xs c (F d) d there)
    earlier_put xs c d false there = sym (reverse-append xs (c ∷ []))

    earlier_changed : (xs : List (Activation H)) (c : Activation H) (o : Option (Activation H)) →
        slice_get xs n ≡ o →
        c ∷ reverse (on_call xs o (put_at xs)) ≡
        reverse (on_call (xs ++ c ∷ []) o (put_at (xs ++ c ∷ [])))
    earlier_changed xs c None there = sym (reverse-append xs (c ∷ []))
    earlier_changed xs c (Some d) there =
        earlier_put xs c d (T d (reverse (take n xs))) there
        ∙ ap (λ l. reverse (if T d (reverse l) then slice_set (xs ++ c ∷ []) n (F d) else xs
        ++ c ∷ [])) (sym (same_below xs c d n there))

    one_more_changed : (xs : List (Activation H)) (c : Activation H) (b : Bool) →
        nat_eq n (length xs) ≡ b → IsChanged xs →
        (if b && T c (reverse xs) then F c ∷ reverse xs else c ∷ changed F n (reverse xs)) ≡
        reverse (on_call (xs ++ c ∷ []) (if b then Some c else slice_get xs n)
        (put_at (xs ++ c ∷ [])))
    one_more_changed xs c true e is =
        let last : n ≡ length xs = grind (arith, nat_tests) in
        last_changed xs c (T c (reverse xs)) last (past_changed xs is last)
        ∙ ap (λ l. reverse (if T c (reverse l) then slice_set (xs ++ c ∷ []) n (F c) else xs
        ++ c ∷ [])) (sym (all_below xs c n last))
    one_more_changed xs c false e is = ap (λ ys. c ∷ ys) is ∙ earlier_changed xs c (slice_get xs n)
        refl

    pub is_changed : (calls : List (Activation H)) → IsChanged calls
    is_changed calls = from_last IsChanged refl (λ xs c is.
        ap (changed F n) (reverse-append xs (c ∷ []))
        ∙ ap (λ b. if b && T c (reverse xs) then F c ∷ reverse xs else c ∷ changed F n (reverse xs))
        (count xs n (nat_eq n (length xs)) refl)
        ∙ one_more_changed xs c (nat_eq n (length xs)) refl is
        ∙ ap (λ o. reverse (on_call (xs ++ c ∷ []) o (put_at (xs ++ c ∷ []))))
        (sym (get-push xs c n))) calls

-- ---- objects

module _ {H : Type 0} (shape : ℕ → Shape) where
  as_sought : (n sum : ℕ) (calls : List (Activation H)) → words_of shape calls (Aggregates n sum) ≡
      sought (has_sum shape sum) (λ c. c.aggregates) n calls
  as_sought n sum [] = refl
  as_sought n sum (c ∷ calls) =
      ap (λ ws. if nat_eq n (length calls) && nat_eq sum (depth shape (c ∷ calls)) then c.aggregates
      else ws) (as_sought n sum calls)

  as_sought_cell : (n below i : ℕ) (calls : List (Activation H)) →
      words_of shape calls (Cell n below i) ≡ sought (has_below shape below) (λ c. cell shape c i) n
      calls
  as_sought_cell n below i [] = refl
  as_sought_cell n below i (c ∷ calls) =
      ap (λ ws. if nat_eq n (length calls) && nat_eq below (depth shape calls) then cell shape c i
      else ws) (as_sought_cell n below i calls)

  as_changed : (n sum w : ℕ) (h : Held) (calls : List (Activation H)) →
      calls_with shape calls (Aggregates n sum) w h ≡ changed (has_sum shape sum)
      (λ c. with_aggregates c (slice_set c.aggregates w h)) n calls
  as_changed n sum w h [] = refl
  as_changed n sum w h (c ∷ calls) =
      ap (λ cs. if nat_eq n (length calls) && nat_eq sum (depth shape (c ∷ calls)) then
      with_aggregates c (slice_set c.aggregates w h) ∷ calls else c ∷ cs)
      (as_changed n sum w h calls)

  as_changed_cell : (n below i w : ℕ) (h : Held) (calls : List (Activation H)) →
      calls_with shape calls (Cell n below i) w h ≡ changed (has_below shape below)
      (λ c. with_args c (last_set c.args i h)) n calls
  as_changed_cell n below i w h [] = refl
  as_changed_cell n below i w h (c ∷ calls) =
      ap (λ cs. if nat_eq n (length calls) && nat_eq below (depth shape calls) then with_args c
      (last_set c.args i h) ∷ calls else c ∷ cs) (as_changed_cell n below i w h calls)

  pub words-aggregates : (n sum : ℕ) (calls : List (Activation H)) →
      words_of shape (reverse calls) (Aggregates n sum) ≡ on_call [] (slice_get calls n)
      (λ c. if has_sum shape sum c (reverse (take n calls)) then c.aggregates else [])
  words-aggregates n sum calls = as_sought n sum (reverse calls) ∙ is_sought (has_sum shape sum)
      (λ c. c.aggregates) n calls

  pub words-cell : (n below i : ℕ) (calls : List (Activation H)) →
      words_of shape (reverse calls) (Cell n below i) ≡ on_call [] (slice_get calls n)
      (λ c. if has_below shape below c (reverse (take n calls)) then cell shape c i else [])
  words-cell n below i calls = as_sought_cell n below i (reverse calls)
      ∙ is_sought (has_below shape below) (λ c. cell shape c i) n calls

  pub with-aggregates : (n sum w : ℕ) (h : Held) (calls : List (Activation H)) →
      calls_with shape (reverse calls) (Aggregates n sum) w h ≡
      reverse (on_call calls (slice_get calls n)
      (λ c. if has_sum shape sum c (reverse (take n calls)) then slice_set calls n
      (with_aggregates c (slice_set c.aggregates w h)) else calls))
  with-aggregates n sum w h calls = as_changed n sum w h (reverse calls)
      ∙ is_changed (has_sum shape sum) (λ c. with_aggregates c (slice_set c.aggregates w h)) n calls

  pub with-cell : (n below i w : ℕ) (h : Held) (calls : List (Activation H)) →
      calls_with shape (reverse calls) (Cell n below i) w h ≡
      reverse (on_call calls (slice_get calls n)
      (λ c. if has_below shape below c (reverse (take n calls)) then slice_set calls n
      (with_args c (last_set c.args i h)) else calls))
  with-cell n below i w h calls = as_changed_cell n below i w h (reverse calls)
      ∙ is_changed (has_below shape below) (λ c. with_args c (last_set c.args i h)) n calls
