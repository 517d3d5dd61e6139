-- The calls after a word of one is written, and the words of an object, by the number of its call.
use Rattle.std.proofs.Common.{◌≡◌, ℕ, ◌<◌, Bool, true, false, List, [], ◌∷◌, ◌++◌, length, map}
use Rattle.std.proofs.Common.{reverse, take, Option, Some, None, nat_eq, if◌then◌else◌, refl, sym}
use Rattle.std.proofs.Common.{ap, ◌∙◌, arith, slice_get, slice_set}
use Rattle.std.specs.Option.{option_map}
use Rattle.std.proofs.lemmas.Option.{slice_get-map, slice_get_within}
use Rattle.std.proofs.lemmas.List.{length-map, map-set, set-append_left}
use Rattle.std.proofs.Math.Seq.{set-append_seam}
use Rattle.std.proofs.lemmas.Bool.Decides.{nat_tests}
use Rattle.vc_code.specs.declared.live.LiveCall.{LiveCall}
use Rattle.vc_code.specs.declared.machine.Execution.{Execution}
use Rattle.vc_code.specs.declared.value.Object.TheVariants.{Aggregates, Cell}
use Rattle.vc_code.specs.Value.{Held}
use Rattle.vc_code.specs.Machine.{Shape, Activation, words_of, calls_with, with_calls, with_object}
use Rattle.vc_code.specs.Machine.{object, cell, with_aggregates, with_args, last_set}
use Rattle.vc_code.specs.Numbered.{on_call, holds_at, has_sum, has_below}
use Rattle.vc_code.specs.Selected.{Vars}
use Rattle.vc_code.specs.Stands.{call_of, calls_in, state_of}
use Rattle.vc_code.proofs.CallLists.{latest_first}
use Rattle.vc_code.proofs.NumberedCalls.{get-push, words-aggregates, words-cell, with-aggregates}
use Rattle.vc_code.proofs.NumberedCalls.{with-cell}

-- ---- one call of the list is another

module _ (calls : List LiveCall) (top : LiveCall) (F : Activation Vars → Activation Vars)
    (n : ℕ) where
  pub top_put : (new : LiveCall) → n ≡ length calls → call_of new ≡ F (call_of top) →
      map call_of calls ++ call_of new ∷ [] ≡ on_call (map call_of calls ++ call_of top ∷ [])
      (slice_get (map call_of calls ++ call_of top ∷ []) n)
      (λ c. slice_set (map call_of calls ++ call_of top ∷ []) n (F c))
  top_put new last is =
      let at : n ≡ length (map call_of calls) = last ∙ sym (length-map calls call_of) in
      let b : nat_eq n (length (map call_of calls)) ≡ true = grind (arith, nat_tests) in
      let got : slice_get (map call_of calls ++ call_of top ∷ []) n ≡ Some (call_of top) =
      get-push (map call_of calls) (call_of top) n
      ∙ ap (λ t. if t then Some (call_of top) else slice_get (map call_of calls) n) b in
      rw got (ap (λ c. map call_of calls ++ c ∷ []) is
      ∙ sym (set-append_seam (map call_of calls) (call_of top) [] (F (call_of top)))
      ∙ ap (λ i. slice_set (map call_of calls ++ call_of top ∷ []) i (F (call_of top))) (sym at))

  pub below_put : (old new : LiveCall) → slice_get calls n ≡ Some old → call_of new ≡
      F (call_of old) →
      map call_of (slice_set calls n new) ++ call_of top ∷ [] ≡
      on_call (map call_of calls ++ call_of top ∷ [])
      (slice_get (map call_of calls ++ call_of top ∷ []) n)
      (λ c. slice_set (map call_of calls ++ call_of top ∷ []) n (F c))
  below_put old new there is =
      let within : n < length calls = slice_get_within calls n old there in
      let count : length (map call_of calls) ≡ length calls = length-map calls call_of in
      let inside : n < length (map call_of calls) = omega (arith, count) in
      let b : nat_eq n (length (map call_of calls)) ≡ false = grind (arith, nat_tests) in
      let got : slice_get (map call_of calls ++ call_of top ∷ []) n ≡ Some (call_of old) =
      get-push (map call_of calls) (call_of top) n
      ∙ ap (λ t. if t then Some (call_of top) else slice_get (map call_of calls) n) b
      ∙ slice_get-map call_of calls n ∙ ap (option_map call_of) there in
      rw got (ap (λ cs. cs ++ call_of top ∷ [])
      (map-set call_of calls n new ∙ ap (slice_set (map call_of calls) n) is)
      ∙ sym (set-append_left (map call_of calls) (call_of top ∷ []) n (F (call_of old)) inside))

-- ---- words and written words of objects

if_out : {A : Type 0} (o : Option (Activation Vars)) (test : Activation Vars → Bool)
    (W : Activation Vars → A) (none : A) →
    on_call none o (λ c. if test c then W c else none) ≡
    (if on_call false o test then on_call none o W else none)
if_out None test W none = refl
if_out (Some c) test W none = refl

module _ (shape : ℕ → Shape) (m : Execution) where
  objects : (n sum : ℕ) → object shape (state_of m) (Aggregates n sum) ≡
      (if holds_at (calls_in m) n (has_sum shape sum) then on_call [] (slice_get (calls_in m) n)
      (λ c. c.aggregates) else [])
  objects n sum =
      ap (λ cs. words_of shape cs (Aggregates n sum)) (sym (latest_first m.below.items m.top))
      ∙ words-aggregates shape n sum (calls_in m)
      ∙ if_out (slice_get (calls_in m) n) (λ c. has_sum shape sum c (reverse (take n (calls_in m))))
      (λ c. c.aggregates) []

  cells : (n below i : ℕ) → object shape (state_of m) (Cell n below i) ≡
      (if holds_at (calls_in m) n (has_below shape below) then on_call [] (slice_get (calls_in m) n)
      (λ c. cell shape c i) else [])
  cells n below i =
      ap (λ cs. words_of shape cs (Cell n below i)) (sym (latest_first m.below.items m.top))
      ∙ words-cell shape n below i (calls_in m)
      ∙ if_out (slice_get (calls_in m) n)
      (λ c. has_below shape below c (reverse (take n (calls_in m)))) (λ c. cell shape c i) []

  pub object-aggregates : (n sum : ℕ) (has : Bool) → has ≡ holds_at (calls_in m) n
      (has_sum shape sum) →
      (if has then on_call [] (slice_get (calls_in m) n) (λ c. c.aggregates) else []) ≡
      object shape (state_of m) (Aggregates n sum)
  object-aggregates n sum has is =
      ap (λ b. if b then on_call [] (slice_get (calls_in m) n) (λ c. c.aggregates) else []) is
      ∙ sym (objects n sum)

  pub object-cell : (n below i : ℕ) (has : Bool) → has ≡ holds_at (calls_in m) n
      (has_below shape below) →
      (if has then on_call [] (slice_get (calls_in m) n) (λ c. cell shape c i) else []) ≡
      object shape (state_of m) (Cell n below i)
  object-cell n below i has is =
      ap (λ b. if b then on_call [] (slice_get (calls_in m) n) (λ c. cell shape c i) else []) is
      ∙ sym (cells n below i)

  -- the state with the calls that it has
  pub as_it_is : with_calls (state_of m) (reverse (calls_in m)) ≡ state_of m
  as_it_is = ap (with_calls (state_of m)) (latest_first m.below.items m.top)

  pub with_object-aggregates : (n sum w : ℕ) (h : Held) (has : Bool) → has ≡ holds_at (calls_in m) n
      (has_sum shape sum) →
      with_object shape (state_of m) (Aggregates n sum) w h ≡
      with_calls (state_of m) (reverse
      (if has then on_call (calls_in m) (slice_get (calls_in m) n)
      (λ c. slice_set (calls_in m) n (with_aggregates c (slice_set c.aggregates w h))) else
      calls_in m))
  with_object-aggregates n sum w h has is =
      ap (λ cs. with_calls (state_of m) (calls_with shape cs (Aggregates n sum) w h))
      (sym (latest_first m.below.items m.top))
      ∙ ap (with_calls (state_of m)) (with-aggregates shape n sum w h (calls_in m))
      ∙ ap (λ cs. with_calls (state_of m) (reverse cs))
      (if_out (slice_get (calls_in m) n)
      (λ c. has_sum shape sum c (reverse (take n (calls_in m))))
      (λ c. slice_set (calls_in m) n (with_aggregates c (slice_set c.aggregates w h)))
      (calls_in m))
      ∙ ap (λ b. with_calls (state_of m)
      (reverse (if b then on_call (calls_in m) (slice_get (calls_in m) n)
      (λ c. slice_set (calls_in m) n (with_aggregates c (slice_set c.aggregates w h))) else
      calls_in m))) (sym is)

  pub with_object-cell : (n below i w : ℕ) (h : Held) (has : Bool) → has ≡ holds_at (calls_in m) n
      (has_below shape below) →
      with_object shape (state_of m) (Cell n below i) w h ≡
      with_calls (state_of m) (reverse
      (if has then on_call (calls_in m) (slice_get (calls_in m) n)
      (λ c. slice_set (calls_in m) n (with_args c (last_set c.args i h))) else calls_in m))
  with_object-cell n below i w h has is =
      ap (λ cs. with_calls (state_of m) (calls_with shape cs (Cell n below i) w h))
      (sym (latest_first m.below.items m.top))
      ∙ ap (with_calls (state_of m)) (with-cell shape n below i w h (calls_in m))
      ∙ ap (λ cs. with_calls (state_of m) (reverse cs))
      (if_out (slice_get (calls_in m) n)
      (λ c. has_below shape below c (reverse (take n (calls_in m))))
      (λ c. slice_set (calls_in m) n (with_args c (last_set c.args i h))) (calls_in m))
      ∙ ap (λ b. with_calls (state_of m)
      (reverse (if b then on_call (calls_in m) (slice_get (calls_in m) n)
      (λ c. slice_set (calls_in m) n (with_args c (last_set c.args i h))) else calls_in m)))
      (sym is)
