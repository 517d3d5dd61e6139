-- The calls after a word of one is written, and the words of an object, by the number of its call.
use Rattle.std.proofs.Common.{◌≡◌, ◌≢◌, ℕ, Bool, true, false, List, [], ◌∷◌, ◌++◌, length}
use Rattle.std.proofs.Common.{reverse, take, Option, Some, None, nat_eq, if◌then◌else◌, refl, sym}
use Rattle.std.proofs.Common.{ap, ◌∙◌, arith, slice_get, slice_set}
use Rattle.std.proofs.lemmas.Option.{slice_get_within}
use Rattle.std.proofs.lemmas.List.{set-append_left}
use Rattle.std.proofs.Math.Seq.{set-append_seam}
use Rattle.std.proofs.lemmas.Bool.Decides.{nat_tests}
use Rattle.vc_code.specs.declared.value.Object.TheVariants.{Aggregates, Cell}
use Rattle.vc_code.specs.Value.{Held}
use Rattle.vc_code.specs.Machine.{Shape, Activation, State, words_of, calls_with, with_calls, cell}
use Rattle.vc_code.specs.Machine.{with_object, object, with_aggregate, with_argument}
use Rattle.vc_code.specs.Numbered.{on_call, holds_at, changed_at, has_sum, has_below}
use Rattle.vc_code.specs.Selected.{Vars}
use Rattle.vc_code.proofs.NumberedCalls.{get-push, words-aggregates, words-cell, with-aggregates}
use Rattle.vc_code.proofs.NumberedCalls.{with-cell}
use Rattle.vc_run.specs.declared.machine.Execution.{Execution}
use Rattle.vc_run.specs.Calls.{call_of}
use Rattle.vc_run.specs.Stands.{calls_in, state_of}
use Rattle.vc_run.proofs.CallLists.{latest_first}

-- ---- one call of the list is another

module _ (calls : List (Activation Vars)) (top : Activation Vars)
    (F : Activation Vars → Activation Vars) (n : ℕ) where
  pub top_put : n ≡ length calls → changed_at (calls ++ top ∷ []) n F ≡ calls ++ F top ∷ []
  top_put last =
      let b : nat_eq n (length calls) ≡ true = grind (arith, nat_tests) in
      let got : slice_get (calls ++ top ∷ []) n ≡ Some top =
      get-push calls top n ∙ ap (λ t. if t then Some top else slice_get calls n) b in
      ap (λ o. on_call (calls ++ top ∷ []) o (λ c. slice_set (calls ++ top ∷ []) n (F c))) got
      ∙ ap (λ i. slice_set (calls ++ top ∷ []) i (F top)) last
      ∙ set-append_seam calls top [] (F top)

  below_of : (o : Option (Activation Vars)) → slice_get calls n ≡ o →
      on_call (calls ++ top ∷ []) o (λ c. slice_set (calls ++ top ∷ []) n (F c)) ≡
      on_call calls o (λ c. slice_set calls n (F c)) ++ top ∷ []
  below_of None there = refl
  below_of (Some c) there = set-append_left calls (top ∷ []) n (F c)
      (slice_get_within calls n c there)

  pub below_put : n ≢ length calls →
      changed_at (calls ++ top ∷ []) n F ≡ changed_at calls n F ++ top ∷ []
  below_put other =
      let b : nat_eq n (length calls) ≡ false = grind (arith, nat_tests) in
      let got : slice_get (calls ++ top ∷ []) n ≡ slice_get calls n =
      get-push calls top n ∙ ap (λ t. if t then Some top else slice_get calls n) b in
      ap (λ o. on_call (calls ++ top ∷ []) o (λ c. slice_set (calls ++ top ∷ []) n (F c))) got
      ∙ below_of (slice_get calls n) refl

-- the state with the running call and the calls that wait
pub as_calls : (s : State Vars) (calls : List (Activation Vars)) (top : Activation Vars) →
    with_calls s (top ∷ reverse calls) ≡ with_calls s (reverse (calls ++ top ∷ []))
as_calls s calls top = ap (with_calls s) (sym (latest_first calls top))

-- ---- words and written words of objects

if_out : {A : Type 0} (o : Option (Activation Vars)) (test : Activation Vars → Bool)
    (W : Activation Vars → A) (none : A) →
    on_call none o (λ c. if test c then W c else none) ≡
    (if on_call false o test then on_call none o W else none)
if_out None test W none = refl
if_out (Some c) test W none = refl

module _ (shape : ℕ → Shape) (m : Execution) where
  objects : (n sum : ℕ) → object shape (state_of m) (Aggregates n sum) ≡
      (if holds_at (calls_in m) n (has_sum shape sum) then on_call [] (slice_get (calls_in m) n)
      (λ c. c.aggregates) else [])
  objects n sum =
      ap (λ cs. words_of shape cs (Aggregates n sum)) (sym (latest_first m.below.calls (call_of m.top)))
      ∙ words-aggregates shape n sum (calls_in m)
      ∙ if_out (slice_get (calls_in m) n) (λ c. has_sum shape sum c (reverse (take n (calls_in m))))
      (λ c. c.aggregates) []

  cells : (n below i : ℕ) → object shape (state_of m) (Cell n below i) ≡
      (if holds_at (calls_in m) n (has_below shape below) then on_call [] (slice_get (calls_in m) n)
      (λ c. cell shape c i) else [])
  cells n below i =
      ap (λ cs. words_of shape cs (Cell n below i)) (sym (latest_first m.below.calls (call_of m.top)))
      ∙ words-cell shape n below i (calls_in m)
      ∙ if_out (slice_get (calls_in m) n)
      (λ c. has_below shape below c (reverse (take n (calls_in m)))) (λ c. cell shape c i) []

  pub object-aggregates : (n sum : ℕ) (has : Bool) → has ≡ holds_at (calls_in m) n
      (has_sum shape sum) →
      (if has then on_call [] (slice_get (calls_in m) n) (λ c. c.aggregates) else []) ≡
      object shape (state_of m) (Aggregates n sum)
  object-aggregates n sum has is =
      ap (λ b. if b then on_call [] (slice_get (calls_in m) n) (λ c. c.aggregates) else []) is
      ∙ sym (objects n sum)

  pub object-cell : (n below i : ℕ) (has : Bool) → has ≡ holds_at (calls_in m) n
      (has_below shape below) →
      (if has then on_call [] (slice_get (calls_in m) n) (λ c. cell shape c i) else []) ≡
      object shape (state_of m) (Cell n below i)
  object-cell n below i has is =
      ap (λ b. if b then on_call [] (slice_get (calls_in m) n) (λ c. cell shape c i) else []) is
      ∙ sym (cells n below i)

  -- the state with the calls that it has
  pub as_it_is : with_calls (state_of m) (reverse (calls_in m)) ≡ state_of m
  as_it_is = ap (with_calls (state_of m)) (latest_first m.below.calls (call_of m.top))

  pub with_object-aggregates : (n sum w : ℕ) (h : Held) (has : Bool) → has ≡ holds_at (calls_in m) n
      (has_sum shape sum) →
      with_object shape (state_of m) (Aggregates n sum) w h ≡
      with_calls (state_of m) (reverse
      (if has then on_call (calls_in m) (slice_get (calls_in m) n)
      (λ c. slice_set (calls_in m) n (with_aggregate c w h)) else
      calls_in m))
  with_object-aggregates n sum w h has is =
      ap (λ cs. with_calls (state_of m) (calls_with shape cs (Aggregates n sum) w h))
      (sym (latest_first m.below.calls (call_of m.top)))
      ∙ ap (with_calls (state_of m)) (with-aggregates shape n sum w h (calls_in m))
      ∙ ap (λ cs. with_calls (state_of m) (reverse cs))
      (if_out (slice_get (calls_in m) n)
      (λ c. has_sum shape sum c (reverse (take n (calls_in m))))
      (λ c. slice_set (calls_in m) n (with_aggregate c w h))
      (calls_in m))
      ∙ ap (λ b. with_calls (state_of m)
      (reverse (if b then on_call (calls_in m) (slice_get (calls_in m) n)
      (λ c. slice_set (calls_in m) n (with_aggregate c w h)) else
      calls_in m))) (sym is)

  pub with_object-cell : (n below i w : ℕ) (h : Held) (has : Bool) → has ≡ holds_at (calls_in m) n
      (has_below shape below) →
      with_object shape (state_of m) (Cell n below i) w h ≡
      with_calls (state_of m) (reverse
      (if has then on_call (calls_in m) (slice_get (calls_in m) n)
      (λ c. slice_set (calls_in m) n (with_argument c i h)) else calls_in m))
  with_object-cell n below i w h has is =
      ap (λ cs. with_calls (state_of m) (calls_with shape cs (Cell n below i) w h))
      (sym (latest_first m.below.calls (call_of m.top)))
      ∙ ap (with_calls (state_of m)) (with-cell shape n below i w h (calls_in m))
      ∙ ap (λ cs. with_calls (state_of m) (reverse cs))
      (if_out (slice_get (calls_in m) n)
      (λ c. has_below shape below c (reverse (take n (calls_in m))))
      (λ c. slice_set (calls_in m) n (with_argument c i h)) (calls_in m))
      ∙ ap (λ b. with_calls (state_of m)
      (reverse (if b then on_call (calls_in m) (slice_get (calls_in m) n)
      (λ c. slice_set (calls_in m) n (with_argument c i h)) else calls_in m)))
      (sym is)
