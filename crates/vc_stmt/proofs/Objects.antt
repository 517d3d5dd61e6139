-- A word of an object is written: what stays of the state.
use Rattle.std.proofs.Common.{◌≡◌, ℕ, Bool, true, false, List, [], ◌∷◌, map, Option, Some, None}
use Rattle.std.proofs.Common.{refl, ap, ◌∙◌}
use Rattle.std.specs.Prelude.{if◌then◌else◌}
use Rattle.vc_code.specs.declared.value.Object.{Object}
use Rattle.vc_code.specs.declared.value.Object.TheVariants.{Data, Aggregates, Cell}
use Rattle.vc_code.specs.declared.value.Value.{Value}
use Rattle.vc_code.specs.Value.{Held}
use Rattle.vc_code.specs.Machine.{Shape, Activation, State, live_in, calls_with, with_calls}
use Rattle.vc_code.specs.Machine.{with_object, joined}
use Rattle.vc_code.specs.Selected.{Vars}
use Rattle.vc_relation.proofs.Words.{named, put_in, with_cons, home_put, live_after, same_procs}

-- what a word that is written leaves as it was
pub record Beside (old new : State Vars) : Type 0 where
  pub over : new.over ≡ old.over
  pub compared : new.compared ≡ old.compared
  pub pushed : new.pushed ≡ old.pushed
  pub input : new.input ≡ old.input
  pub events : new.events ≡ old.events
  pub taken : new.taken ≡ old.taken

calls_beside : (s : State Vars) (calls : List (Activation Vars)) → Beside s (with_calls s calls)
calls_beside s [] = record {
  over = refl;
  compared = refl;
  pushed = refl;
  input = refl;
  events =
      refl;
  taken = refl;
}
calls_beside s (c ∷ calls) =
    record {
      over = refl;
      compared = refl;
      pushed = refl;
      input = refl;
      events = refl;
      taken =
          refl;
    }

module _ (shape : ℕ → Shape) (w : ℕ) (h : Held) where
  pub object_beside : (s : State Vars) (x : Object) → Beside s (with_object shape s x w h)
  object_beside s Data = record {
    over = refl;
    compared = refl;
    pushed = refl;
    input = refl;
    events = refl;
    taken = refl;
  }
  object_beside s (Aggregates n sum) =
      calls_beside s (calls_with shape (s.top ∷ s.below) (Aggregates n sum) w h)
  object_beside s (Cell n below i) =
      calls_beside s (calls_with shape (s.top ∷ s.below) (Cell n below i) w h)

  same_homes : (x : Object) (calls : List (Activation Vars)) →
      map (λ c. c.home) (calls_with shape calls x w h) ≡ map (λ c. c.home) calls
  same_homes x [] = refl
  same_homes x (c ∷ calls) = ap (map (λ d. d.home)) (with_cons shape x w h c calls)
      ∙ by_name (same_homes x calls) (named shape x c calls)
    where
      by_name : map (λ d. d.home) (calls_with shape calls x w h) ≡ map (λ d. d.home) calls →
          (b : Bool) → map (λ d. d.home)
          (if b then put_in shape x w h c ∷ calls else c ∷ calls_with shape calls x w h) ≡
          c.home ∷ map (λ d. d.home) calls
      by_name more true = ap (λ z. z ∷ map (λ d. d.home) calls) (home_put shape x w h c)
      by_name more false = ap (λ zs. c.home ∷ zs) more

  pub live_homes : (s : State Vars) (x : Object) →
      map (λ c. c.home) (live_in (with_object shape s x w h)) ≡ map (λ c. c.home) (live_in s)
  live_homes s x = ap (map (λ c. c.home)) (live_after shape s x w h) ∙ same_homes x (live_in s)

  pub live_procs : (s : State Vars) (x : Object) →
      map (λ c. c.proc) (live_in (with_object shape s x w h)) ≡ map (λ c. c.proc) (live_in s)
  live_procs s x = ap (map (λ c. c.proc)) (live_after shape s x w h) ∙ same_procs shape x w h
      (live_in s)

-- a word that holds a value is there
pub word_there : (o : Option Held) (y : Value) → joined o ≡ Some y → o ≡ Some (Some y)
word_there None y e = cc
word_there (Some held) y e = ap Some e
