-- Two machines beside each other, whose live calls are related.
use Rattle.std.specs.Prelude.{◌≡◌, ◌≢◌, ℕ, List, [], ◌∷◌, Option, Some}
use Rattle.vc_code.specs.Value.{Held, Words}
use Rattle.vc_code.specs.Machine.{Shape, Activation, State, cell, last_set, with_aggregates}
use Rattle.vc_code.specs.Machine.{with_args}

-- the live calls of two lists are related one by one
abbrev pub AllBeside : {A B : Type 0} → (A → B → Type 0) → List A → List B → Type 0
AllBeside R [] [] = Unit {0}
AllBeside R (a ∷ as_) (b ∷ bs) = R a b × AllBeside R as_ bs
AllBeside R _ _ = ⊥

-- What a relation of live calls owes: frames of the same size, and the same objects, also once one
-- of them is written in both.
pub record Couples {A B : Type 0} (one other : ℕ → Shape)
    (R : Activation A → Activation B → Type 0) : Type 0 where
  pub frames : (c : Activation A) (d : Activation B) → R c d →
      (other d.proc).frame_size ≡ (one c.proc).frame_size
  pub aggregates : (c : Activation A) (d : Activation B) → R c d → d.aggregates ≡ c.aggregates
  pub cells : (c : Activation A) (d : Activation B) → R c d → (i : ℕ) →
      cell other d i ≡ cell one c i
  pub set_aggregates : (c : Activation A) (d : Activation B) → R c d → (words : Words) →
      R (with_aggregates c words) (with_aggregates d words)
  pub set_cell : (c : Activation A) (d : Activation B) → R c d → (i : ℕ) (h : Held) →
      cell one c i ≢ [] → R (with_args c (last_set c.args i h)) (with_args d (last_set d.args i h))

-- The states are the same but for the calls' homes. What the first has compared, the other has too:
-- it may have more, where the first did something since that it leaves out.
pub record Same {A B : Type 0} (R : Activation A → Activation B → Type 0)
    (s : State A) (t : State B) : Type 0 where
  pub top : R s.top t.top
  pub below : AllBeside R s.below t.below
  pub pushed : t.pushed ≡ s.pushed
  pub globals : t.globals ≡ s.globals
  pub compared : (ab : ℕ × ℕ) → s.compared ≡ Some ab → t.compared ≡ Some ab
  pub input : t.input ≡ s.input
  pub events : t.events ≡ s.events
  pub taken : t.taken ≡ s.taken
  pub over : t.over ≡ s.over

-- where the first goes on, so does the other, to what is related
abbrev pub Leads : {A B : Type 0} → (A → B → Type 0) → Option A → Option B → Type 0
Leads {A} {B} R o p = (x : A) → o ≡ Some x → (y : B) × (p ≡ Some y) × R x y
