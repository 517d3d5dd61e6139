-- A ladder of rungs. What is given gets over one rung after the other, or it stops at one with a
-- fault. A further cause of a refusal is one more rung, and no earlier cause has to know of it.
use Rattle.std.specs.Prelude.{◌≡◌, ◌⊎◌}

-- it gets over the first rung to something between, and from there over the second
pub record Then {A B C : Type 0} (First : A → B → Type 0) (Second : B → C → Type 0)
    (a : A) (c : C) : Type 0 where
  pub between : B
  pub below : First a between
  pub above : Second between c

-- it stops at the first rung, or gets over it and stops at what is above
abbrev pub Stops : {A B F : Type 0} → (A → F → Type 0) → (A → B → Type 0) → (B → F → Type 0) →
    A → F → Type 0
Stops Stop Climb Above a f = Stop a f ⊎ Then Climb Above a f

-- its fault is told as a fault of another type
pub record ToldAs {A F G : Type 0} (tell : F → G) (Stop : A → F → Type 0) (a : A) (g : G)
    : Type 0 where
  pub fault : F
  pub stops : Stop a fault
  pub told : g ≡ tell fault

-- One gets over a rung in at most one way, or stops at it with at most one fault, never both.
pub record IsRung {A B F : Type 0} (Climb : A → B → Type 0) (Stop : A → F → Type 0) : Type 0 where
  pub one_way : (a : A) (b c : B) → Climb a b → Climb a c → b ≡ c
  pub one_fault : (a : A) (f g : F) → Stop a f → Stop a g → f ≡ g
  pub never_both : (a : A) (b : B) (f : F) → Climb a b → Stop a f → ⊥

-- Each thing gets over the rung or stops at it.
abbrev pub IsExhaustive : {A B F : Type 0} → (A → B → Type 0) → (A → F → Type 0) → Type 0
IsExhaustive {A} {B} {F} Climb Stop = (a : A) → ((b : B) × Climb a b) ⊎ ((f : F) × Stop a f)
