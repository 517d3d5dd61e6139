-- Live calls by number, the module's body 0, in a list with the body first: how an address finds
-- its call there.
use Rattle.std.specs.Prelude.{ℕ, Bool, false, nat_eq, List, [], ◌∷◌, reverse, take, slice_get}
use Rattle.std.specs.Prelude.{slice_set, if◌then◌else◌, Option, Some, None}
use Rattle.vc_code.specs.Machine.{Shape, Activation, depth}

abbrev pub on_call : {A H : Type 0} → A → Option (Activation H) → (Activation H → A) → A
on_call none None f = none
on_call none (Some c) f = f c

-- the call of this number is there and passes a test with the calls below it, the latest first
abbrev pub holds_at :
    {H : Type 0} → List (Activation H) → ℕ → (Activation H → List (Activation H) → Bool) → Bool
holds_at calls n test = on_call false (slice_get calls n) (λ c. test c (reverse (take n calls)))

-- the words that the call of this number has, which are looked at where `has` says so
abbrev pub words_at :
    {A H : Type 0} → Bool → List (Activation H) → ℕ → (Activation H → List A) → List A
words_at has calls n words = if has then on_call [] (slice_get calls n) words else []

-- the calls, with the one of this number changed
abbrev pub changed_at :
    {H : Type 0} → List (Activation H) → ℕ → (Activation H → Activation H) → List (Activation H)
changed_at calls n change = on_call calls (slice_get calls n) (λ c. slice_set calls n (change c))

-- the frames of the call and of those below have so many bytes
abbrev pub has_sum : {H : Type 0} → (ℕ → Shape) → ℕ → Activation H → List (Activation H) → Bool
has_sum shape sum c below = nat_eq sum (depth shape (c ∷ below))

-- the frames of the calls below have so many bytes
abbrev pub has_below : {H : Type 0} → (ℕ → Shape) → ℕ → Activation H → List (Activation H) → Bool
has_below shape bytes c below = nat_eq bytes (depth shape below)
