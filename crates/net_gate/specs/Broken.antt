-- What routes may break, and which of it comes first.
use Rattle.std.specs.Prelude.{◌≡◌, ◌⊎◌, ℕ, ◌<◌, ◌≤◌, Bool, ◌&&◌, not, List, Option, Some, None}
use Rattle.std.specs.Prelude.{MatchOption, All, count_by, slice_get}
use Rattle.pra_base.specs.Places.{number}
use Rattle.net_form.specs.declared.net.MemPair.{MemPair}
use Rattle.net_form.specs.declared.net.Net.{Net}
use Rattle.net_form.specs.Flow.{Edge, is_at}
use Rattle.net_form.specs.Admitted.{in_mask, stays_across, uses_bundle, uses_memory, KeepsTie}
use Rattle.net_gate.specs.declared.broken.Broken.{Broken}
use Rattle.net_gate.specs.declared.broken.Broken.TheVariants.{Mask, Edge as Across, Bundle, Memory}
use Rattle.net_gate.specs.declared.broken.Broken.TheVariants.{Tie}
use Rattle.net_gate.specs.declared.broken.EdgeRule.{EdgeRule}
use Rattle.net_gate.specs.declared.broken.EdgeRule.TheVariants.{InMask, StaysAcross}

-- the rules that an edge keeps or breaks by itself
abbrev pub keeps_rule : Net → EdgeRule → Edge → Bool
keeps_rule net InMask e = in_mask net e
keeps_rule net StaysAcross e = stays_across e

-- it breaks the rule, as strand s comes to layer l
abbrev pub breaks : Net → EdgeRule → ℕ → ℕ → Edge → Bool
breaks net rule s l e = is_at s l e && not (keeps_rule net rule e)

-- one end of the pair at most is in memory
abbrev pub KeepsPair : List Edge → MemPair → Type 0
KeepsPair f m = count_by (uses_memory m) f ≤ 1

-- there is an element at k, and it fails
abbrev pub FailsAt : {X : Type 0} → (X → Type 0) → List X → ℕ → Type 0
FailsAt P xs k = MatchOption (slice_get xs k) ⊥ (λ x. ¬ P x)

abbrev pub IsBroken : Net → List Edge → Broken → Type 0
IsBroken net f (Mask s l) = 0 < count_by (breaks net InMask s l) f
IsBroken net f (Across s l) = 0 < count_by (breaks net StaysAcross s l) f
IsBroken net f (Bundle n r) = 1 < count_by (uses_bundle net n (number r)) f
IsBroken net f (Memory k) = FailsAt (KeepsPair f) net.pairs k
IsBroken net f (Tie k) = FailsAt (KeepsTie net f) net.ties k

-- ---- their order: by kind, then by their numbers

abbrev pub kind : Broken → ℕ
kind (Mask s l) = 0
kind (Across s l) = 1
kind (Bundle n r) = 2
kind (Memory k) = 3
kind (Tie k) = 4

abbrev pub numbers : Broken → ℕ × ℕ
numbers (Mask s l) = (s, l)
numbers (Across s l) = (s, l)
numbers (Bundle n r) = (n, number r)
numbers (Memory k) = (k, 0)
numbers (Tie k) = (k, 0)

-- of two pairs of numbers the one comes before the other
abbrev pub IsBefore : ℕ × ℕ → ℕ × ℕ → Type 0
IsBefore a b = (a.0 < b.0) ⊎ ((a.0 ≡ b.0) × (a.1 < b.1))

abbrev pub IsEarlierBroken : Broken → Broken → Type 0
IsEarlierBroken a b = (kind a < kind b) ⊎ ((kind a ≡ kind b) × IsBefore (numbers a) (numbers b))

abbrev pub IsFirstBroken : Net → List Edge → Broken → Type 0
IsFirstBroken net f b = IsBroken net f b × ((a : Broken) → IsEarlierBroken a b → ¬ IsBroken net f a)

-- ---- the first of some places, by what is counted at each

-- the first layer at which anything is counted
abbrev pub IsFirstLayer : (ℕ → ℕ) → Option ℕ → Type 0
IsFirstLayer count None = (l : ℕ) → count l ≡ 0
IsFirstLayer count (Some l) = (0 < count l) × ((k : ℕ) → k < l → count k ≡ 0)

-- the first element that fails
abbrev pub IsFirstFailing : {X : Type 0} → (X → Type 0) → List X → Option ℕ → Type 0
IsFirstFailing P xs None = All P xs
IsFirstFailing P xs (Some k) = FailsAt P xs k × ((j : ℕ) → j < k → ¬ FailsAt P xs j)

-- the first pair of numbers at which more than so many are counted
abbrev pub IsFirstAbove : ℕ → (ℕ → ℕ → ℕ) → Option (ℕ × ℕ) → Type 0
IsFirstAbove most count None = (a b : ℕ) → count a b ≤ most
IsFirstAbove most count (Some at) =
    (most < count at.0 at.1) × ((a b : ℕ) → IsBefore (a, b) at → count a b ≤ most)
