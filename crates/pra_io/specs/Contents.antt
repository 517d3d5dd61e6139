-- What a call finds and leaves, where contents are told. What is not told is None, and of that
-- nothing is claimed.
use Rattle.std.specs.Prelude.{◌≡◌, ◌<◌, ◌≤◌, ℕ, List, length, take, ⊤, None, Some}
use Rattle.std.specs.declared.option.Option.{Option}
use Rattle.std.specs.Io.KnownBytes.{Appends, Consumes}

-- ---- files: `Some None` is a name that is told to be absent

-- the name is not told to be absent, and what it is told to hold is these bytes
abbrev pub Holds : Option (Option (List ℕ)) → List ℕ → Type 0
Holds None bytes = ⊤
Holds (Some None) bytes = ⊥
Holds (Some (Some held)) bytes = held ≡ bytes

-- the name is not told to be absent, and what it is told to hold is more than max bytes
abbrev pub IsLonger : Option (Option (List ℕ)) → ℕ → Type 0
IsLonger None max = ⊤
IsLonger (Some None) max = ⊥
IsLonger (Some (Some held)) max = max < length held

-- a name that is told of holds these bytes afterwards
abbrev pub Becomes : Option (Option (List ℕ)) → Option (Option (List ℕ)) → List ℕ → Type 0
Becomes None new bytes = ⊤
Becomes (Some held) new bytes = new ≡ Some (Some bytes)

-- ---- streams

-- the most bytes that may be read at once, 64 MiB
abbrev pub most_read : ℕ
most_read = 67108864

-- the bytes are all that was left
abbrev pub IsAllOf : Option (List ℕ) → List ℕ → Type 0
IsAllOf None bytes = ⊤
IsAllOf (Some held) bytes = bytes ≡ held

-- as many bytes were taken
abbrev pub Takes : Option (List ℕ) → Option (List ℕ) → ℕ → Type 0
Takes old new count = (bytes : List ℕ) × (length bytes ≡ count) × Consumes old new bytes

-- at most so many bytes were taken
abbrev pub TakesAtMost : Option (List ℕ) → Option (List ℕ) → ℕ → Type 0
TakesAtMost old new most = (bytes : List ℕ) × (length bytes ≤ most) × Consumes old new bytes

-- a front of the bytes was appended
abbrev pub AppendsFront : Option (List ℕ) → Option (List ℕ) → List ℕ → Type 0
AppendsFront old new bytes = (count : ℕ) × (count ≤ length bytes) × Appends old new
    (take count bytes)
