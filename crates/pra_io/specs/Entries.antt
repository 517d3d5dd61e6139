-- The files of a folder in memory, as a list of names with what they hold.
use Rattle.std.specs.Prelude.{◌≡◌, ℕ, List, [], ◌∷◌, None, Some, if◌then◌else◌, String, Vec}
use Rattle.std.specs.Prelude.{string_bytes, ⊤}
use Rattle.std.specs.declared.option.Option.{Option}
use Rattle.std.specs.declared.alloc.Global.{Global}
use Rattle.std.specs.Str.{bytes_eq}

-- a name and what it holds
abbrev pub Entry : Type 0
Entry = String Global × Vec ℕ Global

-- what the first entry of this name holds
abbrev pub held_at : List ℕ → List Entry → Option (List ℕ)
held_at name [] = None
held_at name (e ∷ es) = if bytes_eq (string_bytes e.0) name then Some e.1.items else held_at name es

-- no two entries have one name
abbrev pub AreDifferent : List Entry → Type 0
AreDifferent [] = ⊤
AreDifferent (e ∷ es) = (held_at (string_bytes e.0) es ≡ None) × AreDifferent es
