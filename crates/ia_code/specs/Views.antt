-- What a reader of bytes gives.
use Rattle.std.specs.Prelude.{◌≡◌, Option, Some, None, Result, Ok, Err}

-- what a function returned, seen by view, is what reading gives
abbrev pub Gives : {X Y : Type 0} → (X → Y) → Option X → Option Y → Type 0
Gives view None read = read ≡ None
Gives view (Some x) read = read ≡ Some (view x)

-- a result that is there exactly where reading gives something
abbrev pub Finds : {X E : Type 0} → Result X E → Option X → Type 0
Finds (Ok x) read = read ≡ Some x
Finds (Err e) read = read ≡ None
