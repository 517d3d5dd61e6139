-- What a call that may fault leaves of a state, told by a function from the old state.
use Rattle.std.specs.Prelude.{◌≡◌, Result, Ok, Err}

-- the state that is wanted on Ok; on Err the fault that is wanted, and the old state
abbrev pub OnResult : {S E X : Type 0} → S → S → Result X E → Result S E → Type 0
OnResult old new (Ok x) wanted = wanted ≡ Ok new
OnResult old new (Err e) wanted = (wanted ≡ Err e) × (new ≡ old)

-- the same, with a value that is returned before the state
abbrev pub OnResultWith : {S E X : Type 0} → S → S → Result X E → Result (X × S) E → Type 0
OnResultWith old new (Ok x) wanted = wanted ≡ Ok (x, new)
OnResultWith old new (Err e) wanted = (wanted ≡ Err e) × (new ≡ old)

-- the same, with an answer that is told after the state
abbrev pub OnDone : {S E X : Type 0} → S → S → Result X E → Result (S × X) E → Type 0
OnDone old new (Ok x) wanted = wanted ≡ Ok (new, x)
OnDone old new (Err e) wanted = (wanted ≡ Err e) × (new ≡ old)
