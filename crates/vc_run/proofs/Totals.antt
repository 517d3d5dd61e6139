-- Reads past the end.
use Rattle.std.proofs.Common.{◌≡◌, ℕ, List, Some, None, ap, ◌∙◌, slice_get, slice_index_or}
use Rattle.std.specs.Option.{unwrap_or}
use Rattle.std.proofs.lemmas.Option.{unwrap_or-slice_get}

pub past_is : {X : Type 0} (xs : List X) (i : ℕ) (d : X) → None ≡ slice_get xs i →
    d ≡ slice_index_or xs i d
past_is xs i d past = ap (λ o. unwrap_or o d) past ∙ unwrap_or-slice_get xs i d

pub there_is : {X : Type 0} (xs : List X) (i : ℕ) (d x : X) → Some x ≡ slice_get xs i →
    x ≡ slice_index_or xs i d
there_is xs i d x there = ap (λ o. unwrap_or o d) there ∙ unwrap_or-slice_get xs i d
