-- What is written over all elements of a vector.
use Rattle.std.proofs.Common.{◌≡◌, ℕ, List, ◌++◌, length, take, drop, ap, ◌∙◌, arith}
use Rattle.std.proofs.lemmas.List.{append-nil, drop_all, take_all}

pub written_back : {A : Type 0} (len : ℕ) (new items : List A) → length new ≡ length items
    → length items ≡ len → take len (new ++ drop (length new) items) ≡ new
written_back len new items same long =
    ap (λ ys. take len (new ++ ys)) (drop_all (length new) items (omega (arith, same)))
    ∙ ap (take len) (append-nil new) ∙ take_all len new (omega (arith, same, long))
