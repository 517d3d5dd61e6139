-- What holds of each element of a list that is written out, as pairs within pairs.
use Rattle.std.proofs.Common.{◌≡◌, ℕ, zero, suc, List, [], ◌∷◌, All, Some, subst, arith}
use Rattle.std.specs.Prelude.{slice_get}
use Rattle.pra_list.specs.Each.{Each, EachAt}
use Rattle.std.proofs.lemmas.List.Elements.{All-head, All-tail, All-cons}

pub each_of_all : {X : Type 0} (P : X → Type 0) (xs : List X) → All P xs → Each P xs
each_of_all P [] h = tt
each_of_all P (x ∷ xs) h = (All-head P x xs h, each_of_all P xs (All-tail P x xs h))

pub all_of_each : {X : Type 0} (P : X → Type 0) (xs : List X) → Each P xs → All P xs
all_of_each P [] h = λ k d lt. absurd (omega arith)
all_of_each P (x ∷ xs) h = All-cons P x xs h.0 (all_of_each P xs h.1)

pub each_at : {X : Type 0} (P : ℕ → X → Type 0) (xs : List X) → EachAt P xs →
    (k : ℕ) (x : X) → slice_get xs k ≡ Some x → P k x
each_at P [] e k x h = cc
each_at P (y ∷ ys) e zero x h = let same : y ≡ x = cc in subst (λ z. P 0 z) same e.0
each_at P (y ∷ ys) e (suc k) x h = each_at (λ k. P (suc k)) ys e.1 k x h
