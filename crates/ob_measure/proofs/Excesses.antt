-- The first number that is above its maximum.
use Rattle.std.proofs.Common.{◌≡◌, ℕ, ◌+◌, ◌<◌, Bool, true, false, List, [], ◌∷◌, ◌++◌, length}
use Rattle.std.proofs.Common.{get_or, drop, Option, Some, None, refl, sym, ap, ◌∙◌}
use Rattle.std.specs.Prelude.{nat_lt, if◌then◌else◌}
use Rattle.std.proofs.lemmas.List.{drop_more}
use Rattle.pra_base.specs.Limits.{limit_maximum}
use Rattle.pra_base.specs.declared.limit.LimitKind.{LimitKind}
use Rattle.ob_syntax.specs.declared.checked.Shape.{Shape}
use Rattle.ob_syntax.specs.Storage.{shape_words, words_after}
use Rattle.ob_syntax.specs.WellFormed.{Excess, first_above, or_then}

-- what is left of a list, by its first element
pub next_of : {A : Type 0} (xs : List A) (i : ℕ) (x : A) → i < length xs → x ≡ get_or xs i x →
    drop i xs ≡ x ∷ drop (i + 1) xs
next_of xs i x h is = drop_more xs i x h ∙ ap (λ y. y ∷ drop (i + 1) xs) (sym is)

chosen : (t : Bool) (e : Excess) (first later : Option Excess) →
    (if t then Some e else or_then first later) ≡ or_then (if t then Some e else first) later
chosen true e first later = refl
chosen false e first later = refl

pub first_above-append : (kind : LimitKind) (xs ys : List ℕ) → first_above kind (xs ++ ys) ≡
    or_then (first_above kind xs) (first_above kind ys)
first_above-append kind [] ys = refl
first_above-append kind (x ∷ xs) ys =
    let above = nat_lt (limit_maximum kind) x in
    ap (λ o. if above then Some (kind, x) else o) (first_above-append kind xs ys)
    ∙ chosen above (kind, x) (first_above kind xs) (first_above kind ys)

-- an excess of the types in front is that of all
pub first_above-words_after : (kind : LimitKind) (before : List ℕ) (shapes : List Shape)
    (e : Excess) →
    first_above kind before ≡ Some e → first_above kind (words_after before shapes) ≡ Some e
first_above-words_after kind before [] e h = h
first_above-words_after kind before (shape ∷ shapes) e h =
    first_above-words_after kind (before ++ shape_words before shape ∷ []) shapes e
    (first_above-append kind before (shape_words before shape ∷ [])
    ∙ ap (λ o. or_then o (first_above kind (shape_words before shape ∷ []))) h)

-- one more number, which is not above
pub first_above-push : (kind : LimitKind) (xs : List ℕ) (x : ℕ) → first_above kind xs ≡ None →
    nat_lt (limit_maximum kind) x ≡ false → first_above kind (xs ++ x ∷ []) ≡ None
first_above-push kind xs x h below =
    first_above-append kind xs (x ∷ []) ∙ ap (λ o. or_then o (first_above kind (x ∷ []))) h
    ∙ ap (λ (t : Bool). if t then Some (kind, x) else None) below

-- one more number, which is
pub first_above-over : (kind : LimitKind) (xs : List ℕ) (x : ℕ) → first_above kind xs ≡ None →
    nat_lt (limit_maximum kind) x ≡ true → first_above kind (xs ++ x ∷ []) ≡ Some (kind, x)
first_above-over kind xs x h above =
    first_above-append kind xs (x ∷ []) ∙ ap (λ o. or_then o (first_above kind (x ∷ []))) h
    ∙ ap (λ (t : Bool). if t then Some (kind, x) else None) above
