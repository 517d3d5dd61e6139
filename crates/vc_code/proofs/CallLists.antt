-- The calls that wait, where one more comes or goes, and the arguments of a call by number.
use Rattle.std.proofs.Common.{◌≡◌, ℕ, List, [], ◌∷◌, ◌++◌, length, map, reverse, replicate, take}
use Rattle.std.proofs.Common.{◌≤◌, refl, ap, ◌∙◌, arith}
use Rattle.std.proofs.lemmas.List.{reverse-append, map-append, length-map, length-reverse}
use Rattle.std.proofs.lemmas.List.{take-append-le, take-map}
use Rattle.vc_code.specs.declared.live.LiveCall.{LiveCall}
use Rattle.vc_code.specs.Stands.{call_of, calls_of}

pub calls_of-push : (calls : List LiveCall) (c : LiveCall) → calls_of (calls ++ c ∷ []) ≡
    call_of c ∷ calls_of calls
calls_of-push calls c = ap reverse (map-append call_of calls (c ∷ []))
    ∙ reverse-append (map call_of calls) (call_of c ∷ [])

pub length-calls_of : (calls : List LiveCall) → length (calls_of calls) ≡ length calls
length-calls_of calls = length-reverse (map call_of calls) ∙ length-map calls call_of

pub latest_first : (calls : List LiveCall) (top : LiveCall) →
    reverse (map call_of calls ++ call_of top ∷ []) ≡ call_of top ∷ calls_of calls
latest_first calls top = reverse-append (map call_of calls) (call_of top ∷ [])

pub replicate-map : {A B : Type 0} (b : B) (xs : List A) → replicate (length xs) b ≡ map (λ x. b) xs
replicate-map b [] = refl
replicate-map b (x ∷ xs) = ap (λ ys. b ∷ ys) (replicate-map b xs)

-- of all live calls the first so many, which wait
pub waiting_first : (calls : List LiveCall) (top : LiveCall) (n : ℕ) → n ≤ length calls →
    reverse (take n (map call_of calls ++ call_of top ∷ [])) ≡ calls_of (take n calls)
waiting_first calls top n within =
    ap reverse (take-append-le n (map call_of calls) (call_of top ∷ [])
    (omega (arith, length-map calls call_of)) ∙ take-map call_of n calls)
