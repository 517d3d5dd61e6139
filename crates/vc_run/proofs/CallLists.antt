-- The calls that wait, where one more comes or goes.
use Rattle.std.proofs.Common.{◌≡◌, List, [], ◌∷◌, ◌++◌, length, map, reverse, replicate}
use Rattle.std.proofs.Common.{refl, sym, ap, ◌∙◌}
use Rattle.std.proofs.lemmas.List.{reverse-append, map-append}
use Rattle.vc_code.specs.Machine.{Activation}
use Rattle.vc_code.specs.Selected.{Vars}
use Rattle.vc_run.specs.declared.live.LiveCall.{LiveCall}
use Rattle.vc_run.specs.Calls.{call_of, calls_of}

pub calls_of-push : (calls : List LiveCall) (c : LiveCall) → calls_of (calls ++ c ∷ []) ≡
    call_of c ∷ calls_of calls
calls_of-push calls c = ap reverse (map-append call_of calls (c ∷ []))
    ∙ reverse-append (map call_of calls) (call_of c ∷ [])

pub latest_first : (calls : List (Activation Vars)) (top : Activation Vars) →
    reverse (calls ++ top ∷ []) ≡ top ∷ reverse calls
latest_first calls top = reverse-append calls (top ∷ [])

pub replicate-map : {A B : Type 0} (b : B) (xs : List A) → replicate (length xs) b ≡ map (λ x. b) xs
replicate-map b [] = refl
replicate-map b (x ∷ xs) = ap (λ ys. b ∷ ys) (replicate-map b xs)

pub map-reverse : {A B : Type 0} (f : A → B) (xs : List A) → map f (reverse xs) ≡ reverse (map f xs)
map-reverse f [] = refl
map-reverse f (x ∷ xs) =
    ap (map f) (reverse-append (x ∷ []) xs) ∙ map-append f (reverse xs) (x ∷ [])
    ∙ ap (λ l. l ++ f x ∷ []) (map-reverse f xs) ∙ sym (reverse-append (f x ∷ []) (map f xs))

pub map-map : {A B C : Type 0} (f : A → B) (g : B → C) (xs : List A) →
    map g (map f xs) ≡ map (λ x. g (f x)) xs
map-map f g [] = refl
map-map f g (x ∷ xs) = ap (λ l. g (f x) ∷ l) (map-map f g xs)
