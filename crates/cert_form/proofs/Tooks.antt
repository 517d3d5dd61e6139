-- How what was taken of tokens is carried on.
use Rattle.std.proofs.Common.{◌≡◌, List, Option, Some, None, Result, Ok, Err, refl, sym, ap, ◌∙◌}
use Rattle.std.proofs.Common.{subst}
use Rattle.json.specs.Token.{Token}
use Rattle.json.specs.Json.{parse_map}
use Rattle.cert_form.specs.declared.passing.Unread.{Unread}
use Rattle.cert_form.specs.declared.passing.Unread.TheVariants.{NotJson, OutOfMemory}
use Rattle.cert_form.specs.Streams.{Took}

pub as_before : {D : Type 0} (o : Option (D × List Token)) → o ≡ parse_map (λ d. d) o
as_before None = refl
as_before (Some p) = refl

pub map_twice : {C D E : Type 0} (f : D → E) (g : C → D) (o : Option (C × List Token)) →
    parse_map f (parse_map g o) ≡ parse_map (λ c. f (g c)) o
map_twice f g None = refl
map_twice f g (Some p) = refl

-- a part of it is what was taken
pub mapped : {A D E : Type 0} (f : D → E) (P : A → D → Type 0) (Q : A → E → Type 0)
    (o : Option (D × List Token)) (p : Option (E × List Token)) → p ≡ parse_map f o →
    ((x : A) (d : D) → P x d → Q x (f d)) → (r : Result A Unread) (left : List Token) →
    Took P o r left → Took Q p r left
mapped f P Q o p e g (Ok x) left h = (f h.0, e ∙ ap (parse_map f) h.1, g x h.0 h.2)
mapped f P Q o p e g (Err NotJson) left h = e ∙ ap (parse_map f) h
mapped f P Q o p e g (Err OutOfMemory) left h = tt

-- what is owed where there is a fault, by its kind
pub unread : {R : Type 0} (T : Result R Unread → Type 0) (e : Unread) (r : Result R Unread) →
    r ≡ Err e → (e ≡ NotJson → T (Err NotJson)) → T (Err OutOfMemory) → T r
unread T e r is none full = subst T (sym is) (told e none)
  where
    told : (e : Unread) → (e ≡ NotJson → T (Err NotJson)) → T (Err e)
    told NotJson none = none refl
    told OutOfMemory none = full

-- a fault of a part is one of the whole
pub failed : {A B D E : Type 0} (P : A → D → Type 0) (Q : B → E → Type 0)
    (o : Option (D × List Token)) (p : Option (E × List Token)) (left rest : List Token)
    (e : Unread) (r : Result B Unread) → r ≡ Err e → (o ≡ None → p ≡ None) →
    Took P o (Err e) left → Took Q p r rest
failed P Q o p left rest e r is none h =
    unread (λ x. Took Q p x rest) e r is (λ k. none (subst (λ x. Took P o (Err x) left) k h)) tt

pub no_json : {A D : Type 0} (P : A → D → Type 0) (p : Option (D × List Token))
    (rest : List Token) (r : Result A Unread) → r ≡ Err NotJson → p ≡ None → Took P p r rest
no_json P p rest r is none = subst (λ x. Took P p x rest) (sym is) none
