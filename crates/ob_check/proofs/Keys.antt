-- The names of a scope and of a record's fields, as the bytes that their keys point to.
use Rattle.std.proofs.Common.{◌≡◌, ℕ, ◌+◌, Bool, true, false, not, cond, List, [], ◌∷◌, map, length}
use Rattle.std.proofs.Common.{Option, Some, None, is_some, refl, ◌++◌, Result, Ok, Err, IfOk, sym}
use Rattle.std.proofs.Common.{ap, ap₂, nat_lt, ◌∙◌, Bor, ◌||◌}
use Rattle.std.proofs.lemmas.List.{length-map}
use Rattle.std.proofs.lemmas.List.{map_push}
use Rattle.std.proofs.lemmas.Bool.{true≢false}
use Rattle.std.specs.List.{position, prefix_len, list_any}
use Rattle.std.specs.Str.{bytes_eq}
use Rattle.std.specs.Map.{lookup}
use Rattle.indexmap.specs.IndexMap.{insert_entry}
use Rattle.ob_syntax.specs.declared.checked.Meaning.{Meaning}
use Rattle.ob_syntax.specs.Names.{Scope, visible, is_declared, with_name}

abbrev pub Key : Type 0
Key = Bor (List ℕ)

abbrev pub Entry : Type 0
Entry = Key × Option Meaning

abbrev pub shown_as : List Entry → Scope
shown_as = map (λ entry. (entry.0.now, entry.1))

abbrev pub is_named : List ℕ → Key → Bool
is_named name k = bytes_eq name k.now

abbrev pub same_name : Key → Key → Bool
same_name k l = bytes_eq k.now l.now

abbrev pub flat : {A : Type 0} → Option (Option A) → Option A
flat (Some x) = x
flat None = None

one_more_visible : (t : Bool) (m v : Option Meaning) (l : Option (Option Meaning)) → v ≡ flat l →
    cond t m v ≡ flat (cond t (Some m) l)
one_more_visible true m v l h = refl
one_more_visible false m v l h = h

pub visible_lookup : (name : List ℕ) (es : List Entry) →
    visible name (shown_as es) ≡ flat (lookup (is_named name) es)
visible_lookup name [] = refl
visible_lookup name (e ∷ es) =
    one_more_visible (is_named name e.0) e.1 (visible name (shown_as es))
    (lookup (is_named name) es)
    (visible_lookup name es)

one_more_declared : (t d : Bool) (m : Option Meaning) (l : Option (Option Meaning)) →
    d ≡ is_some l → (t || d) ≡ is_some (cond t (Some m) l)
one_more_declared true d m l h = refl
one_more_declared false d m l h = h

pub declared_lookup : (name : List ℕ) (es : List Entry) →
    is_declared name (shown_as es) ≡ is_some (lookup (is_named name) es)
declared_lookup name [] = refl
declared_lookup name (e ∷ es) =
    one_more_declared (is_named name e.0) (is_declared name (shown_as es)) e.1
    (lookup (is_named name) es) (declared_lookup name es)

one_more_set : (t : Bool) (key : Key) (m : Option Meaning) (e : Entry) (es new : List Entry) →
    with_name key.now m (shown_as es) ≡ shown_as new
    → cond t ((e.0.now, m) ∷ shown_as es) ((e.0.now, e.1) ∷
    with_name key.now m (shown_as es)) ≡ shown_as (cond t ((e.0, m) ∷ es) (e ∷ new))
one_more_set true key m e es new h = refl
one_more_set false key m e es new h = ap (λ ds. (e.0.now, e.1) ∷ ds) h

pub with_name_entry : (key : Key) (m : Option Meaning) (es : List Entry) →
    with_name key.now m (shown_as es) ≡ shown_as (insert_entry same_name es key m)
with_name_entry key m [] = refl
with_name_entry key m (e ∷ es) =
    one_more_set (same_name key e.0) key m e es (insert_entry same_name es key m)
    (with_name_entry key m es)

-- ---- the place of a name

abbrev pub pointed : List Key → List (List ℕ)
pointed = map (λ k. k.now)

first_named : (name : List ℕ) (ks : List Key) →
    prefix_len (λ k. not (is_named name k)) ks ≡
    prefix_len (λ v. not (bytes_eq name v)) (pointed ks)
first_named name [] = refl
first_named name (k ∷ ks) =
    ap (λ n. cond (not (bytes_eq name k.now)) (1 + n) 0) (first_named name ks)

pub placed : (name : List ℕ) (ks : List Key) →
    position (is_named name) ks ≡ position (bytes_eq name) (pointed ks)
placed name ks =
    let long : length (pointed ks) ≡ length ks = simp length-map in
    ap₂ (λ m n. cond (nat_lt m n) (Some m) None) (first_named name ks) (sym long)

any_named : (name : List ℕ) (ks : List Key) →
    list_any (is_named name) ks ≡ list_any (bytes_eq name) (pointed ks)
any_named name [] = refl
any_named name (k ∷ ks) = ap (λ b. is_named name k || b) (any_named name ks)

-- whether one more key is new
pub new_key : (key : Key) (ks : List Key) (b : Bool) → b ≡ not (list_any (is_named key.now) ks) →
    b ≡ not (list_any (bytes_eq key.now) (pointed ks))
new_key key ks b h = h ∙ ap not (any_named key.now ks)

-- the keys with one more
pub with_key : (key : Key) (ks new : List Key) (b : Bool) →
    b ≡ not (list_any (is_named key.now) ks) →
    new ≡ cond (list_any (is_named key.now) ks) ks (ks ++ key ∷ [])
    → pointed new ≡ cond b (pointed ks ++ key.now ∷ []) (pointed ks)
with_key key ks new b h e = by b (list_any (is_named key.now) ks) h e
  where
    by : (b has : Bool) → b ≡ not has → new ≡ cond has ks (ks ++ key ∷ []) →
        pointed new ≡ cond b (pointed ks ++ key.now ∷ []) (pointed ks)
    by true false h e = ap pointed e ∙ map_push (λ (y : Key). y.now) ks key
    by false true h e = ap pointed e
    by true true h e = absurd (true≢false h)
    by false false h e = absurd (true≢false (sym h))

pub is_new_key : {E : Type 0} (key : Key) (ks : List Key) (r : Result Bool E) →
    IfOk r (λ b. b ≡ not (list_any (is_named key.now) ks)) →
    IfOk r (λ b. b ≡ not (list_any (bytes_eq key.now) (pointed ks)))
is_new_key key ks (Ok b) h = new_key key ks b h
is_new_key key ks (Err e) h = h

pub keys_after : {E : Type 0} (key : Key) (ks new : List Key) (r : Result Bool E) →
    IfOk r (λ b. b ≡ not (list_any (is_named key.now) ks)) →
    IfOk r (λ b. new ≡ cond (list_any (is_named key.now) ks) ks (ks ++ key ∷ []))
    → IfOk r (λ b. pointed new ≡ cond b (pointed ks ++ key.now ∷ []) (pointed ks))
keys_after key ks new (Ok b) h e = with_key key ks new b h e
keys_after key ks new (Err x) h e = h
