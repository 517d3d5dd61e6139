-- What a value is by the token that it begins with.
use Rattle.std.proofs.Common.{◌≡◌, ◌<◌, ◌-◌, ℕ, zero, suc, List, ◌∷◌, true, false, Option}
use Rattle.std.proofs.Common.{Some, None, option_map, refl, sym, ap, ◌∙◌, subst, arith}
use Rattle.json.specs.Token.{Token}
use Rattle.json.specs.Json.{parse_map}
use Rattle.serde_json.specs.Data.{Num, Data, null, boolean, number, string, array, object, Items}
use Rattle.serde_json.specs.Data.{Members, no_members}
use Rattle.serde_json.specs.Read.{number_of}
use Rattle.cert_form.specs.Streams.{values, rests, entries, is_bracket, is_brace, is_null, text_in}
use Rattle.cert_form.specs.Streams.{number_in}
use Rattle.cert_form.proofs.Turns.{values_null, values_boolean, values_string, values_number}
use Rattle.cert_form.proofs.Turns.{values_none, values_array, values_object, values_no_array}
use Rattle.cert_form.proofs.Turns.{values_no_object}

abbrev pub Begun : Token → Data → Type 0
Begun Token.begin_object d = (ms : Members) × (d ≡ object ms)
Begun Token.begin_array d = (ds : Items) × (d ≡ array ds)
Begun (Token.string s) d = d ≡ string s
Begun (Token.number s) d = (n : Num) × (number_of s ≡ Some n) × (d ≡ number n)
Begun (Token.boolean b) d = d ≡ boolean b
Begun Token.null d = d ≡ null
Begun _ d = ⊥

abbrev first_or : {A : Type 0} → A → Option (A × List Token) → A
first_or a None = a
first_or a (Some p) = p.0

pub same_first : {A : Type 0} (a b : A) (r s : List Token) →
    ◌≡◌ {A = Option (A × List Token)} (Some (a, r)) (Some (b, s)) → a ≡ b
same_first a b r s e = ap (first_or a) e

pub of_map : {A B : Type 0} (f : A → B) (o : Option (A × List Token)) (b : B) (r : List Token) →
    parse_map f o ≡ Some (b, r) → (a : A) × (b ≡ f a)
of_map f None b r e = absurd (cc)
of_map f (Some (a, s)) b r e = (a, sym (same_first (f a) b s r e))

pub never : {A : Type 0} {P : Type 0} (o : Option A) (a : A) → o ≡ None → o ≡ Some a → P
never o a e f = absurd (cc)

object_begun : (depth : ℕ) (ts r : List Token) (d : Data) →
    values depth (Token.begin_object ∷ ts) ≡ Some (d, r) → (ms : Members) × (d ≡ object ms)
object_begun zero ts r d e =
    never (values zero (Token.begin_object ∷ ts)) (d, r) (values_no_object zero ts refl) e
object_begun (suc n) ts r d e =
    let some : 0 < suc n = omega arith in
    of_map object (entries no_members (suc n - 1) ts) d r (sym (values_object (suc n) ts some) ∙ e)

array_begun : (depth : ℕ) (ts r : List Token) (d : Data) →
    values depth (Token.begin_array ∷ ts) ≡ Some (d, r) → (ds : Items) × (d ≡ array ds)
array_begun zero ts r d e =
    never (values zero (Token.begin_array ∷ ts)) (d, r) (values_no_array zero ts refl) e
array_begun (suc n) ts r d e =
    let some : 0 < suc n = omega arith in
    of_map array (rests (suc n - 1) ts) d r (sym (values_array (suc n) ts some) ∙ e)

number_begun : (s : List ℕ) (ts r : List Token) (d : Data) (o : Option Num) → number_of s ≡ o →
    option_map {U = Data × List Token} (λ n. (number n, ts)) o ≡ Some (d, r) →
    (n : Num) × (number_of s ≡ Some n) × (d ≡ number n)
number_begun s ts r d None e f = absurd (cc)
number_begun s ts r d (Some n) e f = (n, e, sym (same_first (number n) d ts r f))

pub begun : (depth : ℕ) (t : Token) (ts r : List Token) (d : Data) →
    values depth (t ∷ ts) ≡ Some (d, r) → Begun t d
begun depth Token.begin_object ts r d e = object_begun depth ts r d e
begun depth Token.begin_array ts r d e = array_begun depth ts r d e
begun depth (Token.string s) ts r d e =
    sym (same_first (string s) d ts r (sym (values_string depth s ts) ∙ e))
begun depth (Token.number s) ts r d e =
    number_begun s ts r d (number_of s) refl
    (sym (values_number depth s ts (number_of s) refl) ∙ e)
begun depth (Token.boolean b) ts r d e =
    sym (same_first (boolean b) d ts r (sym (values_boolean depth b ts) ∙ e))
begun depth Token.null ts r d e =
    sym (same_first null d ts r (sym (values_null depth ts) ∙ e))
begun depth t ts r d e = never _ (d, r) (values_none depth t ts refl) e

-- what begins otherwise is another value

-- the token that a value begins with
abbrev Starts : Data → Token → Type 0
Starts null t = t ≡ Token.null
Starts (boolean b) t = t ≡ Token.boolean b
Starts (number n) t = (s : List ℕ) × (t ≡ Token.number s)
Starts (string s) t = t ≡ Token.string s
Starts (array ds) t = t ≡ Token.begin_array
Starts (object ms) t = t ≡ Token.begin_object

starts : (t : Token) (d e : Data) → Begun t d → d ≡ e → Starts e t
starts t d e b f = subst (λ x. Starts x t) f (by t b)
  where
    by : (t : Token) → Begun t d → Starts d t
    by Token.begin_object b = subst (λ x. Starts x Token.begin_object) (sym b.1) refl
    by Token.begin_array b = subst (λ x. Starts x Token.begin_array) (sym b.1) refl
    by (Token.string s) b = subst (λ x. Starts x (Token.string s)) (sym b) refl
    by (Token.number s) b = subst (λ x. Starts x (Token.number s)) (sym b.2) (s, refl)
    by (Token.boolean x) b = subst (λ y. Starts y (Token.boolean x)) (sym b) refl
    by Token.null b = subst (λ x. Starts x Token.null) (sym b) refl
    by t b = absurd b

pub no_list : (t : Token) (d : Data) → is_bracket t ≡ false → Begun t d → (ds : Items) →
    d ≡ array ds → ⊥
no_list t d e b ds f = cc (sym (ap is_bracket (starts t d (array ds) b f)) ∙ e)

pub no_object : (t : Token) (d : Data) → is_brace t ≡ false → Begun t d → (ms : Members) →
    d ≡ object ms → ⊥
no_object t d e b ms f = cc (sym (ap is_brace (starts t d (object ms) b f)) ∙ e)

pub no_text : (t : Token) (d : Data) → text_in t ≡ None → Begun t d → (w : List ℕ) →
    d ≡ string w → ⊥
no_text t d e b w f = cc (sym (ap text_in (starts t d (string w) b f)) ∙ e)

pub no_number : (t : Token) (d : Data) → number_in t ≡ None → Begun t d → (n : Num) →
    d ≡ number n → ⊥
no_number t d e b n f = cc (sym (ap number_in (starts t d (number n) b f).1) ∙ e)

pub no_null : (t : Token) (d : Data) → is_null t ≡ false → Begun t d → d ≡ null → ⊥
no_null t d e b f = cc (sym (ap is_null (starts t d null b f)) ∙ e)

pub null_is : (t : Token) → is_null t ≡ true → t ≡ Token.null
null_is Token.null e = refl
null_is t e = absurd (cc)
