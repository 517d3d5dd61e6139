-- What is taken of a list, an item at a time, and of a value whose bracket or brace was taken.
use Rattle.std.proofs.Common.{◌≡◌, ◌<◌, ◌-◌, ℕ, List, ◌∷◌, Bool, true, false, Option, Some, None}
use Rattle.std.proofs.Common.{Result, Ok, Err, refl, sym, ap, ◌∙◌, subst}
use Rattle.json.specs.Token.{Token}
use Rattle.json.specs.Json.{parse_map, after_end_array}
use Rattle.serde_json.specs.Data.{Data, array, Items, no_items, item}
use Rattle.cert_form.specs.declared.passing.Unread.{Unread}
use Rattle.cert_form.specs.Streams.{values, rests, Took, IsAnswer, IsListAnswer, TookItem}
use Rattle.cert_form.specs.Streams.{BeginsList, BeginsObject, is_bracket, is_brace}
use Rattle.cert_form.proofs.Begun.{begun, no_list, no_object}
use Rattle.cert_form.proofs.Gathered.{first_same}
use Rattle.cert_form.proofs.Tooks.{mapped, unread}
use Rattle.cert_form.proofs.Turns.{rests_over, rests_more, rests_none, values_array}

module _ {A : Type 0} (form : A → Data) (fits : A → Type 0) (depth : ℕ) (ts : List Token) where
  pub no_item_left : (r : List Token) → after_end_array ts ≡ Some r →
      TookItem form fits depth ts (Ok None) r
  no_item_left r e = (no_items, rests_over depth ts r e, λ x more h f. cc)

  module _ (now : List Token) (going : (after_end_array ts ≡ None) × (now ≡ ts)) where
    value_here : (d : Data) (r : List Token) → values depth now ≡ Some (d, r) →
        values depth ts ≡ Some (d, r)
    value_here d r e = ap (values depth) (sym going.1) ∙ e

    pub item_here : (d : Data) (r : List Token) (x : A) (found : Option A) → found ≡ Some x →
        values depth now ≡ Some (d, r) → IsAnswer form fits found d →
        TookItem form fits depth ts (Ok (Some x)) r
    item_here d r x found is e h =
        let a = rw is at h in (
          rests_more depth ts d r going.0 (value_here d r e)
              ∙ ap (λ k. parse_map (item k) (rests depth r)) a.0,
          a.1,
        )

    pub other_item : (d : Data) (r s : List Token) (ds : Items) (found : Option A) →
        found ≡ None → values depth now ≡ Some (d, r) → IsAnswer form fits found d →
        rests depth r ≡ Some (ds, s) → TookItem form fits depth ts (Ok None) s
    other_item d r s ds found is e h more =
        let a = rw is at h in (
          item d ds,
          rests_more depth ts d r going.0 (value_here d r e) ∙ ap (parse_map (item d)) more,
          λ x others k f. a x k (first_same d (form x) ds others f),
        )

    pub no_value : {B : Type 0} (P : B → Data → Type 0) (e : Unread)
        (r : Result (Option A) Unread) (left rest : List Token) → r ≡ Err e →
        Took P (values depth now) (Err e) rest → TookItem form fits depth ts r left
    no_value P e r left rest is h =
        unread (λ x. TookItem form fits depth ts x left) e r is (λ k. rests_none depth ts going.0
        (ap (values depth) (sym going.1)
        ∙ subst (λ x. Took P (values depth now) (Err x) rest) k h)) tt

    pub no_rest : {B : Type 0} (P : B → Items → Type 0) (d : Data) (m : List Token) (e : Unread)
        (r : Result (Option A) Unread) (left rest : List Token) → values depth now ≡ Some (d, m) →
        r ≡ Err e → Took P (rests depth m) (Err e) rest → TookItem form fits depth ts r left
    no_rest P d m e r left rest read is h =
        unread (λ x. TookItem form fits depth ts x left) e r is (λ k.
        rests_more depth ts d m going.0 (value_here d m read)
        ∙ ap (parse_map (item d)) (subst (λ x. Took P (rests depth m) (Err x) rest) k h)) tt

-- A bracket or a brace that was not taken.

pub another_value : (depth : ℕ) (t : Token) (ts old r : List Token) (d : Data) → old ≡ t ∷ ts →
    is_bracket t ≡ false → values depth (t ∷ ts) ≡ Some (d, r) →
    BeginsList depth old (Ok false) r
another_value depth t ts old r d is other e =
    (d, ap (values depth) is ∙ e, no_list t d other (begun depth t ts r d e))

pub another_than_object : (depth : ℕ) (t : Token) (ts old r : List Token) (d : Data) →
    old ≡ t ∷ ts → is_brace t ≡ false → values depth (t ∷ ts) ≡ Some (d, r) →
    BeginsObject depth old (Ok false) r
another_than_object depth t ts old r d is other e =
    (d, ap (values depth) is ∙ e, no_object t d other (begun depth t ts r d e))

-- the token that was taken
pub bracket_is : (t : Token) → is_bracket t ≡ true → t ≡ Token.begin_array
bracket_is Token.begin_array e = refl
bracket_is t e = absurd (cc)

pub brace_is : (t : Token) → is_brace t ≡ true → t ≡ Token.begin_object
brace_is Token.begin_object e = refl
brace_is t e = absurd (cc)

-- What is told of what is left of a list is told of the list.

pub whole_list : {A : Type 0} (form : A → Data) (fits : A → Type 0) (depth : ℕ)
    (old ts : List Token) (r : Result (Option A) Unread) (left : List Token) →
    (old ≡ Token.begin_array ∷ ts) × (0 < depth) →
    Took (IsListAnswer form fits) (rests (depth - 1) ts) r left →
    Took (IsAnswer form fits) (values depth old) r left
whole_list form fits depth old ts r left is h =
    mapped array (IsListAnswer form fits) (IsAnswer form fits) (rests (depth - 1) ts)
    (values depth old) (ap (values depth) is.0 ∙ values_array depth ts is.1) (λ x d k. k) r left h

pub list_taken : {A : Type 0} (form : A → Data) (fits : A → Type 0) (depth : ℕ) (b : Bool)
    (old ts : List Token) (r : Result (Option A) Unread) (left : List Token) → b ≡ true →
    BeginsList depth old (Ok b) ts → Took (IsListAnswer form fits) (rests (depth - 1) ts) r left →
    Took (IsAnswer form fits) (values depth old) r left
list_taken form fits depth b old ts r left is begins h =
    whole_list form fits depth old ts r left (rw is at begins) h

pub no_list_here : {A : Type 0} (form : A → Data) (fits : A → Type 0) (depth : ℕ)
    (old left : List Token) →
    ((x : A) → (ds : Items) × (form x ≡ array ds)) → BeginsList depth old (Ok false) left →
    Took (IsAnswer form fits) (values depth old) (Ok None) left
no_list_here form fits depth old left lists h =
    (h.0, h.1, λ x k f. h.2 (lists x).0 (f ∙ (lists x).1))

pub list_failed : {A : Type 0} (form : A → Data) (fits : A → Type 0) (depth : ℕ)
    (old left rest : List Token) (e : Unread) (r : Result (Option A) Unread) → r ≡ Err e →
    BeginsList depth old (Err e) rest → Took (IsAnswer form fits) (values depth old) r left
list_failed form fits depth old left rest e r is h =
    unread (λ x. Took (IsAnswer form fits) (values depth old) x left) e r is
    (λ k. subst (λ x. BeginsList depth old (Err x) rest) k h) tt
