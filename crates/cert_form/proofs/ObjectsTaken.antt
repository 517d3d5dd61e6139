-- What is taken of an object, a member at a time.
use Rattle.std.proofs.Common.{◌≡◌, ◌<◌, ◌-◌, ℕ, suc, arith, List, [], ◌∷◌, Bool, true, false}
use Rattle.std.proofs.Common.{Option, Some, None, Result, Ok, Err, refl, sym, ap, ◌∙◌, subst}
use Rattle.std.proofs.Common.{length, get_or}
use Rattle.json.specs.Token.{Token}
use Rattle.json.specs.Json.{read_key}
use Rattle.serde_json.specs.Data.{Data, object, Members, no_members, put}
use Rattle.serde_json.specs.Find.{get_member}
use Rattle.serde_json.proofs.Views.{get_member-put}
use Rattle.cert_form.specs.declared.passing.Unread.{Unread}
use Rattle.cert_form.specs.Streams.{values, entries, Took, BeginsObject, laid, nothing, with_at}
use Rattle.cert_form.specs.Streams.{ascend, AreHeld, IsHeldBy}
use Rattle.cert_form.proofs.Laid.{put_laid, not_laid, entries_keep, members_in}
use Rattle.cert_form.proofs.Tooks.{mapped, unread}
use Rattle.cert_form.proofs.Turns.{entries_over, entries_no_key, entries_more, entries_none}
use Rattle.cert_form.proofs.Turns.{values_object}

pub laid_nothing : (ks : List (List ℕ)) (n : ℕ) → laid n ks nothing ≡ no_members
laid_nothing [] n = refl
laid_nothing (k ∷ ks) n = laid_nothing ks (suc n)

module _ (keys : List (List ℕ)) (ordered : ascend keys ≡ true) (depth : ℕ)
    (whole : Option (Members × List Token)) (ts : List Token) (os : ℕ → Option Data)
    (is : whole ≡ entries (laid 0 keys os) depth ts) where
  pub over : (r : List Token) → read_key ts ≡ Some (None, r) → whole ≡ Some (laid 0 keys os, r)
  over r e = is ∙ entries_over (laid 0 keys os) depth ts r e

  pub no_key : read_key ts ≡ None → whole ≡ None
  no_key e = is ∙ entries_no_key (laid 0 keys os) depth ts e

  module _ (k : List ℕ) (s : List Token) (named : read_key ts ≡ Some (Some k, s)) where
    pub no_value : values depth s ≡ None → whole ≡ None
    no_value e = is ∙ entries_none (laid 0 keys os) depth ts k s named e

    pub known : (i : ℕ) (d : Data) (r : List Token) → i < length keys → get_or keys i [] ≡ k →
        values depth s ≡ Some (d, r) → whole ≡ entries (laid 0 keys (with_at i d os)) depth r
    known i d r h at e =
        is ∙ entries_more (laid 0 keys os) depth ts k s r d named e
        ∙ ap (λ ms. entries ms depth r) (ap (λ l. put l d (laid 0 keys os)) (sym at)
        ∙ put_laid keys i 0 i d os ordered h (omega arith))

    pub unknown : (d : Data) (r end : List Token) (ms : Members) →
        ((i : ℕ) → i < length keys → get_or keys i [] ≡ k → ⊥) →
        values depth s ≡ Some (d, r) →
        entries (put k d (laid 0 keys os)) depth r ≡ Some (ms, end) →
        (whole ≡ Some (ms, end)) × ((ps : ℕ → Option Data) → ms ≡ laid 0 keys ps → ⊥)
    unknown d r end ms other e f = (
      is ∙ entries_more (laid 0 keys os) depth ts k s r d named e ∙ f,
      (λ ps same.
          let stays = entries_keep k d (put k d (laid 0 keys os)) depth r end ms
          (get_member-put k d (laid 0 keys os)) f in
          let none = not_laid keys 0 ps k ordered other in
          cc (sym stays.1 ∙ ap (get_member k) same ∙ none)),
    )

module _ {F : Type 0} (keys : List (List ℕ)) (held : F → (ℕ → Option Data) → Type 0) (fields : F)
    (depth : ℕ) (old : List Token) where
  held_by : (b : Bool) (ms : Members) → AreHeld keys held fields b ms →
      IsHeldBy keys held fields b (object ms)
  held_by true ms h = (h.0, ap object h.1, h.2)
  held_by false ms h = λ os e. h os (ap members_in e)

  pub whole_object : (ts left : List Token) (r : Result Bool Unread) →
      (old ≡ Token.begin_object ∷ ts) × (0 < depth) →
      Took (AreHeld keys held fields) (entries no_members (depth - 1) ts) r left →
      Took (IsHeldBy keys held fields) (values depth old) r left
  whole_object ts left r is h =
      mapped object (AreHeld keys held fields) (IsHeldBy keys held fields)
      (entries no_members (depth - 1) ts) (values depth old)
      (ap (values depth) is.0 ∙ values_object depth ts is.1) held_by r left h

  pub object_taken : (b : Bool) (ts left : List Token) (r : Result Bool Unread) → b ≡ true →
      BeginsObject depth old (Ok b) ts →
      Took (AreHeld keys held fields) (entries no_members (depth - 1) ts) r left →
      Took (IsHeldBy keys held fields) (values depth old) r left
  object_taken b ts left r is begins h = whole_object ts left r (rw is at begins) h

  pub no_object_here : (left : List Token) → BeginsObject depth old (Ok false) left →
      Took (IsHeldBy keys held fields) (values depth old) (Ok false) left
  no_object_here left h = (h.0, h.1, λ os e. h.2 (laid 0 keys os) e)

  pub object_failed : (e : Unread) (left rest : List Token) (r : Result Bool Unread) →
      r ≡ Err e → BeginsObject depth old (Err e) rest →
      Took (IsHeldBy keys held fields) (values depth old) r left
  object_failed e left rest r is h =
      unread (λ x. Took (IsHeldBy keys held fields) (values depth old) x left) e r is
      (λ k. subst (λ x. BeginsObject depth old (Err x) rest) k h) tt
