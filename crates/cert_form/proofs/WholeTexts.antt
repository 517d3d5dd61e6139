-- What a text is, by what its tokens begin with.
use Rattle.std.proofs.Common.{◌≡◌, ℕ, List, [], ◌∷◌, Option, Some, None, Result, Ok, Err, refl, sym}
use Rattle.std.proofs.Common.{ap, ◌∙◌, subst, option_and_then, IsUtf8}
use Rattle.json.specs.Token.{Token}
use Rattle.json.specs.Lex.{tokens}
use Rattle.json.specs.Json as json
use Rattle.json.specs.Json.{value, if_last}
use Rattle.serde_json.specs.Data.{Data}
use Rattle.serde_json.specs.Read.{of_json, read, converted, max_depth}
use Rattle.cert_form.specs.declared.passing.Unread.{Unread}
use Rattle.cert_form.specs.declared.passing.Unread.TheVariants.{NotJson, OutOfMemory}
use Rattle.cert_form.specs.Streams.{values, Took, IsAnswer, IsPartOf, IsPartRead}
use Rattle.cert_form.proofs.Tooks.{unread}
use Rattle.cert_form.proofs.Turns.{converted_some, refused}

abbrev whole : Option (json.Json × List Token) → Option Data
whole o = option_and_then of_json (option_and_then (λ p. if_last p.0 p.1) o)

none_read : (o : Option (json.Json × List Token)) → converted of_json o ≡ None → whole o ≡ None
none_read None e = refl
none_read (Some (j, [])) e = refused [] (of_json j) e
none_read (Some (j, t ∷ r)) e = refl

module _ (text : List ℕ) where
  pub read_whole : (d : Data) → values max_depth (tokens text) ≡ Some (d, []) →
      read text ≡ Some d
  unfolding values
  read_whole d e =
      let j = converted_some of_json (value max_depth (tokens text)) d [] e in
      ap whole j.1 ∙ j.2

  pub read_more : (d : Data) (t : Token) (r : List Token) →
      values max_depth (tokens text) ≡ Some (d, t ∷ r) → read text ≡ None
  unfolding values
  read_more d t r e =
      ap whole (converted_some of_json (value max_depth (tokens text)) d (t ∷ r) e).1

  pub read_none : values max_depth (tokens text) ≡ None → read text ≡ None
  unfolding values
  read_none e = none_read (value max_depth (tokens text)) e

-- what was read of a text is read of its bytes
pub part_read : {A : Type 0} (form : A → Data) (fits : A → Type 0) (bytes text : List ℕ)
    (r : Result (Option A) Unread) → IsUtf8 bytes → text ≡ bytes →
    IsPartOf form fits (read text) r → IsPartRead form fits bytes r
part_read form fits bytes text (Ok found) utf8 is h =
    (h.0, (utf8, ap read (sym is) ∙ h.1), h.2)
part_read form fits bytes text (Err NotJson) utf8 is h =
    λ d k. cc (sym k.1 ∙ ap read (sym is) ∙ h)
part_read form fits bytes text (Err OutOfMemory) utf8 is h = tt

pub part_failed : {A : Type 0} (form : A → Data) (fits : A → Type 0) (text : List ℕ)
    (ts left : List Token) (e : Unread) (r : Result (Option A) Unread) → r ≡ Err e →
    ts ≡ tokens text → Took (IsAnswer form fits) (values max_depth ts) (Err e) left →
    IsPartOf form fits (read text) r
part_failed form fits text ts left e r is same h =
    unread (λ x. IsPartOf form fits (read text) x) e r is (λ k.
    read_none text (ap (values max_depth) (sym same)
    ∙ subst (λ x. Took (IsAnswer form fits) (values max_depth ts) (Err x) left) k h)) tt
