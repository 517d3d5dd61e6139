-- A form: which parts are whole, the value of each, and what is found of a value. Whole parts are
-- found again of their values; so each value is of one.
use Rattle.std.proofs.Common.{◌≡◌, ℕ, List, Option, Some, None, refl, sym, ap, ◌∙◌}
use Rattle.serde_json.specs.Data.{Data}
use Rattle.pra_list.proofs.Options.{some_same}
use Rattle.cert_form.specs.Whole.{IsReadAs}

-- bytes are read as one value
pub one_reading : (bytes : List ℕ) (a b : Data) → IsReadAs bytes a → IsReadAs bytes b → a ≡ b
one_reading bytes a b h k = some_same a b (sym h.1 ∙ k.1)

module _ {A : Type 0} (Whole : A → Type 0) (data_of : A → Data) (found : Data → Option A)
    (back : (x : A) → Whole x → found (data_of x) ≡ Some x) where
  -- nothing is found
  pub of_none : (d : Data) → found d ≡ None → (o : A) → Whole o → d ≡ data_of o → ⊥
  of_none d e o h f = cc (sym e ∙ ap found f ∙ back o h)

  -- what is found is the only one
  pub only : (d : Data) (x : A) → found d ≡ Some x → (o : A) → Whole o → d ≡ data_of o → o ≡ x
  only d x e o h f = some_same o x (sym (back o h) ∙ sym (ap found f) ∙ e)

  pub one : (a b : A) → Whole a → Whole b → data_of a ≡ data_of b → a ≡ b
  one a b h k e = only (data_of a) b (ap found e ∙ back b k) a h refl
