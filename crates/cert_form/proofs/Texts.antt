-- What the text of a plain value is, and what is read of it.
use Rattle.std.proofs.Common.{◌≡◌, ℕ, ◌≤◌, false, List, [], ◌∷◌, ◌++◌, Some, ap, ◌∙◌, IsUtf8}
use Rattle.json.specs.Lex.{tokens}
use Rattle.json.specs.Print.{print}
use Rattle.serde_json.specs.Data.{Data, depth}
use Rattle.serde_json.specs.Read.{read, max_depth}
use Rattle.serde_json.specs.Written.{has_float, compact_text, IsInOrder}
use Rattle.cert_form.specs.Form.{line_text}
use Rattle.cert_form.specs.Plain.{IsPlain}
use Rattle.cert_form.specs.Whole.{IsReadAs}
use Rattle.cert_form.proofs.LineFeed.{line_read}

module _ (part d : Data) (is : d ≡ part) (plain : IsPlain max_depth part) where
  no_float : has_float d ≡ false
  no_float = ap has_float is ∙ plain.whole

  shallow : depth d ≤ max_depth
  shallow = rw is plain.shallow

  pub text_written : (b t : List ℕ) → (has_float d ≡ false → b ≡ compact_text d) →
      t ≡ b ++ 10 ∷ [] → t ≡ line_text part
  text_written b t f e = e ∙ ap (λ l. l ++ 10 ∷ []) (f no_float ∙ ap compact_text is)

  pub text_back : (b t : List ℕ) → b ≡ print (tokens b) → IsUtf8 b → IsInOrder b d →
      (depth d ≤ max_depth → read b ≡ Some d) → t ≡ b ++ 10 ∷ [] → IsReadAs t part
  text_back b t printed utf8 order back e =
      rw e (rw is at (line_read b d printed order no_float utf8 (back shallow)))
