-- Names are text.
use Rattle.std.proofs.Common.{◌≡◌, ◌<◌, ℕ, true, ◌&&◌, nat_le, List, [], ◌∷◌, length, IsUtf8, arith}
use Rattle.std.specs.List.{list_all}
use Rattle.std.specs.Char.{is_ascii_alphabetic, is_ascii_alphanumeric}
use Rattle.std.proofs.lemmas.Bool.Decides.{nat_tests}
use Rattle.std.proofs.lemmas.Str.{IsUtf8-from_ascii}
use Rattle.std.proofs.lemmas.Str.Ascii.{IsAscii-nil, IsAscii-cons}
use Rattle.std.specs.Str.{IsAscii}
use Rattle.pra_list.proofs.Choices.{and_true}
use Rattle.cert_form.specs.CodeForm.{is_name}

letter_small : (b : ℕ) → is_ascii_alphabetic b ≡ true → b < 128
letter_small b h = grind (arith, nat_tests)

sign_small : (b : ℕ) → is_ascii_alphanumeric b ≡ true → b < 128
sign_small b h = grind (arith, nat_tests)

signs_small : (bs : List ℕ) → list_all is_ascii_alphanumeric bs ≡ true → IsAscii bs
signs_small [] h = IsAscii-nil
signs_small (b ∷ bs) h =
    let p = and_true (is_ascii_alphanumeric b) (list_all is_ascii_alphanumeric bs) h in
    IsAscii-cons b bs (sign_small b p.0) (signs_small bs p.1)

pub name_is_text : (name : List ℕ) → is_name name ≡ true → IsUtf8 name
name_is_text [] h = cc
name_is_text (b ∷ bs) h =
    let p = and_true (is_ascii_alphabetic b && list_all is_ascii_alphanumeric bs)
    (nat_le (length (b ∷ bs)) 255) h in
    let q = and_true (is_ascii_alphabetic b) (list_all is_ascii_alphanumeric bs) p.0 in
    IsUtf8-from_ascii (b ∷ bs)
    (IsAscii-cons b bs (letter_small b q.0) (signs_small bs q.1))
