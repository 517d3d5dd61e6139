-- An image file without a broken field is the file of one valid image.
use Rattle.std.proofs.Common.{◌≡◌, ℕ, ◌+◌, ◌≤◌, Bool, true, false, List, ◌++◌, length, Option, Some}
use Rattle.std.proofs.Common.{None, refl, sym, ap, ◌∙◌, arith, take, drop, take-append-drop}
use Rattle.std.proofs.Common.{length-take, length-drop, nat_le, drop-drop}
use Rattle.std.specs.Prelude.{◌&&◌, ◌==◌, not, if◌then◌else◌}
use Rattle.std.proofs.lemmas.Bool.Decides.{nat_tests}
use Rattle.std.proofs.lemmas.Nat.{le_bytes_4, from_le_bytes-to_le_bytes_4}
use Rattle.ia_code.specs.declared.image.Image.{Image}
use Rattle.ia_code.specs.Image.{magic, version, header_bytes, max_code_bytes, max_data_words}
use Rattle.ia_code.specs.Image.{IsImage, number, image_bytes_of}
use Rattle.ia_code.specs.DecodeTable.{IsBytes}
use Rattle.ia_code.proofs.OperandsReadAreSpelled.{is_same, both, take_bytes, drop_bytes}
use Rattle.ia_asm.specs.declared.image_file.Field.{Field}
use Rattle.ia_asm.specs.declared.image_file.Field.TheVariants.{Length, Magic, Version, CodeLength}
use Rattle.ia_asm.specs.declared.image_file.Field.TheVariants.{DataWords}
use Rattle.ia_asm.specs.Rules.{number_at, keeps, broken}

-- From the search for a broken field to the facts of each.

passed : (b : Bool) (field : Field) (r : Option Field) → (if not b then Some field else r) ≡ None →
    (b ≡ true) × (r ≡ None)
passed true field r e = (refl, e)
passed false field r e = cc

at_most : (m n : ℕ) → nat_le m n ≡ true → m ≤ n
at_most m n h = grind (arith, nat_tests)

at_most_true : (m n : ℕ) → m ≤ n → nat_le m n ≡ true
at_most_true m n h = grind (arith, nat_tests)

record Kept (bytes : List ℕ) : Type 0 where
  long : header_bytes ≤ length bytes
  magic : number_at 0 bytes ≡ magic
  version : number_at 4 bytes ≡ version
  code_some : 1 ≤ number_at 8 bytes
  code_most : number_at 8 bytes ≤ max_code_bytes
  code_all : length bytes ≡ header_bytes + number_at 8 bytes
  words : number_at 12 bytes ≤ max_data_words

kept : (bytes : List ℕ) → broken bytes ≡ None → Kept bytes
kept bytes e =
    let a = passed (keeps bytes Length) Length _ e in
    let b = passed (keeps bytes Magic) Magic _ a.1 in
    let c = passed (keeps bytes Version) Version _ b.1 in
    let d = passed (keeps bytes CodeLength) CodeLength _ c.1 in
    let f = passed (keeps bytes DataWords) DataWords _ d.1 in
    let n = number_at 8 bytes in
    let p = both (nat_le 1 n && nat_le n max_code_bytes) (length bytes == header_bytes + n) d.0 in
    let q = both (nat_le 1 n) (nat_le n max_code_bytes) p.0 in
    record {
      long = at_most header_bytes (length bytes) a.0;
      magic = is_same (number_at 0 bytes) magic b.0;
      version = is_same (number_at 4 bytes) version c.0;
      code_some = at_most 1 n q.0;
      code_most = at_most n max_code_bytes q.1;
      code_all = is_same (length bytes) (header_bytes + n) p.1;
      words = at_most (number_at 12 bytes) max_data_words f.0;
    }

-- four bytes of a file are the number there
part : (k : ℕ) (bytes : List ℕ) → IsBytes bytes → k + 4 ≤ length bytes → drop k bytes ≡
    number (number_at k bytes) ++ drop (k + 4) bytes
part k bytes is h =
    let four : length (take 4 (drop k bytes)) ≡ 4 =
    omega (arith, length-take 4 (drop k bytes), length-drop k bytes) in
    let spelled = le_bytes_4 (take 4 (drop k bytes)) (number_at k bytes) four
    (take_bytes 4 (drop k bytes) (drop_bytes k bytes is)) refl in
    sym (take-append-drop 4 (drop k bytes)) ∙ ap (λ l. l ++ drop 4 (drop k bytes)) (sym spelled)
    ∙ ap (λ l. number (number_at k bytes) ++ l) (drop-drop 4 k bytes)

module _ (bytes : List ℕ) (is : IsBytes bytes) (e : broken bytes ≡ None) where
  -- what follows the header is the code
  code_length : length (drop header_bytes bytes) ≡ number_at 8 bytes
  code_length = omega (arith, length-drop header_bytes bytes, (kept bytes e).code_all)

  is_valid : (image : Image) → image.code ≡ drop header_bytes bytes → image.data_words ≡
      number_at 12 bytes → IsImage image
  is_valid image code words =
      let k = kept bytes e in
      let n : length image.code ≡ number_at 8 bytes = ap length code ∙ code_length in
      record {
        some_code = omega (arith, n, k.code_some);
        code = omega (arith, n, k.code_most);
        data_words = omega (arith, words, k.words);
      }

  spelled : (image : Image) → image.code ≡ drop header_bytes bytes → image.data_words ≡
      number_at 12 bytes → bytes ≡ image_bytes_of image
  spelled image code words =
      let k = kept bytes e in
      let n : length image.code ≡ number_at 8 bytes = ap length code ∙ code_length in
      part 0 bytes is (omega (arith, k.long))
      ∙ ap (λ m. number m ++ drop 4 bytes) k.magic
      ∙ ap (λ l. number magic ++ l)
      (part 4 bytes is (omega (arith, k.long)) ∙ ap (λ m. number m ++ drop 8 bytes) k.version)
      ∙ ap (λ l. number magic ++ (number version ++ l))
      (part 8 bytes is (omega (arith, k.long)) ∙ ap (λ m. number m ++ drop 12 bytes) (sym n))
      ∙ ap (λ l. number magic ++ (number version ++ (number (length image.code) ++ l)))
      (part 12 bytes is (omega (arith, k.long)) ∙ ap (λ m. number m ++ drop header_bytes bytes)
      (sym words) ∙ ap (λ l. number image.data_words ++ l) (sym code))

  -- such a file is the file of the image that is read from it
  pub image_read : (image : Image) → image.code ≡ drop header_bytes bytes → image.data_words ≡
      number_at 12 bytes → IsImage image × (bytes ≡ image_bytes_of image)
  image_read image code words = (is_valid image code words, spelled image code words)

all_kept : (bytes : List ℕ) → keeps bytes Length ≡ true → keeps bytes Magic ≡ true →
    keeps bytes Version ≡ true → keeps bytes CodeLength ≡ true → keeps bytes DataWords ≡ true →
    broken bytes ≡ None
all_kept bytes a b c d e = rw (a, b, c, d, e) refl

code_kept : (n long : ℕ) → 1 ≤ n → n ≤ max_code_bytes → long ≡ header_bytes + n →
    (nat_le 1 n && nat_le n max_code_bytes && (long == header_bytes + n)) ≡ true
code_kept n long l h e = rw (at_most_true 1 n l, at_most_true n max_code_bytes h)
    (grind (arith, nat_tests))

-- the file of a valid image has no broken field
pub broken-image_bytes_of : (image : Image) → IsImage image → broken (image_bytes_of image) ≡ None
broken-image_bytes_of image is =
    let n : number_at 8 (image_bytes_of image) ≡ length image.code = from_le_bytes-to_le_bytes_4
    (length image.code) (omega (arith, is.code)) in
    let words : number_at 12 (image_bytes_of image) ≡ image.data_words =
    from_le_bytes-to_le_bytes_4 image.data_words (omega (arith, is.data_words)) in
    all_kept (image_bytes_of image) (at_most_true header_bytes _ (omega arith)) refl refl
    (code_kept (number_at 8 (image_bytes_of image)) (length (image_bytes_of image))
    (omega (arith, n, is.some_code)) (omega (arith, n, is.code)) (omega (arith, n)))
    (at_most_true (number_at 12 (image_bytes_of image)) max_data_words
    (omega (arith, words, is.data_words)))
