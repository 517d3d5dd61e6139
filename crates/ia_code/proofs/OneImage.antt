-- An image file holds one image.
use Rattle.std.proofs.Common.{◌≡◌, ℕ, List, sym, ap, ◌∙◌, arith, take, drop}
use Rattle.std.proofs.lemmas.Nat.{from_le_bytes-to_le_bytes_4}
use Rattle.std.specs.Int.{w32, from_le_bytes}
use Rattle.ia_code.specs.declared.image.Image.{Image}
use Rattle.ia_code.specs.Image.{IsImage, image_bytes_of}

-- the number of data words stands behind twelve bytes
words_back : (image : Image) → IsImage image →
    from_le_bytes w32 (take 4 (drop 12 (image_bytes_of image))) ≡ image.data_words
words_back image is = from_le_bytes-to_le_bytes_4 image.data_words (omega (arith, is.data_words))

made : List ℕ → ℕ → Image
made code words = record { code = code; data_words = words }

pub one_image : (a b : Image) → IsImage a → IsImage b → image_bytes_of a ≡ image_bytes_of b → a ≡ b
unfolding made
one_image a b p q e =
    let code : a.code ≡ b.code = ap (drop 16) e in
    let words : a.data_words ≡ b.data_words =
    sym (words_back a p) ∙ ap (λ l. from_le_bytes w32 (take 4 (drop 12 l))) e ∙ words_back b q in
    ap (λ c. made c a.data_words) code ∙ ap (made b.code) words
