-- Doublewords in a list of bytes, least byte first (SDM volume 1, section 1.3.1). Each is behind
-- two words, word_in and with_word, and the lemmas of proofs/MemoryWords say all that is needed of
-- them.
use Rattle.std.specs.Prelude.{ℕ, ◌+◌, List, [], ◌∷◌, slice_index, slice_set, replicate}
use Rattle.std.specs.Int.{w32, from_le_bytes, to_le_bytes}

-- the doubleword at a place
unfoldable pub word_in : List ℕ → ℕ → ℕ
word_in m a =
    from_le_bytes w32 (
    slice_index m a ∷ slice_index m (a + 1) ∷ slice_index m (a + 2) ∷ slice_index m (a + 3) ∷ [])

-- the bytes with a doubleword put at a place
unfoldable pub with_word : List ℕ → ℕ → ℕ → List ℕ
with_word m a v =
    let b = to_le_bytes w32 v in
    let m1 = slice_set m a (slice_index b 0) in
    let m2 = slice_set m1 (a + 1) (slice_index b 1) in
    let m3 = slice_set m2 (a + 2) (slice_index b 2) in
    slice_set m3 (a + 3) (slice_index b 3)

-- n bytes that are 0. It is not opened in proofs, so that a large region is never written out.
unfoldable pub zeros : ℕ → List ℕ
zeros n = replicate n 0
