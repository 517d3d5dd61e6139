-- A list of instructions is found in its bytes again.
use Rattle.std.proofs.Common.{◌≡◌, ℕ, ◌≤◌, List, [], ◌∷◌, ◌++◌, length, Some, refl, sym, ap, ◌∙◌}
use Rattle.std.proofs.Common.{arith, drop, append_assoc, length-append}
use Rattle.std.proofs.Math.Seq.{drop-append_seam}
use Rattle.ia_code.specs.declared.ins.Ins.{Ins}
use Rattle.ia_code.specs.DecodeTable.{bytes_of, IsSound}
use Rattle.ia_code.specs.Reading.{instruction_at, decoded}
use Rattle.ia_code.specs.Listing.{bytes_of_all, AreSound, IsListing}
use Rattle.ia_code.proofs.SpelledIsRead.{one_spelling_of}
use Rattle.pra_list.proofs.Options.{some_same}
use Rattle.ia_code.proofs.ReadingIsTable.{decoded-bytes_of}
use Rattle.ia_code.proofs.EncodingSize.{code_of}

pub bytes_of_all-append : (is js : List Ins) → bytes_of_all (is ++ js) ≡ bytes_of_all is
    ++ bytes_of_all js
bytes_of_all-append [] js = refl
bytes_of_all-append (i ∷ is) js =
    ap (λ l. bytes_of i ++ l) (bytes_of_all-append is js)
    ∙ sym (append_assoc (bytes_of i) (bytes_of_all is) (bytes_of_all js))

-- the parts of a list of sound instructions are sound
pub sound_front : (is js : List Ins) → AreSound (is ++ js) → AreSound is
sound_front [] js s = tt
sound_front (i ∷ is) js s = (s.0, sound_front is js s.1)

pub sound_behind : (is js : List Ins) → AreSound (is ++ js) → AreSound js
sound_behind [] js s = s
sound_behind (i ∷ is) js s = sound_behind is js s.1

pub sound_append : (is js : List Ins) → AreSound is → AreSound js → AreSound (is ++ js)
sound_append [] js s t = t
sound_append (i ∷ is) js s t = (s.0, sound_append is js s.1 t)

-- no instruction has no bytes
some_bytes : (i : Ins) (rest : List ℕ) → IsSound i → [] ≡ bytes_of i ++ rest → ⊥
some_bytes i rest sound e =
    let some : 1 ≤ length (bytes_of i) = (code_of i sound).some in
    let none : 0 ≡ length (bytes_of i ++ rest) = ap length e in
    omega (arith, length-append (bytes_of i) rest)

first_same : (i j : Ins) (a b : List ℕ) → IsSound i → IsSound j → bytes_of i ++ a ≡ bytes_of j
    ++ b → (i ≡ j) × (a ≡ b)
first_same i j a b si sj e =
    let same = some_same (i, a) (j, b)
    (sym (one_spelling_of i si a) ∙ ap instruction_at e ∙ one_spelling_of j sj b) in
    (ap (λ t. t.0) same, ap (λ t. t.1) same)

same_list : (is js : List Ins) → AreSound is → AreSound js → bytes_of_all is ≡ bytes_of_all js →
    is ≡ js
same_list [] [] s t e = refl
same_list [] (j ∷ js) s t e = absurd (some_bytes j (bytes_of_all js) t.0 e)
same_list (i ∷ is) [] s t e = absurd (some_bytes i (bytes_of_all is) s.0 (sym e))
same_list (i ∷ is) (j ∷ js) s t e =
    let same = first_same i j (bytes_of_all is) (bytes_of_all js) s.0 t.0 e in
    ap (λ k. k ∷ is) same.0 ∙ ap (λ l. j ∷ l) (same_list is js s.1 t.1 same.1)

-- bytes are those of one list
pub one_listing : (bytes : List ℕ) (is js : List Ins) → IsListing bytes is → IsListing bytes js →
    is ≡ js
one_listing bytes is js p q = same_list is js p.sound q.sound (sym p.spelled ∙ q.spelled)

-- what stands behind the first instructions
pub listed_behind : (before behind : List Ins) → drop (length (bytes_of_all before))
    (bytes_of_all (before ++ behind)) ≡ bytes_of_all behind
listed_behind before behind =
    ap (drop (length (bytes_of_all before))) (bytes_of_all-append before behind)
    ∙ drop-append_seam (bytes_of_all before) (bytes_of_all behind)

-- each instruction is decoded at its place
pub decoded_at_place : (bytes : List ℕ) (before : List Ins) (i : Ins) (behind : List Ins) →
    IsListing bytes (before ++ i ∷ behind) →
    decoded (drop (length (bytes_of_all before)) bytes) ≡ Some (i, length (bytes_of i))
decoded_at_place bytes before i behind p =
    let sound : IsSound i = (sound_behind before (i ∷ behind) p.sound).0 in
    ap (λ l. decoded (drop (length (bytes_of_all before)) l)) p.spelled
    ∙ ap decoded (listed_behind before (i ∷ behind))
    ∙ decoded-bytes_of i sound (bytes_of_all behind)
