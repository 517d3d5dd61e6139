-- What reading and the table say of each other: at most one row begins some bytes, and reading
-- finds it.
use Rattle.std.specs.Prelude.{◌↔◌}
use Rattle.std.proofs.Common.{◌≡◌, ℕ, ◌-◌, ◌≤◌, List, ◌++◌, length, Option, Some, None, subst, sym}
use Rattle.std.proofs.Common.{ap, ◌∙◌, arith, take, drop, take-append-drop, length-take}
use Rattle.std.proofs.Common.{length-append, length-drop}
use Rattle.std.proofs.Math.Seq.{take-append_seam}
use Rattle.ia_code.specs.declared.ins.Ins.{Ins}
use Rattle.ia_code.specs.DecodeTable.{bytes_of, IsSound, Row, IsBytes}
use Rattle.ia_code.specs.Reading.{instruction_at, counted, decoded}
use Rattle.ia_code.proofs.SpelledIsRead.{one_spelling_of}
use Rattle.pra_list.proofs.Options.{some_same, none_some}
use Rattle.ia_code.proofs.ReadIsSpelled.{instruction_takes}

-- two rows of one instruction are one
pub one_spelling : (a b : List ℕ) (i : Ins) (m n : ℕ) → Row a i m → Row b i n → (a ≡ b) × (m ≡ n)
one_spelling a b i m n p q =
    let bytes : a ≡ b = p.spelled ∙ sym q.spelled in
    (bytes, p.length_is ∙ ap length bytes ∙ sym q.length_is)

-- two rows that begin the same bytes are one
pub one_row : (a b x y : List ℕ) (i j : Ins) (m n : ℕ) → Row a i m → Row b j n → a ++ x ≡ b ++ y →
    (a ≡ b) × (i ≡ j) × (m ≡ n)
one_row a b x y i j m n p q e =
    let f = one_spelling_of i p.sound x in
    let g = one_spelling_of j q.sound y in
    let h = sym f ∙ ap (λ l. instruction_at (l ++ x)) (sym p.spelled) ∙ ap instruction_at e
    ∙ ap (λ l. instruction_at (l ++ y)) q.spelled ∙ g in
    let same = ap (λ t. t.0) (some_same (i, x) (j, y) h) in
    let bytes : a ≡ b = p.spelled ∙ ap bytes_of same ∙ sym q.spelled in
    (bytes, same, p.length_is ∙ ap length bytes ∙ sym q.length_is)

-- what is spelled is decoded, whatever follows
pub decoded-bytes_of : (i : Ins) → IsSound i → (rest : List ℕ) → decoded (bytes_of i ++ rest) ≡
    Some (i, length (bytes_of i))
unfolding decoded
decoded-bytes_of i is rest =
    let n : length (bytes_of i ++ rest) - length rest ≡ length (bytes_of i) =
    omega (arith, length-append (bytes_of i) rest) in
    ap (counted (bytes_of i ++ rest)) (one_spelling_of i is rest) ∙ ap (λ k. Some (i, k)) n

module _ (bytes : List ℕ) (i : Ins) (after : List ℕ) where
  pub rest_short : IsBytes bytes → instruction_at bytes ≡ Some (i, after) → length after ≤
      length bytes
  rest_short bb e =
      let t = instruction_takes bytes bb (i, after) e in
      omega (arith, ap length t.0, length-append (bytes_of i) after)

  pub is_row : IsBytes bytes → instruction_at bytes ≡ Some (i, after) →
      Row (take (length bytes - length after) bytes) i (length bytes - length after)
  is_row bb e =
      let t = instruction_takes bytes bb (i, after) e in
      let n : length bytes - length after ≡ length (bytes_of i) =
      omega (arith, ap length t.0, length-append (bytes_of i) after) in
      let front : take (length bytes - length after) bytes ≡ bytes_of i = ap (λ k. take k bytes) n
      ∙ ap (take (length (bytes_of i))) t.0 ∙ take-append_seam (bytes_of i) after in
      record { sound = t.1; spelled = front; length_is = n ∙ ap length (sym front) }

row_read : (bytes : List ℕ) (i : Ins) (n : ℕ) → Row (take n bytes) i n → instruction_at bytes ≡
    Some (i, drop n bytes)
row_read bytes i n r =
    ap instruction_at (sym (take-append-drop n bytes) ∙ ap (λ l. l ++ drop n bytes) r.spelled)
    ∙ one_spelling_of i r.sound (drop n bytes)

pub no_row : (bytes : List ℕ) → instruction_at bytes ≡ None → (i : Ins) (n : ℕ) →
    Row (take n bytes) i n → ⊥
no_row bytes e i n r = none_some (sym e ∙ row_read bytes i n r)

pub only_row : (bytes : List ℕ) (i : Ins) (after : List ℕ) → instruction_at bytes ≡
    Some (i, after) → (j : Ins) (n : ℕ) → Row (take n bytes) j n → (i ≡ j) ×
    (length bytes - length after ≡ n)
only_row bytes i after e j n r =
    let same = some_same (i, after) (j, drop n bytes) (sym e ∙ row_read bytes j n r) in
    let l : length after ≡ length bytes - n = ap (λ t. length t.1) same ∙ length-drop n bytes in
    let m : n ≤ length bytes = omega (arith, r.length_is, length-take n bytes) in
    (ap (λ t. t.0) same, omega arith)

-- what is counted of a reading was read
counted_some : (bytes : List ℕ) (r : Option (Ins × List ℕ)) (i : Ins) (n : ℕ) → counted bytes r ≡
    Some (i, n) →
    (after : List ℕ) × (r ≡ Some (i, after)) × (length bytes - length after ≡ n)
counted_some bytes None i n e = absurd (none_some e)
counted_some bytes (Some x) i n e =
    let same = some_same (x.0, length bytes - length x.1) (i, n) e in (
      x.1,
      ap (λ j. let y : Ins × List ℕ = (j, x.1) in Some y) (ap (λ t. t.0) same),
      ap (λ t. t.1) same,
    )

pub read_is_row : (bytes : List ℕ) → IsBytes bytes → (i : Ins) (n : ℕ) → decoded bytes ≡
    Some (i, n) → Row (take n bytes) i n
unfolding decoded
read_is_row bytes bb i n e =
    let c = counted_some bytes (instruction_at bytes) i n e in
    subst (λ n. Row (take n bytes) i n) c.2 (is_row bytes i c.0 bb c.1)

pub row_is_read : (bytes : List ℕ) (i : Ins) (n : ℕ) → Row (take n bytes) i n → decoded bytes ≡
    Some (i, n)
row_is_read bytes i n r =
    let whole : bytes ≡ bytes_of i ++ drop n bytes = sym (take-append-drop n bytes)
    ∙ ap (λ l. l ++ drop n bytes) r.spelled in
    let long : length (bytes_of i) ≡ n = sym (ap length r.spelled) ∙ sym r.length_is in
    ap decoded whole ∙ decoded-bytes_of i r.sound (drop n bytes) ∙ ap (λ k. Some (i, k)) long

-- reading is the table, both ways
pub reading_is_table : (bytes : List ℕ) → IsBytes bytes → (i : Ins) (n : ℕ) →
    (decoded bytes ≡ Some (i, n)) ↔ Row (take n bytes) i n
reading_is_table bytes bb i n = (read_is_row bytes bb i n, row_is_read bytes i n)
