-- The instructions of the lines of a text are determined by its bytes.
use Rattle.std.proofs.Common.{◌≡◌, ℕ, ◌+◌, ◌*◌, ◌^◌, ◌≤◌, ◌<◌, List, [], ◌∷◌, ◌++◌, length, drop}
use Rattle.std.proofs.Common.{Some, refl, sym, ap, ◌∙◌, subst, arith, append_assoc, length-append}
use Rattle.std.proofs.Math.Seq.{drop-append_seam}
use Rattle.std.specs.Fmt.{decimal}
use Rattle.ia_code.specs.declared.ins.Ins.{Ins}
use Rattle.ia_code.specs.DecodeTable.{bytes_of, IsSound}
use Rattle.ia_code.specs.Listing.{bytes_of_all, AreSound}
use Rattle.ia_code.specs.Image.{max_data_words}
use Rattle.pra_list.proofs.Options.{some_same}
use Rattle.ia_list.specs.Text.{line, data_line}
use Rattle.ia_list.specs.Reading.{words_at, instruction_at}
use Rattle.ia_list.specs.ListText.{lines, text_of}
use Rattle.ia_list.proofs.NumbersRead.{decimal_read}
use Rattle.ia_list.proofs.LineRead.{line_read}
use Rattle.ia_list.proofs.LineSize.{lines_size}

-- what stands behind the same bytes is the same
behind_same : (front a b : List ℕ) → front ++ a ≡ front ++ b → a ≡ b
behind_same front a b e =
    sym (drop-append_seam front a) ∙ ap (drop (length front)) e ∙ drop-append_seam front b

-- The first line.

words_nested : (d rest : List ℕ) → (d ++ 10 ∷ []) ++ rest ≡ d ++ 10 ∷ rest
words_nested d rest = append_assoc d (10 ∷ []) rest

pub words_read : (n : ℕ) (rest : List ℕ) → n ≤ max_data_words →
    words_at (data_line n ++ rest) ≡ Some n
unfolding words_at data_line
words_read n rest h = rw (words_nested (decimal n) rest, decimal_read 10 rest refl n (omega arith))
    refl

same_words : (m n : ℕ) (a b : List ℕ) → m ≤ max_data_words → n ≤ max_data_words →
    data_line m ++ a ≡ data_line n ++ b → (m ≡ n) × (a ≡ b)
same_words m n a b hm hn e =
    let same : m ≡ n = some_same m n (sym (words_read m a hm) ∙ ap words_at e
    ∙ words_read n b hn) in
    (same, behind_same (data_line m) a b (e ∙ ap (λ k. data_line k ++ b) (sym same)))

-- The others.

pub same_line : (place : ℕ) (i j : Ins) (a b : List ℕ) → place < 2 ^ 31 → IsSound i → IsSound j →
    line place i ++ a ≡ line place j ++ b → (i ≡ j) × (a ≡ b)
same_line place i j a b h si sj e =
    let same : i ≡ j = some_same i j (sym (line_read place i a si h) ∙ ap (instruction_at place) e
    ∙ line_read place j b sj h) in
    (same, behind_same (line place i) a b (e ∙ ap (λ k. line place k ++ b) (sym same)))

-- of two lists whose lines are in front of the same bytes the shorter one begins the longer one
Begins : ℕ → List Ins → List Ins → List ℕ → List ℕ → Type 0
Begins place is js a b = (ks : List Ins) × (js ≡ is ++ ks)
    × (a ≡ lines (place + length (bytes_of_all is)) ks ++ b)

begins_one : (place : ℕ) (i : Ins) (is js : List Ins) (a b : List ℕ) →
    Begins (place + length (bytes_of i)) is js a b → Begins place (i ∷ is) (i ∷ js) a b
unfolding Begins
begins_one place i is js a b h = (
  h.0,
  ap (λ l. i ∷ l) h.1,
  h.2 ∙ ap (λ p. lines p h.0 ++ b) (omega (arith, length-append (bytes_of i) (bytes_of_all is))),
)

lines_begin : (place : ℕ) (is js : List Ins) (a b : List ℕ) →
    place + length (bytes_of_all is) < 2 ^ 31 → AreSound is → AreSound js → length is ≤ length js →
    lines place is ++ a ≡ lines place js ++ b → Begins place is js a b
unfolding Begins
lines_begin place [] js a b h s t le e = (js, refl, e ∙ ap (λ p. lines p js ++ b) (omega arith))
lines_begin place (i ∷ is) [] a b h s t le e = absurd (omega arith)
lines_begin place (i ∷ is) (j ∷ js) a b h s t le e =
    let size = length-append (bytes_of i) (bytes_of_all is) in
    let first = same_line place i j (lines (place + length (bytes_of i)) is ++ a)
    (lines (place + length (bytes_of j)) js ++ b) (omega (arith, size)) s.0 t.0
    (sym (append_assoc (line place i) (lines (place + length (bytes_of i)) is) a) ∙ e
    ∙ append_assoc (line place j) (lines (place + length (bytes_of j)) js) b) in
    let others : lines (place + length (bytes_of i)) is ++ a ≡ lines (place + length (bytes_of i))
    js ++ b = first.1 ∙ ap (λ k. lines (place + length (bytes_of k)) js ++ b) (sym first.0) in
    let rest = lines_begin (place + length (bytes_of i)) is js a b (omega (arith, size)) s.1 t.1
    (omega arith) others in
    subst (λ k. Begins place (i ∷ is) (k ∷ js) a b) first.0 (begins_one place i is js a b rest)

-- Whole texts with something behind them.

-- the code of a text's lines is less than half as long
pub code_small : (words : ℕ) (ins : List Ins) (bytes rest : List ℕ) → AreSound ins →
    bytes ≡ text_of words ins ++ rest → 2 * length (bytes_of_all ins) ≤ length bytes
code_small words ins bytes rest s e =
    omega (
      arith,
      ap length e,
      length-append (text_of words ins) rest,
      length-append (data_line words) (lines 0 ins),
      lines_size 0 ins s,
    )

pub text_begins : (m n : ℕ) (is js : List Ins) (a b : List ℕ) → m ≤ max_data_words →
    n ≤ max_data_words → length (bytes_of_all is) < 2 ^ 31 → AreSound is → AreSound js →
    length is ≤ length js →
    text_of m is ++ a ≡ text_of n js ++ b →
    (m ≡ n) × (ks : List Ins) × (js ≡ is ++ ks) × (a ≡ lines (length (bytes_of_all is)) ks ++ b)
unfolding Begins
text_begins m n is js a b hm hn h s t le e =
    let first = same_words m n (lines 0 is ++ a) (lines 0 js ++ b) hm hn
    (sym (append_assoc (data_line m) (lines 0 is) a) ∙ e
    ∙ append_assoc (data_line n) (lines 0 js) b) in
    let others = lines_begin 0 is js a b (omega arith) s t le first.1 in
    (first.0, others.0, others.1, others.2 ∙ ap (λ p. lines p others.0 ++ b) (omega arith))
