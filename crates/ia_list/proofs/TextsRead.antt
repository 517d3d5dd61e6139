-- What was read of a text so far, and what follows at its end.
use Rattle.std.proofs.Common.{◌≡◌, ℕ, suc, ◌+◌, ◌-◌, ◌*◌, ◌≤◌, ◌<◌, List, [], ◌∷◌, ◌++◌, length}
use Rattle.std.proofs.Common.{refl, sym, ap, ◌∙◌, subst, arith, append_assoc, length-append}
use Rattle.std.proofs.Common.{append-nil}
use Rattle.ia_code.specs.declared.ins.Ins.{Ins}
use Rattle.ia_code.specs.declared.image.Image.{Image}
use Rattle.ia_code.specs.DecodeTable.{bytes_of, IsSound}
use Rattle.ia_code.specs.Listing.{bytes_of_all, AreSound}
use Rattle.ia_code.specs.Image.{IsImage, max_data_words}
use Rattle.ia_code.proofs.EncodingSize.{code_of}
use Rattle.ia_code.proofs.Listings.{bytes_of_all-append, sound_append, sound_behind}
use Rattle.ia_list.specs.Text.{line, data_line}
use Rattle.ia_list.specs.ListText.{lines, text_of, IsListText, max_text_bytes, HasLines, HasMore}
use Rattle.ia_list.specs.ListText.{IsBadLine, IsEmptyText}
use Rattle.ia_list.proofs.LineSize.{lines_some}
use Rattle.ia_list.proofs.LinesRead.{code_small, text_begins}

pub none_behind : (rest front : List ℕ) → length rest < 1 → front ++ rest ≡ front
none_behind [] front h = append-nil front
none_behind (b ∷ rest) front h = absurd (omega arith)

-- lines behind others
pub lines-append : (place : ℕ) (is js : List Ins) →
    lines place (is ++ js) ≡ lines place is ++ lines (place + length (bytes_of_all is)) js
lines-append place [] js = ap (λ p. lines p js) (omega arith)
lines-append place (i ∷ is) js =
    ap (λ l. line place i ++ l) (lines-append (place + length (bytes_of i)) is js)
    ∙ sym (append_assoc (line place i) (lines (place + length (bytes_of i)) is) _)
    ∙ ap (λ p. (line place i ++ lines (place + length (bytes_of i)) is) ++ lines p js)
    (omega (arith, length-append (bytes_of i) (bytes_of_all is)))

pub text-append : (words : ℕ) (is js : List Ins) →
    text_of words (is ++ js) ≡ text_of words is ++ lines (length (bytes_of_all is)) js
text-append words is js =
    ap (λ l. data_line words ++ l) (lines-append 0 is js)
    ∙ sym (append_assoc (data_line words) (lines 0 is) _)
    ∙ ap (λ p. text_of words is ++ lines p js) (omega arith)

pub text-snoc : (words : ℕ) (ins : List Ins) (i : Ins) →
    text_of words (ins ++ i ∷ []) ≡ text_of words ins ++ line (length (bytes_of_all ins)) i
text-snoc words ins i =
    text-append words ins (i ∷ []) ∙ ap (λ l. text_of words ins ++ l)
    (append-nil (line (length (bytes_of_all ins)) i))

pub code-snoc : (ins : List Ins) (i : Ins) →
    bytes_of_all (ins ++ i ∷ []) ≡ bytes_of_all ins ++ bytes_of i
code-snoc ins i = bytes_of_all-append ins (i ∷ [])
    ∙ ap (λ l. bytes_of_all ins ++ l) (append-nil (bytes_of i))

-- no sound instruction's line is in front
abbrev pub NoLine : ℕ → List ℕ → Type 0
NoLine place bytes = (i : Ins) (rest : List ℕ) → IsSound i → bytes ≡ line place i ++ rest → ⊥

-- so many lines of a text were read, this is their code, and the rest is behind them
pub record IsReadTo (bytes : List ℕ) (words : ℕ) (code : List ℕ) (count : ℕ) (rest : List ℕ) : Type
    0 where
  pub ins : List Ins
  pub few : words ≤ max_data_words
  pub sound : AreSound ins
  pub code_is : code ≡ bytes_of_all ins
  pub count_is : count ≡ length ins + 1
  pub written : bytes ≡ text_of words ins ++ rest

pub read_first : (bytes : List ℕ) (words : ℕ) (rest : List ℕ) → words ≤ max_data_words →
    bytes ≡ data_line words ++ rest → IsReadTo bytes words [] 1 rest
read_first bytes words rest h e = record {
  ins = [];
  few = h;
  sound = tt;
  code_is = refl;
  count_is = refl;
  written = e ∙ ap (λ l. l ++ rest) (sym (append-nil (data_line words)));
}

module _ {bytes : List ℕ} {words : ℕ} {code : List ℕ} {count : ℕ} {rest : List ℕ}
    (r : IsReadTo bytes words code count rest) where
  pub code_half : 2 * length code ≤ length bytes
  code_half = omega (
    arith,
    ap length r.code_is,
    code_small words r.ins bytes rest r.sound r.written,
  )

  pub count_small : count + length rest ≤ length bytes
  unfolding data_line
  count_small =
      omega (
        arith,
        r.count_is,
        ap length r.written,
        length-append (text_of words r.ins) rest,
        length-append (data_line words) (lines 0 r.ins),
        lines_some 0 r.ins,
      )

  pub read_next : (i : Ins) (behind encoded : List ℕ) → IsSound i → encoded ≡ bytes_of i →
      rest ≡ line (length code) i ++ behind →
      IsReadTo bytes words (code ++ encoded) (count + 1) behind
  read_next i behind encoded s b e =
      let place : length code ≡ length (bytes_of_all r.ins) = ap length r.code_is in record {
        ins = r.ins ++ i ∷ [];
        few = r.few;
        sound = sound_append r.ins (i ∷ []) r.sound (s, tt);
        code_is = ap (λ l. l ++ encoded) r.code_is ∙ ap (λ l. bytes_of_all r.ins ++ l) b
            ∙ sym (code-snoc r.ins i);
        count_is = omega (arith, r.count_is, length-append r.ins (i ∷ []));
        written =
            r.written ∙ ap (λ l. text_of words r.ins ++ l) (e ∙ ap (λ p. line p i ++ behind) place)
            ∙ sym (append_assoc (text_of words r.ins) (line (length (bytes_of_all r.ins)) i) behind)
            ∙ ap (λ l. l ++ behind) (sym (text-snoc words r.ins i));
      }

  -- a line that is of no instruction is the first bad one
  bad_at : length bytes ≤ max_text_bytes → NoLine (length code) rest → (after : List ℕ) →
      HasLines bytes (count + 1) after → ⊥
  bad_at small none after h =
      let half = code_small words r.ins bytes rest r.sound r.written in
      let begins = text_begins words h.words r.ins h.ins rest after r.few h.few (omega arith)
      r.sound h.sound (omega (arith, r.count_is, h.count_is)) (sym r.written ∙ h.written) in
      one_more begins.1 begins.2 begins.3
    where
      one_more : (ks : List Ins) → h.ins ≡ r.ins ++ ks →
          rest ≡ lines (length (bytes_of_all r.ins)) ks ++ after → ⊥
      one_more [] e f = absurd (omega (
        arith,
        r.count_is,
        h.count_is,
        ap length e,
        length-append r.ins [],
      ))
      one_more (k ∷ ks) e f =
          none k (lines (length (bytes_of_all r.ins) + length (bytes_of k)) ks ++ after)
          (sound_behind r.ins (k ∷ ks) (subst AreSound e h.sound)).0
          (f ∙ append_assoc (line (length (bytes_of_all r.ins)) k)
          (lines (length (bytes_of_all r.ins) + length (bytes_of k)) ks) after
          ∙ ap (λ p. line p k ++ (lines (length (bytes_of_all r.ins) + length (bytes_of k)) ks
          ++ after)) (sym (ap length r.code_is)))

  more_behind : 1 ≤ length rest → HasMore bytes (count + 1 - 1)
  more_behind some =
      let before : HasMore bytes (suc (length r.ins)) = (
        rest,
        record {
          words = words;
          ins = r.ins;
          few = r.few;
          sound = r.sound;
          count_is = omega arith;
          written = r.written;
        },
        some,
      ) in
      let same : suc (length r.ins) ≡ count + 1 - 1 = omega (arith, r.count_is) in
      subst (HasMore bytes) same before

  pub read_bad : length bytes ≤ max_text_bytes → 1 ≤ length rest → NoLine (length code) rest →
      IsBadLine bytes (count + 1)
  read_bad small some none = record {
    counted = omega arith;
    before = more_behind some;
    bad = bad_at small none;
  }

-- the first line is none
pub first_bad : (bytes : List ℕ) →
    ((n : ℕ) (rest : List ℕ) → n ≤ max_data_words → bytes ≡ data_line n ++ rest → ⊥) →
    IsBadLine bytes 1
first_bad bytes none = record {
  counted = omega arith;
  before = tt;
  bad = λ rest h. none h.words (lines 0 h.ins ++ rest) h.few (h.written
      ∙ append_assoc (data_line h.words) (lines 0 h.ins) rest);
}

-- The end of the bytes.
module _ {bytes : List ℕ} {words : ℕ} {code : List ℕ} {count : ℕ} {rest : List ℕ}
    (r : IsReadTo bytes words code count rest) (over : length rest < 1) where
  all_read : bytes ≡ text_of words r.ins
  all_read = r.written ∙ none_behind rest (text_of words r.ins) over

  pub read_empty : length code < 1 → IsEmptyText bytes
  read_empty h = (words, r.few, all_read ∙ alone r.ins r.sound (omega (arith, ap length r.code_is)))
    where
      alone : (ins : List Ins) → AreSound ins → length (bytes_of_all ins) < 1 →
          text_of words ins ≡ data_line words
      alone [] s h = append-nil (data_line words)
      alone (i ∷ ins) s h = absurd (omega (
        arith,
        (code_of i s.0).some,
        length-append (bytes_of i) (bytes_of_all ins),
      ))

  pub read_all : length bytes ≤ max_text_bytes → 1 ≤ length code → (image : Image) →
      image.code ≡ code → image.data_words ≡ words → IsImage image × IsListText image bytes
  read_all small some image code_is words_is =
      let half = code_half r in (
        record {
          some_code = omega (arith, ap length code_is);
          code = omega (arith, ap length code_is);
          data_words = omega (arith, words_is, r.few);
        },
        record {
          ins = r.ins;
          listing = record { sound = r.sound; spelled = code_is ∙ r.code_is };
          written = all_read ∙ ap (λ n. text_of n r.ins) (sym words_is);
        },
      )
