-- What was written of a code so far, and what follows where it stops.
use Rattle.std.proofs.Common.{◌≡◌, ℕ, ◌+◌, ◌≤◌, ◌<◌, List, [], ◌∷◌, ◌++◌, length, take, drop, refl}
use Rattle.std.proofs.Common.{sym, ap, ◌∙◌, subst, arith, append_assoc, length-append, length-take}
use Rattle.std.proofs.Common.{length-drop, append-nil, take-append-drop}
use Rattle.std.proofs.lemmas.List.{drop-drop}
use Rattle.ia_code.specs.declared.ins.Ins.{Ins}
use Rattle.ia_code.specs.declared.image.Image.{Image}
use Rattle.ia_code.specs.DecodeTable.{bytes_of, Row}
use Rattle.ia_code.specs.Listing.{bytes_of_all, AreSound}
use Rattle.ia_code.proofs.EncodingSize.{code_of}
use Rattle.ia_code.proofs.Listings.{sound_append}
use Rattle.ia_list.specs.Text.{line, data_line}
use Rattle.ia_list.specs.ListText.{text_of, IsListText, StandsAt, StopsAt}
use Rattle.ia_list.proofs.TextsRead.{none_behind, text-snoc, code-snoc}

-- the text has the data words and the code before this place
pub record IsListedTo (code : List ℕ) (words place : ℕ) (text : List ℕ) : Type 0 where
  pub ins : List Ins
  pub sound : AreSound ins
  pub code_is : code ≡ bytes_of_all ins ++ drop place code
  pub place_is : place ≡ length (bytes_of_all ins)
  pub within : place ≤ length code
  pub written : text ≡ text_of words ins

pub listed_first : (code : List ℕ) (words : ℕ) (text : List ℕ) → text ≡ data_line words →
    IsListedTo code words 0 text
listed_first code words text e = record {
  ins = [];
  sound = tt;
  code_is = refl;
  place_is = refl;
  within = omega arith;
  written = e ∙ sym (append-nil (data_line words));
}

-- the instruction at the front of some code
module _ (code : List ℕ) (place size : ℕ) (i : Ins) (within : place ≤ length code)
    (row : Row (take size (drop place code)) i size) where
  pub row_length : length (bytes_of i) ≡ size
  row_length = sym (ap length row.spelled) ∙ sym row.length_is

  pub row_some : 1 ≤ size
  row_some = omega (arith, row_length, (code_of i row.sound).some)

  front_row : drop place code ≡ bytes_of i ++ drop (place + size) code
  front_row =
      sym (take-append-drop size (drop place code))
      ∙ ap (λ f. f ++ drop size (drop place code)) row.spelled
      ∙ ap (λ t. bytes_of i ++ t) (drop-drop size place code)

  pub row_within : place + size ≤ length code
  row_within = omega (
    arith,
    row.length_is,
    length-take size (drop place code),
    length-drop place code,
  )

-- how far a text of this length has come
pub record IsCountedTo (code : List ℕ) (words place count : ℕ) : Type 0 where
  pub text : List ℕ
  pub listed : IsListedTo code words place text
  pub count_is : count ≡ length text

module _ {code : List ℕ} {words place : ℕ} {text : List ℕ} (l : IsListedTo code words place text)
  where
    pub listed_next : (size : ℕ) (i : Ins) (longer : List ℕ) →
        Row (take size (drop place code)) i size → longer ≡ text ++ line place i →
        IsListedTo code words (place + size) longer
    listed_next size i longer row e =
        let bytes : drop place code ≡ bytes_of i ++ drop (place + size) code =
        front_row code place size i l.within row in record {
          ins = l.ins ++ i ∷ [];
          sound = sound_append l.ins (i ∷ []) l.sound (row.sound, tt);
          code_is =
              l.code_is ∙ ap (λ c. bytes_of_all l.ins ++ c) bytes
              ∙ sym (append_assoc (bytes_of_all l.ins) (bytes_of i) (drop (place + size) code))
              ∙ ap (λ c. c ++ drop (place + size) code) (sym (code-snoc l.ins i));
          place_is = omega (
            arith,
            l.place_is,
            row_length code place size i l.within row,
            ap length (code-snoc l.ins i),
            length-append (bytes_of_all l.ins) (bytes_of i),
          );
          within = row_within code place size i l.within row;
          written = e ∙ ap (λ t. t ++ line place i) l.written
              ∙ ap (λ p. text_of words l.ins ++ line p i) l.place_is
              ∙ sym (text-snoc words l.ins i);
        }

    pub listed_on : (next : ℕ) (longer : List ℕ) →
        (i : Ins) × (size : ℕ) × StandsAt code place i size × (next ≡ place + size)
        × (longer ≡ text ++ line place i) → IsListedTo code words next longer
    listed_on next longer f = subst (λ p. IsListedTo code words p longer) (sym f.3)
        (listed_next f.1 f.0 longer f.2 f.4)

    pub listed_stops : place < length code →
        ((i : Ins) (size : ℕ) → Row (take size (drop place code)) i size → ⊥) → StopsAt code place
    listed_stops h none = record {
      ins = l.ins;
      rest = drop place code;
      sound = l.sound;
      code_is = l.code_is;
      place_is = l.place_is;
      some = omega (arith, length-drop place code);
      none = none;
    }

    pub listed_all : (image : Image) → image.code ≡ code → image.data_words ≡ words →
        length code ≤ place → IsListText image text
    listed_all image code_is words_is h = record {
      ins = l.ins;
      listing = record {
        sound = l.sound;
        spelled = code_is ∙ l.code_is ∙ none_behind (drop place code) (bytes_of_all l.ins)
            (omega (arith, length-drop place code));
      };
      written = l.written ∙ ap (λ n. text_of n l.ins) (sym words_is);
    }

pub counted_on : {code : List ℕ} {words place count : ℕ} → IsCountedTo code words place count →
    (next : ℕ) (written : List ℕ) →
    (i : Ins) × (size : ℕ) × StandsAt code place i size × (next ≡ place + size)
    × (written ≡ [] ++ line place i) → IsCountedTo code words next (count + length written)
counted_on {place = place} c next written f = record {
  text = c.text ++ written;
  listed = listed_on c.listed next (c.text ++ written)
      (f.0, f.1, f.2, f.3, ap (λ l. c.text ++ l) f.4);
  count_is = omega (arith, c.count_is, length-append c.text written);
}
