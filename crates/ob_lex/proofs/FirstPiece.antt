-- What the bytes in front of a text say of its first piece.
use Rattle.std.proofs.Common.{◌≡◌, ℕ, zero, suc, ◌+◌, ◌*◌, ◌-◌, ◌<◌, ◌≤◌, Bool, true, false, List}
use Rattle.std.proofs.Common.{[], ◌∷◌, ◌++◌, length, take, drop, get_or, Option, Some, None}
use Rattle.std.proofs.Common.{unwrap_or, MatchOption, Contains, fold, pos, refl, sym, ap, subst}
use Rattle.std.proofs.Common.{◌∙◌, ⊎_elim, arith, one-add, take-append-drop, ◌||◌, ℤ, to_z, of_z}
use Rattle.std.proofs.Common.{w32, MatchResult, ok_or}
use Rattle.std.specs.List.{list_all, prefix_len}
use Rattle.std.specs.Char.{is_ascii_alphabetic, is_ascii_alphanumeric, is_ascii_digit}
use Rattle.std.proofs.lemmas.Bool.{cases_Bool, and_from, cond-true, cond-false, false≢true}
use Rattle.std.proofs.lemmas.Bool.{not_from_false, not-true}
use Rattle.std.proofs.lemmas.Int.{to_z_pos}
use Rattle.ob_syntax.specs.declared.token.Kind.{Kind}
use Rattle.ob_syntax.specs.declared.token.Kind.TheVariants.{Ident, Number}
use Rattle.ob_syntax.specs.Tokens.{is_name, is_integer, is_space, fixed, integer_value}
use Rattle.ob_syntax.specs.Tokens.{greatest_integer, space, comment, token, Fault, BeginsFault}
use Rattle.ob_syntax.specs.Tokens.{number_too_large, bad_byte, Begins}
use Rattle.ob_syntax.proofs.LongestSpellings.{front, mark_from, NoPair}
use Rattle.ob_syntax.proofs.LongestSpellings.{alphanumeric_from_alphabetic}
use Rattle.ob_syntax.proofs.Pieces.{keyword_piece, identifier_piece, number_piece, number_fault}
use Rattle.ob_syntax.proofs.Pieces.{pair_piece, single_piece, byte_fault}
use Rattle.ob_lex.specs.Scanning.{BeginsPiece, ClosesBefore, TellsFault, fault_at}
use Rattle.ob_lex.specs.declared.piece.Scanned.{Scanned}

-- runs of bytes that pass a test
run_longer : (p : ℕ → Bool) (b : ℕ) (text : List ℕ) → p b ≡ true → prefix_len p (b ∷ text) ≡
    suc (prefix_len p text)
run_longer p b text pass = cond-true (p b) (1 + prefix_len p text) 0 pass
    ∙ one-add (prefix_len p text)

run_passes : (p : ℕ → Bool) (text : List ℕ) → list_all p (take (prefix_len p text) text) ≡ true
run_passes p [] = refl
run_passes p (b ∷ text) =
    ⊎_elim
    (λ (pass : p b ≡ true). rw (run_longer p b text pass)
    (and_from (p b) _ pass (run_passes p text)))
    (λ (fail : p b ≡ false). rw (cond-false (p b) (1 + prefix_len p text) 0 fail) refl)
    (cases_Bool (p b))

run_ends : (p : ℕ → Bool) (text : List ℕ) → front p (drop (prefix_len p text) text) ≡ false
run_ends p [] = refl
run_ends p (b ∷ text) =
    ⊎_elim (λ (pass : p b ≡ true). rw (run_longer p b text pass) (run_ends p text))
    (λ (fail : p b ≡ false). rw (cond-false (p b) (1 + prefix_len p text) 0 fail) fail)
    (cases_Bool (p b))

name_run : (text : List ℕ) → is_ascii_alphabetic (get_or text 0 0) ≡ true →
    is_name (take (prefix_len is_ascii_alphanumeric text) text) ≡ true
name_run [] letter = absurd (false≢true letter)
name_run (b ∷ text) letter =
    rw (run_longer is_ascii_alphanumeric b text (alphanumeric_from_alphabetic b letter))
    (and_from (is_ascii_alphabetic b) _ letter (run_passes is_ascii_alphanumeric text))

integer_run : (text : List ℕ) → is_ascii_digit (get_or text 0 0) ≡ true →
    is_integer (take (prefix_len is_ascii_digit text) text) ≡ true
integer_run [] digit = absurd (false≢true digit)
integer_run (b ∷ text) digit =
    rw (run_longer is_ascii_digit b text digit)
    (and_from (is_ascii_digit b) _ digit (run_passes is_ascii_digit text))

-- a text cut behind such a run
pub record IsCut (p : ℕ → Bool) (text word rest : List ℕ) : Type 0 where
  pub word_is : word ≡ take (prefix_len p text) text
  pub rest_is : rest ≡ drop (prefix_len p text) text

module _ {p : ℕ → Bool} {text word rest : List ℕ} (c : IsCut p text word rest) where
  whole : text ≡ word ++ rest
  whole = sym (take-append-drop (prefix_len p text) text)
      ∙ (λ i. sym c.word_is i ++ sym c.rest_is i)

  ends : front p rest ≡ false
  ends = ap (front p) c.rest_is ∙ run_ends p text

pub name_begins : {text word rest : List ℕ} → IsCut is_ascii_alphanumeric text word rest →
    is_ascii_alphabetic (get_or text 0 0) ≡ true → (found : Option Kind) →
    MatchOption found ((kind : Kind) → Contains fixed (kind, word) → ⊥)
    (λ kind. Contains fixed (kind, word)) → BeginsPiece text (Some (unwrap_or found Ident)) rest
name_begins {text} {word} {rest} cut letter None none = record {
  piece = token Ident word;
  is_piece = identifier_piece word rest (ap is_name cut.word_is ∙ name_run text letter)
      (ends cut) none;
  text_is = whole cut;
  kind_is = refl;
}
name_begins {text} {word} {rest} cut letter (Some kind) f = record {
  piece = token kind word;
  is_piece = keyword_piece kind word rest (ap is_name cut.word_is ∙ name_run text letter)
      (ends cut) f;
  text_is = whole cut;
  kind_is = refl;
}

-- a small number passes through its 32 bits
same_bits : (z : ℤ) (v : ℕ) → z ≡ pos v → v ≤ greatest_integer → to_z w32 (of_z w32 z) ≡ pos v
same_bits z v e small = rw e (to_z_pos w32 v (omega arith))

module _ {text digits rest : List ℕ} (cut : IsCut is_ascii_digit text digits rest)
    (digit : is_ascii_digit (get_or text 0 0) ≡ true) where
  all_digits : is_integer digits ≡ true
  all_digits = ap is_integer cut.word_is ∙ integer_run text digit

  pub number_begins : (value : ℤ) → value ≡ pos (integer_value digits) →
      integer_value digits ≤ greatest_integer →
      BeginsPiece text (Some (Number (to_z w32 (of_z w32 value)))) rest
  number_begins value same small = record {
    piece = token (Number (pos (integer_value digits))) digits;
    is_piece = number_piece digits rest all_digits (ends cut) small;
    text_is = whole cut;
    kind_is = ap (λ z. Some (Number z)) (same_bits value (integer_value digits) same small);
  }

  pub number_too_large_begins : greatest_integer < integer_value digits →
      BeginsFault number_too_large text
  number_too_large_begins large = subst (BeginsFault number_too_large) (sym (whole cut))
      (number_fault digits rest all_digits (ends cut) large)

pub digits_cut : (text digits : List ℕ) → digits ≡ take (prefix_len is_ascii_digit text) text →
    list_all is_ascii_digit digits ≡ true
digits_cut text digits e = ap (list_all is_ascii_digit) e ∙ run_passes is_ascii_digit text

-- what a front of the digits writes is no more than what all write
grows : (n : ℕ) (digits : List ℕ) → n ≤ fold (λ m digit. 10 * m + (digit - 48)) n digits
grows n [] = omega arith
grows n (d ∷ digits) = let more = grows (10 * n + (d - 48)) digits in omega arith

front_grows : (k n : ℕ) (digits : List ℕ) → fold (λ m digit. 10 * m + (digit - 48)) n
    (take k digits) ≤ fold (λ m digit. 10 * m + (digit - 48)) n digits
front_grows zero n digits = grows n digits
front_grows (suc k) n [] = omega arith
front_grows (suc k) n (d ∷ digits) = front_grows k (10 * n + (d - 48)) digits

pub large_front : (k : ℕ) (digits : List ℕ) → greatest_integer < integer_value (take k digits) →
    greatest_integer < integer_value digits
large_front k digits h = let more = front_grows k 0 digits in omega arith

-- symbols
abbrev pub IsMarked : List ℕ → Type 0
IsMarked text = (0 < length text) ×
    ((is_ascii_alphanumeric (get_or text 0 0) || is_space (get_or text 0 0)) ≡ false)

pub pair_begins : (text : List ℕ) (kind : Kind) → IsMarked text → 2 ≤ length text →
    Contains fixed (kind, take 2 text) → BeginsPiece text (Some kind) (drop 2 text)
pair_begins [] kind m two f = absurd (omega arith)
pair_begins (b ∷ []) kind m two f = absurd (omega arith)
pair_begins (b ∷ (c ∷ rest)) kind m two f = record {
  piece = token kind (b ∷ (c ∷ []));
  is_piece = pair_piece kind b c rest
      (not_from_false (is_ascii_alphanumeric b || is_space b) m.1) f;
  text_is = refl;
  kind_is = refl;
}

-- what is known of the first two bytes, where there are two
pub known_pair : (text : List ℕ) (found : Option Kind) → 2 ≤ length text →
    MatchOption found ((kind : Kind) → Contains fixed (kind, take 2 text) → ⊥)
    (λ kind. Contains fixed (kind, take 2 text))
    → MatchOption found ((kind : Kind) → 2 ≤ length text → Contains fixed (kind, take 2 text) → ⊥)
    (λ kind. (2 ≤ length text) × Contains fixed (kind, take 2 text))
known_pair text None two none = λ kind _. none kind
known_pair text (Some kind) two f = (two, f)

no_pair : (text : List ℕ) → ((kind : Kind) → 2 ≤ length text → Contains fixed (kind, take 2 text) →
    ⊥) → NoPair text
no_pair text none kind b c after e f =
    none kind (let size : length text ≡ suc (suc (length after)) = ap length e in omega arith)
    (subst (λ us. Contains fixed (kind, us)) (ap (take 2) (sym e)) f)

pub single_begins : (text : List ℕ) (kind : Kind) → IsMarked text →
    (Begins (40 ∷ (42 ∷ [])) text → ⊥) →
    ((kind : Kind) → 2 ≤ length text → Contains fixed (kind, take 2 text) → ⊥) →
    Contains fixed (kind, take 1 text) → BeginsPiece text (Some kind) (drop 1 text)
single_begins [] kind m no_comment none f = absurd (omega (arith, m.0))
single_begins (b ∷ rest) kind m no_comment none f = record {
  piece = token kind (b ∷ []);
  is_piece = single_piece kind b rest (not_from_false (is_ascii_alphanumeric b || is_space b) m.1)
      (no_pair (b ∷ rest) none) no_comment f;
  text_is = refl;
  kind_is = refl;
}

pub bad_byte_begins : (text : List ℕ) → IsMarked text →
    ((kind : Kind) → 2 ≤ length text → Contains fixed (kind, take 2 text) → ⊥) →
    ((kind : Kind) → Contains fixed (kind, take 1 text) → ⊥) → BeginsFault bad_byte text
bad_byte_begins [] m none alone = absurd (omega (arith, m.0))
bad_byte_begins (b ∷ rest) m none alone =
    byte_fault b rest (not_from_false (is_ascii_alphanumeric b || is_space b) m.1)
    (no_pair (b ∷ rest) none) alone

-- spaces and comments
pub space_begins : (text : List ℕ) → 0 < length text → is_space (get_or text 0 0) ≡ true →
    BeginsPiece text None (drop 1 text)
space_begins [] some is = absurd (omega arith)
space_begins (b ∷ rest) some is =
    record { piece = space b; is_piece = is; text_is = refl; kind_is = refl }

pub comment_begins : (text inside rest : List ℕ) → text ≡ 40 ∷ (42 ∷ inside) →
    ClosesBefore inside rest → BeginsPiece text None rest
comment_begins text inside rest e c = record {
  piece = comment c.comment;
  is_piece = c.is_comment;
  text_is = e ∙ ap (λ us. 40 ∷ (42 ∷ us)) c.inside_is;
  kind_is = refl;
}

-- a byte that is no letter, digit or space
pub marked : (text : List ℕ) → 0 < length text → is_space (get_or text 0 0) ≡ false →
    is_ascii_alphabetic (get_or text 0 0) ≡ false → is_ascii_digit (get_or text 0 0) ≡ false →
    (is_ascii_alphanumeric (get_or text 0 0) || is_space (get_or text 0 0)) ≡ false
marked text some no_space no_letter no_digit =
    not-true (is_ascii_alphanumeric (get_or text 0 0) || is_space (get_or text 0 0))
    (mark_from (get_or text 0 0) no_letter no_digit no_space)

-- the answer with a place, of what was found
pub told : (text : List ℕ) (at : ℕ) (fault : Fault) (found : Option Scanned) →
    MatchOption found (BeginsFault fault text) (λ s. BeginsPiece text s.kind s.rest.now)
    → MatchResult (ok_or found (fault_at fault at)) (λ s. BeginsPiece text s.kind s.rest.now)
    (λ e. TellsFault text at e)
told text at fault None f = record { fault = fault; begins = f; answer_is = refl }
told text at fault (Some s) p = p
