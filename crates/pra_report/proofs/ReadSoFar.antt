-- An input that is read up to some place.
use Rattle.std.proofs.Common.{◌≡◌, ℕ, ◌+◌, ◌-◌, ◌<◌, Some, None, List, [], ◌∷◌, ◌++◌, length, refl}
use Rattle.std.proofs.Common.{ap, arith, ◌∙◌, sym, append_assoc, inl, inr, append-nil}
use Rattle.std.specs.Prelude.{ℤ, Result, Ok, Err}
use Rattle.std.specs.List.{slice_split}
use Rattle.pra_report.specs.Input.{is_separator, word_of, runs_from, with_word, numbers_of}
use Rattle.pra_report.specs.Input.{input_words}
use Rattle.pra_report.specs.Parts.{IsFirstPart}

-- numbers in front of what is read behind them
abbrev pub behind : List ℤ → Result (List ℤ) ℕ → Result (List ℤ) ℕ
behind words (Ok numbers) = Ok (words ++ numbers)
behind words (Err at) = Err at

-- the parts from a place on, read
abbrev pub from_place : ℕ → List ℕ → Result (List ℤ) ℕ
from_place at rest = numbers_of (runs_from at (slice_split is_separator rest))

-- the bytes give these numbers, and behind them what the rest gives
pub record IsReadTo (bytes : List ℕ) (words : List ℤ) (rest : List ℕ) : Type 0 where
  pub at : ℕ
  pub place : at + length rest ≡ length bytes
  pub same : input_words bytes ≡ behind words (from_place at rest)

behind-none : (r : Result (List ℤ) ℕ) → r ≡ behind [] r
behind-none (Ok numbers) = refl
behind-none (Err at) = refl

pub nothing_read : (bytes : List ℕ) → IsReadTo bytes [] bytes
nothing_read bytes = record { at = 0; place = omega arith; same = behind-none (input_words bytes) }

pub all_read : (bytes : List ℕ) (words : List ℤ) → IsReadTo bytes words [] → input_words bytes ≡
    Ok words
all_read bytes words so_far = so_far.same ∙ ap Ok (append-nil words)

-- ---- a part without bytes

pub gap : (bytes : List ℕ) (words : List ℤ) (rest part others : List ℕ) →
    IsReadTo bytes words rest → IsFirstPart rest part others → length part ≡ 0 →
    IsReadTo bytes words others
gap bytes words rest [] others so_far (inl p) none = record {
  at = so_far.at + 1;
  place = omega arith;
  same = so_far.same ∙ ap (λ parts. behind words (numbers_of (runs_from so_far.at parts))) p.parts;
}
gap bytes words rest [] others so_far (inr p) none = record {
  at = length bytes;
  place = rw p.none (omega arith);
  same = so_far.same ∙ ap (λ parts. behind words (numbers_of (runs_from so_far.at parts))) p.only
      ∙ ap (λ others. behind words (from_place (length bytes) others)) (sym p.none);
}
gap bytes words rest (b ∷ part) others so_far p none = absurd (omega arith)

-- ---- a word

word_first : (at : ℕ) (part : List ℕ) (parts : List (List ℕ)) (n : ℤ) → word_of part ≡ Some n →
    numbers_of (runs_from at (part ∷ parts)) ≡ with_word at (Some n)
    (numbers_of (runs_from (at + length part + 1) parts))
word_first at [] parts n e = cc
word_first at (b ∷ part) parts n e =
    ap (λ w. with_word at w (numbers_of (runs_from (at + length (b ∷ part) + 1) parts))) e

behind-with_word : (words : List ℤ) (at : ℕ) (n : ℤ) (more : Result (List ℤ) ℕ) →
    behind words (with_word at (Some n) more) ≡ behind (words ++ n ∷ []) more
behind-with_word words at n (Ok numbers) = ap Ok (sym (append_assoc words (n ∷ []) numbers))
behind-with_word words at n (Err place) = refl

pub word : (bytes : List ℕ) (words : List ℤ) (rest part others : List ℕ) (n : ℤ) →
    IsReadTo bytes words rest → IsFirstPart rest part others → word_of part ≡ Some n →
    IsReadTo bytes (words ++ n ∷ []) others
word bytes words rest part others n so_far (inl p) e = record {
  at = so_far.at + length part + 1;
  place = omega (arith, p.size);
  same = so_far.same ∙ ap (λ parts. behind words (numbers_of (runs_from so_far.at parts))) p.parts
      ∙ ap (behind words) (word_first so_far.at part (slice_split is_separator others) n e)
      ∙ behind-with_word words so_far.at n (from_place (so_far.at + length part + 1) others);
}
word bytes words rest part others n so_far (inr p) e = record {
  at = length bytes;
  place = rw p.none (omega arith);
  same = so_far.same ∙ ap (λ parts. behind words (numbers_of (runs_from so_far.at parts))) p.only
      ∙ ap (behind words) (word_first so_far.at part [] n e)
      ∙ behind-with_word words so_far.at n (Ok [])
      ∙ ap (λ others. behind (words ++ n ∷ []) (from_place (length bytes) others)) (sym p.none);
}

-- ---- a run that is no word

bad_first : (at : ℕ) (part : List ℕ) (parts : List (List ℕ)) → 0 < length part → word_of part ≡
    None → numbers_of (runs_from at (part ∷ parts)) ≡ Err at
bad_first at [] parts some e = absurd (omega arith)
bad_first at (b ∷ part) parts some e =
    ap (λ w. with_word at w (numbers_of (runs_from (at + length (b ∷ part) + 1) parts))) e

bad_part : (at : ℕ) (rest part others : List ℕ) → IsFirstPart rest part others → 0 < length part →
    word_of part ≡ None → from_place at rest ≡ Err at
bad_part at rest part others (inl p) some e =
    ap (λ parts. numbers_of (runs_from at parts)) p.parts
    ∙ bad_first at part (slice_split is_separator others) some e
bad_part at rest part others (inr p) some e =
    ap (λ parts. numbers_of (runs_from at parts)) p.only ∙ bad_first at part [] some e

pub no_word : (bytes : List ℕ) (words : List ℤ) (rest part others : List ℕ) →
    IsReadTo bytes words rest → IsFirstPart rest part others → 0 < length part → word_of part ≡
    None → input_words bytes ≡ Err (length bytes - length rest)
no_word bytes words rest part others so_far p some e =
    so_far.same
    ∙ ap (behind words) (bad_part so_far.at rest part others p some e)
    ∙ ap Err (omega (arith, so_far.place))
