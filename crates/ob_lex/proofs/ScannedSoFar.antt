-- How far a source is scanned.
use Rattle.std.proofs.Common.{◌≡◌, ℕ, ◌+◌, ◌-◌, ◌<◌, ◌≤◌, List, [], ◌∷◌, ◌++◌, length, Option, Some}
use Rattle.std.proofs.Common.{None, refl, sym, ap, subst, ◌∙◌, arith, append-nil, length-append}
use Rattle.std.proofs.Common.{true, eqb-true, ◌==◌}
use Rattle.std.proofs.lemmas.List.{nil_from_length}
use Rattle.ob_syntax.specs.declared.token.Kind.{Kind}
use Rattle.ob_syntax.specs.declared.token.Token.{Token}
use Rattle.ob_syntax.specs.Tokens.{Piece, token, IsPiece, piece_text, ArePieces, pieces_text}
use Rattle.ob_syntax.specs.Tokens.{tokens_from, Tokens, Fault, FirstFault, bad_byte}
use Rattle.ob_syntax.proofs.Texts.{shorter_behind, pieces_text-push, ArePieces-push}
use Rattle.ob_syntax.proofs.Texts.{tokens_from-push, total_width, length-pieces_text}
use Rattle.ob_lex.specs.declared.scanner.LexFault.{LexFault}
use Rattle.ob_lex.specs.declared.scanner.LexFault.TheVariants.{TokensOver}
use Rattle.ob_lex.specs.Scanning.{BeginsPiece, kind_of, TellsFault, fault_at, IsCause}
use Rattle.ob_syntax.specs.Source.{most_bytes, most_tokens}

-- the source is scanned up to rest: so many tokens stood before it, and these were kept, all of
-- them up to the limit
pub record IsScannedTo (bytes rest : List ℕ) (kept : List Token) (count : ℕ) : Type 0 where
  pub pieces : List Piece
  pub are_pieces : ArePieces pieces rest
  pub text : bytes ≡ pieces_text pieces rest
  pub counted : count ≡ length (tokens_from 0 pieces)
  pub all_kept : count ≤ most_tokens → kept ≡ tokens_from 0 pieces

pub nothing_scanned : (bytes : List ℕ) → IsScannedTo bytes bytes [] 0
nothing_scanned bytes = record {
  pieces = [];
  are_pieces = tt;
  text = refl;
  counted = refl;
  all_kept = λ _. refl;
}

pub behind_shorter : {text rest : List ℕ} {kind : Option Kind} → BeginsPiece text kind rest →
    length rest < length text
behind_shorter {rest = rest} b =
    let shorter = shorter_behind b.piece rest b.is_piece in
    omega (arith, shorter, ap length b.text_is)

module _ {bytes text : List ℕ} (rest : List ℕ) {kept : List Token} {count : ℕ}
    (s : IsScannedTo bytes text kept count) (p : Piece) (is : IsPiece p rest)
    (text_is : text ≡ piece_text p rest) where
  abbrev longer : List Piece
  longer = s.pieces ++ p ∷ []

  -- behind the piece, with the tokens that it has
  scanned_on : (ts : List Token) → tokens_from (0 + total_width s.pieces) (p ∷ []) ≡ ts →
      (kept' : List Token) (n : ℕ) → n ≡ count + length ts →
      (n ≤ most_tokens → kept' ≡ kept ++ ts) → IsScannedTo bytes rest kept' n
  scanned_on ts has kept' n sum pushed =
      let same : tokens_from 0 longer ≡ tokens_from 0 s.pieces ++ ts =
      tokens_from-push s.pieces 0 p ∙ ap (λ l. tokens_from 0 s.pieces ++ l) has in
      record {
        pieces = longer;
        are_pieces = ArePieces-push s.pieces p rest
            (subst (ArePieces s.pieces) text_is s.are_pieces) is;
        text = s.text ∙ ap (pieces_text s.pieces) text_is
            ∙ sym (pieces_text-push s.pieces p rest);
        counted = omega (
          arith,
          sum,
          s.counted,
          ap length same,
          length-append (tokens_from 0 s.pieces) ts,
        );
        all_kept = λ few. pushed few ∙ ap (λ l. l ++ ts) (s.all_kept (omega (arith, few, sum)))
            ∙ sym same;
      }

pub behind_gap : {bytes text rest : List ℕ} {kept : List Token} {count : ℕ} →
    IsScannedTo bytes text kept count → BeginsPiece text None rest →
    IsScannedTo bytes rest kept count
behind_gap {bytes} {text} {rest} {kept} {count} s b = by b.piece b.is_piece b.text_is b.kind_is
  where
    by : (p : Piece) → IsPiece p rest → text ≡ piece_text p rest → None ≡ kind_of p →
        IsScannedTo bytes rest kept count
    by (token kind w) is e k = cc
    by p is e k = scanned_on rest s p is e [] refl kept count (omega arith)
        (λ _. sym (append-nil kept))

-- the token in front of a text, before rest
abbrev pub token_at : List ℕ → List ℕ → List ℕ → Kind → Token
token_at bytes text rest kind =
    record { kind = kind; from = length bytes - length text; to = length bytes - length rest }

pub behind_token : {bytes text rest : List ℕ} {kept : List Token} {count : ℕ} →
    IsScannedTo bytes text kept count → (kind : Kind) → BeginsPiece text (Some kind) rest →
    (kept' : List Token) →
    (count < most_tokens → kept' ≡ kept ++ token_at bytes text rest kind ∷ []) →
    IsScannedTo bytes rest kept' (count + 1)
behind_token {bytes} {text} {rest} {count = count} s kind b kept' pushed =
    by b.piece b.is_piece b.text_is b.kind_is
  where
    by : (p : Piece) → IsPiece p rest → text ≡ piece_text p rest → Some kind ≡ kind_of p →
        IsScannedTo bytes rest kept' (count + 1)
    by (token kind' w) is e k =
        let size : length text ≡ length w + length rest = ap length e ∙ length-append w rest in
        let all : length bytes ≡ length (pieces_text s.pieces text) = ap length s.text in
        let sum = length-pieces_text s.pieces text in
        let from : 0 + total_width s.pieces ≡ length bytes - length text = omega arith in
        let to : (0 + total_width s.pieces) + length w ≡ length bytes - length rest = omega arith in
        let same : kind' ≡ kind = cc in
        scanned_on rest s (token kind' w) is e (token_at bytes text rest kind ∷ [])
        (λ i. record { kind = same i; from = from i; to = to i } ∷ []) kept' (count + 1)
        (omega arith) (λ few. pushed (omega arith))
    by p is e k = cc

-- the end of the source
module _ {bytes rest : List ℕ} {kept : List Token} {count : ℕ}
    (s : IsScannedTo bytes rest kept count) (over : true ≡ (length rest == 0)) where
  none_left : rest ≡ []
  none_left = nil_from_length rest (eqb-true (length rest) 0 (sym over))

  whole_list : Tokens bytes (tokens_from 0 s.pieces)
  whole_list = record {
    pieces = s.pieces;
    are_pieces = subst (ArePieces s.pieces) none_left s.are_pieces;
    text = s.text ∙ ap (pieces_text s.pieces) none_left;
    tokens = refl;
  }

  pub over_cause : length bytes ≤ most_bytes → most_tokens < count →
      IsCause bytes (TokensOver count)
  over_cause short many = record {
    short = short;
    tokens = tokens_from 0 s.pieces;
    scanned = whole_list;
    count_is = s.counted;
    over = many;
  }

  pub kept_whole : count ≤ most_tokens → Tokens bytes kept × (length kept ≤ most_tokens)
  kept_whole few = let same = s.all_kept few in let size = ap length same in
      (subst (Tokens bytes) (sym same) whole_list, omega (arith, s.counted))

cause_of : (bytes : List ℕ) (fault : Fault) (at : ℕ) → FirstFault bytes fault at →
    IsCause bytes (fault_at fault at)
cause_of bytes bad_byte at f = f
cause_of bytes _ at f = f

-- the fault in front of the text that is left is the first one
pub fault_told : {bytes text : List ℕ} {kept : List Token} {count at : ℕ} {answer : LexFault} →
    IsScannedTo bytes text kept count → TellsFault text at answer →
    at ≡ length bytes - length text → length text ≤ length bytes → IsCause bytes answer
fault_told {bytes} {text} {at = at} s t place le = subst (IsCause bytes) (sym t.answer_is)
    (cause_of bytes t.fault at (record {
      pieces = s.pieces;
      rest = text;
      are_pieces = s.are_pieces;
      text = s.text;
      place = omega arith;
      begins = t.begins;
    }))
