-- What the scanner answers, by the pieces and faults of a text.
use Rattle.std.specs.Prelude.{◌≡◌, ℕ, List, Option, Some, None, Result, IsErrOf, ◌⊎◌}
use Rattle.ob_syntax.specs.declared.token.Kind.{Kind}
use Rattle.ob_syntax.specs.Tokens.{Piece, space, comment, token, IsPiece, piece_text, Comment}
use Rattle.ob_syntax.specs.Tokens.{IsComment, comment_text, Fault, number_too_large, open_comment}
use Rattle.ob_syntax.specs.Tokens.{bad_byte, BeginsFault, FirstFault}
use Rattle.ob_syntax.specs.Source.{AreTooMany}
use Rattle.ob_lex.specs.declared.scanner.LexFault.{LexFault}
use Rattle.ob_lex.specs.declared.scanner.LexFault.TheVariants.{BadByte, OpenComment, NumberTooLarge}
use Rattle.ob_lex.specs.declared.scanner.LexFault.TheVariants.{TokensOver, OutOfMemory}

-- the kind of a token; a space and a comment have none
abbrev pub kind_of : Piece → Option Kind
kind_of (space b) = None
kind_of (comment c) = None
kind_of (token kind word) = Some kind

-- the text begins with a piece of this kind, behind which rest stands
pub record BeginsPiece (text : List ℕ) (kind : Option Kind) (rest : List ℕ) : Type 0 where
  pub piece : Piece
  pub is_piece : IsPiece piece rest
  pub text_is : text ≡ piece_text piece rest
  pub kind_is : kind ≡ kind_of piece

-- the text, which stands behind a `(*`, ends a comment, behind which rest stands
pub record ClosesBefore (inside rest : List ℕ) : Type 0 where
  pub comment : Comment
  pub is_comment : IsComment comment rest
  pub inside_is : inside ≡ comment_text comment rest

-- the answer that tells of a fault at a byte
abbrev pub fault_at : Fault → ℕ → LexFault
fault_at number_too_large at = NumberTooLarge at
fault_at open_comment at = OpenComment at
fault_at bad_byte at = BadByte at

-- the answer tells of the fault with which the text, at this byte, begins
pub record TellsFault (text : List ℕ) (at : ℕ) (answer : LexFault) : Type 0 where
  pub fault : Fault
  pub begins : BeginsFault fault text
  pub answer_is : answer ≡ fault_at fault at

-- why a source has no token list that is kept
abbrev pub IsCause : List ℕ → LexFault → Type 0
IsCause bytes (BadByte at) = FirstFault bytes bad_byte at
IsCause bytes (OpenComment at) = FirstFault bytes open_comment at
IsCause bytes (NumberTooLarge at) = FirstFault bytes number_too_large at
IsCause bytes (TokensOver count) = AreTooMany bytes count
IsCause bytes OutOfMemory = Unit {0}

-- the answer is this refusal, unless memory is wanting
abbrev pub IsErrUnlessMemory : {T : Type 0} → Result T LexFault → LexFault → Type 0
IsErrUnlessMemory answer refusal = IsErrOf answer refusal ⊎ IsErrOf answer OutOfMemory
