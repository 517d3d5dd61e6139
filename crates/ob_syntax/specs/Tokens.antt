-- The tokens of a source text and its first lexical fault, by the lexical rules of Oberon-0 (Wirth,
-- Compiler Construction, chapter 6 and appendix A.1): ident = letter {letter | digit}, integer =
-- digit {digit}, keywords and symbols, and comments, which nest. At each place the longest spelling
-- is taken. A text is the list of its bytes.
use Rattle.std.specs.Prelude.{◌≡◌, ℕ, ◌+◌, ◌-◌, ◌*◌, ◌≤◌, ◌<◌, pos, Bool, false, IsTrue, ◌&&◌, ◌||◌}
use Rattle.std.specs.Prelude.{◌==◌, List, [], ◌∷◌, ◌++◌, length, fold, Contains, codes, All}
use Rattle.std.specs.Prelude.{AllPairs, slice_range}
use Rattle.std.specs.List.{list_all}
use Rattle.std.specs.Char.{is_ascii_alphabetic, is_ascii_alphanumeric, is_ascii_digit}
use Rattle.ob_syntax.specs.declared.token.Kind.{Kind}
use Rattle.ob_syntax.specs.declared.token.Kind.TheVariants.{Ident, Number, KwArray, KwBegin}
use Rattle.ob_syntax.specs.declared.token.Kind.TheVariants.{KwConst, KwDiv, KwDo, KwElse, KwElsif}
use Rattle.ob_syntax.specs.declared.token.Kind.TheVariants.{KwEnd, KwIf, KwMod, KwModule, KwOf}
use Rattle.ob_syntax.specs.declared.token.Kind.TheVariants.{KwOr, KwProcedure, KwRecord, KwRepeat}
use Rattle.ob_syntax.specs.declared.token.Kind.TheVariants.{KwThen, KwType, KwUntil, KwVar, KwWhile}
use Rattle.ob_syntax.specs.declared.token.Kind.TheVariants.{Period, Comma, Semicolon, Colon}
use Rattle.ob_syntax.specs.declared.token.Kind.TheVariants.{Becomes, LeftParen, RightParen}
use Rattle.ob_syntax.specs.declared.token.Kind.TheVariants.{LeftBracket, RightBracket, Tilde, Times}
use Rattle.ob_syntax.specs.declared.token.Kind.TheVariants.{Amp, Plus, Minus, Equal, Unequal, Less}
use Rattle.ob_syntax.specs.declared.token.Kind.TheVariants.{LessEqual, Greater, GreaterEqual}
use Rattle.ob_syntax.specs.declared.token.Token.{Token}

-- ident = letter {letter | digit}
abbrev pub is_name : List ℕ → Bool
is_name [] = false
is_name (b ∷ bs) = is_ascii_alphabetic b && list_all is_ascii_alphanumeric bs

-- integer = digit {digit}
abbrev pub is_integer : List ℕ → Bool
is_integer [] = false
is_integer (b ∷ bs) = list_all is_ascii_digit (b ∷ bs)

-- the number that decimal digits write
abbrev pub integer_value : List ℕ → ℕ
integer_value digits = fold (λ n digit. 10 * n + (digit - 48)) 0 digits

-- the greatest integer of the source, 2 ^ 31 - 1
abbrev pub greatest_integer : ℕ
greatest_integer = 2147483647

-- blank, tab, line feed and carriage return separate tokens
abbrev pub is_space : ℕ → Bool
is_space b = ((b == 32) || (b == 9)) || ((b == 10) || (b == 13))

-- the tokens that have one spelling each
abbrev pub fixed : List (Kind × List ℕ)
fixed =
    (KwArray, codes "ARRAY") ∷ (KwBegin, codes "BEGIN") ∷ (KwConst, codes "CONST") ∷
    (KwDiv, codes "DIV") ∷ (KwDo, codes "DO") ∷ (KwElse, codes "ELSE") ∷
    (KwElsif, codes "ELSIF") ∷ (KwEnd, codes "END") ∷ (KwIf, codes "IF") ∷ (KwMod, codes "MOD") ∷
    (KwModule, codes "MODULE") ∷ (KwOf, codes "OF") ∷ (KwOr, codes "OR") ∷
    (KwProcedure, codes "PROCEDURE") ∷ (KwRecord, codes "RECORD") ∷ (KwRepeat, codes "REPEAT") ∷
    (KwThen, codes "THEN") ∷ (KwType, codes "TYPE") ∷ (KwUntil, codes "UNTIL") ∷
    (KwVar, codes "VAR") ∷ (KwWhile, codes "WHILE") ∷ (Period, codes ".") ∷ (Comma, codes ",") ∷
    (Semicolon, codes ";") ∷ (Colon, codes ":") ∷ (Becomes, codes ":=") ∷ (LeftParen, codes "(") ∷
    (RightParen, codes ")") ∷ (LeftBracket, codes "[") ∷ (RightBracket, codes "]") ∷
    (Tilde, codes "~") ∷ (Times, codes "*") ∷ (Amp, codes "&") ∷ (Plus, codes "+") ∷
    (Minus, codes "-") ∷ (Equal, codes "=") ∷ (Unequal, codes "#") ∷ (Less, codes "<") ∷
    (LessEqual, codes "<=") ∷ (Greater, codes ">") ∷ (GreaterEqual, codes ">=") ∷ []

-- what can be a token's spelling. An integer is one however great it is
pub data IsSpelling (word : List ℕ) : Type 0 where
  a_name : IsTrue (is_name word) → IsSpelling word
  an_integer : IsTrue (is_integer word) → IsSpelling word
  a_fixed_one : (kind : Kind) → Contains fixed (kind, word) → IsSpelling word

-- the kind of token that a word spells: a name that is a keyword is no identifier
pub data Spells (kind : Kind) (word : List ℕ) : Type 0 where
  identifier : IsTrue (is_name word) → ((keyword : Kind) → Contains fixed (keyword, word) → ⊥)
      → kind ≡ Ident → Spells kind word
  number : IsTrue (is_integer word) → integer_value word ≤ greatest_integer
      → kind ≡ Number (pos (integer_value word)) → Spells kind word
  fixed_token : Contains fixed (kind, word) → Spells kind word

-- no spelling of a token is longer than this word at its place, before rest
abbrev pub IsLongest : List ℕ → List ℕ → Type 0
IsLongest word rest =
    (other after : List ℕ) → IsSpelling other → word ++ rest ≡ other ++ after
    → length other ≤ length word

-- the text begins with these bytes
abbrev pub Begins : List ℕ → List ℕ → Type 0
Begins mark text = (after : List ℕ) × (text ≡ mark ++ after)

-- What a comment holds behind its `(*`: its end `*)`, or a byte or a comment inside and what it
-- holds behind that.
pub data Comment : Type 0 where
  comment_end : Comment
  byte : ℕ → Comment → Comment
  inner : Comment → Comment → Comment

-- its text, and then rest
abbrev pub comment_text : Comment → List ℕ → List ℕ
comment_text comment_end rest = codes "*)" ++ rest
comment_text (byte b c) rest = b ∷ comment_text c rest
comment_text (inner c d) rest = codes "(*" ++ comment_text c (comment_text d rest)

-- before rest, no byte that stands for itself begins a `(*` or a `*)`
abbrev pub IsComment : Comment → List ℕ → Type 0
IsComment comment_end rest = Unit {0}
IsComment (byte b c) rest =
    ¬ Begins (codes "(*") (b ∷ comment_text c rest)
    × ¬ Begins (codes "*)") (b ∷ comment_text c rest)
    × IsComment c rest
IsComment (inner c d) rest = IsComment c (comment_text d rest) × IsComment d rest

-- no comment ends in this text, which stands behind a `(*`
abbrev pub NeverCloses : List ℕ → Type 0
NeverCloses inside =
    (c : Comment) (rest : List ℕ) → IsComment c rest → inside ≡ comment_text c rest → ⊥

-- a piece of a source text
pub data Piece : Type 0 where
  space : ℕ → Piece
  comment : Comment → Piece
  token : Kind → List ℕ → Piece

-- the piece's text, and then rest
abbrev pub piece_text : Piece → List ℕ → List ℕ
piece_text (space b) rest = b ∷ rest
piece_text (comment c) rest = codes "(*" ++ comment_text c rest
piece_text (token kind word) rest = word ++ rest

-- the piece may stand before rest: a `(*` in front opens a comment and is no token
abbrev pub IsPiece : Piece → List ℕ → Type 0
IsPiece (space b) rest = IsTrue (is_space b)
IsPiece (comment c) rest = IsComment c rest
IsPiece (token kind word) rest =
    Spells kind word × IsLongest word rest × ¬ Begins (codes "(*") (word ++ rest)

-- the texts of pieces one after another, and then rest
abbrev pub pieces_text : List Piece → List ℕ → List ℕ
pieces_text [] rest = rest
pieces_text (p ∷ ps) rest = piece_text p (pieces_text ps rest)

abbrev pub ArePieces : List Piece → List ℕ → Type 0
ArePieces [] rest = Unit {0}
ArePieces (p ∷ ps) rest = IsPiece p (pieces_text ps rest) × ArePieces ps rest

-- how many bytes a piece has
abbrev pub piece_width : Piece → ℕ
piece_width p = length (piece_text p [])

-- the tokens among pieces that stand from the byte of this number on
abbrev pub tokens_from : ℕ → List Piece → List Token
tokens_from at [] = []
tokens_from at (space b ∷ ps) = tokens_from (at + 1) ps
tokens_from at (comment c ∷ ps) = tokens_from (at + piece_width (comment c)) ps
tokens_from at (token kind word ∷ ps) =
    record { kind = kind; from = at; to = at + length word } ∷ tokens_from (at + length word) ps

-- the bytes are spaces, comments and, in this order, the spellings of the list's tokens, each the
-- longest at its place
pub record Tokens (bytes : List ℕ) (list : List Token) : Type 0 where
  pub pieces : List Piece
  pub are_pieces : ArePieces pieces []
  pub text : bytes ≡ pieces_text pieces []
  pub tokens : list ≡ tokens_from 0 pieces

-- the tokens slice their spellings from the source, one behind another
pub record SlicesSource (bytes : List ℕ) (list : List Token) : Type 0 where
  pub within : All (λ t. (t.from < t.to) × (t.to ≤ length bytes)) list
  pub spelled : All (λ t. Spells t.kind (slice_range bytes t.from t.to)) list
  pub in_order : AllPairs (λ t u. t.to ≤ u.from) list

-- an integer above the greatest, a `(*` whose comment never ends, a byte that begins no space,
-- comment or token
pub data Fault : Type 0 where
  number_too_large : Fault
  open_comment : Fault
  bad_byte : Fault

-- the text begins with this fault
abbrev pub BeginsFault : Fault → List ℕ → Type 0
BeginsFault number_too_large text =
    (word rest : List ℕ) × (text ≡ word ++ rest) × IsTrue (is_integer word) × IsLongest word rest
    × (greatest_integer < integer_value word)
BeginsFault open_comment text =
    (inside : List ℕ) × (text ≡ codes "(*" ++ inside) × NeverCloses inside
BeginsFault bad_byte text =
    (b : ℕ) × (rest : List ℕ) × (text ≡ b ∷ rest) × ¬ IsTrue (is_space b)
    × ¬ Begins (codes "(*") text
    × ((word after : List ℕ) → IsSpelling word → text ≡ word ++ after → ⊥)

-- whole pieces stand before the byte of this number, and the fault begins there
pub record FirstFault (bytes : List ℕ) (fault : Fault) (at : ℕ) : Type 0 where
  pub pieces : List Piece
  pub rest : List ℕ
  pub are_pieces : ArePieces pieces rest
  pub text : bytes ≡ pieces_text pieces rest
  pub place : length bytes ≡ at + length rest
  pub begins : BeginsFault fault rest
