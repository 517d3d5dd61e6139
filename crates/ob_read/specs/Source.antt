-- What a source is, by how far it gets: it has at most so many bytes, it has a token list, of at
-- most so many tokens, they are a module of at most so much depth, which breaks no rule, and of
-- nothing it has too much. What is told of a source is where it stops.
use Rattle.std.specs.Prelude.{◌≡◌, ◌⊎◌, ℕ, ◌+◌, ◌<◌, ◌≤◌, List, Some, length, Result, IsErrOf}
use Rattle.pra_base.specs.declared.limit.LimitKind.{LimitKind}
use Rattle.pra_base.specs.declared.limit.LimitKind.TheVariants as limit
use Rattle.ob_syntax.specs.declared.token.Token.{Token}
use Rattle.ob_syntax.specs.declared.tree.Module.{Module}
use Rattle.ob_syntax.specs.declared.checked.Checked.{Checked}
use Rattle.ob_syntax.specs.Declarations.{Reading}
use Rattle.ob_syntax.specs.Tokens.{Tokens, Fault, FirstFault}
use Rattle.ob_syntax.specs.WellFormed.{IsBroken, IsWellFormed, IsWithin, first_excess, resolved}
use Rattle.ob_syntax.specs.Whole.{kinds, most_nesting, IsTreeOf, StopsAt, DeepensAt}
use Rattle.ob_syntax.specs.Source.{most_bytes, most_tokens, byte_of, IsParsed}
use Rattle.ob_lex.specs.Scanning.{fault_at}
use Rattle.ob_check.specs.Checking.{IsChecked}
use Rattle.ob_read.specs.declared.fault.SourceFault.TheVariants.{Lex, Grammar, Rule}
use Rattle.ob_read.specs.declared.fault.LimitFault.TheVariants.{Count, Depth}
use Rattle.ob_read.specs.declared.fault.ReadFault.{ReadFault}
use Rattle.ob_read.specs.declared.fault.ReadFault.TheVariants.{Source, Limit, OutOfMemory}
use Rattle.ob_read.specs.Ladder.{Stops}

-- ---- the first rung: at most 1,048,576 bytes

abbrev pub IsShort : List ℕ → List ℕ → Type 0
IsShort bytes same = (length bytes ≤ most_bytes) × (same ≡ bytes)

-- the count that is told is the least that is too much
abbrev pub IsTooLong : List ℕ → ReadFault → Type 0
IsTooLong bytes f =
    (most_bytes < length bytes) × (f ≡ Limit (Count limit.Source (most_bytes + 1)))

-- ---- the second: a token list

-- a source with its tokens
pub record Scanned : Type 0 where
  pub bytes : List ℕ
  pub tokens : List Token

abbrev pub HasTokens : List ℕ → Scanned → Type 0
HasTokens bytes s = Tokens bytes s.tokens × (s.bytes ≡ bytes)

-- the first lexical fault and its byte
pub record HasNoTokens (bytes : List ℕ) (f : ReadFault) : Type 0 where
  pub fault : Fault
  pub at : ℕ
  pub first : FirstFault bytes fault at
  pub told : f ≡ Source (Lex (fault_at fault at))

-- ---- the third: at most 65,536 tokens

abbrev pub AreFew : Scanned → Scanned → Type 0
AreFew s same = (length s.tokens ≤ most_tokens) × (same ≡ s)

abbrev pub AreOver : Scanned → ReadFault → Type 0
AreOver s f =
    (most_tokens < length s.tokens) × (f ≡ Limit (Count limit.Tokens (length s.tokens)))

-- ---- the fourth: a tree of depth at most 64

-- a source with its tokens and its tree
pub record ParsedText : Type 0 where
  pub bytes : List ℕ
  pub tokens : List Token
  pub tree : Module

abbrev pub HasTree : Scanned → ParsedText → Type 0
HasTree s t =
    IsTreeOf most_nesting (kinds s.tokens) t.tree × (t.bytes ≡ s.bytes) × (t.tokens ≡ s.tokens)

-- the token that no module goes on with, and its byte
pub record HasNoModule (s : Scanned) (f : ReadFault) : Type 0 where
  pub token : ℕ
  pub stops : StopsAt (kinds s.tokens) token
  pub told : f ≡ Source (Grammar token (byte_of s.bytes s.tokens token))

-- the token that only deeper modules go on with, and its byte
pub record IsTooDeep (s : Scanned) (f : ReadFault) : Type 0 where
  pub token : ℕ
  pub deepens : DeepensAt (kinds s.tokens) token
  pub told : f ≡ Limit (Depth token (byte_of s.bytes s.tokens token))

abbrev pub HasNoTree : Scanned → ReadFault → Type 0
HasNoTree s f = HasNoModule s f ⊎ IsTooDeep s f

-- ---- the fifth: no rule is broken

-- a source with its tree, and what that is read as
pub record WellFormedText : Type 0 where
  pub text : ParsedText
  pub reading : Reading

abbrev pub HasReading : ParsedText → WellFormedText → Type 0
HasReading t w = IsWellFormed t.bytes t.tokens t.tree w.reading × (w.text ≡ t)

-- the first rule that is broken, its token, and the byte of that
pub record BreaksRule (t : ParsedText) (f : ReadFault) : Type 0 where
  pub rule : ℕ
  pub token : ℕ
  pub broken : IsBroken t.bytes t.tokens t.tree rule token
  pub told : f ≡ Source (Rule rule token (byte_of t.bytes t.tokens token))

-- ---- the sixth: nothing above its maximum

-- a source with its tree, and the module that it stands for
pub record ReadText : Type 0 where
  pub text : ParsedText
  pub checked : Checked

abbrev pub StandsFor : WellFormedText → ReadText → Type 0
StandsFor w t =
    IsWithin w.reading × (t.text ≡ w.text) × (t.checked ≡ resolved w.text.tree w.reading)

-- the first quantity above its maximum, and how much there is of it
pub record HasTooMuch (w : WellFormedText) (f : ReadFault) : Type 0 where
  pub kind : LimitKind
  pub count : ℕ
  pub excess : first_excess w.reading ≡ Some (kind, count)
  pub told : f ≡ Limit (Count kind count)

-- ---- the whole ladder

-- the answer is this refusal, unless memory is wanting
abbrev pub IsErrUnlessMemory : {T : Type 0} → Result T ReadFault → ReadFault → Type 0
IsErrUnlessMemory answer fault = IsErrOf answer fault ⊎ IsErrOf answer OutOfMemory

-- These are the tokens and the tree of the bytes.
abbrev pub HasText : List ℕ → ParsedText → Type 0
HasText bytes t = (t.bytes ≡ bytes) × IsParsed bytes t.tokens t.tree

-- These are the tokens and the tree of the bytes, and the module that they stand for.
abbrev pub IsRead : List ℕ → ReadText → Type 0
IsRead bytes t =
    (t.text.bytes ≡ bytes) × IsParsed bytes t.text.tokens t.text.tree
    × IsChecked bytes t.text.tokens t.text.tree t.checked

-- The bytes stop before they have a tree, with this fault.
abbrev pub IsUnparsed : List ℕ → ReadFault → Type 0
IsUnparsed =
    Stops IsTooLong IsShort (Stops HasNoTokens HasTokens (Stops AreOver AreFew HasNoTree))

-- The bytes stop at a rung, with this fault.
abbrev pub IsUnreadable : List ℕ → ReadFault → Type 0
IsUnreadable =
    Stops IsTooLong IsShort (Stops HasNoTokens HasTokens (Stops AreOver AreFew
    (Stops HasNoTree HasTree (Stops BreaksRule HasReading HasTooMuch))))
