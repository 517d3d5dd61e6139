-- A source with its tokens and its tree, and what may be wrong with it.
use Rattle.std.specs.Prelude.{◌≡◌, ℕ, ◌-◌, ◌<◌, ◌≤◌, List, [], ◌∷◌, length, take, drop, slice_get}
use Rattle.std.specs.Prelude.{Option, Some, None, codes}
use Rattle.pra_base.specs.declared.limit.LimitKind.TheVariants as limit
use Rattle.pra_base.specs.Limits.{limit_maximum}
use Rattle.ob_syntax.specs.declared.token.Kind.{Kind}
use Rattle.ob_syntax.specs.declared.token.Token.{Token}
use Rattle.ob_syntax.specs.declared.tree.Module.{Module}
use Rattle.ob_syntax.specs.Tokens.{Tokens}
use Rattle.ob_syntax.specs.Whole.{kinds, most_nesting, IsTreeOf}

-- the most bytes of a source
abbrev pub most_bytes : ℕ
most_bytes = limit_maximum limit.Source

-- the most tokens of a source
abbrev pub most_tokens : ℕ
most_tokens = limit_maximum limit.Tokens

-- a text as the list of its bytes
abbrev pub Name : Type 0
Name = List ℕ

-- the text of token k; none behind the last token
abbrev pub spelling : List ℕ → List Token → ℕ → Name
spelling bytes tokens k = spelled (slice_get tokens k)
  where
    spelled : Option Token → Name
    spelled (Some t) = take (t.to - t.from) (drop t.from bytes)
    spelled None = []

-- the byte with which token k begins; behind the last token, the number of all bytes
abbrev pub byte_of : List ℕ → List Token → ℕ → ℕ
byte_of bytes tokens k = from (slice_get tokens k)
  where
    from : Option Token → ℕ
    from (Some t) = t.from
    from None = length bytes

-- The bytes are at most 1,048,576, and these are their tokens, at most 65,536.
pub record IsScanned (bytes : List ℕ) (tokens : List Token) : Type 0 where
  pub short : length bytes ≤ most_bytes
  pub scanned : Tokens bytes tokens
  pub few : length tokens ≤ most_tokens

-- And this is their tree, of depth at most 64.
pub record IsParsed (bytes : List ℕ) (tokens : List Token) (tree : Module) : Type 0 where
  pub scanned : IsScanned bytes tokens
  pub parsed : IsTreeOf most_nesting (kinds tokens) tree

-- There are more than 65,536 tokens, so many as the count says.
pub record AreTooMany (bytes : List ℕ) (count : ℕ) : Type 0 where
  pub short : length bytes ≤ most_bytes
  pub tokens : List Token
  pub scanned : Tokens bytes tokens
  pub count_is : count ≡ length tokens
  pub over : most_tokens < count
