-- What a function of the parser promises of its phrase.
use Rattle.std.specs.Prelude.{◌≡◌, ℕ, ◌+◌, ◌≤◌, List, [], ◌∷◌, ◌++◌, length, drop, Some, Result}
use Rattle.std.specs.Prelude.{MatchResult}
use Rattle.ob_syntax.specs.declared.token.Kind.{Kind}
use Rattle.ob_parse.specs.declared.cursor.Parser.{Parser}
use Rattle.ob_parse.specs.declared.cursor.ParseFault.{ParseFault}
use Rattle.ob_parse.specs.declared.cursor.ParseFault.TheVariants.{Grammar, TooDeep, OutOfMemory}
use Rattle.ob_syntax.specs.Grammar.{Nonterminal}
use Rattle.ob_syntax.specs.Forms.{Form, spell, end, depth}
use Rattle.ob_syntax.specs.ChosenRule.{first, Ends}
use Rattle.ob_syntax.specs.Tree.{Tree, tree}
use Rattle.ob_syntax.specs.Whole.{kinds}

-- the tokens that are still to read, and the number of the first of them
unfoldable pub left : Parser → List Kind
left p = kinds (drop p.at p.tokens.now)

abbrev pub place : Parser → ℕ
place p = p.at

-- the first token was gone past
pub record IsNext (kind : Kind) (old new : Parser) : Type 0 where
  pub from : left old ≡ kind ∷ left new
  pub place_is : place new ≡ place old + 1

-- From old to new exactly one form was read, of at most this depth and of this tree.
pub record IsRead (n : Nonterminal) (room : ℕ) (found : Tree n) (old new : Parser) : Type 0 where
  pub form : Form n
  pub read : List Kind
  pub from : left old ≡ read ++ left new
  pub count : place new ≡ place old + length read
  pub spelled : (ks : List Kind) → spell n form ks ≡ read ++ ks
  pub tree_is : found ≡ tree n (place old) form
  pub place_is : place new ≡ end n (place old) form
  pub deep : depth n form ≤ room
  -- of whatever begins like the rest
  pub follow : (ks : List Kind) → first ks ≡ first (left new) → Ends n form ks

-- Whatever stands after the tokens that were read, if it begins like the rest: no form of at most
-- this depth is in front.
abbrev pub IsStuck : Nonterminal → ℕ → List Kind → List Kind → Type 0
IsStuck n room read rest =
    (next : List Kind) → first next ≡ first rest → (form : Form n) (after : List Kind)
    → depth n form ≤ room → Ends n form after
    → read ++ next ≡ spell n form after → ⊥

-- Some tokens after those that were read make a form, of at most this depth.
abbrev pub GoesOn : Nonterminal → ℕ → List Kind → Type 0
GoesOn n room read =
    (form : Form n) × (depth n form ≤ room) × (more : List Kind)
    × ((ks : List Kind) → spell n form ks ≡ read ++ (more ++ ks))

-- The tokens up to the new place were read. Some form goes on from there, and none with the next
-- token, of any depth.
pub record IsRefused (n : Nonterminal) (room : ℕ) (old new : Parser) : Type 0 where
  pub read : List Kind
  pub from : left old ≡ read ++ left new
  pub count : place new ≡ place old + length read
  pub goes : GoesOn n room read
  pub stuck : (d : ℕ) → IsStuck n d read (left new)

-- The tokens up to the new place were read. Some form goes on from there, and with the next token
-- only forms that are too deep.
pub record IsTooDeep (n : Nonterminal) (room : ℕ) (old new : Parser) : Type 0 where
  pub read : List Kind
  pub from : left old ≡ read ++ left new
  pub count : place new ≡ place old + length read
  pub goes : GoesOn n room read
  pub stuck : IsStuck n room read (left new)
  pub next : Kind
  pub next_is : first (left new) ≡ Some next
  pub deeper : (d : ℕ) × GoesOn n d (read ++ next ∷ [])

abbrev pub Fails : Nonterminal → ℕ → Parser → Parser → ParseFault → Type 0
Fails n room old new (Grammar k) = (k ≡ place new) × IsRefused n room old new
Fails n room old new (TooDeep k) = (k ≡ place new) × IsTooDeep n room old new
Fails n room old new OutOfMemory = Unit {0}

abbrev pub Reads : (n : Nonterminal) → ℕ → Parser → Result (Tree n) ParseFault → Parser → Type 0
Reads n room old result new =
    MatchResult result (λ x. IsRead n room x old new) (Fails n room old new)
