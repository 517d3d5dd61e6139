-- What stops at each rung, by what the scanner, the parser and the checker tell.
use Rattle.std.proofs.Common.{◌≡◌, inl, inr, refl, ap, subst, ◌<◌, ◌≤◌, ℕ, List, length}
use Rattle.pra_base.specs.declared.limit.LimitKind.{LimitKind}
use Rattle.pra_base.specs.declared.limit.LimitKind.TheVariants as limit
use Rattle.ob_syntax.specs.declared.token.Token.{Token}
use Rattle.ob_syntax.specs.declared.tree.Module.{Module}
use Rattle.ob_syntax.specs.Tokens.{Fault, FirstFault}
use Rattle.ob_syntax.specs.Whole.{kinds, StopsAt, DeepensAt}
use Rattle.ob_syntax.specs.Source.{most_bytes, most_tokens, byte_of, IsScanned, IsParsed}
use Rattle.ob_syntax.specs.Source.{AreTooMany}
use Rattle.ob_syntax.specs.WellFormed.{IsBroken}
use Rattle.ob_lex.specs.Scanning.{fault_at}
use Rattle.ob_check.specs.Checking.{IsBeyond}
use Rattle.ob_read.specs.declared.fault.SourceFault.TheVariants.{Lex, Grammar, Rule}
use Rattle.ob_read.specs.declared.fault.LimitFault.TheVariants.{Count, Depth}
use Rattle.ob_read.specs.declared.fault.ReadFault.{ReadFault}
use Rattle.ob_read.specs.declared.fault.ReadFault.TheVariants.{Source, Limit}
use Rattle.ob_read.specs.Ladder.{Stops}
use Rattle.ob_read.specs.Source.{Scanned, HasTokens, HasNoTokens, AreFew, AreOver}
use Rattle.ob_read.specs.Source.{HasNoTree, HasReading, BreaksRule, HasTooMuch, IsUnparsed}
use Rattle.ob_read.specs.Source.{IsUnreadable, IsShort, IsTooLong}
use Rattle.ob_read.proofs.Rungs.{by_way}

-- a source with too many tokens has no tree
pub too_many : (bytes : List ℕ) (count : ℕ) → AreTooMany bytes count →
    IsUnparsed bytes (Limit (Count limit.Tokens count))
too_many bytes count many = inr (by_way bytes (many.short, refl) (inr (by_way
    (record { bytes = bytes; tokens = many.tokens }) (many.scanned, refl)
    (inl (
      subst (λ (n : ℕ). most_tokens < n) many.count_is many.over,
      ap (λ n. Limit (Count limit.Tokens n)) many.count_is,
    )))))

behind_tokens : (bytes : List ℕ) (tokens : List Token) (f : ReadFault) → IsScanned bytes tokens →
    HasNoTree (record { bytes = bytes; tokens = tokens }) f → IsUnparsed bytes f
behind_tokens bytes tokens f s none =
    let scanned : Scanned = record { bytes = bytes; tokens = tokens } in
    inr (by_way bytes (s.short, refl) (inr (by_way scanned (s.scanned, refl)
    (inr (by_way scanned (s.few, refl) none)))))

-- tokens that stop have none
pub stopped : (bytes : List ℕ) (tokens : List Token) (k at : ℕ) → IsScanned bytes tokens →
    StopsAt (kinds tokens) k → at ≡ byte_of bytes tokens k →
    IsUnparsed bytes (Source (Grammar k at))
stopped bytes tokens k at s stops is = behind_tokens bytes tokens (Source (Grammar k at)) s
    (inl (record { token = k; stops = stops; told = ap (λ a. Source (Grammar k a)) is }))

-- and so are tokens that nest too deep
pub deepened : (bytes : List ℕ) (tokens : List Token) (k at : ℕ) → IsScanned bytes tokens →
    DeepensAt (kinds tokens) k → at ≡ byte_of bytes tokens k →
    IsUnparsed bytes (Limit (Depth k at))
deepened bytes tokens k at s deepens is = behind_tokens bytes tokens (Limit (Depth k at)) s
    (inr (record { token = k; deepens = deepens; told = ap (λ a. Limit (Depth k a)) is }))

behind_tree : (bytes : List ℕ) (tokens : List Token) (tree : Module) (f : ReadFault) →
    IsParsed bytes tokens tree →
    Stops BreaksRule HasReading HasTooMuch
    (record { bytes = bytes; tokens = tokens; tree = tree }) f →
    IsUnreadable bytes f
behind_tree bytes tokens tree f p stops =
    let scanned : Scanned = record { bytes = bytes; tokens = tokens } in
    inr (by_way bytes (p.scanned.short, refl) (inr (by_way scanned (p.scanned.scanned, refl)
    (inr (by_way scanned (p.scanned.few, refl)
    (inr (by_way (record { bytes = bytes; tokens = tokens; tree = tree }) (p.parsed, refl, refl)
    stops)))))))

-- a module that breaks a rule is unreadable
pub broken : (bytes : List ℕ) (tokens : List Token) (tree : Module) (rule token at : ℕ) →
    IsParsed bytes tokens tree → IsBroken bytes tokens tree rule token →
    at ≡ byte_of bytes tokens token → IsUnreadable bytes (Source (Rule rule token at))
broken bytes tokens tree rule token at p b is =
    behind_tree bytes tokens tree (Source (Rule rule token at)) p
    (inl (record {
      rule = rule;
      token = token;
      broken = b;
      told = ap (λ a. Source (Rule rule token a)) is;
    }))

-- and so is one that has too much of something
pub beyond : (bytes : List ℕ) (tokens : List Token) (tree : Module) (kind : LimitKind) (n : ℕ) →
    IsParsed bytes tokens tree → IsBeyond bytes tokens tree kind n →
    IsUnreadable bytes (Limit (Count kind n))
beyond bytes tokens tree kind n p b =
    behind_tree bytes tokens tree (Limit (Count kind n)) p (inr (by_way (record {
      text = record { bytes = bytes; tokens = tokens; tree = tree };
      reading = b.reading;
    }) (b.well_formed, refl)
    (record { kind = kind; count = n; excess = b.excess; told = refl })))

-- ---- what has no tree is unreadable

further : {A B F : Type 0} (Stop : A → F → Type 0) (Climb : A → B → Type 0)
    (Above Other : B → F → Type 0) (f : F) → ((b : B) → Above b f → Other b f) → (a : A) →
    Stops Stop Climb Above a f → Stops Stop Climb Other a f
further Stop Climb Above Other f more a (inl s) = inl s
further Stop Climb Above Other f more a (inr s) =
    inr (record { between = s.between; below = s.below; above = more s.between s.above })

pub unread : (bytes : List ℕ) (f : ReadFault) → IsUnparsed bytes f → IsUnreadable bytes f
unread bytes f = further IsTooLong IsShort _ _ f (further HasNoTokens HasTokens _ _ f
    (further AreOver AreFew _ _ f (λ b s. inl s))) bytes

-- ---- without a token list

pub faulty : (bytes : List ℕ) (fault : Fault) (at : ℕ) → length bytes ≤ most_bytes →
    FirstFault bytes fault at → IsUnreadable bytes (Source (Lex (fault_at fault at)))
faulty bytes fault at short first = inr (by_way bytes (short, refl)
    (inl (record { fault = fault; at = at; first = first; told = refl })))
