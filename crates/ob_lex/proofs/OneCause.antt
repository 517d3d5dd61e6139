-- An answer has one cause, so a text with another cause is not answered so.
use Rattle.std.proofs.Common.{◌≡◌, ℕ, ◌<◌, ◌≤◌, List, length, Err, refl, ap, ◌∙◌, inl, inr, arith}
use Rattle.ob_syntax.specs.declared.token.Token.{Token}
use Rattle.ob_syntax.specs.Tokens.{Tokens, Fault, FirstFault}
use Rattle.ob_syntax.proofs.Texts.{one_list, one_first_fault, no_fault_in_tokens}
use Rattle.ob_lex.specs.declared.scanner.LexFault.{LexFault}
use Rattle.ob_lex.specs.declared.scanner.LexFault.TheVariants.{TokensOver, OutOfMemory}
use Rattle.ob_lex.specs.Scanning.{IsCause, IsErrUnlessMemory, fault_at}
use Rattle.ob_syntax.specs.Source.{most_tokens}

-- a source with a token list that is kept is not refused
pub kept_not_refused : (bytes : List ℕ) (e : LexFault) → IsCause bytes e → (list : List Token) →
    Tokens bytes list → length list ≤ most_tokens → e ≡ OutOfMemory
kept_not_refused bytes (TokensOver count) many list t few = let same =
    ap length (one_list bytes list many.tokens t many.scanned) in
    absurd (omega (arith, many.count_is, many.over))
kept_not_refused bytes OutOfMemory f list t few = refl
kept_not_refused bytes _ f list t few = absurd (no_fault_in_tokens bytes list _ _ t f)

-- one with a longer token list is refused for that
pub longer_refused : {T : Type 0} (bytes : List ℕ) (e : LexFault) → IsCause bytes e →
    (list : List Token) → Tokens bytes list → most_tokens < length list →
    IsErrUnlessMemory {T = T} (Err e) (TokensOver (length list))
longer_refused bytes (TokensOver count) many list t over =
    inl (ap (λ n. Err (TokensOver n))
    (many.count_is ∙ ap length (one_list bytes many.tokens list many.scanned t)))
longer_refused bytes OutOfMemory f list t over = inr refl
longer_refused bytes _ f list t over = absurd (no_fault_in_tokens bytes list _ _ t f)

told_place : {T : Type 0} (bytes : List ℕ) (told fault : Fault) (at place : ℕ) →
    FirstFault bytes told at → FirstFault bytes fault place →
    IsErrUnlessMemory {T = T} (Err (fault_at told at)) (fault_at fault place)
told_place bytes told fault at place f g = let one = one_first_fault bytes told fault at place f
    g in inl (λ i. Err (fault_at (one.0 i) (one.1 i)))

-- one with a first fault is refused for that
pub fault_refused : {T : Type 0} (bytes : List ℕ) (e : LexFault) → IsCause bytes e →
    (fault : Fault) (at : ℕ) → FirstFault bytes fault at → IsErrUnlessMemory {T = T} (Err e)
    (fault_at fault at)
fault_refused bytes (TokensOver count) many fault at g =
    absurd (no_fault_in_tokens bytes many.tokens fault at many.scanned g)
fault_refused bytes OutOfMemory f fault at g = inr refl
fault_refused bytes _ f fault at g = told_place bytes _ fault _ at f g
