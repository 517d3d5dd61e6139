-- Each source is read, or there is a fault that it has.
use Rattle.std.proofs.Common.{◌⊎◌, inl, inr, ℕ, ◌≤◌, ◌<◌, List, length, refl, arith}
use Rattle.std.proofs.lemmas.Bool.{cases_lt}
use Rattle.ob_syntax.specs.declared.token.Token.{Token}
use Rattle.ob_syntax.specs.declared.tree.Module.{Module}
use Rattle.ob_syntax.specs.declared.checked.Checked.{Checked}
use Rattle.ob_syntax.specs.Tokens.{Tokens, Fault, FirstFault}
use Rattle.ob_syntax.specs.Whole.{kinds, most_nesting, IsTreeOf, StopsAt, DeepensAt}
use Rattle.ob_syntax.specs.Source.{most_bytes, most_tokens, byte_of, IsScanned, IsParsed}
use Rattle.ob_syntax.proofs.Texts.{tokens_or_fault}
use Rattle.ob_lex.specs.Scanning.{fault_at}
use Rattle.ob_parse.proofs.TreeOrRefusal.{tree_or_refusal}
use Rattle.ob_check.specs.declared.fault.CheckFault.{CheckFault}
use Rattle.ob_check.specs.declared.fault.CheckFault.TheVariants as check
use Rattle.ob_check.specs.Checking.{IsChecked, IsCause}
use Rattle.ob_check.proofs.OneAnswer.{decided}
use Rattle.ob_read.specs.declared.fault.SourceFault.TheVariants.{Lex, Grammar, Rule}
use Rattle.ob_read.specs.declared.fault.LimitFault.TheVariants.{Count, Depth}
use Rattle.ob_read.specs.declared.fault.ReadFault.{ReadFault}
use Rattle.ob_read.specs.declared.fault.ReadFault.TheVariants.{Source, Limit}
use Rattle.ob_read.specs.Ladder.{IsExhaustive}
use Rattle.ob_read.specs.Source.{ReadText, IsRead, IsUnreadable}
use Rattle.ob_read.proofs.Causes.{faulty, too_many, stopped, deepened, unread, broken, beyond}

abbrev Decided : List ℕ → Type 0
Decided bytes = ((t : ReadText) × IsRead bytes t) ⊎ ((f : ReadFault) × IsUnreadable bytes f)

with_tree : (bytes : List ℕ) (tokens : List Token) (tree : Module) → IsParsed bytes tokens tree →
    ((c : Checked) × IsChecked bytes tokens tree c)
    ⊎ ((f : CheckFault) × IsCause bytes tokens tree f) → Decided bytes
with_tree bytes tokens tree p (inl (c, is)) = inl (
  record { text = record { bytes = bytes; tokens = tokens; tree = tree }; checked = c },
  (refl, p, is),
)
with_tree bytes tokens tree p (inr (check.Rule rule token, is)) =
    inr (
      Source (Rule rule token (byte_of bytes tokens token)),
      broken bytes tokens tree rule token (byte_of bytes tokens token) p is refl,
    )
with_tree bytes tokens tree p (inr (check.Limit kind n, is)) =
    inr (Limit (Count kind n), beyond bytes tokens tree kind n p is)
with_tree bytes tokens tree p (inr (check.OutOfMemory, is)) = absurd is

with_tokens : (bytes : List ℕ) (tokens : List Token) → IsScanned bytes tokens →
    ((t : Module) × IsTreeOf most_nesting (kinds tokens) t)
    ⊎ (((k : ℕ) × StopsAt (kinds tokens) k) ⊎ ((k : ℕ) × DeepensAt (kinds tokens) k))
    → Decided bytes
with_tokens bytes tokens s (inl (tree, is)) =
    with_tree bytes tokens tree (record { scanned = s; parsed = is }) (decided bytes tokens tree)
with_tokens bytes tokens s (inr (inl (k, stops))) =
    let at = byte_of bytes tokens k in
    let f = Source (Grammar k at) in
    inr (f, unread bytes f (stopped bytes tokens k at s stops refl))
with_tokens bytes tokens s (inr (inr (k, deepens))) =
    let at = byte_of bytes tokens k in
    let f = Limit (Depth k at) in
    inr (f, unread bytes f (deepened bytes tokens k at s deepens refl))

counted : (bytes : List ℕ) (tokens : List Token) → length bytes ≤ most_bytes → Tokens bytes tokens →
    (most_tokens < length tokens) ⊎ (length tokens ≤ most_tokens) → Decided bytes
counted bytes tokens short scanned (inr few) =
    with_tokens bytes tokens (record { short = short; scanned = scanned; few = few })
    (tree_or_refusal tokens (omega arith))
counted bytes tokens short scanned (inl over) =
    let many = too_many bytes (length tokens) (record {
      short = short;
      tokens = tokens;
      scanned = scanned;
      count_is = refl;
      over = over;
    }) in
    inr (_, unread bytes _ many)

lexed : (bytes : List ℕ) → length bytes ≤ most_bytes →
    ((list : List Token) × Tokens bytes list)
    ⊎ ((fault : Fault) × (at : ℕ) × FirstFault bytes fault at) → Decided bytes
lexed bytes short (inl (tokens, is)) =
    counted bytes tokens short is (cases_lt most_tokens (length tokens))
lexed bytes short (inr (fault, at, first)) =
    inr (Source (Lex (fault_at fault at)), faulty bytes fault at short first)

sized : (bytes : List ℕ) → (most_bytes < length bytes) ⊎ (length bytes ≤ most_bytes) → Decided bytes
sized bytes (inr short) = lexed bytes short (tokens_or_fault bytes)
sized bytes (inl long) = inr (_, inl (long, refl))

pub each_is_read : IsExhaustive IsRead IsUnreadable
each_is_read bytes = sized bytes (cases_lt most_bytes (length bytes))
