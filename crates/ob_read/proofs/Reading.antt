-- Each rung of a source is one, and so is the whole ladder.
use Rattle.std.proofs.Common.{◌≡◌, ◌≢◌, inl, inr, ℕ, List, Ok, Err, Some, None, refl, sym, ap, ◌∙◌}
use Rattle.std.proofs.Common.{subst, arith}
use Rattle.std.specs.declared.option.Option.{Option}
use Rattle.ob_syntax.specs.Grammar.{Module}
use Rattle.ob_syntax.specs.Whole.{kinds, most_nesting}
use Rattle.ob_syntax.specs.Source.{byte_of}
use Rattle.ob_syntax.specs.Names.{Judged, Fault as Broken}
use Rattle.ob_syntax.specs.Declarations.{reading}
use Rattle.ob_syntax.specs.WellFormed.{IsWellFormed, Excess, first_excess}
use Rattle.ob_syntax.proofs.Texts.{no_fault_in_tokens, one_list, one_first_fault}
use Rattle.ob_syntax.proofs.OneTree.{one_tree}
use Rattle.ob_lex.specs.Scanning.{fault_at}
use Rattle.ob_read.specs.declared.fault.SourceFault.TheVariants.{Lex, Grammar, Rule}
use Rattle.ob_read.specs.declared.fault.LimitFault.TheVariants.{Count, Depth}
use Rattle.ob_read.specs.declared.fault.ReadFault.{ReadFault}
use Rattle.ob_read.specs.declared.fault.ReadFault.TheVariants.{Source, Limit, OutOfMemory}
use Rattle.ob_read.specs.Ladder.{Then, IsRung}
use Rattle.ob_read.specs.Source.{IsShort, IsTooLong, Scanned, HasTokens, HasNoTokens, AreFew}
use Rattle.ob_read.specs.Source.{AreOver, ParsedText, HasTree, HasNoModule, IsTooDeep, HasNoTree}
use Rattle.ob_read.specs.Source.{WellFormedText, HasReading, BreaksRule, ReadText, StandsFor}
use Rattle.ob_read.specs.Source.{HasTooMuch, HasText, IsRead, IsUnparsed, IsUnreadable}
use Rattle.ob_read.proofs.Rungs.{over, narrowed, passed, by_way}
use Rattle.ob_read.proofs.Fronts.{one_place, no_place, stops_or_deepens}

size : IsRung IsShort IsTooLong
size = record {
  one_way = λ a b c s t. s.1 ∙ sym t.1;
  one_fault = λ a f g s t. s.1 ∙ sym t.1;
  never_both = λ a b f s t. omega (arith, s.0, t.0);
}

same_scanned : (s t : Scanned) → s.bytes ≡ t.bytes → s.tokens ≡ t.tokens → s ≡ t
same_scanned s t bytes tokens = λ i. record { bytes = bytes i; tokens = tokens i }

no_tokens : (bytes : List ℕ) (f g : ReadFault) → HasNoTokens bytes f → HasNoTokens bytes g → f ≡ g
no_tokens bytes f g s t =
    let one = one_first_fault bytes s.fault t.fault s.at t.at s.first t.first in
    s.told ∙ (λ i. Source (Lex (fault_at (one.0 i) (one.1 i)))) ∙ sym t.told

tokens : IsRung HasTokens HasNoTokens
tokens = record {
  one_way = λ a b c s t. same_scanned b c (s.1 ∙ sym t.1) (one_list a b.tokens c.tokens s.0 t.0);
  one_fault = no_tokens;
  never_both = λ a b f s t. no_fault_in_tokens a b.tokens t.fault t.at s.0 t.first;
}

count : IsRung AreFew AreOver
count = record {
  one_way = λ a b c s t. s.1 ∙ sym t.1;
  one_fault = λ a f g s t. s.1 ∙ sym t.1;
  never_both = λ a b f s t. omega (arith, s.0, t.0);
}

same_text : (s t : ParsedText) → s.bytes ≡ t.bytes → s.tokens ≡ t.tokens → s.tree ≡ t.tree → s ≡ t
same_text s t bytes tokens tree =
    λ i. record { bytes = bytes i; tokens = tokens i; tree = tree i }

one_text : (a : Scanned) (b c : ParsedText) → HasTree a b → HasTree a c → b ≡ c
one_text a b c s t =
    let p = s.0 in
    let q = t.0 in
    same_text b c (s.1 ∙ sym t.1) (s.2 ∙ sym t.2)
    (one_tree Module (kinds a.tokens) b.tree c.tree (p.0, p.1, p.3) (q.0, q.1, q.3))

no_module : (a : Scanned) (f g : ReadFault) → HasNoModule a f → HasNoModule a g → f ≡ g
no_module a f g s t =
    let same : s.token ≡ t.token =
    one_place most_nesting s.token t.token (kinds a.tokens) s.stops.place t.stops.place in
    s.told ∙ ap (λ k. Source (Grammar k (byte_of a.bytes a.tokens k))) same ∙ sym t.told

too_deep : (a : Scanned) (f g : ReadFault) → IsTooDeep a f → IsTooDeep a g → f ≡ g
too_deep a f g s t =
    let same : s.token ≡ t.token =
    one_place most_nesting s.token t.token (kinds a.tokens) s.deepens.place t.deepens.place in
    s.told ∙ ap (λ k. Limit (Depth k (byte_of a.bytes a.tokens k))) same ∙ sym t.told

no_tree : (a : Scanned) (f g : ReadFault) → HasNoTree a f → HasNoTree a g → f ≡ g
no_tree a f g (inl s) (inl t) = no_module a f g s t
no_tree a f g (inl s) (inr t) =
    absurd (stops_or_deepens (kinds a.tokens) s.token t.token s.stops t.deepens)
no_tree a f g (inr s) (inl t) =
    absurd (stops_or_deepens (kinds a.tokens) t.token s.token t.stops s.deepens)
no_tree a f g (inr s) (inr t) = too_deep a f g s t

tree_or_none : (a : Scanned) (b : ParsedText) (f : ReadFault) → HasTree a b → HasNoTree a f → ⊥
tree_or_none a b f s (inl t) =
    no_place most_nesting t.token (kinds a.tokens) (s.0.0, s.0.1, s.0.2) t.stops.place
tree_or_none a b f s (inr t) =
    no_place most_nesting t.token (kinds a.tokens) (s.0.0, s.0.1, s.0.2) t.deepens.place

tree : IsRung HasTree HasNoTree
tree = record { one_way = one_text; one_fault = no_tree; never_both = tree_or_none }

same_well_formed : (s t : WellFormedText) → s.text ≡ t.text → s.reading ≡ t.reading → s ≡ t
same_well_formed s t text reading = λ i. record { text = text i; reading = reading i }

-- what a phrase is read as is one thing, or its first broken rule is one
same_right : {A : Type 0} (x : Judged A) (a b : A) → x ≡ Ok a → x ≡ Ok b → a ≡ b
same_right x a b s t = cc

same_wrong : {A : Type 0} (x : Judged A) (a b : Broken) → x ≡ Err a → x ≡ Err b → a ≡ b
same_wrong x a b s t = cc

right_or_wrong : {A : Type 0} (x : Judged A) (a : A) (b : Broken) → x ≡ Ok a → x ≡ Err b → ⊥
right_or_wrong x a b s t = cc

one_rule : (t : ParsedText) (f g : ReadFault) → BreaksRule t f → BreaksRule t g → f ≡ g
one_rule t f g s u =
    let same = same_wrong (reading t.bytes t.tokens t.tree) (s.rule, s.token) (u.rule, u.token)
    s.broken u.broken in
    s.told ∙
    ap (λ (b : Broken). Source (Rule b.0 b.1 (byte_of t.bytes t.tokens b.1))) same ∙ sym u.told

rules : IsRung HasReading BreaksRule
rules = record {
  one_way = λ a b c s t. same_well_formed b c (s.1 ∙ sym t.1)
      (same_right (reading a.bytes a.tokens a.tree) b.reading c.reading s.0 t.0);
  one_fault = one_rule;
  never_both = λ a b f s t.
      right_or_wrong (reading a.bytes a.tokens a.tree) b.reading (t.rule, t.token) s.0 t.broken;
}

same_read : (s t : ReadText) → s.text ≡ t.text → s.checked ≡ t.checked → s ≡ t
same_read s t text checked = λ i. record { text = text i; checked = checked i }

same_some : {A : Type 0} (x : Option A) (a b : A) → x ≡ Some a → x ≡ Some b → a ≡ b
same_some x a b s t = cc

none_or_some : {A : Type 0} (x : Option A) (a : A) → x ≡ None → x ≡ Some a → ⊥
none_or_some x a s t = cc

one_excess : (w : WellFormedText) (f g : ReadFault) → HasTooMuch w f → HasTooMuch w g → f ≡ g
one_excess w f g s u =
    let same = same_some (first_excess w.reading) (s.kind, s.count) (u.kind, u.count)
    s.excess u.excess in
    s.told ∙ ap (λ (e : Excess). Limit (Count e.0 e.1)) same ∙ sym u.told

limits : IsRung StandsFor HasTooMuch
limits = record {
  one_way = λ a b c s t. same_read b c (s.1 ∙ sym t.1) (s.2 ∙ sym t.2);
  one_fault = one_excess;
  never_both = λ a b f s t.
      none_or_some (first_excess a.reading) (t.kind, t.count) s.0 t.excess;
}

Climbed : List ℕ → ReadText → Type 0
Climbed =
    Then IsShort (Then HasTokens (Then AreFew (Then HasTree (Then HasReading StandsFor))))

-- what was read has climbed the whole ladder
climbed : (bytes : List ℕ) (t : ReadText) → IsRead bytes t → Climbed bytes t
unfolding Climbed
climbed bytes t (same, p, c) =
    let scanned : Scanned = record { bytes = bytes; tokens = t.text.tokens } in
    by_way bytes (p.scanned.short, refl) (by_way scanned (p.scanned.scanned, refl)
    (by_way scanned (p.scanned.few, refl) (by_way t.text (p.parsed, same, refl)
    (by_way (record { text = t.text; reading = c.reading }) (
      subst (λ bs. IsWellFormed bs t.text.tokens t.text.tree c.reading) (sym same) c.well_formed,
      refl,
    ) (c.within, refl, c.checked_is)))))

ladder : IsRung Climbed IsUnreadable
unfolding Climbed
ladder = over _ _ _ _ size (over _ _ _ _ tokens (over _ _ _ _ count (over _ _ _ _ tree
    (over _ _ _ _ rules limits))))

-- ---- up to the tree

ParsedClimb : List ℕ → ParsedText → Type 0
ParsedClimb = Then IsShort (Then HasTokens (Then AreFew HasTree))

parsed_climb : (bytes : List ℕ) (t : ParsedText) → HasText bytes t → ParsedClimb bytes t
unfolding ParsedClimb
parsed_climb bytes t (same, p) =
    let scanned : Scanned = record { bytes = bytes; tokens = t.tokens } in
    by_way bytes (p.scanned.short, refl) (by_way scanned (p.scanned.scanned, refl)
    (by_way scanned (p.scanned.few, refl) (p.parsed, same, refl)))

parsed_ladder : IsRung ParsedClimb IsUnparsed
unfolding ParsedClimb
parsed_ladder = over _ _ _ _ size (over _ _ _ _ tokens (over _ _ _ _ count tree))

pub one_text_or_fault : IsRung HasText IsUnparsed
one_text_or_fault = narrowed ParsedClimb HasText IsUnparsed parsed_climb parsed_ladder

-- ---- the whole

pub one_reading : IsRung IsRead IsUnreadable
one_reading = narrowed Climbed IsRead IsUnreadable climbed ladder

-- no source is unreadable for want of memory
pub never_memory : (bytes : List ℕ) (f : ReadFault) → IsUnreadable bytes f → f ≢ OutOfMemory
never_memory bytes f stops is =
    let size = passed stops (λ s. let e = sym is ∙ s.1 in cc) in
    let scan = passed size.above (λ s. let e = sym is ∙ s.told in cc) in
    let count = passed scan.above (λ s. let e = sym is ∙ s.1 in cc) in
    let tree = passed count.above no_tree in
    no_limit (passed tree.above (λ s. let e = sym is ∙ s.told in cc)).above
  where
    no_limit : {w : WellFormedText} → HasTooMuch w f → ⊥
    no_limit u = let e = sym is ∙ u.told in cc

    no_tree : {t : Scanned} → HasNoTree t f → ⊥
    no_tree (inl u) = let e = sym is ∙ u.told in cc
    no_tree (inr u) = let e = sym is ∙ u.told in cc
