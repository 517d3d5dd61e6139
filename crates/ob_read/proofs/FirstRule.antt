-- The rule that is told of a source is the first of those that its module breaks.
use Rattle.std.proofs.Common.{◌≡◌, ◌≤◌, inl, inr, ℕ, List, length, Err, refl, sym, ap, ◌∙◌, subst}
use Rattle.ob_syntax.specs.declared.token.Token.{Token}
use Rattle.ob_syntax.specs.declared.tree.Module.{Module}
use Rattle.ob_syntax.specs.Derives.{Derives}
use Rattle.ob_syntax.specs.Grammar as grammar
use Rattle.ob_syntax.specs.WellFormed.{IsBroken}
use Rattle.ob_syntax.specs.Tokens.{Tokens}
use Rattle.ob_syntax.specs.Whole.{kinds, most_nesting, IsTreeOf}
use Rattle.ob_syntax.specs.Declarations.{reading}
use Rattle.ob_syntax.specs.Source.{most_bytes, most_tokens, byte_of, IsParsed}
use Rattle.ob_first.specs.Breaks.{IsFirst}
use Rattle.ob_first.proofs.OneIsTold.{one_told}
use Rattle.ob_read.specs.declared.fault.SourceFault.TheVariants.{Rule}
use Rattle.ob_read.specs.declared.fault.ReadFault.TheVariants.{Source}
use Rattle.ob_read.specs.Ladder.{Stops}
use Rattle.ob_read.specs.Source.{Scanned, ParsedText, HasTokens, AreFew}
use Rattle.ob_read.specs.Source.{HasTree, HasNoTree, HasReading, BreaksRule, HasTooMuch}
use Rattle.ob_read.specs.Source.{IsUnreadable}
use Rattle.ob_read.specs.FirstRule.{BreaksFirst}
use Rattle.ob_read.proofs.Causes.{broken}
use Rattle.ob_read.proofs.Rungs.{passed}

derives : (bytes : List ℕ) (tokens : List Token) (tree : Module) → IsParsed bytes tokens tree →
    Derives grammar.Module (kinds tokens) tree
derives bytes tokens tree p = (p.parsed.0, p.parsed.1, p.parsed.3)

first_is_told : (bytes : List ℕ) (tokens : List Token) (tree : Module) →
    IsParsed bytes tokens tree → (rule token : ℕ) → IsFirst bytes tokens tree rule token →
    IsUnreadable bytes (Source (Rule rule token (byte_of bytes tokens token)))
first_is_told bytes tokens tree p rule token first =
    broken bytes tokens tree rule token (byte_of bytes tokens token) p
    ((one_told bytes tokens tree (kinds tokens) (derives bytes tokens tree p) rule token).1 first)
    refl

same_parts : (j k l j' k' l' : ℕ) → Source (Rule j k l) ≡ Source (Rule j' k' l') →
    (j ≡ j') × (k ≡ k') × (l ≡ l')
same_parts j k l j' k' l' e = (cc, cc, cc)

of_break : (bytes : List ℕ) (t : ParsedText) (rule token at : ℕ) → t.bytes ≡ bytes →
    IsParsed bytes t.tokens t.tree → BreaksRule t (Source (Rule rule token at)) →
    BreaksFirst bytes rule token at
of_break bytes t rule token at same p b =
    let parts = same_parts rule token at b.rule b.token (byte_of t.bytes t.tokens b.token) b.told in
    let here : reading bytes t.tokens t.tree ≡ Err (b.rule, b.token) =
    subst (λ bs. reading bs t.tokens t.tree ≡ Err (b.rule, b.token)) same b.broken in
    let there : IsBroken bytes t.tokens t.tree rule token = rw (parts.0, parts.1) here in
    let told = one_told bytes t.tokens t.tree (kinds t.tokens) (derives bytes t.tokens t.tree p) in
    record {
      tokens = t.tokens;
      tree = t.tree;
      parsed = p;
      first = (told rule token).0 there;
      at_is = parts.2 ∙ (λ i. byte_of (same i) t.tokens (sym parts.1 i));
    }

parsed_of : (bytes b : List ℕ) (s u : Scanned) (t : ParsedText) → length bytes ≤ most_bytes →
    b ≡ bytes → HasTokens b s → AreFew s u → HasTree u t →
    (t.bytes ≡ bytes) × IsParsed bytes t.tokens t.tree
parsed_of bytes b s u t short same has few tree =
    let list : t.tokens ≡ s.tokens = tree.2 ∙ ap (λ x. x.tokens) few.1 in
    let scanned : Tokens bytes t.tokens =
    rw list (subst (λ bs. Tokens bs s.tokens) same has.0) in
    let most : length t.tokens ≤ most_tokens = rw list few.0 in
    let derived : IsTreeOf most_nesting (kinds t.tokens) t.tree =
    subst (λ ts. IsTreeOf most_nesting (kinds ts) t.tree) (sym tree.2) tree.0 in (
      tree.1 ∙ ap (λ x. x.bytes) few.1 ∙ has.1 ∙ same,
      record {
        scanned = record { short = short; scanned = scanned; few = most };
        parsed = derived;
      },
    )

pub told_is_first : (bytes : List ℕ) (rule token at : ℕ) →
    IsUnreadable bytes (Source (Rule rule token at)) → BreaksFirst bytes rule token at
told_is_first bytes rule token at stops =
    let size = passed stops (λ s. let e = s.1 in cc) in
    let scan = passed size.above (λ s. let e = s.told in cc) in
    let count = passed scan.above (λ s. let e = s.1 in cc) in
    let tree = passed count.above no_tree in
    let p = parsed_of bytes size.between scan.between count.between tree.between size.below.0
    size.below.1 scan.below count.below tree.below in
    by tree.between p.0 p.1 tree.above
  where
    no_tree : {u : Scanned} → HasNoTree u (Source (Rule rule token at)) → ⊥
    no_tree (inl x) = let e = x.told in cc
    no_tree (inr x) = let e = x.told in cc

    by : (t : ParsedText) → t.bytes ≡ bytes → IsParsed bytes t.tokens t.tree →
        Stops BreaksRule HasReading HasTooMuch t (Source (Rule rule token at)) →
        BreaksFirst bytes rule token at
    by t same p (inl b) = of_break bytes t rule token at same p b
    by t same p (inr x) = absurd (let e = x.above.told in cc)

pub rule_is_told : (bytes : List ℕ) (rule token at : ℕ) →
    BreaksFirst bytes rule token at → IsUnreadable bytes (Source (Rule rule token at))
rule_is_told bytes rule token at b =
    rw b.at_is (first_is_told bytes b.tokens b.tree b.parsed rule token b.first)
