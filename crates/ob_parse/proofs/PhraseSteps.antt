-- The steps by which the parser's functions are proved.
use Rattle.std.proofs.Common.{◌≡◌, ℕ, ◌≤◌, List, [], ◌∷◌, Option, Some, Result, ap, ◌∙◌, sym, subst}
use Rattle.std.specs.Prelude.{IsErrAnd}
use Rattle.ob_syntax.specs.declared.token.Kind.{Kind}
use Rattle.ob_syntax.specs.Grammar.{Nonterminal, Nesting, level, Symbol, token, phrase, Rule, right}
use Rattle.ob_syntax.specs.ChosenRule.{first, by_first}
use Rattle.ob_syntax.specs.Tree.{Tree, Values, tree_by}
use Rattle.ob_syntax.proofs.LeastForms.{base, floor}
use Rattle.ob_parse.specs.declared.cursor.Parser.{Parser}
use Rattle.ob_parse.specs.declared.cursor.ParseFault.{ParseFault}
use Rattle.ob_parse.specs.declared.cursor.ParseFault.TheVariants.{Grammar, TooDeep}
use Rattle.ob_parse.specs.Reading.{left, place, IsNext, IsRead, Fails, Reads}
use Rattle.ob_parse.proofs.PhraseUnderway.{Waits, Chooses, Inside, opened, after_token}
use Rattle.ob_parse.proofs.PhraseUnderway.{after_phrase, as_deep, closed, too_deep, token_missing}
use Rattle.ob_parse.proofs.PhraseUnderway.{phrase_fails, exits}
use Rattle.ob_parse.proofs.Begins.{begun}

-- ---- what the next token chooses

pub chosen : (n : Nonterminal) {r : Option (Rule n)} {o : Option Kind} → by_first n o ≡ r →
    (next : List Kind) → first next ≡ o → by_first n (first next) ≡ r
chosen n is next same = ap (by_first n) same ∙ is

-- by a token that is known
pub at : (n : Nonterminal) {r : Option (Rule n)} {o : Option Kind} {k : Kind} →
    by_first n (Some k) ≡ r → o ≡ Some k → (next : List Kind) → first next ≡ o →
    by_first n (first next) ≡ r
at n is known next same = ap (by_first n) (same ∙ known) ∙ is

-- by the token that was gone past
pub on : (n : Nonterminal) {r : Option (Rule n)} {k : Kind} {p q : Parser} →
    by_first n (Some k) ≡ r → IsNext k p q → (next : List Kind) → first next ≡ first (left p) →
    by_first n (first next) ≡ r
on n is x = at n is (ap first x.from)

pub seen : {o f : Option Kind} {k j : Kind} → o ≡ f → o ≡ Some k → k ≡ j → f ≡ Some j
seen e is same = sym e ∙ is ∙ ap Some same

pub as_kind : {k j : Kind} {p q : Parser} → k ≡ j → IsNext k p q → IsNext j p q
as_kind {p = p} {q = q} is x = subst (λ k. IsNext k p q) is x

-- ---- how a phrase goes on

pub opens : {n : Nonterminal} (r : Rule n) {room : ℕ} {p : Parser} → Chooses n (Some r) p →
    Waits n (right r) room (tree_by r (place p)) p p
opens r chosen = opened r _ _ chosen

infixl 20 ◌▹◌
pub ◌▹◌ : {n : Nonterminal} {k : Kind} {ss : List Symbol} {room : ℕ}
    {wrap : ℕ → ℕ × Values ss → Tree n} {old mid new : Parser} →
    Waits n (token k ∷ ss) room wrap old mid → IsNext k mid new →
    Waits n ss room (λ j v. wrap j (place mid, v)) old new
w ▹ x = after_token w x

infixl 20 ◌▸◌
pub ◌▸◌ : {n m : Nonterminal} {ss : List Symbol} {room : ℕ} {wrap : ℕ → Tree m × Values ss → Tree n}
    {t : Tree m} {old mid new : Parser} → Waits n (phrase level m ∷ ss) room wrap old mid →
    IsRead m room t mid new → Waits n ss room (λ j v. wrap j (t, v)) old new
w ▸ r = after_phrase w (as_deep _) r

-- ---- how it is done

pub closed_as : {n : Nonterminal} {room : ℕ} {wrap : ℕ → Unit {0} → Tree n} {old mid : Parser} →
    Waits n [] room wrap old mid → {new : Parser} → new ≡ mid → {t : Tree n} →
    t ≡ wrap (place mid) tt → IsRead n room t old new
closed_as {n = n} {room = room} {old = old} {mid = mid} w {new = new} there {t = t} is =
    subst (λ q. IsRead n room t old q) (sym there)
    (subst (λ x. IsRead n room x old mid) (sym is) (closed w))

-- ---- how it fails

-- at a token
pub lacks : {n : Nonterminal} {k : Kind} {ss : List Symbol} {room : ℕ}
    {wrap : ℕ → ℕ × Values ss → Tree n} {old mid new : Parser} {e : ParseFault} →
    Waits n (token k ∷ ss) room wrap old mid → floor ss ≤ room → (r : Result (Tree n) ParseFault) →
    (e ≡ Grammar (place new)) × (new ≡ mid) × (first (left mid) ≡ Some k → ⊥) →
    IsErrAnd r (λ y. y ≡ e) → Reads n room old r new
lacks {n = n} {room = room} {old = old} {new = new} {e = e} w low r x h =
    exits n room old new r e h (token_missing w low new e x)

-- at a phrase
pub fails : {n m : Nonterminal} {d : Nesting} {ss : List Symbol} {room within : ℕ}
    {wrap : ℕ → Tree m × Values ss → Tree n} {old mid : Parser} →
    Waits n (phrase d m ∷ ss) room wrap old mid → Inside d within room → floor ss ≤ room →
    (new : Parser) (e : ParseFault) (r : Result (Tree n) ParseFault) → Fails m within mid new e →
    IsErrAnd r (λ y. y ≡ e) → Reads n room old r new
fails {n = n} {room = room} {old = old} w i low new e r x h =
    exits n room old new r e h (phrase_fails w i low new e x)

-- at a production that nests deeper than there is room
pub no_room : {n : Nonterminal} (r : Rule n) {room : ℕ} {p : Parser} → Chooses n (Some r) p →
    by_first n (first (left p)) ≡ Some r → room ≡ 0 → base n ≤ 0 → 1 ≤ floor (right r) →
    Fails n room p p (TooDeep (place p))
no_room {n = n} r {room = room} {p = p} chosen is none flat nests =
    let g = begun n r (first (left p)) is flat nests in
    too_deep r room p g.0 chosen g.1 none flat nests g.2
