-- At each place of a token list a phrase is read or refused, since prediction comes to an end: each
-- phrase that is begun has fewer tokens left than the one around it, or as many and a smaller rank.
use Rattle.std.proofs.Common.{◌≡◌, ℕ, zero, suc, ◌+◌, ◌-◌, ◌*◌, ◌≤◌, ◌<◌, Bool, true, false, ◌&&◌}
use Rattle.std.proofs.Common.{◌||◌, ◌⊎◌, inl, inr, List, [], ◌∷◌, length, Option, Some, None}
use Rattle.std.proofs.Common.{nat_lt, refl, ap, ◌∙◌, sym, subst, arith, lit≤, lit<, add-one, drop}
use Rattle.std.proofs.lemmas.Bool.{cases_lt}
use Rattle.std.proofs.lemmas.Bool.Decides.{nat_tests}
use Rattle.pra_list.proofs.Truths.{or_cases}
use Rattle.ob_syntax.specs.declared.token.Kind.{Kind}
use Rattle.ob_syntax.specs.declared.token.Kind.TheVariants.{Ident, Period, LeftBracket, Becomes}
use Rattle.ob_syntax.specs.Grammar.{Nonterminal, Selectors, Selector, Factor, Factors, Term, Terms}
use Rattle.ob_syntax.specs.Grammar.{Sign, SimpleExpression, Comparison, Expression, ArgumentList}
use Rattle.ob_syntax.specs.Grammar.{Arguments, ActualParameters, Arm, Elsifs, Arms, Else, Action}
use Rattle.ob_syntax.specs.Grammar.{Statement, Statements, StatementSequence, Idents, IdentList}
use Rattle.ob_syntax.specs.Grammar.{NameList, FieldList, FieldLists, FieldSequence, TypeExpression}
use Rattle.ob_syntax.specs.Grammar.{ByVar, Section, Sections, SectionList, FormalParameters}
use Rattle.ob_syntax.specs.Grammar.{Procedure, Procedures, Constant, ConstantList, Constants}
use Rattle.ob_syntax.specs.Grammar.{TypeDeclaration, TypeList, Types, VariableList, Variables}
use Rattle.ob_syntax.specs.Grammar.{Declarations, Body, Module}
use Rattle.ob_syntax.specs.Grammar.{Nesting, level, deeper, inner, Symbol, token, phrase, Rule}
use Rattle.ob_syntax.specs.Grammar.{right, assignment, call, no_selectors}
use Rattle.ob_syntax.specs.Forms.{nest}
use Rattle.ob_syntax.specs.ChosenRule.{first, by_first, behind_name, choose}
use Rattle.ob_syntax.specs.Tree.{Tree, Values, tree_by}
use Rattle.ob_syntax.specs.Whole.{kinds}
use Rattle.ob_syntax.proofs.LeastForms.{base, floor}
use Rattle.ob_syntax.proofs.KindsAreEqual.{same_kind}
use Rattle.ob_parse.specs.declared.cursor.Parser.{Parser}
use Rattle.ob_parse.specs.declared.cursor.ParseFault.TheVariants.{Grammar, TooDeep}
use Rattle.ob_parse.specs.Reading.{left, place, IsNext, IsRead, Fails}
use Rattle.ob_parse.proofs.KindsLeft.{below, gone}
use Rattle.ob_parse.proofs.PhrasesAdvance.{no_longer, selector_shorter}
use Rattle.ob_parse.proofs.PhraseUnderway.{Waits, Chooses, Inside, opened, after_token}
use Rattle.ob_parse.proofs.PhraseUnderway.{after_phrase, as_deep, one_deeper, at_least_one, closed}
use Rattle.ob_parse.proofs.PhraseUnderway.{refused, too_deep}
use Rattle.ob_parse.proofs.PhraseUnderway.{token_missing, phrase_fails}
use Rattle.ob_parse.proofs.AssignmentOrCall.{assigned, called, behind_target, behind_procedure}
use Rattle.ob_parse.proofs.Begins.{Begun, begun}

-- ---- ranks

abbrev pub rank : Nonterminal → ℕ
rank Selector = 0
rank Selectors = 1
rank Factor = 2
rank Factors = 3
rank Term = 4
rank Terms = 5
rank Sign = 6
rank SimpleExpression = 7
rank Comparison = 8
rank Expression = 9
rank Arguments = 10
rank ArgumentList = 11
rank ActualParameters = 12
rank Arm = 13
rank Elsifs = 14
rank Arms = 15
rank Else = 16
rank Action = 17
rank Statement = 18
rank Statements = 19
rank StatementSequence = 20
rank Idents = 21
rank IdentList = 22
rank NameList = 23
rank FieldList = 24
rank FieldLists = 25
rank FieldSequence = 26
rank TypeExpression = 27
rank ByVar = 28
rank Section = 29
rank Sections = 30
rank SectionList = 31
rank FormalParameters = 32
rank Procedure = 33
rank Procedures = 34
rank Constant = 35
rank ConstantList = 36
rank Constants = 37
rank TypeDeclaration = 38
rank TypeList = 39
rank Types = 40
rank VariableList = 41
rank Variables = 42
rank Declarations = 43
rank Body = 44
rank Module = 45

small_rank : (n : Nonterminal) → rank n < 64
small_rank Selectors = lit< tt
small_rank _ = lit< tt

abbrev is_selector : Nonterminal → Bool
is_selector Selector = true
is_selector _ = false

-- the phrases that may come before any token have smaller ranks; a selector has tokens
abbrev is_below : ℕ → List Symbol → Bool
is_below r [] = true
is_below r (token k ∷ ss) = true
is_below r (phrase d m ∷ ss) = nat_lt (rank m) r && (is_selector m || is_below r ss)

below_right : (n : Nonterminal) (r : Rule n) → is_below (rank n) (right r) ≡ true
below_right _ no_selectors = refl
below_right _ _ = refl

small_floor : (n : Nonterminal) (r : Rule n) → floor (right r) ≤ 1
small_floor _ no_selectors = lit≤ tt
small_floor _ _ = lit≤ tt

-- ---- truth values and numbers

both : (a b : Bool) → (a && b) ≡ true → (a ≡ true) × (b ≡ true)
both true b e = (refl, e)
both false b e = cc

less : (a b : ℕ) → nat_lt a b ≡ true → a < b
less a b e = grind (arith, nat_tests)

-- ---- what comes of a phrase

pub data Outcome (n : Nonterminal) (room : ℕ) (p : Parser) : Type 0 where
  reads : (q : Parser) (t : Tree n) → IsRead n room t p q → Outcome n room p
  stops : (q : Parser) (k : ℕ) → Fails n room p q (Grammar k) → Outcome n room p
  deepens : (q : Parser) (k : ℕ) → Fails n room p q (TooDeep k) → Outcome n room p

-- each phrase comes to something, with fewer than so many steps
abbrev Reader : ℕ → Type 0
Reader steps =
    (n : Nonterminal) (room : ℕ) (p : Parser) → 64 * length (left p) + rank n < steps
    → base n ≤ room → Outcome n room p

-- the steps are enough for these symbols
abbrev AreEnough : ℕ → List Symbol → Parser → Type 0
AreEnough steps ss p =
    (64 * length (left p) + 64 ≤ steps)
    ⊎ ((r : ℕ) × (64 * length (left p) + r ≤ steps) × (is_below r ss ≡ true))

-- the token stands next, or it does not
abbrev IsThereOrNot : Kind → Parser → Type 0
IsThereOrNot k p = ((q : Parser) × IsNext k p q) ⊎ (first (left p) ≡ Some k → ⊥)

enough_first : (steps : ℕ) (d : Nesting) (m : Nonterminal) (ss : List Symbol) (p : Parser)
    → AreEnough steps (phrase d m ∷ ss) p → 64 * length (left p) + rank m < steps
enough_first steps d m ss p (inl h) = let a = small_rank m in omega arith
enough_first steps d m ss p (inr (r, h, b)) =
    let smaller = both (nat_lt (rank m) r) (is_selector m || is_below r ss) b in
    let a = less (rank m) r smaller.0 in omega arith

enough_token : (steps : ℕ) (k : Kind) (ss : List Symbol) (p q : Parser) → IsNext k p q
    → AreEnough steps (token k ∷ ss) p → AreEnough steps ss q
enough_token steps k ss p q x (inl h) = inl (omega (arith, ap length x.from))
enough_token steps k ss p q x (inr (r, h, b)) = inl (omega (arith, ap length x.from))

shorter : (m : Nonterminal) (within : ℕ) (t : Tree m) (p q : Parser) → is_selector m ≡ true
    → IsRead m within t p q → length (left q) < length (left p)
shorter Selector within t p q e r = selector_shorter r
shorter _ within t p q e r = absurd (cc e)

enough_phrase : (steps : ℕ) (d : Nesting) (m : Nonterminal) (ss : List Symbol) (within : ℕ)
    (t : Tree m) (p q : Parser) → IsRead m within t p q → AreEnough steps (phrase d m ∷ ss) p
    → AreEnough steps ss q
enough_phrase steps d m ss within t p q r (inl h) = let a = no_longer r in inl (omega arith)
enough_phrase steps d m ss within t p q r (inr (k, h, b)) =
    let smaller = both (nat_lt (rank m) k) (is_selector m || is_below k ss) b in
    by (or_cases (is_selector m) (is_below k ss) smaller.1)
  where
    by : (is_selector m ≡ true) ⊎ (is_below k ss ≡ true) → AreEnough steps ss q
    by (inl e) = let a = shorter m within t p q e r in inl (omega arith)
    by (inr e) = let a = no_longer r in inr (k, omega arith, e)

-- ---- the next token

moved : (p : Parser) (k : Kind) → first (left p) ≡ Some k → (q : Parser) × IsNext k p q
unfolding left
moved p k e =
    let i = below p.tokens.now p.at (λ none. let z = sym e ∙ none in cc) in
    let one_less = ap (λ n. k ∷ kinds (drop n p.tokens.now)) (sym (add-one p.at)) in (
      record p { at = p.at + 1; in_range = omega arith },
      record { from = gone p.tokens.now p.at k e ∙ one_less; place_is = refl },
    )

at_token : (p : Parser) (k : Kind) → IsThereOrNot k p
at_token p k = by (first (left p)) refl
  where
    by_kind : (j : Kind) → first (left p) ≡ Some j → (j ≡ k) ⊎ (j ≡ k → ⊥) → IsThereOrNot k p
    by_kind j e (inl same) = inl (moved p k (e ∙ ap Some same))
    by_kind j e (inr other) = inr (λ e'. let z = sym e ∙ e' in other cc)

    by : (o : Option Kind) → first (left p) ≡ o → IsThereOrNot k p
    by None e = inr (λ e'. let z = sym e ∙ e' in cc)
    by (Some j) e = by_kind j e (same_kind j k)

-- ---- the symbols of a production, one after the other

module _ {n : Nonterminal} {ss : List Symbol} {room : ℕ} {old mid : Parser} (steps : ℕ)
    (low : floor ss ≤ room) where
  token_step : {k : Kind} {wrap : ℕ → ℕ × Values ss → Tree n}
      → Waits n (token k ∷ ss) room wrap old mid → AreEnough steps (token k ∷ ss) mid
      → ((q : Parser) → Waits n ss room (λ j v. wrap j (place mid, v)) old q
      → AreEnough steps ss q → Outcome n room old)
      → IsThereOrNot k mid → Outcome n room old
  token_step {k = k} w enough rest (inl (q, x)) =
      rest q (after_token w x) (enough_token steps k ss mid q x enough)
  token_step w enough rest (inr other) =
      stops mid (place mid) (token_missing w low mid (Grammar (place mid)) (refl, refl, other))

  phrase_step : {m : Nonterminal} {d : Nesting} {within : ℕ}
      {wrap : ℕ → Tree m × Values ss → Tree n} → Waits n (phrase d m ∷ ss) room wrap old mid →
      Inside d within room
      → AreEnough steps (phrase d m ∷ ss) mid
      → ((q : Parser) (t : Tree m) → Waits n ss room (λ j v. wrap j (t, v)) old q
      → AreEnough steps ss q → Outcome n room old)
      → Outcome m within mid → Outcome n room old
  phrase_step {m = m} {d = d} {within = within} w i enough rest (reads q t r) =
      rest q t (after_phrase w i r) (enough_phrase steps d m ss within t mid q r enough)
  phrase_step w i enough rest (stops q k h) =
      stops q k (phrase_fails w i low q (Grammar k) h)
  phrase_step w i enough rest (deepens q k h) =
      deepens q k (phrase_fails w i low q (TooDeep k) h)

inside : (d : Nesting) (b room : ℕ) → nest d b ≤ room
    → (within : ℕ) × Inside d within room × (b ≤ within)
inside level b room h = (room, as_deep room, h)
inside deeper b room h = (room - 1, one_deeper (room - 1) room (omega arith), omega arith)
inside inner b room h = (room, at_least_one room (omega arith), omega arith)

module _ (steps : ℕ) (reader : Reader steps) (n : Nonterminal) (room : ℕ) (old : Parser) where
  parts_of : (ss : List Symbol) (wrap : ℕ → Values ss → Tree n) (mid : Parser)
      → Waits n ss room wrap old mid → floor ss ≤ room → AreEnough steps ss mid
      → Outcome n room old
  parts_of [] wrap mid w low enough = reads mid (wrap (place mid) tt) (closed w)
  parts_of (token k ∷ ss) wrap mid w low enough =
      token_step steps low w enough
      (λ q w' enough'. parts_of ss (λ j v. wrap j (place mid, v)) q w' low enough')
      (at_token mid k)
  parts_of (phrase d m ∷ ss) wrap mid w low enough =
      let fits : nest d (base m) ≤ room = omega arith in
      let few : floor ss ≤ room = omega arith in
      let i = inside d (base m) room fits in
      phrase_step steps few w i.1 enough
      (λ q t w' enough'. parts_of ss (λ j v. wrap j (t, v)) q w' few enough')
      (reader m i.0 mid (enough_first steps d m ss mid enough) i.2)

-- ---- a phrase

-- a statement that begins with a name looks at the token behind it
abbrev IsNamed : Nonterminal → Option Kind → Type 0
IsNamed n o = (n ≡ Action) × (o ≡ Some Ident)

is_named : (n : Nonterminal) (o : Option Kind) → IsNamed n o ⊎ (IsNamed n o → ⊥)
is_named Action (Some Ident) = inl (refl, refl)
is_named Action _ = inr (λ x. let e = x.1 in cc)
is_named _ o = inr (λ x. let e = x.0 in cc)

choose_action : (next : List Kind) → (first next ≡ Some Ident → ⊥)
    → choose Action next ≡ by_first Action (first next)
choose_action [] other = refl
choose_action (Ident ∷ ks) other = absurd (other refl)
choose_action (_ ∷ ks) other = refl

choose_first : (n : Nonterminal) (next : List Kind) → (IsNamed n (first next) → ⊥)
    → choose n next ≡ by_first n (first next)
choose_first Action next other = choose_action next (λ e. other (refl, e))
choose_first _ next other = refl

chosen_by : (n : Nonterminal) (p : Parser) (r : Option (Rule n))
    → (IsNamed n (first (left p)) → ⊥) → by_first n (first (left p)) ≡ r → Chooses n r p
chosen_by n p r other is next alike =
    choose_first n next (λ x. other (x.0, sym alike ∙ x.1)) ∙ ap (by_first n) alike ∙ is

behind_a_name : (o : Option Kind)
    → (behind_name o ≡ Some assignment) ⊎ (behind_name o ≡ Some call)
behind_a_name (Some Period) = inl refl
behind_a_name (Some LeftBracket) = inl refl
behind_a_name (Some Becomes) = inl refl
behind_a_name _ = inr refl

module _ (steps : ℕ) (reader : Reader steps) where
  begin_with : (n : Nonterminal) (r : Rule n) (room : ℕ) (p : Parser) → Chooses n (Some r) p
      → 64 * length (left p) + rank n ≤ steps → base n ≤ room
      → (base n ≤ 0 → 1 ≤ floor (right r) → Begun n (first (left p))) → Outcome n room p
  begin_with n r room p chosen enough low beyond = by (cases_lt room (floor (right r)))
    where
      by : (room < floor (right r)) ⊎ (floor (right r) ≤ room) → Outcome n room p
      by (inr fits) =
          parts_of steps reader n room p (right r) (tree_by r (place p)) p (opened r room p chosen)
          fits (inr (rank n, enough, below_right n r))
      by (inl above) =
          let small = small_floor n r in
          let none : room ≡ 0 = omega arith in
          let flat : base n ≤ 0 = omega arith in
          let nests : 1 ≤ floor (right r) = omega arith in
          let g = beyond flat nests in
          deepens p (place p) (too_deep r room p g.0 chosen g.1 none flat nests g.2)

  named : (room : ℕ) (p q : Parser) → IsNext Ident p q → 64 * length (left p) ≤ steps
      → (behind_name (first (left q)) ≡ Some assignment)
      ⊎ (behind_name (first (left q)) ≡ Some call) → Outcome Action room p
  named room p q x enough (inl is) =
      parts_of steps reader Action room p behind_target
      (λ j v. tree_by assignment (place p) j (place p, v)) q (assigned room p q x is) (omega arith)
      (inl (omega (arith, ap length x.from)))
  named room p q x enough (inr is) =
      parts_of steps reader Action room p behind_procedure
      (λ j v. tree_by call (place p) j (place p, v)) q (called room p q x is) (omega arith)
      (inl (omega (arith, ap length x.from)))

  begin_any : (n : Nonterminal) (room : ℕ) (p : Parser)
      → 64 * length (left p) + rank n ≤ steps → base n ≤ room → (o : Option (Rule n))
      → by_first n (first (left p)) ≡ o → (IsNamed n (first (left p)) → ⊥) → Outcome n room p
  begin_any n room p enough low None is other =
      stops p (place p) (refused n room p low (chosen_by n p None other is))
  begin_any n room p enough low (Some r) is other =
      begin_with n r room p (chosen_by n p (Some r) other is) enough low
      (begun n r (first (left p)) is)

  begin : (n : Nonterminal) (room : ℕ) (p : Parser) → 64 * length (left p) + rank n ≤ steps
      → base n ≤ room → IsNamed n (first (left p)) ⊎ (IsNamed n (first (left p)) → ⊥)
      → Outcome n room p
  begin n room p enough low (inl (action, ident)) =
      let q = moved p Ident ident in
      let choice = behind_a_name (first (left q.0)) in
      subst (λ m. Outcome m room p) (sym action) (named room p q.0 q.1 (omega arith) choice)
  begin n room p enough low (inr other) =
      begin_any n room p enough low (by_first n (first (left p))) refl other

pub each_reads : (steps : ℕ) → Reader steps
each_reads zero n room p enough low = absurd (omega arith)
each_reads (suc steps) n room p enough low =
    begin steps (each_reads steps) n room p (omega arith) low (is_named n (first (left p)))
