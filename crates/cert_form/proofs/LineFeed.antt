-- A line feed behind the text of a value changes nothing of what is read. What the lexer makes of
-- printed tokens is said here with any text behind them.
use Rattle.std.proofs.Common.{◌≡◌, ℕ, Bool, true, false, not, cond, ◌&&◌, List, [], ◌∷◌, ◌++◌, Some}
use Rattle.std.proofs.Common.{refl, sym, ap, ap₂, ◌∙◌, append_assoc, append-nil, option_and_then}
use Rattle.std.proofs.Common.{IsUtf8}
use Rattle.std.proofs.lemmas.Str.{IsUtf8-append}
use Rattle.json.specs.Token.{Token, begin_object, end_object, begin_array, end_array, key, string}
use Rattle.json.specs.Token.{number, boolean, null, bad}
use Rattle.json.specs.Word.{ends_word, word}
use Rattle.json.specs.Lex.{Lexeme, token, comma, colon, string_token, lex, between, fresh}
use Rattle.json.specs.Lex.{punctuate, tokens}
use Rattle.json.specs.Json as json
use Rattle.json.specs.Print.{escape, quoted, token_text, begins, ends, print_from, print}
use Rattle.json.specs.Print.{IsPrintable, ArePrintable, IsPrintableOrBad, ArePrintableOrBad}
use Rattle.json.specs.Tree.{json_tokens, items_tokens, members_tokens}
use Rattle.json.proofs.Printed.Strings.{content-escape, lex-escape}
use Rattle.json.proofs.Printed.Numbers.{lex-number, in_word-ended}
use Rattle.json.proofs.Printed.Utf8.{IsUtf8-are_ascii}
use Rattle.json.proofs.Numbered.{ArePrintableOrBad-tokens}
use Rattle.serde_json.specs.Data.{Data}
use Rattle.serde_json.specs.Read.{read, of_json, max_depth}
use Rattle.serde_json.specs.Written.{IsInOrder, has_float, outline}
use Rattle.serde_json.proofs.Texts.{tokens_from_order}
use Rattle.pra_list.proofs.Choices.{and_true}
use Rattle.cert_form.specs.Whole.{IsReadAs}

abbrev token_lexemes : Token → List Lexeme
token_lexemes begin_object = token begin_object ∷ []
token_lexemes end_object = token end_object ∷ []
token_lexemes begin_array = token begin_array ∷ []
token_lexemes end_array = token end_array ∷ []
token_lexemes (key s) = token (string s) ∷ colon ∷ []
token_lexemes (string s) = token (string s) ∷ []
token_lexemes (number s) = token (number s) ∷ []
token_lexemes (boolean b) = token (boolean b) ∷ []
token_lexemes null = token null ∷ []
token_lexemes bad = []

abbrev lexemes : Bool → List Token → List Lexeme
lexemes c [] = []
lexemes c (t ∷ ts) =
    cond (c && begins t) (comma ∷ []) [] ++ (token_lexemes t ++ lexemes (ends t) ts)

-- after a value stands a comma, a closing bracket or what is behind
after_value_ends : (ts : List Token) (r : List ℕ) → ends_word r ≡ true →
    ends_word (print_from true ts ++ r) ≡ true
unfolding print_from
after_value_ends [] r h = h
after_value_ends (begin_object ∷ ts) r h = refl
after_value_ends (t ∷ ts) r h = refl

lex-quoted : (s r : List ℕ) → lex between (quoted s ++ r) ≡ token (string s) ∷ lex between r
unfolding lex
lex-quoted s r =
    let e = append_assoc (escape s) (34 ∷ []) r in
    ap (λ l. lex between (34 ∷ l)) e
    ∙ ap₂ (λ o l. token (string_token o) ∷ l) (content-escape s r) (lex-escape s r)

lex-token_text : (t : Token) (r : List ℕ) → IsPrintable t →
    (ends t ≡ true → ends_word r ≡ true) →
    lex between (token_text t ++ r) ≡ token_lexemes t ++ lex between r
unfolding lex word
lex-token_text (key s) r h ended =
    ap (lex between) (append_assoc (quoted s) (58 ∷ []) r) ∙ lex-quoted s (58 ∷ r)
lex-token_text (string s) r h ended = lex-quoted s r
lex-token_text (number s) r h ended = lex-number s r h (ended refl)
lex-token_text (boolean true) r h ended =
    ap₂ (λ b l. token (cond b (boolean true) bad) ∷ l) (ended refl) (in_word-ended r (ended refl))
lex-token_text (boolean false) r h ended =
    ap₂ (λ b l. token (cond b (boolean false) bad) ∷ l) (ended refl) (in_word-ended r (ended refl))
lex-token_text null r h ended =
    ap₂ (λ b l. token (cond b null bad) ∷ l) (ended refl) (in_word-ended r (ended refl))
lex-token_text bad r h ended = absurd h
lex-token_text t r h ended = refl

lex-separator : (b : Bool) (r : List ℕ) →
    lex between (cond b (44 ∷ []) [] ++ r) ≡ cond b (comma ∷ []) [] ++ lex between r
unfolding lex
lex-separator true r = refl
lex-separator false r = refl

regroup : {A : Type 0} (a b c r : List A) → (a ++ (b ++ c)) ++ r ≡ a ++ (b ++ (c ++ r))
regroup a b c r = append_assoc a (b ++ c) r ∙ ap (λ l. a ++ l) (append_assoc b c r)

lex-printed : (c : Bool) (ts : List Token) (r : List ℕ) → ArePrintable ts → ends_word r ≡ true →
    lex between (print_from c ts ++ r) ≡ lexemes c ts ++ lex between r
unfolding print_from ArePrintable
lex-printed c [] r h e = refl
lex-printed c (t ∷ ts) r h e =
    let comma_text = cond (c && begins t) (44 ∷ []) [] in
    let commas = cond (c && begins t) (comma ∷ []) [] in
    let rest = print_from (ends t) ts ++ r in
    let ended = λ (k : ends t ≡ true). ap (λ b. ends_word (print_from b ts ++ r)) k
    ∙ after_value_ends ts r e in
    ap (lex between) (regroup comma_text (token_text t) (print_from (ends t) ts) r)
    ∙ lex-separator (c && begins t) (token_text t ++ rest)
    ∙ ap (λ l. commas ++ l) (lex-token_text t rest h.0 ended)
    ∙ ap (λ l. commas ++ (token_lexemes t ++ l)) (lex-printed (ends t) ts r h.1 e)
    ∙ sym (regroup commas (token_lexemes t) (lexemes (ends t) ts) (lex between r))

nothing_left : lex between (10 ∷ []) ≡ lex between []
unfolding lex
nothing_left = refl

tokens_line : (ts : List Token) → ArePrintable ts →
    tokens (print ts ++ 10 ∷ []) ≡ tokens (print ts)
tokens_line ts h =
    ap (punctuate fresh) (lex-printed false ts (10 ∷ []) h refl
    ∙ ap (λ l. lexemes false ts ++ l) nothing_left ∙ sym (lex-printed false ts [] h refl))
    ∙ ap tokens (append-nil (print ts))

-- The tokens of a value are all of what can be printed.

abbrev is_bad : Token → Bool
is_bad bad = true
is_bad _ = false

abbrev none_bad : List Token → Bool
none_bad [] = true
none_bad (t ∷ ts) = not (is_bad t) && none_bad ts

good_append : (xs ys : List Token) → none_bad xs ≡ true → none_bad ys ≡ true →
    none_bad (xs ++ ys) ≡ true
good_append [] ys e f = f
good_append (x ∷ xs) ys e f =
    let p = and_true (not (is_bad x)) (none_bad xs) e in
    ap₂ (λ a b. a && b) p.0 (good_append xs ys p.1 f)

mutual
  good_tree : (j : json.Json) → none_bad (json_tokens j) ≡ true
  good_tree (json.array js) = good_items js
  good_tree (json.object ms) = good_members ms
  good_tree j = refl

  good_items : (js : json.Items) → none_bad (items_tokens js) ≡ true
  good_items json.no_items = refl
  good_items (json.item j js) =
      good_append (json_tokens j) (items_tokens js) (good_tree j) (good_items js)

  good_members : (ms : json.Members) → none_bad (members_tokens ms) ≡ true
  good_members json.no_members = refl
  good_members (json.member k j ms) =
      good_append (json_tokens j) (members_tokens ms) (good_tree j) (good_members ms)

printable_token : (t : Token) → IsPrintableOrBad t → not (is_bad t) ≡ true → IsPrintable t
printable_token bad h e = absurd (cc)
printable_token t h e = h

printable : (ts : List Token) → ArePrintableOrBad ts → none_bad ts ≡ true → ArePrintable ts
unfolding ArePrintable
printable [] h e = tt
printable (t ∷ ts) h e =
    let p = and_true (not (is_bad t)) (none_bad ts) e in
    (printable_token t h.0 p.0, printable ts h.1 p.1)

-- what is read of a text is read of it with a line feed behind
pub line_read : (text : List ℕ) (d : Data) → text ≡ print (tokens text) → IsInOrder text d →
    has_float d ≡ false → IsUtf8 text → read text ≡ Some d → IsReadAs (text ++ 10 ∷ []) d
line_read text d printed order whole utf8 r =
    let ts = tokens text in
    let tree = tokens_from_order text d order whole in
    let good = printable ts (ArePrintableOrBad-tokens text)
    (ap none_bad tree ∙ good_tree (outline d)) in
    let same : tokens (text ++ 10 ∷ []) ≡ tokens text =
    ap (λ l. tokens (l ++ 10 ∷ [])) printed ∙ tokens_line ts good ∙ sym (ap tokens printed) in (
      IsUtf8-append text (10 ∷ []) utf8 (IsUtf8-are_ascii (10 ∷ []) refl),
      ap (λ l. option_and_then of_json (option_and_then (λ p. json.if_last p.0 p.1)
          (json.value max_depth l))) same ∙ r,
    )
