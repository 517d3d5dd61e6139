-- Bytes and spellings: which spelling is the longest at its place, and that a spelling has one
-- kind.
use Rattle.std.proofs.Common.{◌≡◌, ℕ, zero, suc, ◌≤◌, Bool, true, false, not, ◌&&◌, ◌||◌, List, []}
use Rattle.std.proofs.Common.{◌∷◌, ◌++◌, length, refl, sym, ap, ap₂, ◌∙◌, ◌⊎◌, inl, inr, ⊎_elim}
use Rattle.std.proofs.Common.{arith, ◌==◌, eq-eqb}
use Rattle.std.specs.Prelude.{Contains}
use Rattle.std.specs.List.{list_all}
use Rattle.std.specs.Char.{is_ascii_alphabetic, is_ascii_alphanumeric, is_ascii_digit}
use Rattle.std.proofs.lemmas.Bool.{and_parts, and_from, or_cases, or_parts, both_ways, not-true}
use Rattle.std.proofs.lemmas.Bool.{false≢true, cases_eq}
use Rattle.std.proofs.lemmas.Bool.Decides.{nat_tests}
use Rattle.ob_syntax.specs.declared.token.Kind.{Kind}
use Rattle.ob_syntax.specs.declared.token.Kind.TheVariants.{LeftParen}
use Rattle.ob_syntax.specs.Tokens.{is_name, is_integer, is_space, fixed, IsSpelling, a_name}
use Rattle.ob_syntax.specs.Tokens.{an_integer, a_fixed_one, IsLongest}

-- bytes
pub alphanumeric_from_alphabetic : (b : ℕ) → is_ascii_alphabetic b ≡ true →
    is_ascii_alphanumeric b ≡ true
alphanumeric_from_alphabetic b h = grind (arith, nat_tests)

pub alphanumeric_from_digit : (b : ℕ) → is_ascii_digit b ≡ true → is_ascii_alphanumeric b ≡ true
alphanumeric_from_digit b h = grind (arith, nat_tests)

pub not_alphabetic_from_digit : (b : ℕ) → is_ascii_digit b ≡ true → is_ascii_alphabetic b ≡ false
not_alphabetic_from_digit b h = grind (arith, nat_tests)

pub not_space_from_alphanumeric : (b : ℕ) → is_ascii_alphanumeric b ≡ true → is_space b ≡ false
not_space_from_alphanumeric b h = grind (arith, nat_tests)

pub cases_alphanumeric : (b : ℕ) → is_ascii_alphanumeric b ≡ true → (is_ascii_alphabetic b ≡ true) ⊎
    (is_ascii_digit b ≡ true)
cases_alphanumeric b h = grind (arith, nat_tests)

-- a byte that can begin a symbol
abbrev pub is_mark : ℕ → Bool
is_mark b = not (is_ascii_alphanumeric b || is_space b)

pub mark_from : (b : ℕ) → is_ascii_alphabetic b ≡ false → is_ascii_digit b ≡ false → is_space b ≡
    false → is_mark b ≡ true
mark_from b no_letter no_digit no_space = grind (arith, nat_tests)

-- the first byte passes the test
abbrev pub front : (ℕ → Bool) → List ℕ → Bool
front p [] = false
front p (b ∷ bs) = p b

-- a symbol has one byte or two, and begins with no letter, digit or space
abbrev pub is_symbol : List ℕ → Bool
is_symbol [] = false
is_symbol (b ∷ []) = is_mark b
is_symbol (b ∷ (c ∷ [])) = is_mark b
is_symbol (b ∷ (c ∷ (d ∷ bs))) = false

-- an element of a list is its first or one of the others
pub Contains-cons_cases : {X : Type 0} (x : X) (xs : List X) (y : X) → Contains (x ∷ xs) y →
    (x ≡ y) ⊎ Contains xs y
Contains-cons_cases x xs y (zero, in_range, is) = inl is
Contains-cons_cases x xs y (suc k, in_range, is) = inr (k, omega arith, is)

pub Contains-cons_here : {X : Type 0} (x : X) (xs : List X) (y : X) → x ≡ y → Contains (x ∷ xs) y
Contains-cons_here x xs y is = (0, omega arith, is)

pub Contains-cons_later : {X : Type 0} (x : X) (xs : List X) (y : X) → Contains xs y →
    Contains (x ∷ xs) y
Contains-cons_later x xs y (k, in_range, is) = (suc k, omega arith, is)

list_all-at : {X : Type 0} (p : X → Bool) (xs : List X) (x : X) → list_all p xs ≡ true →
    Contains xs x → p x ≡ true
list_all-at p [] x h (k, in_range, is) = absurd (omega arith)
list_all-at p (y ∷ xs) x h c =
    let both = and_parts (p y) (list_all p xs) h in
    ⊎_elim (λ (is : y ≡ x). ap p (sym is) ∙ both.0)
    (λ (later : Contains xs x). list_all-at p xs x both.1 later) (Contains-cons_cases y xs x c)

-- the table has keywords, which are names, and symbols
pub cases_fixed : (kind : Kind) (word : List ℕ) → Contains fixed (kind, word) →
    (is_name word ≡ true) ⊎ (is_symbol word ≡ true)
cases_fixed kind word c = or_cases (is_name word) (is_symbol word)
    (list_all-at (λ (e : Kind × List ℕ). is_name e.1 || is_symbol e.1) fixed (kind, word) refl c)

-- the two lists of an equation begin with the same byte
pub heads : (b c : ℕ) (bs cs : List ℕ) → b ∷ bs ≡ c ∷ cs → b ≡ c
heads b c bs cs e = cc

pub tails : (b c : ℕ) (bs cs : List ℕ) → b ∷ bs ≡ c ∷ cs → bs ≡ cs
tails b c bs cs e = cc

-- where all bytes of v pass a test that the byte behind w fails, v is no longer than w
run_longest : (p : ℕ → Bool) (w rest v after : List ℕ) → front p rest ≡ false → list_all p v ≡
    true → w ++ rest ≡ v ++ after → length v ≤ length w
run_longest p w rest [] after ends h e = omega arith
run_longest p [] [] (c ∷ v) after ends h e = cc
run_longest p [] (b ∷ rest) (c ∷ v) after ends h e =
    absurd (both_ways (p b) ends
    (ap p (heads b c rest (v ++ after) e) ∙ (and_parts (p c) (list_all p v) h).0))
run_longest p (b ∷ w) rest (c ∷ v) after ends h e = let shorter = run_longest p w rest v after ends
    (and_parts (p c) (list_all p v) h).1 (tails b c (w ++ rest) (v ++ after) e) in omega arith

-- every element passes a weaker test
list_all-weaker : (p q : ℕ → Bool) → ((b : ℕ) → p b ≡ true → q b ≡ true) → (w : List ℕ) →
    list_all p w ≡ true → list_all q w ≡ true
list_all-weaker p q weaker [] h = refl
list_all-weaker p q weaker (b ∷ w) h = let both = and_parts (p b) (list_all p w) h in
    and_from (q b) (list_all q w) (weaker b both.0) (list_all-weaker p q weaker w both.1)

alphanumeric_name : (w : List ℕ) → is_name w ≡ true → list_all is_ascii_alphanumeric w ≡ true
alphanumeric_name [] h = refl
alphanumeric_name (b ∷ w) h =
    let both = and_parts (is_ascii_alphabetic b) (list_all is_ascii_alphanumeric w) h in
    and_from (is_ascii_alphanumeric b) (list_all is_ascii_alphanumeric w)
    (alphanumeric_from_alphabetic b both.0) both.1

digits_integer : (w : List ℕ) → is_integer w ≡ true → list_all is_ascii_digit w ≡ true
digits_integer [] h = refl
digits_integer (b ∷ w) h = h

alphanumeric_integer : (w : List ℕ) → is_integer w ≡ true → list_all is_ascii_alphanumeric w ≡ true
alphanumeric_integer w h = list_all-weaker is_ascii_digit is_ascii_alphanumeric
    alphanumeric_from_digit w (digits_integer w h)

-- the first bytes of spellings
pub front_name : (w rest : List ℕ) → is_name w ≡ true → front is_ascii_alphabetic (w ++ rest) ≡ true
front_name [] rest h = absurd (false≢true h)
front_name (b ∷ w) rest h =
    (and_parts (is_ascii_alphabetic b) (list_all is_ascii_alphanumeric w) h).0

pub front_integer : (w rest : List ℕ) → is_integer w ≡ true → front is_ascii_digit (w ++ rest) ≡
    true
front_integer [] rest h = absurd (false≢true h)
front_integer (b ∷ w) rest h = (and_parts (is_ascii_digit b) (list_all is_ascii_digit w) h).0

pub front_symbol : (w rest : List ℕ) → is_symbol w ≡ true → front is_mark (w ++ rest) ≡ true
front_symbol [] rest h = absurd (false≢true h)
front_symbol (b ∷ []) rest h = h
front_symbol (b ∷ (c ∷ [])) rest h = h
front_symbol (b ∷ (c ∷ (d ∷ w))) rest h = absurd (false≢true h)

pub mark_no_letter : (text : List ℕ) → front is_mark text ≡ true → front is_ascii_alphabetic text ≡
    true → ⊥
mark_no_letter [] h i = false≢true h
mark_no_letter (b ∷ text) h i = let alphanumeric = alphanumeric_from_alphabetic b i in
    both_ways (is_ascii_alphanumeric b)
    (or_parts (is_ascii_alphanumeric b) (is_space b)
    (not-true (is_ascii_alphanumeric b || is_space b) h)).0 alphanumeric

pub mark_no_digit : (text : List ℕ) → front is_mark text ≡ true → front is_ascii_digit text ≡ true →
    ⊥
mark_no_digit [] h i = false≢true h
mark_no_digit (b ∷ text) h i = let alphanumeric = alphanumeric_from_digit b i in
    both_ways (is_ascii_alphanumeric b)
    (or_parts (is_ascii_alphanumeric b) (is_space b)
    (not-true (is_ascii_alphanumeric b || is_space b) h)).0 alphanumeric

pub letter_no_digit : (text : List ℕ) → front is_ascii_alphabetic text ≡ true →
    front is_ascii_digit text ≡ true → ⊥
letter_no_digit [] h i = false≢true h
letter_no_digit (b ∷ text) h i = both_ways (is_ascii_alphabetic b) (not_alphabetic_from_digit b i) h

pub mark_no_space : (text : List ℕ) → front is_mark text ≡ true → front is_space text ≡ false
mark_no_space [] h = refl
mark_no_space (b ∷ text) h =
    (or_parts (is_ascii_alphanumeric b) (is_space b)
    (not-true (is_ascii_alphanumeric b || is_space b) h)).1

letter_no_space : (text : List ℕ) → front is_ascii_alphabetic text ≡ true → front is_space text ≡
    false
letter_no_space [] h = refl
letter_no_space (b ∷ text) h = not_space_from_alphanumeric b (alphanumeric_from_alphabetic b h)

digit_no_space : (text : List ℕ) → front is_ascii_digit text ≡ true → front is_space text ≡ false
digit_no_space [] h = refl
digit_no_space (b ∷ text) h = not_space_from_alphanumeric b (alphanumeric_from_digit b h)

-- no spelling begins with a space
pub spelling_no_space : (w rest : List ℕ) → IsSpelling w → front is_space (w ++ rest) ≡ false
spelling_no_space w rest (a_name h) = letter_no_space (w ++ rest) (front_name w rest h)
spelling_no_space w rest (an_integer h) = digit_no_space (w ++ rest) (front_integer w rest h)
spelling_no_space w rest (a_fixed_one kind c) =
    ⊎_elim
    (λ (keyword : is_name w ≡ true). letter_no_space (w ++ rest) (front_name w rest keyword))
    (λ (symbol : is_symbol w ≡ true). mark_no_space (w ++ rest) (front_symbol w rest symbol))
    (cases_fixed kind w c)

-- a name is the longest spelling where no letter or digit follows
pub longest_name : (w rest : List ℕ) → is_name w ≡ true → front is_ascii_alphanumeric rest ≡ false →
    IsLongest w rest
longest_name w rest h ends v after (a_name i) e = run_longest is_ascii_alphanumeric w rest v after
    ends (alphanumeric_name v i) e
longest_name w rest h ends v after (an_integer i) e = run_longest is_ascii_alphanumeric w rest v
    after ends (alphanumeric_integer v i) e
longest_name w rest h ends v after (a_fixed_one kind i) e =
    ⊎_elim
    (λ (keyword : is_name v ≡ true). run_longest is_ascii_alphanumeric w rest v after ends
    (alphanumeric_name v keyword) e)
    (λ (symbol : is_symbol v ≡ true).
    absurd (mark_no_letter (v ++ after) (front_symbol v after symbol)
    (ap (front is_ascii_alphabetic) (sym e) ∙ front_name w rest h)))
    (cases_fixed kind v i)

-- an integer is the longest spelling where no digit follows
pub longest_integer : (w rest : List ℕ) → is_integer w ≡ true → front is_ascii_digit rest ≡ false →
    IsLongest w rest
longest_integer w rest h ends v after (a_name i) e =
    absurd (letter_no_digit (v ++ after) (front_name v after i)
    (ap (front is_ascii_digit) (sym e) ∙ front_integer w rest h))
longest_integer w rest h ends v after (an_integer i) e = run_longest is_ascii_digit w rest v after
    ends (digits_integer v i) e
longest_integer w rest h ends v after (a_fixed_one kind i) e =
    let digit : front is_ascii_digit (v ++ after) ≡ true = ap (front is_ascii_digit) (sym e)
    ∙ front_integer w rest h in
    ⊎_elim
    (λ (keyword : is_name v ≡ true).
    absurd (letter_no_digit (v ++ after) (front_name v after keyword) digit))
    (λ (symbol : is_symbol v ≡ true).
    absurd (mark_no_digit (v ++ after) (front_symbol v after symbol) digit))
    (cases_fixed kind v i)

-- where a symbol can begin, only symbols do
only_symbols : (text v after : List ℕ) → front is_mark text ≡ true → IsSpelling v →
    text ≡ v ++ after → (kind : Kind) × Contains fixed (kind, v) × (is_symbol v ≡ true)
only_symbols text v after h (a_name i) e =
    absurd (mark_no_letter text h (ap (front is_ascii_alphabetic) e ∙ front_name v after i))
only_symbols text v after h (an_integer i) e =
    absurd (mark_no_digit text h (ap (front is_ascii_digit) e ∙ front_integer v after i))
only_symbols text v after h (a_fixed_one kind i) e =
    ⊎_elim
    (λ (keyword : is_name v ≡ true).
    absurd (mark_no_letter text h
    (ap (front is_ascii_alphabetic) e ∙ front_name v after keyword)))
    (λ (symbol : is_symbol v ≡ true). (kind, i, symbol))
    (cases_fixed kind v i)

symbol_short : (v : List ℕ) → is_symbol v ≡ true → length v ≤ 2
symbol_short [] h = omega arith
symbol_short (b ∷ []) h = omega arith
symbol_short (b ∷ (c ∷ [])) h = omega arith
symbol_short (b ∷ (c ∷ (d ∷ v))) h = absurd (false≢true h)

-- no symbol is longer than two bytes
pub longest_pair : (b c : ℕ) (rest : List ℕ) → is_mark b ≡ true → IsLongest (b ∷ (c ∷ [])) rest
longest_pair b c rest h v after i e = let s = only_symbols (b ∷ (c ∷ rest)) v after h i e in
    let short = symbol_short v s.2 in omega arith

-- no pair of bytes in front is a symbol
abbrev pub NoPair : List ℕ → Type 0
NoPair text = (kind : Kind) (b c : ℕ) (after : List ℕ) → text ≡ b ∷ (c ∷ after) →
    Contains fixed (kind, b ∷ (c ∷ [])) → ⊥

single_longest : (b : ℕ) (rest v after : List ℕ) (kind : Kind) → NoPair (b ∷ rest) →
    Contains fixed (kind, v) → is_symbol v ≡ true → b ∷ rest ≡ v ++ after → length v ≤ 1
single_longest b rest [] after kind none i s e = omega arith
single_longest b rest (c ∷ []) after kind none i s e = omega arith
single_longest b rest (c ∷ (d ∷ [])) after kind none i s e = absurd (none kind c d after e i)
single_longest b rest (c ∷ (d ∷ (f ∷ v))) after kind none i s e = absurd (false≢true s)

-- a symbol of one byte is the longest spelling where it begins none of two
pub longest_single : (b : ℕ) (rest : List ℕ) → is_mark b ≡ true → NoPair (b ∷ rest) →
    IsLongest (b ∷ []) rest
longest_single b rest h none v after i e = let s = only_symbols (b ∷ rest) v after h i e in
    single_longest b rest v after s.0 none s.1 s.2 e

no_spelling_from : (b : ℕ) (rest v after : List ℕ) (kind : Kind) → NoPair (b ∷ rest) →
    ((kind : Kind) → Contains fixed (kind, b ∷ []) → ⊥) → Contains fixed (kind, v) → is_symbol v ≡
    true → b ∷ rest ≡ v ++ after → ⊥
no_spelling_from b rest [] after kind none alone i s e = false≢true s
no_spelling_from b rest (c ∷ []) after kind none alone i s e = let is : b ≡ c =
    heads b c rest after e in alone kind (rw is i)
no_spelling_from b rest (c ∷ (d ∷ [])) after kind none alone i s e = none kind c d after e i
no_spelling_from b rest (c ∷ (d ∷ (f ∷ v))) after kind none alone i s e = false≢true s

-- no spelling begins where no symbol does
pub no_spelling : (b : ℕ) (rest : List ℕ) → is_mark b ≡ true → NoPair (b ∷ rest) →
    ((kind : Kind) → Contains fixed (kind, b ∷ []) → ⊥) → (v after : List ℕ) → IsSpelling v →
    b ∷ rest ≡ v ++ after → ⊥
no_spelling b rest h none alone v after i e = let s = only_symbols (b ∷ rest) v after h i e in
    no_spelling_from b rest v after s.0 none alone s.1 s.2 e

-- equal lists of bytes, or different ones
pub cases_word : (v w : List ℕ) → (v ≡ w) ⊎ (v ≡ w → ⊥)
cases_word [] [] = inl refl
cases_word [] (c ∷ w) = inr (λ e. cc)
cases_word (b ∷ v) [] = inr (λ e. cc)
cases_word (b ∷ v) (c ∷ w) =
    ⊎_elim
    (λ (head : b ≡ c). ⊎_elim (λ (tail : v ≡ w). inl (ap₂ (λ x xs. x ∷ xs) head tail))
    (λ (other : v ≡ w → ⊥). inr (λ e. other (tails b c v w e))) (cases_word v w))
    (λ (other : b ≡ c → ⊥). inr (λ e. other (heads b c v w e)))
    (cases_eq b c)

cases_table : (table : List (Kind × List ℕ)) (word : List ℕ) →
    ((kind : Kind) × Contains table (kind, word)) ⊎
    ((kind : Kind) → Contains table (kind, word) → ⊥)
cases_table [] word = inr (λ kind c. let in_range = c.1 in absurd (omega arith))
cases_table (x ∷ table) word =
    ⊎_elim
    (λ (here : x.1 ≡ word). inl
    (x.0, Contains-cons_here x table (x.0, word) (ap (λ w. (x.0, w)) here)))
    (λ (other : x.1 ≡ word → ⊥).
    ⊎_elim
    (λ (later : (kind : Kind) × Contains table (kind, word)). inl
    (later.0, Contains-cons_later x table (later.0, word) later.1))
    (λ (none : (kind : Kind) → Contains table (kind, word) → ⊥). inr (λ kind c.
    ⊎_elim (λ (is : x ≡ (kind, word)). other (ap (λ (e : Kind × List ℕ). e.1) is)) (none kind)
    (Contains-cons_cases x table (kind, word) c)))
    (cases_table table word))
    (cases_word x.1 word)

-- a word is the spelling of a fixed token or it is not
pub cases_in_fixed : (word : List ℕ) → ((kind : Kind) × Contains fixed (kind, word)) ⊎
    ((kind : Kind) → Contains fixed (kind, word) → ⊥)
cases_in_fixed word = cases_table fixed word

-- the same bytes, as a test
abbrev same : List ℕ → List ℕ → Bool
same [] [] = true
same [] (c ∷ w) = false
same (b ∷ v) [] = false
same (b ∷ v) (c ∷ w) = (b == c) && same v w

same_itself : (w : List ℕ) → same w w ≡ true
same_itself [] = refl
same_itself (b ∷ w) = and_from (b == b) (same w w) (eq-eqb b b refl) (same_itself w)

-- no two entries have the same spelling
abbrev distinct : List (Kind × List ℕ) → Bool
distinct [] = true
distinct (x ∷ table) = list_all (λ (e : Kind × List ℕ). not (same x.1 e.1)) table && distinct table

one_entry : (table : List (Kind × List ℕ)) (word : List ℕ) (kind kind' : Kind) → distinct table ≡
    true → Contains table (kind, word) → Contains table (kind', word) → kind ≡ kind'
one_entry [] word kind kind' h c d = let in_range = c.1 in absurd (omega arith)
one_entry (x ∷ table) word kind kind' h c d =
    let both = and_parts (list_all (λ (e : Kind × List ℕ). not (same x.1 e.1)) table)
    (distinct table) h in
    let apart : (k l : Kind) → x ≡ (k, word) → Contains table (l, word) → ⊥ = λ k l is later.
    let differs : not (same x.1 word) ≡ true =
    list_all-at (λ (e : Kind × List ℕ). not (same x.1 e.1)) table (l, word) both.0 later in
    let word_is : x.1 ≡ word = ap (λ (e : Kind × List ℕ). e.1) is in
    both_ways (same x.1 word) (not-true (same x.1 word) differs)
    (ap (λ w. same w word) word_is ∙ same_itself word) in
    ⊎_elim
    (λ (is : x ≡ (kind, word)).
    ⊎_elim
    (λ (is' : x ≡ (kind', word)). ap (λ (e : Kind × List ℕ). e.0) (sym is ∙ is'))
    (λ (later : Contains table (kind', word)). absurd (apart kind kind' is later))
    (Contains-cons_cases x table (kind', word) d))
    (λ (later : Contains table (kind, word)).
    ⊎_elim
    (λ (is : x ≡ (kind', word)). absurd (apart kind' kind is later))
    (λ (later' : Contains table (kind', word)). one_entry table word kind kind' both.1 later later')
    (Contains-cons_cases x table (kind', word) d))
    (Contains-cons_cases x table (kind, word) c)

-- a spelling has one fixed token
pub one_fixed : (word : List ℕ) (kind kind' : Kind) → Contains fixed (kind, word) →
    Contains fixed (kind', word) → kind ≡ kind'
one_fixed word kind kind' c d = one_entry fixed word kind kind' refl c d

-- `(` is a token, and `(*` is none
pub paren_fixed : Contains fixed (LeftParen, 40 ∷ [])
paren_fixed = (26, omega arith, refl)

pub no_opening_fixed : (kind : Kind) → Contains fixed (kind, 40 ∷ (42 ∷ [])) → ⊥
no_opening_fixed kind c =
    false≢true (list_all-at (λ (e : Kind × List ℕ). not (same e.1 (40 ∷ (42 ∷ [])))) fixed
    (kind, 40 ∷ (42 ∷ [])) refl c)
