-- A text is cut into pieces in one way, up to its end or its first fault.
use Rattle.std.proofs.Common.{◌≡◌, ℕ, ◌≤◌, ◌<◌, Bool, true, false, List, [], ◌∷◌, ◌++◌, length}
use Rattle.std.proofs.Common.{refl, sym, ap, ap₂, subst, subst₂, ◌∙◌, ◌⊎◌, inl, inr, ⊎_elim, arith}
use Rattle.std.proofs.Common.{Contains, pos}
use Rattle.std.specs.Char.{is_ascii_alphabetic, is_ascii_alphanumeric, is_ascii_digit}
use Rattle.std.specs.List.{list_all}
use Rattle.std.proofs.lemmas.Bool.{cases_Bool, cases_lt, both_ways, and_from, false≢true}
use Rattle.ob_syntax.specs.declared.token.Kind.{Kind}
use Rattle.ob_syntax.specs.declared.token.Kind.TheVariants.{Ident, Number, LeftParen}
use Rattle.ob_syntax.specs.Tokens.{is_name, is_integer, is_space, fixed, greatest_integer}
use Rattle.ob_syntax.specs.Tokens.{integer_value, IsSpelling, a_name, an_integer, a_fixed_one}
use Rattle.ob_syntax.specs.Tokens.{Spells, identifier, number, fixed_token, IsLongest, Begins}
use Rattle.ob_syntax.specs.Tokens.{comment_text, Piece, space, comment, token, piece_text, IsPiece}
use Rattle.ob_syntax.specs.Tokens.{Fault, number_too_large, open_comment, bad_byte, BeginsFault}
use Rattle.ob_syntax.specs.Tokens.{NeverCloses}
use Rattle.ob_syntax.proofs.LongestSpellings.{heads, tails, front, spelling_no_space, mark_from}
use Rattle.ob_syntax.proofs.LongestSpellings.{mark_no_space, paren_fixed, no_opening_fixed}
use Rattle.ob_syntax.proofs.LongestSpellings.{front_name, front_integer, front_symbol, is_mark}
use Rattle.ob_syntax.proofs.LongestSpellings.{is_symbol, letter_no_digit, mark_no_digit}
use Rattle.ob_syntax.proofs.LongestSpellings.{cases_fixed, cases_in_fixed, one_fixed, longest_name}
use Rattle.ob_syntax.proofs.LongestSpellings.{longest_integer, longest_pair, longest_single}
use Rattle.ob_syntax.proofs.LongestSpellings.{no_spelling, NoPair}
use Rattle.ob_syntax.proofs.Comments.{one_comment, cases_begins, cases_closes, Closes}

-- a word spells one kind of token
no_name_and_integer : (w : List ℕ) → is_name w ≡ true → is_integer w ≡ true → ⊥
no_name_and_integer w h i = letter_no_digit (w ++ []) (front_name w [] h) (front_integer w [] i)

fixed_no_integer : (kind : Kind) (w : List ℕ) → Contains fixed (kind, w) → is_integer w ≡ true → ⊥
fixed_no_integer kind w c i =
    ⊎_elim
    (λ (keyword : is_name w ≡ true). no_name_and_integer w keyword i)
    (λ (symbol : is_symbol w ≡ true). mark_no_digit (w ++ []) (front_symbol w [] symbol)
    (front_integer w [] i))
    (cases_fixed kind w c)

pub one_kind : (w : List ℕ) (k l : Kind) → Spells k w → Spells l w → k ≡ l
one_kind w k l (identifier _ _ e) (identifier _ _ f) = e ∙ sym f
one_kind w k l (identifier h _ _) (number i _ _) = absurd (no_name_and_integer w h i)
one_kind w k l (identifier _ none _) (fixed_token c) = absurd (none l c)
one_kind w k l (number i _ _) (identifier h _ _) = absurd (no_name_and_integer w h i)
one_kind w k l (number _ _ e) (number _ _ f) = e ∙ sym f
one_kind w k l (number i _ _) (fixed_token c) = absurd (fixed_no_integer l w c i)
one_kind w k l (fixed_token c) (identifier _ none _) = absurd (none k c)
one_kind w k l (fixed_token c) (number i _ _) = absurd (fixed_no_integer k w c i)
one_kind w k l (fixed_token c) (fixed_token d) = one_fixed w k l c d

pub spelling_of : (k : Kind) (w : List ℕ) → Spells k w → IsSpelling w
spelling_of k w (identifier h _ _) = a_name h
spelling_of k w (number i _ _) = an_integer i
spelling_of k w (fixed_token c) = a_fixed_one k c

-- a spelling is not empty
pub spelling_some : (w : List ℕ) → IsSpelling w → 0 < length w
spelling_some [] (a_name h) = absurd (false≢true h)
spelling_some [] (an_integer h) = absurd (false≢true h)
spelling_some [] (a_fixed_one kind c) =
    absurd (⊎_elim (λ (h : is_name [] ≡ true). false≢true h)
    (λ (h : is_symbol [] ≡ true). false≢true h) (cases_fixed kind [] c))
spelling_some (b ∷ w) s = omega arith

-- equal texts cut at the same length have equal parts
same_cut : (v w t u : List ℕ) → length v ≡ length w → v ++ t ≡ w ++ u → (v ≡ w) × (t ≡ u)
same_cut [] [] t u h e = (refl, e)
same_cut [] (c ∷ w) t u h e = absurd (omega arith)
same_cut (b ∷ v) [] t u h e = absurd (omega arith)
same_cut (b ∷ v) (c ∷ w) t u h e = let parts = same_cut v w t u (omega arith)
    (tails b c (v ++ t) (w ++ u) e) in
    (ap₂ (λ x xs. x ∷ xs) (heads b c (v ++ t) (w ++ u) e) parts.0, parts.1)

-- two longest spellings at one place are the same
pub one_word : (v w t u : List ℕ) → IsSpelling v → IsSpelling w → IsLongest v t → IsLongest w u →
    v ++ t ≡ w ++ u → (v ≡ w) × (t ≡ u)
one_word v w t u s s' l l' e = let one = l w u s' e in let other = l' v t s (sym e) in
    same_cut v w t u (omega arith) e

-- a token's spelling is no comment's beginning, and no space
token_front : (k : Kind) (w rest : List ℕ) (b : ℕ) (text : List ℕ) → Spells k w → b ∷ text ≡ w
    ++ rest → is_space b ≡ true → ⊥
token_front k w rest b text s e h =
    both_ways (is_space b) (ap (front is_space) e ∙ spelling_no_space w rest (spelling_of k w s)) h

-- a text begins with at most one piece
pub one_piece : (p q : Piece) (t u : List ℕ) → IsPiece p t → IsPiece q u → piece_text p t ≡
    piece_text q u → (p ≡ q) × (t ≡ u)
one_piece (space b) (space c) t u h i e = (ap space (heads b c t u e), tails b c t u e)
one_piece (space b) (comment c) t u h i e =
    absurd (false≢true (ap is_space (sym (heads b 40 t (42 ∷ comment_text c u) e)) ∙ h))
one_piece (space b) (token k w) t u h i e = absurd (token_front k w u b t i.0 e h)
one_piece (comment c) (space b) t u h i e =
    absurd (false≢true (ap is_space (heads 40 b (42 ∷ comment_text c t) u e) ∙ i))
one_piece (comment c) (comment d) t u h i e =
    let one = one_comment c d t u h i
    (tails 42 42 (comment_text c t) (comment_text d u)
    (tails 40 40 (42 ∷ comment_text c t) (42 ∷ comment_text d u) e)) in
    (ap comment one.0, one.1)
one_piece (comment c) (token k w) t u h i e = absurd (i.2 (comment_text c t, sym e))
one_piece (token k w) (space b) t u h i e = absurd (token_front k w t b u h.0 (sym e) i)
one_piece (token k w) (comment c) t u h i e = absurd (h.2 (comment_text c u, e))
one_piece (token k w) (token l v) t u h i e =
    let one = one_word w v t u (spelling_of k w h.0) (spelling_of l v i.0) h.1 i.1 e in
    (ap₂ token (one_kind w k l h.0 (subst (Spells l) (sym one.0) i.0)) one.0, one.1)

-- an integer above the greatest is no token
too_large_no_token : (k : Kind) (w : List ℕ) → is_integer w ≡ true → greatest_integer <
    integer_value w → Spells k w → ⊥
too_large_no_token k w i large (identifier h _ _) = no_name_and_integer w h i
too_large_no_token k w i large (number _ small _) = omega arith
too_large_no_token k w i large (fixed_token c) = fixed_no_integer k w c i

-- a text begins with no piece and a fault too
pub no_piece_at_fault : (p : Piece) (f : Fault) (t text : List ℕ) → IsPiece p t →
    BeginsFault f text → text ≡ piece_text p t → ⊥
no_piece_at_fault (space b) number_too_large t text h i e =
    both_ways (is_space b) (ap (front is_space) (sym e ∙ i.2) ∙ spelling_no_space i.0 i.1
    (an_integer i.3)) h
no_piece_at_fault (space b) open_comment t text h i e =
    false≢true (ap is_space (heads 40 b (42 ∷ i.0) t (sym i.1 ∙ e)) ∙ h)
no_piece_at_fault (space b) bad_byte t text h i e =
    i.3 (ap is_space (heads i.0 b i.1 t (sym i.2 ∙ e)) ∙ h)
no_piece_at_fault (comment c) number_too_large t text h i e =
    false≢true (ap (front is_ascii_digit) (sym e ∙ i.2) ∙ front_integer i.0 i.1 i.3)
no_piece_at_fault (comment c) open_comment t text h i e =
    i.2 c t h (tails 42 42 i.0 (comment_text c t)
    (tails 40 40 (42 ∷ i.0) (42 ∷ comment_text c t) (sym i.1 ∙ e)))
no_piece_at_fault (comment c) bad_byte t text h i e = i.4 (comment_text c t, e)
no_piece_at_fault (token k w) number_too_large t text h i e =
    let one = one_word w i.0 t i.1 (spelling_of k w h.0) (an_integer i.3) h.1 i.4 (sym e ∙ i.2) in
    too_large_no_token k i.0 i.3 i.5 (subst (Spells k) one.0 h.0)
no_piece_at_fault (token k w) open_comment t text h i e = h.2 (i.0, sym e ∙ i.1)
no_piece_at_fault (token k w) bad_byte t text h i e = i.5 w t (spelling_of k w h.0) e

-- a text begins with at most one fault
pub one_fault : (f g : Fault) (text : List ℕ) → BeginsFault f text → BeginsFault g text → f ≡ g
one_fault number_too_large number_too_large text h i = refl
one_fault number_too_large open_comment text h i =
    absurd (false≢true (ap (front is_ascii_digit) (sym i.1 ∙ h.2) ∙ front_integer h.0 h.1 h.3))
one_fault number_too_large bad_byte text h i = absurd (i.5 h.0 h.1 (an_integer h.3) h.2)
one_fault open_comment number_too_large text h i =
    absurd (false≢true (ap (front is_ascii_digit) (sym h.1 ∙ i.2) ∙ front_integer i.0 i.1 i.3))
one_fault open_comment open_comment text h i = refl
one_fault open_comment bad_byte text h i = absurd (i.4 (h.0, h.1))
one_fault bad_byte number_too_large text h i = absurd (h.5 i.0 i.1 (an_integer i.3) i.2)
one_fault bad_byte open_comment text h i = absurd (h.4 (i.0, i.1))
one_fault bad_byte bad_byte text h i = refl

-- what stands in front, told by the bytes: these are the cases of a scanner
letter_no_opening : (text : List ℕ) → front is_ascii_alphabetic text ≡ true →
    Begins (40 ∷ (42 ∷ [])) text → ⊥
letter_no_opening text h i = false≢true (ap (front is_ascii_alphabetic) (sym i.1) ∙ h)

digit_no_opening : (text : List ℕ) → front is_ascii_digit text ≡ true →
    Begins (40 ∷ (42 ∷ [])) text → ⊥
digit_no_opening text h i = false≢true (ap (front is_ascii_digit) (sym i.1) ∙ h)

pub keyword_piece : (kind : Kind) (w rest : List ℕ) → is_name w ≡ true →
    front is_ascii_alphanumeric rest ≡ false → Contains fixed (kind, w) →
    IsPiece (token kind w) rest
keyword_piece kind w rest h ends c =
    (fixed_token c, longest_name w rest h ends, letter_no_opening (w ++ rest) (front_name w rest h))

pub identifier_piece : (w rest : List ℕ) → is_name w ≡ true → front is_ascii_alphanumeric rest ≡
    false → ((keyword : Kind) → Contains fixed (keyword, w) → ⊥) → IsPiece (token Ident w) rest
identifier_piece w rest h ends none = (
  identifier h none refl,
  longest_name w rest h ends,
  letter_no_opening (w ++ rest)
      (front_name w rest h),
)

pub number_piece : (w rest : List ℕ) → is_integer w ≡ true → front is_ascii_digit rest ≡ false →
    integer_value w ≤ greatest_integer → IsPiece (token (Number (pos (integer_value w))) w) rest
number_piece w rest h ends small = (
  number h small refl,
  longest_integer w rest h ends,
  digit_no_opening (w ++ rest)
      (front_integer w rest h),
)

pub number_fault : (w rest : List ℕ) → is_integer w ≡ true → front is_ascii_digit rest ≡ false →
    greatest_integer < integer_value w → BeginsFault number_too_large (w ++ rest)
number_fault w rest h ends large = (w, rest, refl, h, longest_integer w rest h ends, large)

pub pair_piece : (kind : Kind) (b c : ℕ) (rest : List ℕ) → is_mark b ≡ true →
    Contains fixed (kind, b ∷ (c ∷ [])) → IsPiece (token kind (b ∷ (c ∷ []))) rest
pair_piece kind b c rest h i = (
  fixed_token i,
  longest_pair b c rest h,
  λ o. no_opening_fixed kind (let first : b ≡ 40 = heads b 40 (c ∷ rest) (42 ∷ o.0) o.1 in
      let second : c ≡ 42 = heads c 42 rest o.0 (tails b 40 (c ∷ rest) (42 ∷ o.0) o.1) in
      subst₂ (λ x y. Contains fixed (kind, x ∷ (y ∷ []))) first second i),
)

pub single_piece : (kind : Kind) (b : ℕ) (rest : List ℕ) → is_mark b ≡ true → NoPair (b ∷ rest) →
    (Begins (40 ∷ (42 ∷ [])) (b ∷ rest) → ⊥) → Contains fixed (kind, b ∷ []) →
    IsPiece (token kind (b ∷ [])) rest
single_piece kind b rest h none no_opening i =
    (fixed_token i, longest_single b rest h none, no_opening)

pub byte_fault : (b : ℕ) (rest : List ℕ) → is_mark b ≡ true → NoPair (b ∷ rest) →
    ((kind : Kind) → Contains fixed (kind, b ∷ []) → ⊥) → BeginsFault bad_byte (b ∷ rest)
byte_fault b rest h none alone = (
  b,
  rest,
  refl,
  λ s. both_ways (is_space b) (mark_no_space (b ∷ rest) h) s,
  λ o. let is : b ≡ 40 = heads b 40 rest (42 ∷ o.0) o.1 in
      alone LeftParen (subst (λ x. Contains fixed (LeftParen, x ∷ [])) (sym is) paren_fixed),
  no_spelling b rest h none alone,
)

-- a text begins with a piece
abbrev pub HasPiece : List ℕ → Type 0
HasPiece text = (p : Piece) × (rest : List ℕ) × IsPiece p rest × (text ≡ piece_text p rest)

-- it is over, or begins with a fault
abbrev pub Stops : List ℕ → Type 0
Stops text = (text ≡ []) ⊎ ((f : Fault) × BeginsFault f text)

-- the longest front whose bytes pass a test
split_run : (p : ℕ → Bool) (text : List ℕ) → (w : List ℕ) × (rest : List ℕ) × (text ≡ w ++ rest) ×
    (list_all p w ≡ true) × (front p rest ≡ false)
split_run p [] = ([], [], refl, refl, refl)
split_run p (b ∷ text) =
    ⊎_elim
    (λ (pass : p b ≡ true). let s = split_run p text in
    (b ∷ s.0, s.1, ap (λ u. b ∷ u) s.2, and_from (p b) (list_all p s.0) pass s.3, s.4))
    (λ (fail : p b ≡ false). ([], b ∷ text, refl, refl, fail))
    (cases_Bool (p b))

name_next : (b : ℕ) (text : List ℕ) → is_ascii_alphabetic b ≡ true → HasPiece (b ∷ text)
name_next b text h =
    let s = split_run is_ascii_alphanumeric text in
    let w = b ∷ s.0 in
    let is = and_from (is_ascii_alphabetic b) (list_all is_ascii_alphanumeric s.0) h s.3 in
    ⊎_elim
    (λ (f : (kind : Kind) × Contains fixed (kind, w)).
    (token f.0 w, s.1, keyword_piece f.0 w s.1 is s.4 f.1, ap (λ u. b ∷ u) s.2))
    (λ (none : (kind : Kind) → Contains fixed (kind, w) → ⊥).
    (token Ident w, s.1, identifier_piece w s.1 is s.4 none, ap (λ u. b ∷ u) s.2))
    (cases_in_fixed w)

number_next : (b : ℕ) (text : List ℕ) → is_ascii_digit b ≡ true → HasPiece (b ∷ text) ⊎
    Stops (b ∷ text)
number_next b text h =
    let s = split_run is_ascii_digit text in
    let w = b ∷ s.0 in
    let is : is_integer w ≡ true = and_from (is_ascii_digit b) (list_all is_ascii_digit s.0) h
    s.3 in
    let same : b ∷ text ≡ w ++ s.1 = ap (λ u. b ∷ u) s.2 in
    ⊎_elim
    (λ (large : greatest_integer < integer_value w). inr
    (inr (
      number_too_large,
      subst (BeginsFault number_too_large) (sym same)
          (number_fault w s.1 is s.4 large),
    )))
    (λ (small : integer_value w ≤ greatest_integer). inl
    (token (Number (pos (integer_value w))) w, s.1, number_piece w s.1 is s.4 small, same))
    (cases_lt greatest_integer (integer_value w))

-- the pair in front is a symbol or it is not
cases_pair : (text : List ℕ) →
    ((kind : Kind) × (b c : ℕ) × (rest : List ℕ) × (text ≡ b ∷ (c ∷ rest)) ×
    Contains fixed (kind, b ∷ (c ∷ []))) ⊎ NoPair text
cases_pair [] = inr (λ kind b c after e. cc)
cases_pair (b ∷ []) = inr (λ kind x y after e. cc)
cases_pair (b ∷ (c ∷ rest)) =
    ⊎_elim
    (λ (f : (kind : Kind) × Contains fixed (kind, b ∷ (c ∷ []))). inl (f.0, b, c, rest, refl, f.1))
    (λ (none : (kind : Kind) → Contains fixed (kind, b ∷ (c ∷ [])) → ⊥). inr (λ kind x y after e i.
    let first : b ≡ x = heads b x (c ∷ rest) (y ∷ after) e in
    let second : c ≡ y = heads c y rest after (tails b x (c ∷ rest) (y ∷ after) e) in
    none kind (subst₂ (λ u v. Contains fixed (kind, u ∷ (v ∷ []))) (sym first) (sym second) i)))
    (cases_in_fixed (b ∷ (c ∷ [])))

mark_next : (b : ℕ) (rest : List ℕ) → is_mark b ≡ true → (Begins (40 ∷ (42 ∷ [])) (b ∷ rest) → ⊥) →
    HasPiece (b ∷ rest) ⊎ Stops (b ∷ rest)
mark_next b rest h no_opening =
    ⊎_elim
    (λ (f : (kind : Kind) × (x y : ℕ) × (after : List ℕ) × (b ∷ rest ≡ x ∷ (y ∷ after)) ×
    Contains fixed (kind, x ∷ (y ∷ []))).
    let mark : is_mark f.1 ≡ true = ap is_mark (sym (heads b f.1 rest (f.2 ∷ f.3) f.4)) ∙ h in
    inl (token f.0 (f.1 ∷ (f.2 ∷ [])), f.3, pair_piece f.0 f.1 f.2 f.3 mark f.5, f.4))
    (λ (none : NoPair (b ∷ rest)).
    ⊎_elim
    (λ (f : (kind : Kind) × Contains fixed (kind, b ∷ [])). inl
    (token f.0 (b ∷ []), rest, single_piece f.0 b rest h none no_opening f.1, refl))
    (λ (alone : (kind : Kind) → Contains fixed (kind, b ∷ []) → ⊥). inr
    (inr (bad_byte, byte_fault b rest h none alone)))
    (cases_in_fixed (b ∷ [])))
    (cases_pair (b ∷ rest))

comment_next : (text inside : List ℕ) → text ≡ 40 ∷ (42 ∷ inside) → HasPiece text ⊎ Stops text
comment_next text inside e =
    ⊎_elim
    (λ (closes : Closes inside). inl
    (comment closes.0, closes.1, closes.2, e ∙ ap (λ u. 40 ∷ (42 ∷ u)) closes.3))
    (λ (never : NeverCloses inside). inr (inr (open_comment, (inside, e, never))))
    (cases_closes inside)

-- a text begins with a piece, or it is over or begins with a fault
pub next : (text : List ℕ) → HasPiece text ⊎ Stops text
next [] = inr (inl refl)
next (b ∷ rest) =
    ⊎_elim
    (λ (is : is_space b ≡ true). inl (space b, rest, is, refl))
    (λ (no_space : is_space b ≡ false).
    ⊎_elim
    (λ (letter : is_ascii_alphabetic b ≡ true). inl (name_next b rest letter))
    (λ (no_letter : is_ascii_alphabetic b ≡ false).
    ⊎_elim
    (λ (digit : is_ascii_digit b ≡ true). number_next b rest digit)
    (λ (no_digit : is_ascii_digit b ≡ false).
    ⊎_elim
    (λ (opening : Begins (40 ∷ (42 ∷ [])) (b ∷ rest)). comment_next (b ∷ rest) opening.0 opening.1)
    (λ (no_opening : Begins (40 ∷ (42 ∷ [])) (b ∷ rest) → ⊥). mark_next b rest
    (mark_from b no_letter no_digit no_space) no_opening)
    (cases_begins 40 42 (b ∷ rest)))
    (cases_Bool (is_ascii_digit b)))
    (cases_Bool (is_ascii_alphabetic b)))
    (cases_Bool (is_space b))
