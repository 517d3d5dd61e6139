-- A text behind a `(*` closes one comment and no other, or none.
use Rattle.std.proofs.Common.{◌≡◌, ℕ, zero, suc, ◌≤◌, ◌<◌, List, [], ◌∷◌, length, refl, sym, ap}
use Rattle.std.proofs.Common.{ap₂, subst, ◌⊎◌, inl, inr, ⊎_elim, arith}
use Rattle.std.proofs.lemmas.Bool.{cases_eq}
use Rattle.ob_syntax.specs.Tokens.{Begins, Comment, comment_end, byte, inner, comment_text}
use Rattle.ob_syntax.specs.Tokens.{IsComment, NeverCloses}
use Rattle.ob_syntax.proofs.LongestSpellings.{heads, tails}

-- `(` is not `*`
pub differ : (us vs : List ℕ) → 40 ∷ us ≡ 42 ∷ vs → ⊥
differ us vs e = let is : ◌≡◌ {A = ℕ} 40 42 = heads 40 42 us vs e in omega arith

-- two bytes stand in front of a text or they do not
pub cases_begins : (a b : ℕ) (text : List ℕ) → Begins (a ∷ (b ∷ [])) text ⊎
    (Begins (a ∷ (b ∷ [])) text → ⊥)
cases_begins a b [] = inr (λ h. let e = h.1 in cc)
cases_begins a b (x ∷ []) = inr (λ h. let e = h.1 in cc)
cases_begins a b (x ∷ (y ∷ text)) =
    ⊎_elim
    (λ (first : x ≡ a). ⊎_elim
    (λ (second : y ≡ b). inl (text, ap₂ (λ u v. u ∷ (v ∷ text)) first second))
    (λ (other : y ≡ b → ⊥). inr
    (λ h. other (heads y b text h.0 (tails x a (y ∷ text) (b ∷ h.0) h.1))))
    (cases_eq y b))
    (λ (other : x ≡ a → ⊥). inr (λ h. other (heads x a (y ∷ text) (b ∷ h.0) h.1)))
    (cases_eq x a)

-- a text begins with at most one comment's inside
pub one_comment : (c d : Comment) (u v : List ℕ) → IsComment c u → IsComment d v →
    comment_text c u ≡ comment_text d v → (c ≡ d) × (u ≡ v)
one_comment comment_end comment_end u v h i e =
    (refl, tails 41 41 u v (tails 42 42 (41 ∷ u) (41 ∷ v) e))
one_comment comment_end (byte b d) u v h i e = absurd (i.1 (u, sym e))
one_comment comment_end (inner d f) u v h i e =
    absurd (differ (42 ∷ comment_text d (comment_text f v)) (41 ∷ u) (sym e))
one_comment (byte b c) comment_end u v h i e = absurd (h.1 (v, e))
one_comment (byte b c) (byte b' d) u v h i e = let rest = one_comment c d u v h.2 i.2
    (tails b b' (comment_text c u) (comment_text d v) e) in
    (ap₂ byte (heads b b' (comment_text c u) (comment_text d v) e) rest.0, rest.1)
one_comment (byte b c) (inner d f) u v h i e = absurd (h.0 (comment_text d (comment_text f v), e))
one_comment (inner c g) comment_end u v h i e =
    absurd (differ (42 ∷ comment_text c (comment_text g u)) (41 ∷ v) e)
one_comment (inner c g) (byte b d) u v h i e =
    absurd (i.0 (comment_text c (comment_text g u), sym e))
one_comment (inner c g) (inner d f) u v h i e =
    let first = one_comment c d (comment_text g u) (comment_text f v) h.0 i.0
    (tails 42 42 (comment_text c (comment_text g u)) (comment_text d (comment_text f v))
    (tails 40 40 (42 ∷ comment_text c (comment_text g u))
    (42 ∷ comment_text d (comment_text f v)) e)) in
    let second = one_comment g f u v h.1 i.1 first.1 in
    (ap₂ inner first.0 second.0, second.1)

-- the text begins with a comment's inside
abbrev pub Closes : List ℕ → Type 0
Closes text = (c : Comment) × (rest : List ℕ) × IsComment c rest × (text ≡ comment_text c rest)

pub shorter_rest : (c : Comment) (rest : List ℕ) → length rest < length (comment_text c rest)
shorter_rest comment_end rest = omega arith
shorter_rest (byte b c) rest = let inside = shorter_rest c rest in omega arith
shorter_rest (inner c d) rest = let first = shorter_rest c (comment_text d rest) in let second =
    shorter_rest d rest in omega arith

-- at an inner `(*`
opening_never : (inside : List ℕ) → NeverCloses inside → NeverCloses (40 ∷ (42 ∷ inside))
opening_never inside never comment_end after i e = differ (42 ∷ inside) (41 ∷ after) e
opening_never inside never (byte b d) after i e = i.0 (inside, sym e)
opening_never inside never (inner d f) after i e = never d (comment_text f after) i.0
    (tails 42 42 inside (comment_text d (comment_text f after))
    (tails 40 40 (42 ∷ inside) (42 ∷ comment_text d (comment_text f after)) e))

opening_left : (c : Comment) (rest : List ℕ) → IsComment c rest → NeverCloses rest →
    NeverCloses (40 ∷ (42 ∷ comment_text c rest))
opening_left c rest h never comment_end after i e = differ (42 ∷ comment_text c rest) (41 ∷ after) e
opening_left c rest h never (byte b d) after i e = i.0 (comment_text c rest, sym e)
opening_left c rest h never (inner d f) after i e =
    let first = one_comment c d rest (comment_text f after) h i.0
    (tails 42 42 (comment_text c rest) (comment_text d (comment_text f after))
    (tails 40 40 (42 ∷ comment_text c rest) (42 ∷ comment_text d (comment_text f after)) e)) in
    never f after i.1 first.1

opening_closes : (c : Comment) (rest : List ℕ) → IsComment c rest → Closes rest →
    Closes (40 ∷ (42 ∷ comment_text c rest))
opening_closes c rest h (d, after, i, e) =
    (inner c d, after, (subst (IsComment c) e h, i), ap (λ u. 40 ∷ (42 ∷ comment_text c u)) e)

-- at another byte
passing_closes : (b : ℕ) (text : List ℕ) → (Begins (40 ∷ (42 ∷ [])) (b ∷ text) → ⊥) →
    (Begins (42 ∷ (41 ∷ [])) (b ∷ text) → ⊥) → Closes text → Closes (b ∷ text)
passing_closes b text no_open no_close (c, rest, h, e) = (
  byte b c,
  rest,
  (
    subst (λ u. Begins (40 ∷ (42 ∷ [])) (b ∷ u) → ⊥) e no_open,
    subst (λ u. Begins (42 ∷ (41 ∷ [])) (b ∷ u) → ⊥) e no_close,
    h,
  ),
  ap (λ u. b ∷ u) e,
)

passing_never : (b : ℕ) (text : List ℕ) → (Begins (40 ∷ (42 ∷ [])) (b ∷ text) → ⊥) →
    (Begins (42 ∷ (41 ∷ [])) (b ∷ text) → ⊥) → NeverCloses text → NeverCloses (b ∷ text)
passing_never b text no_open no_close never comment_end after i e = no_close (after, e)
passing_never b text no_open no_close never (byte b' c) after i e =
    never c after i.2 (tails b b' text (comment_text c after) e)
passing_never b text no_open no_close never (inner c d) after i e =
    no_open (comment_text c (comment_text d after), e)

empty_never : NeverCloses []
empty_never c rest h e = let shorter = shorter_rest c rest in let none : 0 ≡
    length (comment_text c rest) = ap length e in omega arith

-- a text closes a comment or it does not
cases_up_to : (n : ℕ) (text : List ℕ) → length text ≤ n → Closes text ⊎ NeverCloses text
cases_up_to n [] le = inr empty_never
cases_up_to zero (b ∷ text) le = absurd (omega arith)
cases_up_to (suc n) (b ∷ text) le =
    ⊎_elim
    (λ (shut : Begins (42 ∷ (41 ∷ [])) (b ∷ text)). inl (comment_end, shut.0, tt, shut.1))
    (λ (no_close : Begins (42 ∷ (41 ∷ [])) (b ∷ text) → ⊥).
    ⊎_elim
    (λ (opens : Begins (40 ∷ (42 ∷ [])) (b ∷ text)).
    let size : length (b ∷ text) ≡ length (40 ∷ (42 ∷ opens.0)) = ap length opens.1 in
    rw (opens.1)
    (⊎_elim
    (λ (first : Closes opens.0).
    let shorter = shorter_rest first.0 first.1 in
    let same_size : length opens.0 ≡ length (comment_text first.0 first.1) = ap length first.3 in
    rw (first.3)
    (⊎_elim
    (λ (second : Closes first.1). inl (opening_closes first.0 first.1 first.2 second))
    (λ (never : NeverCloses first.1). inr (opening_left first.0 first.1 first.2 never))
    (cases_up_to n first.1 (omega arith))))
    (λ (never : NeverCloses opens.0). inr (opening_never opens.0 never))
    (cases_up_to n opens.0 (omega arith))))
    (λ (no_open : Begins (40 ∷ (42 ∷ [])) (b ∷ text) → ⊥).
    ⊎_elim
    (λ (later : Closes text). inl (passing_closes b text no_open no_close later))
    (λ (never : NeverCloses text). inr (passing_never b text no_open no_close never))
    (cases_up_to n text (omega arith)))
    (cases_begins 40 42 (b ∷ text)))
    (cases_begins 42 41 (b ∷ text))

pub cases_closes : (text : List ℕ) → Closes text ⊎ NeverCloses text
cases_closes text = cases_up_to (length text) text (omega arith)
