-- Counting the comments that are open, in place of a recursion into them.
use Rattle.std.proofs.Common.{◌≡◌, ◌≢◌, ℕ, zero, suc, ◌+◌, ◌-◌, ◌<◌, ◌≤◌, List, [], ◌∷◌, length}
use Rattle.std.proofs.Common.{refl, sym, ap, subst, ◌∙◌, arith, add-one, take, drop, get_or}
use Rattle.std.proofs.Common.{take_all}
use Rattle.ob_syntax.specs.Tokens.{Comment, comment_end, byte, inner, comment_text, IsComment}
use Rattle.ob_syntax.specs.Tokens.{NeverCloses}
use Rattle.ob_syntax.proofs.LongestSpellings.{tails}
use Rattle.ob_syntax.proofs.Comments.{differ}
use Rattle.ob_lex.specs.Scanning.{ClosesBefore}

-- so many open comments end one after another in the text, before rest
abbrev pub AllClose : ℕ → List ℕ → List ℕ → Type 0
AllClose zero text rest = text ≡ rest
AllClose (suc d) text rest = (c : Comment) × (after : List ℕ) × IsComment c after ×
    (text ≡ comment_text c after) × AllClose d after rest

-- a `(*` in front: one more is open
opened : (d : ℕ) (text rest : List ℕ) → AllClose (suc (suc d)) text rest →
    AllClose (suc d) (40 ∷ (42 ∷ text)) rest
opened d text rest (c, after, h, e, (c', after', h', e', more)) = (
  inner c c',
  after',
  (subst (IsComment c) e' h, h'),
  ap (λ us. 40 ∷ (42 ∷ us)) (e ∙ ap (comment_text c) e'),
  more,
)

opened_back : (d : ℕ) (text rest : List ℕ) → AllClose (suc d) (40 ∷ (42 ∷ text)) rest →
    AllClose (suc (suc d)) text rest
opened_back d text rest (comment_end, after, h, e, more) =
    absurd (differ (42 ∷ text) (41 ∷ after) e)
opened_back d text rest (byte b c, after, h, e, more) = absurd (h.0 (text, sym e))
opened_back d text rest (inner c c', after, h, e, more) = (
  c,
  comment_text c' after,
  h.0,
  tails 42 42 text (comment_text c (comment_text c' after))
      (tails 40 40 (42 ∷ text) (42 ∷ comment_text c (comment_text c' after)) e),
  (c', after, h.1, refl, more),
)

-- a `*)` in front: one is closed
shut : (d : ℕ) (text rest : List ℕ) → AllClose d text rest →
    AllClose (suc d) (42 ∷ (41 ∷ text)) rest
shut d text rest h = (comment_end, text, tt, refl, h)

shut_back : (d : ℕ) (text rest : List ℕ) → AllClose (suc d) (42 ∷ (41 ∷ text)) rest →
    AllClose d text rest
shut_back d text rest (comment_end, after, h, e, more) = let is : text ≡ after =
    tails 41 41 text after (tails 42 42 (41 ∷ text) (41 ∷ after) e) in
    subst (λ us. AllClose d us rest) (sym is) more
shut_back d text rest (byte b c, after, h, e, more) = absurd (h.1 (text, sym e))
shut_back d text rest (inner c c', after, h, e, more) =
    absurd (differ (42 ∷ comment_text c (comment_text c' after)) (41 ∷ text) (sym e))

-- neither in front
module _ (b : ℕ) (text : List ℕ) (no_open : (after : List ℕ) → b ∷ text ≢ 40 ∷ (42 ∷ after))
    (no_close : (after : List ℕ) → b ∷ text ≢ 42 ∷ (41 ∷ after)) where
  passed : (d : ℕ) (rest : List ℕ) → AllClose (suc d) text rest → AllClose (suc d) (b ∷ text) rest
  passed d rest (c, after, h, e, more) = (
    byte b c,
    after,
    (
      (λ o. no_open o.0 (ap (λ us. b ∷ us) e ∙ o.1)),
      (λ o. no_close o.0 (ap (λ us. b ∷ us) e ∙ o.1)),
      h,
    ),
    ap (λ us. b ∷ us) e,
    more,
  )

  passed_back : (d : ℕ) (rest : List ℕ) → AllClose (suc d) (b ∷ text) rest →
      AllClose (suc d) text rest
  passed_back d rest (comment_end, after, h, e, more) = absurd (no_close after e)
  passed_back d rest (byte b' c, after, h, e, more) =
      (c, after, h.2, tails b b' text (comment_text c after) e, more)
  passed_back d rest (inner c c', after, h, e, more) =
      absurd (no_open (comment_text c (comment_text c' after)) e)

none_left : (d : ℕ) (rest : List ℕ) → AllClose (suc d) [] rest → ⊥
none_left d rest (comment_end, after, h, e, more) = cc
none_left d rest (_, after, h, e, more) = cc

-- the comment whose inside this is ends where the open ones end in the text
pub record Leads (inside : List ℕ) (open_ones : ℕ) (text : List ℕ) : Type 0 where
  pub forth : (rest : List ℕ) → AllClose open_ones text rest → AllClose 1 inside rest
  pub back : (rest : List ℕ) → AllClose 1 inside rest → AllClose open_ones text rest

pub starts : (inside : List ℕ) → Leads inside 1 inside
starts inside = record { forth = λ rest h. h; back = λ rest h. h }

pub opens : {inside text after : List ℕ} {d : ℕ} → 0 < d → Leads inside d text →
    text ≡ 40 ∷ (42 ∷ after) → Leads inside (d + 1) after
opens {d = zero} some h e = absurd (omega arith)
opens {inside} {after = after} {d = suc d} some h e =
    let l = subst (Leads inside (suc d)) e h in
    rw add-one (record {
      forth = λ rest more. l.forth rest (opened d after rest more);
      back = λ rest more. opened_back d after rest (l.back rest more);
    })

pub closes : {inside text after : List ℕ} {d : ℕ} → 0 < d → Leads inside d text →
    text ≡ 42 ∷ (41 ∷ after) → Leads inside (d - 1) after
closes {d = zero} some h e = absurd (omega arith)
closes {inside} {after = after} {d = suc d} some h e =
    let one_less : suc d - 1 ≡ d = omega arith in
    let l = subst (Leads inside (suc d)) e h in
    rw one_less (record {
      forth = λ rest more. l.forth rest (shut d after rest more);
      back = λ rest more. shut_back d after rest (l.back rest more);
    })

pub passes : {inside text after : List ℕ} {b d : ℕ} → 0 < d → Leads inside d text →
    text ≡ b ∷ after → ((more : List ℕ) → text ≢ 40 ∷ (42 ∷ more)) →
    ((more : List ℕ) → text ≢ 42 ∷ (41 ∷ more)) → Leads inside d after
passes {d = zero} some h e no_open no_close = absurd (omega arith)
passes {inside} {after = after} {b} {d = suc d} some h e no_open no_close =
    let l = subst (Leads inside (suc d)) e h in
    let o : (more : List ℕ) → b ∷ after ≢ 40 ∷ (42 ∷ more) = λ more i. no_open more (e ∙ i) in
    let s : (more : List ℕ) → b ∷ after ≢ 42 ∷ (41 ∷ more) = λ more i. no_close more (e ∙ i) in
    record {
      forth = λ rest more. l.forth rest (passed b after o s d rest more);
      back = λ rest more. passed_back b after o s d rest (l.back rest more);
    }

pub all_closed : {inside text : List ℕ} {d : ℕ} → d ≡ 0 → Leads inside d text →
    ClosesBefore inside text
all_closed {text = text} {d = zero} none h =
    let (c, after, i, e, same) = h.forth text refl in
    record {
      comment = c;
      is_comment = subst (IsComment c) same i;
      inside_is = e ∙ ap (comment_text c) same;
    }
all_closed {d = suc d} none h = absurd (omega arith)

pub never_closed : {inside text : List ℕ} {d : ℕ} → 0 < d → text ≡ [] → Leads inside d text →
    NeverCloses inside
never_closed {d = zero} some none h = absurd (omega arith)
never_closed {d = suc d} some none h = λ c rest i e. none_left d rest
    (subst (λ us. AllClose (suc d) us rest) none (h.back rest (c, rest, i, e, refl)))

-- a text's first byte, and the rest as a slice pattern takes it
pub first_and_rest : (text : List ℕ) → 1 ≤ length text → text ≡ get_or text 0 0 ∷ take
    (length text - 1) (drop 1 text)
first_and_rest [] some = absurd (omega arith)
first_and_rest (b ∷ text) some = let n : length (b ∷ text) - 1 ≡ length text = omega arith in
    ap (λ us. b ∷ us) (sym (ap (λ k. take k text) n ∙ take_all (length text) text (omega arith)))
