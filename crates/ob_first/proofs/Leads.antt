-- What is told of a reading is the least of what is broken in it: how readings that follow one
-- another keep this.
use Rattle.std.proofs.Common.{◌≡◌, ℕ, ◌<◌, ◌≤◌, ◌⊎◌, inl, inr, List, [], ◌∷◌, Option, Some, None}
use Rattle.std.proofs.Common.{refl, ap, sym, ◌∙◌, subst, arith}
use Rattle.std.specs.Prelude.{Ok, Err}
use Rattle.ob_syntax.specs.Names.{Fault, Judged}
use Rattle.ob_first.specs.Faults.{Fails, BothFail, Behind}
use Rattle.pra_list.specs.Results.{◌>>=◌}

-- the broken rule that a reading tells
abbrev pub told : {A : Type 0} → Judged A → Option Fault
told (Ok x) = None
told (Err f) = Some f

-- g stands at an earlier token than f, or at the same with a smaller number or the same
abbrev pub Precedes : Fault → Fault → Type 0
Precedes g f = (g.1 < f.1) ⊎ ((g.1 ≡ f.1) × (g.0 ≤ f.0))

-- what is told comes before f; where nothing is told, there is no f
abbrev pub First : Option Fault → Fault → Type 0
First None f = ⊥
First (Some g) f = Precedes g f

-- the token of f is one of i up to j
abbrev pub Lies : ℕ → ℕ → Fault → Type 0
Lies i j f = (i ≤ f.1) × (f.1 < j)

-- What is told is broken, and is the first of all that is; and it lies from token i up to j.
pub record Leads (i j : ℕ) (t : Option Fault) (B : Fault → Type 0) : Type 0 where
  pub tells : (f : Fault) → t ≡ Some f → B f
  pub first : (f : Fault) → B f → First t f
  pub lies : (f : Fault) → B f → Lies i j f

-- ---- readings and what they tell

pub told_err : {A : Type 0} (r : Judged A) (f : Fault) → told r ≡ Some f → r ≡ Err f
told_err (Ok x) f e = cc
told_err (Err g) f e = cc

pub err_told : {A : Type 0} (r : Judged A) (f : Fault) → r ≡ Err f → told r ≡ Some f
err_told (Ok x) f e = cc
err_told (Err g) f e = cc

pub itself : (f : Fault) → Precedes f f
itself f = inr (refl, omega arith)

pub err_first : {A : Type 0} (r : Judged A) (f : Fault) → r ≡ Err f → First (told r) f
err_first r f e = subst (λ t. First t f) (sym (err_told r f e)) (itself f)

pub same_value : {A : Type 0} (r : Judged A) (x y : A) → r ≡ Ok x → r ≡ Ok y → x ≡ y
same_value r x y e e' = cc

-- ---- the same of other words

pub alike : {i j : ℕ} {t u : Option Fault} {B C : Fault → Type 0} → Leads i j t B → t ≡ u →
    ((f : Fault) → B f → C f) → ((f : Fault) → C f → B f) → Leads i j u C
alike h e to from = record {
  tells = λ f told_f. to f (h.tells f (e ∙ told_f));
  first = λ f c. subst (λ x. First x f) e (h.first f (from f c));
  lies = λ f c. h.lies f (from f c);
}

-- another reading of which the same is told
pub retold : {i j : ℕ} {t u : Option Fault} {B : Fault → Type 0} → Leads i j t B → t ≡ u →
    Leads i j u B
retold h e = alike h e (λ f b. b) (λ f b. b)

pub wide : {i j i' j' : ℕ} {t : Option Fault} {B : Fault → Type 0} → i' ≤ i → j ≤ j' →
    Leads i j t B → Leads i' j' t B
wide low high h = record {
  tells = h.tells;
  first = h.first;
  lies = λ f b. let at = h.lies f b in (omega (arith, at.0), omega (arith, at.1));
}

pub nothing : {i j : ℕ} → Leads i j None (λ f. ⊥)
nothing = record { tells = λ f e. cc; first = λ f b. b; lies = λ f b. absurd b }

-- ---- one reading behind another

pub after : {A B : Type 0} {i k j : ℕ} (a : Judged A) (g : A → Judged B) {P Q : Fault → Type 0} →
    Leads i k (told a) P
    → ((x : A) → a ≡ Ok x → Leads k j (told (g x)) Q) → ((f : Fault) → Q f → Lies k j f) → i ≤ k →
    k ≤ j
    → Leads i j (told (a >>= g)) (λ f. P f ⊎ Q f)
after (Ok x) g front back lies low high = record {
  tells = λ f e. inr ((back x refl).tells f e);
  first = λ f. elim [ inl p ↦ absurd (front.first f p) | inr q ↦ (back x refl).first f q ];
  lies = λ f. elim [
    | inl p ↦ absurd (front.first f p)
    | inr q ↦ let at = lies f q in
        (omega (arith, at.0), at.1)
  ];
}
after (Err h) g front back lies low high = record {
  tells = λ f e. inl (front.tells f e);
  first = λ f. elim [
    | inl p ↦ front.first f p
    | inr q ↦ let at =
        front.lies h (front.tells h refl) in let at' = lies f q in inl (omega (arith, at.1, at'.0))
  ];
  lies = λ f. elim [
    | inl p ↦ let at = front.lies f p in (at.0, omega (arith, at.1))
    | inr q ↦ let at = lies f q in (omega (arith, at.0), at.1)
  ];
}

-- a phrase with the test of it
pub tested : {A B : Type 0} {i j : ℕ} (a : Judged A) (t : A → Judged B) {P : Fault → Type 0} →
    Leads i j (told a) P
    → ((x : A) (f : Fault) → t x ≡ Err f → Lies i j f) →
    Leads i j (told (a >>= t)) (λ f. P f ⊎ Fails a t f)
tested (Ok x) t front at = record {
  tells = λ f e. inr (x, refl, told_err (t x) f e);
  first = λ f. elim [
    | inl p ↦ absurd (front.first f p)
    | inr (y, is, fails) ↦
        err_first (t x) f (ap t (same_value (Ok x) x y refl is) ∙ fails)
  ];
  lies = λ f. elim [ inl p ↦ front.lies f p | inr (y, is, fails) ↦ at y f fails ];
}
tested (Err h) t front at = record {
  tells = λ f e. inl (front.tells f e);
  first = λ f. elim [ inl p ↦ front.first f p | inr (y, is, fails) ↦ absurd (cc) ];
  lies = λ f. elim [ inl p ↦ front.lies f p | inr (y, is, fails) ↦ at y f fails ];
}

-- two phrases that are read apart and then tested together, at a token of the second
pub both_tested : {A B C : Type 0} {i k j : ℕ} (a : Judged A) (b : Judged B) (t : A → B → Judged C)
    {P Q : Fault → Type 0} → Leads i k (told a) P → Leads k j (told b) Q → i ≤ k → k ≤ j
    → ((x : A) (y : B) (f : Fault) → t x y ≡ Err f → Lies k j f) →
    Leads i j (told (a >>= λ x. b >>= λ y. t x y)) (λ f. P f ⊎ (Q f ⊎ BothFail a b t f))
both_tested {A} {B} {k = k} {j = j} a b t {P = P} {Q = Q} front back low high at =
    after a (λ x. b >>= λ y. t x y) front (λ x is. alike (tested b (t x) back (at x)) refl
    (λ f. elim [ inl q ↦ inl q | inr (y, is', fails) ↦ inr (x, y, is, is', fails) ])
    (λ f. elim [
      | inl q ↦ inl q
      | inr (x', y, is', is'', fails) ↦
          inr (y, is'', ap (λ z. t z y) (same_value a x x' is is') ∙ fails)
    ])) (λ f. elim [ inl q ↦ back.lies f q | inr (x, y, is, is', fails) ↦ at x y f fails ]) low high

-- ---- two readings whose values are joined

pub told_joined : {A B : Type 0} (b : Judged A) (h : A → B) → told (b >>= λ y. Ok (h y)) ≡ told b
told_joined (Ok y) h = refl
told_joined (Err f) h = refl

pub joined : {A B C : Type 0} {i k j : ℕ} (a : Judged A) (b : Judged B) (h : A → B → C)
    {P Q : Fault → Type 0} → Leads i k (told a) P → Leads k j (told b) Q → i ≤ k → k ≤ j
    → Leads i j (told (a >>= λ x. b >>= λ y. Ok (h x y))) (λ f. P f ⊎ Q f)
joined {k = k} {j = j} a b h {Q = Q} front back low high =
    after a (λ x. b >>= λ y. Ok (h x y)) front
    (λ x is. alike back (sym (told_joined b (h x))) (λ f q. q) (λ f q. q)) back.lies low
    high

-- ---- lists

-- the elements one behind another, from token i up to j
abbrev pub InOrder : {A : Type 0} → (A → ℕ → ℕ → Type 0) → ℕ → List A → ℕ → Type 0
InOrder P i [] j = i ≤ j
InOrder P i (x ∷ xs) j = (k : ℕ) × (l : ℕ) × (i ≤ k) × P x k l × InOrder P l xs j

-- ---- what one thing is

pub one_some : {A : Type 0} (o : Option A) (x y : A) → o ≡ Some x → o ≡ Some y → x ≡ y
one_some o x y e e' = cc

-- what came of a step came of a value
-- as `after`, where what breaks behind comes after what is told in front by other reasons
pub behind : {A B : Type 0} (i j : ℕ) (a : Judged A) (g : A → Judged B) (P Q : Fault → Type 0) →
    Leads i j (told a) P
    → ((x : A) → a ≡ Ok x → Leads i j (told (g x)) Q) → ((f : Fault) → Q f → Lies i j f) →
    ((h f : Fault) → a ≡ Err h → Q f → Precedes h f)
    → Leads i j (told (a >>= g)) (λ f. P f ⊎ Q f)
behind i j (Ok x) g P Q front back lies later = record {
  tells = λ f e. inr ((back x refl).tells f e);
  first = λ f. elim [ inl p ↦ absurd (front.first f p) | inr q ↦ (back x refl).first f q ];
  lies = λ f. elim [ inl p ↦ absurd (front.first f p) | inr q ↦ lies f q ];
}
behind i j (Err h) g P Q front back lies later = record {
  tells = λ f e. inl (front.tells f e);
  first = λ f. elim [ inl p ↦ front.first f p | inr q ↦ later h f refl q ];
  lies = λ f. elim [ inl p ↦ front.lies f p | inr q ↦ lies f q ];
}

pub ok_err : {A : Type 0} (r : Judged A) (x : A) (f : Fault) → r ≡ Ok x → r ≡ Err f → ⊥
ok_err (Ok y) x f e e' = absurd (cc)
ok_err (Err g) x f e e' = absurd (cc)

-- two readings that tell the same
pub as_told : {A B : Type 0} (r : Judged A) (q : Judged B) (f : Fault) → told r ≡ told q →
    r ≡ Err f → q ≡ Err f
as_told r q f e h = told_err q f (sym e ∙ err_told r f h)

-- what follows what has a reading
pub after_behind : {A B : Type 0} (i k j : ℕ) (a : Judged A) (g : A → Judged B) (P : Fault → Type 0)
    (C : A → Fault → Type 0) → Leads i k (told a) P → ((x : A) → Leads k j (told (g x)) (C x)) →
    i ≤ k → k ≤ j
    → Leads i j (told (a >>= g)) (λ f. P f ⊎ Behind a C f)
after_behind {A} i k j a g P C front back low high =
    after a g front (λ x is. alike (back x) refl (λ f b. (x, is, b))
    (λ f (y, is', b). subst (λ (z : A). C z f) (same_value a y x is' is) b))
    (λ f (x, is, b). (back x).lies f b) low high

-- what follows in a place that is known also where what makes it has no reading
pub after_place : {A B : Type 0} (i k j : ℕ) (a : Judged A) (g : A → Judged B) (P : Fault → Type 0)
    (C : A → Fault → Type 0) (place : A) → Leads i k (told a) P → ((x : A) → a ≡ Ok x → x ≡ place)
    → ((x : A) → Leads k j (told (g x)) (C x)) → i ≤ k → k ≤ j →
    Leads i j (told (a >>= g)) (λ f. P f ⊎ C place f)
after_place {A} i k j a g P C place front same back low high =
    after a g front (λ x is. subst (λ (z : A). Leads k j (told (g x)) (C z)) (same x is) (back x))
    (back place).lies low high
