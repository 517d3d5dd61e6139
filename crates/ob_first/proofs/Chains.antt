-- Chains of operators.
use Rattle.std.proofs.Common.{◌≡◌, ℕ, ◌+◌, ◌<◌, ◌⊎◌, inl, inr, List, [], ◌∷◌, map, refl, ap, sym}
use Rattle.std.proofs.Common.{subst, arith}
use Rattle.std.specs.Prelude.{Ok, Err, nat_eq}
use Rattle.ob_syntax.specs.declared.checked.ROp.{ROp}
use Rattle.ob_syntax.specs.declared.checked.ROp.TheVariants as op
use Rattle.ob_syntax.specs.declared.checked.Typed.{Typed}
use Rattle.ob_syntax.specs.Expressions.{Phrase, Next, of_type, operand, binary, chained}
use Rattle.ob_syntax.specs.Names.{Fault, Judged, Place}
use Rattle.ob_first.specs.Faults.{Fails, AnyOf}
use Rattle.ob_first.specs.InExpressions.{ChainFails}
use Rattle.ob_first.proofs.Leads.{told, Leads, InOrder, alike, wide, tested, joined}
use Rattle.pra_list.proofs.Choices.{by_test}
use Rattle.pra_list.specs.Results.{◌>>=◌}

-- a phrase at tokens i up to j
pub record Stands (i j : ℕ) (e : Phrase) (B : Place → Fault → Type 0) : Type 0 where
  pub some : i < j
  pub last : e.last + 1 ≡ j
  pub leads : (p : Place) → Leads i j (told (e.judge p)) (B p)

pub of_type_at : (rule type_id token : ℕ) (e : Typed) (f : Fault) → of_type rule type_id token e ≡
    Err f → f.1 ≡ token
of_type_at rule type_id token e f h = by_test (nat_eq e.type_id type_id) (Ok e.expr)
    (Err (rule, token)) (Err f) (λ t is. cc) (λ t is. cc) h

pub operand_at : (o : ROp) (token : ℕ) (e : Typed) (f : Fault) → operand o token e ≡ Err f →
    f.1 ≡ token
operand_at op.Both token e f h = of_type_at 16 1 token e f h
operand_at op.Either token e f h = of_type_at 16 1 token e f h
operand_at _ token e f h = of_type_at 15 0 token e f h

pub regroup : {X Y Z W V R : Type 0} (a : Judged X) (f : X → Judged Y) (b : Judged Z)
    (g : Z → Judged W) (h : Y → W → V) (k : V → Judged R)
    → ((a >>= λ x. f x >>= λ l. b >>= λ y. g y >>= λ r. Ok (h l r)) >>= k) ≡
    (a >>= λ x. f x >>= λ l. b >>= λ y. g y >>= λ r. k (h l r))
regroup {X} {Y} {Z} {W} {V} {R} a f b g h k = first a
  where
    fourth : (l : Y) (d : Judged W) → ((d >>= λ r. Ok (h l r)) >>= k) ≡ (d >>= λ r. k (h l r))
    fourth l (Ok r) = refl
    fourth l (Err e) = refl

    third : (l : Y) (c : Judged Z) → ((c >>= λ y. g y >>= λ r. Ok (h l r)) >>= k) ≡
        (c >>= λ y. g y >>= λ r. k (h l r))
    third l (Ok y) = fourth l (g y)
    third l (Err e) = refl

    second : (c : Judged Y) → ((c >>= λ l. b >>= λ y. g y >>= λ r. Ok (h l r)) >>= k) ≡
        (c >>= λ l. b >>= λ y. g y >>= λ r. k (h l r))
    second (Ok l) = third l b
    second (Err e) = refl

    first : (c : Judged X) → ((c >>= λ x. f x >>= λ l. b >>= λ y. g y >>= λ r. Ok (h l r)) >>= k) ≡
        (c >>= λ x. f x >>= λ l. b >>= λ y. g y >>= λ r. k (h l r))
    first (Ok x) = second (f x)
    first (Err e) = refl

-- the same in two groups
pub in_two : {X Y Z W V : Type 0} (a : Judged X) (f : X → Judged Y) (b : Judged Z)
    (g : Z → Judged W) (h : Y → W → V)
    → ((a >>= f) >>= λ l. (b >>= g) >>= λ r. Ok (h l r)) ≡
    (a >>= λ x. f x >>= λ l. b >>= λ y. g y >>= λ r. Ok (h l r))
in_two {X} {Y} {Z} {W} {V} a f b g h = first a
  where
    third : (l : Y) (c : Judged Z) → ((c >>= g) >>= λ r. Ok (h l r)) ≡
        (c >>= λ y. g y >>= λ r. Ok (h l r))
    third l (Ok y) = refl
    third l (Err e) = refl

    second : (c : Judged Y) → (c >>= λ l. (b >>= g) >>= λ r. Ok (h l r)) ≡
        (c >>= λ l. b >>= λ y. g y >>= λ r. Ok (h l r))
    second (Ok l) = third l b
    second (Err e) = refl

    first : (c : Judged X) → ((c >>= f) >>= λ l. (b >>= g) >>= λ r. Ok (h l r)) ≡
        (c >>= λ x. f x >>= λ l. b >>= λ y. g y >>= λ r. Ok (h l r))
    first (Ok x) = second (f x)
    first (Err e) = refl

pub told_unit : {A : Type 0} (r : Judged A) → told (r >>= λ x. Ok x) ≡ told r
told_unit (Ok x) = refl
told_unit (Err f) = refl

module _ {A : Type 0} (p : Place) (item : A → Next) (B : Place → A → Fault → Type 0) where
  abbrev pub Item : A → ℕ → ℕ → Type 0
  Item x i j = Stands i j (item x).1 (λ q f. B q x f)

  -- a chain behind what is read so far, at whose last token its test as a left operand is told
  pub chain : (xs : List A) (i k j last : ℕ) (so_far : Judged Typed) (P : Fault → Type 0) →
      last + 1 ≡ k → i < k → Leads i k (told so_far) P → InOrder Item k xs j
      → Leads i j (told (so_far >>= λ e. chained p last e (map item xs)))
      (λ f. P f ⊎ (AnyOf (B p) xs f ⊎ ChainFails p last so_far (map item xs) f))
  chain [] i k j last so_far P end some h order =
      alike (wide (omega arith) order h) (sym (told_unit so_far)) (λ f q. inl q)
      (λ f. elim [ inl q ↦ q | inr (inl (x, no_, b)) ↦ absurd no_ | inr (inr no_) ↦ absurd no_ ])
  chain (x ∷ xs) i k j last so_far P end some h (k', l, at, one, order) =
      alike (chain xs i l j e.last more Q one.last (omega (arith, one.some)) whole order) (ap told
      (regroup so_far (operand o last) (e.judge p) (operand o e.last) (binary o)
      (λ t. chained p e.last t (map item xs))))
      (λ f. elim [
        | inl (inl (inl q)) ↦ inl q
        | inl (inl (inr q)) ↦ inr (inr (inl q))
        | inl (inr (inl q)) ↦ inr (inl (x, inl refl, q))
        | inl (inr (inr q)) ↦ inr (inr (inr (inl q)))
        | inr (inl (y, is, q)) ↦ inr (inl (y, inr is, q))
        | inr (inr q) ↦ inr (inr (inr (inr q)))
      ])
      (λ f. elim [
        | inl q ↦ inl (inl (inl q))
        | inr (inl (y, inl is, q)) ↦ inl (inr (inl (subst (λ z. B p z f) is q)))
        | inr (inl (y, inr is, q)) ↦ inr (inl (y, is, q))
        | inr (inr (inl q)) ↦ inl (inl (inr q))
        | inr (inr (inr (inl q))) ↦ inl (inr (inr q))
        | inr (inr (inr (inr q))) ↦ inr (inr q)
      ])
    where
      o : ROp
      o = (item x).0

      e : Phrase
      e = (item x).1

      more : Judged Typed
      more = so_far >>= λ t. chained p last t (item x ∷ [])

      Left : Fault → Type 0
      Left f = P f ⊎ Fails so_far (operand o last) f

      Right : Fault → Type 0
      Right f = B p x f ⊎ Fails (e.judge p) (operand o e.last) f

      Q : Fault → Type 0
      Q f = Left f ⊎ Right f

      left : Leads i k (told (so_far >>= operand o last)) Left
      left = tested so_far (operand o last) h
          (λ t f fails. let is = operand_at o last t f fails in
          (omega (arith, is), omega (arith, is)))

      right : Leads k l (told (e.judge p >>= operand o e.last)) Right
      right = tested (e.judge p) (operand o e.last)
          (wide at (omega arith) (one.leads p))
          (λ t f fails. let is = operand_at o e.last t f fails in let end = one.last in
          (omega (arith, is, one.some), omega (arith, is)))

      whole : Leads i l (told more) Q
      whole = alike (joined (so_far >>= operand o last) (e.judge p >>= operand o e.last) (binary o)
          left right (omega arith) (omega (arith, one.some)))
          (ap told (in_two so_far (operand o last) (e.judge p) (operand o e.last) (binary o)))
          (λ f q. q) (λ f q. q)
