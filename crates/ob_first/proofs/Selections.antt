-- Selectors, and names with their selectors.
use Rattle.std.proofs.Common.{◌≡◌, ℕ, ◌+◌, ◌<◌, ◌≤◌, ◌⊎◌, inl, inr, List, [], ◌∷◌, ◌++◌, map}
use Rattle.std.proofs.Common.{Option, Some, None, refl, ap, sym, subst, ◌∙◌, arith}
use Rattle.std.specs.Prelude.{Ok, Err, slice_get}
use Rattle.ob_syntax.specs.declared.checked.Meaning.{Meaning}
use Rattle.ob_syntax.specs.declared.checked.Meaning.TheVariants.{Constant, Variable}
use Rattle.ob_syntax.specs.declared.checked.RExpr.{RExpr}
use Rattle.ob_syntax.specs.declared.checked.RExpr.TheVariants as x
use Rattle.ob_syntax.specs.declared.checked.RStep.{RStep}
use Rattle.ob_syntax.specs.declared.checked.Shape.{Shape}
use Rattle.ob_syntax.specs.declared.checked.Shape.TheVariants.{Array, Record}
use Rattle.ob_syntax.specs.declared.checked.Typed.{Typed}
use Rattle.ob_syntax.specs.declared.tree.Expr.{Expr}
use Rattle.ob_syntax.specs.declared.tree.Selector.{Selector, out-Selector}
use Rattle.ob_syntax.specs.declared.tree.SelectorForm.{SelectorForm-F, out-SelectorForm}
use Rattle.ob_syntax.specs.Expressions.{Selected, integer, of_type, the_field, field_number, field}
use Rattle.ob_syntax.specs.Expressions.{element, selected, literal, designated, expression}
use Rattle.ob_syntax.specs.Expressions.{one_selector, variable, typed}
use Rattle.ob_syntax.specs.Names.{Fault, Judged, Place, used}
use Rattle.ob_first.specs.Faults.{Fails, AnyOf, NameFails}
use Rattle.ob_first.specs.InExpressions.{bare, SelectorFails, SelectorsFail, InExpression}
use Rattle.ob_first.specs.InExpressions.{InSelector, in_index, no_number}
use Rattle.ob_first.proofs.Leads.{told, Leads, Lies, InOrder, alike, wide, after, tested, told_err}
use Rattle.ob_first.proofs.Leads.{err_first, same_value, told_joined, nothing, retold}
use Rattle.ob_first.proofs.Chains.{Stands, of_type_at}
use Rattle.ob_first.proofs.UsedNames.{named}
use Rattle.pra_list.specs.Results.{◌>>=◌}

-- ---- where the tests of selectors are told

the_field_at : (k : ℕ) (types : List ℕ) (o : Option ℕ) (f : Fault) → the_field k types o ≡ Err f →
    f.1 ≡ k
the_field_at k types None f h = cc
the_field_at k types (Some n) f h = absurd (cc)

field_at : (p : Place) (k type_id : ℕ) (shape : Option Shape) (f : Fault) →
    field p k type_id shape ≡ Err f → f.1 ≡ k
field_at p k type_id (Some (Record types)) f h = the_field_at k types (field_number p k type_id) f h
field_at p k type_id _ f h = cc

element_at : (token : ℕ) (index : RExpr) (shape : Option Shape) (f : Fault) →
    element token index shape ≡ Err f → f.1 ≡ token
element_at token index (Some (Array count item)) f h = absurd (cc)
element_at token index _ f h = cc

-- ---- one selector

-- a selector at tokens i up to j
pub record SelectorAt (s : Selector) (i j : ℕ) : Type 0 where
  pub some : i ≤ j
  pub leads : (p : Place) (type_id : ℕ) → Leads i j (told (one_selector s p type_id))
      (λ f. InSelector p s f ⊎ SelectorFails p type_id s f)

-- a reading that tells at one token alone
pub alone : {A : Type 0} {i j : ℕ} (r : Judged A) → ((f : Fault) → r ≡ Err f → Lies i j f) →
    Leads i j (told r) (λ f. r ≡ Err f)
alone r at = record { tells = λ f e. told_err r f e; first = λ f e. err_first r f e; lies = at }

pub regrouped : {A B C : Type 0} (a : Judged A) (f : A → Judged B) (g : B → Judged C) →
    ((a >>= f) >>= g) ≡ (a >>= λ x. f x >>= g)
regrouped (Ok x) f g = refl
regrouped (Err e) f g = refl

pub field_selector : (s : Selector) (i j k : ℕ) → out-SelectorForm (out-Selector s).form ≡
    SelectorForm-F.Field k
    → ((p : Place) (type_id : ℕ) → one_selector s p type_id ≡ field p k type_id
    (slice_get p.types type_id)) → i ≤ k → k < j → SelectorAt s i j
field_selector s i j k form reads low high = record {
  some = omega arith;
  leads = λ p t. alike (alone (field p k t (slice_get p.types t)) (λ f h. let at = field_at p k t
      (slice_get p.types t) f h in (omega (arith, at), omega (arith, at))))
      (ap told (sym (reads p t))) (λ f h. inr (rw (form, SelectorFails) h))
      (λ f. elim [ inl b ↦ absurd (empty p f b) | inr h ↦ rw (form, SelectorFails) at h ]);
}
  where
    differ : (e : Expr) → out-SelectorForm (out-Selector s).form ≡ SelectorForm-F.Index e → ⊥
    differ e other = cc

    empty : (p : Place) (f : Fault) → InSelector p s f → ⊥
    empty p f (in_index _ _ e other b) = differ e other
    empty p f (no_number _ _ e other b) = differ e other

pub index_selector : (s : Selector) (i k l j last : ℕ) (e : Expr) →
    out-SelectorForm (out-Selector s).form ≡ SelectorForm-F.Index e → (out-Selector s).span.last ≡
    last
    → ((p : Place) (type_id : ℕ) → one_selector s p type_id ≡
    ((expression e).judge p >>= λ index. of_type 14 integer (expression e).last index >>=
    λ number. element last number (slice_get p.types type_id)))
    → Stands k l (expression e) (λ p f. InExpression p e f) → i ≤ k → l ≤ last → last < j →
    SelectorAt s i j
index_selector s i k l j last e form ends reads inner low mid high = record {
  some = let some = inner.some in omega arith;
  leads = λ p t.
      let own = λ (index : RExpr). element last index (slice_get p.types t) in
      let number = of_type 14 integer (expression e).last in
      let a = (expression e).judge p in
      alike (tested (a >>= number) own (tested a number (wide low (omega arith) (inner.leads p))
      (λ x f h. let at = of_type_at 14 integer (expression e).last x f h in let end = inner.last in
      let some = inner.some in (omega (arith, at, end, some), omega (arith, at, end, some))))
      (λ x f h. let at = element_at last x (slice_get p.types t) f h in let some = inner.some in
      (omega (arith, at, some), omega (arith, at))))
      (ap told (regrouped a number own ∙ sym (reads p t)))
      (λ f. elim [
        | inl (inl b) ↦ inl (in_index s f e form b)
        | inl (inr b) ↦
            inl (no_number s f e form b)
        | inr b ↦ inr (rw (form, SelectorFails) (rw ends b))
      ])
      (λ f. elim [
        | inl b ↦ inl (inside p f b)
        | inr b ↦
            inr (let h = rw (form, SelectorFails) at b in rw ends at h)
      ]);
}
  where
    same : (e' : Expr) → out-SelectorForm (out-Selector s).form ≡ SelectorForm-F.Index e' → e' ≡ e
    same e' other = cc

    inside : (p : Place) (f : Fault) → InSelector p s f → InExpression p e f ⊎
        Fails ((expression e).judge p) (of_type 14 integer (expression e).last) f
    inside p f (in_index _ _ e' other b) = inl (subst (λ x. InExpression p x f) (same e' other) b)
    inside p f (no_number _ _ e' other b) =
        inr (subst (λ x. Fails ((expression x).judge p) (of_type 14 integer (expression x).last) f)
        (same e' other) b)

-- ---- all selectors

pub ordered : (ss : List Selector) (l j : ℕ) → InOrder SelectorAt l ss j → l ≤ j
ordered [] l j h = h
ordered (x ∷ xs) l j (k, m, low, one, order) = let some = one.some in let rest =
    ordered xs m j order in omega arith

pub selectors_lead : (p : Place) (ss : List Selector) (i j : ℕ) → InOrder SelectorAt i ss j →
    (type_id : ℕ) (done : List RStep)
    → Leads i j (told (selected p done type_id (map one_selector ss)))
    (λ f. AnyOf (InSelector p) ss f ⊎ SelectorsFail p type_id ss f)
selectors_lead p [] i j order t done = alike nothing refl (λ f b. absurd b)
    (λ f. elim [ inl (s, is, b) ↦ is | inr b ↦ b ])
selectors_lead p (s ∷ ss) i j (k, l, low, one, order) t done =
    let more = λ (r : RStep × ℕ). selectors_lead p ss l j order r.1 (done ++ r.0 ∷ []) in
    alike (after (one_selector s p t) (λ r. selected p (done ++ r.0 ∷ []) r.1 (map one_selector ss))
    {Q = Rest} (wide low (omega arith) (one.leads p t))
    (λ r is. alike (more r) refl (λ f. elim [ inl b ↦ inl b | inr b ↦ inr (r, is, b) ])
    (λ f. elim [
      | inl b ↦ inl b
      | inr (r', is', b) ↦
          inr (subst (λ (y : RStep × ℕ). SelectorsFail p y.1 ss f)
          (same_value (one_selector s p t) r' r is' is) b)
    ]))
    (λ f. elim [
      | inl b ↦ (selectors_lead p ss l j order 0 []).lies f (inl b)
      | inr (r, is, b) ↦
          (selectors_lead p ss l j order r.1 (done ++ r.0 ∷ [])).lies f (inr b)
    ]) (let some = one.some in omega arith) (ordered ss l j order)) refl
    (λ f. elim [
      | inl (inl b) ↦ inl (s, inl refl, b)
      | inl (inr b) ↦ inr (inl b)
      | inr (inl (x, is, b)) ↦ inl (x, inr is, b)
      | inr (inr b) ↦ inr (inr b)
    ])
    (λ f. elim [
      | inl (x, inl is, b) ↦ inl (inl (subst (λ y. InSelector p y f) is b))
      | inl (x, inr is, b) ↦ inr (inl (x, is, b))
      | inr (inl b) ↦ inl (inr b)
      | inr (inr b) ↦ inr (inr b)
    ])
  where
    Rest : Fault → Type 0
    Rest f = AnyOf (InSelector p) ss f ⊎
        ((r : RStep × ℕ) × (one_selector s p t ≡ Ok r) × SelectorsFail p r.1 ss f)

-- ---- a name with its selectors

-- The name has some meaning of which this is made, with a type on which the selectors stand.
pub named_selected : {V : Type 0} (p : Place) (k j : ℕ) (kind : Meaning → Judged V)
    (type_of : V → ℕ) (ss : List Selector) →
    ((m : Meaning) (f : Fault) → kind m ≡ Err f → (f.1 ≡ k) × (6 ≤ f.0))
    → InOrder SelectorAt (k + 1) ss j
    → Leads k j (told ((used p k >>= kind) >>= λ v. selected p [] (type_of v)
    (map one_selector ss))) (λ f. NameFails p k kind f ⊎ (AnyOf (InSelector p) ss f ⊎
    ((v : V) × ((used p k >>= kind) ≡ Ok v) × SelectorsFail p (type_of v) ss f)))
named_selected {V} p k j kind type_of ss at order =
    let r = used p k >>= kind in
    after r (λ v. selected p [] (type_of v) (map one_selector ss)) (named p k kind at)
    (λ v is. alike (selectors_lead p ss (k + 1) j order (type_of v) []) refl
    (λ f. elim [ inl b ↦ inl b | inr b ↦ inr (v, is, b) ])
    (λ f. elim [
      | inl b ↦ inl b
      | inr (w, is', b) ↦
          inr (subst (λ (y : V). SelectorsFail p (type_of y) ss f) (same_value r w v is' is) b)
    ]))
    (λ f. elim [
      | inl b ↦ (selectors_lead p ss (k + 1) j order 0 []).lies f (inl b)
      | inr (v, is, b) ↦ (selectors_lead p ss (k + 1) j order (type_of v) []).lies f (inr b)
    ]) (omega arith) (ordered ss (k + 1) j order)

designated_at : (p : Place) (k : ℕ) (m : Meaning) (f : Fault) → designated p (bare k) m ≡ Err f →
    (f.1 ≡ k) × (6 ≤ f.0)
designated_at p k (Constant v) f h = absurd (cc)
designated_at p k (Variable owner root t) f h = absurd (cc)
designated_at p k m f h = let at : f.1 ≡ k = cc in let rule : f.0 ≡ 7 = cc in
    (at, omega (arith, rule))

designated_parts : (p : Place) (d : Selected) (r : Judged Meaning)
    → told ((r >>= designated p (bare d.name)) >>= λ v. selected p [] v.type_id d.selectors) ≡
    told (r >>= λ m. designated p d m)
designated_parts p d (Ok (Constant v)) =
    sym (told_joined (selected p [] (literal v).type_id d.selectors) (λ steps. literal v))
designated_parts p d (Ok (Variable owner root t)) =
    sym (told_joined (selected p [] t d.selectors)
    (λ steps. typed steps.1 (x.Var (variable root steps))))
designated_parts p d (Ok m) = refl
designated_parts p d (Err f) = refl

-- a name with selectors that stands for a value
pub designated_leads : (p : Place) (k j : ℕ) (ss : List Selector) → InOrder SelectorAt (k + 1) ss j
    → Leads k j (told (used p k >>= λ m. designated p
    (record { name = k; selectors = map one_selector ss }) m))
    (λ f. NameFails p k (designated p (bare k)) f ⊎ (AnyOf (InSelector p) ss f ⊎
    ((v : Typed) × ((used p k >>= designated p (bare k)) ≡ Ok v) ×
    SelectorsFail p v.type_id ss f)))
designated_leads p k j ss order =
    retold
    (named_selected p k j (designated p (bare k)) (λ v. v.type_id) ss (designated_at p k) order)
    (designated_parts p (record { name = k; selectors = map one_selector ss }) (used p k))
