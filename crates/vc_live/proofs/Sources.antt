-- Each block comes to the lists of those that its end leads to.
use Rattle.std.proofs.Common.{◌≡◌, ℕ, ◌+◌, ◌<◌, ◌⊎◌, inl, inr, Bool, true, false, ◌||◌}
use Rattle.std.proofs.Common.{nat_eq, List, [], ◌∷◌, ◌++◌, length, get_or, set, refl, sym, ap}
use Rattle.std.proofs.Common.{subst}
use Rattle.std.proofs.Common.{◌∙◌, arith, get_or-set_same, get_or-set_other, length-set}
use Rattle.std.specs.List.{list_any}
use Rattle.std.proofs.lemmas.Bool.{cases_eq, cases_order, eq-eqb, eqb-true}
use Rattle.std.proofs.lemmas.List.{get_or_default, get_or_past, get_or_push, get_or_append_left}
use Rattle.std.proofs.lemmas.List.{length_push}
use Rattle.std.proofs.lemmas.List.Folds.{list_any-append, list_any_at}
use Rattle.pra_base.specs.declared.code.VProc.{VProc}
use Rattle.pra_base.specs.declared.code.End.{End}
use Rattle.pra_base.specs.Code.{end_of, IsTarget}
use Rattle.vc_live.specs.Spreading.{is_among, HasAdded, LeadTo}

-- lists of nothing
pub empty_more : (lists : List (List ℕ)) → ((t : ℕ) → get_or lists t [] ≡ []) → (t : ℕ) →
    get_or (lists ++ [] ∷ []) t [] ≡ []
empty_more lists none t = elim (cases_order t (length lists)) [
  | inl at ↦ get_or_push lists [] [] t (sym at)
  | inr (inl below) ↦ get_or_append_left lists ([] ∷ []) [] t below ∙ none t
  | inr (inr above) ↦ get_or_past (lists ++ [] ∷ []) t []
      (omega (arith, length_push lists []))
]

pub none_among : (lists : List (List ℕ)) → ((t : ℕ) → get_or lists t [] ≡ []) → (t b : ℕ) →
    is_among lists t b ≡ false
none_among lists none t b = rw (none t) refl

either_true : (x y : Bool) → (x || y) ≡ true → (x ≡ true) ⊎ (y ≡ true)
either_true true y is = inl refl
either_true false y is = inr is

or_left : (x y : Bool) → x ≡ true → (x || y) ≡ true
or_left x y is = rw is refl

or_right : (x y : Bool) → y ≡ true → (x || y) ≡ true
or_right true y is = refl
or_right false y is = is

or_nothing : (x : Bool) → (x || false) ≡ x
or_nothing true = refl
or_nothing false = refl

-- a block comes to one list
pub source_added : (old : List (List ℕ)) (t b : ℕ) (list more : List ℕ) → t < length old →
    list ≡ get_or old t list → more ≡ list ++ b ∷ [] →
    HasAdded old (set old t more) b (λ u. t ≡ u)
source_added old t b list more within read is = record {
  count = length-set old t more;
  kept = λ u c among. elim (cases_eq u t) [
    | inl at ↦ same u c at ∙ or_left (is_among old u c) (list_any (nat_eq c) (b ∷ [])) among
    | inr apart ↦ ap (list_any (nat_eq c)) (get_or-set_other old t u more [] apart) ∙ among
  ];
  added = λ u at. same u b (sym at) ∙ or_right (is_among old u b) (list_any (nat_eq b) (b ∷ []))
      (rw (eq-eqb b b refl) refl);
  only = λ u c among. elim (cases_eq u t) [
    | inl at ↦ by_part u c (either_true (is_among old u c) (list_any (nat_eq c) (b ∷ []))
        (sym (same u c at) ∙ among))
    | inr apart ↦ inl (sym (ap (list_any (nat_eq c)) (get_or-set_other old t u more [] apart))
        ∙ among)
  ];
}
  where
    same : (u c : ℕ) → u ≡ t → is_among (set old t more) u c ≡
        (is_among old u c || list_any (nat_eq c) (b ∷ []))
    same u c at = rw (at, get_or-set_same old t more [] within, is)
        (list_any-append (nat_eq c) list (b ∷ [])
        ∙ ap (λ xs. list_any (nat_eq c) xs || list_any (nat_eq c) (b ∷ []))
        (read ∙ get_or_default old t list [] within))

    by_part : (u c : ℕ) → (is_among old u c ≡ true) ⊎ (list_any (nat_eq c) (b ∷ []) ≡ true) →
        (is_among old u c ≡ true) ⊎ (c ≡ b)
    by_part u c (inl was) = inl was
    by_part u c (inr new) = inr (eqb-true c b (sym (or_nothing (nat_eq c b)) ∙ new))

pub added_as : (old new : List (List ℕ)) (b : ℕ) (P Q : ℕ → Type 0) → HasAdded old new b P →
    ((t : ℕ) → Q t → P t) → HasAdded old new b Q
added_as old new b P Q added gives = record {
  count = added.count;
  kept = added.kept;
  added = λ t is. added.added t (gives t is);
  only = added.only;
}

pub added_none : (old : List (List ℕ)) (b : ℕ) → HasAdded old old b (λ t. ⊥)
added_none old b = record {
  count = refl;
  kept = λ t c among. among;
  added = λ t is. absurd is;
  only = λ t c among. inl among;
}

pub added_both : (old mid new : List (List ℕ)) (b : ℕ) (P Q : ℕ → Type 0) → HasAdded old mid b P →
    HasAdded mid new b Q → HasAdded old new b (λ t. P t ⊎ Q t)
added_both old mid new b P Q one other = record {
  count = other.count ∙ one.count;
  kept = λ t c among. other.kept t c (one.kept t c among);
  added = λ t is. elim is [
    | inl first ↦ other.kept t b (one.added t first)
    | inr second ↦ other.added t second
  ];
  only = λ t c among. elim (other.only t c among) [
    | inl was ↦ one.only t c was
    | inr at ↦ inr at
  ];
}

pub leads_none : (code : VProc) (sources : List (List ℕ)) → length sources ≡ length code.blocks →
    ((t b : ℕ) → is_among sources t b ≡ false) → LeadTo code sources 0
leads_none code sources count none = record {
  same_count = count;
  all = λ b t below target. absurd (omega arith);
  within = λ t b among. absurd (not_both (none t b) among);
}
  where
    false_true : false ≡ true → ⊥
    false_true e = cc

    not_both : {x : Bool} → x ≡ false → x ≡ true → ⊥
    not_both e f = false_true (sym e ∙ f)

pub leads_more : (code : VProc) (old new : List (List ℕ)) (n : ℕ) (end : End) →
    LeadTo code old n → end ≡ end_of code n → HasAdded old new n (IsTarget end) →
    LeadTo code new (n + 1)
leads_more code old new n end so_far is added = record {
  same_count = added.count ∙ so_far.same_count;
  all = λ b t below target. elim (cases_eq b n) [
    | inl at ↦ subst (λ c. is_among new t c ≡ true) (sym at) (added.added t
        (subst (λ e. IsTarget e t) (sym is) (subst (λ c. IsTarget (end_of code c) t) at target)))
    | inr apart ↦ added.kept t b (so_far.all b t (omega arith) target)
  ];
  within = λ t b among. elim (added.only t b among) [
    | inl was ↦ omega (arith, so_far.within t b was)
    | inr at ↦ omega (arith, at)
  ];
}

-- what stands on the list of a block is a block
pub is_source : (code : VProc) (sources : List (List ℕ)) (t i q : ℕ) →
    LeadTo code sources (length code.blocks) → i < length (get_or sources t []) →
    q ≡ get_or (get_or sources t []) i 0 → q < length code.blocks
is_source code sources t i q lead within read = lead.within t q
    (list_any_at (nat_eq q) (get_or sources t []) i 0 within (eq-eqb q _ read))
