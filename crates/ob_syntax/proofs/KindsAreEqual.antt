-- Kinds of tokens are equal or not.
use Rattle.std.proofs.Common.{◌≡◌, ℕ, ℤ, Bool, true, false, ◌⊎◌, inl, inr, List, [], ◌∷◌, nat_eq}
use Rattle.std.proofs.Common.{◌==◌, refl, sym, ap, ap₂, ◌∙◌}
use Rattle.std.proofs.lemmas.Bool.Decides.{Decides-eqb, Decides-int_eq}
use Rattle.std.specs.Prelude.{if◌then◌else◌, slice_index_or}
use Rattle.std.specs.Ordering.{int_eq}
use Rattle.pra_list.proofs.Truths.{truth, true_false}
use Rattle.ob_syntax.specs.declared.token.Kind.{Kind}
use Rattle.ob_syntax.specs.declared.token.Kind.TheVariants.{Ident, Number, KwArray, KwBegin}
use Rattle.ob_syntax.specs.declared.token.Kind.TheVariants.{KwConst, KwDiv, KwDo, KwElse, KwElsif}
use Rattle.ob_syntax.specs.declared.token.Kind.TheVariants.{KwEnd, KwIf, KwMod, KwModule, KwOf}
use Rattle.ob_syntax.specs.declared.token.Kind.TheVariants.{KwOr, KwProcedure, KwRecord, KwRepeat}
use Rattle.ob_syntax.specs.declared.token.Kind.TheVariants.{KwThen, KwType, KwUntil, KwVar, KwWhile}
use Rattle.ob_syntax.specs.declared.token.Kind.TheVariants.{Period, Comma, Semicolon, Colon}
use Rattle.ob_syntax.specs.declared.token.Kind.TheVariants.{Becomes, LeftParen, RightParen}
use Rattle.ob_syntax.specs.declared.token.Kind.TheVariants.{LeftBracket, RightBracket, Tilde, Times}
use Rattle.ob_syntax.specs.declared.token.Kind.TheVariants.{Amp, Plus, Minus, Equal, Unequal, Less}
use Rattle.ob_syntax.specs.declared.token.Kind.TheVariants.{LessEqual, Greater, GreaterEqual}
use Rattle.ob_syntax.specs.Kinds.{kind_number, kind_value}

-- the kinds in the order of their numbers; a number's own is not looked at
all_kinds : List Kind
all_kinds =
    Ident ∷ Ident ∷ KwArray ∷ KwBegin ∷ KwConst ∷ KwDiv ∷ KwDo ∷ KwElse ∷ KwElsif ∷ KwEnd ∷ KwIf ∷
    KwMod ∷ KwModule ∷ KwOf ∷ KwOr ∷ KwProcedure ∷ KwRecord ∷ KwRepeat ∷ KwThen ∷ KwType ∷ KwUntil ∷
    KwVar ∷ KwWhile ∷ Period ∷ Comma ∷ Semicolon ∷ Colon ∷ Becomes ∷ LeftParen ∷ RightParen ∷
    LeftBracket ∷ RightBracket ∷ Tilde ∷ Times ∷ Amp ∷ Plus ∷ Minus ∷ Equal ∷ Unequal ∷ Less ∷
    LessEqual ∷ Greater ∷ GreaterEqual ∷ []

kind_of : ℕ → ℤ → Kind
kind_of n v = if nat_eq n 1 then Number v else slice_index_or all_kinds n Ident

kind_back : (k : Kind) → kind_of (kind_number k) (kind_value k) ≡ k
unfolding kind_of all_kinds
kind_back Ident = refl
kind_back _ = refl

told_apart : (a b : Kind) → kind_number a ≡ kind_number b → kind_value a ≡ kind_value b → a ≡ b
told_apart a b n v = sym (kind_back a) ∙ ap₂ kind_of n v ∙ kind_back b

pub same_kind : (a b : Kind) → (a ≡ b) ⊎ (a ≡ b → ⊥)
same_kind a b = by (truth (kind_number a == kind_number b))
    (truth (int_eq (kind_value a) (kind_value b)))
  where
    by : ((kind_number a == kind_number b) ≡ true) ⊎ ((kind_number a == kind_number b) ≡ false)
        → (int_eq (kind_value a) (kind_value b) ≡ true) ⊎
        (int_eq (kind_value a) (kind_value b) ≡ false)
        → (a ≡ b) ⊎ (a ≡ b → ⊥)
    by (inl n) (inl v) =
        inl (told_apart a b ((Decides-eqb (kind_number a) (kind_number b)).0 n)
        ((Decides-int_eq (kind_value a) (kind_value b)).0 v))
    by (inr n) v =
        inr (λ e. true_false (kind_number a == kind_number b)
        ((Decides-eqb (kind_number a) (kind_number b)).1 (ap kind_number e)) n)
    by (inl n) (inr v) =
        inr (λ e. true_false (int_eq (kind_value a) (kind_value b))
        ((Decides-int_eq (kind_value a) (kind_value b)).1 (ap kind_value e)) v)
