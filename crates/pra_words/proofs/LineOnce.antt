-- No word has two values, where the values are given one after the other.
use Rattle.std.proofs.Common.{◌≡◌, ◌∙◌, Bool, true, false, not, ◌||◌, if◌then◌else◌, List, [], ◌∷◌}
use Rattle.std.proofs.Common.{◌++◌, Option, Some, None, option_map, refl, sym, ap, append_assoc}
use Rattle.std.proofs.Common.{append-nil}
use Rattle.pra_list.proofs.Choices.{and_true, not_true, or_false}
use Rattle.std.specs.Prelude.{option_and_then}
use Rattle.std.specs.List.{list_any}
use Rattle.std.specs.Str.{bytes_eq}
use Rattle.std.proofs.lemmas.List.Folds.{list_any-append}
use Rattle.std.proofs.Math.Bool.{or-true, and-false}
use Rattle.std.proofs.lemmas.Bool.Decides.{same_from_decides}
use Rattle.std.proofs.lemmas.Slice.Eq.{bytes_eq-Decides}
use Rattle.pra_words.specs.declared.words.Word.{Word}
use Rattle.pra_words.specs.Texts.{word_name}
use Rattle.pra_words.specs.CommandLine.{Text, Given, Next, Line, given, is_of, is_once, line_from}
use Rattle.pra_words.specs.CommandLine.{line_in, value_in}
use Rattle.pra_words.proofs.LineRows.{by}

same_name : (a b : Word) → bytes_eq (word_name a) (word_name b) ≡ bytes_eq (word_name b)
    (word_name a)
same_name a b =
    let d = bytes_eq-Decides (word_name b) (word_name a) in
    same_from_decides (bytes_eq (word_name a) (word_name b)) (bytes_eq (word_name b) (word_name a))
    (bytes_eq-Decides (word_name a) (word_name b)) (λ e. sym (d.0 e), λ e. d.1 (sym e))

-- ---- a value at the end

pub once_more : (gs : List Given) (w : Word) (v : Text) → is_once gs ≡ true →
    list_any (is_of w) gs ≡ false → is_once (gs ++ by w v ∷ []) ≡ true
once_more [] w v once new = refl
once_more (g ∷ gs) w v once new =
    let o = and_true (not (list_any (is_of g.word) gs)) (is_once gs) once in
    let n = or_false (is_of w g) (list_any (is_of w) gs) new in
    rw (
      list_any-append (is_of g.word) gs (by w v ∷ []),
      not_true (list_any (is_of g.word) gs) o.0,
      same_name w g.word ∙ n.0,
    )
    (once_more gs w v o.1 n.1)

-- ---- a second value of a word

not_once : (gs : List Given) (w : Word) (v : Text) (rest : List Given) → list_any (is_of w) gs ≡
    true → is_once (gs ++ by w v ∷ rest) ≡ false
not_once [] w v rest old = cc
not_once (g ∷ gs) w v rest old = step (is_of w g) refl old (λ o. not_once gs w v rest o)
  where
    step : (a : Bool) → is_of w g ≡ a → (a || list_any (is_of w) gs) ≡ true →
        (list_any (is_of w) gs ≡ true → is_once (gs ++ by w v ∷ rest) ≡ false) →
        is_once (g ∷ gs ++ by w v ∷ rest) ≡ false
    step true e o k =
        rw (
          list_any-append (is_of g.word) gs (by w v ∷ rest),
          same_name w g.word ∙ e,
          or-true (list_any (is_of g.word) gs),
        ) refl
    step false e o k = rw (k o) (and-false _)

-- ---- what is given from some place on, behind these values

abbrev pub after_given : List Given → Next → List Text → Option Line
after_given gs s ws = option_and_then (λ more. line_from (gs ++ more)) (given s ws)

abbrev pub turned : List Given → Option (List Given × Next) → List Text → Option Line
turned gs o ws = option_and_then (λ more. line_from (gs ++ more))
    (option_and_then (λ t. option_map (λ more. t.0 ++ more) (given t.1 ws)) o)

pub turned_new : (gs new : List Given) (t : Next) (ws : List Text) →
    after_given (gs ++ new) t ws ≡ turned gs (Some (new, t)) ws
turned_new gs new t ws = step (given t ws)
  where
    step : (o : Option (List Given)) → option_and_then (λ more. line_from ((gs ++ new) ++ more)) o
        ≡ option_and_then (λ more. line_from (gs ++ more)) (option_map (λ more. new ++ more) o)
    step None = refl
    step (Some more) = ap line_from (append_assoc gs new more)

pub turned_nothing : (gs : List Given) (t : Next) (ws : List Text) → after_given gs t ws ≡
    turned gs (Some ([], t)) ws
turned_nothing gs t ws =
    ap (λ l. after_given l t ws) (sym (append-nil gs)) ∙ turned_new gs [] t ws

pub turned_again : (gs : List Given) (w : Word) (v : Text) (t : Next) (ws : List Text) →
    list_any (is_of w) gs ≡ true → None ≡ turned gs (Some (by w v ∷ [], t)) ws
turned_again gs w v t ws old = step (given t ws)
  where
    step : (o : Option (List Given)) → None ≡ option_and_then (λ more. line_from (gs ++ more))
        (option_map (λ more. by w v ∷ more) o)
    step None = refl
    step (Some more) = sym (ap (λ b. if b then line_in (value_in (gs ++ by w v ∷ more)) else None)
        (not_once gs w v more old))
