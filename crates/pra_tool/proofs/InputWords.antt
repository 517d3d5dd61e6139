-- The numbers of an input have 32 bits.
use Rattle.std.proofs.Common.{◌≡◌, ℕ, zero, suc, ◌≤◌, ℤ, pos, true, ◌&&◌, List, [], ◌∷◌, Option}
use Rattle.std.proofs.Common.{Some, None, refl, subst, arith, lt-ltb, leb-true}
use Rattle.std.specs.Prelude.{Result, Ok, Err, neg_ℤ, nat_le, ◌==◌}
use Rattle.std.specs.Option.{option_map}
use Rattle.std.specs.Str.{all_ascii_digits}
use Rattle.std.specs.Str.Parse.{digits_value_after}
use Rattle.pra_list.proofs.Truths.{both_true}
use Rattle.pra_base.specs.Words.{fits_word}
use Rattle.pra_list.proofs.Choices.{and_true, by_test}
use Rattle.pra_list.proofs.Options.{some_same, none_some}
use Rattle.pra_report.specs.Input.{numeral, word_of, Run, with_word, numbers_of, input_words, runs}
use Rattle.vc_stmt.specs.Completes.{are_words}

numeral_most : (most : ℕ) (ds : List ℕ) (n : ℕ) → numeral most ds ≡ Some n → n ≤ most
numeral_most most [] n is = absurd (none_some is)
numeral_most most (d ∷ ds) n is =
    let value = digits_value_after 10 0 (d ∷ ds) in
    by_test (all_ascii_digits (d ∷ ds) && nat_le value most) (Some value) None (Some n)
    (λ b same. subst (λ k. k ≤ most) (some_same value n same)
    (leb-true value most (and_true (all_ascii_digits (d ∷ ds)) (nat_le value most) b).1))
    (λ b same. absurd (none_some same)) is

positive_fits : (n : ℕ) → n ≤ 2147483647 → fits_word (pos n) ≡ true
positive_fits n le = lt-ltb n 2147483648 (omega (arith, le))

negative_fits : (n : ℕ) → n ≤ 2147483648 → fits_word (neg_ℤ (pos n)) ≡ true
negative_fits zero le = refl
negative_fits (suc n) le = lt-ltb n 2147483648 (omega (arith, le))

mapped_fits : (f : ℕ → ℤ) (o : Option ℕ) (z : ℤ) → ((n : ℕ) → o ≡ Some n → fits_word (f n) ≡ true) →
    option_map f o ≡ Some z → fits_word z ≡ true
mapped_fits f None z fits is = absurd (none_some is)
mapped_fits f (Some n) z fits is = subst (λ x. fits_word x ≡ true) (some_same (f n) z is)
    (fits n refl)

word_fits : (bs : List ℕ) (z : ℤ) → word_of bs ≡ Some z → fits_word z ≡ true
word_fits [] z is = absurd (none_some is)
word_fits (b ∷ bs) z is =
    by_test (b == 45) (option_map (λ n. neg_ℤ (pos n)) (numeral 2147483648 bs))
    (option_map pos (numeral 2147483647 (b ∷ bs))) (Some z)
    (λ minus same. mapped_fits (λ n. neg_ℤ (pos n)) (numeral 2147483648 bs) z
    (λ n e. negative_fits n (numeral_most 2147483648 bs n e)) same)
    (λ plain same. mapped_fits pos (numeral 2147483647 (b ∷ bs)) z
    (λ n e. positive_fits n (numeral_most 2147483647 (b ∷ bs) n e)) same) is

with_fits : (at : ℕ) (w : Option ℤ) (more : Result (List ℤ) ℕ) (ns : List ℤ) →
    ((n : ℤ) → w ≡ Some n → fits_word n ≡ true) →
    ((ms : List ℤ) → more ≡ Ok ms → are_words ms ≡ true)
    → with_word at w more ≡ Ok ns → are_words ns ≡ true
with_fits at None more ns first rest is = absurd (cc)
with_fits at (Some n) (Err place) ns first rest is = absurd (cc)
with_fits at (Some n) (Ok ms) ns first rest is =
    let same : n ∷ ms ≡ ns = cc in
    subst (λ (z : List ℤ). are_words z ≡ true) same
    (both_true (fits_word n) (are_words ms) (first n refl) (rest ms refl))

runs_fit : (rs : List Run) (ns : List ℤ) → numbers_of rs ≡ Ok ns → are_words ns ≡ true
runs_fit [] ns is = let same : [] ≡ ns = cc in subst (λ (z : List ℤ). are_words z ≡ true) same refl
runs_fit (r ∷ rs) ns is = with_fits r.at (word_of r.bytes) (numbers_of rs) ns
    (λ n e. word_fits r.bytes n e) (λ ms e. runs_fit rs ms e) is

pub numbers_are_words : (text : List ℕ) (ns : List ℤ) → input_words text ≡ Ok ns → are_words ns ≡
    true
numbers_are_words text ns is = runs_fit (runs text) ns is
