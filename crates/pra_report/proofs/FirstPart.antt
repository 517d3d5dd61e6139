-- What the place of the first separator says of a text's parts.
use Rattle.std.proofs.Common.{◌≡◌, ℕ, ◌+◌, ◌<◌, ◌≤◌, Bool, true, false, Some, None, List, [], ◌∷◌}
use Rattle.std.proofs.Common.{length, take, drop, refl, ap, arith, cond, inl, inr, ◌∙◌, length-drop}
use Rattle.std.specs.Prelude.{nat_lt, position}
use Rattle.std.specs.List.{position_or_len, slice_split}
use Rattle.std.proofs.lemmas.List.{length-take-le}
use Rattle.std.proofs.lemmas.List.Splits.{slice_split_first, slice_split_none}
use Rattle.std.proofs.lemmas.List.Sums.{fails_before_first}
use borrow.Author.Tests.{ltb-true, ltb-false}
use Rattle.pra_report.specs.Input.{is_separator}
use Rattle.pra_report.specs.Parts.{IsFirstPart}

some_where : (b : Bool) (n at : ℕ) → cond b (Some n) None ≡ Some at → (b ≡ true) × (n ≡ at)
some_where true n at e = (refl, cc)
some_where false n at e = cc

none_where : (b : Bool) (n : ℕ) → cond b (Some n) None ≡ None → b ≡ false
none_where true n e = cc
none_where false n e = refl

pub found : (text : List ℕ) (at : ℕ) → position is_separator text ≡ Some at →
    IsFirstPart text (take at text) (drop (at + 1) text)
found text at e =
    let n : ℕ = position_or_len is_separator text in
    let where_it_is = some_where (nat_lt n (length text)) n at e in
    let within : n < length text = ltb-true n (length text) where_it_is.0 in
    let same : n ≡ at = where_it_is.1 in
    inl (record {
      parts = slice_split_first is_separator text 0 within
          ∙ ap (λ i. take i text ∷ slice_split is_separator (drop (i + 1) text)) same;
      size = omega (arith, length-take-le at text (omega arith), length-drop (at + 1) text);
    })

pub none_found : (text : List ℕ) → position is_separator text ≡ None → IsFirstPart text text []
none_found text e =
    let n : ℕ = position_or_len is_separator text in
    let past : length text ≤ n = ltb-false n (length text) (none_where (nat_lt n (length text)) n e)
    in
    inr (record {
      only = slice_split_none is_separator text
          (λ k d k<. fails_before_first is_separator text k d (omega arith));
      whole = refl;
      none = refl;
    })
