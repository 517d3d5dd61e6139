use Rattle.std.proofs.Common.{◌≡◌, ℕ, ◌+◌, List, [], ◌∷◌, ◌++◌, drop, Some, ap, sym, ◌∙◌, rules}
use Rattle.pra_base.specs.declared.limit.LimitKind.TheVariants.{TypeWords}
use Rattle.ob_syntax.specs.declared.checked.Shape.{Shape}
use Rattle.ob_syntax.specs.Storage.{all_words, words_after, shape_words}
use Rattle.ob_syntax.specs.WellFormed.{first_above}
use Rattle.ob_measure.specs.Measuring.{told}
use Rattle.ob_measure.proofs.Excesses.{next_of, first_above-words_after, first_above-push}
use Rattle.ob_measure.proofs.Excesses.{first_above-over}
use Rattle.ob_measure.proofs.types.words_within.Goals as goal

one_more : (words : List ℕ) (shapes rest : List Shape) (shape : Shape) (left : List Shape)
    (count : ℕ) → left ≡ shape ∷ rest →
    words_after words left ≡ all_words shapes → count ≡ shape_words words shape →
    words_after (words ++ count ∷ []) rest ≡ all_words shapes
one_more words shapes rest shape left count next all counted =
    ap (λ n. words_after (words ++ n ∷ []) rest) counted ∙ ap (words_after words) (sym next) ∙ all

pub returns-in_err-within : goal.returns-in_err-within
returns-in_err-within c =
    let words = c.loop-shape.words.items in
    let i = c.loop-shape.shape-index in
    let shapes = c.args.shapes.now in
    let next = next_of shapes i c.shape-item.result c.loop-shape-test.true c.shape-item.is in
    let count = c.in_ok-count.count in
    let counted : count ≡ shape_words words c.shape-item.result =
    rw (← c.as_slice.ensures.value) c.in_ok-count.ensures in
    let all = one_more words shapes (drop (i + 1) shapes) c.shape-item.result (drop i shapes) count
    next c.loop-shape.invariant.0 counted in
    let over = first_above-over TypeWords words count c.loop-shape.invariant.1
    c.in_err-within.ensures.1 in
    let fact : first_above TypeWords (all_words shapes) ≡ Some (TypeWords, count) =
    rw (← all) (first_above-words_after TypeWords (words ++ count ∷ []) (drop (i + 1) shapes)
    (TypeWords, count) over) in
    let same : told c.in_err-within.field-0.0 ≡ Some (TypeWords, count) =
    ap told c.in_err-within.ensures.0 in
    let final : first_above TypeWords (all_words shapes) ≡ told c.in_err-within.field-0.0 =
    fact ∙ sym same in
    search rules

pub loop-shape-preserved : goal.loop-shape-preserved
loop-shape-preserved c =
    let words = c.loop-shape.words.items in
    let i = c.loop-shape.shape-index in
    let shapes = c.args.shapes.now in
    let next = next_of shapes i c.shape-item.result c.loop-shape-test.true c.shape-item.is in
    let counted : c.in_ok-count.count ≡ shape_words words c.shape-item.result =
    rw (← c.as_slice.ensures.value) c.in_ok-count.ensures in
    let all = one_more words shapes (drop (i + 1) shapes) c.shape-item.result (drop i shapes)
    c.in_ok-count.count next c.loop-shape.invariant.0 counted in
    let below = first_above-push TypeWords words c.in_ok-count.count c.loop-shape.invariant.1
    c.in_ok-within.ensures.1 in
    rw (c.in_ok-push.ensures.items, c.in_ok-within.ensures.0) (all, below)
