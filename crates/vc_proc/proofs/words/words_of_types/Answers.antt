use Rattle.std.proofs.Common.{◌≡◌, ◌+◌, ◌++◌, ℕ, List, [], ◌∷◌, drop, sym, ap, ◌∙◌}
use Rattle.std.proofs.lemmas.List.{at_drop_more}
use Rattle.ob_syntax.specs.declared.checked.Shape.{Shape}
use Rattle.ob_syntax.specs.Storage.{words_after, shape_words}
use Rattle.vc_proc.proofs.words.words_of_types.Goals as goal

pub loop-shape-preserved : goal.loop-shape-preserved
loop-shape-preserved c =
    let words = c.loop-shape.words.items in
    let k = c.loop-shape.shape-index in
    let shape = c.shape-item.result in
    let rest = drop (k + 1) c.args.shapes.now in
    let counted : c.in_ok-count.count ≡ shape_words words shape = c.in_ok-count.ensures
    ∙ ap (λ (ws : List ℕ). shape_words ws shape) c.as_slice.ensures.value in
    let pushed : c.push.new.self.items ≡ words ++ c.in_ok-count.count ∷ [] =
    c.in_ok-push.ensures.items in
    ap (λ (ws : List ℕ). words_after ws rest) (pushed ∙ ap (λ n. words ++ n ∷ []) counted)
    ∙ ap (λ (s : Shape). words_after words (s ∷ rest)) c.shape-item.is
    ∙ sym (at_drop_more (words_after words) c.args.shapes.now k shape c.loop-shape-test.true)
    ∙ c.loop-shape.invariant
