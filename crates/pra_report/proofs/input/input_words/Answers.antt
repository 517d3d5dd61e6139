use Rattle.std.proofs.Common.{◌≡◌, ℤ, [], ◌∷◌, ◌++◌, is_ok, sym, ap, ◌∙◌, rules, w32, FitsSigned}
use Rattle.std.proofs.Common.{to_z, of_z}
use Rattle.std.proofs.ResultArms.{chosen}
use Rattle.std.proofs.lemmas.Int.{to_z-of_z}
use Rattle.pra_report.proofs.ReadSoFar.{word}
use Rattle.pra_report.proofs.input.input_words.Goals as goal

pub parts-preserved : goal.parts-preserved
parts-preserved c =
    let fits : FitsSigned w32 c.in-Some.word = search rules in
    let back : to_z w32 (of_z w32 c.in-Some.word) ≡ c.in-Some.word =
    to_z-of_z w32 c.in-Some.word fits in
    let pushed : c.push.new.self.items ≡ c.parts.words.items ++ to_z w32 (of_z w32 c.in-Some.word) ∷
    [] =
    chosen _ _ _ _ c.push.ensures.items
    (sym c.map_err.ensures.variant ∙ ap is_ok c.in_ok-map_err.was) in
    let items : c.push.new.self.items ≡ c.parts.words.items ++ c.in-Some.word ∷ [] =
    pushed ∙ ap (λ (w : ℤ). c.parts.words.items ++ w ∷ []) back in
    rw items
    (word c.args.bytes.now c.parts.words.items c.parts.rest.now c.first_part-part.result.bytes.now
    c.first_part-part.result.rest.now c.in-Some.word c.parts.invariant c.first_part-part.ensures
    (sym c.word_of.ensures ∙ c.in-Some.is))
