use Rattle.std.proofs.Common.{◌≡◌, drop}
use Rattle.ob_syntax.specs.Storage.{all_words, words_after}
use Rattle.vc_proc.proofs.words.words_of_types.Given as goal

-- what is done, with what is left, is the whole
abbrev pub invariant-loop-shape : goal.invariant-loop-shape
invariant-loop-shape l = words_after l.words.items (drop l.shape-index l.shapes) ≡
    all_words l.shapes
