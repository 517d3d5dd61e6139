use Rattle.std.proofs.Common.{◌≡◌, ℕ, ◌<◌, List, slice_index_or}
use Rattle.ob_syntax.specs.declared.token.Kind.{Kind}
use Rattle.ob_lex.specs.Spellings.{spellings}
use Rattle.ob_lex.proofs.spelling.kind_in.Given as goal

-- no entry before this one has the word's spelling
abbrev pub invariant-loop-kind : goal.invariant-loop-kind
invariant-loop-kind l = (k : ℕ) → k < l.kind-index → (e : Kind × List ℕ) →
    (slice_index_or (spellings l.entries) k e).1 ≡ l.word → ⊥
