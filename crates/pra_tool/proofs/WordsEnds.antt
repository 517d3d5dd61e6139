-- The ends of a call whose words are refused, or were not read.
use Rattle.std.proofs.Common.{◌≡◌, ◌≢◌, ◌⊎◌, inl, inr, ⊎_elim, sym, subst}
use Rattle.std.specs.Prelude.{Result, Ok, Err}
use Rattle.pra_words.specs.declared.words.WordsFault.{WordsFault}
use Rattle.pra_words.specs.declared.words.WordsFault.TheVariants as words
use Rattle.pra_words.specs.Texts.{words_lines}
use Rattle.pra_words.specs.Words.{Asked}
use Rattle.pra_tool.specs.declared.status.Status.{Status}
use Rattle.pra_tool.specs.declared.status.Status.TheVariants.{BadWords, NoMemory}
use Rattle.pra_tool.specs.Outside.{Seen, Refused, Untouched}
use Rattle.pra_tool.specs.Clause.{mode_of, Promise}
use Rattle.pra_tool.proofs.ModeAnswers.{no_memory}
use Rattle.pra_tool.proofs.AllModes.{all_are_modes, leaves_all}

-- memory was wanting before anything was read
no_words : (asked : Result Asked WordsFault) (old new : Seen) (s : Status) → s ≡ NoMemory →
    Untouched old new → Promise asked old new s
no_words (Err fault) old new s is left =
    record { known = inr is; told = λ e. absurd cc; memory = λ e. left }
no_words (Ok asked) old new s is left =
    no_memory (mode_of asked) (all_are_modes asked.mode asked) asked.file old new s is
    (leaves_all asked.mode asked old new left)

pub refused_words : (asked : Result Asked WordsFault) (fault : WordsFault) (old new : Seen)
    (s : Status) → (fault ≢ words.OutOfMemory → asked ≡ Err fault) →
    ((s ≡ BadWords) × (fault ≢ words.OutOfMemory)) ⊎ (s ≡ NoMemory) →
    (s ≡ BadWords → Refused (words_lines fault) old new) →
    (s ≡ NoMemory → Untouched old new) → Promise asked old new s
refused_words asked fault old new s refused known told memory = ⊎_elim
    (λ (bad, read). subst (λ (a : Result Asked WordsFault). Promise a old new s)
    (sym (refused read))
    (record { known = inl bad; told = told; memory = memory }))
    (λ wanting. no_words asked old new s wanting (memory wanting))
    known
