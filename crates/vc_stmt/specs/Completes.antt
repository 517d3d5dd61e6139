-- What a run of selected code comes to, as the meaning of statements completes.
use Rattle.std.specs.Prelude.{◌≡◌, ℕ, ◌≤◌, Bool, true, ◌&&◌, ℤ, List, [], ◌∷◌, Option, Some, None}
use Rattle.pra_base.specs.RunEnd.{RunEnd}
use Rattle.pra_base.specs.RunEnd as run
use Rattle.pra_base.specs.Words.{fits_word}
use Rattle.ob_mean.specs.Statements as mean
use Rattle.ob_mean.specs.Statements.{Completion, Normal, Going}
use Rattle.vc_code.specs.Machine.{State}
use Rattle.vc_code.specs.Selected.{Vars}
use Rattle.vc_build.specs.Runs.{Codes, runs}

-- numbers of 32 bits
abbrev pub are_words : List ℤ → Bool
are_words [] = true
are_words (n ∷ ns) = fits_word n && are_words ns

-- The machine has done what the meaning has done: the same is written, and the same words of the
-- input are taken. Those that are left have 32 bits.
pub record Shows (m : mean.State) (s : State Vars) : Type 0 where
  pub input : s.input ≡ m.input
  pub words : are_words m.input ≡ true
  pub events : s.events ≡ m.events
  pub taken : s.taken ≡ m.taken

-- So many steps, or more, come to a state of which Q holds.
pub record Comes (w : Codes) (s : State Vars) (least : ℕ) (Q : State Vars → Type 0) : Type 0 where
  pub steps : ℕ
  pub enough : least ≤ steps
  pub good : Q (runs w steps s)

-- The run has this ending, or goes on where there is none.
pub record HasEnding (ending : Option RunEnd) (m : mean.State) (s : State Vars) : Type 0 where
  pub over : s.over ≡ ending
  pub shows : Shows m s

-- Where the meaning is Normal, some steps come to what is asked of the state after it; where it
-- traps, so does the run; and where a budget of the meaning ran out, the run goes on, for so many
-- steps at least.
abbrev pub Completes :
    Codes → State Vars → (least : ℕ) → (mean.State → State Vars → Type 0) → Completion → Type 0
Completes w s least Q (Normal m) = Comes w s 0 (Q m)
Completes w s least Q (mean.Trapped trap m) = Comes w s 0 (HasEnding (Some (run.Trapped trap)) m)
Completes w s least Q (Going m) = Comes w s least (HasEnding None m)
