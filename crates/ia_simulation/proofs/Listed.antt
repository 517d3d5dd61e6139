-- The machine over an image that lists placed code, and placed code, do the same.
use Rattle.std.proofs.Common.{◌≢◌, ℕ, ◌≤◌, List, length, Some, subst}
use Rattle.std.specs.Prelude.{ℤ}
use Rattle.ia_code.specs.declared.image.Image.{Image}
use Rattle.ia_code.specs.Image.{max_code_bytes, max_data_words}
use Rattle.ia_step.specs.Run.{progress}
use Rattle.ia_step.proofs.Runs.{progress_keeps}
use Rattle.pl_place.specs.declared.placed.LProc.{LProc}
use Rattle.pl_place.specs.Machine.{lrun, placed_machine, start}
use Rattle.pra_base.specs.Agreement.{Agree, Carried, ReachesUntil}
use Rattle.pra_base.specs.RunEnd.{Wrong}
use Rattle.pra_base.proofs.Carried.{agree}
use Rattle.vc_code.proofs.LongerRuns.{longer_runs_keep}
use Rattle.ia_simulation.specs.Realizes.{IsLoadable, IsLoaded, AreWords}
use Rattle.ia_simulation.proofs.Each as each

module _ (procs : List LProc) (data_words : ℕ) (image : Image) (z : IsLoaded procs data_words image)
  where
    pub loadable : IsLoadable procs data_words
    loadable = record {
      placed = z.placed;
      small = z.small;
      sound = z.listing.sound;
      short = subst (λ bytes. length bytes ≤ max_code_bytes) z.listing.spelled z.valid.code;
      few_data = subst (λ n. n ≤ max_data_words) z.words_are z.valid.data_words;
    }

    pub until : (input : List ℤ) → AreWords input →
        ReachesUntil Wrong (lrun procs data_words input) (progress image input)
    until = each.until procs data_words loadable z.offsets image z.listing.spelled z.words_are

    module _ (input : List ℤ) (fits : AreWords input)
        (never : (k : ℕ) → (lrun procs data_words input k).ending ≢ Some Wrong) where
      pub carried : Carried (lrun procs data_words input) (progress image input)
      carried = each.carried procs data_words loadable z.offsets image z.listing.spelled z.words_are
          input fits never

      pub never_wrong : (m : ℕ) → (progress image input m).ending ≢ Some Wrong
      never_wrong = each.never_wrong procs data_words loadable z.offsets image z.listing.spelled
          z.words_are input fits never

      pub agrees : Agree (lrun procs data_words input) (progress image input)
      agrees = agree (lrun procs data_words input) (progress image input) carried
          (longer_runs_keep (placed_machine procs) (start procs data_words input))
          (progress_keeps image input)
