-- What an image of placed code is to that code, and to the code and the flows that stand behind it.
use Rattle.std.specs.Prelude.{◌≡◌, ◌≢◌, ℕ, ℤ, List, length, slice_get, Some}
use Rattle.ia_code.specs.declared.image.Image.{Image}
use Rattle.ia_code.specs.Image.{IsImage}
use Rattle.ia_emit.specs.Carries.{Carries}
use Rattle.ia_emit.specs.Operands.{IsSmall}
use Rattle.ia_simulation.specs.Realizes.{AreWords}
use Rattle.ia_step.specs.Run.{progress}
use Rattle.pl_place.specs.declared.placed.LProc.{LProc}
use Rattle.pl_place.specs.Behind.{Routed, IsBehind}
use Rattle.pl_place.specs.Machine.{lrun}
use Rattle.pra_base.specs.Agreement.{Agree, Carried, ReachesUntil}
use Rattle.pra_base.specs.RunEnd.{Wrong}

abbrev pub AreSmall : List LProc → Type 0
AreSmall procs = (k : ℕ) (p : LProc) → slice_get procs k ≡ Some p → IsSmall p

-- codes and flows of a module, one behind each placed procedure in order
pub record AreBehind (routed : List Routed) (procs : List LProc) : Type 0 where
  pub count : length routed ≡ length procs
  pub each : (k : ℕ) (r : Routed) (p : LProc) →
      slice_get routed k ≡ Some r → slice_get procs k ≡ Some p → IsBehind r p

-- The image, run on this input, does what the placed code does: it carries each step of it, ends as
-- it ends and goes on where it does, and never meets a fault.
pub record Follows (procs : List LProc) (data_words : ℕ) (image : Image) (input : List ℤ)
    : Type 0 where
  pub carried : Carried (lrun procs data_words input) (progress image input)
  pub agrees : Agree (lrun procs data_words input) (progress image input)
  pub never_wrong : (m : ℕ) → (progress image input m).ending ≢ Some Wrong

-- The image is valid, follows the placed code on each input on which that is never stuck, and on
-- any until it gets stuck, and carries the codes and the flows that stand behind it.
pub record IsFaithful (procs : List LProc) (data_words : ℕ) (image : Image) : Type 0 where
  pub valid : IsImage image
  pub follows : (input : List ℤ) → AreWords input →
      ((k : ℕ) → (lrun procs data_words input k).ending ≢ Some Wrong) →
      Follows procs data_words image input
  pub until : (input : List ℤ) → AreWords input →
      ReachesUntil Wrong (lrun procs data_words input) (progress image input)
  pub carries : (routed : List Routed) → AreBehind routed procs → Carries image routed
