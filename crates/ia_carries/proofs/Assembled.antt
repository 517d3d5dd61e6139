-- Placed code that was assembled: its image is faithful to it, and there is room for one procedure
-- more.
use Rattle.std.proofs.Common.{◌≡◌, ℕ, ◌+◌, ◌≤◌, List, ◌∷◌, ◌++◌, length, Some, arith}
use Rattle.std.specs.Prelude.{slice_get}
use Rattle.std.proofs.lemmas.List.Sums.{sum_by-append, sum_by-cons}
use Rattle.ia_asm.specs.declared.assembly.Assembly.{Assembly}
use Rattle.ia_asm.specs.Assembly.{IsAssembly, IsImageOf}
use Rattle.ia_asm.proofs.Assembling.{length_assembly}
use Rattle.ia_carries.specs.Faithful.{AreSmall, IsFaithful}
use Rattle.ia_carries.proofs.Carrying.{carries}
use Rattle.ia_code.specs.declared.image.Image.{Image}
use Rattle.ia_code.specs.Image.{max_code_bytes}
use Rattle.ia_emit.specs.Code.{size}
use Rattle.ia_emit.specs.Counts.{AreFew}
use Rattle.ia_emit.specs.Emission.{emit_proc}
use Rattle.ia_emit.proofs.FewBytes.{few_bytes}
use Rattle.ia_simulation.specs.Realizes.{IsLoaded}
use Rattle.ia_simulation.proofs.Listed as listed
use Rattle.pl_place.specs.declared.placed.LProc.{LProc}
use Rattle.pl_place.specs.Valid.{ArePlaced, IsPlaced}

module _ (procs : List LProc) (data_words : ℕ) (image : Image) (are : ArePlaced procs)
    (small : AreSmall procs) (is : IsImageOf procs data_words image) where
  loaded : IsLoaded procs data_words image
  loaded = record {
    placed = are;
    small = small;
    offsets = is.offsets;
    valid = is.valid;
    listing = is.listing;
    words_are = is.words_are;
  }

  pub faithful : IsFaithful procs data_words image
  faithful = record {
    valid = is.valid;
    follows = λ input fits never. record {
      carried = listed.carried procs data_words image loaded input fits never;
      agrees = listed.agrees procs data_words image loaded input fits never;
      never_wrong = listed.never_wrong procs data_words image loaded input fits never;
    };
    until = listed.until procs data_words image loaded;
    carries = λ routed behind. carries procs image is.listing routed behind.count
        (λ k r p one other. (behind.each k r p one other, are.each k p other));
  }

pub room_for_one : (procs : List LProc) (p : LProc) (rest : List LProc) →
    ((k : ℕ) (x : LProc) → slice_get (procs ++ p ∷ rest) k ≡ Some x → IsPlaced x) →
    AreFew (procs ++ p ∷ rest) →
    (data_words : ℕ) (a : Assembly) → IsAssembly procs data_words a →
    length a.code.items + size (emit_proc p) ≤ max_code_bytes
room_for_one procs p rest placed few data_words a is =
    let bytes : LProc → ℕ = λ p. size (emit_proc p) in
    let all = few_bytes (procs ++ p ∷ rest) few placed in
    let long = length_assembly procs data_words a is in
    let parts = sum_by-append bytes procs (p ∷ rest) in
    let last = sum_by-cons bytes p rest in
    omega (arith, all, long, parts, last)
