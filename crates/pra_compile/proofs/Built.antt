-- What is built of code that can run, and of the code of a module.
use Rattle.std.proofs.Common.{◌≡◌, ◌≢◌, ℕ, zero, suc, ◌+◌, ◌<◌, ◌≤◌, ℤ, List, [], ◌∷◌, length, map}
use Rattle.std.proofs.Common.{Some, refl, sym, ap, subst, ◌∙◌, arith}
use Rattle.std.specs.Prelude.{slice_get, option_map}
use Rattle.std.proofs.lemmas.List.{length-map}
use Rattle.std.proofs.lemmas.Option.{slice_get-map, slice_get_within}
use Rattle.pra_list.proofs.Options.{some_same}
use Rattle.pra_base.specs.declared.code.VProc.{VProc}
use Rattle.pra_base.specs.Valid.{AreValid, PushesBeforeCalls, TakesArgs, counts_of}
use Rattle.ob_syntax.specs.declared.checked.Checked.{Checked}
use Rattle.cert_form.specs.declared.codes.CodeFile.{CodeFile}
use Rattle.cert_form.specs.declared.codes.NamedCode.{NamedCode}
use Rattle.ia_asm.specs.declared.counting.CountedAssembly.{CountedAssembly}
use Rattle.ia_asm.specs.Assembly.{IsImageOf}
use Rattle.ia_code.specs.declared.image.Image.{Image}
use Rattle.ia_code.specs.Image.{max_code_bytes}
use Rattle.ia_emit.specs.Code.{code_size}
use Rattle.vc_checked.specs.Short.{IsShort}
use Rattle.vc_stmt.specs.Completes.{are_words}
use Rattle.vc_typed.specs.TypedModules.{IsSelectable}
use Rattle.vc_valid.specs.Listed.{HasCode}
use Rattle.pra_follow.specs.Codes.{Carriage, AreCarriages, FollowsUntilStuck}
use Rattle.pra_follow.specs.Follows.{DoesAsMeant, with_data}
use Rattle.pra_follow.specs.Tidied.{IsTidied, AreTidied}
use Rattle.pra_follow.proofs.Codes.{follows_codes}
use Rattle.pra_follow.proofs.CodeOf.{own_code}
use Rattle.pra_follow.proofs.Meant.{are_valid, follower}
use Rattle.pra_follow.proofs.Room.{has_room}
use Rattle.pra_follow.proofs.Sides.{mapped, same_maps}
use Rattle.pra_report.specs.declared.report.ProcOut.{ProcOut}
use Rattle.pra_compile.specs.declared.output.Compiled.{Compiled}
use Rattle.pra_compile.specs.Compiled.{IsRunnable, IsBuiltBy, IsCompiledBy, IsTooLong, ArePlacedBy}
use Rattle.pra_compile.specs.Compiled.{codes_in, module_of, frames_of, placed_of}
use Rattle.pra_compile.specs.CompiledProcs.{AreUnderway}
use Rattle.pra_compile.specs.Leaving.{Leaving}
use Rattle.pra_compile.specs.Tidied.{IsCodeOfModule}
use Rattle.pra_compile.proofs.Done.{there_is}
use Rattle.pra_compile.proofs.Underway.{same_frames, carried_codes, are_placed}

-- ---- what is carried

pub carries_codes : (file : CodeFile) (leaves : Leaving) (procs : List ProcOut)
    (is : ArePlacedBy file leaves procs) →
    map (λ (c : Carriage). c.code) is.carriages ≡ codes_in file
carries_codes file leaves procs is =
    same_maps (λ (c : Carriage). c.code) (λ (out : ProcOut). out.code) is.carriages procs
    (sym is.carriage_count) (λ k c out e f.
    let named = there_is file.procs k (inside k c e) in
    (is.each k named.0 out c named.1 f e).carried) ∙ is.codes
  where
    inside : (k : ℕ) (c : Carriage) → slice_get is.carriages k ≡ Some c → k < length file.procs
    inside k c e =
        let lt = slice_get_within is.carriages k c e in
        let many = is.carriage_count in
        let count = is.count in
        omega (arith, lt, many, count)

-- ---- code that can run

pub runs_valid : (file : CodeFile) → IsRunnable file → AreValid (codes_in file)
runs_valid file is = record {
  each = λ p code e. (is.each p code e).valid;
  pushes_before_calls = λ p code e. (is.each p code e).calls;
  body = is.body;
}

module _ (file : CodeFile) (leaves : Leaving) (runnable : IsRunnable file) (procs : List ProcOut)
    (left : List NamedCode) (assembly : CountedAssembly)
    (are : AreUnderway file leaves procs left assembly) (none : length left ≡ 0) where
  pub built : (image : Image) →
      IsImageOf (placed_of are.carriages) file.data_words image →
      IsBuiltBy file leaves (record { image = image; procs = procs })
  built image is =
      let follows = follows_codes (module_of file) are.carriages (runs_valid file runnable)
      (carried_codes file leaves procs left assembly are none) are.are image is in
      record {
        valid = follows.valid;
        data_words = follows.data_words;
        does = λ input words. subst (λ frames. FollowsUntilStuck (module_of file) frames image input)
            (same_frames file leaves procs left assembly are none) (follows.does input words);
        runnable = runnable;
        placement = are_placed file leaves procs left assembly are none;
        carries = follows.carries;
        assembled = is;
      }

  pub too_long : (count : ℕ) →
      count ≡ code_size (placed_of are.carriages) →
      max_code_bytes < count → IsTooLong file leaves count
  too_long count size many = record {
    procs = procs;
    placement = are_placed file leaves procs left assembly are none;
    size = size;
    many = many;
  }

-- ---- the code of a module

module _ (program : Checked) (file : CodeFile) (of : IsCodeOfModule program file) where
  pub tidied_codes : AreTidied program (codes_in file)
  tidied_codes = record {
    count = length-map file.procs (λ (n : NamedCode). n.code) ∙ of.procs.count;
    each = λ p code e.
        let x = mapped (λ (n : NamedCode). n.code) file.procs p code e in
        subst (λ (c : VProc). IsTidied program p c) x.is (of.procs.each p x.from x.there).tidied;
  }

  module _ (selectable : IsSelectable program) where
    valid : AreValid (codes_in file)
    valid = are_valid program (codes_in file) selectable tidied_codes

    pub module_runs : IsRunnable file
    module_runs =
        let count = of.procs.count in
        let few = selectable.limited.count in
        record {
          each = λ p code e.
              let own = own_code program p code (tidied_codes.each p code e) in
              record {
                id = own.id;
                sized = own.sized;
                valid = own.valid;
                calls = valid.pushes_before_calls p code e;
              };
          body = valid.body;
          few = omega (arith, count, few);
          few_data = let few = selectable.laid.few in let same = of.data_words in omega (arith, few, same);
        }

    module _ (leaves : Leaving) (compiled : Compiled) (is : IsBuiltBy file leaves compiled) where
      same_data : module_of file ≡ with_data program (codes_in file)
      same_data = ap (λ n. record { procs = codes_in file; data_words = n }) of.data_words

      pub module_built : IsCompiledBy program leaves compiled
      module_built = record {
        file = file;
        of_module = of;
        built = is;
        does = λ input words. follower program (codes_in file) selectable tidied_codes
            (frames_of compiled.procs) input words compiled.image
            (subst (λ m. FollowsUntilStuck m (frames_of compiled.procs) compiled.image input)
            same_data (is.does input words));
      }

    pub never_too_long : IsShort program → (leaves : Leaving) (count : ℕ) →
        IsTooLong file leaves count → ⊥
    never_too_long short leaves count is =
        let fits = has_room program (codes_in file) selectable.limited short tidied_codes
        is.placement.carriages is.placement.are (carried is) in
        let size = is.size in
        let many = is.many in
        omega (arith, fits, size, many)
      where
        carried : (is : IsTooLong file leaves count) →
            map (λ (c : Carriage). c.code) is.placement.carriages ≡ codes_in file
        carried is = carries_codes file leaves is.procs is.placement
