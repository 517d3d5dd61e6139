-- What the tidy codes of a module's procedures do together: what the module means.
use Rattle.std.proofs.Common.{◌≡◌, ℕ, zero, suc, ◌+◌, ℤ, true, List, [], ◌∷◌, length, Some, refl}
use Rattle.std.proofs.Common.{sym, ap, subst, ◌∙◌, arith}
use Rattle.std.specs.Prelude.{slice_get, option_map}
use Rattle.std.proofs.lemmas.List.{length-map}
use Rattle.std.proofs.lemmas.Option.{slice_get-map}
use Rattle.pra_list.proofs.Options.{some_same}
use Rattle.pra_base.specs.Agreement.{Carried}
use Rattle.pra_base.specs.declared.code.VProc.{VProc}
use Rattle.pra_base.specs.Valid.{AreValid, PushesBeforeCalls, TakesArgs, counts_of}
use Rattle.pra_base.proofs.Carried.{carried_on, agree}
use Rattle.ob_syntax.specs.declared.checked.Checked.{Checked}
use Rattle.ob_syntax.specs.declared.checked.CheckedProc.{CheckedProc}
use Rattle.ob_mean.specs.Program.{mean}
use Rattle.ob_mean.proofs.Budgets.{mean_keeps}
use Rattle.ia_code.specs.declared.image.Image.{Image}
use Rattle.ia_step.specs.Run.{progress}
use Rattle.ia_step.proofs.Runs.{progress_keeps}
use Rattle.vc_code.specs.Selected.{vrun, RunsWell}
use Rattle.vc_proc.proofs.Followed.{module_carried, module_well}
use Rattle.vc_proc.proofs.Together.{all_replaced}
use Rattle.vc_proc.specs.Selected.{parameter_counts}
use Rattle.vc_same.specs.SameRuns.{SameRuns}
use Rattle.vc_stmt.specs.Completes.{are_words}
use Rattle.vc_stmt.specs.Procedures.{Embodies, AreEmbodied}
use Rattle.vc_typed.specs.TypedModules.{IsSelectable}
use Rattle.pra_follow.specs.Codes.{FollowsUntilStuck}
use Rattle.pra_follow.specs.Follows.{DoesAsMeant, with_data}
use Rattle.pra_follow.specs.Tidied.{IsTidied, AreTidied}
use Rattle.pra_follow.proofs.CodeOf.{own_code, same_runs, embodied}
use Rattle.pra_follow.proofs.Sides.{same_maps}

-- ---- the codes as selection made them

record IsMadeOf (program : Checked) (k : ℕ) (codes mades : List VProc) : Type 0 where
  pub count : length mades ≡ length codes
  pub embody : (p : ℕ) (made : VProc) → slice_get mades p ≡ Some made → Embodies program (k + p) made
  pub runs : (p : ℕ) (made code : VProc) → slice_get mades p ≡ Some made →
      slice_get codes p ≡ Some code → SameRuns made code

abbrev EachIsTidied : Checked → ℕ → List VProc → Type 0
EachIsTidied program k codes = (p : ℕ) (code : VProc) → slice_get codes p ≡ Some code →
    IsTidied program (k + p) code

there_are : (program : Checked) (k : ℕ) (codes : List VProc) → EachIsTidied program k codes →
    (mades : List VProc) × IsMadeOf program k codes mades
there_are program k [] each = (
  [],
  record {
    count = refl;
    embody = λ p made e. cc;
    runs = λ p made code e f. cc;
  },
)
there_are program k (code ∷ codes) each =
    let first = each 0 code refl in
    let rest = there_are program (suc k) codes
    (λ p c e. subst (λ n. IsTidied program n c) (omega arith) (each (suc p) c e)) in (
      first.is_selected.made ∷ rest.0,
      record {
        count = ap suc rest.1.count;
        embody = λ p made e. embody p made first rest.0 rest.1 e;
        runs = λ p made c e f. runs p made c first rest.0 rest.1 e f;
      },
    )
  where
    embody : (p : ℕ) (made : VProc) → (first : IsTidied program (k + 0) code) →
        (mades : List VProc) → IsMadeOf program (suc k) codes mades →
        slice_get (first.is_selected.made ∷ mades) p ≡ Some made → Embodies program (k + p) made
    embody zero made first mades are e = subst (λ (m : VProc). Embodies program (k + 0) m)
        (some_same _ made e) (embodied program (k + 0) code first)
    embody (suc p) made first mades are e = subst (λ n. Embodies program n made) (omega arith)
        (are.embody p made e)

    runs : (p : ℕ) (made c : VProc) → (first : IsTidied program (k + 0) code) →
        (mades : List VProc) → IsMadeOf program (suc k) codes mades →
        slice_get (first.is_selected.made ∷ mades) p ≡ Some made →
        slice_get (code ∷ codes) p ≡ Some c → SameRuns made c
    runs zero made c first mades are e f = subst (λ (m : VProc). SameRuns m c) (some_same _ made e)
        (subst (λ (d : VProc). SameRuns first.is_selected.made d) (some_same code c f)
        (same_runs program (k + 0) code first))
    runs (suc p) made c first mades are e f = are.runs p made c e f

-- ---- the codes of a module

module _ (program : Checked) (codes : List VProc) (selectable : IsSelectable program)
    (are : AreTidied program codes) where
  same_counts : parameter_counts program ≡ counts_of codes
  same_counts =
      same_maps (λ (proc : CheckedProc). length proc.params) (λ (code : VProc). code.args)
      program.procs codes are.count
      (λ p proc code e f.
      let is = are.each p code f in
      ap (λ (q : CheckedProc). length q.params)
      (sym (some_same is.proc proc (sym is.there ∙ e)))
      ∙ sym (own_code program p code is).args)

  body_takes : TakesArgs (parameter_counts program) 0 0
  body_takes =
      slice_get-map (λ (proc : CheckedProc). length proc.params) program.procs 0
      ∙ ap (λ o. option_map (λ (proc : CheckedProc). length proc.params) o) selectable.typed.first
      ∙ ap (λ ps. Some (length ps)) selectable.typed.no_params

  pub are_valid : AreValid codes
  are_valid = record {
    each = λ p code e. (own_code program p code (are.each p code e)).valid;
    pushes_before_calls = λ p code e.
        subst (λ counts. PushesBeforeCalls (TakesArgs counts) code.blocks) same_counts
        (own_code program p code (are.each p code e)).pushes;
    body = subst (λ counts. TakesArgs counts 0 0) same_counts body_takes;
  }

  mades : (mades : List VProc) × IsMadeOf program 0 codes mades
  mades = there_are program 0 codes
      (λ p code e. subst (λ n. IsTidied program n code) (omega arith) (are.each p code e))

  are_embodied : AreEmbodied program mades.0
  are_embodied = record {
    as_many = mades.1.count ∙ are.count;
    each = λ p made e. subst (λ n. Embodies program n made) (omega arith)
        (mades.1.embody p made e);
  }

  module _ (frames : List ℕ) (input : List ℤ) (words : are_words input ≡ true) where
    made_well : RunsWell (with_data program mades.0) frames input
    made_well = module_well program mades.0 frames input selectable are_embodied words

    -- the codes do what the module means, and never get stuck
    pub codes_well : RunsWell (with_data program codes) frames input
    codes_well = (all_replaced (with_data program mades.0) codes frames input (sym mades.1.count)
        mades.1.runs made_well).1

    pub meant : Carried (mean program frames input) (vrun (with_data program codes) frames input)
    meant = carried_on _ _ _
        (module_carried program mades.0 frames input selectable are_embodied words)
        (all_replaced (with_data program mades.0) codes frames input (sym mades.1.count)
        mades.1.runs made_well).0

    -- so does whatever follows them
    pub follower : (image : Image) → FollowsUntilStuck (with_data program codes) frames image input →
        DoesAsMeant program frames image input
    follower image follows =
        let carried = carried_on _ _ _ meant (follows.carried codes_well) in
        record {
          carried = carried;
          agrees = agree (mean program frames input) (progress image input) carried
              (mean_keeps program frames input) (progress_keeps image input);
          never_wrong = follows.never_wrong codes_well;
        }
