-- The layers below selected code, composed: from valid code, which may get stuck, to placed code, to
-- the image.
use Rattle.std.proofs.Common.{◌≡◌, ℕ, ℤ, true, List, [], ◌∷◌, length, map, Some, sym, ap, subst}
use Rattle.std.proofs.Common.{◌∙◌}
use Rattle.std.specs.Prelude.{slice_get}
use Rattle.std.proofs.lemmas.List.{length-map}
use Rattle.std.proofs.lemmas.Simd.{map-map}
use Rattle.pra_list.proofs.Choices.{and_true}
use Rattle.pra_base.specs.Agreement.{Carried}
use Rattle.pra_base.specs.RunEnd.{Wrong}
use Rattle.pra_base.specs.Words.{fits_word}
use Rattle.pra_base.specs.declared.code.VModule.{VModule}
use Rattle.pra_base.specs.declared.code.VProc.{VProc}
use Rattle.pra_base.specs.Valid.{AreValid, IsSized}
use Rattle.pra_base.proofs.Carried.{agree, carried_on, until_on}
use Rattle.ia_asm.specs.Assembly.{IsImageOf}
use Rattle.ia_carries.specs.Faithful.{AreSmall, AreBehind, Follows, IsFaithful}
use Rattle.ia_carries.proofs.Assembled.{faithful}
use Rattle.ia_code.specs.declared.image.Image.{Image}
use Rattle.ia_emit.specs.Operands.{IsSmall}
use Rattle.ia_simulation.specs.Realizes.{AreWords}
use Rattle.ia_step.specs.Run.{progress}
use Rattle.ia_step.proofs.Conditions.{fits_is}
use Rattle.ia_step.proofs.Runs.{progress_keeps}
use Rattle.pl_build.specs.Placement.{IsPlacement, ArePlacements}
use Rattle.pl_build.proofs.Followed.{all_routed}
use Rattle.pl_place.specs.declared.placed.LProc.{LProc}
use Rattle.pl_place.specs.Behind.{IsBehind}
use Rattle.pl_place.specs.Machine.{lrun}
use Rattle.pl_place.specs.Placed.{frame_size}
use Rattle.pl_routed.specs.Routed.{AreRouted}
use Rattle.pl_routed.proofs.Followed.{carries, never_stuck, reaches_until}
use Rattle.vc_code.specs.Selected.{selected, start, vrun, RunsWell}
use Rattle.vc_code.proofs.LongerRuns.{longer_runs_keep}
use Rattle.vc_stmt.specs.Completes.{are_words}
use Rattle.pra_follow.specs.Codes.{Carriage, AreCarriages, behind, FollowsUntilStuck, FollowsCodes}
use Rattle.pra_follow.proofs.Carriages.{stands_behind, is_placement, carriage_small}
use Rattle.pra_follow.proofs.Sides.{mapped, both_mapped}

-- ---- words

words_fit : (input : List ℤ) → are_words input ≡ true → AreWords input
words_fit [] e = tt
words_fit (n ∷ ns) e = let both = and_true (fits_word n) (are_words ns) e in
    (fits_is n both.0, words_fit ns both.1)

module _ (module_ : VModule) (cs : List Carriage) (valid : AreValid module_.procs)
    (same : map (λ (c : Carriage). c.code) cs ≡ module_.procs) (are : AreCarriages cs) where
  abbrev placed : List LProc
  placed = map (λ (c : Carriage). c.placed) cs

  abbrev frames : List ℕ
  frames = map frame_size placed

  -- ---- the placed code

  code_of : (p : ℕ) (code : VProc) → slice_get module_.procs p ≡ Some code →
      slice_get (map (λ (c : Carriage). c.code) cs) p ≡ Some code
  code_of p code e = ap (λ codes. slice_get codes p) same ∙ e

  placements : ArePlacements module_.procs placed
  placements = record {
    valid = valid;
    count = length-map cs (λ (c : Carriage). c.placed)
        ∙ sym (length-map cs (λ (c : Carriage). c.code)) ∙ ap length same;
    sized = λ p code e.
        let x = mapped (λ (c : Carriage). c.code) cs p code (code_of p code e) in
        subst IsSized x.is (are p x.from x.there).sized;
    each = λ p code l e f.
        let x = both_mapped (λ (c : Carriage). c.code) (λ (c : Carriage). c.placed) cs p code l
        (code_of p code e) f in
        subst (λ q. IsPlacement code q) x.other
        (subst (λ c. IsPlacement c x.from.placed) x.one
        (is_placement x.from (are p x.from x.there)));
  }

  routed : AreRouted module_.procs placed
  routed = all_routed module_.procs placed placements

  small : AreSmall placed
  small k p e = let x = mapped (λ (c : Carriage). c.placed) cs k p e in
      subst IsSmall x.is (carriage_small x.from (are k x.from x.there))

  all_behind : AreBehind (map behind cs) placed
  all_behind = record {
    count = length-map cs behind ∙ sym (length-map cs (λ (c : Carriage). c.placed));
    each = λ k r p e f.
        let x = both_mapped behind (λ (c : Carriage). c.placed) cs k r p e f in
        subst (λ q. IsBehind r q) x.other
        (subst (λ s. IsBehind s x.from.placed) x.one (stands_behind x.from (are k x.from x.there)));
  }

  -- ---- the image

  module _ (image : Image) (is : IsImageOf placed module_.data_words image) where
    is_faithful : IsFaithful placed module_.data_words image
    is_faithful = faithful placed module_.data_words image routed.placed small is

    module _ (input : List ℤ) (fits : AreWords input) where
      follows : RunsWell module_ frames input → Follows placed module_.data_words image input
      follows well = is_faithful.follows input fits (never_stuck module_ placed input routed well)

      carried : RunsWell module_ frames input →
          Carried (vrun module_ frames input) (progress image input)
      carried well = carried_on (vrun module_ frames input) (lrun placed module_.data_words input)
          (progress image input) (carries module_ placed input routed well) (follows well).carried

      does : FollowsUntilStuck module_ frames image input
      does = record {
        until = until_on Wrong (vrun module_ frames input) (lrun placed module_.data_words input)
            (progress image input) (reaches_until module_ placed input routed)
            (is_faithful.until input fits);
        carried = carried;
        agrees = λ well. agree (vrun module_ frames input) (progress image input) (carried well)
            (longer_runs_keep (selected module_.procs frames) (start module_ input))
            (progress_keeps image input);
        never_wrong = λ well. (follows well).never_wrong;
      }

    pub follows_codes : FollowsCodes module_ cs image
    follows_codes = record {
      valid = is.valid;
      data_words = is.words_are;
      does = λ input words. subst (λ sizes. FollowsUntilStuck module_ sizes image input)
          (map-map frame_size (λ (c : Carriage). c.placed) cs) (does input (words_fit input words));
      carries = is_faithful.carries (map behind cs) all_behind;
    }
