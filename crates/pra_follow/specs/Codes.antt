-- What becomes of selected code on its way into an image, whoever made that code, and what the
-- image is to it. The code is valid; it may get stuck. Nothing here asks how routes were found.
use Rattle.std.specs.Prelude.{◌≡◌, ◌≢◌, ℕ, ℤ, true, List, map, slice_get, Some}
use Rattle.pra_base.specs.Agreement.{Agree, Carried, ReachesUntil}
use Rattle.pra_base.specs.RunEnd.{Wrong}
use Rattle.pra_base.specs.declared.code.VModule.{VModule}
use Rattle.pra_base.specs.declared.code.VProc.{VProc}
use Rattle.pra_base.specs.Valid.{IsValid, IsSized}
use Rattle.ia_code.specs.declared.image.Image.{Image}
use Rattle.ia_code.specs.Image.{IsImage}
use Rattle.ia_emit.specs.Carries.{Carries}
use Rattle.ia_step.specs.Run.{progress}
use Rattle.net_form.specs.declared.net.Net.{Net}
use Rattle.net_form.specs.declared.routes.Routes.{Routes}
use Rattle.net_form.specs.Admitted.{IsAdmitted}
use Rattle.net_form.specs.Flow.{flow, AreRoutes}
use Rattle.net_form.specs.Network.{IsNet}
use Rattle.pl_made.specs.Made.{IsMade}
use Rattle.pl_place.specs.declared.placed.LProc.{LProc}
use Rattle.pl_place.specs.Behind.{Routed}
use Rattle.pl_place.specs.Placed.{frame_size}
use Rattle.pl_routed.specs.Routed.{routed}
use Rattle.vc_code.specs.Selected.{vrun, RunsWell}
use Rattle.vc_stmt.specs.Completes.{are_words}

-- the network of the code, and routes that it admits
pub record AreAdmittedIn (code : VProc) (net : Net) (routes : Routes) : Type 0 where
  pub is_net : IsNet net code
  pub are_routes : AreRoutes net routes
  pub admitted : IsAdmitted net (flow net routes)

-- What carries code into an image: its network and routes, and placed code.
pub record Carriage : Type 0 where
  pub code : VProc
  pub net : Net
  pub routes : Routes
  pub placed : LProc

abbrev pub behind : Carriage → Routed
behind c = routed c.code c.net c.routes

-- The code is valid and sized, its network admits the routes, and the placed code was made of both.
pub record IsCarriage (c : Carriage) : Type 0 where
  pub valid : IsValid c.code
  pub sized : IsSized c.code
  pub routes : AreAdmittedIn c.code c.net c.routes
  pub placed : IsMade (behind c) c.placed

abbrev pub AreCarriages : List Carriage → Type 0
AreCarriages cs = (k : ℕ) (c : Carriage) → slice_get cs k ≡ Some c → IsCarriage c

-- The image, run on this input, does what the code does with these frames of its procedures until
-- that gets stuck: wherever it is not, the image comes to the same point. Code that is never stuck
-- it carries step by step, ends as that ends and goes on where it does, and never meets a fault.
pub record FollowsUntilStuck (module_ : VModule) (frames : List ℕ) (image : Image)
    (input : List ℤ) : Type 0 where
  pub until : ReachesUntil Wrong (vrun module_ frames input) (progress image input)
  pub carried : RunsWell module_ frames input →
      Carried (vrun module_ frames input) (progress image input)
  pub agrees : RunsWell module_ frames input →
      Agree (vrun module_ frames input) (progress image input)
  pub never_wrong : RunsWell module_ frames input → (m : ℕ) →
      (progress image input m).ending ≢ Some Wrong

-- The image is valid and has the data of the code; on each input of words it follows the code, with
-- the frames of the placed code, until that gets stuck; and it carries the codes with the flows of
-- their routes.
pub record FollowsCodes (module_ : VModule) (cs : List Carriage) (image : Image) : Type 0 where
  pub valid : IsImage image
  pub data_words : image.data_words ≡ module_.data_words
  pub does : (input : List ℤ) → are_words input ≡ true →
      FollowsUntilStuck module_ (map (λ (c : Carriage). frame_size c.placed) cs) image input
  pub carries : Carries image (map behind cs)
