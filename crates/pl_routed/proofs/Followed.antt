-- The procedures of a module together.
use Rattle.std.proofs.Common.{◌≢◌, ℕ, ℤ, List, map, Some}
use Rattle.pra_base.specs.Agreement.{Carried, ReachesUntil}
use Rattle.pra_base.specs.RunEnd.{Wrong}
use Rattle.pra_base.specs.declared.code.VModule.{VModule}
use Rattle.pra_base.specs.declared.code.VProc.{VProc}
use Rattle.vc_code.specs.Selected.{vrun, RunsWell}
use Rattle.pl_place.specs.declared.placed.LProc.{LProc}
use Rattle.pl_place.specs.Machine.{lrun}
use Rattle.pl_place.specs.Placed.{frame_size}
use Rattle.pl_simulation.specs.Correspondence.{AllCorrespond}
use Rattle.pl_simulation.proofs.Carried as simulation
use Rattle.pl_routed.specs.Routed.{AreRouted}
use Rattle.pl_routed.proofs.Corresponding.{corresponds}

pub all_correspond : (codes : List VProc) (procs : List LProc) → AreRouted codes procs →
    AllCorrespond codes procs
all_correspond codes procs is = record {
  count = is.count;
  each = λ n code p e f.
      let x = is.each n code p e f in
      corresponds code x.net x.is_net x.routes x.are_routes x.admitted (is.valid.each n code e)
      (is.sized n code e) p x.behind (is.placed.each n p f);
  entry_blocks = λ n code e. (is.valid.each n code e).entry_block.there;
  pushes = is.valid.pushes_before_calls;
  body = is.valid.body;
}

pub carries : (module_ : VModule) (procs : List LProc) (input : List ℤ) →
    AreRouted module_.procs procs → RunsWell module_ (map frame_size procs) input →
    Carried (vrun module_ (map frame_size procs) input) (lrun procs module_.data_words input)
carries module_ procs input is never = simulation.placed_carries module_ procs input
    (all_correspond module_.procs procs is) never

pub never_stuck : (module_ : VModule) (procs : List LProc) (input : List ℤ) →
    AreRouted module_.procs procs → RunsWell module_ (map frame_size procs) input → (k : ℕ) →
    (lrun procs module_.data_words input k).ending ≢ Some Wrong
never_stuck module_ procs input is never = simulation.never_stuck module_ procs input
    (all_correspond module_.procs procs is) never

pub reaches_until : (module_ : VModule) (procs : List LProc) (input : List ℤ) →
    AreRouted module_.procs procs →
    ReachesUntil Wrong (vrun module_ (map frame_size procs) input)
    (lrun procs module_.data_words input)
reaches_until module_ procs input is = simulation.placed_until module_ procs input
    (all_correspond module_.procs procs is)
