-- The jump that ends a block, and the begin of a block behind a test.
use Rattle.std.proofs.Common.{◌≡◌, ◌≢◌, ℕ, ◌+◌, ◌<◌, ◌≤◌, List, length, refl, sym, ◌∙◌}
use Rattle.pra_base.specs.Code as code
use Rattle.pra_base.specs.declared.ids.BlockId.{BlockId}
use Rattle.pra_base.specs.declared.code.End.TheVariants.{Jump}
use Rattle.pra_base.specs.declared.code.VProc.{VProc}
use Rattle.ob_mean.specs.Statements as mean
use Rattle.ob_mean.specs.Statements.{Completion}
use Rattle.ob_mean.specs.declared.store.LiveCall.{LiveCall}
use Rattle.vc_code.specs.Machine.{Activation, State, with_top}
use Rattle.vc_code.specs.Selected.{Vars, code_of}
use Rattle.vc_build.specs.Grow.{count, IsOpen, with_end, Grows}
use Rattle.vc_build.specs.Runs.{Codes, runs}
use Rattle.vc_expr.specs.Branches.{Enters}
use Rattle.vc_expr.proofs.Branching.{entered, jumps}
use Rattle.vc_select.specs.declared.target.Setting.{Setting}
use Rattle.vc_select.specs.Selects.{home_variables}
use Rattle.vc_stmt.specs.Completes.{Completes}
use Rattle.vc_stmt.specs.Does.{Matches}
use Rattle.vc_stmt.proofs.Completing.{completes_after}
use Rattle.vc_stmt.proofs.Matching.{starts_with, matches_on}

module _ (g : Setting) (w : Codes) (old : VProc) (at : ℕ) (calls : List LiveCall)
    (waiting : List Vars) (m : mean.State) (s : State Vars)
    (matches : Matches g w old at calls waiting m s) where
  -- behind a test the run stands at the begin of a block, in which nothing is yet
  pub matches_enters : (n : ℕ) (c : Activation Vars) (b : ℕ) (made : VProc) → home_variables g ≤ n →
      Enters b n s.top c → length (code.code_of made b) ≡ 0 → home_variables g ≤ length made.vars →
      Matches g w made b calls waiting m (with_top s c)
  matches_enters n c b made low enters empty homes = matches_on g w old at calls waiting m s matches
      n c made b low enters.same (record { block = enters.block; index = enters.index ∙ sym empty })
      homes

  module _ (target : BlockId) (o : IsOpen old at) (some : target.0 ≢ 0)
      (there : target.0 < count old)
      (grows : Grows (with_end at (Jump target) old) (code_of w.procs g.id.0)) where
    abbrev after : State Vars
    after = with_top s (entered s.top target.0)

    jumped : runs w 1 s ≡ after
    jumped = jumps w g.id.0 at old target o some there s matches.starts.stands
        (starts_with g w old at calls waiting m s matches (with_end at (Jump target) old)
        grows).runs

    -- behind the jump, which is one step, the run goes on in the block
    pub completes_jumped : (made : VProc) (least low : ℕ) (R : mean.State → State Vars → Type 0)
        (o : Completion) → length (code.code_of made target.0) ≡ 0 → home_variables g ≤
        length made.vars → least ≤ 1 + low →
        (Matches g w made target.0 calls waiting m after → Completes w after low R o) →
        Completes w s least R o
    completes_jumped made least low R o empty homes le go =
        completes_after w s after 1 jumped least low R o le
        (go (matches_enters (length old.vars) (entered s.top target.0) target.0 made
        matches.starts.homes
        (record {
          block = refl;
          index = refl;
          same =
              record {
                proc = refl;
                aggregates = refl;
                args = refl;
                room = refl;
                held =
                    λ v lt. refl;
              };
        }) empty homes))
