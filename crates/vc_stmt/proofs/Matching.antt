-- States that match stay so while code runs.
use Rattle.std.proofs.Common.{◌≡◌, ℕ, ◌<◌, ◌≤◌, List, length, map, None, refl, sym, ap, ◌∙◌, subst}
use Rattle.std.proofs.Common.{arith}
use Rattle.std.specs.Prelude.{slice_get}
use Rattle.pra_base.specs.declared.code.VProc.{VProc}
use Rattle.ob_mean.specs.Statements as mean
use Rattle.ob_mean.specs.Store.{Store}
use Rattle.ob_mean.specs.declared.store.LiveCall.{LiveCall}
use Rattle.vc_code.specs.Machine.{Activation, State, with_top}
use Rattle.vc_code.specs.Selected.{Vars, code_of}
use Rattle.vc_build.specs.Grow.{Grows}
use Rattle.vc_build.specs.Runs.{Codes, Stands, SameBelow}
use Rattle.vc_build.proofs.Growth.{grows_same}
use Rattle.vc_relation.specs.Relation.{Represents, SameButVariables, homes_in, homes_of, held_at}
use Rattle.vc_relation.proofs.Variables.{freed}
use Rattle.vc_select.specs.declared.target.Setting.{Setting}
use Rattle.vc_select.specs.Selects.{home_variables, selected_module, Starts}
use Rattle.vc_select.proofs.Keeping.{starts_earlier}
use Rattle.vc_stmt.specs.Completes.{Shows}
use Rattle.vc_stmt.specs.Does.{Matches}

module _ (g : Setting) (w : Codes) (old : VProc) (from : ℕ) (calls : List LiveCall)
    (waiting : List Vars) (m : mean.State) (s : State Vars)
    (matches : Matches g w old from calls waiting m s) where
  abbrev final : VProc
  final = code_of w.procs g.id.0

  -- code that was added runs on
  pub starts_with : (new : VProc) → Grows new final → Starts g w old new from calls m.store s
  starts_with new grows = starts_earlier g w old final from calls m.store s matches.starts new grows

  -- the store is that of a state where homes hold the same
  pub represents_but : (n : State Vars) → SameButVariables s n →
      ((u : ℕ) → u < home_variables g → held_at n u ≡ held_at s u) →
      Represents (selected_module g.program.now w) calls m.store n
  represents_but n but held =
      let same_homes : homes_of (selected_module g.program.now w) s ≡ home_variables g =
      ap (λ p. homes_in (slice_get g.program.now.procs p)) matches.starts.runs.proc in
      freed (selected_module g.program.now w) s n but calls m.store matches.starts.set.laid
      matches.starts.represents (λ u lt. held u (omega (arith, lt, same_homes)))

  module _ (n : State Vars) (made : VProc) (b : ℕ) (after : mean.State)
      (proc : n.top.proc ≡ s.top.proc) (going : n.over ≡ None) (compared : n.compared ≡ None)
      (room : length n.top.home.held ≡ length s.top.home.held)
      (pushed : n.pushed ≡ s.pushed) (below : map (λ c. c.home) n.below ≡ map (λ c. c.home) s.below)
      (stands : Stands made b n.top) (homes : home_variables g ≤ length made.vars)
      (shows : Shows after n) where
    -- a state that has another store
    pub matches_as : Represents (selected_module g.program.now w) calls after.store n →
        Matches g w made b calls waiting after n
    matches_as represents = record {
      starts = record {
        set = matches.starts.set;
        homes = homes;
        variables = matches.starts.variables;
        runs = record {
          proc = proc ∙ matches.starts.runs.proc;
          holds = grows_same final;
          going =
              going;
          compared = compared;
          room = room ∙ matches.starts.runs.room;
        };
        stands = stands;
        represents = represents;
      };
      shows = shows;
      pushed = pushed ∙ matches.pushed;
      below = below ∙ matches.below;
    }

    -- a state that has the same store, in the same homes
    pub matches_but : after.store ≡ m.store → SameButVariables s n →
        ((u : ℕ) → u < home_variables g → held_at n u ≡ held_at s u) →
        Matches g w made b calls waiting after n
    matches_but store but held =
        matches_as (subst (λ (z : Store). Represents (selected_module g.program.now w) calls z n)
        (sym store) (represents_but n but held))

  -- the same state, at the end of a block of other code
  pub matches_at : (made : VProc) (b : ℕ) → Stands made b s.top → home_variables g ≤
      length made.vars → Matches g w made b calls waiting m s
  matches_at made b stands homes = record {
    starts = record {
      set = matches.starts.set;
      homes = homes;
      variables = matches.starts.variables;
      runs = matches.starts.runs;
      stands = stands;
      represents = matches.starts.represents;
    };
    shows = matches.shows;
    pushed = matches.pushed;
    below = matches.below;
  }

  -- behind code that changes the running call alone
  pub matches_on : (n : ℕ) (c : Activation Vars) (made : VProc) (b : ℕ) → home_variables g ≤ n →
      SameBelow n s.top c → Stands made b c → home_variables g ≤ length made.vars →
      Matches g w made b calls waiting m (with_top s c)
  matches_on n c made b low same stands homes =
      matches_but (with_top s c) made b m same.proc matches.starts.runs.going refl same.room refl
      refl stands homes
      (record {
        input = matches.shows.input;
        words = matches.shows.words;
        events =
            matches.shows.events;
        taken = matches.shows.taken;
      })
      refl (record {
        proc = same.proc;
        aggregates = same.aggregates;
        args = same.args;
        below = refl;
        globals = refl;
      })
      (λ u lt. same.held u (omega (arith, lt, low)))
