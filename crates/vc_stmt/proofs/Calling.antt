-- A call: the arguments, the pushes, and what the call does.
use Rattle.std.proofs.Common.{◌≡◌, ℕ, suc, ◌+◌, true, List, [], ◌∷◌, map, length, Option, Some}
use Rattle.std.proofs.Common.{None, refl, sym, ap, ◌∙◌, arith, length-append}
use Rattle.std.specs.Prelude.{◌&&◌, slice_get}
use Rattle.pra_list.proofs.Elements.{head_same, tail_same}
use Rattle.pra_list.proofs.Choices.{and_true}
use Rattle.pra_base.specs.Code as code
use Rattle.pra_base.specs.declared.ids.ProcId.{ProcId}
use Rattle.pra_base.specs.declared.ids.VarId.{VarId}
use Rattle.pra_base.specs.declared.code.VInstr.TheVariants.{Call}
use Rattle.pra_base.specs.declared.code.VProc.{VProc}
use Rattle.ob_syntax.specs.WellFormed.{lent_by}
use Rattle.ob_syntax.specs.declared.checked.CheckedProc.{CheckedProc}
use Rattle.ob_syntax.specs.declared.checked.RArg.{RArg}
use Rattle.ob_syntax.specs.declared.checked.RStmt.{RStmt-F}
use Rattle.ob_mean.specs.Statements as mean
use Rattle.ob_mean.specs.Statements.{Around, arguments, stmt_step}
use Rattle.ob_mean.specs.declared.store.Argument.{Argument}
use Rattle.vc_code.specs.Value.{Words}
use Rattle.vc_code.specs.Machine.{Activation, State, with_top}
use Rattle.vc_code.specs.Selected.{Vars, code_of, at_point}
use Rattle.vc_build.specs.Grow.{IsOpen, Grows}
use Rattle.vc_build.specs.Runs.{Codes, runs, Stands, SameBelow}
use Rattle.vc_build.proofs.Growth.{grows_on, grows_at_again, put_code, put_open, put_grows}
use Rattle.vc_build.proofs.Steps.{performs}
use Rattle.vc_select.specs.declared.target.Setting.{Setting}
use Rattle.vc_select.proofs.Keeping.{extends_on, extends_at}
use Rattle.vc_typed.specs.TypedStatements.{is_call, are_passed}
use Rattle.vc_stmt.specs.Completes.{Completes}
use Rattle.vc_stmt.specs.Calls.{StandsAtCall, HasReturned, CallsFollow}
use Rattle.vc_stmt.specs.Does.{Matches, Does}
use Rattle.vc_stmt.specs.Passes.{HaveArguments, PassesAll, with_pushes, with_call}
use Rattle.vc_stmt.specs.Sound.{addressed}
use Rattle.vc_stmt.proofs.Completing.{completes_after, completes_as, completes_value, shows_over}
use Rattle.vc_stmt.proofs.Matching.{starts_with, represents_but, matches_as, matches_on}
use Rattle.vc_stmt.proofs.Pushing.{pushes_grow, pushes_open, pushes_code, pushed_onto, helds}
use Rattle.vc_stmt.proofs.Pushing.{are_pushed, stood, pushes_run}

module _ (g : Setting) (old : VProc) (at : ℕ) (p : ProcId) (vs : List VarId) (o : IsOpen old at)
  where
    abbrev pushed_code : VProc
    pushed_code = with_pushes at vs old

    abbrev new : VProc
    new = with_call at p vs old

    pushed_open : IsOpen pushed_code at
    pushed_open = pushes_open at vs old o

    module _ (w : Codes) (least : ℕ) (a : Around) (waiting : List Vars) (m : mean.State)
        (s : State Vars) (proc : CheckedProc) (xs : List Argument)
        (final : Grows new (code_of w.procs g.id.0))
        (matches : Matches g w old at a.calls waiting m s)
        (there : slice_get g.program.now.procs p.0 ≡ Some proc)
        (has : HaveArguments g.program.now w g.id.0 a.calls proc.params xs vs s.top)
        (follow : CallsFollow g.program.now w least a) where
      pushed_final : Grows pushed_code (code_of w.procs g.id.0)
      pushed_final = grows_on pushed_code new (code_of w.procs g.id.0)
          (put_grows at (Call p) pushed_code pushed_open).grows final

      abbrev at_index : ℕ → Words → State Vars
      at_index n pushed = stood g w a.calls at s matches.starts.runs.proc
          matches.starts.stands.block
          matches.starts.runs.going matches.starts.runs.room n pushed

      abbrev index_at_call : ℕ
      index_at_call = s.top.home.index + length vs

      abbrev before : State Vars
      before = at_index index_at_call
          (pushed_onto (helds g.program.now w g.id.0 a.calls s.top vs) [])

      abbrev caller : Activation Vars
      caller = at_point s.top s.top.home.block (suc index_at_call) s.top.home.held

      itself : s ≡ at_index s.top.home.index []
      itself = ap (λ c. record s { compared = c }) matches.starts.runs.compared
          ∙ ap (λ z. record s { compared = None; pushed = z }) matches.pushed

      arrives : runs w (length vs) s ≡ before
      arrives =
          ap (runs w (length vs)) itself
          ∙ pushes_run g w a.calls at s matches.starts.runs.proc matches.starts.stands.block
          matches.starts.runs.going matches.starts.runs.room proc.params xs vs old
          s.top.home.index [] has o matches.starts.stands.index pushed_final

      stands_before : Stands pushed_code at before.top
      stands_before = record {
        block = matches.starts.stands.block;
        index =
            omega (arith, matches.starts.stands.index, pushes_code at vs old o);
      }

      stands_at_call : StandsAtCall g.program.now w a.calls p.0 xs caller m before
      stands_at_call = record {
        step = performs w g.id.0 at pushed_code before pushed_open stands_before (Call p)
            (record {
              proc = matches.starts.runs.proc;
              holds = final;
              going =
                  matches.starts.runs.going;
              compared = refl;
              room = matches.starts.runs.room;
            });
        going = matches.starts.runs.going;
        represents = represents_but g w old at a.calls waiting m s matches (with_top before caller)
            (record { proc = refl; aggregates = refl; args = refl; below = refl; globals = refl })
            (λ u lt. refl);
        shows = shows_over m s before refl refl refl matches.shows;
        proc = proc;
        there = there;
        pushed = are_pushed g.program.now w g.id.0 a.calls s.top proc.params xs vs has;
      }

      returns : (after : mean.State) (t : State Vars) → HasReturned g.program.now w a.calls caller
          before.below after t → Matches g w new at a.calls waiting after t
      returns after t back =
          let home = head_same t.top.home caller.home (map (λ c. c.home) t.below)
          (map (λ c. c.home) s.below) back.homes in
          let below = tail_same t.top.home caller.home (map (λ c. c.home) t.below)
          (map (λ c. c.home) s.below) back.homes in
          let proc_same = head_same t.top.proc s.top.proc (map (λ c. c.proc) t.below)
          (map (λ c. c.proc) s.below)
          (back.represents.same_calls ∙ sym matches.starts.represents.same_calls) in
          matches_as g w old at a.calls waiting m s matches t new at after proc_same back.going
          back.compared (ap (λ h. length h.held) home) (back.pushed ∙ sym matches.pushed) below
          (record {
            block = ap (λ h. h.block) home ∙ matches.starts.stands.block;
            index = ap (λ h. h.index) home
                ∙ omega (
                  arith,
                  matches.starts.stands.index,
                  pushes_code at vs old o,
                  ap (λ z. length z) (put_code at (Call p) pushed_code pushed_open),
                  length-append (code.code_of pushed_code at) (Call p ∷ []),
                );
          })
          (omega (arith, matches.starts.homes, (pushes_grow at vs old o).grows.vars))
          back.shows back.represents

      pub calls_it : Completes w s least (Matches g w new at a.calls waiting) (a.call p.0 xs m)
      calls_it =
          completes_after w s before (length vs) arrives least least
          (Matches g w new at a.calls waiting) (a.call p.0 xs m) (omega arith)
          (completes_as w before least (HasReturned g.program.now w a.calls caller before.below)
          (Matches g w new at a.calls waiting) (a.call p.0 xs m) returns
          (follow.follows p.0 xs caller m before stands_at_call))

-- ---- the statement

module _ (g : Setting) (old mid : VProc) (from to : ℕ) (p : ProcId) (vs : List VarId)
    (args : List RArg) (q : PassesAll g old mid from to vs args) where
  abbrev called : VProc
  called = with_call to p vs mid

  mid_called : Grows mid called
  mid_called = (grows_at_again mid (with_pushes to vs mid) called to
      (pushes_grow to vs mid q.extends.is_open)
      (put_grows to (Call p) (with_pushes to vs mid)
      (pushes_open to vs mid q.extends.is_open))).grows

  known_call : (o : Option CheckedProc) → is_call g.program.now g.id.0 o args ≡ true →
      (proc : CheckedProc) × (o ≡ Some proc) ×
      (are_passed g.program.now g.id.0 proc.params args ≡ true)
  known_call None e = cc
  known_call (Some proc) e = (proc, refl, e)

  pub does_call : Does g old called from to
      (is_call g.program.now g.id.0 (slice_get g.program.now.procs p.0) args && addressed
      g.program.now g.id.0 (lent_by args)) (stmt_step g.program.now (RStmt-F.Call p args))
  does_call = record {
    extends = extends_on from to to old mid called q.extends
        (extends_at to mid called
        (grows_at_again mid (with_pushes to vs mid) called to
        (pushes_grow to vs mid q.extends.is_open)
        (put_grows to (Call p) (with_pushes to vs mid)
        (pushes_open to vs mid q.extends.is_open)))
        (put_open to (Call p) (with_pushes to vs mid) (pushes_open to vs mid q.extends.is_open)));
    means = λ w least a waiting m s final matches sound le follow.
        let both = and_true (is_call g.program.now g.id.0 (slice_get g.program.now.procs p.0) args)
        (addressed g.program.now g.id.0 (lent_by args)) sound in
        let callee = known_call (slice_get g.program.now.procs p.0) both.0 in
        completes_value w s least m (λ xs c. Stands mid to c × SameBelow (length old.vars) s.top c ×
        HaveArguments g.program.now w g.id.0 a.calls callee.0.params xs vs c)
        (Matches g w called to a.calls waiting) (arguments g.program.now a.calls m.store args)
        (λ xs. a.call p.0 xs m) matches.shows
        (q.means w a.calls m.store s callee.0.params
        (starts_with g w old from a.calls waiting m s matches mid
        (grows_on mid called (code_of w.procs g.id.0) mid_called final)) callee.2 both.1)
        (λ xs c found.
        calls_it g mid to p vs q.extends.is_open w least a waiting m (with_top s c) callee.0 xs
        final
        (matches_on g w old from a.calls waiting m s matches (length old.vars) c mid to
        matches.starts.homes found.1 found.0
        (omega (arith, matches.starts.homes, q.extends.grows.grows.vars)))
        callee.1 found.2 follow);
  }
