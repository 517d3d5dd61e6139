-- Code that was selected behind the opening, and is left by Return, embodies its procedure.
use Rattle.std.proofs.Common.{◌≡◌, ℕ, ◌<◌, ◌≤◌, true, false, ⊎_elim, List, length, map, Some, None}
use Rattle.std.proofs.Common.{refl, sym, ap, ◌∙◌, subst, arith}
use Rattle.std.specs.Prelude.{slice_get, slice_index_or, ◌&&◌}
use Rattle.std.specs.List.{list_any}
use Rattle.std.proofs.lemmas.List.{get_or-map, length-map}
use Rattle.std.proofs.lemmas.Option.{slice_get-get_or, get_or_from_slice_get}
use Rattle.pra_list.proofs.Options.{some_same}
use Rattle.pra_base.specs.Code.{kind_of}
use Rattle.pra_base.specs.declared.code.End.TheVariants.{Return}
use Rattle.pra_base.specs.declared.code.VarKind.{VarKind}
use Rattle.pra_base.specs.declared.code.VarKind.TheVariants as kind
use Rattle.pra_base.specs.declared.code.VarKind.TheVariants.{Plain}
use Rattle.pra_base.specs.declared.code.VProc.{VProc}
use Rattle.ob_syntax.specs.declared.checked.Checked.{Checked}
use Rattle.ob_syntax.specs.declared.checked.CheckedProc.{CheckedProc}
use Rattle.ob_syntax.specs.declared.checked.Param.{Param}
use Rattle.ob_mean.specs.Statements as mean
use Rattle.ob_mean.specs.Statements.{Around, exec_all}
use Rattle.ob_mean.specs.declared.store.LiveCall.{LiveCall}
use Rattle.vc_code.specs.Value.{Words}
use Rattle.vc_code.specs.Machine.{Activation, State, is_param, with_top}
use Rattle.vc_code.specs.Selected.{Vars, argument, code_of}
use Rattle.vc_build.specs.Grow.{with_end, Grows}
use Rattle.vc_build.proofs.Open.{return_real}
use Rattle.vc_build.specs.Runs.{Codes, RunsIn}
use Rattle.vc_build.proofs.Growth.{grows_on, grows_same, closed_count, closed_grows}
use Rattle.vc_build.proofs.Steps.{leaves}
use Rattle.vc_call.specs.Begins.{HasBegun}
use Rattle.vc_relation.specs.Homes.{in_variable, param_variable, local_variable, home_count}
use Rattle.vc_relation.specs.Relation.{homes_in}
use Rattle.vc_select.specs.declared.target.Setting.{Setting}
use Rattle.vc_select.specs.Selects.{IsSet, home_variables, is_constant, selected_module}
use Rattle.vc_stmt.specs.Calls.{CallsFollow}
use Rattle.vc_stmt.specs.Completes.{Completes}
use Rattle.vc_stmt.specs.Does.{Matches, Does}
use Rattle.vc_stmt.specs.Procedures.{AtEntry, AtReturn, Embodies}
use Rattle.vc_stmt.specs.Sound.{addressed, addressed_in, are_sound}
use Rattle.vc_stmt.proofs.Completing.{completes_as, completes_reached}
use Rattle.vc_typed.specs.TypedModules.{IsSelectable, lent_in_all}
use Rattle.vc_proc.specs.Opening.{home_kinds, opened}
use Rattle.vc_proc.proofs.HomeVariables.{kinds_length, FromParam, FromLocal, kind_from}
use Rattle.vc_proc.proofs.HomeVariables.{kind_of_param, param_below, local_above, local_below}
use Rattle.vc_proc.proofs.Entering.{Entered, enters}

-- no variable that is a home is a constant
home_varies : (proc : CheckedProc) (v : ℕ) (x : VarKind) → slice_get (home_kinds proc) v ≡ Some x →
    is_constant x ≡ false
home_varies proc v x e =
    ⊎_elim (λ (f : FromParam 0 proc.params v x). ap is_constant f.is)
    (λ (l : FromLocal proc v x). ap is_constant l.is) (kind_from proc v x e)

module _ (g : Setting) (set : IsSet g) (proc : CheckedProc)
    (there : slice_get g.program.now.procs g.id.0 ≡ Some proc) (new : VProc) (to : ℕ)
    (cells : (k : ℕ) (param : Param) → slice_get proc.params k ≡ Some param → in_variable param ≡
    false → list_any (is_param k) new.vars ≡ false)
    (does : Does g (opened g.id.0 proc) new 0 to (are_sound g.program.now g.id.0 proc.body)
    (exec_all g.program.now proc.body)) where
  abbrev program : Checked
  program = g.program.now

  abbrev p : ℕ
  p = g.id.0

  abbrev old : VProc
  old = opened p proc

  abbrev made : VProc
  made = with_end to Return new

  homes_are : home_variables g ≡ home_count proc
  homes_are = ap homes_in there

  pub sound : IsSelectable program → are_sound program p proc.body ≡ true
  sound selectable =
      let is = selectable.typed.procs p proc there in
      ap (λ b. b && addressed program p (lent_in_all proc.body)) is.typed
      ∙ ap (λ o. addressed_in o (lent_in_all proc.body)) there
      ∙ is.lends

  module _ (w : Codes) (code_is : code_of w.procs p ≡ made) where
    abbrev final : VProc
    final = code_of w.procs p

    new_grows : Grows new final
    new_grows = subst (Grows new) (sym code_is)
        (closed_grows to Return new does.extends.is_open).grows

    old_grows : Grows old final
    old_grows = grows_on old new final does.extends.grows.grows new_grows

    -- the variables that are homes are the first ones of the whole code
    home_is : (v : ℕ) (x : VarKind) → slice_get (home_kinds proc) v ≡ Some x → v < home_count proc →
        kind_of final v ≡ x
    home_is v x e lt = old_grows.kinds v (omega (arith, lt, kinds_length proc))
        ∙ get_or_from_slice_get (home_kinds proc) v x Plain e

    varies : (v : ℕ) → v < home_variables g → is_constant (kind_of final v) ≡ false
    varies v lt =
        let below : v < length (home_kinds proc) =
        omega (arith, lt, homes_are, kinds_length proc) in
        let at = slice_get-get_or (home_kinds proc) v Plain below in
        ap is_constant (old_grows.kinds v below) ∙ home_varies proc v
        (slice_index_or (home_kinds proc) v Plain) at

    module _ (calls : List LiveCall) (waiting : List Vars) (m : mean.State) (s : State Vars)
        (entry : AtEntry program w p proc calls waiting m s) where
      abbrev begins_with : Words
      begins_with = map (argument entry.pushed) final.vars

      module _ (c : Activation Vars) (e : Entered p proc entry.pushed begins_with c) where
        param_held : (k : ℕ) (param : Param) → slice_get proc.params k ≡ Some param →
            in_variable param ≡ true → slice_index_or c.home.held (param_variable proc k) None ≡
            argument entry.pushed (kind.Param k)
        param_held k param at inside =
            let low = param_below proc k param at inside in
            let below : param_variable proc k < home_count proc = omega (arith, low) in
            let within : param_variable proc k < length final.vars =
            omega (arith, below, kinds_length proc, old_grows.vars) in
            e.params (param_variable proc k) low
            ∙ get_or-map (argument entry.pushed) final.vars (param_variable proc k) Plain None
            within
            ∙ ap (argument entry.pushed)
            (home_is (param_variable proc k) (kind.Param k)
            (kind_of_param proc k param at inside) below)

        has_begun : HasBegun (selected_module program w) p proc entry.pushed (with_top s c)
        has_begun = record {
          proc_is = e.proc_is;
          args = e.args;
          params = param_held;
          cells = λ k param at outside. ap (λ (z : VProc). list_any (is_param k) z.vars) code_is
              ∙ cells k param at outside;
          locals = λ k local at inside. e.locals (local_variable proc k) (local_above proc k)
              (local_below proc k local at inside);
          aggregates = e.aggregates;
        }

        matches : Matches g w old 0 calls waiting m (with_top s c)
        matches = record {
          starts = record {
            set = set;
            homes = omega (arith, homes_are, kinds_length proc);
            variables = varies;
            runs = record {
              proc = e.proc_is;
              holds = grows_same final;
              going = entry.going;
              compared = refl;
              room = e.room ∙ length-map final.vars (argument entry.pushed);
            };
            stands = record { block = e.block; index = e.index };
            represents = entry.represents (with_top s c) has_begun refl refl;
          };
          shows = record {
            input = entry.shows.input;
            words = entry.shows.words;
            events =
                entry.shows.events;
            taken = entry.shows.taken;
          };
          pushed = entry.no_more;
          below = entry.below;
        }

    -- the last block is left by Return
    at_return : (calls : List LiveCall) (waiting : List Vars) (m : mean.State) (t : State Vars) →
        Matches g w new to calls waiting m t → AtReturn program w calls waiting m t
    at_return calls waiting m t matched =
        let r = matched.starts.runs in
        let in_made : RunsIn w p made t =
        record {
          proc = r.proc;
          holds = subst (Grows made) (sym code_is) (grows_same made);
          going = r.going;
          compared = r.compared;
          room = r.room;
        } in
        record {
          step = leaves w p to new t does.extends.is_open matched.starts.stands Return return_real
              in_made;
          going = r.going;
          compared = r.compared;
          pushed = matched.pushed;
          below = matched.below;
          represents = matched.starts.represents;
          shows = matched.shows;
        }

    means_it : (least : ℕ) (a : Around) (waiting : List Vars) (m : mean.State) (s : State Vars) →
        IsSelectable program → AtEntry program w p proc a.calls waiting m s → least ≤ a.turns →
        CallsFollow program w least a →
        Completes w s least (AtReturn program w a.calls waiting) (exec_all program proc.body a m)
    means_it least a waiting m s selectable entry le follows =
        completes_reached w s least
        (Entered p proc entry.pushed (begins_with a.calls waiting m s entry))
        (AtReturn program w a.calls waiting) (exec_all program proc.body a m)
        (enters w p proc s entry.pushed entry.top entry.going entry.compared old_grows)
        (λ c e.
        completes_as w (with_top s c) least (Matches g w new to a.calls waiting)
        (AtReturn program w a.calls waiting) (exec_all program proc.body a m)
        (at_return a.calls waiting)
        (does.means w least a waiting m (with_top s c) new_grows
        (matches a.calls waiting m s entry c e) (sound selectable) le follows))

  -- whatever it is called, the procedure is the one of this number
  same_proc : (other : CheckedProc) → slice_get program.procs p ≡ Some other → proc ≡ other
  same_proc other e = some_same proc other (sym there ∙ e)

  pub embodies : Embodies program p made
  embodies = record {
    some = omega (arith, closed_count to Return new does.extends.is_open, does.extends.is_open.0);
    cells = λ other k param e at outside. cells k param
        (ap (λ (z : CheckedProc). slice_get z.params k) (same_proc other e) ∙ at) outside;
    means = λ w least other a waiting m s selectable code_is e entry le follows.
        subst (λ (z : CheckedProc). Completes w s least (AtReturn program w a.calls waiting)
        (exec_all program z.body a m)) (same_proc other e)
        (means_it w code_is least a waiting m s selectable
        (subst (λ (z : CheckedProc). AtEntry program w p z a.calls waiting m s)
        (sym (same_proc other e)) entry) le follows);
  }
