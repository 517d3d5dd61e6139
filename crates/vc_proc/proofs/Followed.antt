-- All calls of a module do what they mean, by an induction on how much deeper they may stand; and
-- so does the module.
use Rattle.std.proofs.Common.{◌≡◌, ◌≢◌, ℕ, ℤ, zero, suc, ◌+◌, ◌-◌, ◌<◌, ◌≤◌, Bool, true, false}
use Rattle.std.proofs.Common.{List, [], ◌∷◌, length, map, Option, Some, None, refl, sym, ap, subst}
use Rattle.std.proofs.Common.{◌∙◌, arith}
use Rattle.std.specs.Prelude.{slice_get, nat_lt, if◌then◌else◌, replicate}
use Rattle.std.proofs.lemmas.Bool.{lt-ltb}
use Rattle.std.proofs.lemmas.Option.{get_or_from_slice_get, slice_get-get_or, slice_get_within}
use Rattle.pra_base.specs.Agreement.{Progress, Carried}
use Rattle.pra_base.specs.RunEnd.{RunEnd, Wrong}
use Rattle.pra_base.specs.RunEnd as run_end
use Rattle.pra_base.specs.Words.{stack_limit}
use Rattle.pra_base.proofs.Carried.{agree}
use Rattle.pra_base.specs.declared.code.VModule.{VModule}
use Rattle.pra_base.specs.declared.code.VProc.{VProc}
use Rattle.pra_base.specs.declared.event.OutEvent.{OutEvent}
use Rattle.pra_base.specs.declared.event.TrapKind.TheVariants.{Stack}
use Rattle.ob_syntax.specs.declared.checked.Checked.{Checked}
use Rattle.ob_syntax.specs.declared.checked.CheckedProc.{CheckedProc}
use Rattle.ob_mean.specs.Program.{frame_of, live_frames, on_stack, call_with, entered, body}
use Rattle.ob_mean.specs.Program.{body_of, called, around, only_body, start, progress_of}
use Rattle.ob_mean.specs.Program.{completion, mean}
use Rattle.ob_mean.specs.Statements as meant
use Rattle.ob_mean.specs.Statements.{Completion, Normal, Trapped, Going, Around, exec_all}
use Rattle.ob_mean.specs.declared.store.Argument.{Argument}
use Rattle.ob_mean.specs.declared.store.LiveCall.{LiveCall}
use Rattle.ob_mean.proofs.Budgets.{mean_keeps}
use Rattle.vc_build.proofs.Steps.{run_more}
use Rattle.vc_build.specs.Runs.{Codes, runs}
use Rattle.vc_call.proofs.Begun.{call_begins, module_begins}
use Rattle.vc_code.specs.declared.value.Value.TheVariants.{Num}
use Rattle.vc_code.specs.Machine.{Activation, State, depth, joined, found}
use Rattle.vc_code.specs.Machine.{entered as machine_entered, with_call, with_top, ended, returned}
use Rattle.vc_code.specs.Machine.{step, view}
use Rattle.vc_code.specs.Selected.{Vars, begin, begun, code_of, no_proc, selected, shape, vrun}
use Rattle.vc_code.specs.Selected.{RunsWell}
use Rattle.vc_code.specs.Selected as selection
use Rattle.vc_code.proofs.LongerRuns.{longer_runs_keep}
use Rattle.vc_relation.proofs.Returned.{returned_represents}
use Rattle.vc_select.proofs.Placing.{same_frames}
use Rattle.vc_select.specs.Selects.{selected_module}
use Rattle.vc_stmt.proofs.Completing.{completes_after, completes_behind}
use Rattle.vc_stmt.specs.Calls.{StandsAtCall, HasReturned, CallsFollow}
use Rattle.vc_stmt.specs.Completes.{are_words, Comes, HasEnding, Completes}
use Rattle.vc_stmt.specs.Procedures.{AtEntry, AtReturn, Embodies, AreEmbodied}
use Rattle.vc_typed.specs.TypedModules.{IsSelectable}

module _ (program : Checked) (w : Codes) (selectable : IsSelectable program)
    (all : AreEmbodied program w.procs) where
  record CodeOf (p : ℕ) : Type 0 where
    pub code : VProc
    pub there : slice_get w.procs p ≡ Some code
    pub embodies : Embodies program p code

  code_for : (p : ℕ) (proc : CheckedProc) → slice_get program.procs p ≡ Some proc → CodeOf p
  code_for p proc e =
      let lt = slice_get_within program.procs p proc e in
      let many = all.as_many in
      let there = slice_get-get_or w.procs p no_proc (omega (arith, lt, many)) in
      record {
        code = code_of w.procs p;
        there = there;
        embodies =
            all.each p (code_of w.procs p) there;
      }

  -- ---- one call

  module _ (turns least : ℕ) (calls : List LiveCall) (p : ℕ) (args : List Argument)
      (c : Activation Vars) (m : meant.State) (s : State Vars)
      (stands : StandsAtCall program w calls p args c m s) where
    abbrev proc : CheckedProc
    proc = stands.proc

    own : CodeOf p
    own = code_for p proc stands.there

    code_is : code_of w.procs p ≡ own.code
    code_is = get_or_from_slice_get w.procs p own.code no_proc own.there

    abbrev callee : Activation Vars
    callee = begun p own.code s.pushed

    abbrev inside : State Vars
    inside = with_call s callee (c ∷ s.below)

    begins : begin p (slice_get w.procs p) s.pushed ≡ Some callee
    begins = ap (λ o. begin p o s.pushed) own.there ∙ ap (λ b. if b then Some callee else None)
        (lt-ltb 0 (length own.code.blocks) own.embodies.some)

    into : runs w 1 s ≡ machine_entered (shape w.procs w.frames) s callee (c ∷ s.below)
    into = stands.step ∙ ap (λ o. found s o
        (λ x. machine_entered (shape w.procs w.frames) s x (c ∷ s.below))) begins

    frames_same : depth (shape w.procs w.frames) (callee ∷ c ∷ s.below) ≡
        live_frames w.frames calls + frame_of w.frames p
    frames_same =
        let rest : depth (shape w.procs w.frames) (c ∷ s.below) ≡ live_frames w.frames calls =
        same_frames w (c ∷ s.below) calls stands.represents.same_calls in
        omega (arith, rest)

    abbrev full : Bool
    full = nat_lt stack_limit (live_frames w.frames calls + frame_of w.frames p)

    into_by : runs w 1 s ≡ (if full then ended s (run_end.Trapped Stack) else inside)
    into_by = into ∙ ap (λ n. if nat_lt stack_limit n then ended s (run_end.Trapped Stack) else
        inside) frames_same

    abbrev after : meant.State
    after = record m { store = entered (suc (length calls)) args m.store }

    abbrev live : List LiveCall
    live = call_with p args ∷ calls

    abbrev waiting : List Vars
    waiting = map (λ d. d.home) (c ∷ s.below)

    at_entry : AtEntry program w p proc live waiting after inside
    at_entry = record {
      pushed = s.pushed;
      top = ap (λ z. begun p z s.pushed) (sym code_is);
      going = stands.going;
      compared = refl;
      no_more = refl;
      below = refl;
      shows = record {
        input = stands.shows.input;
        words = stands.shows.words;
        events =
            stands.shows.events;
        taken = stands.shows.taken;
      };
      represents = λ n has below globals.
          call_begins (selected_module program w) p proc args calls m.store (with_top s c) n
          selectable.laid stands.there stands.represents stands.pushed has
          (record { home = c.home; below = below; held = refl; globals = globals });
    }

    -- behind the statements the call returns
    returns : (m' : meant.State) (t : State Vars) → AtReturn program w live waiting m' t →
        Completes w t 0 (HasReturned program w calls c s.below) (Normal m')
    returns m' t at = by_below t.below refl
      where
        by_below : (below : List (Activation Vars)) → t.below ≡ below →
            Comes w t 0 (HasReturned program w calls c s.below m')
        by_below [] e = absurd (empty (sym (ap (map (λ d. d.home)) e) ∙ at.below))
          where
            empty : [] ≡ waiting → ⊥
            empty d = cc
        by_below (x ∷ rest) e =
            let back : runs w 1 t ≡ returned t (x ∷ rest) = at.step ∙ ap (returned t) e in
            let homes : map (λ (d : Activation Vars). d.home) (x ∷ rest) ≡ waiting =
            sym (ap (map (λ (d : Activation Vars). d.home)) e) ∙ at.below in
            record {
              steps = 1;
              enough = omega arith;
              good = subst (HasReturned program w calls c s.below m') (sym back) (record {
                going = at.going;
                compared = refl;
                pushed = at.pushed;
                homes = homes;
                represents = returned_represents (selected_module program w) t x rest e
                    (call_with p args) calls m'.store selectable.laid at.represents;
                shows = record {
                  input = at.shows.input;
                  words = at.shows.words;
                  events =
                      at.shows.events;
                  taken = at.shows.taken;
                };
              });
            }

    traps_here : full ≡ true → (o : Completion) →
        Completes w s least (HasReturned program w calls c s.below) (on_stack w.frames calls p m o)
    traps_here e o =
        subst (λ b. Completes w s least (HasReturned program w calls c s.below)
        (if b then Trapped Stack m else o)) (sym e)
        (record {
          steps = 1;
          enough = omega arith;
          good = subst (HasEnding (Some (run_end.Trapped Stack)) m)
              (sym (into_by ∙ ap (λ b. if b then ended s (run_end.Trapped Stack) else inside) e))
              (record {
                over = refl;
                shows =
                    record {
                      input = stands.shows.input;
                      words = stands.shows.words;
                      events =
                          stands.shows.events;
                      taken = stands.shows.taken;
                    };
              });
        })

    fits_here : full ≡ false → (o : Completion) →
        Completes w s least (HasReturned program w calls c s.below) o →
        Completes w s least (HasReturned program w calls c s.below) (on_stack w.frames calls p m o)
    fits_here e o y = subst (λ b. Completes w s least (HasReturned program w calls c s.below)
        (if b then Trapped Stack m else o)) (sym e) y

    goes_in : full ≡ false → runs w 1 s ≡ inside
    goes_in e = into_by ∙ ap (λ b. if b then ended s (run_end.Trapped Stack) else inside) e

    body_is : body program p ≡ proc.body
    body_is = ap body_of stands.there

    -- with what is around the statements of the call that begins
    does_body : (low : ℕ) (a : Around) → a.calls ≡ live → low ≤ a.turns → least ≤ 1 + low →
        CallsFollow program w low a → full ≡ false →
        Completes w s least (HasReturned program w calls c s.below)
        (exec_all program (body program p) a after)
    does_body low a is le fewer follows fits =
        let entry = subst (λ z. AtEntry program w p proc z waiting after inside)
        (sym is) at_entry in
        let done = own.embodies.means w low proc a waiting after inside selectable code_is
        stands.there entry le follows in
        let there = subst (λ b. Completes w inside low (AtReturn program w live waiting)
        (exec_all program b a after)) (sym body_is)
        (subst (λ z. Completes w inside low (AtReturn program w z waiting)
        (exec_all program proc.body a after)) is done) in
        completes_after w s inside 1 (goes_in fits) least low
        (HasReturned program w calls c s.below) (exec_all program (body program p) a after)
        (omega (arith, fewer))
        (completes_behind w inside low (AtReturn program w live waiting)
        (HasReturned program w calls c s.below) (exec_all program (body program p) a after)
        there returns)

  -- ---- all calls

  pub calls_follow : (turns deeper : ℕ) (calls : List LiveCall) (least : ℕ) → least ≤ turns →
      least ≤ deeper → CallsFollow program w least (around program w.frames turns deeper calls)
  calls_follow turns zero calls least lt ld = record {
    follows = λ p args c m s stands. by_stack p args c m s stands
        (nat_lt stack_limit (live_frames w.frames calls + frame_of w.frames p)) refl;
  }
    where
      by_stack : (p : ℕ) (args : List Argument) (c : Activation Vars) (m : meant.State)
          (s : State Vars) (stands : StandsAtCall program w calls p args c m s) (b : Bool) →
          nat_lt stack_limit (live_frames w.frames calls + frame_of w.frames p) ≡ b →
          Completes w s least (HasReturned program w calls c s.below)
          (called program w.frames turns zero calls p args m)
      by_stack p args c m s stands true e = traps_here turns least calls p args c m s stands e
          (Going m)
      by_stack p args c m s stands false e =
          fits_here turns least calls p args c m s stands e (Going m)
          (record {
            steps = 0;
            enough = ld;
            good =
                record { over = stands.going; shows = stands.shows };
          })
  calls_follow turns (suc deeper) calls least lt ld = record {
    follows = λ p args c m s stands. by_stack p args c m s stands
        (nat_lt stack_limit (live_frames w.frames calls + frame_of w.frames p)) refl
        (λ low le lf. calls_follow turns deeper (call_with p args ∷ calls) low le lf);
  }
    where
      by_stack : (p : ℕ) (args : List Argument) (c : Activation Vars) (m : meant.State)
          (s : State Vars) (stands : StandsAtCall program w calls p args c m s) (b : Bool) →
          nat_lt stack_limit (live_frames w.frames calls + frame_of w.frames p) ≡ b →
          ((low : ℕ) → low ≤ turns → low ≤ deeper →
          CallsFollow program w low
          (around program w.frames turns deeper (call_with p args ∷ calls))) →
          Completes w s least (HasReturned program w calls c s.below)
          (called program w.frames turns (suc deeper) calls p args m)
      by_stack p args c m s stands true e deeper_follow = traps_here turns least calls p args c m s
          stands e _
      by_stack p args c m s stands false e deeper_follow =
          fits_here turns least calls p args c m s stands e _
          (does_body turns least calls p args c m s stands (least - 1)
          (around program w.frames turns deeper (call_with p args ∷ calls)) refl
          (omega (arith, lt)) (omega arith)
          (deeper_follow (least - 1) (omega (arith, lt)) (omega (arith, ld))) e)

-- ---- the module

module _ (program : Checked) (codes : List VProc) (frames : List ℕ) (input : List ℤ)
    (selectable : IsSelectable program) (all : AreEmbodied program codes)
    (words : are_words input ≡ true) where
  abbrev w : Codes
  w = record { procs = codes; frames = frames }

  abbrev module_ : VModule
  module_ = record { procs = codes; data_words = program.data_words }

  abbrev first : State Vars
  first = selection.start module_ input

  abbrev main : CheckedProc
  main = selectable.typed.body

  own_main : CodeOf program w selectable all 0
  own_main = code_for program w selectable all 0 main selectable.typed.first

  main_is : code_of codes 0 ≡ own_main.code
  main_is = get_or_from_slice_get codes 0 own_main.code no_proc own_main.there

  zeros : (n k : ℕ) → k < n → joined (slice_get (replicate n (Some (Num 0))) k) ≡ Some (Num 0)
  zeros zero k lt = absurd (omega (arith, lt))
  zeros (suc n) zero lt = refl
  zeros (suc n) (suc k) lt = zeros n k (omega (arith, lt))

  begins_at : AtEntry program w 0 main only_body [] (start input) first
  begins_at = record {
    pushed = [];
    top = refl;
    going = refl;
    compared = refl;
    no_more = refl;
    below = refl;
    shows = record { input = refl; words = words; events = refl; taken = refl };
    represents = λ n has below globals.
        module_begins (selected_module program w) main n selectable.laid selectable.typed.first
        selectable.typed.no_params has below
        (λ k lt. ap (λ ws. joined (slice_get ws k)) globals ∙ zeros program.data_words k lt);
  }

  main_body_is : body program 0 ≡ main.body
  main_body_is = ap body_of selectable.typed.first

  completes : (n : ℕ) → Completes w first n (AtReturn program w only_body [])
      (completion program frames input n)
  completes n =
      subst (λ b. Completes w first n (AtReturn program w only_body [])
      (exec_all program b (around program frames n n only_body) (start input)))
      (sym main_body_is)
      (own_main.embodies.means w n main (around program frames n n only_body) [] (start input) first
      selectable main_is selectable.typed.first begins_at (omega arith)
      (calls_follow program w selectable all n n only_body n (omega arith) (omega arith)))

  -- what the run has come to is what the meaning has
  abbrev Result : Type 0
  Result = Progress OutEvent RunEnd

  abbrev result : Option RunEnd → meant.State → Result
  result ending m = record { ending = ending; events = m.events; taken = m.taken }

  shown : (ending : Option RunEnd) (m : meant.State) (s : State Vars) → HasEnding ending m s →
      view s ≡ result ending m
  shown ending m s has = let over = has.over in let events = has.shows.events in let taken =
      has.shows.taken in rw (over, events, taken) refl

  over_at_end : (m : meant.State) (t : State Vars) → AtReturn program w only_body [] m t →
      view (runs w 1 t) ≡ result (Some run_end.Ended) m
  over_at_end m t at = by_below t.below refl
    where
      by_below : (below : List (Activation Vars)) → t.below ≡ below → view (runs w 1 t) ≡
          result (Some run_end.Ended) m
      by_below [] e =
          let back : runs w 1 t ≡ ended t run_end.Ended = at.step ∙ ap (returned t) e in
          ap view back ∙ shown (Some run_end.Ended) m (ended t run_end.Ended)
          (record {
            over = refl;
            shows =
                record {
                  input = at.shows.input;
                  words = at.shows.words;
                  events = at.shows.events;
                  taken = at.shows.taken;
                };
          })
      by_below (x ∷ rest) e = absurd (full (sym (ap (map (λ d. d.home)) e) ∙ at.below))
        where
          full : map (λ (d : Activation Vars). d.home) (x ∷ rest) ≡ [] → ⊥
          full d = cc

  -- a count of steps of the machine, at least so many where the meaning goes on, with what the
  -- meaning has come to
  record Found (least : ℕ) (r : Result) : Type 0 where
    pub steps : ℕ
    pub enough : r.ending ≡ None → least ≤ steps
    pub is : view (runs w steps first) ≡ r

  find : (n : ℕ) (o : Completion) → Completes w first n (AtReturn program w only_body []) o →
      Found n (progress_of o)
  find n (Normal m) y = record {
    steps = y.steps + 1;
    enough = λ e. absurd (goes e);
    is = ap view (run_more (step (selected codes frames)) y.steps 1 first)
        ∙ over_at_end m (runs w y.steps first) y.good;
  }
    where
      goes : ◌≡◌ {A = Option RunEnd} (Some run_end.Ended) None → ⊥
      goes e = cc
  find n (Trapped trap m) y = record {
    steps = y.steps;
    enough = λ e. absurd (goes e);
    is = shown (Some (run_end.Trapped trap)) m (runs w y.steps first) y.good;
  }
    where
      goes : ◌≡◌ {A = Option RunEnd} (Some (run_end.Trapped trap)) None → ⊥
      goes e = cc
  find n (Going m) y = record {
    steps = y.steps;
    enough = λ e. y.enough;
    is =
        shown None m (runs w y.steps first) y.good;
  }

  pub module_carried : Carried (mean program frames input) (vrun module_ frames input)
  module_carried = record {
    ends = λ n over. let f = find n (completion program frames input n) (completes n) in
        (f.steps, f.is);
    goes = λ least. (
      least,
      λ n le going. let f = find n (completion program frames input n) (completes n) in
          (f.steps, omega (arith, le, f.enough going), f.is),
    );
  }

  -- the meaning never goes wrong
  never_wrong : (o : Completion) → (progress_of o).ending ≢ Some Wrong
  never_wrong (Normal m) e = cc
  never_wrong (Trapped trap m) e = cc
  never_wrong (Going m) e = cc

  pub module_well : RunsWell module_ frames input
  module_well k e =
      let both = agree (mean program frames input) (vrun module_ frames input) module_carried
      (mean_keeps program frames input) (longer_runs_keep (selected codes frames) first) in
      let x = both.back.ends k (λ none. goes_not (sym none ∙ e)) in
      never_wrong (completion program frames input x.0) (ap (λ (r : Result). r.ending) x.1 ∙ e)
    where
      goes_not : ◌≡◌ {A = Option RunEnd} None (Some Wrong) → ⊥
      goes_not d = cc
