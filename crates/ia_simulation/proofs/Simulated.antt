-- The machine carries placed code whose instructions are carried.
use Rattle.std.proofs.Common.{◌≡◌, ◌≢◌, ℕ, ◌+◌, List, [], ◌∷◌, length, Some, None, refl, sym, ap}
use Rattle.std.proofs.Common.{◌∙◌, arith}
use Rattle.std.specs.Prelude.{ℤ}
use Rattle.ia_code.specs.declared.image.Image.{Image}
use Rattle.ia_code.specs.Listing.{bytes_of_all}
use Rattle.ia_emit.specs.Code.{code_of}
use Rattle.ia_step.specs.Run.{Ran, advance, begin, view, ran, progress}
use Rattle.ia_step.specs.State as machine
use Rattle.pl_place.specs.declared.placed.LInstr.{LInstr}
use Rattle.pl_place.specs.declared.placed.LProc.{LProc}
use Rattle.pl_place.specs.Machine.{Cells, lrun, placed_machine, start}
use Rattle.pra_base.specs.declared.code.End.{End}
use Rattle.pra_base.specs.declared.code.End.TheVariants as end
use Rattle.pra_base.specs.declared.event.OutEvent.{OutEvent}
use Rattle.pra_base.specs.Agreement.{Progress, Carried, ReachesUntil}
use Rattle.pra_base.specs.RunEnd.{RunEnd, Wrong}
use Rattle.pra_base.specs.System.{run, Simulates}
use Rattle.pra_base.proofs.Carried.{agree}
use Rattle.pra_base.proofs.Simulation.{carried, reaches_until, run_more}
use Rattle.vc_code.specs.Machine.{State, step}
use Rattle.vc_code.specs.Machine as low
use Rattle.vc_code.proofs.LongerRuns.{is_machine, longer_runs_keep}
use Rattle.ia_step.proofs.Runs.{progress_keeps}
use Rattle.ia_simulation.specs.Realizes.{IsLoadable, AreWords, Realizes, most, measure, StepLeads}
use Rattle.ia_simulation.specs.Realizes.{EachIsCarried}
use Rattle.ia_simulation.proofs.Standing as standing
use Rattle.ia_simulation.proofs.Start.{starts}
use Rattle.ia_simulation.proofs.Steps as steps
use Rattle.ia_simulation.proofs.Whole as whole

-- what is carried from some steps on is carried from the start
carried_later : {E F : Type 0} (a b c : ℕ → Progress E F) (k : ℕ) → ((m : ℕ) → c m ≡ b (k + m)) →
    Carried a c → Carried a b
carried_later a b c k later z = record {
  ends = λ n over. let x = z.ends n over in (k + x.0, sym (later x.0) ∙ x.1);
  goes = λ least.
      let g = z.goes least in (
        g.0,
        λ n le going. let x = g.1 n le going in
            (k + x.0, omega (arith, x.1), sym (later x.0) ∙ x.2),
      );
}

-- and so is what is reached until a is stuck
until_later : {E F : Type 0} (stuck : F) (a b c : ℕ → Progress E F) (k : ℕ) →
    ((m : ℕ) → c m ≡ b (k + m)) → ReachesUntil stuck a c → ReachesUntil stuck a b
until_later stuck a b c k later z n ok = let x = z n ok in (k + x.0, sym (later x.0) ∙ x.1)

module _ (procs : List LProc) (data_words : ℕ) (ok : IsLoadable procs data_words)
    (each : EachIsCarried procs) where
  same_view : (s : State Cells) (r : Ran) → Realizes procs s r → view r ≡ low.view s
  same_view s r y =
      ap (λ e. let p : Progress OutEvent RunEnd =
      record { ending = e; events = r.events; taken = r.state.taken } in p) y.ending
      ∙ ap (λ e. let p : Progress OutEvent RunEnd =
      record { ending = s.over; events = e; taken = r.state.taken } in p) y.events
      ∙ ap (λ n. let p : Progress OutEvent RunEnd =
      record { ending = s.over; events = s.events; taken = n } in p) y.taken

  end_leads : (s : State Cells) (r : Ran) → Realizes procs s r → s.over ≡ None → s.top.home.rest ≡
      [] → (e : End) → s.top.home.end ≡ e → StepLeads procs s r
  end_leads s r y o done (end.Jump b) e = whole.jumps b procs data_words ok s r y o done e
  end_leads s r y o done (end.Branch c one other) e = whole.branches c one other procs data_words ok
      s r y o done e
  end_leads s r y o done end.Return e = whole.returns procs data_words ok s r y o done e

  step_leads : (s : State Cells) (r : Ran) → Realizes procs s r → s.over ≡ None →
      (rest : List LInstr) → s.top.home.rest ≡ rest → StepLeads procs s r
  step_leads s r y o [] e = end_leads s r y o e s.top.home.end refl
  step_leads s r y o (i ∷ more) e =
      let x = steps.x procs data_words ok s r y o in
      let is = standing.instr_is procs s.top.proc s.top.home.block s.top.home.rest s.top.home.end
      (length s.pushed) r.state.eip x.stands i more e in
      each s.top.proc _ x.stands.there s.top.home.block x.stands.index i is procs data_words ok s r
      y o more e

  simulates : Simulates (step (placed_machine procs)) low.view advance view Wrong (most procs)
      (measure procs) (Realizes procs)
  simulates = record {
    same = λ s r y. same_view s r y;
    bounded = λ s. omega arith;
    moves = λ s r y o ns. step_leads s r y o s.top.home.rest refl ns;
  }

  module _ (image : Image) (code : image.code ≡ bytes_of_all (code_of procs))
      (words : image.data_words ≡ data_words) (input : List ℤ) (fits : AreWords input) where
    pub follows : ((k : ℕ) → (lrun procs data_words input k).ending ≢ Some Wrong) →
        Carried (lrun procs data_words input) (progress image input)
    follows never =
        let m = machine.start image input in
        let s = start procs data_words input in
        let z = starts procs data_words ok image code words input fits in
        let later = carried (step (placed_machine procs)) low.view advance view Wrong (most procs)
        (measure procs) (Realizes procs) (is_machine (placed_machine procs)) simulates s
        (ran m z.0) z.1 never in
        carried_later (lrun procs data_words input) (progress image input)
        (λ n. view (run advance n (ran m z.0))) z.0
        (λ n. ap view (sym (run_more advance z.0 n (begin m)))) later

    pub until : ReachesUntil Wrong (lrun procs data_words input) (progress image input)
    until =
        let m = machine.start image input in
        let s = start procs data_words input in
        let z = starts procs data_words ok image code words input fits in
        let later = reaches_until (step (placed_machine procs)) low.view advance view Wrong
        (most procs) (measure procs) (Realizes procs) (is_machine (placed_machine procs)) simulates
        s (ran m z.0) z.1 in
        until_later Wrong (lrun procs data_words input) (progress image input)
        (λ n. view (run advance n (ran m z.0))) z.0
        (λ n. ap view (sym (run_more advance z.0 n (begin m)))) later

    -- and it never goes wrong
    pub never_wrong : ((k : ℕ) → (lrun procs data_words input k).ending ≢ Some Wrong) → (m : ℕ) →
        (progress image input m).ending ≢ Some Wrong
    never_wrong never m is =
        let a = lrun procs data_words input in
        let b = progress image input in
        let agreed = agree a b (follows never)
        (longer_runs_keep (placed_machine procs) (start procs data_words input))
        (progress_keeps image input) in
        let x = agreed.back.ends m (λ none. some_none (sym is ∙ none)) in
        never x.0 (ap (λ (p : Progress OutEvent RunEnd). p.ending) x.1 ∙ is)
      where
        some_none : {A : Type 0} {x : A} → Some x ≡ None → ⊥
        some_none e = cc
