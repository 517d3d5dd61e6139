-- At the code of a trap the machine traps as placed code does.
use Rattle.std.proofs.Common.{◌≡◌, ℕ, ◌+◌, List, refl, sym, ap, ◌∙◌, subst, arith, inl}
use Rattle.ia_emit.specs.Code.{stub, stub_start}
use Rattle.ia_step.specs.declared.out.StepOut.TheVariants as out
use Rattle.ia_step.specs.Run.{Ran, advance}
use Rattle.ia_step.specs.State as machine
use Rattle.ia_step.proofs.Reaches.{Reaches, reach_on, advance_step}
use Rattle.pl_place.specs.declared.placed.LProc.{LProc}
use Rattle.pl_place.specs.Machine.{Cells}
use Rattle.pra_base.specs.declared.event.TrapKind.{TrapKind}
use Rattle.pra_base.specs.RunEnd.{Trapped}
use Rattle.pra_base.specs.System.{run}
use Rattle.pra_base.proofs.Simulation.{run_more}
use Rattle.vc_code.specs.Value.{Words}
use Rattle.vc_code.specs.Machine.{State, ended}
use Rattle.ia_simulation.specs.Realizes.{IsLoadable, Realizes, Leads}
use Rattle.ia_simulation.proofs.Enter.{numbered, stopped, numbers, stops}
use Rattle.ia_simulation.proofs.Places.{no_target}
use Rattle.ia_simulation.proofs.Walks.{Walks}

pub traps_lead : (procs : List LProc) (data_words : ℕ) (ok : IsLoadable procs data_words)
    (s : State Cells) (r : Ran) (y : Realizes procs s r) (trap : TrapKind) (k : ℕ)
    (t : machine.State) (words : Words) →
    Reaches k r.state t → Walks procs t words no_target (stub_start trap) (stub trap) → t.taken ≡
    r.state.taken → Leads procs s r (ended s (Trapped trap))
traps_lead procs data_words ok s r y trap k t words reach w same =
    let a = numbered procs ok.sound t words trap w in
    let b = stopped procs ok.sound t words trap w in
    let all : Reaches (k + 1) r.state a = reach_on k 1 r.state t a reach
    (numbers procs ok.sound t words trap w) in (
      k + 1 + 1,
      inl (omega arith),
      subst (Realizes procs (ended s (Trapped trap)))
          (sym (run_more advance (k + 1) 1 r ∙ ap (run advance 1) (all.by r.events r.steps)
          ∙ advance_step a b (out.Trap trap) w.going (stops procs ok.sound t words trap w)
          r.events (r.steps + (k + 1)))) (record {
            ending = refl;
            events = y.events;
            taken = same ∙ y.taken;
            going = λ e. cc;
          }),
    )
