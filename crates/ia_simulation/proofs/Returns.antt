-- A procedure returns: to the call below, or the program ends.
use Rattle.std.proofs.Common.{◌≡◌, ℕ, ◌+◌, ◌*◌, ◌≤◌, List, [], ◌∷◌, ◌++◌, length, Some, None, refl}
use Rattle.std.proofs.Common.{sym, ap, ◌∙◌, subst, arith, inl, append_assoc, length-append}
use Rattle.ia_code.specs.declared.services.Service.TheVariants as service
use Rattle.ia_code.specs.Regions.{data_base, stack_base}
use Rattle.ia_emit.specs.declared.item.Item.TheVariants as item
use Rattle.ia_emit.specs.Code.{size_of}
use Rattle.ia_emit.specs.Emission.{call_service, leave, emit_end}
use Rattle.ia_emit.specs.Operands.{free_register}
use Rattle.ia_step.specs.declared.out.Ending.TheVariants as ending
use Rattle.ia_step.specs.declared.out.StepOut.TheVariants as out
use Rattle.ia_step.specs.Effect.{effect, service as served}
use Rattle.ia_step.specs.Registers.{get}
use Rattle.ia_step.specs.Run.{Ran, run_end, advance}
use Rattle.ia_step.specs.State as machine
use Rattle.ia_step.proofs.Reaches.{Reaches, advance_step}
use Rattle.pl_place.specs.declared.placed.LProc.{LProc}
use Rattle.pl_place.specs.Machine.{Cells, proc_of, shape}
use Rattle.pra_base.specs.declared.code.End.TheVariants as end
use Rattle.pra_base.specs.RunEnd.{Ended}
use Rattle.pra_base.specs.System.{run}
use Rattle.pra_base.proofs.Simulation.{run_more}
use Rattle.vc_code.specs.declared.value.Value.TheVariants.{Num}
use Rattle.vc_code.specs.Value.{Held, Words}
use Rattle.vc_code.specs.Machine.{Activation, State, depth, ended, returned}
use Rattle.ia_simulation.specs.Frames.{Holds, WordsHold, Stacked, ebp_of, register_held, saved}
use Rattle.ia_simulation.specs.Frames.{rest_of, frames, exit}
use Rattle.ia_simulation.specs.Realizes.{IsLoadable, StandsBefore, AllWait, Lies, Runs, Realizes}
use Rattle.ia_simulation.specs.Realizes.{Leads}
use Rattle.ia_simulation.proofs.Control as control
use Rattle.ia_simulation.proofs.Here as here
use Rattle.ia_simulation.proofs.Leave.{Left, leaves}
use Rattle.ia_simulation.proofs.Places.{no_target, front_at}
use Rattle.ia_simulation.proofs.Sizes.{live_long, frames_long}
use Rattle.ia_simulation.proofs.Spots.{below_6}
use Rattle.ia_simulation.proofs.Steps as steps
use Rattle.ia_simulation.proofs.Walks.{Walks, does}

pub none_there : {A : Type 0} (xs : List A) → length xs ≡ 0 → xs ≡ []
none_there [] e = refl
none_there (x ∷ xs) e = absurd (omega (arith, e))

module _ (procs : List LProc) (data_words : ℕ) (ok : IsLoadable procs data_words) (s : State Cells)
    (r : Ran) (y : Realizes procs s r) (o : s.over ≡ None) (done : s.top.home.rest ≡ [])
    (e : s.top.home.end ≡ end.Return) where
  abbrev m : machine.State
  m = r.state

  abbrev x : Runs procs s m
  x = steps.x procs data_words ok s r y o

  abbrev p : LProc
  p = proc_of procs s.top.proc

  no_pushes : s.pushed ≡ []
  no_pushes = none_there s.pushed (control.none_pushed procs data_words ok s r y o done)

  module _ (below : List (Activation Cells)) (backs : List ℕ) (waits : AllWait procs below backs)
      (lies : Lies procs backs s.pushed s.top below s.globals m.regs m.stack m.storage)
      (di si bx bp ret : Held) (saves : saved procs backs below ≡ di ∷ si ∷ bx ∷ bp ∷ ret ∷ [])
    where
      abbrev frame : Words
      frame = s.top.aggregates ++ s.top.home.slots

      abbrev outer : Words
      outer = frames procs (rest_of backs) below

      abbrev all : Words
      all = frame ++ (di ∷ si ∷ bx ∷ bp ∷ ret ∷ (s.top.args ++ outer))

      words_are : s.pushed ++ frames procs backs (s.top ∷ below) ≡ all
      words_are =
          ap (λ l. l ++ frames procs backs (s.top ∷ below)) no_pushes
          ∙ ap (λ k. s.top.aggregates ++ (s.top.home.slots ++ (k ++ (s.top.args ++ outer)))) saves
          ∙ sym (append_assoc s.top.aggregates s.top.home.slots
          (di ∷ si ∷ bx ∷ bp ∷ ret ∷ (s.top.args ++ outer)))

      stacked : Stacked all m.regs.esp m.stack
      stacked = subst (λ l. Stacked l m.regs.esp m.stack) words_are lies.words

      walks : Walks procs m all (control.target procs data_words ok s r y o done)
          (control.from procs data_words ok s r y o done) (leave p)
      walks =
          let w = control.walks procs data_words ok s r y o done in
          let t = control.target procs data_words ok s r y o done in
          let f = control.from procs data_words ok s r y o done in
          record {
            code = w.code;
            going = w.going;
            stack = stacked;
            small = w.small;
            place = w.place;
            items_at = subst (λ e. here.AreAt procs t f (emit_end p (s.top.home.block + 1) e)) e
                w.items_at;
          }

      long : 4 * length all ≡ depth (shape procs) (s.top ∷ below)
      long =
          let l = live_long procs s.top below backs lies.sizes waits in
          let k = ap length (ap (λ l. l ++ frames procs backs (s.top ∷ below)) (sym no_pushes)
          ∙ words_are) in
          omega (arith, l, k)

      outer_long : 4 * length outer ≡ depth (shape procs) below
      outer_long = frames_long procs below (rest_of backs) backs waits

      pub left : (t : machine.State) × Reaches 6 m t × Left procs m t outer bx si di bp ret
      left =
          let small = ok.small s.top.proc p x.stands.there in
          let la = length-append frame (di ∷ si ∷ bx ∷ bp ∷ ret ∷ (s.top.args ++ outer)) in
          let lb = length-append s.top.args outer in
          leaves procs ok.sound p (control.target procs data_words ok s r y o done)
          (control.from procs data_words ok s r y o done) m frame bx si di bp ret s.top.args outer
          lies.sizes.args_long small.args walks (omega (arith, long, lies.deep))
          (omega (arith, lies.ebp, stacked.top, la, lb, outer_long, long, lies.deep))

  -- ---- the program ends

  ends : s.below ≡ [] → Leads procs s r (ended s Ended)
  unfolding effect served
  ends none =
      let lies = subst (λ below. Lies procs x.backs s.pushed s.top below s.globals m.regs m.stack
      m.storage) none x.lies in
      let l = left [] x.backs tt lies None None None None (Some (Num exit)) refl in
      let t = l.0 in
      let z = l.2 in
      let at_exit = here.behind procs no_target 0 (item.Call (record { 0 = 0 }) ∷ []) _
      (front_at procs) in
      let w : Walks procs t (frames procs (rest_of x.backs) []) no_target 5
      (call_service service.End ∷ _) =
      record {
        code = z.code;
        going = z.going;
        stack = z.stack;
        small =
            subst (λ (l : List ℕ). data_base + length l ≤ stack_base) (sym z.storage)
            (control.walks procs data_words ok s r y o done).small;
        place = z.eip.0;
        items_at =
            at_exit;
      } in
      let last = does procs ok.sound t _ no_target 5 (call_service service.End) _ w
      (machine.over (machine.at t (t.eip + size_of (call_service service.End))) ending.Ended)
      out.Ended refl in (
        7,
        inl (omega arith),
        subst (Realizes procs (ended s Ended))
            (sym (run_more advance 6 1 r ∙ ap (run advance 1) (l.1.by r.events r.steps)
            ∙ advance_step t _ out.Ended z.going last r.events (r.steps + 6))) (record {
              ending = refl;
              events = y.events;
              taken = z.taken ∙ y.taken;
              going = λ e. cc;
            }),
      )

  -- ---- the call below goes on

  returns : (c : Activation Cells) (calls : List (Activation Cells)) (back : ℕ) (backs : List ℕ) →
      s.below ≡ c ∷ calls → AllWait procs (c ∷ calls) (back ∷ backs) →
      Lies procs (back ∷ backs) s.pushed s.top (c ∷ calls) s.globals m.regs m.stack m.storage →
      Leads procs s r (returned s (c ∷ calls))
  returns c calls back backs is waits lies =
      let wait = waits.0 in
      let regs = c.home.regs in
      let l = left (c ∷ calls) (back ∷ backs) waits lies (register_held regs 5)
      (register_held regs 4) (register_held regs 3) (Some (Num (ebp_of procs c calls)))
      (Some (Num back)) refl in
      let t = l.0 in
      let z = l.2 in (
        6,
        inl (omega arith),
        subst (Realizes procs (returned s (c ∷ calls))) (sym (l.1.by r.events r.steps)) (record {
          ending = ap run_end z.going ∙ sym o;
          events = y.events;
          taken = z.taken ∙ y.taken;
          going = λ _. record {
            backs = backs;
            code = z.code;
            stands =
                subst (λ n. StandsBefore procs c.proc c.home.block c.home.rest c.home.end n t.eip)
                (sym (control.none_pushed procs data_words ok s r y o done))
                (subst (StandsBefore procs c.proc c.home.block c.home.rest c.home.end 0)
                (sym z.eip.0) wait.stands);
            waiting = waits.1;
            lies = record {
              sizes = wait.sizes;
              registers =
                  below_6 (λ r. Holds (register_held regs r) (get t.regs (free_register r)))
                  (subst (λ h. Holds h t.regs.eax) (sym wait.given_up.eax) tt)
                  (subst (λ h. Holds h t.regs.ecx) (sym wait.given_up.ecx) tt)
                  (subst (λ h. Holds h t.regs.edx) (sym wait.given_up.edx) tt)
                  z.ebx z.esi z.edi;
              words = subst (λ l. Stacked (l ++ frames procs backs (c ∷ calls)) t.regs.esp t.stack)
                  (sym no_pushes) z.stack;
              ebp = z.ebp.0;
              deep = omega (arith, lies.deep);
              globals_hold = subst (λ l. WordsHold s.globals l 0) (sym z.storage) lies.globals_hold;
              data_long = ap length z.storage ∙ lies.data_long;
              data_few = lies.data_few;
            };
            flags = tt;
            input = z.input ∙ x.input;
            input_fits = x.input_fits;
          };
        }),
      )

  -- ---- either

  pub returning : Leads procs s r (returned s s.below)
  returning = one s.below refl x.backs refl
    where
      one : (below : List (Activation Cells)) → s.below ≡ below → (backs : List ℕ) → x.backs ≡
          backs → Leads procs s r (returned s below)
      one [] is backs b = ends is
      one (c ∷ calls) is [] b = let waits = subst (AllWait procs (c ∷ calls)) b
          (subst (λ below. AllWait procs below x.backs) is x.waiting) in absurd waits
      one (c ∷ calls) is (back ∷ backs) b =
          returns c calls back backs is
          (subst (AllWait procs (c ∷ calls)) b
          (subst (λ below. AllWait procs below x.backs) is x.waiting))
          (subst (λ backs. Lies procs backs s.pushed s.top (c ∷ calls) s.globals m.regs m.stack
          m.storage) b (subst (λ below. Lies procs x.backs s.pushed s.top below s.globals m.regs
          m.stack m.storage) is x.lies))
