-- CALL and the first instructions of the callee.
use Rattle.std.proofs.Common.{◌≡◌, ℕ, ◌+◌, ◌*◌, ◌≤◌, Bool, true, false, List, [], ◌∷◌, ◌++◌, length}
use Rattle.std.proofs.Common.{Option, Some, None, refl, sym, ap, ◌∙◌, subst, arith, inl}
use Rattle.std.proofs.Common.{length-append, nat_lt}
use Rattle.std.specs.Prelude.{slice_get}
use Rattle.std.specs.List.{filter_map}
use Rattle.pra_list.proofs.Choices.{either}
use Rattle.pra_list.proofs.Options.{some_same}
use Rattle.pra_list.specs.Results.{◌>>=◌}
use Rattle.ia_code.specs.Image.{max_code_bytes}
use Rattle.ia_code.specs.Regions.{code_base, stack_length}
use Rattle.ia_emit.specs.declared.item.Item.{Item}
use Rattle.ia_emit.specs.declared.item.Item.TheVariants as item
use Rattle.ia_emit.specs.Code.{size_of, distance, target_in, entry}
use Rattle.ia_emit.specs.Emission.{prologue}
use Rattle.ia_emit.proofs.Sizes.{size-cons}
use Rattle.ia_step.specs.Effect.{effect, goes, jump}
use Rattle.ia_step.specs.Run.{Ran, run_end}
use Rattle.ia_step.specs.State as machine
use Rattle.ia_step.proofs.Access.{push_here, pushed}
use Rattle.ia_step.proofs.Reaches.{Reaches, reach_on}
use Rattle.pl_place.specs.declared.placed.LBlock.{LBlock}
use Rattle.pl_place.specs.declared.placed.LInstr.{LInstr}
use Rattle.pl_place.specs.declared.placed.LInstr.TheVariants as placed
use Rattle.pl_place.specs.declared.placed.LProc.{LProc}
use Rattle.pl_place.specs.Machine.{Cells, begin, begun, cleared, proc_of, shape, started}
use Rattle.pl_place.specs.Placed.{op_of}
use Rattle.pl_place.specs.Valid.{counts_of}
use Rattle.pra_base.specs.declared.code.VInstr.TheVariants as instr
use Rattle.pra_base.specs.declared.event.TrapKind.TheVariants as trap
use Rattle.pra_base.specs.declared.ids.ProcId.{ProcId}
use Rattle.pra_base.specs.Operands.{table}
use Rattle.pra_base.specs.RunEnd.{Trapped}
use Rattle.pra_base.specs.Valid.{PushesLead, TakesArgs}
use Rattle.pra_base.specs.Words.{word, sum32, stack_limit}
use Rattle.vc_code.specs.declared.value.Value.TheVariants.{Num}
use Rattle.vc_code.specs.Value.{Words}
use Rattle.vc_code.specs.Machine.{Activation, State, depth, ended, entered, with_call}
use Rattle.ia_simulation.specs.Frames.{Holds, register_held, ebp_of, frames}
use Rattle.ia_simulation.specs.Realizes.{IsLoadable, StandsBefore, GivesUp, AllWait, Lies, Runs}
use Rattle.ia_simulation.specs.Realizes.{Realizes, Leads}
use Rattle.ia_simulation.proofs.Begin as begins
use Rattle.ia_simulation.proofs.Here as here
use Rattle.ia_simulation.proofs.Ops as ops
use Rattle.ia_simulation.proofs.Places.{prologue_at}
use Rattle.ia_simulation.proofs.Rows.{Led}
use Rattle.ia_simulation.proofs.Sizes.{live_long}
use Rattle.ia_simulation.proofs.Start.{proc_there, counted, stands_at}
use Rattle.ia_simulation.proofs.Steps as steps
use Rattle.ia_simulation.proofs.Steps.{found_ok, lies_clobbered}
use Rattle.ia_simulation.proofs.Traps.{traps_lead}
use Rattle.ia_simulation.proofs.Walks.{Walks, aimed_at, push_stacked}

-- what a call destroys
given_up : (q : ProcId) (regs : Words) → GivesUp (cleared (table (instr.Call q)).clobbers 0 regs)
given_up q [] = record { eax = refl; ecx = refl; edx = refl }
given_up q (a ∷ []) = record { eax = refl; ecx = refl; edx = refl }
given_up q (a ∷ b ∷ []) = record { eax = refl; ecx = refl; edx = refl }
given_up q (a ∷ b ∷ c ∷ regs) = record { eax = refl; ecx = refl; edx = refl }

-- a call that begins has a procedure and a block
record IsBegun (procs : List LProc) (q : ℕ) (args : Words) (c : Activation Cells) : Type 0 where
  there : slice_get procs q ≡ Some (proc_of procs q)
  block : LBlock
  has : slice_get (proc_of procs q).blocks 0 ≡ Some block
  is : begun q (proc_of procs q) args block ≡ c

begun_is : (procs : List LProc) (q : ℕ) (args : Words) (c : Activation Cells) →
    begin q (slice_get procs q) args ≡ Some c → IsBegun procs q args c
begun_is procs q args c e = one (slice_get procs q) refl e
  where
    block_of : (p : LProc) (b : Option LBlock) → started q p args b ≡ Some c → (block : LBlock) ×
        (b ≡ Some block) × (begun q p args block ≡ c)
    block_of p None e = cc
    block_of p (Some b) e = (b, refl, some_same (begun q p args b) c e)

    one : (p : Option LProc) → slice_get procs q ≡ p → begin q p args ≡ Some c →
        IsBegun procs q args c
    one None is e = cc
    one (Some p) is e =
        let there = proc_there procs q p is in
        let same : p ≡ proc_of procs q = some_same p (proc_of procs q) (sym is ∙ there) in
        let b = block_of (proc_of procs q) (slice_get (proc_of procs q).blocks 0)
        (subst (λ p. begin q (Some p) args ≡ Some c) same e) in
        record { there = there; block = b.0; has = b.1; is = b.2 }

module _ (procs : List LProc) (data_words : ℕ) (ok : IsLoadable procs data_words) (s : State Cells)
    (r : Ran) (y : Realizes procs s r) (o : s.over ≡ None) (q : ProcId) (places : _)
    (more : List LInstr) (e : s.top.home.rest ≡ placed.Op (instr.Call q) places ∷ more) where
  abbrev i : LInstr
  i = placed.Op (instr.Call q) places

  abbrev first : Item
  first = item.Call q

  abbrev x : Runs procs s r.state
  x = steps.x procs data_words ok s r y o

  abbrev now : machine.State
  now = steps.fetched procs data_words ok s r y o i more e first [] refl

  -- the call that waits, and where it goes on
  abbrev caller : Activation Cells
  caller = ops.passed_by procs data_words ok s r y o (instr.Call q) places more e

  abbrev back : ℕ
  back = now.eip

  abbrev lead : TakesArgs (counts_of procs) q.0 (length s.pushed) ×
      PushesLead (TakesArgs (counts_of procs)) 0 (filter_map op_of more)
  lead = steps.lead procs data_words ok s r y o i more e

  abbrev all : Words
  all = s.pushed ++ frames procs x.backs (s.top ∷ s.below)

  lies_caller : Lies procs x.backs s.pushed caller s.below s.globals now.regs now.stack now.storage
  lies_caller = lies_clobbered procs x.backs s.pushed s.top s.below s.globals now.regs now.stack
      now.storage (instr.Call q) more x.lies

  waits : AllWait procs (caller ∷ s.below) (back ∷ x.backs)
  waits = (
    record {
      stands =
          subst (StandsBefore procs caller.proc caller.home.block caller.home.rest caller.home.end
          0) (sym (steps.alone procs data_words ok s r y o i more e first [] refl refl))
          (steps.stands_after procs data_words ok s r y o i more e caller 0
          (steps.clobbered_same (instr.Call q) more s.top) lead.1);
      sizes = lies_caller.sizes;
      given_up = given_up q s.top.home.regs;
    },
    x.waiting,
  )

  room : 4 * length all + 4 ≤ stack_length
  room =
      let long = length-append s.pushed (frames procs x.backs (s.top ∷ s.below)) in
      let mine = live_long procs s.top s.below x.backs x.lies.sizes x.waiting in
      let few = steps.few procs data_words ok s r y o in
      omega (arith, long, mine, few, x.lies.deep)

  abbrev m1 : machine.State
  m1 = machine.at (pushed now back) (code_base + entry procs q.0)

  module _ (there : slice_get procs q.0 ≡ Some (proc_of procs q.0)) (block : LBlock)
      (has : slice_get (proc_of procs q.0).blocks 0 ≡ Some block) where
    abbrev p : LProc
    p = proc_of procs q.0

    abbrev callee : Activation Cells
    callee = begun q.0 p s.pushed block

    abbrev from : ℕ
    from = steps.here procs data_words ok s r y o i more e

    inside : from + size_of first ≤ max_code_bytes
    inside =
        let within = here.within procs _ from (first ∷ _)
        (steps.first_at procs data_words ok s r y o i more e first [] refl) in
        let size = size-cons first (steps.behind procs data_words ok s r y o i more e) in
        omega (arith, within, size, ok.short)

    calls : Reaches 1 r.state m1
    unfolding effect
    calls =
        let k = x.lies.words in
        let n = from + size_of first in
        let in_proc = here.within procs _ (entry procs q.0) (prologue p)
        (prologue_at procs q.0 p there) in
        let d = distance n (entry procs q.0) in
        let to : sum32 back (word d) ≡ code_base + entry procs q.0 =
        ap (λ k. sum32 k (word d)) (omega (arith, x.stands.place_is))
        ∙ aimed_at n (entry procs q.0) inside (omega (arith, in_proc, ok.short)) in
        steps.reaches procs data_words ok s r y o i more e first [] refl m1
        (ap (λ t. t >>= λ t. goes (jump t d))
        (push_here now (omega (arith, x.lies.data_long, x.lies.data_few)) (omega (arith, k.top))
        back (omega (arith, k.top, room)) (omega (arith, k.top, k.long)))
        ∙ ap (λ k. goes (machine.at (pushed now back) k)) to)

    walks : Walks procs m1 (Some (Num back) ∷ all) (target_in p (entry procs q.0)) (entry procs q.0)
        (prologue p)
    walks = record {
      code = x.code;
      going = steps.going procs data_words ok s r y o;
      stack = push_stacked (Some (Num back)) all now.regs.esp back now.stack x.lies.words room
          (refl, omega (arith, x.stands.place_is, inside));
      small = omega (arith, x.lies.data_long, x.lies.data_few);
      place = refl;
      items_at = prologue_at procs q.0 p there;
    }

    abbrev regs : Words
    regs = caller.home.regs

    args_long : length s.pushed ≡ p.args
    args_long = sym (counted procs q.0 (length s.pushed) lead.0).1

    abbrev bp : ℕ
    bp = ebp_of procs caller s.below

    holds_bp : Holds (Some (Num bp)) m1.regs.ebp
    holds_bp = (lies_caller.ebp, omega arith)

    abbrev over : Bool
    over = nat_lt stack_limit (depth (shape procs) (callee ∷ caller ∷ s.below))

    trap_leads : over ≡ true → Leads procs s r (ended s (Trapped trap.Stack))
    trap_leads low =
        let b = begins.begins_to_trap procs data_words ok q.0 there block s.pushed
        (caller ∷ s.below) (back ∷ x.backs) s.globals (register_held regs 5)
        (register_held regs 4) (register_held regs 3) (Some (Num bp)) (Some (Num back)) refl m1
        walks
        args_long waits lies_caller.deep (lies_caller.registers 3 (omega arith))
        (lies_caller.registers 4 (omega arith)) (lies_caller.registers 5 (omega arith)) holds_bp
        lies_caller.globals_hold lies_caller.data_long lies_caller.data_few low in
        traps_lead procs data_words ok s r y trap.Stack (1 + b.0) b.1 _
        (reach_on 1 b.0 r.state m1 b.1 calls b.2) b.3 b.4

    frame_leads : over ≡ false → Leads procs s r (with_call s callee (caller ∷ s.below))
    frame_leads high =
        let b = begins.begins procs data_words ok q.0 there block s.pushed (caller ∷ s.below)
        (back ∷ x.backs) s.globals (register_held regs 5) (register_held regs 4)
        (register_held regs 3) (Some (Num bp)) (Some (Num back)) refl m1 walks
        args_long waits lies_caller.deep (lies_caller.registers 3 (omega arith))
        (lies_caller.registers 4 (omega arith)) (lies_caller.registers 5 (omega arith)) holds_bp
        lies_caller.globals_hold lies_caller.data_long lies_caller.data_few high in
        let t = b.1 in
        let z = b.3 in
        let reach : Reaches (1 + b.0) r.state t = reach_on 1 b.0 r.state m1 t calls b.2 in (
          1 + b.0,
          inl (omega arith),
          subst (Realizes procs (with_call s callee (caller ∷ s.below)))
              (sym (reach.by r.events r.steps)) (record {
                ending = ap run_end z.going ∙ sym o;
                events = y.events;
                taken = z.taken ∙ y.taken;
                going = λ _. record {
                  backs = back ∷ x.backs;
                  code = z.code;
                  stands = stands_at procs data_words ok q.0 0 block t.eip there has z.place;
                  waiting = waits;
                  lies = z.lies;
                  flags = tt;
                  input = z.input ∙ x.input;
                  input_fits = x.input_fits;
                };
              }),
        )

    called : Leads procs s r (entered (shape procs) s callee (caller ∷ s.below))
    called = either (Leads procs s r) over (ended s (Trapped trap.Stack))
        (with_call s callee (caller ∷ s.below)) trap_leads frame_leads

  pub calls_it : Led procs data_words ok s r y o (instr.Call q) more places.items
  calls_it ns =
      found_ok (Leads procs s r) s (begin q.0 (slice_get procs q.0) s.pushed)
      (λ c. entered (shape procs) s c (caller ∷ s.below)) ns
      (λ c ce _.
      let b = begun_is procs q.0 s.pushed c ce in
      subst (λ c. Leads procs s r (entered (shape procs) s c (caller ∷ s.below))) b.is
      (called b.there b.block b.has))
