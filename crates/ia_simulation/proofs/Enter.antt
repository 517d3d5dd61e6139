-- A procedure begins: it traps, or its frame stands.
use Rattle.std.proofs.Common.{◌≡◌, ◌≢◌, ℕ, zero, suc, ◌+◌, ◌-◌, ◌*◌, ◌≤◌, Bool, true, false, List}
use Rattle.std.proofs.Common.{[], ◌∷◌, ◌++◌, length, Some, None, refl, ap, ◌∙◌, subst, arith}
use Rattle.std.proofs.Common.{length-append, nat_lt}
use Rattle.std.specs.Prelude.{pos, Ok, replicate}
use Rattle.std.proofs.lemmas.Bool.Decides.{nat_tests}
use Rattle.std.proofs.lemmas.Int.{ints}
use Rattle.std.proofs.lemmas.List.{length-replicate}
use Rattle.ia_code.specs.Regions.{code_base, stack_base, stack_length, reserve}
use Rattle.ia_step.proofs.Reaches.{Reaches, reach_on, reach_none}
use Rattle.ia_simulation.specs.Frames.{Holds, WordsHold}
use Rattle.ia_simulation.proofs.Cells.{hold_nothing}
use Rattle.ia_code.specs.declared.ins.AluOp.TheVariants as alu
use Rattle.ia_code.specs.declared.ins.Reg.TheVariants.{Eax, Ebx, Esp, Ebp, Esi, Edi}
use Rattle.ia_code.specs.declared.ins.Ins.TheVariants as ins
use Rattle.ia_code.specs.declared.ins.Rm.TheVariants as rm
use Rattle.ia_code.specs.declared.services.Service.TheVariants as service
use Rattle.ia_code.specs.Image.{max_code_bytes}
use Rattle.ia_code.specs.Listing.{bytes_of_all, AreSound}
use Rattle.ia_code.specs.Services.{trap_number}
use Rattle.ia_emit.specs.declared.item.Item.{Item}
use Rattle.ia_emit.specs.declared.item.Item.TheVariants.{Plain, Branch}
use Rattle.ia_emit.specs.declared.item.Item.TheVariants as item
use Rattle.ia_emit.specs.declared.item.Target.{Target}
use Rattle.ia_emit.specs.declared.item.Target.TheVariants.{Stub}
use Rattle.ia_emit.specs.Code.{size_of, size, distance, stub, stub_start, front, target_in, code_of}
use Rattle.ia_emit.specs.Emission.{prologue, lowered, lowest_frame, call_service}
use Rattle.ia_emit.specs.Operands.{IsSmall, locals}
use Rattle.ia_emit.proofs.Sizes.{size-cons}
use Rattle.ia_step.specs.declared.out.Ending.TheVariants as ending
use Rattle.ia_step.specs.declared.out.StepOut.TheVariants as out
use Rattle.ia_step.specs.Arithmetic.{diff_flags, holds}
use Rattle.ia_step.specs.Effect.{effect, goes, mov, alu as operation, read_rm, write_rm, branch}
use Rattle.ia_step.specs.Effect.{service as served}
use Rattle.ia_step.specs.Registers.{with_reg}
use Rattle.ia_step.specs.State.{State, at, over}
use Rattle.ia_step.specs.Step.{step}
use Rattle.ia_step.proofs.Conditions.{holds-diff_flags}
use Rattle.pl_place.specs.declared.placed.LProc.{LProc}
use Rattle.pra_base.specs.declared.event.TrapKind.{TrapKind}
use Rattle.pra_base.specs.declared.event.TrapKind.TheVariants.{Index, Divide, Input, Stack}
use Rattle.pra_base.specs.declared.ids.Cond.TheVariants as cond
use Rattle.pra_base.specs.Words.{word, sum32, diff32}
use Rattle.vc_code.specs.Value.{Held, Words}
use Rattle.ia_simulation.proofs.Here.{AreAt}
use Rattle.ia_simulation.proofs.Here as here
use Rattle.ia_simulation.proofs.Places.{no_target, front_at}
use Rattle.ia_simulation.proofs.Walks.{aimed_at, Walks, does, reaches, goes_on, behind_push, pushes}
use Rattle.ia_simulation.proofs.Walks.{pushes_on}

-- ---- the code of a trap

pub stub_at : (procs : List LProc) (trap : TrapKind) → trap ≢ Input →
    AreAt procs no_target (stub_start trap) (stub trap)
stub_at procs Index is =
    here.front procs no_target 7 (stub Index) (stub Divide ++ stub Stack)
    (here.behind procs no_target 0 (item.Call (record { 0 = 0 }) ∷ call_service service.End ∷ [])
    (stub Index ++ (stub Divide ++ stub Stack)) (front_at procs))
stub_at procs Divide is =
    here.front procs no_target 14 (stub Divide) (stub Stack)
    (here.behind procs no_target 0
    (item.Call (record { 0 = 0 }) ∷ call_service service.End ∷ stub Index)
    (stub Divide ++ stub Stack) (front_at procs))
stub_at procs Stack is =
    here.behind procs no_target 0
    (item.Call (record { 0 = 0 }) ∷ call_service service.End ∷ (stub Index ++ stub Divide))
    (stub Stack) (front_at procs)
stub_at procs Input is = absurd (is refl)

raised : (trap : TrapKind) (s : State) → s.regs.eax ≡ word (pos (trap_number trap)) →
    effect s (ins.Int 0x24) ≡ Ok (over s (ending.Trap trap), out.Trap trap)
unfolding effect served
raised Index s e = rw e refl
raised x s e = rw e refl

module _ (procs : List LProc) (sound : AreSound (code_of procs)) (m : State) (words : Words)
    (trap : TrapKind) (w : Walks procs m words no_target (stub_start trap) (stub trap)) where
  abbrev set_eax : Item
  set_eax = Plain (ins.MovRI Eax (pos (trap_number trap)))

  abbrev pub numbered : State
  numbered = record m {
    regs = with_reg m.regs Eax (word (pos (trap_number trap)));
    eip =
        m.eip + size_of set_eax;
  }

  abbrev pub stopped : State
  stopped = over (at numbered (numbered.eip + size_of (call_service service.Trap)))
      (ending.Trap trap)

  pub numbers : Reaches 1 m numbered
  unfolding effect mov write_rm
  numbers = reaches procs sound m words no_target (stub_start trap) set_eax
      (call_service service.Trap ∷ []) w numbered refl

  pub stops : ◌≡◌ {A = State × _} (step numbered) (stopped, out.Trap trap)
  unfolding effect served
  stops =
      does procs sound numbered words no_target _ (call_service service.Trap) []
      (goes_on procs sound m words no_target (stub_start trap) set_eax
      (call_service service.Trap ∷ []) w (with_reg m.regs Eax (word (pos (trap_number trap))))
      m.flags refl)
      stopped (out.Trap trap) (raised trap
      (at numbered (numbered.eip + size_of (call_service service.Trap))) refl)

-- ---- the first instructions of a procedure

-- a frame stands, and the machine is behind them
pub record Entered (procs : List LProc) (p : LProc) (start : ℕ) (m t : State) (words : Words) : Type
    0 where
  pub walks : Walks procs t words (target_in p start) (start + size (prologue p)) []
  pub ebp : t.regs.ebp ≡ m.regs.esp - 4
  pub storage : t.storage ≡ m.storage
  pub input : t.input ≡ m.input
  pub taken : t.taken ≡ m.taken

-- bx, si, di and bp are what the registers hold, and cs are the words that stand
module _ (procs : List LProc) (sound : AreSound (code_of procs))
    (short : length (bytes_of_all (code_of procs)) ≤ max_code_bytes) (p : LProc) (start : ℕ)
    (small : IsSmall p) (m : State) (cs : Words) (bx si di bp : Held)
    (w : Walks procs m cs (target_in p start) start (prologue p))
    (room : 4 * length cs + 16 ≤ stack_length)
    (hbx : Holds bx m.regs.ebx) (hsi : Holds si m.regs.esi) (hdi : Holds di m.regs.edi)
    (hbp : Holds bp m.regs.ebp) where
  abbrev target : Target → ℕ
  target = target_in p start

  abbrev lowest : ℕ
  lowest = lowest_frame p

  abbrev x0 : Item
  x0 = Plain (ins.PushR Ebp)

  abbrev x1 : Item
  x1 = Plain (ins.MovRmR (rm.Reg Ebp) Esp)

  abbrev x2 : Item
  x2 = Plain (ins.AluRmI alu.Cmp (rm.Reg Ebp) (pos lowest))

  abbrev x3 : Item
  x3 = Branch cond.B (Stub Stack)

  abbrev x4 : Item
  x4 = Plain (ins.PushR Ebx)

  abbrev x5 : Item
  x5 = Plain (ins.PushR Esi)

  abbrev x6 : Item
  x6 = Plain (ins.PushR Edi)

  abbrev rest4 : List Item
  rest4 = x4 ∷ x5 ∷ x6 ∷ lowered (locals p)

  abbrev s1 : State
  s1 = behind_push procs sound m cs target start Ebp (x1 ∷ x2 ∷ x3 ∷ rest4) w (omega (arith, room))

  abbrev s2 : State
  s2 = record s1 { regs = with_reg s1.regs Ebp s1.regs.esp; eip = s1.eip + size_of x1 }

  abbrev s3 : State
  s3 = record s2 { flags = diff_flags s2.regs.ebp (word (pos lowest)); eip = s2.eip + size_of x2 }

  w1 : Walks procs s1 (bp ∷ cs) target (start + size_of x0) (x1 ∷ x2 ∷ x3 ∷ rest4)
  w1 = pushes_on procs sound m cs target start Ebp (x1 ∷ x2 ∷ x3 ∷ rest4) w (omega (arith, room)) bp
      hbp

  w2 : Walks procs s2 (bp ∷ cs) target (start + size_of x0 + size_of x1) (x2 ∷ x3 ∷ rest4)
  w2 = goes_on procs sound s1 (bp ∷ cs) target _ x1 (x2 ∷ x3 ∷ rest4) w1
      (with_reg s1.regs Ebp s1.regs.esp) s1.flags refl

  w3 : Walks procs s3 (bp ∷ cs) target (start + size_of x0 + size_of x1 + size_of x2) (x3 ∷ rest4)
  w3 = goes_on procs sound s2 (bp ∷ cs) target _ x2 (x3 ∷ rest4) w2 s2.regs
      (diff_flags s2.regs.ebp (word (pos lowest))) refl

  to_s3 : Reaches 3 m s3
  unfolding effect mov write_rm read_rm operation
  to_s3 =
      reach_on 1 2 m s1 s3 (pushes procs sound m cs target start Ebp (x1 ∷ x2 ∷ x3 ∷ rest4) w
      (omega (arith, room)))
      (reach_on 1 1 s1 s2 s3 (reaches procs sound s1 (bp ∷ cs) target _ x1 (x2 ∷ x3 ∷ rest4) w1 s2
      refl)
      (reaches procs sound s2 (bp ∷ cs) target _ x2 (x3 ∷ rest4) w2 s3 refl))

  -- whether EBP is too low for the frame
  abbrev pub too_low : Bool
  too_low = nat_lt (m.regs.esp - 4) lowest

  lowest_is : word (pos lowest) ≡ lowest
  lowest_is = omega (arith, ints, small.aggregates, small.slots)

  tells : holds s3.flags cond.B ≡ Some too_low
  tells =
      let k = w.stack in
      holds-diff_flags s2.regs.ebp (word (pos lowest)) (omega (arith, k.top))
      (omega (arith, lowest_is, small.aggregates, small.slots)) cond.B
      ∙ ap (λ n. Some (nat_lt (m.regs.esp - 4) n)) lowest_is

  behind3 : ℕ
  behind3 = start + size_of x0 + size_of x1 + size_of x2 + size_of x3

  -- ---- the trap

  abbrev t4 : State
  t4 = at s3 (code_base + stub_start Stack)

  pub w4_trap : Walks procs t4 (bp ∷ cs) no_target (stub_start Stack) (stub Stack)
  w4_trap = record {
    code = w3.code;
    going = w3.going;
    stack = w3.stack;
    small = w3.small;
    place =
        refl;
    items_at = stub_at procs Stack (λ e. cc);
  }

  pub traps : too_low ≡ true → Reaches 4 m t4
  unfolding effect
  traps low =
      let within = here.within procs target _ (x3 ∷ rest4) w3.items_at in
      let front_in = here.within procs no_target 0 front (front_at procs) in
      let n = start + size_of x0 + size_of x1 + size_of x2 + size_of x3 in
      let goes_there : sum32 (s3.eip + size_of x3) (word (distance n (stub_start Stack))) ≡
      code_base + stub_start Stack =
      ap (λ e. sum32 e (word (distance n (stub_start Stack)))) (omega (arith, w3.place))
      ∙ aimed_at n (stub_start Stack)
      (let c = size-cons x3 rest4 in omega (arith, within, short, c))
      (omega (arith, front_in, short)) in
      reach_on 3 1 m s3 t4 to_s3
      (reaches procs sound s3 (bp ∷ cs) target _ x3 rest4 w3 t4
      (ap (branch (at s3 (s3.eip + size_of x3)) (distance n (stub_start Stack)))
      (tells ∙ ap Some low) ∙ ap (λ e. goes (at s3 e)) goes_there))

  -- ---- the frame

  abbrev t5 : State
  t5 = at s3 (s3.eip + size_of x3)

  w5 : Walks procs t5 (bp ∷ cs) target (start + size_of x0 + size_of x1 + size_of x2 + size_of x3)
      rest4
  w5 = goes_on procs sound s3 (bp ∷ cs) target _ x3 rest4 w3 s3.regs s3.flags refl

  abbrev t6 : State
  t6 = behind_push procs sound t5 (bp ∷ cs) target _ Ebx (x5 ∷ x6 ∷ lowered (locals p)) w5
      (omega (arith, room))

  w6 : Walks procs t6 (bx ∷ bp ∷ cs) target
      (start + size_of x0 + size_of x1 + size_of x2 + size_of x3 + size_of x4)
      (x5 ∷ x6 ∷ lowered (locals p))
  w6 = pushes_on procs sound t5 (bp ∷ cs) target _ Ebx (x5 ∷ x6 ∷ lowered (locals p)) w5
      (omega (arith, room)) bx hbx

  abbrev t7 : State
  t7 = behind_push procs sound t6 (bx ∷ bp ∷ cs) target _ Esi (x6 ∷ lowered (locals p)) w6
      (omega (arith, room))

  w7 : Walks procs t7 (si ∷ bx ∷ bp ∷ cs) target
      (start + size_of x0 + size_of x1 + size_of x2 + size_of x3 + size_of x4 + size_of x5)
      (x6 ∷ lowered (locals p))
  w7 = pushes_on procs sound t6 (bx ∷ bp ∷ cs) target _ Esi (x6 ∷ lowered (locals p)) w6
      (omega (arith, room)) si hsi

  abbrev t8 : State
  t8 = behind_push procs sound t7 (si ∷ bx ∷ bp ∷ cs) target _ Edi (lowered (locals p)) w7
      (omega (arith, room))

  abbrev from : ℕ
  from = start + size_of x0 + size_of x1 + size_of x2 + size_of x3 + size_of x4 + size_of
      x5 + size_of x6

  w8 : Walks procs t8 (di ∷ si ∷ bx ∷ bp ∷ cs) target from (lowered (locals p))
  w8 = pushes_on procs sound t7 (si ∷ bx ∷ bp ∷ cs) target _ Edi (lowered (locals p)) w7
      (omega (arith, room)) di hdi

  to_t8 : too_low ≡ false → Reaches 7 m t8
  unfolding effect
  to_t8 high =
      reach_on 3 4 m s3 t8 to_s3
      (reach_on 1 3 s3 t5 t8 (reaches procs sound s3 (bp ∷ cs) target _ x3 rest4 w3 t5
      (ap (branch (at s3 (s3.eip + size_of x3))
      (distance (start + size_of x0 + size_of x1 + size_of x2 + size_of x3) (stub_start Stack)))
      (tells ∙ ap Some high)))
      (reach_on 1 2 t5 t6 t8 (pushes procs sound t5 (bp ∷ cs) target _ Ebx
      (x5 ∷ x6 ∷ lowered (locals p)) w5 (omega (arith, room)))
      (reach_on 1 1 t6 t7 t8 (pushes procs sound t6 (bx ∷ bp ∷ cs) target _ Esi
      (x6 ∷ lowered (locals p)) w6 (omega (arith, room)))
      (pushes procs sound t7 (si ∷ bx ∷ bp ∷ cs) target _ Edi (lowered (locals p)) w7
      (omega (arith, room))))))

  -- the words that are not set yet
  record Lowered (n : ℕ) : Type 0 where
    steps : ℕ
    to : State
    by : Reaches steps t8 to
    walks : Walks procs to (replicate n None ++ (di ∷ si ∷ bx ∷ bp ∷ cs)) target
        (from + size (lowered n)) []
    ebp : to.regs.ebp ≡ t8.regs.ebp
    storage : to.storage ≡ m.storage
    input : to.input ≡ m.input
    taken : to.taken ≡ m.taken

  lowers : (n : ℕ) → n ≤ 81919 → stack_base + reserve + 12 + 4 * n ≤ m.regs.esp - 4 →
      Walks procs t8 (di ∷ si ∷ bx ∷ bp ∷ cs) target from (lowered n) → Lowered n
  unfolding effect operation read_rm write_rm
  lowers zero few high w8 =
      record {
        steps = 0;
        to = t8;
        by = reach_none t8;
        walks =
            subst (λ k. Walks procs t8 (di ∷ si ∷ bx ∷ bp ∷ cs) target k [])
            (let none : from ≡ from + 0 = omega arith in none) w8;
        ebp = refl;
        storage = refl;
        input =
            refl;
        taken = refl;
      }
  lowers (suc k) few high w8 =
      let frame = di ∷ si ∷ bx ∷ bp ∷ cs in
      let x = Plain (ins.AluRmI alu.Sub (rm.Reg Esp) (pos (4 * suc k))) in
      let b = word (pos (4 * suc k)) in
      let esp = diff32 t8.regs.esp b in
      let t : State = record t8 {
        regs = with_reg t8.regs Esp esp;
        flags = diff_flags t8.regs.esp b;
        eip = t8.eip + size_of x;
      } in
      let j = w8.stack in
      let down : esp + 4 * suc k ≡ t8.regs.esp = omega (arith, ints, few, high, j.top) in
      let z : t8.regs.esp - stack_base ≡ esp - stack_base + 4 * suc k =
      omega (arith, down, high, few, w.stack.top) in
      let one = size-cons x [] in
      record {
        steps = 1;
        to = t;
        by = reaches procs sound t8 frame target from x [] w8 t refl;
        walks = record {
          code = w8.code;
          going = w8.going;
          stack = record {
            long = j.long;
            top = let l = length-append (replicate (suc k) (none_held)) frame in let r =
                length-replicate (suc k) none_held in omega (arith, j.top, down, l, r);
            held = hold_nothing (suc k) frame t8.stack (esp - stack_base)
                (subst (WordsHold frame t8.stack) z j.held);
          };
          small = w8.small;
          place = omega (arith, w8.place, one);
          items_at = subst (λ n. AreAt procs target n []) (omega (arith, one))
              (here.next procs target from x [] w8.items_at);
        };
        ebp = refl;
        storage = refl;
        input = refl;
        taken = refl;
      }
    where
      none_held : Held
      none_held = None

  -- a procedure whose frame fits makes it
  pub frames : too_low ≡ false → (k : ℕ) × (t : State) × Reaches k m t ×
      Entered procs p start m t (replicate (locals p) None ++ (di ∷ si ∷ bx ∷ bp ∷ cs))
  frames high =
      let enough : lowest ≤ m.regs.esp - 4 = grind (arith, nat_tests) in
      let x = lowers (locals p) (omega (arith, small.aggregates, small.slots)) enough w8 in
      let s0 = size-cons x0 (x1 ∷ x2 ∷ x3 ∷ rest4) in
      let s1 = size-cons x1 (x2 ∷ x3 ∷ rest4) in
      let s2 = size-cons x2 (x3 ∷ rest4) in
      let s3 = size-cons x3 rest4 in
      let s4 = size-cons x4 (x5 ∷ x6 ∷ lowered (locals p)) in
      let s5 = size-cons x5 (x6 ∷ lowered (locals p)) in
      let s6 = size-cons x6 (lowered (locals p)) in (
        7 + x.steps,
        x.to,
        reach_on 7 x.steps m t8 x.to (to_t8 high) x.by,
        record {
          walks = subst (λ n. Walks procs x.to
              (replicate (locals p) None ++ (di ∷ si ∷ bx ∷ bp ∷ cs)) target n [])
              (omega (arith, s0, s1, s2, s3, s4, s5, s6)) x.walks;
          ebp = x.ebp;
          storage = x.storage;
          input = x.input;
          taken = x.taken;
        },
      )
