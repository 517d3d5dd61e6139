-- A call begins: the frame of the machine is the one of placed code, or both trap.
use Rattle.std.proofs.Common.{◌≡◌, ℕ, zero, suc, ◌+◌, ◌-◌, ◌*◌, ◌≤◌, true, false, List, [], ◌∷◌}
use Rattle.std.proofs.Common.{◌++◌, length, Some, None, refl, sym, ap, ◌∙◌, subst, arith}
use Rattle.std.proofs.Common.{length-append, nat_lt, replicate}
use Rattle.std.specs.Prelude.{slice_get}
use Rattle.std.proofs.lemmas.Bool.Decides.{nat_tests}
use Rattle.std.proofs.lemmas.List.{length-replicate}
use Rattle.ia_code.specs.Image.{max_data_words}
use Rattle.ia_code.specs.Listing.{bytes_of_all}
use Rattle.ia_code.specs.Regions.{code_base, stack_length}
use Rattle.ia_emit.specs.Code.{block_start, stub, stub_start, target_in, entry, code_of}
use Rattle.ia_emit.specs.Emission.{prologue, lowest_frame}
use Rattle.ia_emit.specs.Operands.{IsSmall, locals, free_register}
use Rattle.ia_step.specs.declared.out.Ending.TheVariants.{Going}
use Rattle.ia_step.specs.Registers.{get}
use Rattle.ia_step.specs.State.{State}
use Rattle.ia_step.proofs.Reaches.{Reaches}
use Rattle.pl_place.specs.declared.placed.LBlock.{LBlock}
use Rattle.pl_place.specs.declared.placed.LProc.{LProc}
use Rattle.pl_place.specs.Machine.{Cells, begun, nothing, proc_of, shape}
use Rattle.pra_base.specs.declared.event.TrapKind.TheVariants.{Stack}
use Rattle.pra_base.specs.Words.{stack_limit}
use Rattle.vc_code.specs.Value.{Held, Words}
use Rattle.vc_code.specs.Machine.{Activation, depth}
use Rattle.ia_simulation.specs.Frames.{Holds, WordsHold, Stacked, register_held, saved, rest_of}
use Rattle.ia_simulation.specs.Frames.{frames}
use Rattle.ia_simulation.specs.Realizes.{IsLoadable, AllWait, Lies}
use Rattle.ia_simulation.proofs.Enter as enter
use Rattle.ia_simulation.proofs.Enter.{Entered}
use Rattle.ia_simulation.proofs.Places.{no_target}
use Rattle.ia_simulation.proofs.Sizes.{frames_long}
use Rattle.ia_simulation.proofs.Spots.{below_6}
use Rattle.ia_simulation.proofs.Walks.{Walks}

abbrev none : Held
none = None

-- words that hold nothing, in two parts
nothing_sum : (a b : ℕ) (rest : Words) → replicate (a + b) none ++ rest ≡ nothing a
    ++ (nothing b ++ rest)
nothing_sum zero b rest = let same : zero + b ≡ b = omega arith in
    ap (λ n. replicate n none ++ rest) same
nothing_sum (suc a) b rest = let same : suc a + b ≡ suc (a + b) = omega arith in
    ap (λ n. replicate n none ++ rest) same ∙ ap (λ l. none ∷ l) (nothing_sum a b rest)

-- the two tests of the stack are one
tested : (x y d : ℕ) → x + d ≡ y + stack_limit → nat_lt x y ≡ nat_lt stack_limit d
tested x y d e = grind (arith, nat_tests)

fits_is : (d : ℕ) → nat_lt stack_limit d ≡ false → d ≤ stack_limit
fits_is d e = grind (arith, nat_tests)

module _ (procs : List LProc) (data_words : ℕ) (ok : IsLoadable procs data_words) (q : ℕ)
    (there : slice_get procs q ≡ Some (proc_of procs q)) (block : LBlock) (args : Words)
    (below : List (Activation Cells)) (backs : List ℕ) (globals : Words)
    (di si bx bp ret : Held) (saves : saved procs backs below ≡ di ∷ si ∷ bx ∷ bp ∷ ret ∷ [])
    (m : State)
    (w : Walks procs m (ret ∷ (args ++ frames procs (rest_of backs) below))
    (target_in (proc_of procs q) (entry procs q)) (entry procs q) (prologue (proc_of procs q)))
    (args_long : length args ≡ (proc_of procs q).args) (waits : AllWait procs below backs)
    (deep : depth (shape procs) below ≤ stack_limit)
    (hbx : Holds bx m.regs.ebx) (hsi : Holds si m.regs.esi) (hdi : Holds di m.regs.edi)
    (hbp : Holds bp m.regs.ebp)
    (globals_hold : WordsHold globals m.storage 0)
    (data_long : length m.storage ≡ 4 * length globals)
    (data_few : length globals ≤ max_data_words) where
  abbrev p : LProc
  p = proc_of procs q

  abbrev callee : Activation Cells
  callee = begun q p args block

  abbrev outer : Words
  outer = frames procs (rest_of backs) below

  abbrev cs : Words
  cs = ret ∷ (args ++ outer)

  small : IsSmall p
  small = ok.small q p there

  outer_long : 4 * length outer ≡ depth (shape procs) below
  outer_long = frames_long procs below (rest_of backs) backs waits

  room : 4 * length cs + 16 ≤ stack_length
  room = let l = length-append args outer in
      omega (arith, l, outer_long, deep, args_long, small.args)

  same_test : nat_lt (m.regs.esp - 4) (lowest_frame p) ≡ nat_lt stack_limit
      (depth (shape procs) (callee ∷ below))
  same_test =
      let l = length-append args outer in
      tested (m.regs.esp - 4) (lowest_frame p) (depth (shape procs) (callee ∷ below))
      (omega (arith, l, outer_long, deep, args_long, small.args, w.stack.top))

  -- both trap
  pub begins_to_trap : nat_lt stack_limit (depth (shape procs) (callee ∷ below)) ≡ true → (k : ℕ) ×
      (t : State) × Reaches k m t × Walks procs t (bp ∷ cs) no_target (stub_start Stack)
      (stub Stack) × (t.taken ≡ m.taken)
  begins_to_trap low = (
    4,
    _,
    enter.traps procs ok.sound ok.short p (entry procs q) small m cs bx si di bp w room hbx hsi hdi
        hbp (same_test ∙ low),
    enter.w4_trap procs ok.sound ok.short p (entry procs q) small m cs bx si di bp w room hbx hsi
        hdi hbp,
    refl,
  )

  -- the frame stands
  pub record Begun (t : State) : Type 0 where
    pub code : t.code ≡ bytes_of_all (code_of procs)
    pub going : t.ending ≡ Going
    pub place : t.eip ≡ code_base + block_start p (entry procs q) 0
    pub lies : Lies procs backs [] callee below globals t.regs t.stack t.storage
    pub input : t.input ≡ m.input
    pub taken : t.taken ≡ m.taken

  pub begins : nat_lt stack_limit (depth (shape procs) (callee ∷ below)) ≡ false → (k : ℕ) ×
      (t : State) × Reaches k m t × Begun t
  begins high =
      let f = enter.frames procs ok.sound ok.short p (entry procs q) small m cs bx si di bp w room
      hbx hsi hdi hbp (same_test ∙ high) in
      let t = f.1 in
      let z = f.3 in
      let l = length-append args outer in
      let words : replicate (locals p) none ++ (di ∷ si ∷ bx ∷ bp ∷ cs) ≡ frames procs backs
      (callee ∷ below) =
      nothing_sum p.aggregates (length p.slots) (di ∷ si ∷ bx ∷ bp ∷ cs)
      ∙ ap (λ k. nothing p.aggregates ++ (nothing (length p.slots) ++ (k ++ (args ++ outer))))
      (sym saves) in (
        f.0,
        t,
        f.2,
        record {
          code = z.walks.code;
          going = z.walks.going;
          place = omega (arith, z.walks.place);
          lies = record {
            sizes = record {
              aggregates_long = length-replicate p.aggregates none;
              args_long = args_long;
              slots_long = length-replicate (length p.slots) none;
              regs_long = refl;
            };
            registers = below_6 (λ r. Holds (register_held (nothing 6) r)
                (get t.regs (free_register r))) tt tt tt tt tt tt;
            words = subst (λ l. Stacked l t.regs.esp t.stack) words z.walks.stack;
            ebp = omega (arith, z.ebp, w.stack.top, l, outer_long);
            deep = fits_is _ high;
            globals_hold = subst (λ l. WordsHold globals l 0) (sym z.storage) globals_hold;
            data_long = ap length z.storage ∙ data_long;
            data_few = data_few;
          };
          input = z.input;
          taken = z.taken;
        },
      )
