-- CLEAR of placed code is the loop of the machine.
use Rattle.std.proofs.Common.{◌≡◌, ◌≢◌, ℕ, zero, suc, ◌+◌, ◌*◌, ◌≤◌, ◌<◌, List, [], ◌∷◌, ◌++◌}
use Rattle.std.proofs.Common.{length, None, refl, sym, ap, ◌∙◌, subst, arith, inl, length-append}
use Rattle.std.specs.Prelude.{pos, slice_get, drop}
use Rattle.std.specs.List.{filter_map}
use Rattle.std.proofs.lemmas.Int.{ints}
use Rattle.ia_code.specs.declared.ins.Reg.TheVariants.{Ecx}
use Rattle.ia_code.specs.declared.ins.Ins.TheVariants as ins
use Rattle.ia_emit.specs.declared.item.Item.{Item}
use Rattle.ia_emit.specs.declared.item.Item.TheVariants.{Plain}
use Rattle.ia_emit.specs.declared.item.Target.{Target}
use Rattle.ia_emit.specs.Code.{size_of, size}
use Rattle.ia_emit.specs.Emission.{clear, emit}
use Rattle.ia_emit.specs.Operands.{locals, free_register}
use Rattle.ia_emit.proofs.Sizes.{size-cons}
use Rattle.ia_step.specs.declared.registers.Registers.{Registers}
use Rattle.ia_step.specs.Effect.{effect, mov, write_rm}
use Rattle.ia_step.specs.Registers.{get, with_reg}
use Rattle.ia_step.specs.Run.{Ran, run_end}
use Rattle.ia_step.specs.State as machine
use Rattle.ia_step.proofs.Reaches.{Reaches, reach_on}
use Rattle.pl_place.specs.declared.placed.LInstr.{LInstr}
use Rattle.pl_place.specs.declared.placed.LInstr.TheVariants as placed
use Rattle.pl_place.specs.declared.placed.LProc.{LProc}
use Rattle.pl_place.specs.Machine.{Cells, cleared, proc_of, shape}
use Rattle.pl_place.specs.Placed.{op_of}
use Rattle.pl_place.specs.Valid.{counts_of}
use Rattle.pra_base.specs.declared.code.VInstr.TheVariants as instr
use Rattle.pra_base.specs.Operands.{table}
use Rattle.pra_base.specs.Valid.{PushesLead, TakesArgs}
use Rattle.pra_base.specs.Words.{word}
use Rattle.vc_code.specs.Value.{Words}
use Rattle.vc_code.specs.Machine.{Activation, State, depth, with_aggregates, with_cleared, zeroed}
use Rattle.ia_simulation.specs.Frames.{Holds, WordsHold, Stacked, register_held, saved, rest_of}
use Rattle.ia_simulation.specs.Frames.{frames}
use Rattle.ia_simulation.specs.Realizes.{IsLoadable, StandsBefore, RegistersHold, Runs, Realizes}
use Rattle.ia_simulation.proofs.Checks.{bare_has}
use Rattle.ia_simulation.proofs.Clears as clears
use Rattle.ia_simulation.proofs.Ops as ops
use Rattle.ia_simulation.proofs.Returns.{none_there}
use Rattle.ia_simulation.proofs.Rows.{Led, plain_lead}
use Rattle.ia_simulation.proofs.Sizes.{live_long}
use Rattle.ia_simulation.proofs.Spots.{below_6}
use Rattle.ia_simulation.proofs.Standing as standing
use Rattle.ia_simulation.proofs.Start.{bare_there}
use Rattle.ia_simulation.proofs.Steps as steps
use Rattle.ia_simulation.proofs.Steps.{lies_clobbered}
use Rattle.ia_simulation.proofs.Walks.{Walks, goes_on}

-- ECX holds nothing
ecx_gone : (regs : Words) → register_held (cleared (table instr.Clear).clobbers 0 regs) 1 ≡ None
ecx_gone [] = refl
ecx_gone (a ∷ []) = refl
ecx_gone (a ∷ b ∷ regs) = refl

-- the items behind the first
abbrev clears_items : LProc → List Item
clears_items p = drop 1 (clear p)

four_sizes : (p : LProc) → size (clears_items p) ≡ 20
four_sizes p = refl

module _ (procs : List LProc) (data_words : ℕ) (ok : IsLoadable procs data_words) (s : State Cells)
    (r : Ran) (y : Realizes procs s r) (o : s.over ≡ None) (places : _) (more : List LInstr)
    (e : s.top.home.rest ≡ placed.Op instr.Clear places ∷ more) where
  abbrev p : LProc
  p = proc_of procs s.top.proc

  abbrev i : LInstr
  i = placed.Op instr.Clear places

  abbrev x : Runs procs s r.state
  x = steps.x procs data_words ok s r y o

  abbrev m : machine.State
  m = r.state

  lead : (length s.pushed ≡ 0) × PushesLead (TakesArgs (counts_of procs)) 0 (filter_map op_of more)
  lead = steps.lead procs data_words ok s r y o i more e

  no_pushes : s.pushed ≡ []
  no_pushes = none_there s.pushed lead.0

  abbrev ws : Words
  ws = s.top.aggregates

  abbrev rest : Words
  rest = s.top.home.slots ++ (saved procs x.backs s.below
      ++ (s.top.args ++ frames procs (rest_of x.backs) s.below))

  some_words : (n : ℕ) × (suc n ≡ length ws)
  some_words =
      let has = standing.instr_is procs s.top.proc s.top.home.block s.top.home.rest s.top.home.end
      (length s.pushed) m.eip x.stands i more e in
      let bare = bare_has has.0.code x.stands.index instr.Clear places has.2 in
      let rule = (ok.placed.each s.top.proc p x.stands.there).block_rules.clear_first
      s.top.home.block bare.0 in
      let some = (rule.0 (ap (λ l. slice_get l bare.0)
      (bare_there p.blocks s.top.home.block has.0 has.1) ∙ bare.1)).0 in
      pred_of (length ws) (λ none. some (sym x.lies.sizes.aggregates_long ∙ none))
    where
      pred_of : (n : ℕ) → n ≢ 0 → (k : ℕ) × (suc k ≡ n)
      pred_of zero ne = absurd (ne refl)
      pred_of (suc k) ne = (k, refl)

  abbrev x0 : Item
  x0 = Plain (ins.MovRI Ecx (pos p.aggregates))

  abbrev target : Target → ℕ
  target = standing.target procs s.top.proc s.top.home.block s.top.home.rest s.top.home.end
      (length s.pushed) m.eip x.stands

  abbrev from : ℕ
  from = steps.here procs data_words ok s r y o i more e

  abbrev behind : List Item
  behind = steps.behind procs data_words ok s r y o i more e

  few_locals : locals p ≤ 100000
  few_locals = let z = ok.small s.top.proc p x.stands.there in omega (arith, z.aggregates, z.slots)

  abbrev loop : List Item
  loop = clears.loop procs ok.sound ok.short target rest (locals p) behind (from + size_of x0)
      few_locals

  words_are : s.pushed ++ frames procs x.backs (s.top ∷ s.below) ≡ ws ++ rest
  words_are = ap (λ l. l ++ frames procs x.backs (s.top ∷ s.below)) no_pushes

  stacked : Stacked (ws ++ rest) m.regs.esp m.stack
  stacked = subst (λ l. Stacked l m.regs.esp m.stack) words_are x.lies.words

  long : 4 * length (ws ++ rest) ≡ depth (shape procs) (s.top ∷ s.below)
  long = let mine = live_long procs s.top s.below x.backs x.lies.sizes x.waiting in mine

  w0 : Walks procs m (ws ++ rest) target from (x0 ∷ loop)
  w0 =
      let w = steps.walks_here procs data_words ok s r y o i more e x0 (clears_items p) refl in
      record {
        code = w.code;
        going = w.going;
        stack = stacked;
        small = w.small;
        place = w.place;
        items_at = w.items_at;
      }

  abbrev n : ℕ
  n = word (pos p.aggregates)

  count : n ≡ p.aggregates
  count = let z = ok.small s.top.proc p x.stands.there in omega (arith, ints, z.aggregates)

  abbrev s1 : machine.State
  s1 = record m { regs = with_reg m.regs Ecx n; eip = m.eip + size_of x0 }

  r1 : Reaches 1 m s1
  unfolding effect mov write_rm
  r1 = steps.reaches procs data_words ok s r y o i more e x0 (clears_items p) refl s1 refl

  w1 : Walks procs s1 (ws ++ rest) target (from + size_of x0) loop
  w1 = goes_on procs ok.sound m (ws ++ rest) target from x0 loop w0 (with_reg m.regs Ecx n) m.flags
      refl

  pub clears_it : Led procs data_words ok s r y o instr.Clear more places.items
  clears_it ns =
      let sizes = x.lies.sizes in
      let some = some_words in
      let l = length-append ws rest in
      let z = clears.clears procs ok.sound ok.short target rest (locals p) behind
      (from + size_of x0) few_locals some.0 s1 ws some.1 (omega (arith, sizes.aggregates_long))
      w1 (omega (arith, long, x.lies.deep))
      (omega (arith, count, some.1, sizes.aggregates_long))
      (omega (
        arith,
        x.lies.ebp,
        stacked.top,
        long,
        x.lies.deep,
        sizes.aggregates_long,
        sizes.slots_long,
        sizes.args_long,
      )) in
      let t = z.1 in
      let v = z.3 in
      let c = ops.passed_by procs data_words ok s r y o instr.Clear places more e in
      let new : Activation Cells = with_aggregates c (zeroed ws) in
      let reach : Reaches (1 + z.0) m t = reach_on 1 z.0 m s1 t r1 z.2 in
      let lies1 = lies_clobbered procs x.backs s.pushed s.top s.below s.globals m.regs m.stack
      m.storage instr.Clear more x.lies in
      let same_long = clears.zeroed_long ws in
      let k = v.regs.0 in
      let words : Stacked (s.pushed ++ frames procs x.backs (new ∷ s.below)) t.regs.esp t.stack =
      subst (λ q. Stacked (q ++ frames procs x.backs (new ∷ s.below)) t.regs.esp t.stack)
      (sym no_pushes) v.walks.stack in
      let place : t.eip ≡ m.eip + size (emit p i) =
      (let a0 = size-cons x0 (clears_items p) in let a1 = four_sizes p in
      omega (arith, v.walks.place, x.stands.place_is, a0, a1)) in
      let kept : (q : ℕ) → q < 6 → Holds (register_held new.home.regs q)
      (get (with_reg m.regs Ecx k) (free_register q)) =
      below_6 (λ q. Holds (register_held new.home.regs q)
      (get (with_reg m.regs Ecx k) (free_register q)))
      (lies1.registers 0 (omega arith)) (subst (λ h. Holds h k) (sym (ecx_gone s.top.home.regs)) tt)
      (lies1.registers 2 (omega arith)) (lies1.registers 3 (omega arith))
      (lies1.registers 4 (omega arith)) (lies1.registers 5 (omega arith)) in (
        1 + z.0,
        inl (omega arith),
        subst (Realizes procs (with_cleared s c)) (sym (reach.by r.events r.steps)) (record {
          ending = ap run_end v.walks.going ∙ sym o;
          events = y.events;
          taken = v.taken ∙ y.taken;
          going = λ _. record {
            backs = x.backs;
            code = v.walks.code;
            stands =
                subst (StandsBefore procs new.proc new.home.block new.home.rest new.home.end
                (length s.pushed)) (sym place)
                (steps.stands_after procs data_words ok s r y o i more e new (length s.pushed)
                (record { proc = refl; block = refl; rest = refl; end = refl })
                (plain_lead procs data_words ok s r y o (filter_map op_of more)
                (length s.pushed) lead));
            waiting = x.waiting;
            lies = record {
              sizes = record {
                aggregates_long = same_long ∙ sizes.aggregates_long;
                args_long =
                    sizes.args_long;
                slots_long = sizes.slots_long;
                regs_long =
                    lies1.sizes.regs_long;
              };
              registers = subst (λ g. RegistersHold new.home.regs g) (sym v.regs.1) kept;
              words = words;
              ebp = ap (λ (g : Registers). g.ebp) v.regs.1 ∙ x.lies.ebp;
              deep = x.lies.deep;
              globals_hold = subst (λ l. WordsHold s.globals l 0) (sym v.storage)
                  x.lies.globals_hold;
              data_long = ap length v.storage ∙ x.lies.data_long;
              data_few = x.lies.data_few;
            };
            flags = tt;
            input = v.input ∙ x.input;
            input_fits = x.input_fits;
          };
        }),
      )
