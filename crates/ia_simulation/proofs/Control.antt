-- Jumps and branches at a block's end.
use Rattle.std.proofs.Common.{◌≡◌, ◌≢◌, ℕ, zero, suc, ◌+◌, ◌-◌, ◌^◌, ◌≤◌, ◌<◌, Bool, true, false}
use Rattle.std.proofs.Common.{List, [], ◌∷◌, ◌++◌, length, Option, Some, None, refl, sym, ap, ◌∙◌}
use Rattle.std.proofs.Common.{subst, arith, ◌⊎◌, inl, inr}
use Rattle.std.specs.Prelude.{nat_eq, if◌then◌else◌, slice_get, flat_map}
use Rattle.std.specs.List.{filter_map}
use Rattle.std.proofs.lemmas.List.Sums.{sum_by-cons}
use Rattle.pra_list.proofs.Truths.{nat_is}
use Rattle.pra_list.proofs.Options.{some_same}
use Rattle.ia_code.specs.Image.{max_code_bytes}
use Rattle.ia_code.specs.Listing.{bytes_of_all, AreSound}
use Rattle.ia_code.specs.Regions.{code_base}
use Rattle.ia_emit.specs.declared.item.Item.{Item}
use Rattle.ia_emit.specs.declared.item.Item.TheVariants.{Jump, Branch}
use Rattle.ia_emit.specs.declared.item.Target.{Target}
use Rattle.ia_emit.specs.declared.item.Target.TheVariants.{Block}
use Rattle.ia_emit.specs.Code.{size_of, size, distance, target_in, block_start, entry, code_of}
use Rattle.ia_emit.specs.Emission.{emit, emit_end, emit_block, jump_to}
use Rattle.ia_emit.proofs.Sizes.{size-cons}
use Rattle.ia_step.specs.Arithmetic.{diff_flags, holds}
use Rattle.ia_step.specs.Effect.{effect, goes, branch}
use Rattle.ia_step.specs.Run.{Ran}
use Rattle.ia_step.specs.State as machine
use Rattle.ia_step.proofs.Conditions.{holds-diff_flags}
use Rattle.ia_step.proofs.Reaches.{Reaches, reach_none, reach_on}
use Rattle.pl_place.specs.declared.placed.LBlock.{LBlock}
use Rattle.pl_place.specs.declared.placed.LProc.{LProc}
use Rattle.pl_place.specs.Machine.{Cells, at_block, proc_of, placed_machine}
use Rattle.pl_place.specs.Placed.{op_of}
use Rattle.pl_place.specs.Valid.{counts_of}
use Rattle.pra_base.specs.declared.code.End.TheVariants as end
use Rattle.pra_base.specs.declared.ids.BlockId.{BlockId}
use Rattle.pra_base.specs.declared.ids.Cond.{Cond}
use Rattle.pra_base.specs.RunEnd.{Wrong}
use Rattle.pra_base.specs.Valid.{PushesLead, TakesArgs}
use Rattle.pra_base.specs.Words.{word, sum32, compares}
use Rattle.vc_code.specs.Value.{Words}
use Rattle.vc_code.specs.Machine.{Activation, State, with_top, goes_to, branched}
use Rattle.ia_simulation.specs.Frames.{frames}
use Rattle.ia_simulation.specs.Realizes.{IsLoadable, StandsBefore, FlagsTell, Runs, Realizes, most}
use Rattle.ia_simulation.specs.Realizes.{Leads}
use Rattle.ia_simulation.proofs.Here.{AreAt}
use Rattle.ia_simulation.proofs.Here as here
use Rattle.ia_simulation.proofs.Places.{block_at}
use Rattle.ia_simulation.proofs.Cells.{get_inside}
use Rattle.ia_simulation.proofs.Standing as standing
use Rattle.ia_simulation.proofs.Start.{stands_at}
use Rattle.ia_simulation.proofs.Steps as steps
use Rattle.ia_simulation.proofs.Steps.{found_ok}
use Rattle.ia_simulation.proofs.Walks.{Walks, aimed_at, reaches, goes_on}

-- ---- the jump to a block, or none to the next one

lands : (procs : List LProc) → AreSound (code_of procs) → length (bytes_of_all (code_of procs)) ≤
    max_code_bytes → (p : LProc) (start : ℕ) (m : machine.State) (words : Words) (from next : ℕ)
    (b : BlockId) →
    Walks procs m words (target_in p start) from (jump_to next b) → from + size (jump_to next b) ≡
    block_start p start next → block_start p start b.0 ≤ max_code_bytes →
    (k : ℕ) × Reaches k m (machine.at m (code_base + block_start p start b.0)) ×
    ((0 < k) ⊎ (b.0 ≡ next))
unfolding effect
lands procs sound short p start m words from next b w flows small =
    one (nat_eq b.0 next) refl w flows
  where
    one : (c : Bool) → nat_eq b.0 next ≡ c → Walks procs m words (target_in p start) from
        (if c then [] else Jump (Block b) ∷ []) →
        from + size (if c then [] else Jump (Block b) ∷ []) ≡ block_start p start next →
        (k : ℕ) × Reaches k m (machine.at m (code_base + block_start p start b.0)) ×
        ((0 < k) ⊎ (b.0 ≡ next))
    one true e w flows =
        let same : b.0 ≡ next = nat_is b.0 next e in
        let starts = ap (block_start p start) same in
        let there : m.eip ≡ code_base + block_start p start b.0 =
        omega (arith, w.place, flows, starts) in
        (0, subst (λ n. Reaches 0 m (machine.at m n)) there (reach_none m), inr same)
    one false e w flows =
        let x = Jump (Block b) in
        let inside = here.within procs (target_in p start) from (x ∷ []) w.items_at in
        let s = size-cons x [] in
        let n = from + size_of x in
        let d = distance n (block_start p start b.0) in
        let to : sum32 (m.eip + size_of x) (word d) ≡ code_base + block_start p start b.0 =
        ap (λ k. sum32 k (word d)) (omega (arith, w.place)) ∙ aimed_at n (block_start p start b.0)
        (omega (arith, inside, s, short)) small in (
          1,
          reaches procs sound m words (target_in p start) from x [] w
              (machine.at m (code_base + block_start p start b.0))
              (ap (λ k. goes (machine.at m k)) to),
          inl (omega arith),
        )

-- ---- blocks

-- the call at the begin of a block
abbrev moved_to : Activation Cells → ℕ → LBlock → Activation Cells
moved_to c b x = record c { home = record c.home { block = b; rest = x.code; end = x.end } }

block_is : (c d : Activation Cells) (b : ℕ) (x : Option LBlock) → at_block c b x ≡ Some d →
    (block : LBlock) × (x ≡ Some block) × (moved_to c b block ≡ d)
block_is c d b None e = cc
block_is c d b (Some x) e = (x, refl, some_same (moved_to c b x) d e)

few_blocks : (procs : List LProc) (q : ℕ) (p : LProc) → slice_get procs q ≡ Some p →
    length p.blocks ≤ most procs
few_blocks [] q p e = cc
few_blocks (c ∷ procs) zero p e =
    let same : c ≡ p = some_same c p e in
    let long = ap (λ (c : LProc). length c.blocks) same in
    let sum = sum_by-cons (λ (p : LProc). length p.blocks) c procs in
    omega (arith, long, sum)
few_blocks (c ∷ procs) (suc q) p e =
    let rest = few_blocks procs q p e in
    let sum = sum_by-cons (λ (p : LProc). length p.blocks) c procs in
    omega (arith, rest, sum)

module _ (procs : List LProc) (data_words : ℕ) (ok : IsLoadable procs data_words) (s : State Cells)
    (r : Ran) (y : Realizes procs s r) (o : s.over ≡ None) (done : s.top.home.rest ≡ []) where
  abbrev m : machine.State
  m = r.state

  abbrev x : Runs procs s m
  x = steps.x procs data_words ok s r y o

  abbrev pub p : LProc
  p = proc_of procs s.top.proc

  abbrev pub start : ℕ
  start = entry procs s.top.proc

  abbrev next : ℕ
  next = s.top.home.block + 1

  abbrev pub target : Target → ℕ
  target = target_in p start

  abbrev pub from : ℕ
  from = standing.here procs s.top.proc s.top.home.block s.top.home.rest s.top.home.end
      (length s.pushed) m.eip x.stands

  abbrev pub words : Words
  words = s.pushed ++ frames procs x.backs (s.top ∷ s.below)

  pub none_pushed : length s.pushed ≡ 0
  none_pushed = subst (λ rest. PushesLead (TakesArgs (counts_of procs)) (length s.pushed)
      (filter_map op_of rest)) done x.stands.pushes_lead

  end_at : AreAt procs target from (emit_end p next s.top.home.end)
  end_at =
      subst (λ rest. AreAt procs target from
      (flat_map (emit p) rest ++ emit_end p next s.top.home.end)) done
      (standing.left_at procs s.top.proc s.top.home.block s.top.home.rest s.top.home.end
      (length s.pushed) m.eip x.stands)

  flows : from + size (emit_end p next s.top.home.end) ≡ block_start p start next
  flows =
      let number : suc s.top.home.block ≡ next = omega arith in
      subst (λ rest. from + size (flat_map (emit p) rest ++ emit_end p next s.top.home.end) ≡
      block_start p start next) done
      (standing.flows procs s.top.proc s.top.home.block s.top.home.rest s.top.home.end
      (length s.pushed) m.eip x.stands ∙ ap (block_start p start) number)

  pub walks : Walks procs m words target from (emit_end p next s.top.home.end)
  walks = record {
    code = x.code;
    going = steps.going procs data_words ok s r y o;
    stack = x.lies.words;
    small = omega (arith, x.lies.data_long, x.lies.data_few);
    place = x.stands.place_is;
    items_at = end_at;
  }

  abbrev there : (b : ℕ) → machine.State
  there b = machine.at m (code_base + block_start p start b)

  -- at the begin of a block the machine stands for the call there
  arrived : (b : ℕ) (block : LBlock) (n : ℕ) → slice_get p.blocks b ≡ Some block →
      Realizes procs (with_top s (moved_to s.top b block))
      (record { state = there b; events = r.events; steps = n })
  arrived b block n has = record {
    ending = y.ending;
    events = y.events;
    taken = y.taken;
    going = λ _. record {
      backs = x.backs;
      code = x.code;
      stands = subst (λ k. StandsBefore procs s.top.proc b block.code block.end k
          (code_base + block_start p start b)) (sym none_pushed)
          (stands_at procs data_words ok s.top.proc b block _ x.stands.there has refl);
      waiting = x.waiting;
      lies = record {
        sizes = x.lies.sizes;
        registers = x.lies.registers;
        words = x.lies.words;
        ebp = x.lies.ebp;
        deep = x.lies.deep;
        globals_hold = x.lies.globals_hold;
        data_long = x.lies.data_long;
        data_few = x.lies.data_few;
      };
      flags = tt;
      input = x.input;
      input_fits = x.input_fits;
    };
  }

  lower : (b k : ℕ) → (0 < k) ⊎ (b ≡ next) → (0 < k) ⊎
      (most procs - b < most procs - s.top.home.block)
  lower b k (inl l) = inl l
  lower b k (inr same) =
      let inside = get_inside p.blocks s.top.home.block x.stands.code x.stands.in_block in
      let few = few_blocks procs s.top.proc p x.stands.there in
      inr (omega (arith, same, inside, few))

  arrives : (b : ℕ) → ((block : LBlock) → slice_get p.blocks b ≡ Some block → (k : ℕ) ×
      Reaches k m (there b) × ((0 < k) ⊎ (b ≡ next))) →
      (goes_to (placed_machine procs) s b).over ≢ Some Wrong →
      Leads procs s r (goes_to (placed_machine procs) s b)
  arrives b reach ns =
      found_ok (Leads procs s r) s (at_block s.top b (slice_get p.blocks b)) (with_top s) ns
      (λ c e _.
      let z = block_is s.top c b (slice_get p.blocks b) e in
      let g = reach z.0 z.1 in
      subst (λ c. Leads procs s r (with_top s c)) z.2 (
        g.0,
        lower b g.0 g.2,
        subst (Realizes procs (with_top s (moved_to s.top b z.0))) (sym (g.1.by r.events r.steps))
            (arrived b z.0 (r.steps + g.0) z.1),
      ))

  block_small : (b : ℕ) (block : LBlock) → slice_get p.blocks b ≡ Some block →
      block_start p start b ≤ max_code_bytes
  block_small b block has =
      let inside = here.within procs target (block_start p start b) (emit_block p b block)
      (block_at procs s.top.proc p x.stands.there b block has) in
      omega (arith, inside, ok.short)

  -- a jump
  pub jumps : (b : BlockId) → s.top.home.end ≡ end.Jump b →
      (goes_to (placed_machine procs) s b.0).over ≢ Some Wrong →
      Leads procs s r (goes_to (placed_machine procs) s b.0)
  jumps b e =
      let w = subst (λ e. Walks procs m words target from (emit_end p next e)) e walks in
      let f = subst (λ e. from + size (emit_end p next e) ≡ block_start p start next) e flows in
      arrives b.0 (λ block has. lands procs ok.sound ok.short p start m words from next b w f
      (block_small b.0 block has))

  -- a branch, where these were compared
  module _ (c : Cond) (one other : BlockId) (e : s.top.home.end ≡ end.Branch c one other) (a b : ℕ)
      (tell : (m.flags ≡ diff_flags a b) × (a < 2 ^ 32) × (b < 2 ^ 32)) where
    abbrev x0 : Item
    x0 = Branch c (Block one)

    abbrev more : List Item
    more = jump_to next other

    w : Walks procs m words target from (x0 ∷ more)
    w = subst (λ e. Walks procs m words target from (emit_end p next e)) e walks

    condition : holds m.flags c ≡ Some (compares c a b)
    condition = ap (λ f. holds f c) tell.0 ∙ holds-diff_flags a b tell.1 tell.2 c

    taken : compares c a b ≡ true → (block : LBlock) → slice_get p.blocks one.0 ≡ Some block →
        Reaches 1 m (there one.0)
    unfolding effect
    taken t block has =
        let n = from + size_of x0 in
        let d = distance n (block_start p start one.0) in
        let inside = here.within procs target from (x0 ∷ more) w.items_at in
        let s = size-cons x0 more in
        let to : sum32 (m.eip + size_of x0) (word d) ≡ code_base + block_start p start one.0 =
        ap (λ k. sum32 k (word d)) (omega (arith, w.place)) ∙ aimed_at n (block_start p start one.0)
        (omega (arith, inside, s, ok.short)) (block_small one.0 block has) in
        reaches procs ok.sound m words target from x0 more w (there one.0)
        (ap (branch (machine.at m (m.eip + size_of x0)) d) (condition ∙ ap Some t)
        ∙ ap (λ k. goes (machine.at m k)) to)

    abbrev m1 : machine.State
    m1 = machine.at m (m.eip + size_of x0)

    passed_by : compares c a b ≡ false → Reaches 1 m m1
    unfolding effect
    passed_by t =
        reaches procs ok.sound m words target from x0 more w m1
        (ap (branch (machine.at m (m.eip + size_of x0))
        (distance (from + size_of x0) (block_start p start one.0))) (condition ∙ ap Some t))

    w1 : Walks procs m1 words target (from + size_of x0) more
    w1 = goes_on procs ok.sound m words target from x0 more w m.regs m.flags refl

    flows1 : from + size_of x0 + size more ≡ block_start p start next
    flows1 =
        let f = subst (λ e. from + size (emit_end p next e) ≡ block_start p start next) e flows in
        let s = size-cons x0 more in
        omega (arith, f, s)

    pub branches : (goes_to (placed_machine procs) s
        (if compares c a b then one.0 else other.0)).over ≢ Some Wrong →
        Leads procs s r (goes_to (placed_machine procs) s
        (if compares c a b then one.0 else other.0))
    branches = choose (compares c a b) refl
      where
        choose : (t : Bool) → compares c a b ≡ t →
            (goes_to (placed_machine procs) s (if t then one.0 else other.0)).over ≢ Some Wrong →
            Leads procs s r (goes_to (placed_machine procs) s (if t then one.0 else other.0))
        choose true t = arrives one.0 (λ block has. (1, taken t block has, inl (omega arith)))
        choose false t =
            arrives other.0 (λ block has.
            let l = lands procs ok.sound ok.short p start m1 words (from + size_of x0) next other w1
            flows1 (block_small other.0 block has) in
            (1 + l.0, reach_on 1 l.0 m m1 (there other.0) (passed_by t) l.1, inl (omega arith)))

  pub branching : (c : Cond) (one other : BlockId) → s.top.home.end ≡ end.Branch c one other →
      (compared : Option (ℕ × ℕ)) → FlagsTell compared m.flags →
      (branched (placed_machine procs) c one.0 other.0 compared s).over ≢ Some Wrong →
      Leads procs s r (branched (placed_machine procs) c one.0 other.0 compared s)
  branching c one other e None tell ns = absurd (ns refl)
  branching c one other e (Some x) tell ns = branches c one other e x.0 x.1 tell ns
