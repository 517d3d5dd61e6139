-- The machine of code whose blocks are in another order, beside that of the old code.
use Rattle.std.proofs.Common.{◌≡◌, ◌≢◌, ℕ, ℤ, suc, ◌<◌, ◌⊎◌, inl, inr, Bool, true, false, not}
use Rattle.std.proofs.Common.{⊎_elim, nat_eq, nat_lt, if◌then◌else◌, List, [], ◌∷◌, length, map, slice_get}
use Rattle.std.proofs.Common.{slice_set, slice_index_or, replicate, Option, Some, None, refl, sym}
use Rattle.std.proofs.Common.{ap, ap₂, subst, ◌∙◌, arith}
use Rattle.std.proofs.lemmas.Bool.{cases_eq}
use Rattle.std.proofs.lemmas.Bool.Decides.{nat_tests}
use Rattle.std.proofs.lemmas.List.{length-set, get_or-set_same, get_or-set_other}
use Rattle.std.proofs.lemmas.Option.{get_or_from_slice_get, slice_get-get_or, slice_get_within}
use Rattle.pra_list.proofs.Options.{some_same, none_some}
use Rattle.pra_base.specs.Agreement.{Carried}
use Rattle.pra_base.specs.System.{Simulates}
use Rattle.pra_base.specs.RunEnd.{Ended, Wrong}
use Rattle.pra_base.proofs.Simulation.{carried}
use Rattle.pra_base.specs.Words.{compares}
use Rattle.pra_base.specs.declared.code.Block.{Block}
use Rattle.pra_base.specs.declared.code.End.{End}
use Rattle.pra_base.specs.declared.code.End.TheVariants.{Jump, Branch, Return}
use Rattle.pra_base.specs.declared.code.VInstr.{VInstr}
use Rattle.pra_base.specs.declared.code.VarKind.TheVariants.{Plain}
use Rattle.pra_base.specs.declared.code.VProc.{VProc}
use Rattle.pra_base.specs.declared.code.VModule.{VModule}
use Rattle.pra_base.specs.Code.{block_in, block_of, code_of, end_of, instr_at, no_block}
use Rattle.pra_base.specs.Operands.{read_by, written_by}
use Rattle.vc_code.specs.Value.{Words}
use Rattle.vc_code.specs.declared.value.Value.{Value}
use Rattle.vc_code.specs.declared.value.Value.TheVariants.{Num}
use Rattle.vc_code.specs.Machine.{Shape, Activation, State, Machine, first, step, act, act_on, view}
use Rattle.vc_code.specs.Machine.{cell, cell_words, is_home, last_get, last_set, returned, branched}
use Rattle.vc_code.specs.Machine.{goes_to, leave}
use Rattle.vc_code.specs.Selected.{Vars, begun, selected, vrun, no_proc, shape, held_by, read}
use Rattle.vc_code.specs.Selected.{put_all, written, behind, at_point, at_block, next_of, RunsWell}
use Rattle.vc_code.specs.Selected as selection
use Rattle.vc_code.proofs.LongerRuns.{is_machine}
use Rattle.vc_same.specs.SameRuns.{SameRuns, with_proc}
use Rattle.vc_same.proofs.Carried.{carried_well}
use Rattle.vc_coupling.specs.Coupled.{Couples, AllBeside, Same, Leads}
use Rattle.vc_coupling.proofs.Applied.{found_same, with_top_same, ended_same, performed}
use Rattle.vc_order.specs.Order.{Places, end_with, block_with, Reordered}
use Rattle.vc_order.specs.Turned.{opposite, turned_end, turned, IsTurned}
use Rattle.vc_order.proofs.Turning.{negates}

abbrev code_in : List VProc → ℕ → VProc
code_in procs p = selection.code_of procs p

-- a block under new numbers, maybe with its branch turned round
abbrev pub Fits : Places → Block → Block → Type 0
Fits to old new = (new ≡ block_with to old) ⊎ (new ≡ turned (block_with to old))

-- a block of the new code stands there, and fits
abbrev Stands : Places → VProc → ℕ → Block → Type 0
Stands to new b old = (z : Block) × (slice_get new.blocks (to b) ≡ Some z) × Fits to old z

-- the blocks of a procedure under new numbers; of each procedure there is one
pub record IsMoved (to : Places) (old new : VProc) : Type 0 where
  pub aggregates : new.aggregates ≡ old.aggregates
  pub vars : new.vars ≡ old.vars
  pub some : nat_lt 0 (length old.blocks) ≡ true → nat_lt 0 (length new.blocks) ≡ true
  pub entry : to 0 ≡ 0
  pub first : Fits to (block_of old 0) (block_of new 0)
  pub blocks : (b : ℕ) (block : Block) → slice_get old.blocks b ≡ Some block →
      Stands to new b block

-- The calls stand at the same instruction of a block, which is the same but for the numbers of its
-- targets and the way in which it branches.
pub record Beside (olds news : List VProc) (to : ℕ → Places) (c d : Activation Vars) : Type 0 where
  pub proc : d.proc ≡ c.proc
  pub args : d.args ≡ c.args
  pub aggregates : d.aggregates ≡ c.aggregates
  pub index : d.home.index ≡ c.home.index
  pub held : d.home.held ≡ c.home.held
  pub here : Fits (to c.proc) (block_of (code_in olds c.proc) c.home.block)
      (block_of (code_in news c.proc) d.home.block)

module _ (olds news : List VProc) (to : ℕ → Places) (frames : List ℕ)
    (long : length news ≡ length olds)
    (all : (p : ℕ) → IsMoved (to p) (code_in olds p) (code_in news p)) where
  abbrev R : Activation Vars → Activation Vars → Type 0
  R = Beside olds news to

  abbrev one : ℕ → Shape
  one = shape olds frames

  abbrev other : ℕ → Shape
  other = shape news frames

  abbrev m : Machine Vars
  m = selected olds frames

  abbrev n : Machine Vars
  n = selected news frames

  same_cells : (c d : Activation Vars) → R c d → (i : ℕ) → cell other d i ≡ cell one c i
  same_cells c d r i =
      let home : is_home (other d.proc) i ≡ is_home (one c.proc) i =
      ap (λ p. is_home (other p) i) r.proc
      ∙ ap (λ kinds. is_home (record
      { kinds = kinds; frame_size = slice_index_or frames c.proc 0 }) i) (all c.proc).vars in
      ap₂ (λ (b : Bool) (args : Words). if b then [] else cell_words (last_get args i)) home r.args

  couples : Couples one other R
  couples = record {
    frames = λ c d r. ap (λ p. slice_index_or frames p 0) r.proc;
    aggregates = λ c d r. r.aggregates;
    cells = same_cells;
    set_aggregates = λ c d r words. record {
      proc = r.proc;
      args = r.args;
      aggregates = refl;
      index = r.index;
      held = r.held;
      here = r.here;
    };
    set_cell = λ c d r i h n. record {
      proc = r.proc;
      args = ap (λ (args : Words). last_set args i h) r.args;
      aggregates =
          r.aggregates;
      index = r.index;
      held = r.held;
      here = r.here;
    };
  }

  begun_beside : (p : ℕ) (args : Words) → R (begun p (code_in olds p) args)
      (begun p (code_in news p) args)
  begun_beside p args = record {
    proc = refl;
    args = refl;
    aggregates = ap (λ k. replicate k None) (all p).aggregates;
    index = refl;
    held = ap (map (selection.argument args)) (all p).vars;
    here = (all p).first;
  }

  -- ---- calls

  there_too : {A : Type 0} (xs ys : List A) (b : ℕ) (x d : A) → length ys ≡ length xs →
      slice_get xs b ≡ Some x → slice_get ys b ≡ Some (slice_index_or ys b d)
  there_too xs ys b x d same e = let lt : b < length xs = slice_get_within xs b x e in
      slice_get-get_or ys b d (omega (arith, lt, same))

  begins_by : (p : ℕ) (args : Words) (o : Option VProc) (x : Activation Vars) →
      selection.begin p o args ≡ Some x → (code : VProc) × (o ≡ Some code) ×
      (nat_lt 0 (length code.blocks) ≡ true) × (x ≡ begun p code args)
  begins_by p args None x e = absurd (none_some e)
  begins_by p args (Some code) x e = by (nat_lt 0 (length code.blocks)) refl e
    where
      by : (b : Bool) → nat_lt 0 (length code.blocks) ≡ b →
          (if b then Some (begun p code args) else None) ≡ Some x → (code' : VProc) ×
          (Some code ≡ Some code') × (nat_lt 0 (length code'.blocks) ≡ true) ×
          (x ≡ begun p code' args)
      by true t d = (code, refl, t, sym (some_same _ x d))
      by false t d = absurd (none_some d)

  begins : (p : ℕ) (args : Words) → Leads R (m.begin p args) (n.begin p args)
  begins p args x e =
      let c = begins_by p args (slice_get olds p) x e in
      let same : code_in olds p ≡ c.0 = get_or_from_slice_get olds p c.0 no_proc c.1 in
      let there = there_too olds news p c.0 no_proc long c.1 in
      let some : nat_lt 0 (length (code_in news p).blocks) ≡ true =
      (all p).some (ap (λ (code : VProc). nat_lt 0 (length code.blocks)) same ∙ c.2) in (
        begun p (code_in news p) args,
        ap (λ o. selection.begin p o args) there
            ∙ ap (λ b. if b then Some (begun p (code_in news p) args) else None) some,
        subst (λ z. R z (begun p (code_in news p) args))
            (ap (λ code. begun p code args) same ∙ sym c.3) (begun_beside p args),
      )

  -- ---- a step

  module _ (s t : State Vars) (r : Same R s t) where
    abbrev p : ℕ
    p = s.top.proc

    abbrev old : VProc
    old = code_in olds p

    abbrev new : VProc
    new = code_in news p

    there_code : code_of new t.top.home.block ≡ code_of old s.top.home.block
    there_code = ⊎_elim (λ e. ap (λ (b : Block). b.code) e) (λ e. ap (λ (b : Block). b.code) e)
        r.top.here

    there_instr : instr_at (code_in news t.top.proc) t.top.home.block t.top.home.index ≡
        instr_at old s.top.home.block s.top.home.index
    there_instr =
        ap (λ q. instr_at (code_in news q) t.top.home.block t.top.home.index) r.top.proc
        ∙ ap₂ (λ code k. slice_get code k) there_code r.top.index

    goes_on : (vs : List ℕ) (xs : List Value) → Leads R (written s.top vs xs) (written t.top vs xs)
    goes_on vs xs x e = by (put_all (Some s.top.home.held) vs xs) refl e
      where
        by : (o : Option Words) → put_all (Some s.top.home.held) vs xs ≡ o → behind s.top o ≡
            Some x → (y : Activation Vars) × (written t.top vs xs ≡ Some y) × R x y
        by None f d = absurd (none_some d)
        by (Some held) f d = (
          at_point t.top t.top.home.block (suc t.top.home.index) held,
          ap (behind t.top) (ap (λ h. put_all (Some h) vs xs) r.top.held ∙ f),
          subst (λ z. R z (at_point t.top t.top.home.block (suc t.top.home.index) held))
              (some_same _ x d)
              (record {
                proc = r.top.proc;
                args = r.top.args;
                aggregates = r.top.aggregates;
                index =
                    ap suc r.top.index;
                held = refl;
                here = r.top.here;
              }),
        )

    jumped : (b : ℕ) (o : Option Block) (x : Activation Vars) → at_block s.top b o ≡ Some x →
        (block : Block) × (o ≡ Some block) × (x ≡ at_point s.top b 0 s.top.home.held)
    jumped b None x e = absurd (none_some e)
    jumped b (Some block) x e = (block, refl, sym (some_same _ x e))

    jumps : (b : ℕ) → Leads R (m.jump b s.top) (n.jump (to p b) t.top)
    jumps b x e =
        let a = jumped b (slice_get old.blocks b) x e in
        let there = (all p).blocks b a.0 a.1 in (
          at_point t.top (to p b) 0 t.top.home.held,
          ap (λ q. at_block t.top (to p b) (slice_get (code_in news q).blocks (to p b))) r.top.proc
              ∙ ap (λ o. at_block t.top (to p b) o) there.1,
          subst (λ z. R z (at_point t.top (to p b) 0 t.top.home.held)) (sym a.2) (record {
            proc = r.top.proc;
            args = r.top.args;
            aggregates = r.top.aggregates;
            index = refl;
            held = r.top.held;
            here = subst (λ z. Fits (to p) z (block_of new (to p b)))
                (sym (get_or_from_slice_get old.blocks b a.0 no_block a.1))
                (subst (λ z. Fits (to p) a.0 z)
                (sym (get_or_from_slice_get new.blocks (to p b) there.0 no_block there.1))
                there.2);
          }),
        )

    returns : (cs ds : List (Activation Vars)) → AllBeside R cs ds →
        Same R (returned s cs) (returned t ds)
    returns [] [] k = ended_same m n R couples s t Ended r
    returns [] (d ∷ ds) k = elim k [ ]
    returns (c ∷ cs) [] k = elim k [ ]
    returns (c ∷ cs) (d ∷ ds) k =
        record {
          top = k.0;
          below = k.1;
          pushed = r.pushed;
          globals = r.globals;
          compared =
              λ ab e. cc;
          input = r.input;
          events = r.events;
          taken = r.taken;
          over = r.over;
        }

    goes : (b : ℕ) → (goes_to m s b).over ≢ Some Wrong →
        Same R (goes_to m s b) (goes_to n t (to p b))
    goes b ok = found_same m n R couples R s t (m.jump b s.top) (n.jump (to p b) t.top) _ _
        (jumps b) (λ x y _ k _. with_top_same m n R couples s t r x y k) ok

    leaves : (e : End) (o : Option (ℕ × ℕ)) → s.compared ≡ o → (leave m e s).over ≢ Some Wrong →
        Same R (leave m e s) (leave n (end_with (to p) e) t)
    leaves (Jump b) o e ok = goes b.0 ok
    leaves Return o e ok = returns s.below t.below r.below
    leaves (Branch c a z) None e ok = absurd (ok (ap (λ o. (branched m c a.0 z.0 o s).over) e))
    leaves (Branch c a z) (Some (x, y)) e ok =
        let up : branched m c a.0 z.0 s.compared s ≡
        goes_to m s (if compares c x y then a.0 else z.0) =
        ap (λ o. branched m c a.0 z.0 o s) e in
        let down : branched n c (to p a.0) (to p z.0) t.compared t ≡
        goes_to n t (if compares c x y then to p a.0 else to p z.0) =
        ap (λ o. branched n c (to p a.0) (to p z.0) o t) (r.compared (x, y) e) in
        rw (up, down ∙ ap (goes_to n t) (sym (chosen (compares c x y))))
        (goes (if compares c x y then a.0 else z.0) (λ w. ok (ap (λ q. q.over) up ∙ w)))
      where
        chosen : (way : Bool) → to p (if way then a.0 else z.0) ≡
            (if way then to p a.0 else to p z.0)
        chosen true = refl
        chosen false = refl

    -- a branch that was turned round goes the same way
    turns : (e : End) → leave n (turned_end e) t ≡ leave n e t
    turns (Jump b) = refl
    turns Return = refl
    turns (Branch c a z) = by t.compared
      where
        chosen : (way : Bool) → (if not way then z.0 else a.0) ≡ (if way then a.0 else z.0)
        chosen true = refl
        chosen false = refl

        by : (o : Option (ℕ × ℕ)) → branched n (opposite c) z.0 a.0 o t ≡
            branched n c a.0 z.0 o t
        by None = refl
        by (Some (x, y)) = ap (goes_to n t) (ap (λ way. if way then z.0 else a.0) (negates c x y)
            ∙ chosen (compares c x y))

    there_end : leave n (end_of (code_in news t.top.proc) t.top.home.block) t ≡
        leave n (end_with (to p) (end_of old s.top.home.block)) t
    there_end = ap (λ q. leave n (end_of (code_in news q) t.top.home.block) t) r.top.proc
        ∙ ⊎_elim (λ e. ap (λ (b : Block). leave n b.end t) e)
        (λ e. ap (λ (b : Block). leave n b.end t) e
        ∙ turns (end_with (to p) (end_of old s.top.home.block)))
        r.top.here

    acts : (o : Option VInstr) → instr_at old s.top.home.block s.top.home.index ≡ o →
        (act m (next_of old s.top o) s).over ≢ Some Wrong →
        Same R (act m (next_of old s.top o) s) (act n (next_of (code_in news t.top.proc) t.top o) t)
    acts None e ok =
        subst (λ z. Same R (leave m (end_of old s.top.home.block) s) z) (sym there_end)
        (leaves (end_of old s.top.home.block) s.compared refl ok)
    acts (Some i) e ok =
        performed m n R couples s t r (λ xs. written s.top (written_by i) xs)
        (λ xs. written t.top (written_by i) xs) (λ xs. goes_on (written_by i) xs) i
        (held_by old s.top (read_by i)) (held_by (code_in news t.top.proc) t.top (read_by i))
        (ap (λ q. held_by (code_in news q) t.top (read_by i)) r.top.proc
        ∙ ap₂ (λ kinds held. map (read (λ v. slice_index_or kinds v Plain) held) (read_by i))
        (all p).vars r.top.held)
        (λ q _. begins q.0 s.pushed) ok

    moves : s.over ≡ None → (step m s).over ≢ Some Wrong → Same R (step m s) (step n t)
    moves going ok =
        let up : step m s ≡ act m (m.next s.top) s = ap (λ o. act_on m o s) going in
        let down : step n t ≡ act n (n.next t.top) t = ap (λ o. act_on n o t) (r.over ∙ going) in
        let same : n.next t.top ≡ next_of (code_in news t.top.proc) t.top
        (instr_at old s.top.home.block s.top.home.index) =
        ap (next_of (code_in news t.top.proc) t.top) there_instr in
        rw (up, down ∙ ap (λ z. act n z t) same)
        (acts (instr_at old s.top.home.block s.top.home.index) refl
        (λ w. ok (ap (λ q. q.over) up ∙ w)))

  -- ---- whole runs

  simulates : Simulates (step m) view (step n) view Wrong 0 (λ s. 0) (Same R)
  simulates = record {
    same = λ s t b. let over : t.over ≡ s.over = b.over in let events : t.events ≡ s.events =
        b.events in let taken : t.taken ≡ s.taken = b.taken in rw (over, events, taken) refl;
    bounded = λ s. omega arith;
    moves = λ s t b going ok. (1, inl (omega arith), moves s t b going ok);
  }

  begin_same : (globals : Words) (input : List ℤ) →
      Same R (first (begun 0 (code_in olds 0) []) globals input)
      (first (begun 0 (code_in news 0) []) globals input)
  begin_same globals input =
      record {
        top = begun_beside 0 [];
        below = tt;
        pushed = refl;
        globals = refl;
        compared =
            λ ab e. e;
        input = refl;
        events = refl;
        taken = refl;
        over = refl;
      }

abbrev zeros : ℕ → Words
zeros k = replicate k (Some (Num 0))

moved_carries : (module_ : VModule) (news : List VProc) (to : ℕ → Places) (frames : List ℕ)
    (input : List ℤ) → length news ≡ length module_.procs →
    ((p : ℕ) → IsMoved (to p) (code_in module_.procs p) (code_in news p)) →
    RunsWell module_ frames input → Carried (vrun module_ frames input)
    (vrun (record module_ { procs = news }) frames input)
moved_carries module_ news to frames input long all well =
    let olds = module_.procs in
    carried (step (selected olds frames)) view (step (selected news frames)) view Wrong 0 (λ s. 0)
    (Same (Beside olds news to)) (is_machine (selected olds frames))
    (simulates olds news to frames long all)
    (first (begun 0 (code_in olds 0) []) (zeros module_.data_words) input)
    (first (begun 0 (code_in news 0) []) (zeros module_.data_words) input)
    (begin_same olds news to frames long all (zeros module_.data_words) input) well

-- ---- one procedure in the place of another

stays_end : (e : End) → end_with (λ b. b) e ≡ e
stays_end (Jump b) = refl
stays_end (Branch c a z) = refl
stays_end Return = refl

stays_block : (b : Block) → b ≡ block_with (λ k. k) b
stays_block b = ap (λ e. record b { end = e }) (sym (stays_end b.end))

numbered : (b c : Block) → (c ≡ b) ⊎ (c ≡ turned b) → Fits (λ k. k) b c
numbered b c = ⊎_elim (λ e. inl (e ∙ stays_block b)) (λ e. inr (e ∙ ap turned (stays_block b)))

itself : (code : VProc) → IsMoved (λ b. b) code code
itself code = record {
  aggregates = refl;
  vars = refl;
  some = λ e. e;
  entry = refl;
  first = inl (stays_block (block_of code 0));
  blocks = λ b block e. (block, e, inl (stays_block block));
}

module _ (to from : Places) (old new : VProc) (is : Reordered to from old new) where
  some_block : nat_lt 0 (length old.blocks) ≡ true → nat_lt 0 (length new.blocks) ≡ true
  some_block e = ap (nat_lt 0) is.count ∙ e

  first_block : (blocks : List Block) → old.blocks ≡ blocks → block_of new 0 ≡
      block_with to (block_of old 0)
  first_block [] e =
      let none : new.blocks ≡ [] = empty new.blocks (is.count ∙ ap (λ bs. length bs) e) in
      ap (λ bs. block_in bs 0) none ∙ ap (λ k. record no_block { end = Jump (record { 0 = k }) })
      (sym is.entry) ∙ ap (λ bs. block_with to (block_in bs 0)) (sym e)
    where
      empty : (bs : List Block) → length bs ≡ 0 → bs ≡ []
      empty [] d = refl
      empty (b ∷ bs) d = absurd (omega (arith, d))
  first_block (b ∷ bs) e =
      let there = is.blocks 0 b (ap (λ xs. slice_get xs 0) e) in
      get_or_from_slice_get new.blocks 0 (block_with to b) no_block
      (ap (slice_get new.blocks) (sym is.entry) ∙ there)
      ∙ ap (block_with to) (sym (ap (λ xs. block_in xs 0) e))

  moved : IsMoved to old new
  moved = record {
    aggregates = is.aggregates;
    vars = is.vars;
    some = some_block;
    entry = is.entry;
    first = inl (first_block old.blocks refl);
    blocks = λ b block e. (block_with to block, is.blocks b block e, inl refl);
  }

module _ (old new : VProc) (is : IsTurned old new) where
  stays : (b : ℕ) (block : Block) → slice_get old.blocks b ≡ Some block →
      Stands (λ k. k) new b block
  stays b block e =
      let lt = slice_get_within old.blocks b block e in (
        block_of new b,
        slice_get-get_or new.blocks b no_block (omega (arith, lt, is.count)),
        numbered block (block_of new b)
            (subst (λ (z : Block). (block_of new b ≡ z) ⊎ (block_of new b ≡ turned z))
            (get_or_from_slice_get old.blocks b block no_block e) (is.blocks b)),
      )

  in_place : IsMoved (λ b. b) old new
  in_place = record {
    aggregates = is.aggregates;
    vars = is.vars;
    some = λ e. ap (nat_lt 0) is.count ∙ e;
    entry = refl;
    first = numbered (block_of old 0) (block_of new 0) (is.blocks 0);
    blocks = stays;
  }

abbrev only_at : ℕ → Places → ℕ → Places
only_at p to q = if nat_eq q p then to else (λ b. b)

-- one procedure is another whose blocks have new numbers and maybe turned branches
runs_moved : (to : Places) (old new : VProc) → IsMoved to old new → SameRuns old new
runs_moved to old new is =
    record {
      carried = carries;
      runs_well = λ module_ p frames input at well. carried_well module_
          (with_proc module_ p new) frames input (carries module_ p frames input at well) well;
    }
  where
    all_moved : (olds : List VProc) (p : ℕ) → slice_get olds p ≡ Some old → (q : ℕ) →
        IsMoved (only_at p to q) (code_in olds q) (code_in (slice_set olds p new) q)
    all_moved olds p at q = by (cases_eq q p)
      where
        by : (q ≡ p) ⊎ (q ≢ p) → IsMoved (only_at p to q) (code_in olds q)
            (code_in (slice_set olds p new) q)
        by (inl same) =
            let test : nat_eq q p ≡ true = grind (arith, nat_tests) in
            let one : code_in olds q ≡ old = ap (code_in olds) same
            ∙ get_or_from_slice_get olds p old no_proc at in
            let two : code_in (slice_set olds p new) q ≡ new =
            ap (code_in (slice_set olds p new)) same ∙ get_or-set_same olds p new no_proc
            (slice_get_within olds p old at) in
            subst (λ b. IsMoved (if b then to else (λ k. k)) (code_in olds q)
            (code_in (slice_set olds p new) q)) (sym test)
            (subst (λ z. IsMoved to z (code_in (slice_set olds p new) q)) (sym one)
            (subst (λ z. IsMoved to old z) (sym two) is))
        by (inr apart) =
            let test : nat_eq q p ≡ false = grind (arith, nat_tests) in
            let same : code_in (slice_set olds p new) q ≡ code_in olds q =
            get_or-set_other olds p q new no_proc apart in
            subst (λ b. IsMoved (if b then to else (λ k. k)) (code_in olds q)
            (code_in (slice_set olds p new) q)) (sym test)
            (subst (λ z. IsMoved (λ k. k) (code_in olds q) z) (sym same) (itself (code_in olds q)))

    carries : (module_ : VModule) (p : ℕ) (frames : List ℕ) (input : List ℤ) →
        slice_get module_.procs p ≡ Some old → RunsWell module_ frames input →
        Carried (vrun module_ frames input) (vrun (with_proc module_ p new) frames input)
    carries module_ p frames input at well = moved_carries module_ (slice_set module_.procs p new)
        (only_at p to) frames input (length-set module_.procs p new) (all_moved module_.procs p at)
        well

pub same_runs : (to from : Places) (old new : VProc) → Reordered to from old new → SameRuns old new
same_runs to from old new is = runs_moved to old new (moved to from old new is)

pub turned_runs : (old new : VProc) → IsTurned old new → SameRuns old new
turned_runs old new is = runs_moved (λ b. b) old new (in_place old new is)
