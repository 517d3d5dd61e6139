-- A step of selected code is some steps of placed code.
use Rattle.std.proofs.Common.{◌≡◌, ◌≢◌, ℕ, zero, suc, ◌+◌, ◌-◌, ◌<◌, inl, inr, Bool, true, false}
use Rattle.std.proofs.Common.{nat_lt, if◌then◌else◌, List, [], ◌∷◌, ◌++◌, length, map, drop}
use Rattle.std.proofs.Common.{slice_get, slice_index_or, Option, Some, None, refl, sym, ap, ap₂}
use Rattle.std.proofs.Common.{subst, ◌∙◌, arith, append-nil}
use Rattle.std.proofs.lemmas.Bool.Decides.{nat_tests}
use Rattle.std.proofs.lemmas.List.{length-replicate}
use Rattle.pra_list.proofs.Truths.{if_true}
use Rattle.pra_list.specs.Among.{Among}
use Rattle.pra_list.proofs.Options.{some_same}
use Rattle.pra_base.specs.System.{run}
use Rattle.pra_base.proofs.Simulation.{run_more}
use Rattle.pra_base.specs.RunEnd.{Ended, Wrong}
use Rattle.pra_base.specs.Words.{compares}
use Rattle.pra_base.specs.declared.ids.ProcId.{ProcId}
use Rattle.pra_base.specs.declared.code.VarKind.{VarKind}
use Rattle.pra_base.specs.declared.code.VarKind.TheVariants.{Param, Plain}
use Rattle.pra_base.specs.declared.code.VInstr.{VInstr}
use Rattle.pra_base.specs.declared.code.End.{End}
use Rattle.pra_base.specs.declared.code.End.TheVariants.{Jump, Branch, Return}
use Rattle.pra_base.specs.declared.code.Block.{Block}
use Rattle.pra_base.specs.declared.code.VProc.{VProc}
use Rattle.pra_base.specs.Code.{code_of, instr_at, end_of, IsTarget}
use Rattle.pra_base.specs.Code as code
use Rattle.pra_base.specs.Operands.{read_by, written_by}
use Rattle.pra_base.specs.Places.{register_count}
use Rattle.vc_code.specs.declared.value.Value.{Value}
use Rattle.vc_code.specs.declared.action.Action.TheVariants.{Call}
use Rattle.vc_code.specs.Value.{Held, Words}
use Rattle.vc_code.specs.Operation.{operate}
use Rattle.vc_code.specs.Machine.{Activation, State, Machine, Instr, here, last_get, joined, act}
use Rattle.vc_code.specs.Machine.{act_on, step, returned, goes_to, branched, leave}
use Rattle.vc_code.specs.Selected.{Vars, read, at_point, behind}
use Rattle.vc_code.specs.Selected as selected
use Rattle.pl_moves.specs.Meaning.{Cell, Register, Memory, Fixed}
use Rattle.pl_place.specs.declared.placed.LInstr.{LInstr}
use Rattle.pl_place.specs.declared.placed.LInstr.TheVariants as placed
use Rattle.pl_place.specs.declared.placed.LBlock.{LBlock}
use Rattle.pl_place.specs.declared.placed.LProc.{LProc}
use Rattle.pl_place.specs.Placed.{kind_of, slot_of, frame_size}
use Rattle.pl_place.specs.Machine.{Cells, Spot, Slot, Argument, Nowhere, spot, in_spot, at_cell}
use Rattle.pl_place.specs.Machine.{cells, clobbered, operands, put_all, nothing}
use Rattle.pl_place.specs.Machine as low
use Rattle.pra_list.specs.Each.{Each}
use Rattle.pl_simulation.specs.Correspondence.{Allocation, InFrame, Transfers, FitsAt, IsOpAt}
use Rattle.pl_simulation.specs.Correspondence.{InstrCorresponds, EndCorresponds, Comes, Corresponds}
use Rattle.vc_coupling.specs.Coupled.{AllBeside, Couples, Same, Leads}
use Rattle.vc_coupling.proofs.Applied.{found_same, with_top_same, ended_same, performed}
use Rattle.pl_simulation.proofs.Cells.{ParamsApart, HasCells}
use Rattle.pl_simulation.proofs.Located.{IsIn, Matches, reads_same, matches_behind, behind_is}
use Rattle.pl_simulation.proofs.Moved.{Ran, moves_run, matches_moved}
use Rattle.pl_simulation.proofs.Tracked.{Tracks, matches_same, couples}
use Rattle.pl_moves.proofs.Shifts.{all_shifted}

-- no moves bring an allocation to itself
pub no_moves : (p : LProc) (at : Allocation) → ((v q : ℕ) → at v ≡ Some q → cells p v q ≢ []) →
    Transfers p [] at at
no_moves p at some = record {
  in_cells = tt;
  pairs = [];
  assigns = record { after = λ cell. cell; runs = refl; each = λ cell. refl };
  brings = λ v q e. record {
    some = some v q e;
    from = q;
    comes = inl e;
    each =
        themselves (cells p v q);
  };
}
  where
    more : (x : Cell) (all : List Cell) (xs : List Cell) → Each (λ y. Among y all) xs →
        Each (λ y. Among y (x ∷ all)) xs
    more x all [] has = tt
    more x all (y ∷ ys) has = (inr has.0, more x all ys has.1)

    themselves : (xs : List Cell) → Each (λ x. Among x xs) xs
    themselves [] = tt
    themselves (x ∷ xs) = (inl refl, more x xs xs (themselves xs))

none_some : {X : Type 0} (o : Option X) (x : X) → o ≡ Some x → o ≡ None → ⊥
none_some o x e f = cc

-- an instruction in its places
op_next : (p : LProc) (u : Activation Cells) (op : LInstr) (rest : List LInstr) (i : VInstr)
    (places : List ℕ) → IsOpAt op i places →
    low.next_of p u (op ∷ rest) ≡ Instr i (operands p u (read_by i) places)
    (λ xs. put_all p (Some (clobbered i rest u)) (written_by i)
    (drop (length (read_by i)) places) xs)
op_next p u (placed.Op j ps) rest i places is =
    ap₂ (λ (k : VInstr) (qs : List ℕ). Instr k (operands p u (read_by k) qs)
    (λ xs. put_all p (Some (clobbered k rest u)) (written_by k) (drop (length (read_by k)) qs) xs))
    is.0 is.1
op_next p u (placed.Move m) rest i places is = absurd is

-- the procedure is there, with a first block, and it is called with as many arguments as it has
-- parameters
pub record TakesCall (codes : List VProc) (procs : List LProc) (count n : ℕ) (args : Words) : Type 0
  where
    pub inside : n < count
    pub code : slice_get codes n ≡ Some (selected.code_of codes n)
    pub proc : slice_get procs n ≡ Some (low.proc_of procs n)
    pub entry : 0 < length (selected.code_of codes n).blocks
    pub many : length args ≡ (low.proc_of procs n).args

-- ---- where a block ends

end_after : (xs : List VInstr) (k : ℕ) (i : VInstr) → slice_get xs k ≡ Some i →
    slice_get xs (suc k) ≡ None → length xs ≡ suc k
end_after [] k i e f = cc
end_after (x ∷ []) zero i e f = refl
end_after (x ∷ y ∷ xs) zero i e f = cc
end_after (x ∷ xs) (suc k) i e f = ap suc (end_after xs k i e f)

end_first : (xs : List VInstr) → slice_get xs 0 ≡ None → length xs ≡ 0
end_first [] e = refl
end_first (x ∷ xs) e = cc

pub ends_at : (code : VProc) (p : LProc) (l : Corresponds code p) (b k : ℕ) →
    b < length code.blocks → length (code_of code b) ≡ k → EndCorresponds p (l.rest b k)
    (l.before b k) (l.exit b)
ends_at code p l b k lt e = subst (λ n. EndCorresponds p (l.rest b n) (l.before b n) (l.exit b)) e
    (l.ends b lt)

-- ---- calls with the same words

same_spot_at : (d u : Activation Cells) (s : Spot) → d.home.slots ≡ u.home.slots → d.args ≡ u.args →
    in_spot d s ≡ in_spot u s
same_spot_at d u (Slot k) f g = ap (λ (ws : Words). last_get ws k) f
same_spot_at d u (Argument i) f g = ap (λ (ws : Words). last_get ws i) g
same_spot_at d u Nowhere f g = refl

same_at : (p : LProc) (d u : Activation Cells) (a : Cell) → d.home.regs ≡ u.home.regs →
    d.home.slots ≡ u.home.slots → d.args ≡ u.args → at_cell p d a ≡ at_cell p u a
same_at p d u (Register r) e f g = ap (λ (ws : Words). slice_get ws r) e
same_at p d u (Memory v) e f g = same_spot_at d u (spot p v) f g
same_at p d u (Fixed n) e f g = refl

pub jumped : (c x : Activation Vars) (b : ℕ) (o : Option Block) → selected.at_block c b o ≡ Some x →
    at_point c b 0 c.home.held ≡ x
jumped c x b None e = cc
jumped c x b (Some block) e = some_same (at_point c b 0 c.home.held) x e

pub entered_is : (t : Bool) (c x : Activation Vars) → (if t then Some c else None) ≡ Some x → c ≡ x
entered_is true c x e = some_same c x e
entered_is false c x e = cc

module _ (codes_list : List VProc) (frames : List ℕ) (list : List LProc) (count : ℕ) where
  abbrev pub high : Machine Vars
  high = selected.selected codes_list frames

  abbrev pub lower : Machine Cells
  lower = low.placed_machine list

  abbrev pub codes : ℕ → VProc
  codes n = selected.code_of codes_list n

  abbrev pub procs : ℕ → LProc
  procs n = low.proc_of list n

  module _ (all : (n : ℕ) → Corresponds (codes n) (procs n))
      (sizes : (n : ℕ) → n < count → frame_size (procs n) ≡ slice_index_or frames n 0) where
    abbrev pub R : Activation Vars → Activation Cells → Type 0
    R = Tracks codes procs count all

    coupled : Couples high.shape lower.shape R
    coupled = couples codes procs count all high.shape lower.shape (λ n. refl) (λ n. refl) sizes

    params : (n : ℕ) → ParamsApart (procs n)
    params n = (all n).params_apart

    with_lower : (s : State Vars) (t : State Cells) (u : Activation Cells) → Same R s t →
        R s.top u → Same R s (record t { top = u })
    with_lower s t u r k = record {
      top = k;
      below = r.below;
      pushed = r.pushed;
      globals =
          r.globals;
      compared = r.compared;
      input = r.input;
      events = r.events;
      taken = r.taken;
      over = r.over;
    }

    -- where moves begin
    not_yet : (p : LProc) (d : Activation Cells) (left : List LInstr) → HasCells p d → d.home.rest ≡
        left → Ran p d d (λ b. b) left
    not_yet p d left there e =
        record {
          there = there;
          renamed = λ b. refl;
          aggregates = refl;
          args = λ i _. refl;
          proc =
              refl;
          end = refl;
          rest = e;
        }

    -- ---- an instruction

    -- behind its moves
    at_instr : (c : Activation Vars) (d u : Activation Cells) → (r : R c d) → (i : VInstr) →
        (is : instr_at (codes c.proc) c.home.block c.home.index ≡ Some i) → let l = r.instr i is in
        Ran (procs c.proc) d u (all_shifted l.moves (λ b. b))
        (l.op ∷ (all c.proc).rest c.home.block (suc c.home.index)) →
        Matches (procs c.proc) l.at c u → R c u
    at_instr c d u r i is ran matches =
        let l = r.instr i is in
        record {
          proc = ran.proc ∙ r.proc;
          inside = r.inside;
          in_block = r.in_block;
          end = ran.end ∙ r.end;
          at = l.at;
          matches = matches;
          instr = λ j e. record {
            moves = [];
            op = l.op;
            places = l.places;
            parts = ran.rest;
            is_op = subst (λ k. IsOpAt l.op k l.places) (some_same i j (sym is ∙ e)) l.is_op;
            at = l.at;
            transfers = no_moves (procs c.proc) l.at (λ v q f. (matches.located v q f).some);
            fits = subst (λ k. FitsAt (procs c.proc) k l.places l.at
                ((all c.proc).before c.home.block (suc c.home.index))) (some_same i j (sym is ∙ e))
                l.fits;
          };
          ends = λ e. absurd (none_some _ i is e);
        }

    -- what follows when the values are written
    go_on : (c : Activation Vars) (u : Activation Cells) (i : VInstr) (places : List ℕ)
        (at : Allocation) → u.proc ≡ c.proc → u.home.end ≡ end_of (codes c.proc) c.home.block →
        c.proc < count → c.home.block < length (codes c.proc).blocks →
        instr_at (codes c.proc) c.home.block c.home.index ≡ Some i →
        let p = procs c.proc in let rest = (all c.proc).rest c.home.block (suc c.home.index) in
        FitsAt p i places at ((all c.proc).before c.home.block (suc c.home.index)) →
        Matches p at c u → (xs : List Value) →
        Leads R (behind c (selected.put_all (Some c.home.held) (written_by i) xs))
        (put_all p (Some (clobbered i rest u)) (written_by i) (drop (length (read_by i)) places)
        xs)
    go_on c u i places at proc end inside in_block here fits matches xs x e =
        let p = procs c.proc in
        let next = (all c.proc).before c.home.block (suc c.home.index) in
        let rest = (all c.proc).rest c.home.block (suc c.home.index) in
        let w = matches_behind p (params c.proc) i rest places at next c x u fits matches xs e in
        let b = behind_is c x (selected.put_all (Some c.home.held) (written_by i) xs) e in (
          w.0,
          w.1,
          subst (λ z. R z w.0) (sym b.2) (record {
            proc = w.3.proc ∙ proc;
            inside = inside;
            in_block = in_block;
            end = w.3.end ∙ end;
            at = next;
            matches = subst (λ z. Matches p next z w.0) b.2 w.2;
            instr = λ j f. subst (λ left. InstrCorresponds p j left
                ((all c.proc).rest c.home.block (suc (suc c.home.index))) next
                ((all c.proc).before c.home.block (suc (suc c.home.index)))) (sym w.3.rest)
                ((all c.proc).instrs c.home.block (suc c.home.index) j f);
            ends = λ f. subst (λ left. EndCorresponds p left next ((all c.proc).exit c.home.block))
                (sym w.3.rest) (ends_at (codes c.proc) p (all c.proc) c.home.block
                (suc c.home.index) in_block
                (end_after (code_of (codes c.proc) c.home.block) c.home.index i here f));
          }),
        )

    high_step : (s : State Vars) (i : VInstr) → s.over ≡ None →
        instr_at (codes s.top.proc) s.top.home.block s.top.home.index ≡ Some i →
        step high s ≡ act high (Instr i
        (map (read (code.kind_of (codes s.top.proc)) s.top.home.held) (read_by i))
        (λ xs. behind s.top (selected.put_all (Some s.top.home.held) (written_by i) xs))) s
    high_step s i going is = ap (λ o. act_on high o s) going
        ∙ ap (λ o. act high (selected.next_of (codes s.top.proc) s.top o) s) is

    lower_step : (t : State Cells) (u : Activation Cells) (p : LProc) (op : LInstr)
        (rest : List LInstr) (i : VInstr) (places : List ℕ) → t.over ≡ None →
        low.proc_of list u.proc ≡ p → u.home.rest ≡ op ∷ rest → IsOpAt op i places →
        step lower (record t { top = u }) ≡
        act lower (Instr i (operands p u (read_by i) places)
        (λ xs. put_all p (Some (clobbered i rest u)) (written_by i)
        (drop (length (read_by i)) places) xs)) (record t { top = u })
    lower_step t u p op rest i places going proc left is =
        ap (λ o. act_on lower o (record t { top = u })) going
        ∙ ap₂ (λ q r. act lower (low.next_of q u r) (record t { top = u })) proc left
        ∙ ap (λ n. act lower n (record t { top = u })) (op_next p u op rest i places is)

    -- a step of selected code is at least one step of placed code
    abbrev pub Steps : State Vars → State Cells → Type 0
    Steps s t = (k : ℕ) × (0 < k) × Same R s (run (step lower) k t)

    -- k moves and a step
    after_moves : (s by : State Vars) (t next : State Cells) (k : ℕ) (new : State Cells) → s ≡ by →
        run (step lower) k t ≡ next → step lower next ≡ new → Same R by new → Steps s t
    after_moves s by t next k new up moved made r = (
      k + 1,
      omega arith,
      subst (λ y. Same R y (run (step lower) (k + 1) t)) (sym up)
          (subst (λ z. Same R by z)
          (sym (run_more (step lower) k 1 t ∙ ap (λ z. step lower z) moved ∙ made)) r),
    )

    pub instr_step : (s : State Vars) (t : State Cells) → Same R s t → s.over ≡ None →
        (i : VInstr) → instr_at (codes s.top.proc) s.top.home.block s.top.home.index ≡ Some i →
        ((p : ProcId) → operate (here high.shape s) i
        (map (read (code.kind_of (codes s.top.proc)) s.top.home.held) (read_by i)) ≡
        Some (Call p) → Leads R (high.begin p.0 s.pushed) (lower.begin p.0 s.pushed)) →
        (step high s).over ≢ Some Wrong → Steps (step high s) t
    instr_step s t r going i is begins ok =
        let p = procs s.top.proc in
        let top = r.top in
        let l = top.instr i is in
        let rest = (all s.top.proc).rest s.top.home.block (suc s.top.home.index) in
        let t_going : t.over ≡ None = r.over ∙ going in
        let m = moves_run list p (params s.top.proc) t.top (λ b. b) l.moves (l.op ∷ rest) t t_going
        (ap (λ n. procs n) top.proc) l.transfers.in_cells
        (not_yet p t.top _ top.matches.there l.parts) in
        let u = m.0 in
        let mid = matches_moved p l.moves (l.op ∷ rest) top.at l.at s.top t.top u l.transfers
        top.matches m.2 in
        let same : Same R s (record t { top = u }) =
        with_lower s t u r (at_instr s.top t.top u top i is m.2 mid) in
        let proc : u.proc ≡ s.top.proc = m.2.proc ∙ top.proc in
        let end : u.home.end ≡ end_of (codes s.top.proc) s.top.home.block = m.2.end ∙ top.end in
        let kinds : map (read (kind_of p) s.top.home.held) (read_by i) ≡
        map (read (code.kind_of (codes s.top.proc)) s.top.home.held) (read_by i) =
        ap (λ (vars : List VarKind). map
        (read (λ v. slice_index_or vars v Plain) s.top.home.held) (read_by i))
        (all s.top.proc).vars in
        let reads = reads_same p l.at s.top u mid (read_by i) l.places l.fits.reads ∙ kinds in
        let up = high_step s i going is in
        let down = lower_step t u p l.op rest i l.places t_going (ap (λ n. procs n) proc) m.2.rest
        l.is_op in
        let done = performed high lower R coupled s (record t { top = u }) same
        (λ xs. behind s.top (selected.put_all (Some s.top.home.held) (written_by i) xs))
        (λ xs. put_all p (Some (clobbered i rest u)) (written_by i)
        (drop (length (read_by i)) l.places) xs)
        (go_on s.top u i l.places l.at proc end top.inside top.in_block is l.fits mid)
        i _ _ reads begins (λ e. ok (ap (λ z. z.over) up ∙ e)) in
        after_moves (step high s) _ t (record t { top = u }) (length l.moves) _ up m.1 down done

    -- ---- the end of a block

    at_end : (c : Activation Vars) (d u : Activation Cells) → (r : R c d) →
        (is : instr_at (codes c.proc) c.home.block c.home.index ≡ None) → let l = r.ends is in
        Ran (procs c.proc) d u (all_shifted l.moves (λ b. b)) [] →
        Matches (procs c.proc) ((all c.proc).exit c.home.block) c u → R c u
    at_end c d u r is ran matches = record {
      proc = ran.proc ∙ r.proc;
      inside = r.inside;
      in_block = r.in_block;
      end = ran.end ∙ r.end;
      at = (all c.proc).exit c.home.block;
      matches = matches;
      instr = λ j e. absurd (none_some _ j e is);
      ends = λ e. record {
        moves = [];
        parts = ran.rest;
        transfers =
            no_moves (procs c.proc) ((all c.proc).exit c.home.block)
            (λ v q f. (matches.located v q f).some);
      };
    }

    -- a jump to a target of the block's end
    jumps : (c : Activation Vars) (u : Activation Cells) (b : ℕ) → u.proc ≡ c.proc →
        c.proc < count → c.home.block < length (codes c.proc).blocks →
        IsTarget (end_of (codes c.proc) c.home.block) b →
        Matches (procs c.proc) ((all c.proc).exit c.home.block) c u →
        Leads R (high.jump b c) (lower.jump b u)
    jumps c u b proc inside in_block target matches x e =
        let l = all c.proc in
        let p = procs c.proc in
        let inside_target = l.targets c.home.block b in_block target in
        let block = l.blocks b inside_target in
        let d : Activation Cells =
        record u { home = record u.home { block = b; rest = block.0.code; end = block.0.end } }
        in
        let made : lower.jump b u ≡ Some d =
        ap (λ n. low.at_block u b (slice_get (procs n).blocks b)) proc
        ∙ ap (λ o. low.at_block u b o) block.1 in
        let m = matches_same p ((all c.proc).exit c.home.block) c u d matches
        (λ a. same_at p d u a refl refl refl) in (
          d,
          made,
          subst (λ z. R z d) (jumped c x b (slice_get (codes c.proc).blocks b) e) (record {
            proc = proc;
            inside = inside;
            in_block = inside_target;
            end = block.3;
            at = l.before b 0;
            matches = record {
              aggregates = matches.aggregates;
              args = matches.args;
              there = m.0;
              located = λ v q f. m.1 v q (l.ties c.home.block b in_block target v q f);
            };
            instr = λ j f. subst (λ left. InstrCorresponds p j left (l.rest b 1) (l.before b 0)
                (l.before b 1)) (sym block.2) (l.instrs b 0 j f);
            ends = λ f. subst (λ left. EndCorresponds p left (l.before b 0) (l.exit b))
                (sym block.2) (ends_at (codes c.proc) p l b 0 inside_target
                (end_first (code_of (codes c.proc) b) f));
          }),
        )

    returns : (s : State Vars) (t : State Cells) → Same R s t → (cs : List (Activation Vars))
        (ds : List (Activation Cells)) → AllBeside R cs ds → Same R (returned s cs) (returned t ds)
    returns s t r [] [] k = ended_same high lower R coupled s t Ended r
    returns s t r [] (d ∷ ds) k = elim k [ ]
    returns s t r (c ∷ cs) [] k = elim k [ ]
    returns s t r (c ∷ cs) (d ∷ ds) k =
        record {
          top = k.0;
          below = k.1;
          pushed = r.pushed;
          globals = r.globals;
          compared =
              λ ab e. cc;
          input = r.input;
          events = r.events;
          taken = r.taken;
          over = r.over;
        }

    goes : (s : State Vars) (t : State Cells) → Same R s t → (b : ℕ) → Leads R (high.jump b s.top)
        (lower.jump b t.top) → (goes_to high s b).over ≢ Some Wrong →
        Same R (goes_to high s b) (goes_to lower t b)
    goes s t r b f ok = found_same high lower R coupled R s t (high.jump b s.top)
        (lower.jump b t.top) _ _ f (λ x y _ k _. with_top_same high lower R coupled s t r x y k) ok

    leaves : (s : State Vars) (t : State Cells) → Same R s t → (e : End) →
        ((b : ℕ) → IsTarget e b → Leads R (high.jump b s.top) (lower.jump b t.top)) →
        (o : Option (ℕ × ℕ)) → s.compared ≡ o → (leave high e s).over ≢ Some Wrong →
        Same R (leave high e s) (leave lower e t)
    leaves s t r (Jump b) f o is ok = goes s t r b.0 (f b.0 refl) ok
    leaves s t r Return f o is ok = returns s t r s.below t.below r.below
    leaves s t r (Branch k one other) f None is ok =
        absurd (ok (ap (λ o. (branched high k one.0 other.0 o s).over) is))
    leaves s t r (Branch k one other) f (Some (a, b)) is ok =
        let up : branched high k one.0 other.0 s.compared s ≡
        goes_to high s (if compares k a b then one.0 else other.0) =
        ap (λ o. branched high k one.0 other.0 o s) is in
        let down : branched lower k one.0 other.0 t.compared t ≡
        goes_to lower t (if compares k a b then one.0 else other.0) =
        ap (λ o. branched lower k one.0 other.0 o t) (r.compared (a, b) is) in
        rw (up, down) (goes s t r (if compares k a b then one.0 else other.0)
        (f _ (target (compares k a b))) (λ e. ok (ap (λ z. z.over) up ∙ e)))
      where
        target : (c : Bool) → IsTarget (Branch k one other) (if c then one.0 else other.0)
        target true = inl refl
        target false = inr refl

    pub end_step : (s : State Vars) (t : State Cells) → Same R s t → s.over ≡ None →
        instr_at (codes s.top.proc) s.top.home.block s.top.home.index ≡ None →
        (step high s).over ≢ Some Wrong → Steps (step high s) t
    end_step s t r going is ok =
        let p = procs s.top.proc in
        let top = r.top in
        let l = top.ends is in
        let t_going : t.over ≡ None = r.over ∙ going in
        let left : t.top.home.rest ≡ map placed.Move l.moves ++ [] =
        l.parts ∙ sym (append-nil (map placed.Move l.moves)) in
        let m = moves_run list p (params s.top.proc) t.top (λ b. b) l.moves [] t t_going
        (ap (λ n. procs n) top.proc) l.transfers.in_cells
        (not_yet p t.top _ top.matches.there left) in
        let u = m.0 in
        let exit = matches_moved p l.moves [] top.at ((all s.top.proc).exit s.top.home.block) s.top
        t.top u l.transfers top.matches m.2 in
        let same : Same R s (record t { top = u }) =
        with_lower s t u r (at_end s.top t.top u top is m.2 exit) in
        let e = end_of (codes s.top.proc) s.top.home.block in
        let end : u.home.end ≡ e = m.2.end ∙ top.end in
        let up : step high s ≡ leave high e s = ap (λ o. act_on high o s) going
        ∙ ap (λ o. act high (selected.next_of (codes s.top.proc) s.top o) s) is in
        let down : step lower (record t { top = u }) ≡ leave lower e (record t { top = u }) =
        ap (λ o. act_on lower o (record t { top = u })) t_going
        ∙ ap (λ q. act lower (low.next_of (procs u.proc) u q) (record t { top = u })) m.2.rest
        ∙ ap (λ q. leave lower q (record t { top = u })) end in
        let done = leaves s (record t { top = u }) same e
        (λ b target. jumps s.top u b (m.2.proc ∙ top.proc) top.inside top.in_block target exit)
        s.compared refl (λ q. ok (ap (λ z. z.over) up ∙ q)) in
        after_moves (step high s) _ t (record t { top = u }) (length l.moves) _ up m.1 down done

    -- ---- a call begins

    thing_there : (ws : Words) (i : ℕ) → i < length ws → (old : Held) × (slice_get ws i ≡ Some old)
    thing_there [] i lt = absurd (omega arith)
    thing_there (x ∷ ws) zero lt = (x, refl)
    thing_there (x ∷ ws) (suc i) lt = thing_there ws i (omega arith)

    last_there : (ws : Words) (i : ℕ) → i < length ws → (old : Held) × (last_get ws i ≡ Some old)
    last_there ws i lt =
        let is : nat_lt i (length ws) ≡ true = grind (arith, nat_tests) in
        let o = thing_there ws (length ws - 1 - i) (omega arith) in
        (o.0, if_true (nat_lt i (length ws)) (slice_get ws (length ws - 1 - i)) None is ∙ o.1)

    begun_var : (args : Words) (vars : List VarKind) (v i : ℕ) → slice_index_or vars v Plain ≡
        Param i → slice_index_or (map (selected.argument args) vars) v None ≡
        joined (last_get args i)
    begun_var args [] v i e = cc
    begun_var args (k ∷ vars) zero i e = ap (λ kind. selected.argument args kind) e
    begun_var args (k ∷ vars) (suc v) i e = begun_var args vars v i e

    begun_spot : (n : ℕ) (p : LProc) (args : Words) (block : LBlock) → length args ≡ p.args →
        (s : Spot) → InFrame p s → (old : Held) × (in_spot (low.begun n p args block) s ≡ Some old)
    begun_spot n p args block many (Slot k) is = last_there (nothing (length p.slots)) k
        (let e : length (nothing (length p.slots)) ≡ length p.slots = length-replicate {A = Held}
        (length p.slots) None in omega (arith, e, is))
    begun_spot n p args block many (Argument i) is = last_there args i (omega (arith, many, is))
    begun_spot n p args block many Nowhere is = absurd is

    begun_there : (n : ℕ) (p : LProc) (args : Words) (block : LBlock) → length args ≡ p.args →
        HasCells p (low.begun n p args block)
    begun_there n p args block many (Register r) is = thing_there (nothing register_count) r
        (let e : length (nothing register_count) ≡ register_count =
        length-replicate {A = Held} register_count None in omega (arith, e, is))
    begun_there n p args block many (Memory v) is = begun_spot n p args block many (spot p v) is
    begun_there n p args block many (Fixed k) is = absurd is

    begun_in : (n : ℕ) (args : Words) (block : LBlock) (v q : ℕ) → Comes (procs n) v q →
        length args ≡ (procs n).args →
        IsIn (procs n) (low.begun n (procs n) args block) v q
        (read (kind_of (procs n)) (map (selected.argument args) (codes n).vars) v)
    begun_in n args block v q comes many =
        let i = comes.argument in
        let d = low.begun n (procs n) args block in
        let x = read (kind_of (procs n)) (map (selected.argument args) (codes n).vars) v in
        let o = last_there args i (omega (arith, comes.in_range, many)) in
        let kind : slice_index_or (codes n).vars v Plain ≡ Param i =
        ap (λ (vars : List VarKind). slice_index_or vars v Plain) (sym (all n).vars)
        ∙ comes.param in
        let value : x ≡ o.0 = ap (λ k. selected.valued k
        (slice_index_or (map (selected.argument args) (codes n).vars) v None)) comes.param
        ∙ begun_var args (codes n).vars v i kind ∙ ap (λ h. joined h) o.1 in
        let own : cells (procs n) v q ≡ Memory v ∷ [] =
        ap (λ k. cells (procs n) v k) comes.in_memory in
        let held : at_cell (procs n) d (Memory v) ≡ Some x =
        ap (λ k. in_spot d (low.spot_as k (slot_of (procs n) v))) comes.param ∙ o.1
        ∙ ap Some (sym value) in
        record {
          some = λ none. not_nil (sym own ∙ none);
          each =
              subst (λ bs. Each (λ b. at_cell (procs n) d b ≡ Some x) bs) (sym own) (held, tt);
        }
      where
        not_nil : {x : Cell} → x ∷ [] ≡ [] → ⊥
        not_nil e = cc

    pub begins : (n : ℕ) (args : Words) → TakesCall codes_list list count n args →
        Leads R (high.begin n args) (lower.begin n args)
    begins n args enters x e =
        let l = all n in
        let p = procs n in
        let block = l.blocks 0 enters.entry in
        let c = selected.begun n (codes n) args in
        let d = low.begun n p args block.0 in
        let up : (if nat_lt 0 (length (codes n).blocks) then Some c else None) ≡ Some x =
        ap (λ o. selected.begin n o args) (sym enters.code) ∙ e in (
          d,
          ap (λ o. low.begin n o args) enters.proc ∙ ap (λ o. low.started n p args o) block.1,
          subst (λ z. R z d) (entered_is (nat_lt 0 (length (codes n).blocks)) c x up) (record {
            proc = refl;
            inside = enters.inside;
            in_block = enters.entry;
            end = block.3;
            at = l.before 0 0;
            matches = record {
              aggregates = ap (λ k. nothing k) l.aggregates;
              args = λ i _. refl;
              there = begun_there n p args block.0 enters.many;
              located = λ v q f. begun_in n args block.0 v q (l.entry v q f) enters.many;
            };
            instr = λ j f. subst (λ left. InstrCorresponds p j left (l.rest 0 1) (l.before 0 0)
                (l.before 0 1)) (sym block.2) (l.instrs 0 0 j f);
            ends = λ f. subst (λ left. EndCorresponds p left (l.before 0 0) (l.exit 0))
                (sym block.2) (ends_at (codes n) p l 0 0 enters.entry
                (end_first (code_of (codes n) 0) f));
          }),
        )
