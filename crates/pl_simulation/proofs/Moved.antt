-- A list of moves brings the values from their places in one allocation to those in another.
use Rattle.std.proofs.Common.{◌≡◌, ℕ, ⊎_elim, Bool, true, false, if◌then◌else◌, List, [], ◌∷◌, ◌++◌}
use Rattle.std.proofs.Common.{length, map, slice_index_or, Option, Some, None, refl, sym, ap, subst}
use Rattle.std.proofs.Common.{◌∙◌}
use Rattle.pra_list.specs.Among.{Among}
use Rattle.pra_list.proofs.Options.{some_same}
use Rattle.pra_list.specs.Options.{◌>>=◌}
use Rattle.pra_base.specs.System.{run}
use Rattle.pra_base.specs.Places.{number}
use Rattle.pra_base.specs.declared.ids.Place.TheVariants.{Const}
use Rattle.pra_base.specs.declared.code.VarKind.{VarKind}
use Rattle.pra_base.specs.declared.code.VarKind.TheVariants.{Param, Plain, Constant}
use Rattle.vc_code.specs.Value.{Held}
use Rattle.vc_code.specs.Machine.{Activation, State, Machine, last_get, act, act_on, step, found}
use Rattle.vc_code.specs.Selected.{Vars, read, valued}
use Rattle.pl_moves.specs.declared.transfer.Move.{Move}
use Rattle.pl_moves.specs.declared.transfer.Move.TheVariants.{Copy, Swap, Load, Store, Set}
use Rattle.pl_moves.specs.declared.transfer.Pair.{Pair}
use Rattle.pl_moves.specs.Meaning.{Cell, Register, Memory, Fixed, same_cell, reg, with_cell, copied}
use Rattle.pl_moves.specs.Meaning.{exchanged, moved}
use Rattle.pl_moves.specs.Assignment.{source}
use Rattle.pl_moves.proofs.Shifts.{shifted, all_shifted, all_moved-everywhere}
use Rattle.pl_place.specs.declared.placed.LInstr.{LInstr}
use Rattle.pl_place.specs.declared.placed.LInstr.TheVariants as placed
use Rattle.pl_place.specs.declared.placed.LProc.{LProc}
use Rattle.pl_place.specs.Placed.{kind_of}
use Rattle.pl_place.specs.Machine.{Cells, Spot, Slot, Argument, Nowhere, spot, in_spot, at_cell}
use Rattle.pl_place.specs.Machine.{put_cell, holding, cells, fixed, passed, proc_of, next_of}
use Rattle.pl_place.specs.Machine.{placed_machine}
use Rattle.pra_list.specs.Each.{Each}
use Rattle.pl_simulation.specs.Correspondence.{Allocation, IsCell, InCells, ComesFrom, Transfers}
use Rattle.pl_simulation.proofs.Cells.{is_own, ParamsApart, HasCells, write, written_cell, put_is}
use Rattle.pl_simulation.proofs.Cells.{still_there, Alike, alike_then, alike}
use Rattle.pl_simulation.proofs.Located.{Matches}

bind_is : {A B : Type 0} (o : Option A) (x : A) (f : A → Option B) → o ≡ Some x → (o >>= f) ≡ f x
bind_is o x f e = ap (λ z. z >>= f) e

-- each cell of u holds what the cell of this name held in d
abbrev pub Renamed : LProc → Activation Cells → (Cell → Cell) → Activation Cells → Type 0
Renamed p d f u = (b : Cell) → at_cell p u b ≡ at_cell p d (f b)

-- a cell that can be read
abbrev IsSource : LProc → Cell → Type 0
IsSource p (Register r) = IsCell p (Register r)
IsSource p (Memory v) = IsCell p (Memory v)
IsSource p (Fixed n) = Unit {0}

source_held : (p : LProc) (d : Activation Cells) → HasCells p d → (b : Cell) → IsSource p b →
    (h : Held) × (at_cell p d b ≡ Some h)
source_held p d there (Register r) is = there (Register r) is
source_held p d there (Memory v) is = there (Memory v) is
source_held p d there (Fixed n) is = (_, refl)

at_either : (p : LProc) (d : Activation Cells) (t : Bool) (a b : Cell) →
    (if t then at_cell p d a else at_cell p d b) ≡ at_cell p d (if t then a else b)
at_either p d true a b = refl
at_either p d false a b = refl

-- what a move leaves
pub record After (p : LProc) (d u w : Activation Cells) (g : Cell → Cell) : Type 0 where
  pub there : HasCells p w
  pub renamed : Renamed p d g w
  pub alike : Alike p u w

module _ (p : LProc) (params : ParamsApart p) (d u : Activation Cells) (f : Cell → Cell)
    (named : Renamed p d f u) (there : HasCells p u) where
  copies : (to from : Cell) → IsCell p to → IsSource p from → (w : Activation Cells) ×
      (copied (holding p) to from u ≡ Some w) × After p d u w (with_cell f to (f from))
  copies to from is_to is_from =
      let h = source_held p u there from is_from in
      let old = there to is_to in
      let w = write p u to h.0 in
      let law : (b : Cell) → at_cell p w b ≡ (if same_cell b to then Some h.0 else at_cell p u b) =
      written_cell p params u to h.0 old.0 is_to old.1 in (
        w,
        bind_is (at_cell p u from) h.0 (λ x. put_cell p u to x) h.1 ∙ put_is p params u to h.0 old.0
            is_to old.1,
        record {
          there = still_there p params u to h.0 is_to there;
          renamed = λ b. law b
              ∙ ap (λ o. if same_cell b to then o else at_cell p u b) (sym h.1 ∙ named from)
              ∙ ap (λ o. if same_cell b to then at_cell p d (f from) else o) (named b)
              ∙ at_either p d (same_cell b to) (f from) (f b);
          alike = alike p u to h.0 old.0 old.1;
        },
      )

  exchanges : (one other : Cell) → IsCell p one → IsCell p other → (w : Activation Cells) ×
      (exchanged (holding p) one other u ≡ Some w) ×
      After p d u w (with_cell (with_cell f one (f other)) other (f one))
  exchanges one other is_one is_other =
      let x = there one is_one in
      let y = there other is_other in
      let mid = write p u one y.0 in
      let mid_there = still_there p params u one y.0 is_one there in
      let old = mid_there other is_other in
      let w = write p mid other x.0 in
      let first : (b : Cell) → at_cell p mid b ≡
      (if same_cell b one then Some y.0 else at_cell p u b) =
      written_cell p params u one y.0 x.0 is_one x.1 in
      let second : (b : Cell) → at_cell p w b ≡
      (if same_cell b other then Some x.0 else at_cell p mid b) =
      written_cell p params mid other x.0 old.0 is_other old.1 in
      let inner : (b : Cell) → at_cell p mid b ≡ at_cell p d (with_cell f one (f other) b) =
      λ b. first b
      ∙ ap (λ o. if same_cell b one then o else at_cell p u b) (sym y.1 ∙ named other)
      ∙ ap (λ o. if same_cell b one then at_cell p d (f other) else o) (named b)
      ∙ at_either p d (same_cell b one) (f other) (f b) in (
        w,
        bind_is (at_cell p u one) x.0
            (λ a. at_cell p u other >>= λ b. put_cell p u one b >>= λ t. put_cell p t other a) x.1
            ∙ bind_is (at_cell p u other) y.0
            (λ b. put_cell p u one b >>= λ t. put_cell p t other x.0) y.1
            ∙ bind_is (put_cell p u one y.0) mid (λ t. put_cell p t other x.0)
            (put_is p params u one y.0 x.0 is_one x.1)
            ∙ put_is p params mid other x.0 old.0 is_other old.1,
        record {
          there = still_there p params mid other x.0 is_other mid_there;
          renamed = λ b. second b
              ∙ ap (λ o. if same_cell b other then o else at_cell p mid b) (sym x.1 ∙ named one)
              ∙ ap (λ o. if same_cell b other then at_cell p d (f one) else o) (inner b)
              ∙ at_either p d (same_cell b other) (f one) (with_cell f one (f other) b);
          alike = alike_then p u mid w (alike p u one y.0 x.0 x.1)
              (alike p mid other x.0 old.0 old.1);
        },
      )

  -- one move
  pub moves_one : (m : Move) → InCells p m → (w : Activation Cells) ×
      (moved (holding p) m u ≡ Some w) × After p d u w (shifted m f)
  moves_one (Copy r q) is = copies (reg r) (reg q) is.0 is.1
  moves_one (Swap r q) is = exchanges (reg r) (reg q) is.0 is.1
  moves_one (Load r v) is = copies (reg r) (Memory v.0) is.0 is.1
  moves_one (Store v r) is = copies (Memory v.0) (reg r) is.0 is.1
  moves_one (Set r n) is = copies (reg r) (Fixed n) is tt

-- ---- moves of the running call

-- what moves leave
pub record Ran (p : LProc) (d u : Activation Cells) (names : Cell → Cell)
    (more : List LInstr) : Type 0 where
  pub there : HasCells p u
  pub renamed : Renamed p d names u
  pub aggregates : u.aggregates ≡ d.aggregates
  pub args : (i : ℕ) → is_own p i ≡ false → last_get u.args i ≡ last_get d.args i
  pub proc : u.proc ≡ d.proc
  pub end : u.home.end ≡ d.home.end
  pub rest : u.home.rest ≡ more

passed_spot : (d : Activation Cells) (rest : List LInstr) (s : Spot) → in_spot (passed rest d) s ≡
    in_spot d s
passed_spot d rest (Slot k) = refl
passed_spot d rest (Argument i) = refl
passed_spot d rest Nowhere = refl

passed_at : (p : LProc) (d : Activation Cells) (rest : List LInstr) (b : Cell) →
    at_cell p (passed rest d) b ≡ at_cell p d b
passed_at p d rest (Register r) = refl
passed_at p d rest (Memory v) = passed_spot d rest (spot p v)
passed_at p d rest (Fixed n) = refl

module _ (list : List LProc) where
  abbrev machine : Machine Cells
  machine = placed_machine list

  -- a move is a step
  step_move : (t : State Cells) (m : Move) (rest : List LInstr) (v : Activation Cells) →
      t.over ≡ None → t.top.home.rest ≡ placed.Move m ∷ rest →
      moved (holding (proc_of list t.top.proc)) m (passed rest t.top) ≡ Some v → step machine t ≡
      record t { top = v }
  step_move t m rest v going is e =
      ap (λ o. act_on machine o t) going
      ∙ ap (λ r. act machine (next_of (proc_of list t.top.proc) t.top r) t) is
      ∙ ap (λ o. found t o (λ c. record t { top = c })) e

  pub moves_run : (p : LProc) (params : ParamsApart p) (d : Activation Cells) (f : Cell → Cell)
      (ms : List Move) (more : List LInstr) (t : State Cells) → t.over ≡ None →
      proc_of list t.top.proc ≡ p → Each (InCells p) ms →
      Ran p d t.top f (map placed.Move ms ++ more) →
      (u : Activation Cells) × (run (step machine) (length ms) t ≡ record t { top = u }) ×
      Ran p d u (all_shifted ms f) more
  moves_run p params d f [] more t going is in_cells so_far = (t.top, refl, so_far)
  moves_run p params d f (m ∷ ms) more t going is in_cells so_far =
      let behind : List LInstr = map placed.Move ms ++ more in
      let c = passed behind t.top in
      let there : HasCells p c = λ b is_cell. let o = so_far.there b is_cell in
      (o.0, passed_at p t.top behind b ∙ o.1) in
      let first = moves_one p params d c f (λ b. passed_at p t.top behind b ∙ so_far.renamed b)
      there m in_cells.0 in
      let a = first.2.alike in
      let made : moved (holding (proc_of list t.top.proc)) m c ≡ Some first.0 =
      ap (λ q. moved (holding q) m c) is ∙ first.1 in
      let next : State Cells = record t { top = first.0 } in
      let one = step_move t m behind first.0 going so_far.rest made in
      let others = moves_run p params d (shifted m f) ms more next going
      (ap (λ n. proc_of list n) a.proc ∙ is) in_cells.1 (record {
        there = first.2.there;
        renamed = first.2.renamed;
        aggregates = a.aggregates ∙ so_far.aggregates;
        args = λ i own. a.args i own ∙ so_far.args i own;
        proc = a.proc ∙ so_far.proc;
        end = a.end ∙ so_far.end;
        rest = a.rest;
      }) in
      (others.0, ap (λ s. run (step machine) (length ms) s) one ∙ others.1, others.2)

-- ---- what is brought

among_holds : (p : LProc) (d : Activation Cells) (x : Held) (a : Cell) (bs : List Cell) →
    Each (λ b. at_cell p d b ≡ Some x) bs → Among a bs → at_cell p d a ≡ Some x
among_holds p d x a [] each is = absurd is
among_holds p d x a (b ∷ bs) each is = ⊎_elim (λ (same : a ≡ b). ap (at_cell p d) same ∙ each.0)
    (λ (more : Among a bs). among_holds p d x a bs each.1 more) is

brought : (p : LProc) (d u : Activation Cells) (pairs : List Pair) →
    ((b : Cell) → at_cell p u b ≡ at_cell p d (source pairs b)) → (x : Held) (from : List Cell) →
    Each (λ b. at_cell p d b ≡ Some x) from → (bs : List Cell) →
    Each (λ b. Among (source pairs b) from) bs → Each (λ b. at_cell p u b ≡ Some x) bs
brought p d u pairs law x from each [] is = tt
brought p d u pairs law x from each (b ∷ bs) is = (
  law b ∙ among_holds p d x (source pairs b) from each is.0,
  brought p d u pairs law x from each bs is.1,
)

-- a Constant's number is everywhere
number_held : (p : LProc) (d : Activation Cells) (kind : VarKind) (h : Held) →
    Each (λ b. at_cell p d b ≡ Some (valued kind h)) (fixed kind)
number_held p d (Param i) h = tt
number_held p d Plain h = tt
number_held p d (Constant n) h = (refl, tt)

each_from : (p : LProc) (before : Allocation) (c : Activation Vars) (d : Activation Cells)
    (v from : ℕ) → Matches p before c d → ComesFrom before v from →
    Each (λ b. at_cell p d b ≡ Some (read (kind_of p) c.home.held v)) (cells p v from)
each_from p before c d v from r comes =
    ⊎_elim
    (λ (is : before v ≡ Some from). (r.located v from is).each)
    (λ (is : from ≡ number Const).
    subst (λ q. Each (λ b. at_cell p d b ≡ Some (read (kind_of p) c.home.held v)) (cells p v q))
    (sym is) (number_held p d (kind_of p v) (slice_index_or c.home.held v None)))
    comes

-- behind moves that bring one allocation to the other, the calls match at the other
pub matches_moved : (p : LProc) (ms : List Move) (more : List LInstr) (before after : Allocation)
    (c : Activation Vars) (d u : Activation Cells) → Transfers p ms before after →
    Matches p before c d → Ran p d u (all_shifted ms (λ b. b)) more → Matches p after c u
matches_moved p ms more before after c d u k r ran =
    let same : all_shifted ms (λ b. b) ≡ k.assigns.after =
    some_same (all_shifted ms (λ b. b)) k.assigns.after
    (sym (all_moved-everywhere ms (λ b. b)) ∙ k.assigns.runs) in
    let law : (b : Cell) → at_cell p u b ≡ at_cell p d (source k.pairs b) = λ b. ran.renamed b
    ∙ ap (λ f. at_cell p d (f b)) same ∙ ap (at_cell p d) (k.assigns.each b) in
    record {
      aggregates = ran.aggregates ∙ r.aggregates;
      args = λ i own. ran.args i own ∙ r.args i own;
      there = ran.there;
      located = λ v q is.
          let x = k.brings v q is in
          record {
            some = x.some;
            each = brought p d u k.pairs law (read (kind_of p) c.home.held v)
                (cells p v x.from) (each_from p before c d v x.from r x.comes) (cells p v q) x.each;
          };
    }
