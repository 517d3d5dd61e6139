-- Live calls that track those of selected code have the same objects, and go on tracking.
use Rattle.std.proofs.Common.{◌≡◌, ◌≢◌, ℕ, suc, ◌<◌, Bool, true, false, nat_eq, if◌then◌else◌, List}
use Rattle.std.proofs.Common.{[], ◌∷◌, length, Option, Some, None, refl, sym, ap, ◌∙◌}
use Rattle.std.specs.List.{list_any}
use Rattle.pra_list.proofs.Truths.{true_false, if_false}
use Rattle.pra_base.specs.declared.code.VarKind.{VarKind}
use Rattle.pra_base.specs.declared.code.VarKind.TheVariants.{Param, Plain, Constant}
use Rattle.pra_base.specs.declared.code.VInstr.{VInstr}
use Rattle.pra_base.specs.declared.code.VProc.{VProc}
use Rattle.pra_base.specs.Code.{instr_at, end_of}
use Rattle.vc_code.specs.Value.{Held, Words}
use Rattle.vc_code.specs.Machine.{Shape, Activation, last_get, last_set, is_param, is_home, cell}
use Rattle.vc_code.specs.Machine.{cell_words, with_aggregates, with_args}
use Rattle.vc_code.specs.Selected.{Vars, read}
use Rattle.pl_moves.specs.Meaning.{Cell, Register, Memory, Fixed}
use Rattle.pl_place.specs.declared.placed.LProc.{LProc}
use Rattle.pl_place.specs.Placed.{kind_of, slot_of}
use Rattle.pl_place.specs.Machine.{Cells, Spot, Slot, Argument, Nowhere, spot, spot_as, in_spot}
use Rattle.pl_place.specs.Machine.{at_cell, cells}
use Rattle.pra_list.specs.Each.{Each}
use Rattle.pl_simulation.specs.Correspondence.{Allocation, InstrCorresponds, EndCorresponds}
use Rattle.pl_simulation.specs.Correspondence.{Corresponds}
use Rattle.vc_coupling.specs.Coupled.{Couples}
use Rattle.pl_simulation.proofs.Words.{differ, last_set_get}
use Rattle.pl_simulation.proofs.Cells.{is_own, HasCells, param_is}
use Rattle.pl_simulation.proofs.Located.{IsIn, Matches}

-- A live call of placed code tracks one of selected code: it stands before the same instruction or
-- end, with some moves still to be made.
pub record Tracks (codes : ℕ → VProc) (procs : ℕ → LProc) (count : ℕ)
    (all : (n : ℕ) → Corresponds (codes n) (procs n)) (c : Activation Vars)
    (d : Activation Cells) : Type 0 where
  pub proc : d.proc ≡ c.proc
  pub inside : c.proc < count
  pub in_block : c.home.block < length (codes c.proc).blocks
  pub end : d.home.end ≡ end_of (codes c.proc) c.home.block
  pub at : Allocation
  pub matches : Matches (procs c.proc) at c d
  pub instr : (i : VInstr) → instr_at (codes c.proc) c.home.block c.home.index ≡ Some i →
      InstrCorresponds (procs c.proc) i d.home.rest
      ((all c.proc).rest c.home.block (suc c.home.index)) at
      ((all c.proc).before c.home.block (suc c.home.index))
  pub ends : instr_at (codes c.proc) c.home.block c.home.index ≡ None →
      EndCorresponds (procs c.proc) d.home.rest at ((all c.proc).exit c.home.block)

-- ---- cells that hold the same

each_same : (p : LProc) (d u : Activation Cells) (x : Held) (bs : List Cell) →
    ((b : Cell) → at_cell p u b ≡ at_cell p d b) → Each (λ b. at_cell p d b ≡ Some x) bs →
    Each (λ b. at_cell p u b ≡ Some x) bs
each_same p d u x [] same each = tt
each_same p d u x (b ∷ bs) same each = (same b ∙ each.0, each_same p d u x bs same each.1)

-- calls whose cells hold the same have the same values in places
pub matches_same : (p : LProc) (at : Allocation) (c : Activation Vars) (d u : Activation Cells) →
    Matches p at c d → ((b : Cell) → at_cell p u b ≡ at_cell p d b) →
    HasCells p u × ((v q : ℕ) → at v ≡ Some q → IsIn p u v q (read (kind_of p) c.home.held v))
matches_same p at c d u r same = (
  λ b is. let o = r.there b is in (o.0, same b ∙ o.1),
  λ v q e. let s = r.located v q e in
      record { some = s.some; each = each_same p d u _ (cells p v q) same s.each },
)

aggregates_spot : (d : Activation Cells) (ws : Words) (s : Spot) →
    in_spot (with_aggregates d ws) s ≡ in_spot d s
aggregates_spot d ws (Slot k) = refl
aggregates_spot d ws (Argument i) = refl
aggregates_spot d ws Nowhere = refl

aggregates_at : (p : LProc) (d : Activation Cells) (ws : Words) (b : Cell) →
    at_cell p (with_aggregates d ws) b ≡ at_cell p d b
aggregates_at p d ws (Register r) = refl
aggregates_at p d ws (Memory v) = aggregates_spot d ws (spot p v)
aggregates_at p d ws (Fixed n) = refl

-- the cell of an argument that is no variable's is in no place
args_spot : (p : LProc) (d : Activation Cells) (i : ℕ) (h old : Held) → is_own p i ≡ false →
    last_get d.args i ≡ Some old → (v : ℕ) (kind : VarKind) → kind_of p v ≡ kind →
    (slot : Option ℕ) →
    in_spot (with_args d (last_set d.args i h)) (spot_as kind slot) ≡ in_spot d (spot_as kind slot)
args_spot p d i h old own e v (Param j) is slot =
    last_set_get d.args i j h old e
    ∙ if_false (nat_eq j i) (Some h) (last_get d.args j)
    (differ j i (λ same. true_false (is_own p j) (param_is p.vars v j is)
    (ap (is_own p) same ∙ own)))
args_spot p d i h old own e v Plain is None = refl
args_spot p d i h old own e v Plain is (Some k) = refl
args_spot p d i h old own e v (Constant n) is slot = refl

args_at : (p : LProc) (d : Activation Cells) (i : ℕ) (h old : Held) → is_own p i ≡ false →
    last_get d.args i ≡ Some old → (b : Cell) → at_cell p (with_args d (last_set d.args i h)) b ≡
    at_cell p d b
args_at p d i h old own e (Register r) = refl
args_at p d i h old own e (Memory v) = args_spot p d i h old own e v (kind_of p v) refl
    (slot_of p v)
args_at p d i h old own e (Fixed n) = refl

-- ---- the same objects

some_cell : (o : Option Held) → cell_words o ≢ [] → (old : Held) × (o ≡ Some old)
some_cell None n = absurd (n refl)
some_cell (Some old) n = (old, refl)

matches_aggregates : (p : LProc) (at : Allocation) (c : Activation Vars) (d : Activation Cells)
    (ws : Words) → Matches p at c d → Matches p at (with_aggregates c ws) (with_aggregates d ws)
matches_aggregates p at c d ws r =
    let m = matches_same p at c d (with_aggregates d ws) r (aggregates_at p d ws) in
    record { aggregates = refl; args = r.args; there = m.0; located = m.1 }

matches_args : (p : LProc) (at : Allocation) (c : Activation Vars) (d : Activation Cells) (i : ℕ)
    (h old : Held) → is_own p i ≡ false → last_get c.args i ≡ Some old → Matches p at c d →
    Matches p at (with_args c (last_set c.args i h)) (with_args d (last_set d.args i h))
matches_args p at c d i h old own e r =
    let low : last_get d.args i ≡ Some old = r.args i own ∙ e in
    let m = matches_same p at c d (with_args d (last_set d.args i h)) r
    (args_at p d i h old own low) in
    record {
      aggregates = r.aggregates;
      args = λ j free. last_set_get d.args i j h old low
          ∙ ap (λ o. if nat_eq j i then Some h else o) (r.args j free)
          ∙ sym (last_set_get c.args i j h old e);
      there = m.0;
      located = m.1;
    }

module _ (codes : ℕ → VProc) (procs : ℕ → LProc) (count : ℕ)
    (all : (n : ℕ) → Corresponds (codes n) (procs n)) (one other : ℕ → Shape)
    (is_one : (n : ℕ) → (one n).kinds ≡ (codes n).vars)
    (is_other : (n : ℕ) → (other n).kinds ≡ (procs n).vars)
    (frames : (n : ℕ) → n < count → (other n).frame_size ≡ (one n).frame_size) where
  abbrev R : Activation Vars → Activation Cells → Type 0
  R = Tracks codes procs count all

  home_one : (n i : ℕ) → is_home (one n) i ≡ is_own (procs n) i
  home_one n i = ap (λ vars. list_any (is_param i) vars) (is_one n ∙ sym (all n).vars)

  home_other : (n i : ℕ) → is_home (other n) i ≡ is_own (procs n) i
  home_other n i = ap (λ vars. list_any (is_param i) vars) (is_other n)

  same_cells : (c : Activation Vars) (d : Activation Cells) → R c d → (i : ℕ) → cell other d i ≡
      cell one c i
  same_cells c d r i =
      let left : is_home (other d.proc) i ≡ is_own (procs c.proc) i =
      ap (λ n. is_home (other n) i) r.proc ∙ home_other c.proc i in
      choose (is_own (procs c.proc) i) (is_home (other d.proc) i) (is_home (one c.proc) i) left
      (home_one c.proc i) (λ e. r.matches.args i e)
    where
      choose : (a b t : Bool) → b ≡ a → t ≡ a →
          (a ≡ false → last_get d.args i ≡ last_get c.args i) →
          (if b then [] else cell_words (last_get d.args i)) ≡
          (if t then [] else cell_words (last_get c.args i))
      choose true b t e f g = let b_is : b ≡ true = e in let t_is : t ≡ true = f in
          rw (b_is, t_is) refl
      choose false b t e f g = let b_is : b ≡ false = e in let t_is : t ≡ false = f in
          let same : last_get d.args i ≡ last_get c.args i = g refl in rw (b_is, t_is, same) refl

  with_aggregates_tracks : (c : Activation Vars) (d : Activation Cells) → R c d → (ws : Words) →
      R (with_aggregates c ws) (with_aggregates d ws)
  with_aggregates_tracks c d r ws =
      record {
        proc = r.proc;
        inside = r.inside;
        in_block = r.in_block;
        end = r.end;
        at = r.at;
        matches = matches_aggregates (procs c.proc) r.at c d ws r.matches;
        instr = r.instr;
        ends =
            r.ends;
      }

  no_home : (c : Activation Vars) (i : ℕ) → cell one c i ≢ [] → (is_own (procs c.proc) i ≡ false) ×
      (cell_words (last_get c.args i) ≢ [])
  no_home c i n = choose (is_home (one c.proc) i) (sym (home_one c.proc i)) n
    where
      choose : (t : Bool) → is_own (procs c.proc) i ≡ t →
          (if t then [] else cell_words (last_get c.args i)) ≢ [] →
          (is_own (procs c.proc) i ≡ false) × (cell_words (last_get c.args i) ≢ [])
      choose true e n = absurd (n refl)
      choose false e n = (e, n)

  with_args_tracks : (c : Activation Vars) (d : Activation Cells) → R c d → (i : ℕ) (h : Held) →
      cell one c i ≢ [] → R (with_args c (last_set c.args i h)) (with_args d (last_set d.args i h))
  with_args_tracks c d r i h n =
      let x = no_home c i n in
      let o = some_cell (last_get c.args i) x.1 in
      record {
        proc = r.proc;
        inside = r.inside;
        in_block = r.in_block;
        end = r.end;
        at = r.at;
        matches = matches_args (procs c.proc) r.at c d i h o.0 x.0 o.1 r.matches;
        instr = r.instr;
        ends = r.ends;
      }

  pub couples : Couples one other R
  couples = record {
    frames = λ c d r. ap (λ n. (other n).frame_size) r.proc ∙ frames c.proc r.inside;
    aggregates = λ c d r. r.matches.aggregates;
    cells = same_cells;
    set_aggregates = with_aggregates_tracks;
    set_cell = with_args_tracks;
  }
