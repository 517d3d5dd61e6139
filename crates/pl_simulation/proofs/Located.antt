-- Activations whose values are in their places, and one instruction, of any form, between two such.
use Rattle.std.proofs.Common.{◌≡◌, ◌≢◌, ℕ, zero, suc, ◌+◌, ◌<◌, ◌≤◌, ◌⊎◌, inl, inr, ⊎_elim, true}
use Rattle.std.proofs.Common.{false, nat_eq, nat_lt, if◌then◌else◌, List, [], ◌∷◌, length, map}
use Rattle.std.proofs.Common.{drop, slice_get, slice_set, Option, Some, None, refl, sym, ap, ap₂}
use Rattle.std.proofs.Common.{subst, ◌∙◌, arith}
use Rattle.std.specs.Int.{bit_at}
use Rattle.std.proofs.lemmas.Bool.{cases_eq, cases_lt}
use Rattle.std.proofs.lemmas.Bool.Decides.{nat_tests}
use Rattle.std.proofs.lemmas.List.{get_or-set_same, get_or-set_other}
use Rattle.pra_list.proofs.Truths.{if_true, if_false}
use Rattle.pra_list.specs.Among.{Among}
use Rattle.pra_list.proofs.Options.{some_same}
use Rattle.pra_base.specs.declared.code.VarKind.{VarKind}
use Rattle.pra_base.specs.declared.code.VInstr.{VInstr}
use Rattle.pra_base.specs.Operands.{table, read_by, written_by}
use Rattle.vc_code.specs.declared.value.Value.{Value}
use Rattle.vc_code.specs.Value.{Held, Words}
use Rattle.vc_code.specs.Machine.{Activation, last_get, joined}
use Rattle.vc_code.specs.Selected.{Vars, read, valued, at_point, behind}
use Rattle.vc_code.specs.Selected as selected
use Rattle.pl_moves.specs.Meaning.{Cell, Register, Memory, Fixed, same_cell}
use Rattle.pl_place.specs.declared.placed.LInstr.{LInstr}
use Rattle.pl_place.specs.declared.placed.LProc.{LProc}
use Rattle.pl_place.specs.Placed.{kind_of}
use Rattle.pl_place.specs.Machine.{Cells, spot, at_cell, cells, operands, put, put_all, put_first}
use Rattle.pl_place.specs.Machine.{first_held, cleared, clobbered, in_spot, Spot, Slot, Argument}
use Rattle.pl_place.specs.Machine.{Nowhere}
use Rattle.pra_list.specs.Each.{Each}
use Rattle.pl_simulation.specs.Correspondence.{Allocation, AllRead, Written, AllWritten}
use Rattle.pl_simulation.specs.Correspondence.{is_destroyed, Stays, FitsAt}
use Rattle.pl_simulation.proofs.Cells.{is_own, ParamsApart, HasCells, write, written_cell, same_is}
use Rattle.pl_simulation.proofs.Cells.{put_is, still_there, stay, Alike, alike_itself, alike_then}
use Rattle.pl_simulation.proofs.Cells.{alike}

-- the value is in every cell of the variable's place
pub record IsIn (p : LProc) (d : Activation Cells) (v place : ℕ) (x : Held) : Type 0 where
  pub some : cells p v place ≢ []
  pub each : Each (λ cell. at_cell p d cell ≡ Some x) (cells p v place)

-- The live calls have the same objects, and the value of each present variable is in every cell of
-- its place.
pub record Matches (p : LProc) (at : Allocation) (c : Activation Vars) (d : Activation Cells) : Type
    0 where
  pub aggregates : d.aggregates ≡ c.aggregates
  pub args : (i : ℕ) → is_own p i ≡ false → last_get d.args i ≡ last_get c.args i
  pub there : HasCells p d
  pub located : (v place : ℕ) → at v ≡ Some place →
      IsIn p d v place (read (kind_of p) c.home.held v)

-- ---- what is read

first_is : (p : LProc) (d : Activation Cells) (x : Held) (bs : List Cell) → bs ≢ [] →
    Each (λ b. at_cell p d b ≡ Some x) bs → first_held p d bs ≡ x
first_is p d x [] some each = absurd (some refl)
first_is p d x (b ∷ bs) some each = ap joined each.0

-- the operands hold what the variables hold
pub reads_same : (p : LProc) (at : Allocation) (c : Activation Vars) (d : Activation Cells) →
    Matches p at c d → (vs places : List ℕ) → AllRead at vs places → operands p d vs places ≡
    map (read (kind_of p) c.home.held) vs
reads_same p at c d k [] places is = refl
reads_same p at c d k (v ∷ vs) [] is = absurd is
reads_same p at c d k (v ∷ vs) (q ∷ places) is =
    let s = k.located v q is.0 in
    ap₂ (λ x xs. x ∷ xs) (first_is p d _ (cells p v q) s.some s.each)
    (reads_same p at c d k vs places is.1)

-- ---- what is written

-- a variable's value after one is written
read_put : (kind : ℕ → VarKind) (held : Words) (w v : ℕ) (h : Held) → v ≢ w →
    read kind (slice_set held w h) v ≡ read kind held v
read_put kind held w v h other = ap (λ x. valued (kind v) x)
    (get_or-set_other held w v h None other)

read_own : (kind : ℕ → VarKind) (held : Words) (w : ℕ) (h : Held) → w < length held →
    ((x : Held) → valued (kind w) x ≡ x) → read kind (slice_set held w h) w ≡ h
read_own kind held w h lt varies = varies _ ∙ get_or-set_same held w h None lt

none_is : {X : Type 0} (x : X) → None ≡ Some x → ⊥
none_is x e = cc

not_nil : {X : Type 0} (x : X) (xs : List X) → x ∷ xs ≢ []
not_nil x xs e = cc

-- the values of present variables are in their places, but for those that are still to be written
abbrev Settled : LProc → Allocation → List ℕ → Words → Activation Cells → Type 0
Settled p at ws held d = (v q : ℕ) → at v ≡ Some q → Among v ws ⊎
    IsIn p d v q (read (kind_of p) held v)

record Wrote (p : LProc) (at : Allocation) (held : Words) (d t : Activation Cells) : Type 0 where
  there : HasCells p t
  same : Alike p d t
  located : (v q : ℕ) → at v ≡ Some q → IsIn p t v q (read (kind_of p) held v)

-- one variable is written
module _ (p : LProc) (params : ParamsApart p) (at : Allocation) (w place : ℕ)
    (is : Written p at w place) (d : Activation Cells) (there : HasCells p d) (h : Held) where
  abbrev new : Activation Cells
  new = write p d is.cell h

  old : (o : Held) × (at_cell p d is.cell ≡ Some o)
  old = there is.cell is.is_cell

  law : (b : Cell) → at_cell p new b ≡ (if same_cell b is.cell then Some h else at_cell p d b)
  law b = written_cell p params d is.cell h old.0 is.is_cell old.1 b

  put_one : put p d w place h ≡ Some new
  put_one = ap (λ cs. put_first p d cs h) is.one ∙ put_is p params d is.cell h old.0 is.is_cell
      old.1

  alike_one : Alike p d new
  alike_one = alike p d is.cell h old.0 old.1

  own_in : IsIn p new w place h
  own_in = record {
    some = λ e. not_nil is.cell [] (sym is.one ∙ e);
    each = subst (λ cs. Each (λ b. at_cell p new b ≡ Some h) cs) (sym is.one) (
      law is.cell ∙ if_true (same_cell is.cell is.cell) (Some h) _
          (same_is p params is.cell is.is_cell),
      tt,
    );
  }

  other_in : (v q : ℕ) (x : Held) → at v ≡ Some q → v ≢ w → IsIn p d v q x → IsIn p new v q x
  other_in v q x e other s =
      record {
        some = s.some;
        each = stay p params d is.cell h x is.is_cell there (cells p v q)
            (is.apart v q e other) s.each;
      }

  settled_one : (ws : List ℕ) (held : Words) → w < length held → Settled p at (w ∷ ws) held d →
      Settled p at ws (slice_set held w h) new
  settled_one ws held lt before v q e =
      ⊎_elim
      (λ (same : v ≡ w).
      let place_is : q ≡ place = some_same q place (sym e ∙ ap at same ∙ is.at_place) in
      let value : read (kind_of p) (slice_set held w h) v ≡ h =
      ap (λ u. read (kind_of p) (slice_set held w h) u) same ∙ read_own (kind_of p) held w h lt
      is.varies in
      inr (subst (λ x. IsIn p new v q x) (sym value)
      (subst (λ r. IsIn p new v r h) (sym place_is)
      (subst (λ u. IsIn p new u place h) (sym same) own_in))))
      (λ (other : v ≢ w).
      ⊎_elim
      (λ (among : (v ≡ w) ⊎ Among v ws). ⊎_elim (λ (same : v ≡ w). absurd (other same))
      (λ (more : Among v ws). inl more) among)
      (λ (s : IsIn p d v q (read (kind_of p) held v)).
      inr (subst (λ x. IsIn p new v q x) (sym (read_put (kind_of p) held w v h other))
      (other_in v q (read (kind_of p) held v) e other s)))
      (before v q e))
      (cases_eq v w)

-- all written roles get their values
all_written : (p : LProc) (params : ParamsApart p) (at : Allocation) (ws places : List ℕ)
    (xs : List Value) (held new : Words) (d : Activation Cells) → AllWritten p at ws places →
    HasCells p d → Settled p at ws held d →
    selected.put_all (Some held) ws xs ≡ Some new → (t : Activation Cells) ×
    (put_all p (Some d) ws places xs ≡ Some t) × Wrote p at new d t
all_written p params at [] places xs held new d is there settled e = (
  d,
  refl,
  record {
    there = there;
    same = alike_itself p d;
    located = λ v q present. subst (λ h. IsIn p d v q (read (kind_of p) h v)) (some_same held new e)
        (⊎_elim (λ (none : ⊥). absurd none) (λ (s : IsIn p d v q (read (kind_of p) held v)). s)
        (settled v q present));
  },
)
all_written p params at (w ∷ ws) places [] held new d is there settled e = absurd (none_is new e)
all_written p params at (w ∷ ws) [] (x ∷ xs) held new d is there settled e = absurd is
all_written p params at (w ∷ ws) (q ∷ places) (x ∷ xs) held new d is there settled e =
    ⊎_elim
    (λ (lt : w < length held).
    let inside : nat_lt w (length held) ≡ true = grind (arith, nat_tests) in
    let more = all_written p params at ws places xs (slice_set held w (Some x)) new
    (write p d is.0.cell (Some x)) is.1
    (still_there p params d is.0.cell (Some x) is.0.is_cell there)
    (settled_one p params at w q is.0 d there (Some x) ws held lt settled)
    (ap (λ o. selected.put_all o ws xs)
    (sym (if_true (nat_lt w (length held)) (Some (slice_set held w (Some x))) None inside)) ∙ e)
    in (
      more.0,
      ap (λ o. put_all p o ws places xs) (put_one p params at w q is.0 d there (Some x)) ∙ more.1,
      record {
        there = more.2.there;
        same = alike_then p d (write p d is.0.cell (Some x)) more.0
            (alike_one p params at w q is.0 d there (Some x)) more.2.same;
        located = more.2.located;
      },
    ))
    (λ (le : length held ≤ w).
    let outside : nat_lt w (length held) ≡ false = grind (arith, nat_tests) in
    absurd (none_is new (ap (λ o. selected.put_all o ws xs)
    (sym (if_false (nat_lt w (length held)) (Some (slice_set held w (Some x))) None outside))
    ∙ e)))
    (cases_lt w (length held))

-- ---- what is destroyed

cleared_get : (mask : ℕ) (regs : Words) (n r : ℕ) → nat_eq (bit_at mask (n + r)) 1 ≡ false →
    slice_get (cleared mask n regs) r ≡ slice_get regs r
cleared_get mask [] n r e = refl
cleared_get mask (h ∷ regs) n zero e = let same : n + 0 ≡ n = omega arith in
    ap Some (if_false (nat_eq (bit_at mask n) 1) None h
    (ap (λ k. nat_eq (bit_at mask k) 1) (sym same) ∙ e))
cleared_get mask (h ∷ regs) n (suc r) e = let same : n + suc r ≡ n + 1 + r = omega arith in
    cleared_get mask regs (n + 1) r (ap (λ k. nat_eq (bit_at mask k) 1) (sym same) ∙ e)

cleared_there : (mask : ℕ) (regs : Words) (n r : ℕ) (old : Held) → slice_get regs r ≡ Some old →
    (new : Held) × (slice_get (cleared mask n regs) r ≡ Some new)
cleared_there mask [] n r was e = absurd (none_is was e)
cleared_there mask (h ∷ regs) n zero was e = (_, refl)
cleared_there mask (h ∷ regs) n (suc r) was e = cleared_there mask regs (n + 1) r was e

module _ (p : LProc) (i : VInstr) (rest : List LInstr) (d : Activation Cells) where
  clobbered_spot : (s : Spot) → in_spot (clobbered i rest d) s ≡ in_spot d s
  clobbered_spot (Slot k) = refl
  clobbered_spot (Argument k) = refl
  clobbered_spot Nowhere = refl

  clobbered_there : HasCells p d → HasCells p (clobbered i rest d)
  clobbered_there there (Register r) is = let o = there (Register r) is in
      cleared_there (table i).clobbers d.home.regs 0 r o.0 o.1
  clobbered_there there (Memory v) is = let o = there (Memory v) is in
      (o.0, clobbered_spot (spot p v) ∙ o.1)
  clobbered_there there (Fixed n) is = absurd is

  clobbered_at : (b : Cell) → is_destroyed (table i).clobbers b ≡ false →
      at_cell p (clobbered i rest d) b ≡ at_cell p d b
  clobbered_at (Register r) e = let same : 0 + r ≡ r = omega arith in
      cleared_get (table i).clobbers d.home.regs 0 r
      (ap (λ k. nat_eq (bit_at (table i).clobbers k) 1) same ∙ e)
  clobbered_at (Memory v) e = clobbered_spot (spot p v)
  clobbered_at (Fixed n) e = refl

  clobbered_each : (x : Held) (bs : List Cell) →
      Each (λ b. is_destroyed (table i).clobbers b ≡ false) bs →
      Each (λ b. at_cell p d b ≡ Some x) bs → Each (λ b. at_cell p (clobbered i rest d) b ≡ Some x)
      bs
  clobbered_each x [] kept each = tt
  clobbered_each x (b ∷ bs) kept each =
      (clobbered_at b kept.0 ∙ each.0, clobbered_each x bs kept.1 each.1)

-- ---- one instruction

pub behind_is : (c t : Activation Vars) (o : Option Words) → behind c o ≡ Some t → (new : Words) ×
    (o ≡ Some new) × (t ≡ at_point c c.home.block (suc c.home.index) new)
behind_is c t None e = absurd (none_is t e)
behind_is c t (Some new) e = (new, refl, sym (some_same _ _ e))

-- Behind an instruction of any form, once the same values are written in both machines, the calls
-- match at the allocation behind it.
pub matches_behind : (p : LProc) (params : ParamsApart p) (i : VInstr) (rest : List LInstr)
    (places : List ℕ) (before after : Allocation) (c t : Activation Vars) (d : Activation Cells) →
    FitsAt p i places before after → Matches p before c d → (xs : List Value) →
    behind c (selected.put_all (Some c.home.held) (written_by i) xs) ≡ Some t →
    (u : Activation Cells) ×
    (put_all p (Some (clobbered i rest d)) (written_by i) (drop (length (read_by i)) places)
    xs ≡ Some u) × Matches p after t u × Alike p (clobbered i rest d) u
matches_behind p params i rest places before after c t d fits k xs e =
    let b = behind_is c t (selected.put_all (Some c.home.held) (written_by i) xs) e in
    let settled : Settled p after (written_by i) c.home.held (clobbered i rest d) = λ v q is.
    ⊎_elim
    (λ (among : Among v (written_by i)). inl among)
    (λ (stays : Stays p i before v q).
    let s = k.located v q stays.same in
    inr (record {
      some = s.some;
      each = clobbered_each p i rest d (read (kind_of p) c.home.held v)
          (cells p v q) stays.kept s.each;
    }))
    (fits.stays v q is) in
    let w = all_written p params after (written_by i) (drop (length (read_by i)) places) xs
    c.home.held b.0 (clobbered i rest d) fits.writes (clobbered_there p i rest d k.there)
    settled b.1 in (
      w.0,
      w.1,
      subst (λ z. Matches p after z w.0) (sym b.2) (record {
        aggregates = w.2.same.aggregates ∙ k.aggregates;
        args = λ j own. w.2.same.args j own ∙ k.args j own;
        there = w.2.there;
        located = w.2.located;
      }),
      w.2.same,
    )
