-- Where the cells of a place get their values from, when pairs are moved at once.
use Rattle.std.proofs.Common.{◌≡◌, ◌≢◌, ℕ, ℤ, ◌⊎◌, inl, inr, ⊎_elim, Bool, true, false}
use Rattle.std.proofs.Common.{if◌then◌else◌, List, [], ◌∷◌, Option, refl, sym, ap, subst, ◌∙◌}
use Rattle.pra_list.proofs.Truths.{true_false}
use Rattle.pra_list.specs.Among.{Among}
use Rattle.pra_base.specs.declared.ids.Place.{Place}
use Rattle.pra_base.specs.declared.ids.Place.TheVariants.{Eax, Ecx, Edx, Ebx, Esi, Edi, Mem, Const}
use Rattle.pra_base.specs.declared.ids.Place.TheVariants.{EaxM, EcxM, EdxM, EbxM, EsiM, EdiM}
use Rattle.pra_base.specs.declared.code.VarKind.{VarKind}
use Rattle.pra_base.specs.declared.code.VarKind.TheVariants.{Param, Plain, Constant}
use Rattle.pra_base.specs.Places.{number, has_register, register_of, needs_slot}
use Rattle.pl_moves.specs.declared.transfer.Pair.{Pair}
use Rattle.pl_moves.specs.Meaning.{Cell, Register, Memory, Fixed, reg}
use Rattle.pl_moves.specs.Assignment.{suits, fills, number_of, origin, source}
use Rattle.pl_place.specs.declared.placed.LProc.{LProc}
use Rattle.pl_place.specs.Placed.{kind_of}
use Rattle.pl_place.specs.Machine.{cells, fixed}
use Rattle.pl_place.specs.Behind.{constant}
use Rattle.pra_list.specs.Each.{Each}
use Rattle.pl_routed.proofs.Lives.{changes}

-- what one pair alone fills
pub source_of : (pairs : List Pair) (cell : Cell) (x : Pair) → Among x pairs → fills x cell ≡ true →
    ((y : Pair) → Among y pairs → fills y cell ≡ true → y ≡ x) → source pairs cell ≡ origin x
source_of [] cell x i t one = absurd i
source_of (y ∷ ys) cell x i t one = by_test (fills y cell) refl
    (λ more. source_of ys cell x more t (λ z j u. one z (inr j) u))
  where
    by_test : (b : Bool) → fills y cell ≡ b → (Among x ys → source ys cell ≡ origin x) →
        (if b then origin y else source ys cell) ≡ origin x
    by_test true e ih = ap origin (one y (inl refl) e)
    by_test false e ih = ⊎_elim
        (λ (same : x ≡ y). absurd (true_false (fills y cell) (sym (ap (λ z. fills z cell) same) ∙ t)
        e)) (λ (more : Among x ys). ih more) i

-- what none fills keeps its own
pub source_kept : (pairs : List Pair) (cell : Cell) →
    ((y : Pair) → Among y pairs → fills y cell ≡ false) → source pairs cell ≡ cell
source_kept [] cell none = refl
source_kept (y ∷ ys) cell none = ap (λ b. if b then origin y else source ys cell)
    (none y (inl refl)) ∙ source_kept ys cell (λ z i. none z (inr i))

source_fixed : (pairs : List Pair) (n : ℤ) → source pairs (Fixed n) ≡ Fixed n
source_fixed pairs n = source_kept pairs (Fixed n) (λ y i. refl)

-- a Constant's number
pub numbers_stay : (pairs : List Pair) (kind : VarKind) →
    Each (λ cell. Among (source pairs cell) (fixed kind)) (fixed kind)
numbers_stay pairs (Param i) = tt
numbers_stay pairs Plain = tt
numbers_stay pairs (Constant n) = (inl (source_fixed pairs n), tt)

-- ---- the origin of a pair is a cell of its place

abbrev pub origin_at : ℕ → Place → Option ℤ → Cell
origin_at w f c = if has_register (number f) then reg f else
    (if needs_slot (number f) then Memory w else Fixed (number_of c))

number_among : (kind : VarKind) → changes kind ≡ false → Among (Fixed (number_of (constant kind)))
    (fixed kind)
number_among (Param i) e = cc
number_among Plain e = cc
number_among (Constant n) e = inl refl

pub origin_among : (p : LProc) (v w : ℕ) (c : Option ℤ) (f : Place) → w ≡ v →
    c ≡ constant (kind_of p v) → (f ≡ Const → changes (kind_of p v) ≡ false) →
    Among (origin_at w f c) (cells p v (number f))
origin_among p v w c Mem e g h = inl (ap Memory e)
origin_among p v w c Const e g h = subst (λ k. Among (Fixed (number_of k)) (fixed (kind_of p v)))
    (sym g) (number_among (kind_of p v) (h refl))
origin_among p v w c x e g h = inl refl

pub memory_among : (p : LProc) (v : ℕ) (f : Place) → needs_slot (number f) ≡ true →
    Among (Memory v) (cells p v (number f))
memory_among p v Mem e = inl refl
memory_among p v EaxM e = inr (inl refl)
memory_among p v EcxM e = inr (inl refl)
memory_among p v EdxM e = inr (inl refl)
memory_among p v EbxM e = inr (inl refl)
memory_among p v EsiM e = inr (inl refl)
memory_among p v EdiM e = inr (inl refl)
memory_among p v x e = cc

-- ---- the cells of a place, part by part

-- for each cell of a place that is no number
pub each_cell : (P : Cell → Type 0) (p : LProc) (v : ℕ) (q : Place) → (q ≡ Const → ⊥) →
    (has_register (number q) ≡ true → P (Register (register_of (number q)))) →
    (needs_slot (number q) ≡ true → P (Memory v)) → Each P (cells p v (number q))
each_cell P p v Mem ne f g = (g refl, tt)
each_cell P p v Const ne f g = absurd (ne refl)
each_cell P p v EaxM ne f g = (f refl, (g refl, tt))
each_cell P p v EcxM ne f g = (f refl, (g refl, tt))
each_cell P p v EdxM ne f g = (f refl, (g refl, tt))
each_cell P p v EbxM ne f g = (f refl, (g refl, tt))
each_cell P p v EsiM ne f g = (f refl, (g refl, tt))
each_cell P p v EdiM ne f g = (f refl, (g refl, tt))
each_cell P p v x ne f g = (f refl, tt)

some_fixed : (kind : VarKind) → suits (constant kind) 7 ≡ true → fixed kind ≢ []
some_fixed (Param i) e = cc
some_fixed Plain e = cc
some_fixed (Constant n) e = λ x. cc

pub some_cells : (p : LProc) (v : ℕ) (q : Place) → suits (constant (kind_of p v)) (number q) ≡
    true → cells p v (number q) ≢ []
some_cells p v Const e = some_fixed (kind_of p v) e
some_cells p v x e = λ n. cc

pub const_or : (q : Place) → (q ≡ Const) ⊎ (q ≡ Const → ⊥)
const_or Const = inl refl
const_or x = inr (λ e. cc)

pub constant_at : (kind : VarKind) → suits (constant kind) 7 ≡ true → changes kind ≡ false
constant_at (Param i) e = cc
constant_at Plain e = cc
constant_at (Constant n) e = refl
