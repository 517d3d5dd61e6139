-- What a move does, to whatever the registers and the memory of variables hold.
use Rattle.std.specs.Prelude.{ℕ, ℤ, Bool, false, nat_eq, if◌then◌else◌, List, [], ◌∷◌, Option, Some}
use Rattle.pra_base.specs.declared.ids.Place.{Place}
use Rattle.pra_base.specs.Places.{number, register_of}
use Rattle.pl_moves.specs.declared.transfer.Move.{Move}
use Rattle.pl_moves.specs.declared.transfer.Move.TheVariants.{Copy, Swap, Load, Store, Set}
use Rattle.pra_list.specs.Options.{◌>>=◌}

-- ---- cells

-- Where a value stands: in a register, in the memory of a variable, or nowhere, since it is a
-- number that never changes.
pub data Cell : Type 0 where
  Register : ℕ → Cell
  Memory : ℕ → Cell
  Fixed : ℤ → Cell

-- two names of one register or one memory; a number is nothing that can be written
abbrev pub same_cell : Cell → Cell → Bool
same_cell (Register a) (Register b) = nat_eq a b
same_cell (Memory a) (Memory b) = nat_eq a b
same_cell _ _ = false

-- the register of a place
abbrev pub reg : Place → Cell
reg place = Register (register_of (number place))

-- ---- what holds values

-- How a state S holds values of kind A: what a cell holds, and the state once a value is put into a
-- cell. None where there is no such cell.
pub record Holding (S A : Type 0) : Type 0 where
  pub at : S → Cell → Option A
  pub put : S → Cell → A → Option S

-- the cell gets what another one holds
abbrev pub copied : {S A : Type 0} → Holding S A → Cell → Cell → S → Option S
copied h to from s = do
  x ← h.at s from
  h.put s to x

-- two cells get what the other held
abbrev pub exchanged : {S A : Type 0} → Holding S A → Cell → Cell → S → Option S
exchanged h one other s = do
  x ← h.at s one
  y ← h.at s other
  t ← h.put s one y
  h.put t other x

-- MOV and XCHG between registers, MOV from and to memory, MOV of a number (Intel SDM volume 2)
abbrev pub moved : {S A : Type 0} → Holding S A → Move → S → Option S
moved h (Copy r q) = copied h (reg r) (reg q)
moved h (Swap r q) = exchanged h (reg r) (reg q)
moved h (Load r v) = copied h (reg r) (Memory v.0)
moved h (Store v r) = copied h (Memory v.0) (reg r)
moved h (Set r n) = copied h (reg r) (Fixed n)

-- one after the other
abbrev pub all_moved : {S A : Type 0} → Holding S A → List Move → S → Option S
all_moved h [] s = Some s
all_moved h (m ∷ ms) s = do
  t ← moved h m s
  all_moved h ms t

-- ---- the plainest of all: each cell is there, and holds anything

abbrev pub with_cell : {A : Type 0} → (Cell → A) → Cell → A → Cell → A
with_cell held cell x other = if same_cell other cell then x else held other

abbrev pub everywhere : {A : Type 0} → Holding (Cell → A) A
everywhere = record {
  at = λ held cell. Some (held cell);
  put = λ held cell x. Some (with_cell held cell x);
}
