-- Which variables code may read where: a certificate that nothing is read before it is written, and
-- no dividend after its division.
use Rattle.std.specs.Prelude.{◌≡◌, ◌≢◌, ℕ, ◌<◌, Bool, true, false, ◌&&◌, ◌||◌, not, nat_eq}
use Rattle.std.specs.Prelude.{List, [], ◌∷◌, length, take, Some, slice_get}
use Rattle.pra_base.specs.declared.code.VarKind.{VarKind}
use Rattle.pra_base.specs.declared.code.VarKind.TheVariants.{Constant}
use Rattle.pra_base.specs.declared.code.VInstr.{VInstr}
use Rattle.pra_base.specs.declared.code.VInstr.TheVariants.{DivMod}
use Rattle.pra_base.specs.declared.code.VProc.{VProc}
use Rattle.pra_base.specs.Code.{kind_of, code_of, end_of, IsTarget}
use Rattle.pra_base.specs.Operands.{reads, writes}
use Rattle.vc_build.specs.Grow.{count, stand_in}
use Rattle.vc_expr.specs.declared.branch.Targets.{Targets}

abbrev pub is_constant : VarKind → Bool
is_constant (Constant n) = true
is_constant _ = false

abbrev pub divides : VInstr → ℕ → Bool
divides (DivMod q r a d) v = nat_eq a.0 v
divides _ v = false

-- What may be read behind an instruction: what it writes, and what might be read before it, but for
-- its dividend.
abbrev pub behind : VInstr → ℕ → Bool → Bool
behind i v before = writes i v || (before && not (divides i v))

-- the same behind a list of instructions
abbrev pub readable : Bool → List VInstr → ℕ → Bool
readable before [] v = before
readable before (i ∷ instrs) v = readable (behind i v before) instrs v

-- which variables each block may read when control comes to it
abbrev pub Entries : Type 0
Entries = ℕ → ℕ → Bool

-- a variable may be read behind so many instructions of a block; a constant always may
abbrev pub usable_at : Entries → VProc → ℕ → ℕ → ℕ → Bool
usable_at known code b k v =
    is_constant (kind_of code v) || readable (known b v) (take k (code_of code b)) v

-- behind all that a block has
abbrev pub usable : Entries → VProc → ℕ → ℕ → Bool
usable known code b v =
    is_constant (kind_of code v) || readable (known b v) (code_of code b) v

-- Each instruction reads what it may, and each closed block leads only to blocks that may read no
-- more than may be read at its end.
pub record Certifies (known : Entries) (code : VProc) : Type 0 where
  pub reads_known : (b k v : ℕ) (i : VInstr) → slice_get (code_of code b) k ≡ Some i →
      reads i v ≡ true → usable_at known code b k v ≡ true
  pub flows : (b t v : ℕ) → b < count code → end_of code b ≢ stand_in →
      IsTarget (end_of code b) t → known t v ≡ true → usable known code b v ≡ true

-- What is added in an open block reads only what it may. The result may be read behind it, and so
-- may those of the first variables that might be read before.
pub record Publishes (known : Entries) (first at : ℕ) (old new : VProc) (v : ℕ) : Type 0 where
  pub certifies : Certifies known new
  pub result : usable known new at v ≡ true
  pub others : (u : ℕ) → u < first → usable known old at u ≡ true → usable known new at u ≡ true

-- The same from operands that may be read.
pub record ReadsOperands (first at : ℕ) (old new : VProc) (left right v : ℕ) : Type 0 where
  pub reads : (known : Entries) → Certifies known old → usable known old at left ≡ true →
      usable known old at right ≡ true → Publishes known first at old new v

-- A variable is new, and is set. Nothing is read.
pub record PublishesNew (at : ℕ) (old new : VProc) (v : ℕ) : Type 0 where
  pub reads : (known : Entries) → Certifies known old →
      Publishes known (length old.vars) at old new v

-- A division: its parts may be read behind it, and all that might be read before it but for its
-- dividend.
pub record PublishesParts
    (known : Entries) (at : ℕ) (old new : VProc) (dividend quotient remainder : ℕ) : Type 0 where
  pub certifies : Certifies known new
  pub first_part : usable known new at quotient ≡ true
  pub second_part : usable known new at remainder ≡ true
  pub others : (u : ℕ) → u ≢ dividend → usable known old at u ≡ true →
      usable known new at u ≡ true

pub record ReadsDivision
    (at : ℕ) (old new : VProc) (dividend divisor quotient remainder : ℕ) : Type 0 where
  pub reads : (known : Entries) → Certifies known old → usable known old at dividend ≡ true →
      usable known old at divisor ≡ true →
      PublishesParts known at old new dividend quotient remainder

-- A block reads at its begin only what may be read at the end of the block `at`.
abbrev pub Expects : Entries → (target : ℕ) → VProc → (at : ℕ) → Type 0
Expects known target code at =
    (v : ℕ) → known target v ≡ true → usable known code at v ≡ true

-- A block is left for two others, which expect no more than may be read at its end.
pub record ReadsSides (at : ℕ) (old new : VProc) (left right : ℕ) (targets : Targets)
    : Type 0 where
  pub reads : (known : Entries) → Certifies known old → usable known old at left ≡ true →
      usable known old at right ≡ true → Expects known targets.holds.0 old at →
      Expects known targets.fails.0 old at → Certifies known new

-- A block is left for another with one more variable that may be read.
pub record PublishesTo (at : ℕ) (old new : VProc) (v target block : ℕ) : Type 0 where
  pub reads : (known : Entries) → Certifies known old → usable known old at v ≡ true →
      ((u : ℕ) → known block u ≡ true → u ≢ target → usable known old at u ≡ true) →
      Certifies known new

-- All blocks are closed, and lead to blocks that are there.
abbrev pub IsClosed : VProc → Type 0
IsClosed code = (b : ℕ) → b < count code →
    (end_of code b ≢ stand_in) × ((t : ℕ) → IsTarget (end_of code b) t → t < count code)
