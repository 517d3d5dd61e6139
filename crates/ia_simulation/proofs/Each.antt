-- Each instruction of placed code is carried.
use Rattle.std.proofs.Common.{◌≡◌, ◌≢◌, ℕ, List, Some, refl}
use Rattle.std.specs.Prelude.{ℤ, slice_get}
use Rattle.std.specs.Int.{w32}
use Rattle.std.specs.Int.RustNames.{FitsSigned}
use Rattle.ia_code.specs.declared.image.Image.{Image}
use Rattle.ia_code.specs.Listing.{bytes_of_all}
use Rattle.ia_emit.specs.Code.{code_of}
use Rattle.ia_step.specs.Run.{progress}
use Rattle.pl_place.specs.declared.placed.LInstr.{LInstr}
use Rattle.pl_place.specs.declared.placed.LInstr.TheVariants as placed
use Rattle.pl_place.specs.declared.placed.LProc.{LProc}
use Rattle.pl_place.specs.Machine.{lrun}
use Rattle.pl_place.specs.Valid.{linstr_at}
use Rattle.pra_base.specs.Agreement.{Carried, ReachesUntil}
use Rattle.pra_base.specs.Code.{address_of}
use Rattle.pra_base.specs.declared.code.Addr.{Addr}
use Rattle.pra_base.specs.declared.code.VInstr.{VInstr}
use Rattle.pra_base.specs.declared.code.VInstr.TheVariants as instr
use Rattle.pra_base.specs.RunEnd.{Wrong}
use Rattle.ia_simulation.specs.Realizes.{IsLoadable, AreWords, IsCarried, EachIsCarried}
use Rattle.ia_emit.specs.Sound.{OffsetsFit}
use Rattle.ia_simulation.proofs.Simulated as simulated
use Rattle.ia_simulation.proofs.Whole as whole

op_carried : (i : VInstr) (places : _) →
    ((a : Addr) → address_of i ≡ Some a → FitsSigned w32 a.offset) → IsCarried (placed.Op i places)
op_carried (instr.Set v n) places fits = whole.sets v n places
op_carried (instr.Copy v s) places fits = whole.copies v s places
op_carried (instr.Add v s) places fits = whole.adds v s places
op_carried (instr.Sub v s) places fits = whole.subtracts v s places
op_carried (instr.And v s) places fits = whole.ands v s places
op_carried (instr.Or v s) places fits = whole.ors v s places
op_carried (instr.Xor v s) places fits = whole.xors v s places
op_carried (instr.Mul v s) places fits = whole.multiplies v s places
op_carried (instr.Neg v) places fits = whole.negates v places
op_carried (instr.Shift op v n) places fits = whole.shifts op v n places
op_carried (instr.Cmp a b) places fits = whole.compares a b places
op_carried (instr.CmpSet c v a b) places fits = whole.sets_condition c v a b places
op_carried (instr.DivMod q r a d) places fits = whole.divides q r a d places
op_carried (instr.Check v n) places fits = whole.checks v n places
op_carried (instr.CheckPos v) places fits = whole.checks_positive v places
op_carried (instr.Load v a) places fits = whole.loads v a places (fits a refl)
op_carried (instr.Store a v) places fits = whole.stores a v places (fits a refl)
op_carried (instr.Addr v a) places fits = whole.locates v a places (fits a refl)
op_carried (instr.Push v) places fits = whole.pushes v places
op_carried (instr.Call q) places fits = whole.calls q places
op_carried (instr.Read v) places fits = whole.reads v places
op_carried (instr.Write v) places fits = whole.writes v places
op_carried instr.Line places fits = whole.lines places
op_carried instr.Clear places fits = whole.clears places

module _ (procs : List LProc) (fit : OffsetsFit procs) where
  carried_at : (q : ℕ) (p : LProc) → slice_get procs q ≡ Some p → (b k : ℕ) (i : LInstr) →
      linstr_at p b k i → IsCarried i
  carried_at q p there b k (placed.Move move) is = whole.moves move
  carried_at q p there b k (placed.Op i places) is =
      op_carried i places (fit q p there b k i places is)

  each : EachIsCarried procs
  each q p there b k i is = carried_at q p there b k i is

pub carried : (procs : List LProc) (data_words : ℕ) → IsLoadable procs data_words →
    OffsetsFit procs → (image : Image) → image.code ≡ bytes_of_all (code_of procs) →
    image.data_words ≡ data_words → (input : List ℤ) → AreWords input →
    ((k : ℕ) → (lrun procs data_words input k).ending ≢ Some Wrong) →
    Carried (lrun procs data_words input) (progress image input)
carried procs data_words ok fit = simulated.follows procs data_words ok (each procs fit)

pub never_wrong : (procs : List LProc) (data_words : ℕ) → IsLoadable procs data_words →
    OffsetsFit procs → (image : Image) → image.code ≡ bytes_of_all (code_of procs) →
    image.data_words ≡ data_words → (input : List ℤ) → AreWords input →
    ((k : ℕ) → (lrun procs data_words input k).ending ≢ Some Wrong) → (m : ℕ) →
    (progress image input m).ending ≢ Some Wrong
never_wrong procs data_words ok fit = simulated.never_wrong procs data_words ok (each procs fit)

pub until : (procs : List LProc) (data_words : ℕ) → IsLoadable procs data_words →
    OffsetsFit procs → (image : Image) → image.code ≡ bytes_of_all (code_of procs) →
    image.data_words ≡ data_words → (input : List ℤ) → AreWords input →
    ReachesUntil Wrong (lrun procs data_words input) (progress image input)
until procs data_words ok fit = simulated.until procs data_words ok (each procs fit)
