-- Which items are instructions that the table of bytes has.
use Rattle.std.specs.Prelude.{◌≡◌, ℕ, ◌<◌, ◌^◌, List, [], ◌∷◌, slice_get, Some}
use Rattle.std.specs.Int.{w8, w32}
use Rattle.std.specs.Int.RustNames.{FitsSigned}
use Rattle.ia_code.specs.declared.ins.Ins.{Ins}
use Rattle.ia_code.specs.declared.ins.Ins.TheVariants as ins
use Rattle.ia_code.specs.declared.ins.Rm.{Rm}
use Rattle.ia_code.specs.declared.ins.Rm.TheVariants as rm
use Rattle.ia_code.specs.DecodeTable.{IsSound}
use Rattle.ia_emit.specs.declared.item.Item.{Item}
use Rattle.ia_emit.specs.declared.item.Item.TheVariants.{Plain}
use Rattle.pl_place.specs.declared.placed.LInstr.{LInstr}
use Rattle.pl_place.specs.declared.placed.LInstr.TheVariants as placed
use Rattle.pl_place.specs.declared.placed.LProc.{LProc}
use Rattle.pl_place.specs.Valid.{EachOp}
use Rattle.pra_base.specs.Code.{address_of}
use Rattle.pra_base.specs.declared.code.Addr.{Addr}
use Rattle.pra_base.specs.declared.code.VInstr.{VInstr}

abbrev pub DisplacementFits : Rm → Type 0
DisplacementFits (rm.Reg r) = Unit {0}
DisplacementFits (rm.Mem a) = FitsSigned w32 a.disp

-- Each number has so many bits as its field: of instructions of the code this is always so.
abbrev pub NumbersFit : Ins → Type 0
NumbersFit (ins.MovRmR to from) = DisplacementFits to
NumbersFit (ins.MovRRm to from) = DisplacementFits from
NumbersFit (ins.MovRI to n) = FitsSigned w32 n
NumbersFit (ins.MovRmI to n) = DisplacementFits to × FitsSigned w32 n
NumbersFit (ins.AluRmR op to from) = DisplacementFits to
NumbersFit (ins.AluRRm op to from) = DisplacementFits from
NumbersFit (ins.AluRmI op to n) = DisplacementFits to × FitsSigned w32 n
NumbersFit (ins.AluRmB op to n) = DisplacementFits to × FitsSigned w8 n
NumbersFit (ins.ImulRRm to from) = DisplacementFits from
NumbersFit (ins.ImulI to from n) = DisplacementFits from × FitsSigned w32 n
NumbersFit (ins.ImulB to from n) = DisplacementFits from × FitsSigned w8 n
NumbersFit (ins.Neg to) = DisplacementFits to
NumbersFit (ins.Shift op to n) = DisplacementFits to × (n < 2 ^ 8)
NumbersFit (ins.Idiv by) = DisplacementFits by
NumbersFit (ins.Lea to from) = FitsSigned w32 from.disp
NumbersFit (ins.PushM from) = FitsSigned w32 from.disp
NumbersFit (ins.PushI n) = FitsSigned w32 n
NumbersFit (ins.Call to) = FitsSigned w32 to
NumbersFit (ins.RetI n) = n < 2 ^ 16
NumbersFit (ins.Jmp to) = FitsSigned w32 to
NumbersFit (ins.Jcc c to) = FitsSigned w32 to
NumbersFit _ = Unit {0}

-- the table has it, where its numbers fit; jumps and calls are given distances that do
abbrev pub SoundWhereFits : Item → Type 0
SoundWhereFits (Plain i) = NumbersFit i → IsSound i
SoundWhereFits _ = Unit {0}

abbrev pub EachSound : List Item → Type 0
EachSound [] = Unit {0}
EachSound (i ∷ is) = SoundWhereFits i × EachSound is

-- ---- offsets

-- The address that an instruction has is off by a number of 32 bits. The type of the field says so,
-- and so whoever has read the code knows it; no rule of placed code does.
abbrev pub HasOffset : VInstr → Type 0
HasOffset i = (a : Addr) → address_of i ≡ Some a → FitsSigned w32 a.offset

abbrev pub OffsetFits : LInstr → Type 0
OffsetFits (placed.Op i places) = HasOffset i
OffsetFits (placed.Move m) = Unit {0}

abbrev pub EachOffsetFits : List LInstr → Type 0
EachOffsetFits code = (k : ℕ) (i : LInstr) → slice_get code k ≡ Some i → OffsetFits i

-- each address of the code has such an offset
abbrev pub OffsetsFit : List LProc → Type 0
OffsetsFit procs =
    (q : ℕ) (p : LProc) → slice_get procs q ≡ Some p → EachOp p (λ i places. HasOffset i)
