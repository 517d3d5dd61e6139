-- Which certificates a text may hold, and what reading a text answers.
use Rattle.std.specs.Prelude.{◌≡◌, ◌<◌, ◌⊎◌, ℕ, suc, List, [], ◌∷◌, length, Result, Ok, Err, IsUtf8}
use Rattle.std.specs.Prelude.{Some, IfSome, FitsSigned}
use Rattle.std.specs.Int.{w32, w64}
use Rattle.serde_json.specs.Data.{Data}
use Rattle.serde_json.specs.Read.{read}
use Rattle.pra_list.specs.Each.{Each}
use Rattle.pra_base.specs.declared.code.VarKind.{VarKind}
use Rattle.pra_base.specs.declared.code.VarKind.TheVariants.{Param, Plain, Constant}
use Rattle.pra_base.specs.declared.code.Addr.{Addr}
use Rattle.pra_base.specs.declared.code.VInstr.{VInstr}
use Rattle.pra_base.specs.declared.code.End.{End}
use Rattle.pra_base.specs.declared.code.End.TheVariants.{Jump, Branch, Return}
use Rattle.pra_base.specs.declared.code.Block.{Block}
use Rattle.pra_base.specs.declared.code.VProc.{VProc}
use Rattle.cert_form.specs.declared.table.Operand.{Operand}
use Rattle.cert_form.specs.declared.table.Operand.TheVariants.{Variable, Number, Address, Condition}
use Rattle.cert_form.specs.declared.table.Operand.TheVariants.{Procedure}
use Rattle.cert_form.specs.declared.certificate.CapAt.{CapAt}
use Rattle.cert_form.specs.declared.certificate.TieAt.{TieAt}
use Rattle.cert_form.specs.declared.certificate.Cert.{Cert}
use Rattle.cert_form.specs.declared.certificate.Certificate.{Certificate}
use Rattle.cert_form.specs.declared.text.CertFault.{CertFault}
use Rattle.cert_form.specs.declared.text.CertFault.TheVariants.{NotJson, NotCertificate}
use Rattle.cert_form.specs.declared.text.CertFault.TheVariants.{OutOfMemory}
use Rattle.cert_form.specs.Table.{operands_of}
use Rattle.cert_form.specs.Form.{base_number, certificate_data}

-- Every number in its type: of 32 or 64 bits, with or without a sign.

abbrev pub IsNatural : ℕ → Type 0
IsNatural n = n < 4294967296

abbrev pub IsLong : ℕ → Type 0
IsLong n = n < 18446744073709551616

abbrev pub KindFits : VarKind → Type 0
KindFits (Param i) = IsNatural i
KindFits Plain = Unit {0}
KindFits (Constant c) = FitsSigned w32 c

abbrev pub AddressFits : Addr → Type 0
AddressFits a =
    IsNatural (base_number a.base) × FitsSigned w32 a.offset × IfSome a.index (λ v. IsNatural v.0)

abbrev pub OperandFits : Operand → Type 0
OperandFits (Variable v) = IsNatural v.0
OperandFits (Number n) = FitsSigned w32 n
OperandFits (Address a) = AddressFits a
OperandFits (Condition k) = Unit {0}
OperandFits (Procedure p) = IsNatural p.0

abbrev pub InstructionFits : VInstr → Type 0
InstructionFits i = Each OperandFits (operands_of i)

abbrev pub EndFits : End → Type 0
EndFits (Jump b) = IsNatural b.0
EndFits (Branch k taken other) = IsNatural taken.0 × IsNatural other.0
EndFits Return = Unit {0}

abbrev pub BlockFits : Block → Type 0
BlockFits b = IsNatural b.depth × Each InstructionFits b.code × EndFits b.end

abbrev pub CapFits : CapAt → Type 0
CapFits c = IsNatural c.at × IsLong c.price

abbrev pub TieFits : TieAt → Type 0
TieFits t = IsNatural t.at × FitsSigned w64 t.number

pub record CodeFits (c : VProc) : Type 0 where
  pub args : IsNatural c.args
  pub aggregates : IsNatural c.aggregates
  pub vars : Each KindFits c.vars
  pub blocks : Each BlockFits c.blocks

pub record CertFits (c : Cert) : Type 0 where
  pub code : CodeFits c.code
  pub caps : Each CapFits c.caps
  pub mems : Each CapFits c.mems
  pub ties : Each TieFits c.ties
  pub total : IsLong c.total
  pub bound : IsLong c.bound

-- The id of the code of each part is its number, one of 32 bits; they are numbered from n on.
abbrev pub CodesAreNumbered : {A : Type 0} → (A → VProc) → ℕ → List A → Type 0
CodesAreNumbered code n [] = Unit {0}
CodesAreNumbered code n (x ∷ xs) =
    ((code x).id.0 ≡ n) × IsNatural n × CodesAreNumbered code (suc n) xs

abbrev pub AreNumbered : ℕ → List Cert → Type 0
AreNumbered n cs = CodesAreNumbered (λ (c : Cert). c.code) n cs

-- what a text may hold
pub record IsWhole (c : Certificate) : Type 0 where
  pub some : 0 < length c.procs
  pub numbered : AreNumbered 0 c.procs
  pub fits : Each CertFits c.procs

-- the bytes are JSON, and of this value
abbrev pub IsReadAs : List ℕ → Data → Type 0
IsReadAs bytes d = IsUtf8 bytes × (read bytes ≡ Some d)

-- no value is read
abbrev pub IsNoJson : List ℕ → Type 0
IsNoJson bytes = (d : Data) → IsReadAs bytes d → ⊥

-- a value is that of no whole certificate
abbrev pub IsOfNone : Data → Type 0
IsOfNone d = (c : Certificate) → IsWhole c → d ≡ certificate_data c → ⊥

-- What reading answers: the whole certificate whose value the bytes are read as; or that no value
-- is read; or that a value is read which is that of no whole certificate.
abbrev pub Reads : List ℕ → Result Certificate CertFault → Type 0
Reads bytes (Ok c) = IsReadAs bytes (certificate_data c) × IsWhole c
Reads bytes (Err NotJson) = IsNoJson bytes
Reads bytes (Err NotCertificate) = (d : Data) × IsReadAs bytes d × IsOfNone d
Reads bytes (Err OutOfMemory) = Unit {0}

-- reading answers this certificate, or want of memory
abbrev pub IsReadAgain : Certificate → List ℕ → Type 0
IsReadAgain c bytes =
    (answer : Result Certificate CertFault) → Reads bytes answer →
    (answer ≡ Ok c) ⊎ (answer ≡ Err OutOfMemory)
