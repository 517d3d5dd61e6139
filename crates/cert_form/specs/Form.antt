-- What each part of a certificate is in JSON, as a value. Numbers are JSON numbers without a point
-- or an exponent; the members of an object stand in the order of the bytes of their keys.
use Rattle.std.specs.Prelude.{ℕ, ℤ, List, [], ◌∷◌, ◌++◌, map, Option, Some, None, codes}
use Rattle.serde_json.specs.Data.{Data, null, number, unsigned, string, array, object}
use Rattle.serde_json.specs.Data.{Members, member, no_members}
use Rattle.serde_json.specs.Find.{of_integer}
use Rattle.serde_json.specs.View.{items_of}
use Rattle.serde_json.specs.Written.{compact_text}
use Rattle.pra_base.specs.declared.ids.VarId.{VarId}
use Rattle.pra_base.specs.declared.ids.Place.{Place}
use Rattle.pra_base.specs.declared.code.VarKind.{VarKind}
use Rattle.pra_base.specs.declared.code.VarKind.TheVariants.{Param, Plain, Constant}
use Rattle.pra_base.specs.declared.code.Base.{Base}
use Rattle.pra_base.specs.declared.code.Base.TheVariants.{Global, Frame, Cell, Via}
use Rattle.pra_base.specs.declared.code.Addr.{Addr}
use Rattle.pra_base.specs.declared.code.VInstr.{VInstr}
use Rattle.pra_base.specs.declared.code.End.{End}
use Rattle.pra_base.specs.declared.code.End.TheVariants.{Jump, Branch, Return}
use Rattle.pra_base.specs.declared.code.Block.{Block}
use Rattle.pra_base.specs.declared.code.VProc.{VProc}
use Rattle.pra_base.specs.Places as places
use Rattle.ia_code.specs.DecodeTable.{cond_number}
use Rattle.cert_form.specs.declared.table.Operand.{Operand}
use Rattle.cert_form.specs.declared.table.Operand.TheVariants.{Variable, Number, Address, Condition}
use Rattle.cert_form.specs.declared.table.Operand.TheVariants.{Procedure}
use Rattle.cert_form.specs.declared.certificate.CostWord.{CostWord}
use Rattle.cert_form.specs.declared.certificate.CostWord.TheVariants.{Size, Speed}
use Rattle.cert_form.specs.declared.certificate.CapAt.{CapAt}
use Rattle.cert_form.specs.declared.certificate.TieAt.{TieAt}
use Rattle.cert_form.specs.declared.certificate.Cert.{Cert}
use Rattle.cert_form.specs.declared.certificate.Certificate.{Certificate}
use Rattle.cert_form.specs.Table.{name, form_of, operands_of}

abbrev pub natural : ℕ → Data
natural n = number (unsigned n)

abbrev pub integer : ℤ → Data
integer z = number (of_integer z)

-- a list of parts that may differ in kind, and one of parts of one kind
abbrev pub row : List Data → Data
row parts = array (items_of parts)

abbrev pub list : {A : Type 0} → (A → Data) → List A → Data
list f xs = row (map f xs)

-- Variables: ["param",i], ["plain"], ["constant",c].
abbrev pub kind_data : VarKind → Data
kind_data (Param i) = row (string (codes "param") ∷ natural i ∷ [])
kind_data Plain = row (string (codes "plain") ∷ [])
kind_data (Constant c) = row (string (codes "constant") ∷ integer c ∷ [])

-- Addresses: [base,number,offset,index].

abbrev pub base_name : Base → List ℕ
base_name (Global n) = codes "global"
base_name (Frame n) = codes "frame"
base_name (Cell n) = codes "cell"
base_name (Via v) = codes "via"

abbrev pub base_number : Base → ℕ
base_number (Global n) = n
base_number (Frame n) = n
base_number (Cell n) = n
base_number (Via v) = v.0

abbrev pub index_data : Option VarId → Data
index_data None = null
index_data (Some v) = natural v.0

abbrev pub address_data : Addr → Data
address_data a =
    row (string (base_name a.base) ∷ natural (base_number a.base) ∷ integer a.offset
    ∷ index_data a.index ∷ [])

-- Instructions: [name,operand,..].

abbrev pub operand_data : Operand → Data
operand_data (Variable v) = natural v.0
operand_data (Number n) = integer n
operand_data (Address a) = address_data a
operand_data (Condition k) = natural (cond_number k)
operand_data (Procedure p) = natural p.0

abbrev pub instruction_data : VInstr → Data
instruction_data i = row (string (name (form_of i)) ∷ map operand_data (operands_of i))

-- Ends: ["jump",b], ["branch",condition,taken,no], ["return"].
abbrev pub end_data : End → Data
end_data (Jump b) = row (string (codes "jump") ∷ natural b.0 ∷ [])
end_data (Branch k taken other) =
    row (string (codes "branch") ∷ natural (cond_number k) ∷ natural taken.0 ∷ natural other.0 ∷ [])
end_data Return = row (string (codes "return") ∷ [])

-- Blocks: [depth,[instruction,..],end].
abbrev pub block_data : Block → Data
block_data b = row (natural b.depth ∷ list instruction_data b.code ∷ end_data b.end ∷ [])

-- A path is the list of its places' numbers.

abbrev pub place_data : Place → Data
place_data p = natural (places.number p)

abbrev pub path_data : List Place → Data
path_data = list place_data

-- Entries of lists of prices: [at,value].

abbrev pub cap_data : CapAt → Data
cap_data c = row (natural c.at ∷ natural c.price ∷ [])

abbrev pub tie_data : TieAt → Data
tie_data t = row (natural t.at ∷ integer t.number ∷ [])

-- The members of code, with others between that of its blocks and that of its variables.
abbrev pub code_members : VProc → (Members → Members) → Members
code_members code between =
    member (codes "aggregates") (natural code.aggregates)
    (member (codes "args") (natural code.args)
    (member (codes "blocks") (list block_data code.blocks)
    (between (member (codes "vars") (list kind_data code.vars) no_members))))

-- Procedures, and the whole.

abbrev pub cert_data : Cert → Data
cert_data c =
    object (code_members c.code (λ vars.
    member (codes "bound") (natural c.bound)
    (member (codes "caps") (list cap_data c.caps)
    (member (codes "mems") (list cap_data c.mems)
    (member (codes "routes") (list path_data c.routes.places)
    (member (codes "ties") (list tie_data c.ties)
    (member (codes "total") (natural c.total) vars)))))))

abbrev pub cost_name : CostWord → List ℕ
cost_name Size = codes "size"
cost_name Speed = codes "speed"

-- The last members of a whole: its kind, its procedures, and the version of these forms.
abbrev pub file_members : {A : Type 0} → List ℕ → (A → Data) → List A → Members
file_members kind proc_data procs =
    member (codes "kind") (string kind)
    (member (codes "procs") (list proc_data procs)
    (member (codes "version") (natural 1) no_members))

abbrev pub certificate_data : Certificate → Data
certificate_data c =
    object (member (codes "cost") (string (cost_name c.cost))
    (file_members (codes "pra-certificate") cert_data c.procs))

-- the text of a value: without a blank, and the line's end
abbrev pub line_text : Data → List ℕ
line_text d = compact_text d ++ 10 ∷ []

unfoldable pub certificate_text : Certificate → List ℕ
certificate_text c = line_text (certificate_data c)
