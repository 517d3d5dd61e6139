-- The values of a certificate and of a code file have no float, and nest at most eight deep.
use Rattle.std.proofs.Common.{◌≡◌, ℕ, suc, ◌≤◌, ◌||◌, Bool, true, false, List, [], ◌∷◌, map}
use Rattle.std.proofs.Common.{Option, Some, None, refl, arith, codes}
use Rattle.std.specs.Prelude.{ℤ, pos, negsuc, if◌then◌else◌}
use Rattle.serde_json.specs.Data.{Data, null, string, object, Items, no_items, item}
use Rattle.serde_json.specs.Data.{Members, no_members, member, items_depth, members_depth}
use Rattle.serde_json.specs.Read.{max_depth}
use Rattle.serde_json.specs.View.{items_of}
use Rattle.serde_json.specs.Written.{has_float, items_have_float, members_have_float}
use Rattle.pra_list.specs.Each.{Each}
use Rattle.ia_code.specs.DecodeTable.{cond_number}
use Rattle.pra_base.specs.declared.ids.VarId.{VarId}
use Rattle.pra_base.specs.declared.ids.Place.{Place}
use Rattle.pra_base.specs.declared.code.VarKind.{VarKind}
use Rattle.pra_base.specs.declared.code.VarKind.TheVariants.{Param, Plain, Constant}
use Rattle.pra_base.specs.declared.code.Addr.{Addr}
use Rattle.pra_base.specs.declared.code.VInstr.{VInstr}
use Rattle.pra_base.specs.declared.code.End.{End}
use Rattle.pra_base.specs.declared.code.End.TheVariants.{Jump, Branch, Return}
use Rattle.pra_base.specs.declared.code.Block.{Block}
use Rattle.pra_base.specs.declared.code.VProc.{VProc}
use Rattle.cert_form.specs.declared.table.Operand.{Operand}
use Rattle.cert_form.specs.declared.table.Operand.TheVariants.{Variable, Number, Address, Condition}
use Rattle.cert_form.specs.declared.table.Operand.TheVariants.{Procedure}
use Rattle.cert_form.specs.declared.certificate.CapAt.{CapAt}
use Rattle.cert_form.specs.declared.certificate.TieAt.{TieAt}
use Rattle.cert_form.specs.declared.certificate.Cert.{Cert}
use Rattle.cert_form.specs.declared.certificate.Certificate.{Certificate}
use Rattle.cert_form.specs.declared.codes.NamedCode.{NamedCode}
use Rattle.cert_form.specs.declared.codes.CodeFile.{CodeFile}
use Rattle.cert_form.specs.Table.{name, form_of, operands_of}
use Rattle.cert_form.specs.Form.{natural, integer, row, list, kind_data, base_name, base_number}
use Rattle.cert_form.specs.Form.{index_data, address_data, operand_data, instruction_data, end_data}
use Rattle.cert_form.specs.Form.{block_data, place_data, path_data, cap_data, tie_data, cert_data}
use Rattle.cert_form.specs.Form.{code_members, file_members, cost_name, certificate_data}
use Rattle.cert_form.specs.CodeForm.{is_name, name_data, code_data, file_data}
use Rattle.cert_form.specs.Plain.{IsPlain}

record ArePlain (n : ℕ) (ds : Items) : Type 0 where
  whole : items_have_float ds ≡ false
  shallow : items_depth ds ≤ n

record ArePlainMembers (n : ℕ) (ms : Members) : Type 0 where
  whole : members_have_float ms ≡ false
  shallow : members_depth ms ≤ n

neither : (a b : Bool) → a ≡ false → b ≡ false → (a || b) ≡ false
neither true b e f = e
neither false b e f = f

deeper : (m n : ℕ) (d : Data) → m ≤ n → IsPlain m d → IsPlain n d
deeper m n d h p = record { whole = p.whole; shallow = omega (arith, p.shallow) }

no_more : (n : ℕ) → ArePlain n no_items
no_more n = record { whole = refl; shallow = omega arith }

one_more : (n : ℕ) (d : Data) (ds : Items) → IsPlain n d → ArePlain n ds → ArePlain n (item d ds)
one_more n d ds p q = record {
  whole = neither (has_float d) (items_have_float ds) p.whole q.whole;
  shallow = omega (arith, p.shallow, q.shallow);
}

no_member : (n : ℕ) → ArePlainMembers n no_members
no_member n = record { whole = refl; shallow = omega arith }

one_member : (n : ℕ) (k : List ℕ) (d : Data) (ms : Members) → IsPlain n d →
    ArePlainMembers n ms → ArePlainMembers n (member k d ms)
one_member n k d ms p q = record {
  whole = neither (has_float d) (members_have_float ms) p.whole q.whole;
  shallow = omega (arith, p.shallow, q.shallow);
}

of_members : (n : ℕ) (ms : Members) → ArePlainMembers n ms → IsPlain (suc n) (object ms)
of_members n ms p = record { whole = p.whole; shallow = omega (arith, p.shallow) }

all_plain : (n : ℕ) (ds : List Data) → Each (IsPlain n) ds → ArePlain n (items_of ds)
all_plain n [] h = no_more n
all_plain n (d ∷ ds) h = one_more n d (items_of ds) h.0 (all_plain n ds h.1)

row_plain : (n : ℕ) (ds : List Data) → Each (IsPlain n) ds → IsPlain (suc n) (row ds)
row_plain n ds h =
    let p = all_plain n ds h in
    record { whole = p.whole; shallow = omega (arith, p.shallow) }

row_two : (n : ℕ) (a b : Data) → IsPlain n a → IsPlain n b → IsPlain (suc n) (row (a ∷ b ∷ []))
row_two n a b p q = row_plain n (a ∷ b ∷ []) (p, (q, tt))

row_four : (n : ℕ) (a b c d : Data) → IsPlain n a → IsPlain n b → IsPlain n c → IsPlain n d →
    IsPlain (suc n) (row (a ∷ b ∷ c ∷ d ∷ []))
row_four n a b c d p q r s = row_plain n (a ∷ b ∷ c ∷ d ∷ []) (p, (q, (r, (s, tt))))

each_plain : {A : Type 0} (n : ℕ) (f : A → Data) → ((x : A) → IsPlain n (f x)) → (xs : List A) →
    Each (IsPlain n) (map f xs)
each_plain n f p [] = tt
each_plain n f p (x ∷ xs) = (p x, each_plain n f p xs)

list_plain : {A : Type 0} (n : ℕ) (f : A → Data) → ((x : A) → IsPlain n (f x)) → (xs : List A) →
    IsPlain (suc n) (list f xs)
list_plain n f p xs = row_plain n (map f xs) (each_plain n f p xs)

natural_plain : (n m : ℕ) → IsPlain n (natural m)
natural_plain n m = record { whole = refl; shallow = omega arith }

integer_plain : (n : ℕ) (z : ℤ) → IsPlain n (integer z)
integer_plain n (pos m) = record { whole = refl; shallow = omega arith }
integer_plain n (negsuc m) = record { whole = refl; shallow = omega arith }

string_plain : (n : ℕ) (s : List ℕ) → IsPlain n (string s)
string_plain n s = record { whole = refl; shallow = omega arith }

kind_plain : (k : VarKind) → IsPlain 1 (kind_data k)
kind_plain (Param i) = row_two 0 _ _ (string_plain 0 (codes "param")) (natural_plain 0 i)
kind_plain Plain =
    row_plain 0 (string (codes "plain") ∷ []) (string_plain 0 (codes "plain"), tt)
kind_plain (Constant c) = row_two 0 _ _ (string_plain 0 (codes "constant")) (integer_plain 0 c)

index_plain : (n : ℕ) (o : Option VarId) → IsPlain n (index_data o)
index_plain n None = record { whole = refl; shallow = omega arith }
index_plain n (Some v) = natural_plain n v.0

address_plain : (a : Addr) → IsPlain 1 (address_data a)
address_plain a =
    row_four 0 _ _ _ _ (string_plain 0 (base_name a.base)) (natural_plain 0 (base_number a.base))
    (integer_plain 0 a.offset) (index_plain 0 a.index)

operand_plain : (o : Operand) → IsPlain 1 (operand_data o)
operand_plain (Variable v) = natural_plain 1 v.0
operand_plain (Number n) = integer_plain 1 n
operand_plain (Address a) = address_plain a
operand_plain (Condition k) = natural_plain 1 _
operand_plain (Procedure p) = natural_plain 1 p.0

instruction_plain : (i : VInstr) → IsPlain 2 (instruction_data i)
instruction_plain i =
    row_plain 1 (string (name (form_of i)) ∷ map operand_data (operands_of i))
    (string_plain 1 (name (form_of i)), each_plain 1 operand_data operand_plain (operands_of i))

end_plain : (n : ℕ) (e : End) → IsPlain (suc n) (end_data e)
end_plain n (Jump b) = row_two n _ _ (string_plain n (codes "jump")) (natural_plain n b.0)
end_plain n (Branch k taken other) =
    row_four n _ _ _ _ (string_plain n (codes "branch")) (natural_plain n (cond_number k))
    (natural_plain n taken.0) (natural_plain n other.0)
end_plain n Return =
    row_plain n (string (codes "return") ∷ []) (string_plain n (codes "return"), tt)

block_plain : (b : Block) → IsPlain 4 (block_data b)
block_plain b =
    let code = list_plain 2 instruction_data instruction_plain b.code in
    row_plain 3 (natural b.depth ∷ list instruction_data b.code ∷ end_data b.end ∷ [])
    (natural_plain 3 b.depth, (code, (end_plain 2 b.end, tt)))

place_plain : (p : Place) → IsPlain 0 (place_data p)
place_plain p = natural_plain 0 _

path_plain : (ps : List Place) → IsPlain 1 (path_data ps)
path_plain ps = list_plain 0 place_data place_plain ps

cap_plain : (c : CapAt) → IsPlain 1 (cap_data c)
cap_plain c = row_two 0 _ _ (natural_plain 0 c.at) (natural_plain 0 c.price)

tie_plain : (t : TieAt) → IsPlain 1 (tie_data t)
tie_plain t = row_two 0 _ _ (natural_plain 0 t.at) (integer_plain 0 t.number)

short_plain : {A : Type 0} (f : A → Data) → ((x : A) → IsPlain 1 (f x)) → (xs : List A) →
    IsPlain 5 (list f xs)
short_plain f p xs = deeper 2 5 (list f xs) (omega arith) (list_plain 1 f p xs)

code_plain : (c : VProc) (between : Members → Members) →
    ((ms : Members) → ArePlainMembers 5 ms → ArePlainMembers 5 (between ms)) →
    ArePlainMembers 5 (code_members c between)
code_plain c between keep =
    one_member 5 _ _ _ (natural_plain 5 c.aggregates) (
    one_member 5 _ _ _ (natural_plain 5 c.args) (
    one_member 5 _ _ _ (list_plain 4 block_data block_plain c.blocks) (
    keep (member (codes "vars") (list kind_data c.vars) no_members) (
    one_member 5 _ _ _ (short_plain kind_data kind_plain c.vars) (no_member 5)))))

cert_plain : (c : Cert) → IsPlain 6 (cert_data c)
cert_plain c =
    of_members 5 _ (code_plain c.code (λ (vars : Members).
    member (codes "bound") (natural c.bound)
    (member (codes "caps") (list cap_data c.caps)
    (member (codes "mems") (list cap_data c.mems)
    (member (codes "routes") (list path_data c.routes.places)
    (member (codes "ties") (list tie_data c.ties)
    (member (codes "total") (natural c.total) vars)))))) (λ vars p.
    one_member 5 _ _ _ (natural_plain 5 c.bound) (
    one_member 5 _ _ _ (short_plain cap_data cap_plain c.caps) (
    one_member 5 _ _ _ (short_plain cap_data cap_plain c.mems) (
    one_member 5 _ _ _ (short_plain path_data path_plain c.routes.places) (
    one_member 5 _ _ _ (short_plain tie_data tie_plain c.ties) (
    one_member 5 _ _ _ (natural_plain 5 c.total) p)))))))

name_plain : (name : List ℕ) (b : Bool) → IsPlain 5 (if b then string name else null)
name_plain name true = string_plain 5 name
name_plain name false = record { whole = refl; shallow = omega arith }

named_plain : (p : NamedCode) → IsPlain 6 (code_data p)
named_plain p =
    of_members 5 _ (
    code_plain p.code (λ (vars : Members). member (codes "name") (name_data p.name) vars)
    (λ vars h. one_member 5 _ _ _ (name_plain p.name (is_name p.name)) h))

whole_plain : {A : Type 0} (key kind : List ℕ) (first : Data) (f : A → Data) → IsPlain 7 first →
    ((x : A) → IsPlain 6 (f x)) → (xs : List A) →
    IsPlain max_depth (object (member key first (file_members kind f xs)))
whole_plain key kind first f h p xs =
    deeper 8 max_depth _ (omega arith) (of_members 7 _ (
    one_member 7 _ _ _ h (
    one_member 7 _ _ _ (string_plain 7 kind) (
    one_member 7 _ _ _ (list_plain 6 f p xs) (
    one_member 7 _ _ _ (natural_plain 7 1) (no_member 7))))))

pub certificate_plain : (c : Certificate) → IsPlain max_depth (certificate_data c)
certificate_plain c =
    whole_plain (codes "cost") (codes "pra-certificate") (string (cost_name c.cost)) cert_data
    (string_plain 7 (cost_name c.cost)) cert_plain c.procs

pub code_file_plain : (f : CodeFile) → IsPlain max_depth (file_data f)
code_file_plain f =
    whole_plain (codes "data_words") (codes "pra-code") (natural f.data_words) code_data
    (natural_plain 7 f.data_words) named_plain f.procs
