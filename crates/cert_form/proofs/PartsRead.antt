-- Parts that are written are read again.
use Rattle.std.proofs.Common.{◌≡◌, ℕ, ◌<◌, ◌^◌, true, List, [], ◌∷◌, map, Option, Some, None, refl}
use Rattle.std.proofs.Common.{ap, ◌∙◌, arith, nat_lt}
use Rattle.std.specs.Prelude.{ℤ, pos, negsuc, if◌then◌else◌, IfSome, FitsSigned}
use Rattle.std.specs.Int.{w32, w64}
use Rattle.std.proofs.lemmas.Bool.{lt-ltb}
use Rattle.std.proofs.lemmas.Int.{ints}
use Rattle.std.proofs.lemmas.Bool.Decides.{nat_tests}
use Rattle.serde_json.specs.Data.{Data, string}
use Rattle.serde_json.specs.Find.{at, as_i64, of_integer}
use Rattle.serde_json.specs.View.{items_of}
use Rattle.pra_list.specs.Options.{◌>>=◌}
use Rattle.pra_list.specs.Each.{Each}
use Rattle.pra_list.proofs.Truths.{if_true}
use Rattle.pra_base.specs.declared.ids.VarId.{VarId}
use Rattle.pra_base.specs.declared.ids.ProcId.{ProcId}
use Rattle.pra_base.specs.declared.ids.BlockId.{BlockId}
use Rattle.pra_base.specs.declared.ids.Cond.{Cond}
use Rattle.pra_base.specs.declared.ids.ShiftOp.{ShiftOp}
use Rattle.pra_base.specs.declared.ids.ShiftOp.TheVariants.{Shl, Shr, Sar}
use Rattle.pra_base.specs.declared.ids.Cond.TheVariants.{B}
use Rattle.pra_base.specs.declared.ids.Place.{Place}
use Rattle.pra_base.specs.declared.code.VarKind.{VarKind}
use Rattle.pra_base.specs.declared.code.VarKind.TheVariants.{Param, Plain, Constant}
use Rattle.pra_base.specs.declared.code.Base.{Base}
use Rattle.pra_base.specs.declared.code.Base.TheVariants.{Global}
use Rattle.pra_base.specs.declared.code.Addr.{Addr}
use Rattle.pra_base.specs.declared.code.VInstr.{VInstr}
use Rattle.pra_base.specs.declared.code.VInstr.TheVariants as instr
use Rattle.pra_base.specs.declared.code.End.{End}
use Rattle.pra_base.specs.declared.code.End.TheVariants.{Jump, Branch, Return}
use Rattle.pra_base.specs.declared.code.Block.{Block}
use Rattle.pra_base.specs.Places.{number, numbered}
use Rattle.pra_base.proofs.PlaceNumbers.{numbered-number, number_below}
use Rattle.ia_code.specs.DecodeTable.{cond_number}
use Rattle.ia_code.specs.Reading.{cond_of}
use Rattle.ia_code.proofs.FieldNumbers.{cond_small}
use Rattle.cert_form.specs.declared.table.Form.{Form}
use Rattle.cert_form.specs.declared.table.Form.TheVariants as form
use Rattle.cert_form.specs.declared.table.Operand.{Operand}
use Rattle.cert_form.specs.declared.table.Operand.TheVariants.{Variable, Number, Address}
use Rattle.cert_form.specs.declared.certificate.CapAt.{CapAt}
use Rattle.cert_form.specs.declared.certificate.TieAt.{TieAt}
use Rattle.cert_form.specs.Table.{name, form_of, form_named, shift_form}
use Rattle.cert_form.specs.Form.{natural, integer, row, operand_data, list, kind_data, base_name}
use Rattle.cert_form.specs.Form.{base_number, index_data, address_data, instruction_data, end_data}
use Rattle.cert_form.specs.Form.{block_data, place_data, path_data, cap_data, tie_data}
use Rattle.cert_form.specs.Reading.{long_natural, natural_of, fits_i64, long_integer, fits_i32}
use Rattle.cert_form.specs.Reading.{integer_of, natural_at, integer_at, shift_made, variable_at}
use Rattle.cert_form.specs.Reading.{condition_at, each, list_of, kind_of, base_of, index_of}
use Rattle.cert_form.specs.Reading.{address_of, address_at, made, instruction_of, end_of, block_of}
use Rattle.cert_form.specs.Reading.{place_of, path_of, cap_of, tie_of}
use Rattle.cert_form.specs.Whole.{IsNatural, IsLong, KindFits, AddressFits, InstructionFits}
use Rattle.cert_form.specs.Whole.{EndFits, OperandFits, BlockFits, CapFits, TieFits}

-- Where parts are there, what is made of them.

pub one : {A C : Type 0} (o : Option A) (a : A) (f : A → Option C) → o ≡ Some a → (o >>= f) ≡ f a
one o a f e = ap (λ p. p >>= f) e

pub two : {A B C : Type 0} (o : Option A) (p : Option B) (a : A) (b : B) (f : A → B → Option C) →
    o ≡ Some a → p ≡ Some b → (o >>= (λ x. p >>= f x)) ≡ f a b
two o p a b f e g = one o a (λ x. p >>= f x) e ∙ one p b (f a) g

pub three : {A B D C : Type 0} (o : Option A) (p : Option B) (q : Option D) (a : A) (b : B) (d : D)
    (f : A → B → D → Option C) → o ≡ Some a → p ≡ Some b → q ≡ Some d →
    (o >>= (λ x. p >>= (λ y. q >>= f x y))) ≡ f a b d
three o p q a b d f e g h = one o a (λ x. p >>= (λ y. q >>= f x y)) e ∙ two p q b d (f a) g h

pub four : {A B D H C : Type 0} (o : Option A) (p : Option B) (q : Option D) (r : Option H)
    (a : A) (b : B) (d : D) (c : H) (f : A → B → D → H → Option C) →
    o ≡ Some a → p ≡ Some b → q ≡ Some d → r ≡ Some c →
    (o >>= (λ x. p >>= (λ y. q >>= (λ z. r >>= f x y z)))) ≡ f a b d c
four o p q r a b d c f e g h i =
    one o a (λ x. p >>= (λ y. q >>= (λ z. r >>= f x y z))) e ∙ three p q r b d c (f a) g h i

-- Numbers.

pub long_natural_read : (n : ℕ) → IsLong n → long_natural (natural n) ≡ Some n
long_natural_read n h =
    if_true (nat_lt n 18446744073709551616) (Some n) None (lt-ltb n 18446744073709551616 h)

pub natural_read : (n : ℕ) → IsNatural n → natural_of (natural n) ≡ Some n
natural_read n h =
    one (long_natural (natural n)) n (λ m. if nat_lt m 4294967296 then Some m else None)
    (long_natural_read n (omega (arith, h)))
    ∙ if_true (nat_lt n 4294967296) (Some n) None (lt-ltb n 4294967296 h)

signed_read : (z : ℤ) → FitsSigned w64 z → as_i64 (of_integer z) ≡ Some z
signed_read (pos n) f =
    let below : n < 2 ^ 63 = omega (arith, ints) in
    if_true (nat_lt n (2 ^ 63)) (Some (pos n)) None (lt-ltb n (2 ^ 63) below)
signed_read (negsuc n) f = refl

long_in_range : (z : ℤ) → FitsSigned w64 z → fits_i64 z ≡ true
long_in_range z f = grind (arith, ints, nat_tests)

pub long_read : (z : ℤ) → FitsSigned w64 z → long_integer (integer z) ≡ Some z
long_read z f =
    one (as_i64 (of_integer z)) z (λ y. if fits_i64 y then Some y else None) (signed_read z f)
    ∙ if_true (fits_i64 z) (Some z) None (long_in_range z f)

fits_long : (z : ℤ) → FitsSigned w32 z → FitsSigned w64 z
fits_long z f = omega (arith, ints)

in_range : (z : ℤ) → FitsSigned w32 z → fits_i32 z ≡ true
in_range z f = grind (arith, ints, nat_tests)

pub integer_read : (z : ℤ) → FitsSigned w32 z → integer_of (integer z) ≡ Some z
integer_read z f =
    one (long_integer (integer z)) z (λ y. if fits_i32 y then Some y else None)
    (long_read z (fits_long z f))
    ∙ if_true (fits_i32 z) (Some z) None (in_range z f)

-- Parts of a list.

natural_here : (i : ℕ) (d : Data) (n : ℕ) → at i d ≡ Some (natural n) → IsNatural n →
    natural_at i d ≡ Some n
natural_here i d n e h = one (at i d) (natural n) natural_of e ∙ natural_read n h

integer_here : (i : ℕ) (d : Data) (z : ℤ) → at i d ≡ Some (integer z) → FitsSigned w32 z →
    integer_at i d ≡ Some z
integer_here i d z e f = one (at i d) (integer z) integer_of e ∙ integer_read z f

variable_here : (i : ℕ) (d : Data) (v : VarId) → at i d ≡ Some (natural v.0) → IsNatural v.0 →
    variable_at i d ≡ Some v
variable_here i d v e h =
    one (natural_at i d) v.0 (λ n. let w : VarId = record { 0 = n } in Some w)
    (natural_here i d v.0 e h)

cond_back : (k : Cond) → cond_of (cond_number k) ≡ Some k
cond_back B = refl
cond_back k = refl

condition_here : (i : ℕ) (d : Data) (k : Cond) → at i d ≡ Some (natural (cond_number k)) →
    condition_at i d ≡ Some k
condition_here i d k e =
    one (natural_at i d) (cond_number k) cond_of
    (natural_here i d (cond_number k) e (omega (arith, cond_small k)))
    ∙ cond_back k

-- Variables and addresses.

pub kind_read : (k : VarKind) → KindFits k → kind_of (kind_data k) ≡ Some k
kind_read (Param i) h = one (natural_at 1 (kind_data (Param i))) i (λ n. Some (Param n))
    (natural_here 1 (kind_data (Param i)) i refl h)
kind_read Plain h = refl
kind_read (Constant c) h = one (integer_at 1 (kind_data (Constant c))) c (λ n. Some (Constant n))
    (integer_here 1 (kind_data (Constant c)) c refl h)

base_back : (b : Base) → base_of (base_name b) (base_number b) ≡ Some b
base_back (Global n) = refl
base_back b = refl

index_back : (o : Option VarId) → IfSome o (λ v. IsNatural v.0) → index_of (index_data o) ≡ Some o
index_back None h = refl
index_back (Some v) h =
    one (natural_of (natural v.0)) v.0 (λ n. let w : VarId = record { 0 = n } in Some (Some w))
    (natural_read v.0 h)

pub address_read : (a : Addr) → AddressFits a → address_of (address_data a) ≡ Some a
address_read a h =
    let d = address_data a in
    let made = λ (b : Base) (o : ℤ) (i : Option VarId).
    let x : Addr = record { base = b; offset = o; index = i } in Some x in
    one (natural_at 1 d) (base_number a.base)
    (λ n. base_of (base_name a.base) n >>= (λ b. integer_at 2 d >>= (λ o.
    index_of (index_data a.index) >>= made b o)))
    (natural_here 1 d (base_number a.base) refl h.0)
    ∙ three (base_of (base_name a.base) (base_number a.base)) (integer_at 2 d)
    (index_of (index_data a.index)) a.base a.offset a.index made
    (base_back a.base) (integer_here 2 d a.offset refl h.1) (index_back a.index h.2)

address_here : (i : ℕ) (d : Data) (a : Addr) → at i d ≡ Some (address_data a) → AddressFits a →
    address_at i d ≡ Some a
address_here i d a e h = one (at i d) (address_data a) address_of e ∙ address_read a h

-- Instructions.

form_back : (f : Form) → form_named (name f) ≡ Some f
form_back form.Set = refl
form_back f = refl

-- what is made of a shift's form is made of its shift
shift_form_made : (op : ShiftOp) (d : Data) → made (shift_form op) d ≡ shift_made op d
shift_form_made op d = elim op as (λ op. made (shift_form op) d ≡ shift_made op d)
    [ Shl ↦ refl | Shr ↦ refl | Sar ↦ refl ]

-- instructions, by what their operands are
abbrev told : List ℕ → List Operand → Data
told w os = row (string w ∷ map operand_data os)

one_variable : (w : List ℕ) (f : VarId → VInstr) (v : VarId) → Each OperandFits (Variable v ∷ []) →
    (variable_at 1 (told w (Variable v ∷ [])) >>= (λ m. Some (f m))) ≡ Some (f v)
one_variable w f v h =
    one _ v (λ m. Some (f m)) (variable_here 1 (told w (Variable v ∷ [])) v refl h.0)

two_variables : (w : List ℕ) (f : VarId → VarId → VInstr) (v s : VarId) →
    Each OperandFits (Variable v ∷ Variable s ∷ []) →
    (variable_at 1 (told w (Variable v ∷ Variable s ∷ [])) >>= (λ m.
    variable_at 2 (told w (Variable v ∷ Variable s ∷ [])) >>= (λ n. Some (f m n)))) ≡ Some (f v s)
two_variables w f v s h =
    let x = told w (Variable v ∷ Variable s ∷ []) in
    two (variable_at 1 x) (variable_at 2 x) v s (λ m n. Some (f m n))
    (variable_here 1 x v refl h.0) (variable_here 2 x s refl h.1.0)

with_number : (w : List ℕ) (f : VarId → ℤ → VInstr) (v : VarId) (z : ℤ) →
    Each OperandFits (Variable v ∷ Number z ∷ []) →
    (variable_at 1 (told w (Variable v ∷ Number z ∷ [])) >>= (λ m.
    integer_at 2 (told w (Variable v ∷ Number z ∷ [])) >>= (λ n. Some (f m n)))) ≡ Some (f v z)
with_number w f v z h =
    let x = told w (Variable v ∷ Number z ∷ []) in
    two (variable_at 1 x) (integer_at 2 x) v z (λ m n. Some (f m n))
    (variable_here 1 x v refl h.0) (integer_here 2 x z refl h.1.0)

with_address : (w : List ℕ) (f : VarId → Addr → VInstr) (v : VarId) (a : Addr) →
    Each OperandFits (Variable v ∷ Address a ∷ []) →
    (variable_at 1 (told w (Variable v ∷ Address a ∷ [])) >>= (λ m.
    address_at 2 (told w (Variable v ∷ Address a ∷ [])) >>= (λ n. Some (f m n)))) ≡ Some (f v a)
with_address w f v a h =
    let x = told w (Variable v ∷ Address a ∷ []) in
    two (variable_at 1 x) (address_at 2 x) v a (λ m n. Some (f m n))
    (variable_here 1 x v refl h.0) (address_here 2 x a refl h.1.0)

made_read : (i : VInstr) → InstructionFits i → made (form_of i) (instruction_data i) ≡ Some i
made_read (instr.Set v c) h = with_number (name form.Set) instr.Set v c h
made_read (instr.Copy v s) h = two_variables (name form.Copy) instr.Copy v s h
made_read (instr.Add v s) h = two_variables (name form.Add) instr.Add v s h
made_read (instr.Sub v s) h = two_variables (name form.Sub) instr.Sub v s h
made_read (instr.And v s) h = two_variables (name form.And) instr.And v s h
made_read (instr.Or v s) h = two_variables (name form.Or) instr.Or v s h
made_read (instr.Xor v s) h = two_variables (name form.Xor) instr.Xor v s h
made_read (instr.Mul v s) h = two_variables (name form.Mul) instr.Mul v s h
made_read (instr.Neg v) h = one_variable (name form.Neg) instr.Neg v h
made_read (instr.Shift op v k) h =
    let x = instruction_data (instr.Shift op v k) in
    shift_form_made op x
    ∙ two (variable_at 1 x) (natural_at 2 x) v k
    (λ m n. Some (instr.Shift op m n))
    (variable_here 1 x v refl h.0)
    (natural_here 2 x k refl h.1.0)
made_read (instr.Cmp a b) h = two_variables (name form.Cmp) instr.Cmp a b h
made_read (instr.CmpSet k v a b) h =
    let x = instruction_data (instr.CmpSet k v a b) in
    four (condition_at 1 x) (variable_at 2 x) (variable_at 3 x) (variable_at 4 x) k v a b
    (λ m n o r. Some (instr.CmpSet m n o r))
    (condition_here 1 x k refl)
    (variable_here 2 x v refl h.1.0)
    (variable_here 3 x a refl h.1.1.0)
    (variable_here 4 x b refl h.1.1.1.0)
made_read (instr.DivMod q r a d) h =
    let x = instruction_data (instr.DivMod q r a d) in
    four (variable_at 1 x) (variable_at 2 x) (variable_at 3 x) (variable_at 4 x) q r a d
    (λ m n o r. Some (instr.DivMod m n o r))
    (variable_here 1 x q refl h.0)
    (variable_here 2 x r refl h.1.0)
    (variable_here 3 x a refl h.1.1.0)
    (variable_here 4 x d refl h.1.1.1.0)
made_read (instr.Check i n) h = with_number (name form.Check) instr.Check i n h
made_read (instr.CheckPos d) h = one_variable (name form.CheckPos) instr.CheckPos d h
made_read (instr.Load v m) h = with_address (name form.Load) instr.Load v m h
made_read (instr.Store m s) h =
    let x = instruction_data (instr.Store m s) in
    two (address_at 1 x) (variable_at 2 x) m s
    (λ m n. Some (instr.Store m n))
    (address_here 1 x m refl h.0)
    (variable_here 2 x s refl h.1.0)
made_read (instr.Addr v m) h = with_address (name form.Addr) instr.Addr v m h
made_read (instr.Push s) h = one_variable (name form.Push) instr.Push s h
made_read (instr.Call p) h =
    let x = instruction_data (instr.Call p) in
    one (natural_at 1 x) p.0
    (λ n. let q : ProcId = record { 0 = n } in Some (instr.Call q))
    (natural_here 1 x p.0 refl h.0)
made_read (instr.Read v) h = one_variable (name form.Read) instr.Read v h
made_read (instr.Write s) h = one_variable (name form.Write) instr.Write s h
made_read i h = refl

pub instruction_read : (i : VInstr) → InstructionFits i →
    instruction_of (instruction_data i) ≡ Some i
instruction_read i h =
    one (form_named (name (form_of i))) (form_of i) (λ f. made f (instruction_data i))
    (form_back (form_of i)) ∙ made_read i h

-- Lists of parts.

pub each_read : {A : Type 0} (f : Data → Option A) (g : A → Data) (P : A → Type 0) →
    ((x : A) → P x → f (g x) ≡ Some x) → (xs : List A) → Each P xs →
    each f (items_of (map g xs)) ≡ Some xs
each_read f g P back [] h = refl
each_read f g P back (x ∷ xs) h =
    two (f (g x)) (each f (items_of (map g xs))) x xs (λ y ys. Some (y ∷ ys)) (back x h.0)
    (each_read f g P back xs h.1)

-- Ends and blocks.

pub end_read : (e : End) → EndFits e → end_of (end_data e) ≡ Some e
end_read (Jump b) h =
    one (natural_at 1 (end_data (Jump b))) b.0
    (λ n. let to : BlockId = record { 0 = n } in Some (Jump to))
    (natural_here 1 (end_data (Jump b)) b.0 refl h)
end_read (Branch k taken other) h =
    let x = end_data (Branch k taken other) in
    three (condition_at 1 x) (natural_at 2 x) (natural_at 3 x) k taken.0 other.0
    (λ c m n. let y : BlockId = record { 0 = m } in
    let z : BlockId = record { 0 = n } in Some (Branch c y z))
    (condition_here 1 x k refl) (natural_here 2 x taken.0 refl h.0)
    (natural_here 3 x other.0 refl h.1)
end_read Return h = refl

pub block_read : (b : Block) → BlockFits b → block_of (block_data b) ≡ Some b
block_read b h =
    let x = block_data b in
    three (natural_at 0 x) (list_of instruction_of (list instruction_data b.code))
    (end_of (end_data b.end)) b.depth b.code b.end
    (λ d c e. let made : Block = record { depth = d; code = c; end = e } in Some made)
    (natural_here 0 x b.depth refl h.0)
    (each_read instruction_of instruction_data InstructionFits instruction_read b.code h.1)
    (end_read b.end h.2)

-- Paths and entries of prices.

place_read : (p : Place) → Unit {0} → place_of (place_data p) ≡ Some p
place_read p h = one (natural_of (natural (number p))) (number p) numbered
    (natural_read (number p) (omega (arith, number_below p))) ∙ numbered-number p

all_units : {A : Type 0} (xs : List A) → Each (λ (x : A). Unit {0}) xs
all_units [] = tt
all_units (x ∷ xs) = (tt, all_units xs)

pub path_read : (ps : List Place) → Unit {0} → path_of (path_data ps) ≡ Some ps
path_read ps h =
    each_read place_of place_data (λ p. Unit {0}) place_read ps (all_units ps)

pub paths_read : (ps : List (List Place)) → list_of path_of (list path_data ps) ≡ Some ps
paths_read ps = each_read path_of path_data (λ p. Unit {0}) path_read ps (all_units ps)

pub cap_read : (c : CapAt) → CapFits c → cap_of (cap_data c) ≡ Some c
cap_read c h =
    two (natural_at 0 (cap_data c)) (long_natural (natural c.price)) c.at c.price
    (λ i n. let made : CapAt = record { at = i; price = n } in Some made)
    (natural_here 0 (cap_data c) c.at refl h.0) (long_natural_read c.price h.1)

pub tie_read : (t : TieAt) → TieFits t → tie_of (tie_data t) ≡ Some t
tie_read t h =
    two (natural_at 0 (tie_data t)) (long_integer (integer t.number)) t.at t.number
    (λ i n. let made : TieAt = record { at = i; number = n } in Some made)
    (natural_here 0 (tie_data t) t.at refl h.0) (long_read t.number h.1)
