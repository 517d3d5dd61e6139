-- What is read fits: each number is in its type.
use Rattle.std.proofs.Common.{◌≡◌, ℕ, Bool, true, false, List, Option, Some, None, refl, arith}
use Rattle.std.proofs.Common.{nat_lt, codes, bytes_eq}
use Rattle.std.specs.Prelude.{ℤ, if◌then◌else◌, IfSome, FitsSigned}
use Rattle.std.specs.Int.{w32, w64}
use Rattle.std.proofs.lemmas.Bool.{ltb-true}
use Rattle.std.proofs.lemmas.Int.{ints}
use Rattle.std.proofs.lemmas.Bool.Decides.{nat_tests}
use Rattle.serde_json.specs.Data.{Data, null, number}
use Rattle.serde_json.specs.Find.{at, as_number, as_u64, as_i64}
use Rattle.pra_list.specs.Options.{◌>>=◌}
use Rattle.pra_base.specs.declared.ids.VarId.{VarId}
use Rattle.pra_base.specs.declared.ids.ProcId.{ProcId}
use Rattle.pra_base.specs.declared.ids.BlockId.{BlockId}
use Rattle.pra_base.specs.declared.ids.Cond.{Cond}
use Rattle.pra_base.specs.declared.ids.ShiftOp.{ShiftOp}
use Rattle.pra_base.specs.declared.ids.ShiftOp.TheVariants.{Shl, Shr, Sar}
use Rattle.pra_base.specs.declared.code.VarKind.TheVariants.{Param, Plain, Constant}
use Rattle.pra_base.specs.declared.code.Base.{Base}
use Rattle.pra_base.specs.declared.code.Base.TheVariants.{Global, Frame, Cell, Via}
use Rattle.pra_base.specs.declared.code.Addr.{Addr}
use Rattle.pra_base.specs.declared.code.VInstr.{VInstr}
use Rattle.pra_base.specs.declared.code.VInstr.TheVariants as instr
use Rattle.pra_base.specs.declared.code.End.TheVariants.{Jump, Branch, Return}
use Rattle.cert_form.specs.declared.table.Form.{Form}
use Rattle.cert_form.specs.declared.table.Form.TheVariants as form
use Rattle.cert_form.specs.declared.certificate.CapAt.{CapAt}
use Rattle.cert_form.specs.declared.certificate.TieAt.{TieAt}
use Rattle.cert_form.specs.Table.{form_named}
use Rattle.cert_form.specs.Form.{base_number}
use Rattle.cert_form.specs.Reading.{long_natural, natural_of, fits_i64, long_integer, fits_i32}
use Rattle.cert_form.specs.Reading.{integer_of, natural_at, integer_at, variable_at, word_at}
use Rattle.cert_form.specs.Reading.{condition_at, shift_made, kind_named, kind_of, base_of}
use Rattle.cert_form.specs.Reading.{index_of, address_of, address_at, made, instruction_of}
use Rattle.cert_form.specs.Reading.{end_named, end_of, cap_of, tie_of}
use Rattle.cert_form.specs.Whole.{IsNatural, IsLong, KindFits, AddressFits, InstructionFits}
use Rattle.cert_form.specs.Whole.{EndFits, CapFits, TieFits}

-- What is made of parts that fit.

pub guarded : {A : Type 0} (P : A → Type 0) (b : Bool) (o : Option A) →
    (b ≡ true → IfSome o P) → IfSome (if b then o else None) P
guarded P true o h = h refl
guarded P false o h = tt

chosen : {A : Type 0} (P : A → Type 0) (b : Bool) (o p : Option A) → IfSome o P → IfSome p P →
    IfSome (if b then o else p) P
chosen P true o p h k = h
chosen P false o p h k = k

pub of_any : {A B : Type 0} (Q : B → Type 0) (o : Option A) (f : A → Option B) →
    ((x : A) → IfSome (f x) Q) → IfSome (o >>= f) Q
of_any Q (Some x) f h = h x
of_any Q None f h = tt

pub of_fit : {A B : Type 0} (P : A → Type 0) (Q : B → Type 0) (o : Option A) (f : A → Option B) →
    IfSome o P → ((x : A) → P x → IfSome (f x) Q) → IfSome (o >>= f) Q
of_fit P Q (Some x) f h g = g x h
of_fit P Q None f h g = tt

pub of_one : {A B : Type 0} (P : A → Type 0) (Q : B → Type 0) (o : Option A) (f : A → B) →
    IfSome o P → ((x : A) → P x → Q (f x)) → IfSome (o >>= (λ x. Some (f x))) Q
of_one P Q o f h g = of_fit P Q o (λ x. Some (f x)) h g

pub of_two : {A B C : Type 0} (P : A → Type 0) (R : B → Type 0) (Q : C → Type 0) (o : Option A)
    (p : Option B) (f : A → B → C) → IfSome o P → IfSome p R →
    ((x : A) (y : B) → P x → R y → Q (f x y)) →
    IfSome (o >>= (λ x. p >>= (λ y. Some (f x y)))) Q
of_two P R Q o p f h k g =
    of_fit P Q o (λ x. p >>= (λ y. Some (f x y))) h (λ x a. of_one R Q p (f x) k (λ y b. g x y a b))

-- Numbers.

pub long_natural_fits : (d : Data) → IfSome (long_natural d) IsLong
long_natural_fits d =
    of_any IsLong (as_number d >>= as_u64) _ (λ n.
    guarded IsLong _ (Some n) (ltb-true n 18446744073709551616))

pub natural_fits : (d : Data) → IfSome (natural_of d) IsNatural
natural_fits d =
    of_any IsNatural (long_natural d) (λ n. if nat_lt n 4294967296 then Some n else None)
    (λ n. guarded IsNatural (nat_lt n 4294967296) (Some n) (ltb-true n 4294967296))

long_here : (z : ℤ) → fits_i64 z ≡ true → FitsSigned w64 z
long_here z e = grind (arith, ints, nat_tests)

long_integer_fits : (d : Data) → IfSome (long_integer d) (FitsSigned w64)
long_integer_fits d =
    of_any (FitsSigned w64) (as_number d >>= as_i64) (λ z. if fits_i64 z then Some z else None)
    (λ z. guarded (FitsSigned w64) (fits_i64 z) (Some z) (long_here z))

short_here : (z : ℤ) → fits_i32 z ≡ true → FitsSigned w32 z
short_here z e = grind (arith, ints, nat_tests)

integer_fits : (d : Data) → IfSome (integer_of d) (FitsSigned w32)
integer_fits d =
    of_any (FitsSigned w32) (long_integer d) (λ z. if fits_i32 z then Some z else None)
    (λ z. guarded (FitsSigned w32) (fits_i32 z) (Some z) (short_here z))

-- Parts of a list.

natural_at_fits : (i : ℕ) (d : Data) → IfSome (natural_at i d) IsNatural
natural_at_fits i d = of_any IsNatural (at i d) natural_of natural_fits

integer_at_fits : (i : ℕ) (d : Data) → IfSome (integer_at i d) (FitsSigned w32)
integer_at_fits i d = of_any (FitsSigned w32) (at i d) integer_of integer_fits

abbrev IsVariable : VarId → Type 0
IsVariable v = IsNatural v.0

variable_fits : (i : ℕ) (d : Data) → IfSome (variable_at i d) IsVariable
variable_fits i d =
    of_one IsNatural IsVariable (natural_at i d) (λ n. let v : VarId = record { 0 = n } in v)
    (natural_at_fits i d) (λ n h. h)

-- Variables and addresses.

kind_named_fits : (word : List ℕ) (d : Data) → IfSome (kind_named word d) KindFits
kind_named_fits word d =
    let constant = if bytes_eq word (codes "constant")
    then integer_at 1 d >>= (λ c. Some (Constant c)) else None in
    let plain = if bytes_eq word (codes "plain") then Some Plain else constant in
    chosen KindFits (bytes_eq word (codes "param")) (natural_at 1 d >>= (λ i. Some (Param i))) plain
    (of_one IsNatural KindFits (natural_at 1 d) Param (natural_at_fits 1 d) (λ i h. h))
    (chosen KindFits (bytes_eq word (codes "plain")) (Some Plain) constant tt
    (guarded KindFits (bytes_eq word (codes "constant"))
    (integer_at 1 d >>= (λ c. Some (Constant c)))
    (λ e. of_one (FitsSigned w32) KindFits (integer_at 1 d) Constant (integer_at_fits 1 d)
    (λ c h. h))))

pub kind_fits : (d : Data) → IfSome (kind_of d) KindFits
kind_fits d = of_any KindFits (word_at 0 d) (λ w. kind_named w d) (λ w. kind_named_fits w d)

abbrev BaseFits : Base → Type 0
BaseFits b = IsNatural (base_number b)

base_fits : (word : List ℕ) (n : ℕ) → IsNatural n → IfSome (base_of word n) BaseFits
base_fits word n h =
    let v : VarId = record { 0 = n } in
    let via = if bytes_eq word (codes "via") then Some (Via v) else None in
    let cell = if bytes_eq word (codes "cell") then Some (Cell n) else via in
    let frame = if bytes_eq word (codes "frame") then Some (Frame n) else cell in
    chosen BaseFits (bytes_eq word (codes "global")) (Some (Global n)) frame h
    (chosen BaseFits (bytes_eq word (codes "frame")) (Some (Frame n)) cell h
    (chosen BaseFits (bytes_eq word (codes "cell")) (Some (Cell n)) via h
    (guarded BaseFits (bytes_eq word (codes "via")) (Some (Via v)) (λ e. h))))

abbrev IndexFits : Option VarId → Type 0
IndexFits o = IfSome o IsVariable

some_index : (d : Data) → IfSome (natural_of d >>= (λ n.
    let v : VarId = record { 0 = n } in Some (Some v))) IndexFits
some_index d =
    of_one IsNatural IndexFits (natural_of d)
    (λ n. let v : VarId = record { 0 = n } in Some v) (natural_fits d) (λ n h. h)

index_fits : (d : Data) → IfSome (index_of d) IndexFits
index_fits null = tt
index_fits d = some_index d

index_at_fits : (d : Data) → IfSome (at 3 d >>= index_of) IndexFits
index_at_fits d = of_any IndexFits (at 3 d) index_of index_fits

pub address_fits : (d : Data) → IfSome (address_of d) AddressFits
address_fits d =
    of_any AddressFits (word_at 0 d) _ (λ word.
    of_fit IsNatural AddressFits (natural_at 1 d) _ (natural_at_fits 1 d) (λ n h.
    of_fit BaseFits AddressFits (base_of word n) _ (base_fits word n h) (λ b p.
    of_two (FitsSigned w32) IndexFits AddressFits (integer_at 2 d) (at 3 d >>= index_of)
    (λ o i. let a : Addr = record { base = b; offset = o; index = i } in a)
    (integer_at_fits 2 d) (index_at_fits d) (λ o i q r. (p, q, r)))))

address_at_fits : (i : ℕ) (d : Data) → IfSome (address_at i d) AddressFits
address_at_fits i d = of_any AddressFits (at i d) address_of address_fits

-- Instructions.

variable_alone : (d : Data) (f : VarId → VInstr) →
    ((v : VarId) → IsVariable v → InstructionFits (f v)) →
    IfSome (variable_at 1 d >>= (λ v. Some (f v))) InstructionFits
variable_alone d f h = of_one IsVariable InstructionFits (variable_at 1 d) f (variable_fits 1 d) h

two_variables : (d : Data) (f : VarId → VarId → VInstr) →
    ((v s : VarId) → IsVariable v → IsVariable s → InstructionFits (f v s)) →
    IfSome (variable_at 1 d >>= (λ v. variable_at 2 d >>= (λ s. Some (f v s)))) InstructionFits
two_variables d f h =
    of_two IsVariable IsVariable InstructionFits (variable_at 1 d) (variable_at 2 d) f
    (variable_fits 1 d) (variable_fits 2 d) h

with_number : (d : Data) (f : VarId → ℤ → VInstr) →
    ((v : VarId) (z : ℤ) → IsVariable v → FitsSigned w32 z → InstructionFits (f v z)) →
    IfSome (variable_at 1 d >>= (λ v. integer_at 2 d >>= (λ z. Some (f v z)))) InstructionFits
with_number d f h =
    of_two IsVariable (FitsSigned w32) InstructionFits (variable_at 1 d) (integer_at 2 d) f
    (variable_fits 1 d) (integer_at_fits 2 d) h

with_address : (d : Data) (f : VarId → Addr → VInstr) →
    ((v : VarId) (m : Addr) → IsVariable v → AddressFits m → InstructionFits (f v m)) →
    IfSome (variable_at 1 d >>= (λ v. address_at 2 d >>= (λ m. Some (f v m)))) InstructionFits
with_address d f h =
    of_two IsVariable AddressFits InstructionFits (variable_at 1 d) (address_at 2 d) f
    (variable_fits 1 d) (address_at_fits 2 d) h

cmpset_fits : (d : Data) → IfSome (made form.CmpSet d) InstructionFits
cmpset_fits d =
    of_any InstructionFits (condition_at 1 d) _ (λ k.
    of_fit IsVariable InstructionFits (variable_at 2 d) _ (variable_fits 2 d) (λ v h.
    of_two IsVariable IsVariable InstructionFits (variable_at 3 d) (variable_at 4 d)
    (instr.CmpSet k v) (variable_fits 3 d) (variable_fits 4 d)
    (λ a b p q. (tt, (h, (p, (q, tt)))))))

divmod_fits : (x : Data) → IfSome (made form.DivMod x) InstructionFits
divmod_fits x =
    of_fit IsVariable InstructionFits (variable_at 1 x) _ (variable_fits 1 x) (λ q g.
    of_fit IsVariable InstructionFits (variable_at 2 x) _ (variable_fits 2 x) (λ r h.
    of_two IsVariable IsVariable InstructionFits (variable_at 3 x) (variable_at 4 x)
    (instr.DivMod q r) (variable_fits 3 x) (variable_fits 4 x)
    (λ a d k l. (g, (h, (k, (l, tt)))))))

shift_fits : (op : ShiftOp) (d : Data) → IfSome (shift_made op d) InstructionFits
shift_fits op d =
    of_two IsVariable IsNatural InstructionFits (variable_at 1 d) (natural_at 2 d)
    (instr.Shift op) (variable_fits 1 d) (natural_at_fits 2 d) (λ v n h k. (h, (k, tt)))

made_fits : (f : Form) (d : Data) → IfSome (made f d) InstructionFits
made_fits form.Set d = with_number d instr.Set (λ v z h k. (h, (k, tt)))
made_fits form.Copy d = two_variables d instr.Copy (λ v s h k. (h, (k, tt)))
made_fits form.Add d = two_variables d instr.Add (λ v s h k. (h, (k, tt)))
made_fits form.Sub d = two_variables d instr.Sub (λ v s h k. (h, (k, tt)))
made_fits form.And d = two_variables d instr.And (λ v s h k. (h, (k, tt)))
made_fits form.Or d = two_variables d instr.Or (λ v s h k. (h, (k, tt)))
made_fits form.Xor d = two_variables d instr.Xor (λ v s h k. (h, (k, tt)))
made_fits form.Mul d = two_variables d instr.Mul (λ v s h k. (h, (k, tt)))
made_fits form.Neg d = variable_alone d instr.Neg (λ v h. (h, tt))
made_fits form.Shl d = shift_fits Shl d
made_fits form.Shr d = shift_fits Shr d
made_fits form.Sar d = shift_fits Sar d
made_fits form.Cmp d = two_variables d instr.Cmp (λ v s h k. (h, (k, tt)))
made_fits form.CmpSet d = cmpset_fits d
made_fits form.DivMod d = divmod_fits d
made_fits form.Check d = with_number d instr.Check (λ v z h k. (h, (k, tt)))
made_fits form.CheckPos d = variable_alone d instr.CheckPos (λ v h. (h, tt))
made_fits form.Load d = with_address d instr.Load (λ v m h k. (h, (k, tt)))
made_fits form.Store d =
    of_two AddressFits IsVariable InstructionFits (address_at 1 d) (variable_at 2 d) instr.Store
    (address_at_fits 1 d) (variable_fits 2 d) (λ m s h k. (h, (k, tt)))
made_fits form.Addr d = with_address d instr.Addr (λ v m h k. (h, (k, tt)))
made_fits form.Push d = variable_alone d instr.Push (λ v h. (h, tt))
made_fits form.Call d =
    of_one IsNatural InstructionFits (natural_at 1 d)
    (λ n. let p : ProcId = record { 0 = n } in instr.Call p) (natural_at_fits 1 d) (λ n h. (h, tt))
made_fits form.Read d = variable_alone d instr.Read (λ v h. (h, tt))
made_fits form.Write d = variable_alone d instr.Write (λ v h. (h, tt))
made_fits f d = tt

pub instruction_fits : (d : Data) → IfSome (instruction_of d) InstructionFits
instruction_fits d =
    of_any InstructionFits (word_at 0 d) _ (λ word.
    of_any InstructionFits (form_named word) _ (λ f. made_fits f d))

-- Ends.

jump_fits : (d : Data) → IfSome (natural_at 1 d >>= (λ n.
    let b : BlockId = record { 0 = n } in Some (Jump b))) EndFits
jump_fits d =
    of_one IsNatural EndFits (natural_at 1 d) (λ n. let b : BlockId = record { 0 = n } in Jump b)
    (natural_at_fits 1 d) (λ n h. h)

branch_fits : (d : Data) → IfSome (condition_at 1 d >>= (λ k. natural_at 2 d >>= (λ m.
    natural_at 3 d >>= (λ n. let taken : BlockId = record { 0 = m } in
    let other : BlockId = record { 0 = n } in Some (Branch k taken other))))) EndFits
branch_fits d =
    let ended = λ (k : Cond) (m n : ℕ). let taken : BlockId = record { 0 = m } in
    let other : BlockId = record { 0 = n } in Branch k taken other in
    of_any EndFits (condition_at 1 d) (λ k. natural_at 2 d >>= (λ m. natural_at 3 d >>= (λ n.
    Some (ended k m n)))) (λ k. of_two IsNatural IsNatural EndFits (natural_at 2 d)
    (natural_at 3 d) (ended k) (natural_at_fits 2 d) (natural_at_fits 3 d) (λ m n p q. (p, q)))

end_named_fits : (word : List ℕ) (d : Data) → IfSome (end_named word d) EndFits
end_named_fits word d =
    let jump = natural_at 1 d >>= (λ n. let b : BlockId = record { 0 = n } in Some (Jump b)) in
    let branch = condition_at 1 d >>= (λ k. natural_at 2 d >>= (λ m. natural_at 3 d >>= (λ n.
    let taken : BlockId = record { 0 = m } in
    let other : BlockId = record { 0 = n } in Some (Branch k taken other)))) in
    let return = if bytes_eq word (codes "return") then Some Return else None in
    let rest = if bytes_eq word (codes "branch") then branch else return in
    chosen EndFits (bytes_eq word (codes "jump")) jump rest (jump_fits d)
    (chosen EndFits (bytes_eq word (codes "branch")) branch return (branch_fits d)
    (guarded EndFits (bytes_eq word (codes "return")) (Some Return) (λ e. tt)))

pub end_fits : (d : Data) → IfSome (end_of d) EndFits
end_fits d = of_any EndFits (word_at 0 d) (λ w. end_named w d) (λ w. end_named_fits w d)

-- Entries of prices.

pub cap_fits : (d : Data) → IfSome (cap_of d) CapFits
cap_fits d =
    of_two IsNatural IsLong CapFits (natural_at 0 d) (at 1 d >>= long_natural)
    (λ i n. let c : CapAt = record { at = i; price = n } in c) (natural_at_fits 0 d)
    (of_any IsLong (at 1 d) long_natural long_natural_fits) (λ i n h k. (h, k))

pub tie_fits : (d : Data) → IfSome (tie_of d) TieFits
tie_fits d =
    of_two IsNatural (FitsSigned w64) TieFits (natural_at 0 d) (at 1 d >>= long_integer)
    (λ i z. let t : TieAt = record { at = i; number = z } in t) (natural_at_fits 0 d)
    (of_any (FitsSigned w64) (at 1 d) long_integer long_integer_fits) (λ i z h k. (h, k))
