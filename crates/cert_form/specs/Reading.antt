-- The one certificate that a value can be of. Keys and items that a certificate does not have are
-- passed over: that a value has nothing else is told where its parts are read (`Streams`).
use Rattle.std.specs.Prelude.{ℕ, suc, ℤ, pos, neg_ℤ, Bool, ◌&&◌, nat_lt, int_le, if◌then◌else◌}
use Rattle.std.specs.Prelude.{List, [], ◌∷◌, Option, Some, None, codes}
use Rattle.std.specs.Str.{bytes_eq}
use Rattle.serde_json.specs.Data.{Data, Items, no_items, item}
use Rattle.serde_json.specs.Find.{get, at, as_number, as_str, as_array, as_u64, as_i64}
use Rattle.pra_base.specs.declared.ids.VarId.{VarId}
use Rattle.pra_base.specs.declared.ids.Place.{Place}
use Rattle.pra_base.specs.declared.ids.Cond.{Cond}
use Rattle.pra_base.specs.declared.ids.ShiftOp.{ShiftOp}
use Rattle.pra_base.specs.declared.ids.ShiftOp.TheVariants.{Shl, Shr, Sar}
use Rattle.pra_base.specs.declared.code.VarKind.{VarKind}
use Rattle.pra_base.specs.declared.code.VarKind.TheVariants.{Param, Plain, Constant}
use Rattle.pra_base.specs.declared.code.Base.{Base}
use Rattle.pra_base.specs.declared.code.Base.TheVariants.{Global, Frame, Cell, Via}
use Rattle.pra_base.specs.declared.code.Addr.{Addr}
use Rattle.pra_base.specs.declared.code.VInstr.{VInstr}
use Rattle.pra_base.specs.declared.code.VInstr.TheVariants as instr
use Rattle.pra_base.specs.declared.code.End.{End}
use Rattle.pra_base.specs.declared.code.End.TheVariants.{Jump, Branch, Return}
use Rattle.pra_base.specs.declared.code.Block.{Block}
use Rattle.pra_base.specs.declared.code.VProc.{VProc}
use Rattle.pra_base.specs.Places as places
use Rattle.ia_code.specs.Reading.{cond_of}
use Rattle.pra_list.specs.Options.{◌>>=◌}
use Rattle.cert_form.specs.declared.table.Form.{Form}
use Rattle.cert_form.specs.declared.table.Form.TheVariants as form
use Rattle.cert_form.specs.declared.certificate.CostWord.{CostWord}
use Rattle.cert_form.specs.declared.certificate.CostWord.TheVariants.{Size, Speed}
use Rattle.cert_form.specs.declared.certificate.CapAt.{CapAt}
use Rattle.cert_form.specs.declared.certificate.TieAt.{TieAt}
use Rattle.cert_form.specs.declared.certificate.Cert.{Cert}
use Rattle.cert_form.specs.declared.certificate.Certificate.{Certificate}
use Rattle.cert_form.specs.Table.{form_named}

-- Numbers of each type: of 64 and 32 bits, without and with a sign.

abbrev pub long_natural : Data → Option ℕ
long_natural d = do
  n ← as_number d >>= as_u64
  if nat_lt n 18446744073709551616 then Some n else None

abbrev pub natural_of : Data → Option ℕ
natural_of d = do
  n ← long_natural d
  if nat_lt n 4294967296 then Some n else None

abbrev pub fits_i64 : ℤ → Bool
fits_i64 z = int_le (neg_ℤ (pos 9223372036854775808)) z && int_le z (pos 9223372036854775807)

abbrev pub long_integer : Data → Option ℤ
long_integer d = do
  z ← as_number d >>= as_i64
  if fits_i64 z then Some z else None

abbrev pub fits_i32 : ℤ → Bool
fits_i32 z = int_le (neg_ℤ (pos 2147483648)) z && int_le z (pos 2147483647)

abbrev pub integer_of : Data → Option ℤ
integer_of d = do
  z ← long_integer d
  if fits_i32 z then Some z else None

-- The same of an item of a list, by its index.

abbrev pub natural_at : ℕ → Data → Option ℕ
natural_at i d = at i d >>= natural_of

abbrev pub integer_at : ℕ → Data → Option ℤ
integer_at i d = at i d >>= integer_of

abbrev pub variable_at : ℕ → Data → Option VarId
variable_at i d = do
  n ← natural_at i d
  Some (record { 0 = n })

abbrev pub word_at : ℕ → Data → Option (List ℕ)
word_at i d = at i d >>= as_str

abbrev pub condition_at : ℕ → Data → Option Cond
condition_at i d = natural_at i d >>= cond_of

-- Lists of parts of one kind.

abbrev pub each : {A : Type 0} → (Data → Option A) → Items → Option (List A)
each f no_items = Some []
each f (item d ds) = do
  x ← f d
  xs ← each f ds
  Some (x ∷ xs)

abbrev pub list_of : {A : Type 0} → (Data → Option A) → Data → Option (List A)
list_of f d = as_array d >>= each f

-- What stands under a key of an object.

abbrev pub natural_under : List ℕ → Data → Option ℕ
natural_under key d = get key d >>= natural_of

abbrev pub long_under : List ℕ → Data → Option ℕ
long_under key d = get key d >>= long_natural

abbrev pub list_under : {A : Type 0} → (Data → Option A) → List ℕ → Data → Option (List A)
list_under f key d = get key d >>= list_of f

-- Variables.

abbrev pub kind_named : List ℕ → Data → Option VarKind
kind_named word d =
    if bytes_eq word (codes "param") then (do
      i ← natural_at 1 d
      Some (Param i))
    else if bytes_eq word (codes "plain") then Some Plain
    else if bytes_eq word (codes "constant") then (do
      c ← integer_at 1 d
      Some (Constant c))
    else None

abbrev pub kind_of : Data → Option VarKind
kind_of d = do
  word ← word_at 0 d
  kind_named word d

-- Addresses.

abbrev pub base_of : List ℕ → ℕ → Option Base
base_of word n =
    if bytes_eq word (codes "global") then Some (Global n)
    else if bytes_eq word (codes "frame") then Some (Frame n)
    else if bytes_eq word (codes "cell") then Some (Cell n)
    else if bytes_eq word (codes "via") then Some (Via (record { 0 = n }))
    else None

abbrev pub index_of : Data → Option (Option VarId)
index_of Data.null = Some None
index_of d = do
  n ← natural_of d
  Some (Some (record { 0 = n }))

abbrev pub address_of : Data → Option Addr
address_of d = do
  word ← word_at 0 d
  n ← natural_at 1 d
  base ← base_of word n
  offset ← integer_at 2 d
  index ← at 3 d >>= index_of
  Some (record { base = base; offset = offset; index = index })

abbrev pub address_at : ℕ → Data → Option Addr
address_at i d = at i d >>= address_of

-- a shift: its variable, and by how many bits
abbrev pub shift_made : ShiftOp → Data → Option VInstr
shift_made op d = do
  v ← variable_at 1 d
  n ← natural_at 2 d
  Some (instr.Shift op v n)

-- Instructions: what is made of a name and the list that begins with it.
abbrev pub made : Form → Data → Option VInstr
made form.Set d = do
  v ← variable_at 1 d
  c ← integer_at 2 d
  Some (instr.Set v c)
made form.Copy d = do
  v ← variable_at 1 d
  s ← variable_at 2 d
  Some (instr.Copy v s)
made form.Add d = do
  v ← variable_at 1 d
  s ← variable_at 2 d
  Some (instr.Add v s)
made form.Sub d = do
  v ← variable_at 1 d
  s ← variable_at 2 d
  Some (instr.Sub v s)
made form.And d = do
  v ← variable_at 1 d
  s ← variable_at 2 d
  Some (instr.And v s)
made form.Or d = do
  v ← variable_at 1 d
  s ← variable_at 2 d
  Some (instr.Or v s)
made form.Xor d = do
  v ← variable_at 1 d
  s ← variable_at 2 d
  Some (instr.Xor v s)
made form.Mul d = do
  v ← variable_at 1 d
  s ← variable_at 2 d
  Some (instr.Mul v s)
made form.Neg d = do
  v ← variable_at 1 d
  Some (instr.Neg v)
made form.Shl d = shift_made Shl d
made form.Shr d = shift_made Shr d
made form.Sar d = shift_made Sar d
made form.Cmp d = do
  a ← variable_at 1 d
  b ← variable_at 2 d
  Some (instr.Cmp a b)
made form.CmpSet d = do
  k ← condition_at 1 d
  v ← variable_at 2 d
  a ← variable_at 3 d
  b ← variable_at 4 d
  Some (instr.CmpSet k v a b)
made form.DivMod d = do
  q ← variable_at 1 d
  r ← variable_at 2 d
  a ← variable_at 3 d
  d ← variable_at 4 d
  Some (instr.DivMod q r a d)
made form.Check d = do
  i ← variable_at 1 d
  n ← integer_at 2 d
  Some (instr.Check i n)
made form.CheckPos d = do
  d ← variable_at 1 d
  Some (instr.CheckPos d)
made form.Load d = do
  v ← variable_at 1 d
  m ← address_at 2 d
  Some (instr.Load v m)
made form.Store d = do
  m ← address_at 1 d
  s ← variable_at 2 d
  Some (instr.Store m s)
made form.Addr d = do
  v ← variable_at 1 d
  m ← address_at 2 d
  Some (instr.Addr v m)
made form.Push d = do
  s ← variable_at 1 d
  Some (instr.Push s)
made form.Call d = do
  p ← natural_at 1 d
  Some (instr.Call (record { 0 = p }))
made form.Read d = do
  v ← variable_at 1 d
  Some (instr.Read v)
made form.Write d = do
  s ← variable_at 1 d
  Some (instr.Write s)
made form.Line d = Some instr.Line
made form.Clear d = Some instr.Clear

abbrev pub instruction_of : Data → Option VInstr
instruction_of d = do
  word ← word_at 0 d
  f ← form_named word
  made f d

-- Ends and blocks.

abbrev pub end_named : List ℕ → Data → Option End
end_named word d =
    if bytes_eq word (codes "jump") then (do
      b ← natural_at 1 d
      Some (Jump (record { 0 = b })))
    else if bytes_eq word (codes "branch") then (do
      k ← condition_at 1 d
      taken ← natural_at 2 d
      other ← natural_at 3 d
      Some (Branch k (record { 0 = taken }) (record { 0 = other })))
    else if bytes_eq word (codes "return") then Some Return
    else None

abbrev pub end_of : Data → Option End
end_of d = do
  word ← word_at 0 d
  end_named word d

abbrev pub block_of : Data → Option Block
block_of d = do
  depth ← natural_at 0 d
  code ← at 1 d >>= list_of instruction_of
  end ← at 2 d >>= end_of
  Some (record { depth = depth; code = code; end = end })

-- Paths and entries of prices.

abbrev pub place_of : Data → Option Place
place_of d = natural_of d >>= places.numbered

abbrev pub path_of : Data → Option (List Place)
path_of = list_of place_of

abbrev pub cap_of : Data → Option CapAt
cap_of d = do
  i ← natural_at 0 d
  price ← at 1 d >>= long_natural
  Some (record { at = i; price = price })

abbrev pub tie_of : Data → Option TieAt
tie_of d = do
  i ← natural_at 0 d
  number ← at 1 d >>= long_integer
  Some (record { at = i; number = number })

-- The code and the whole of a procedure of this number.

abbrev pub code_of : ℕ → Data → Option VProc
code_of n d = do
  aggregates ← natural_under (codes "aggregates") d
  args ← natural_under (codes "args") d
  vars ← list_under kind_of (codes "vars") d
  blocks ← list_under block_of (codes "blocks") d
  Some (record {
    id = record { 0 = n };
    args = args;
    aggregates = aggregates;
    vars = vars;
    blocks = blocks;
  })

abbrev pub cert_of : ℕ → Data → Option Cert
cert_of n d = do
  code ← code_of n d
  places ← list_under path_of (codes "routes") d
  caps ← list_under cap_of (codes "caps") d
  mems ← list_under cap_of (codes "mems") d
  ties ← list_under tie_of (codes "ties") d
  total ← long_under (codes "total") d
  bound ← long_under (codes "bound") d
  Some (record {
    code = code;
    routes = record { places = places };
    caps = caps;
    mems = mems;
    ties = ties;
    total = total;
    bound = bound;
  })

-- Parts of one kind, numbered from n on. A number is one of 32 bits.

abbrev pub numbered : {A : Type 0} → (ℕ → Data → Option A) → ℕ → Data → Option A
numbered f n d = if nat_lt n 4294967296 then f n d else None

abbrev pub each_numbered : {A : Type 0} → (ℕ → Data → Option A) → ℕ → Items → Option (List A)
each_numbered f n no_items = Some []
each_numbered f n (item d ds) = do
  x ← numbered f n d
  xs ← each_numbered f (suc n) ds
  Some (x ∷ xs)

-- The procedures of a certificate or of a code file.
abbrev pub procs_of : {A : Type 0} → (ℕ → Data → Option A) → Data → Option (List A)
procs_of f d = get (codes "procs") d >>= as_array >>= each_numbered f 0

abbrev pub cost_word_of : List ℕ → Option CostWord
cost_word_of word =
    if bytes_eq word (codes "size") then Some Size
    else if bytes_eq word (codes "speed") then Some Speed
    else None

abbrev pub cost_word_at : Data → Option CostWord
cost_word_at d = do
  word ← get (codes "cost") d >>= as_str
  cost_word_of word

abbrev pub certificate_of : Data → Option Certificate
certificate_of d = do
  cost ← cost_word_at d
  procs ← procs_of cert_of d
  Some (record { cost = cost; procs = procs })
