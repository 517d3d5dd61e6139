-- What readers take of the tokens of a text, and what they answer.
use Rattle.std.specs.Prelude.{◌≡◌, ◌≤◌, ◌==◌, ◌&&◌, ℕ, suc, ℤ, List, [], ◌∷◌, length, map, Bool, true, false}
use Rattle.std.specs.Prelude.{Option, Some, None, IfSome, Result, Ok, Err, if◌then◌else◌, ◌<◌}
use Rattle.std.specs.Prelude.{slice_index_or, nat_le, codes}
use Rattle.std.specs.Borrow.{Bor}
use Rattle.std.specs.Cmp.Lexicographic.{slice_cmp}
use Rattle.std.specs.List.{list_all}
use Rattle.std.specs.Ordering.{nat_cmp, match_ordering}
use Rattle.json.specs.Token.{Token}
use Rattle.json.specs.Json as json
use Rattle.json.specs.Json.{value, parse_map}
use Rattle.serde_json.specs.Data.{Num, Data, null, number, string, array, object, Items, no_items, item}
use Rattle.serde_json.specs.Data.{Members, no_members, member}
use Rattle.serde_json.specs.Find.{at, is_float, of_integer}
use Rattle.serde_json.specs.Read.{converted, of_json, of_items, of_members}
use Rattle.pra_list.specs.Each.{Each, EachAt}
use Rattle.cert_form.specs.declared.cells.Mark.{Mark}
use Rattle.cert_form.specs.declared.cells.Cell.{Cell}
use Rattle.cert_form.specs.declared.table.Operand.{Operand}
use Rattle.cert_form.specs.declared.table.Operand.TheVariants.{Variable, Number, Condition}
use Rattle.pra_base.specs.declared.code.Addr.{Addr}
use Rattle.pra_base.specs.declared.code.VarKind.{VarKind}
use Rattle.cert_form.specs.declared.certificate.CapAt.{CapAt}
use Rattle.cert_form.specs.declared.certificate.TieAt.{TieAt}
use Rattle.pra_list.specs.Options.{◌>>=◌}
use Rattle.pra_base.specs.declared.ids.VarId.{VarId}
use Rattle.cert_form.specs.Reading.{long_natural, long_integer, index_of, address_of, cap_of}
use Rattle.cert_form.specs.Reading.{tie_of}
use Rattle.pra_base.specs.declared.code.VarKind.TheVariants.{Param, Plain, Constant}
use Rattle.pra_base.specs.declared.code.End.{End}
use Rattle.pra_base.specs.declared.code.End.TheVariants.{Jump, Branch, Return}
use Rattle.cert_form.specs.Form.{integer, row, address_data, operand_data}
use Rattle.cert_form.specs.Whole.{AddressFits, OperandFits, IsReadAs, IsNoJson}
use Rattle.cert_form.specs.declared.figures.Figure.{Figure}
use Rattle.cert_form.specs.declared.figures.Figure.TheVariants.{Integer, Float}
use Rattle.cert_form.specs.declared.passing.Unread.{Unread}
use Rattle.cert_form.specs.declared.passing.Unread.TheVariants.{NotJson, OutOfMemory}

-- a number, as a token writes it
abbrev pub IsFigure : Figure → Num → Type 0
IsFigure (Integer z) n = n ≡ of_integer z
IsFigure Float n = is_float n ≡ true

-- the number that is read of a text, or that there is none
abbrev pub IsFigureOf : Option Num → Option Figure → Type 0
IsFigureOf read None = read ≡ None
IsFigureOf read (Some f) = (n : Num) × (read ≡ Some n) × IsFigure f n

-- The value that tokens begin with, and what is behind it; what is left of a list, behind its
-- bracket or an item; and what is left of an object, with the members before.

unfoldable pub values : ℕ → List Token → Option (Data × List Token)
values depth ts = converted of_json (value depth ts)

unfoldable pub rests : ℕ → List Token → Option (Items × List Token)
rests depth ts = converted of_items (json.items (value depth) (length ts) ts)

unfoldable pub entries : Members → ℕ → List Token → Option (Members × List Token)
entries before depth ts =
    converted (λ ms. of_members ms before) (json.members (value depth) (length ts) ts)

-- What is read, and P of it and of the answer; or that nothing is read. What is behind it is left.
abbrev pub Took : {A D : Type 0} → (A → D → Type 0) → Option (D × List Token) → Result A Unread →
    List Token → Type 0
Took {A} {D} P read (Ok x) left = (d : D) × (read ≡ Some (d, left)) × P x d
Took P read (Err NotJson) left = read ≡ None
Took P read (Err OutOfMemory) left = Unit {0}

abbrev pub IsAny : {A D : Type 0} → A → D → Type 0
IsAny x d = Unit {0}

-- the part that fits of which this is the value, or none where there is no such part
abbrev pub IsAnswer : {A D : Type 0} → (A → D) → (A → Type 0) → Option A → D → Type 0
IsAnswer form fits (Some x) d = (d ≡ form x) × fits x
IsAnswer {A} form fits None d = (x : A) → fits x → d ≡ form x → ⊥

-- the same of a list, of which the items are what is left
abbrev pub IsListAnswer : {A : Type 0} → (A → Data) → (A → Type 0) → Option A → Items → Type 0
IsListAnswer form fits found ds = IsAnswer form fits found (array ds)

-- at most so many parts, each fit for its place
abbrev pub AreFew : {A : Type 0} → (ℕ → A → Type 0) → Option ℕ → List A → Type 0
AreFew fits most xs = EachAt fits xs × IfSome most (λ n. length xs ≤ n)

abbrev pub is_full : Option ℕ → ℕ → Bool
is_full None len = false
is_full (Some most) len = nat_le most len

-- Lists.

-- whether the bracket of a list was taken; else it is another value, and it was passed
abbrev pub BeginsList : ℕ → List Token → Result Bool Unread → List Token → Type 0
BeginsList depth old (Ok true) new = (old ≡ Token.begin_array ∷ new) × (0 < depth)
BeginsList depth old (Ok false) new =
    (d : Data) × (values depth old ≡ Some (d, new)) × ((ds : Items) → d ≡ array ds → ⊥)
BeginsList depth old (Err NotJson) new = values depth old ≡ None
BeginsList depth old (Err OutOfMemory) new = Unit {0}

-- the next item, or none that fits, and then all items were passed
abbrev pub TookItem : {A : Type 0} → (A → Data) → (A → Type 0) → ℕ → List Token →
    Result (Option A) Unread → List Token → Type 0
TookItem form fits depth old (Ok (Some x)) new =
    (rests depth old ≡ parse_map (item (form x)) (rests depth new)) × fits x
TookItem {A} form fits depth old (Ok None) new =
    (ds : Items) × (rests depth old ≡ Some (ds, new))
    × ((x : A) (more : Items) → fits x → ds ≡ item (form x) more → ⊥)
TookItem form fits depth old (Err NotJson) new = rests depth old ≡ None
TookItem form fits depth old (Err OutOfMemory) new = Unit {0}

-- the same of a text
abbrev pub TookWord : ℕ → List Token → Result (Option (Bor (List ℕ))) Unread → List Token → Type 0
TookWord depth old (Ok (Some w)) new =
    rests depth old ≡ parse_map (item (string w.now)) (rests depth new)
TookWord depth old (Ok None) new =
    (ds : Items) × (rests depth old ≡ Some (ds, new))
    × ((w : List ℕ) (more : Items) → ds ≡ item (string w) more → ⊥)
TookWord depth old (Err NotJson) new = rests depth old ≡ None
TookWord depth old (Err OutOfMemory) new = Unit {0}

abbrev pub IsEnd : Bool → Items → Type 0
IsEnd true ds = ds ≡ no_items
IsEnd false ds = ds ≡ no_items → ⊥

-- a text, or none
abbrev pub IsText : Option (Bor (List ℕ)) → Data → Type 0
IsText (Some w) d = d ≡ string w.now
IsText None d = (w : List ℕ) → d ≡ string w → ⊥

-- what a token is, or holds

abbrev pub is_bracket : Token → Bool
is_bracket Token.begin_array = true
is_bracket _ = false

abbrev pub is_brace : Token → Bool
is_brace Token.begin_object = true
is_brace _ = false

abbrev pub is_null : Token → Bool
is_null Token.null = true
is_null _ = false

abbrev pub text_in : Token → Option (List ℕ)
text_in (Token.string s) = Some s
text_in _ = None

abbrev pub number_in : Token → Option (List ℕ)
number_in (Token.number s) = Some s
number_in _ = None

-- the integer that is a number, or that it is none, or that there is no number
abbrev pub IsIntegerTold : Option Num → Result (Option ℤ) Unread → Type 0
IsIntegerTold read (Ok found) =
    (n : Num) × (read ≡ Some n) × IsAnswer integer (λ z. Unit {0}) found (number n)
IsIntegerTold read (Err NotJson) = read ≡ None
IsIntegerTold read (Err OutOfMemory) = Unit {0}

-- Rows: short lists, most of which begin with a word.

abbrev pub mark_data : Mark → Data
mark_data Mark.Null = null
mark_data (Mark.Integer z) = integer z

abbrev pub cell_data : Cell → Data
cell_data (Cell.Integer z) = integer z
cell_data (Cell.Address a) = address_data a

abbrev pub CellFits : Cell → Type 0
CellFits (Cell.Integer z) = Unit {0}
CellFits (Cell.Address a) = AddressFits a

abbrev pub marks_row : List Mark → Data
marks_row ms = row (map mark_data ms)

abbrev pub marked : List ℕ → List Mark → Data
marked w ms = row (string w ∷ map mark_data ms)

abbrev pub long_natural_at : ℕ → Data → Option ℕ
long_natural_at i d = at i d >>= long_natural

abbrev pub long_integer_at : ℕ → Data → Option ℤ
long_integer_at i d = at i d >>= long_integer

abbrev pub index_at : ℕ → Data → Option (Option VarId)
index_at i d = at i d >>= index_of

-- what lists of so many are

abbrev pub address_in : List ℕ → List Mark → Option Addr
address_in w ms = if length ms == 3 then address_of (marked w ms) else None

abbrev pub cap_in : List Mark → Option CapAt
cap_in ms = if length ms == 2 then cap_of (marks_row ms) else None

abbrev pub tie_in : List Mark → Option TieAt
tie_in ms = if length ms == 2 then tie_of (marks_row ms) else None

abbrev pub cells_row : List Cell → Data
cells_row cs = row (map cell_data cs)

abbrev pub worded : List ℕ → List Cell → Data
worded w cs = row (string w ∷ map cell_data cs)

abbrev pub spelled : List ℕ → List Operand → Data
spelled w os = row (string w ∷ map operand_data os)

-- kinds and ends by their words and operands

abbrev pub kind_word : VarKind → List ℕ
kind_word (Param i) = codes "param"
kind_word Plain = codes "plain"
kind_word (Constant c) = codes "constant"

abbrev pub kind_operands : VarKind → List Operand
kind_operands (Param i) = Variable (record { 0 = i }) ∷ []
kind_operands Plain = []
kind_operands (Constant c) = Number c ∷ []

abbrev pub end_word : End → List ℕ
end_word (Jump b) = codes "jump"
end_word (Branch k taken other) = codes "branch"
end_word Return = codes "return"

abbrev pub end_operands : End → List Operand
end_operands (Jump b) = Variable (record { 0 = b.0 }) ∷ []
end_operands (Branch k taken other) =
    Condition k ∷ Variable (record { 0 = taken.0 }) ∷ Variable (record { 0 = other.0 }) ∷ []
end_operands Return = []

-- parts that are rows of a word and operands, and are found again of their values
pub record AreSpelled {A : Type 0} (of : Data → Option A) (form : A → Data) (fits : A → Type 0)
    (word : A → List ℕ) (operands : A → List Operand) : Type 0 where
  pub spells : (x : A) → form x ≡ spelled (word x) (operands x)
  pub few : (x : A) → length (operands x) ≤ 4
  pub fit : (x : A) → fits x → Each OperandFits (operands x)
  pub back : (x : A) → fits x → of (form x) ≡ Some x
  pub found : (d : Data) → IfSome (of d) fits

-- Objects: what stands under each key of a list, by the key's index.

abbrev pub laid_one : List ℕ → Option Data → Members → Members
laid_one k None ms = ms
laid_one k (Some d) ms = member k d ms

-- the members, where the keys stand at n and on
abbrev pub laid : ℕ → List (List ℕ) → (ℕ → Option Data) → Members
laid n [] os = no_members
laid n (k ∷ ks) os = laid_one k (os n) (laid (suc n) ks os)

abbrev pub nothing : ℕ → Option Data
nothing n = None

abbrev pub with_at : ℕ → Data → (ℕ → Option Data) → ℕ → Option Data
with_at i d os n = if n == i then Some d else os n

-- what was found under a key: a part that fits, or nothing of which there is one
abbrev pub IsHeld : {A : Type 0} → (A → Data) → (A → Type 0) → Option A → Option Data → Type 0
IsHeld form fits (Some x) o = (o ≡ Some (form x)) × fits x
IsHeld {A} form fits None o = (x : A) → fits x → o ≡ Some (form x) → ⊥

-- whether all members stand under keys of the list; then what they are is held
abbrev pub AreHeld : {F : Type 0} → List (List ℕ) → (F → (ℕ → Option Data) → Type 0) → F → Bool →
    Members → Type 0
AreHeld keys held fields true ms = (os : ℕ → Option Data) × (ms ≡ laid 0 keys os) × held fields os
AreHeld keys held fields false ms = (os : ℕ → Option Data) → ms ≡ laid 0 keys os → ⊥

-- the same of the object that is a value
abbrev pub IsHeldBy : {F : Type 0} → List (List ℕ) → (F → (ℕ → Option Data) → Type 0) → F → Bool →
    Data → Type 0
IsHeldBy keys held fields true d =
    (os : ℕ → Option Data) × (d ≡ object (laid 0 keys os)) × held fields os
IsHeldBy keys held fields false d = (os : ℕ → Option Data) → d ≡ object (laid 0 keys os) → ⊥

-- whether the brace of an object was taken; else it is another value, and it was passed
abbrev pub BeginsObject : ℕ → List Token → Result Bool Unread → List Token → Type 0
BeginsObject depth old (Ok true) new = (old ≡ Token.begin_object ∷ new) × (0 < depth)
BeginsObject depth old (Ok false) new =
    (d : Data) × (values depth old ≡ Some (d, new)) × ((ms : Members) → d ≡ object ms → ⊥)
BeginsObject depth old (Err NotJson) new = values depth old ≡ None
BeginsObject depth old (Err OutOfMemory) new = Unit {0}

abbrev pub IsPosition : List (List ℕ) → List ℕ → Option ℕ → Type 0
IsPosition keys k None = (i : ℕ) → i < length keys → slice_index_or keys i [] ≡ k → ⊥
IsPosition keys k (Some i) = (i < length keys) × (slice_index_or keys i [] ≡ k)

-- Each key stands before all behind it.

abbrev pub is_before : List ℕ → List ℕ → Bool
is_before k l =
    match_ordering (slice_cmp nat_cmp k l) true false false
    && match_ordering (slice_cmp nat_cmp l k) false false true

abbrev pub ascend : List (List ℕ) → Bool
ascend [] = true
ascend (k ∷ ks) =
    match_ordering (slice_cmp nat_cmp k k) false true false && list_all (is_before k) ks
    && ascend ks

-- Whole texts.

-- the part of which this is the value, if it is read at all
abbrev pub IsPartOf : {A : Type 0} → (A → Data) → (A → Type 0) → Option Data →
    Result (Option A) Unread → Type 0
IsPartOf form fits read (Ok found) = (d : Data) × (read ≡ Some d) × IsAnswer form fits found d
IsPartOf form fits read (Err NotJson) = read ≡ None
IsPartOf form fits read (Err OutOfMemory) = Unit {0}

abbrev pub IsPartRead : {A : Type 0} → (A → Data) → (A → Type 0) → List ℕ →
    Result (Option A) Unread → Type 0
IsPartRead form fits bytes (Ok found) =
    (d : Data) × IsReadAs bytes d × IsAnswer form fits found d
IsPartRead form fits bytes (Err NotJson) = IsNoJson bytes
IsPartRead form fits bytes (Err OutOfMemory) = Unit {0}
