-- Rows of a word: what they are, and what is taken of them.
use Rattle.std.proofs.Common.{◌≡◌, ◌≤◌, ℕ, ℤ, pos, negsuc, zero, suc, List, [], ◌∷◌, map, length}
use Rattle.std.proofs.Common.{Bool, true, false, Option, Some, None, Result, Ok, Err, refl, sym, ap}
use Rattle.std.proofs.Common.{◌∙◌, subst, arith, option_map, not, get_or, ◌<◌}
use Rattle.std.proofs.lemmas.List.{get_or-map}
use Rattle.std.specs.Prelude.{slice_get}
use Rattle.std.specs.Borrow.{Bor}
use Rattle.json.specs.Token.{Token}
use Rattle.json.specs.Json.{parse_map, after_end_array}
use Rattle.serde_json.specs.Data.{Num, Data, null, number, string, array, Items, no_items, item}
use Rattle.serde_json.specs.Find.{get_item, is_float, of_integer}
use Rattle.serde_json.specs.Read.{number_of}
use Rattle.serde_json.specs.View.{items_of}
use Rattle.pra_list.specs.Each.{Each, EachAt}
use Rattle.pra_base.specs.declared.ids.VarId.{VarId}
use Rattle.pra_base.specs.declared.code.Addr.{Addr}
use Rattle.ia_code.specs.DecodeTable.{cond_number}
use Rattle.cert_form.specs.declared.cells.Mark.{Mark}
use Rattle.cert_form.specs.declared.cells.Cell.{Cell}
use Rattle.cert_form.specs.declared.table.Operand.{Operand}
use Rattle.cert_form.specs.declared.table.Operand.TheVariants.{Variable, Number, Address, Condition}
use Rattle.cert_form.specs.declared.table.Operand.TheVariants.{Procedure}
use Rattle.cert_form.specs.declared.passing.Unread.{Unread}
use Rattle.cert_form.specs.declared.passing.Unread.TheVariants.{NotJson, OutOfMemory}
use Rattle.cert_form.specs.Form.{integer, row, list, base_name, base_number, address_data}
use Rattle.cert_form.specs.Form.{operand_data, index_data}
use Rattle.cert_form.specs.Whole.{OperandFits, AddressFits}
use Rattle.cert_form.specs.Streams.{rests, Took, TookWord, IsAnswer, IsListAnswer, AreFew}
use Rattle.cert_form.specs.Streams.{mark_data, cell_data, CellFits, worded, marked, spelled}
use Rattle.cert_form.specs.Streams.{AreSpelled, number_in, text_in, values, IsText, IsIntegerTold}
use Rattle.cert_form.specs.Streams.{IsAny, address_in}
use Rattle.cert_form.proofs.Begun.{begun, no_number, no_text}
use Rattle.cert_form.proofs.Gathered.{first_same, items_in}
use Rattle.cert_form.proofs.RowsTold.{address_answer}
use Rattle.cert_form.proofs.Tooks.{unread}
use Rattle.cert_form.proofs.Turns.{values_number, values_string, rests_over, rests_more, rests_none}
use Rattle.cert_form.proofs.Forms.{of_none, only}

-- the token of a number or of a text

pub number_token : (t : Token) (s : List ℕ) → number_in t ≡ Some s → t ≡ Token.number s
number_token (Token.number k) s e = cc
number_token t s e = absurd (cc)

pub text_token : (t : Token) (s : List ℕ) → text_in t ≡ Some s → t ≡ Token.string s
text_token (Token.string k) s e = cc
text_token t s e = absurd (cc)

whole_number : (z : ℤ) → is_float (of_integer z) ≡ false
whole_number (pos n) = refl
whole_number (negsuc n) = refl

abbrev number_or : Num → Data → Num
number_or n (number m) = m
number_or n _ = n

-- a float is no integer
pub no_integer : (n : Num) → is_float n ≡ true → (z : ℤ) → number n ≡ integer z → ⊥
no_integer n e z f =
    let same : n ≡ of_integer z = ap (number_or n) f in
    cc (sym e ∙ ap is_float same ∙ whole_number z)

-- Rows that are equal have equal parts.

abbrev listed : Items → List Data
listed no_items = []
listed (item d ds) = d ∷ listed ds

listed_back : (ds : List Data) → listed (items_of ds) ≡ ds
listed_back [] = refl
listed_back (d ∷ ds) = ap (λ es. d ∷ es) (listed_back ds)

abbrev parts_of : Data → List Data
parts_of (array ds) = listed ds
parts_of _ = []

pub rows_same : (a b : List Data) → row a ≡ row b → a ≡ b
rows_same a b e = sym (listed_back a) ∙ ap parts_of e ∙ listed_back b

abbrev first_text : List Data → List ℕ
first_text (string s ∷ ds) = s
first_text _ = []

abbrev behind : List Data → List Data
behind [] = []
behind (d ∷ ds) = ds

pub words_same : (w v : List ℕ) (a b : List Data) → row (string w ∷ a) ≡ row (string v ∷ b) → w ≡ v
words_same w v a b e = ap first_text (rows_same (string w ∷ a) (string v ∷ b) e)

pub behind_same : (w v : List ℕ) (a b : List Data) → row (string w ∷ a) ≡ row (string v ∷ b) → a ≡ b
behind_same w v a b e = ap behind (rows_same (string w ∷ a) (string v ∷ b) e)

pub word_and_rest : (w v : List ℕ) (a b : List Data) → w ≡ v → a ≡ b →
    row (string w ∷ a) ≡ row (string v ∷ b)
word_and_rest w v a b e f = λ i. row (string (e i) ∷ f i)

-- Operands as cells.

abbrev cell_of : Operand → Cell
cell_of (Variable v) = Cell.Integer (pos v.0)
cell_of (Number z) = Cell.Integer z
cell_of (Address a) = Cell.Address a
cell_of (Condition k) = Cell.Integer (pos (cond_number k))
cell_of (Procedure p) = Cell.Integer (pos p.0)

cell_is : (o : Operand) → cell_data (cell_of o) ≡ operand_data o
cell_is (Variable v) = refl
cell_is o = refl

cells_are : (os : List Operand) → map cell_data (map cell_of os) ≡ map operand_data os
cells_are [] = refl
cells_are (o ∷ os) = λ i. cell_is o i ∷ cells_are os i

cell_fits : (o : Operand) → OperandFits o → CellFits (cell_of o)
cell_fits (Address a) h = h
cell_fits o h = tt

cells_fit : (os : List Operand) → Each OperandFits os →
    EachAt (λ n c. CellFits c) (map cell_of os)
cells_fit [] h = tt
cells_fit (o ∷ os) h = (cell_fits o h.0, cells_fit os h.1)

as_long : (os : List Operand) → length (map cell_of os) ≡ length os
as_long [] = refl
as_long (o ∷ os) = ap suc (as_long os)

pub each_of_all : (cs : List Cell) → EachAt (λ n c. CellFits c) cs → Each CellFits cs
each_of_all [] h = tt
each_of_all (c ∷ cs) h = (h.0, each_of_all cs h.1)

-- What is told of a row.

abbrev others_in : Data → Items
others_in (array (item d ds)) = ds
others_in _ = no_items

abbrev before : Data → Data → Data
before d (array ds) = array (item d ds)
before d _ = null

-- what is told of the parts behind a word
behind_word : {M : Type 0} (P : Data → Type 0) (w : List ℕ) (ds : Items) (f : M → Data)
    (ms : List M) → array ds ≡ list f ms → P (row (string w ∷ map f ms)) →
    P (array (item (string w) ds))
behind_word P w ds f ms e h = subst P (sym (ap (before (string w)) e)) h

module _ {A : Type 0} (of : Data → Option A) (form : A → Data) (fits : A → Type 0)
    (word : A → List ℕ) (operands : A → List Operand)
    (s : AreSpelled of form fits word operands) where
  pub not_found : (d : Data) → of d ≡ None → IsAnswer form fits None d
  not_found d e = of_none fits form of s.back d e

  pub found_same : (d : Data) (x : A) → of d ≡ Some x → d ≡ spelled (word x) (operands x) →
      IsAnswer form fits (Some x) d
  found_same d x e f =
      (f ∙ sym (s.spells x), rw e at (s.found d))

  pub found_other : (d : Data) (x : A) → of d ≡ Some x →
      (d ≡ spelled (word x) (operands x) → ⊥) → IsAnswer form fits None d
  found_other d x e other y h f =
      other (f ∙ ap form (only fits form of s.back d x e y h f) ∙ s.spells x)

  -- the row has no word
  pub no_word : (ds : Items) → ((w : List ℕ) (more : Items) → ds ≡ item (string w) more → ⊥) →
      IsListAnswer form fits None ds
  no_word ds none x h e =
      none (word x) (items_of (map operand_data (operands x)))
      (ap items_in (e ∙ s.spells x))

  -- what stands behind its word are no few cells
  pub no_cells : (w : List ℕ) (ds : Items) →
      IsListAnswer (list cell_data) (AreFew (λ n c. CellFits c) (Some 4)) None ds →
      IsListAnswer form fits None (item (string w) ds)
  no_cells w ds none x h e =
      let os = operands x in
      let fit : EachAt (λ n c. CellFits c) (map cell_of os) = cells_fit os (s.fit x h) in
      let few : length (map cell_of os) ≤ 4 = subst (λ n. n ≤ 4) (sym (as_long os)) (s.few x) in
      none (map cell_of os) (fit, few)
      (ap (λ d. array (others_in d)) (e ∙ s.spells x) ∙ ap row (sym (cells_are os)))

-- Addresses.

abbrev index_mark : Option VarId → Mark
index_mark None = Mark.Null
index_mark (Some v) = Mark.Integer (pos v.0)

index_is : (o : Option VarId) → mark_data (index_mark o) ≡ index_data o
index_is None = refl
index_is (Some v) = refl

abbrev address_marks : Addr → List Mark
address_marks a =
    Mark.Integer (pos (base_number a.base)) ∷ Mark.Integer a.offset ∷ index_mark a.index ∷ []

address_is : (a : Addr) → marked (base_name a.base) (address_marks a) ≡ address_data a
address_is a =
    ap (λ d. row (string (base_name a.base) ∷ integer (pos (base_number a.base))
    ∷ integer a.offset ∷ d ∷ [])) (index_is a.index)

pub no_address_word : (ds : Items) →
    ((w : List ℕ) (more : Items) → ds ≡ item (string w) more → ⊥) →
    IsListAnswer address_data AddressFits None ds
no_address_word ds none a h e = none (base_name a.base) _ (ap items_in e)

pub no_marks : (w : List ℕ) (ds : Items) →
    IsListAnswer (list mark_data) (AreFew (λ n m. Unit {0}) (Some 3)) None ds →
    IsListAnswer address_data AddressFits None (item (string w) ds)
no_marks w ds none a h e =
    none (address_marks a) ((tt, (tt, (tt, tt))), omega arith)
    (ap (λ d. array (others_in d)) (e ∙ sym (address_is a)))

-- What is left of a list, from its word on.

pub after_word : {A : Type 0} (P : A → Items → Type 0) (depth : ℕ) (old mid left : List Token)
    (w : List ℕ) (ds : Items) (found : A) →
    rests depth old ≡ parse_map (item (string w)) (rests depth mid) →
    rests depth mid ≡ Some (ds, left) → P found (item (string w) ds) →
    Took P (rests depth old) (Ok found) left
after_word P depth old mid left w ds found first e h =
    (item (string w) ds, first ∙ ap (parse_map (item (string w))) e, h)

pub word_failed : {A : Type 0} (P : A → Items → Type 0) (depth : ℕ) (old rest left : List Token)
    (e : Unread) (r : Result A Unread) → r ≡ Err e → TookWord depth old (Err e) rest →
    Took P (rests depth old) r left
word_failed P depth old rest left e r is h =
    unread (λ x. Took P (rests depth old) x left) e r is
    (λ k. subst (λ x. TookWord depth old (Err x) rest) k h) tt

-- What the token of a number is read as.

pub number_taken : (depth : ℕ) (t : Token) (s : List ℕ) (ts : List Token)
    (r : Result (Option ℤ) Unread) → number_in t ≡ Some s → IsIntegerTold (number_of s) r →
    Took (IsAnswer integer (λ z. Unit {0})) (values depth (t ∷ ts)) r ts
number_taken depth t s ts (Ok found) is h = (
  number h.0,
  ap (λ k. values depth (k ∷ ts)) (number_token t s is)
      ∙ values_number depth s ts (Some h.0) h.1,
  h.2,
)
number_taken depth t s ts (Err NotJson) is h =
    ap (λ k. values depth (k ∷ ts)) (number_token t s is) ∙ values_number depth s ts None h
number_taken depth t s ts (Err OutOfMemory) is h = tt

pub no_number_taken : (depth : ℕ) (t : Token) (ts left : List Token) (d : Data) →
    number_in t ≡ None → values depth (t ∷ ts) ≡ Some (d, left) →
    Took (IsAnswer integer (λ z. Unit {0})) (values depth (t ∷ ts)) (Ok None) left
no_number_taken depth t ts left d none e =
    (d, e, λ z h f. no_number t d none (begun depth t ts left d e) (of_integer z) f)

-- a text, or that it is none
pub text_taken : (depth : ℕ) (t : Token) (ts old : List Token) (w : Bor (List ℕ)) →
    old ≡ t ∷ ts → text_in t ≡ Some w.now →
    Took IsText (values depth old) (Ok (Some w)) ts
text_taken depth t ts old w first is = (
  string w.now,
  ap (values depth) (first ∙ ap (λ k. k ∷ ts) (text_token t w.now is))
      ∙ values_string depth w.now ts,
  refl,
)

pub no_text_taken : (depth : ℕ) (t : Token) (ts old left : List Token) (d : Data) →
    old ≡ t ∷ ts → text_in t ≡ None → values depth (t ∷ ts) ≡ Some (d, left) →
    Took IsText (values depth old) (Ok None) left
no_text_taken depth t ts old left d first none e =
    (d, ap (values depth) first ∙ e, no_text t d none (begun depth t ts left d e))

-- The first word of what is left of a list.

module _ (depth : ℕ) (ts : List Token) where
  pub no_first : (r : List Token) → after_end_array ts ≡ Some r → TookWord depth ts (Ok None) r
  no_first r e = (no_items, rests_over depth ts r e, λ w more f. cc)

  module _ (now : List Token) (going : (after_end_array ts ≡ None) × (now ≡ ts)) where
    pub first_taken : (d : Data) (r : List Token) (w : Bor (List ℕ))
        (found : Option (Bor (List ℕ))) → found ≡ Some w →
        values depth now ≡ Some (d, r) → IsText found d → TookWord depth ts (Ok (Some w)) r
    first_taken d r w found is e h =
        rests_more depth ts d r going.0 (ap (values depth) (sym going.1) ∙ e)
        ∙ ap (λ k. parse_map (item k) (rests depth r)) (rw is at h)

    pub other_first : (d : Data) (r s : List Token) (ds : Items) (found : Option (Bor (List ℕ))) →
        found ≡ None → values depth now ≡ Some (d, r) → IsText found d →
        rests depth r ≡ Some (ds, s) → TookWord depth ts (Ok None) s
    other_first d r s ds found is e h more = (
      item d ds,
      rests_more depth ts d r going.0 (ap (values depth) (sym going.1) ∙ e)
          ∙ ap (parse_map (item d)) more,
      λ w others f. (rw is at h) w (first_same d (string w) ds others f),
    )

    pub word_not_read : (e : Unread) (r : Result (Option (Bor (List ℕ))) Unread)
        (left rest : List Token) → r ≡ Err e → Took IsText (values depth now) (Err e) rest →
        TookWord depth ts r left
    word_not_read e r left rest is h =
        unread (λ x. TookWord depth ts x left) e r is (λ k. rests_none depth ts going.0
        (ap (values depth) (sym going.1)
        ∙ subst (λ x. Took IsText (values depth now) (Err x) rest) k h)) tt

    pub rest_not_read : (d : Data) (m : List Token) (e : Unread)
        (r : Result (Option (Bor (List ℕ))) Unread) (left rest : List Token) →
        values depth now ≡ Some (d, m) → r ≡ Err e →
        Took {A = Unit {0}} IsAny (rests depth m) (Err e) rest → TookWord depth ts r left
    rest_not_read d m e r left rest read is h =
        unread (λ x. TookWord depth ts x left) e r is (λ k.
        rests_more depth ts d m going.0 (ap (values depth) (sym going.1) ∙ read)
        ∙ ap (parse_map (item d))
        (subst (λ x. Took {A = Unit {0}} IsAny (rests depth m) (Err x) rest) k h)) tt

-- What an item of a row is.

pub items_get : {A : Type 0} (f : A → Data) (xs : List A) (i : ℕ) →
    option_map f (slice_get xs i) ≡ get_item i (items_of (map f xs))
items_get f [] i = refl
items_get f (x ∷ xs) zero = refl
items_get f (x ∷ xs) (suc i) = items_get f xs i

-- Addresses: what is told of the word and of the marks behind it.

pub address_told : (depth : ℕ) (old mid left : List Token) (word : Option (Bor (List ℕ)))
    (w : Bor (List ℕ)) (marks : Option (List Mark)) (ms : List Mark) (found : Option Addr) →
    word ≡ Some w → TookWord depth old (Ok word) mid → marks ≡ Some ms →
    Took (IsListAnswer (list mark_data) (AreFew (λ n m. Unit {0}) (Some 3))) (rests depth mid)
    (Ok marks) left → found ≡ address_in w.now ms →
    Took (IsListAnswer address_data AddressFits) (rests depth old) (Ok found) left
address_told depth old mid left word w marks ms found is h are k same =
    after_word (IsListAnswer address_data AddressFits) depth old mid left w.now k.0 found
    (rw is at h) k.1 (behind_word (IsAnswer address_data AddressFits found) w.now k.0 mark_data ms
    (rw are at k.2).0 (rw same (address_answer w.now ms)))

pub no_address_told : (depth : ℕ) (old mid left : List Token) (word : Option (Bor (List ℕ)))
    (w : Bor (List ℕ)) (marks : Option (List Mark)) → word ≡ Some w →
    TookWord depth old (Ok word) mid → marks ≡ None →
    Took (IsListAnswer (list mark_data) (AreFew (λ n m. Unit {0}) (Some 3))) (rests depth mid)
    (Ok marks) left → Took (IsListAnswer address_data AddressFits) (rests depth old) (Ok None) left
no_address_told depth old mid left word w marks is h none k =
    after_word (IsListAnswer address_data AddressFits) depth old mid left w.now k.0 None
    (rw is at h) k.1 (no_marks w.now k.0 (rw none at k.2))

-- the same of a part that is a word and cells

module _ {A : Type 0} (of : Data → Option A) (form : A → Data) (fits : A → Type 0)
    (word : A → List ℕ) (operands : A → List Operand)
    (s : AreSpelled of form fits word operands) (depth : ℕ) (old mid left : List Token)
    (said : Option (Bor (List ℕ))) (w : Bor (List ℕ)) (is : said ≡ Some w)
    (h : TookWord depth old (Ok said) mid) (cells : Option (List Cell))
    (k : Took (IsListAnswer (list cell_data) (AreFew (λ n c. CellFits c) (Some 4)))
    (rests depth mid) (Ok cells) left) where
  first : rests depth old ≡ parse_map (item (string w.now)) (rests depth mid)
  first = rw is at h

  pub cells_fit_all : (cs : List Cell) → cells ≡ Some cs → Each CellFits cs
  cells_fit_all cs are = each_of_all cs (rw are at k.2).1.0

  pub part_told : (cs : List Cell) (found : Option A) → cells ≡ Some cs →
      IsAnswer form fits found (worded w.now cs) →
      Took (IsListAnswer form fits) (rests depth old) (Ok found) left
  part_told cs found are answer =
      after_word (IsListAnswer form fits) depth old mid left w.now k.0 found first k.1
      (behind_word (IsAnswer form fits found) w.now k.0 cell_data cs (rw are at k.2).0 answer)

  pub no_part_told : cells ≡ None →
      Took (IsListAnswer form fits) (rests depth old) (Ok None) left
  no_part_told none =
      after_word (IsListAnswer form fits) depth old mid left w.now k.0 None first k.1
      (no_cells of form fits word operands s w.now k.0 (rw none at k.2))

-- Rows that are compared.

pub agrees : (b : Bool) → false ≡ not b → b ≡ true
agrees true h = refl
agrees false h = h

pub same_at : {X Y : Type 0} (f : X → Data) (g : Y → Data) (xs : List X) (ys : List Y) (i : ℕ)
    (d : X) (e : Y) → map f xs ≡ map g ys → i < length xs → i < length ys →
    f (get_or xs i d) ≡ g (get_or ys i e)
same_at f g xs ys i d e same h k =
    sym (get_or-map f xs i d null h) ∙ ap (λ l. get_or l i null) same ∙ get_or-map g ys i e null k
