-- Constants and types, production by production.
use Rattle.std.proofs.Common.{◌≡◌, ℕ, ◌+◌, ◌<◌, ◌≤◌, ◌⊎◌, inl, inr, Bool, true, false, List, []}
use Rattle.std.proofs.Common.{◌∷◌, ◌++◌, map, Some, None, refl, ap, sym, subst, ◌∙◌, arith}
use Rattle.std.specs.Prelude.{pos, Ok, Err, nat_abs, int_lt, bytes_eq, if◌then◌else◌}
use Rattle.std.specs.List.{list_any}
use Rattle.ob_syntax.specs.declared.checked.Meaning.{Meaning}
use Rattle.ob_syntax.specs.declared.checked.Meaning.TheVariants.{TypeName}
use Rattle.ob_syntax.specs.declared.checked.Shape.TheVariants.{Array, Record}
use Rattle.ob_syntax.specs.declared.checked.Value.{Value}
use Rattle.ob_syntax.specs.declared.checked.Value.TheVariants.{Number, Truth}
use Rattle.ob_syntax.specs.declared.tree.Expr.{Expr, out-Expr}
use Rattle.ob_syntax.specs.declared.tree.NameList.{NameList, out-NameList, roll-NameList}
use Rattle.ob_syntax.specs.declared.tree.NameList.{out-roll-NameList, fold_out-NameList}
use Rattle.ob_syntax.specs.declared.tree.Span.{Span}
use Rattle.ob_syntax.specs.declared.tree.TypeExpr.{TypeExpr, out-TypeExpr, roll-TypeExpr}
use Rattle.ob_syntax.specs.declared.tree.TypeExpr.{out-roll-TypeExpr, fold-roll-TypeExpr}
use Rattle.ob_syntax.specs.declared.tree.TypeForm.{TypeForm, TypeForm-F, out-TypeForm}
use Rattle.ob_syntax.specs.declared.tree.TypeForm.{out-roll-TypeForm, fold-TypeForm}
use Rattle.ob_syntax.specs.declared.tree.TypeForm.{roll-TypeForm, fold-roll-TypeForm}
use Rattle.ob_syntax.specs.declared.tree.TypeForm.TheVariants as form_is
use Rattle.ob_syntax.specs.Expressions.{expression}
use Rattle.ob_syntax.specs.Names.{Fault, Place, used, name_at}
use Rattle.ob_syntax.specs.Source.{Name}
use Rattle.ob_syntax.specs.Types.{Worth, worth, constant_of, constant, length_of, array_length}
use Rattle.ob_syntax.specs.Types.{Shaped, with_type, with_length, named_type, with_fields}
use Rattle.ob_syntax.specs.Types.{with_types, Fields, FieldsAfter, all_fields, type_form}
use Rattle.ob_syntax.specs.Types.{field_list, type_step, type_expression, fields_of}
use Rattle.ob_first.specs.Faults.{NameFails, value_or}
use Rattle.ob_first.specs.InTypes as which
use Rattle.ob_first.specs.InTypes.{InConstant, InLength, FieldNamesFail, Layer, layer, TypeFails}
use Rattle.ob_first.specs.InTypes.{in_array, behind_list, InType, InFields}
use Rattle.ob_first.proofs.Leads.{told, Leads, InOrder, alike, wide, after, tested, joined, nothing}
use Rattle.ob_first.proofs.Leads.{told_joined, retold}
use Rattle.ob_first.proofs.UsedNames.{named}
use Rattle.ob_first.proofs.Selections.{alone, regrouped}
use Rattle.ob_first.proofs.Calls.{ExpressionAt, last_of}
use Rattle.pra_list.proofs.Choices.{by_test}
use Rattle.pra_list.specs.Results.{◌>>=◌}

-- ---- constants and lengths

constant_at : (token : ℕ) (w : Worth) (f : Fault) → constant_of token w ≡ Err f → f.1 ≡ token
constant_at token None f h = cc
constant_at token (Some (Ok v)) f h = absurd (cc)
constant_at token (Some (Err t)) f h = cc

length_at : (token : ℕ) (v : Value) (f : Fault) → length_of token v ≡ Err f → f.1 ≡ token
length_at token (Number n) f h = by_test (int_lt (pos 0) n) (Ok (nat_abs n)) (Err (24, token))
    (Err f) (λ t is. cc) (λ t is. cc) h
length_at token (Truth b) f h = cc

pub constant_leads : (p : Place) (e : Expr) (i j : ℕ) → ExpressionAt e i j →
    Leads i j (told (constant p e)) (InConstant p e)
constant_leads p e i j at =
    tested ((expression e).judge p) (λ x. constant_of (out-Expr e).span.last (worth x.expr))
    (at.leads p)
    (λ x f h. let there = constant_at (out-Expr e).span.last (worth x.expr) f h in let is =
    last_of e in let end = at.last in let some = at.some in
    (omega (arith, there, is, end, some), omega (arith, there, is, end)))

pub length_leads : (p : Place) (e : Expr) (i j : ℕ) → ExpressionAt e i j →
    Leads i j (told (array_length p e)) (InLength p e)
length_leads p e i j at =
    tested (constant p e) (length_of (out-Expr e).span.last) (constant_leads p e i j at)
    (λ x f h. let there = length_at (out-Expr e).span.last x f h in let is = last_of e in let end =
    at.last in let some = at.some in
    (omega (arith, there, is, end, some), omega (arith, there, is, end)))

-- ---- lists of names

-- a name's token
abbrev pub NameAt : ℕ → ℕ → ℕ → Type 0
NameAt k i j = (i ≤ k) × (k < j)

pub names_in_order : (ks : List ℕ) (i j : ℕ) → InOrder NameAt i ks j → i ≤ j
names_in_order [] i j h = h
names_in_order (k ∷ ks) i j (a, b, low, one, order) = let rest = names_in_order ks b j order in
    omega (arith, one.0, one.1)

one_field : (p : Place) (names : List Name) (k : ℕ) (f : Fault) → with_fields p names (k ∷ []) ≡
    Err f → f.1 ≡ k
one_field p names k f h = by_test (list_any (bytes_eq (name_at p k)) names) (Err (4, k))
    (Ok (names ++ name_at p k ∷ [])) (Err f) (λ t is. cc) (λ t is. cc) h

field_is : (p : Place) (names : List Name) (k : ℕ) (x : List Name) → with_fields p names (k ∷ []) ≡
    Ok x → x ≡ names ++ name_at p k ∷ []
field_is p names k x h = by_test (list_any (bytes_eq (name_at p k)) names) (Err (4, k))
    (Ok (names ++ name_at p k ∷ [])) (Ok x) (λ t is. cc) (λ t is. cc) h

fields_told : (p : Place) (names : List Name) (k : ℕ) (ks : List ℕ) →
    told (with_fields p names (k ∷ []) >>= λ ns. with_fields p ns ks) ≡
    told (with_fields p names (k ∷ ks))
fields_told p names k ks = by (list_any (bytes_eq (name_at p k)) names)
  where
    by : (b : Bool) → told ((if b then Err (4, k) else Ok (names ++ name_at p k ∷ [])) >>= λ ns.
        with_fields p ns ks) ≡ told
        (if b then Err (4, k) else with_fields p (names ++ name_at p k ∷ []) ks)
    by true = refl
    by false = refl

field_names_lead : (p : Place) (ks : List ℕ) (names : List Name) (i j : ℕ) → InOrder NameAt i ks j →
    Leads i j (told (with_fields p names ks)) (FieldNamesFail p names ks)
field_names_lead p [] names i j order = nothing
field_names_lead p (k ∷ ks) names i j (a, b, low, one, order) =
    let rest = field_names_lead p ks (names ++ name_at p k ∷ []) b j order in
    retold (after (with_fields p names (k ∷ [])) (λ ns. with_fields p ns ks) (alone (with_fields p
    names (k ∷ [])) (λ f h. let at = one_field p names k f h in
    (omega (arith, at, one.0), omega (arith, at, one.1)))) (λ x is. subst (λ (z : List Name). Leads
    b j (told (with_fields p z ks)) (λ f. FieldNamesFail p (names ++ name_at p k ∷ []) ks f))
    (sym (field_is p names k x is)) rest) rest.lies (omega (arith, one.0, one.1))
    (names_in_order ks b j order)) (fields_told p names k ks)

-- ---- types

pub record TypeAt (t : TypeExpr) (i j : ℕ) : Type 0 where
  pub some : i < j
  pub last : (out-TypeExpr t).span.last + 1 ≡ j
  pub leads : (p : Place) → Leads i j (told (type_expression t p)) (InType p t)

-- names of one type
pub record NamesOfType (names : List ℕ) (t : TypeExpr) (i j : ℕ) : Type 0 where
  pub k : ℕ
  pub l : ℕ
  pub low : k ≤ l
  pub in_order : InOrder NameAt i names k
  pub type_at : TypeAt t l j

abbrev pub NameListAt : NameList → ℕ → ℕ → Type 0
NameListAt l i j = NamesOfType (out-NameList l).names (out-NameList l).shape i j

pub name_list_stands : (names : List ℕ) (t : TypeExpr) (i j : ℕ) → NamesOfType names t i j →
    NameListAt (roll-NameList (record { names = names; shape = t })) i j
name_list_stands names t i j h = subst (λ z. NamesOfType z.names z.shape i j)
    (sym (out-roll-NameList (record { names = names; shape = t }))) h

pub of_type_in_order : (names : List ℕ) (t : TypeExpr) (i j : ℕ) → NamesOfType names t i j → i ≤ j
of_type_in_order names t i j h = let a = names_in_order names i h.k h.in_order in let b = h.low in
    let c = h.type_at in let d = c.some in omega arith

pub lists_in_order : (ls : List NameList) (i j : ℕ) → InOrder NameListAt i ls j → i ≤ j
lists_in_order [] i j h = h
lists_in_order (x ∷ xs) i j (k, l, low, one, order) =
    let first = of_type_in_order (out-NameList x).names (out-NameList x).shape k l one in let rest =
    lists_in_order xs l j order in omega arith

-- ---- fields

ListFails : Fields → NameList → Fault → Type 0
ListFails so_far l f = FieldNamesFail so_far.place so_far.names (out-NameList l).names f ⊎
    InType so_far.place (out-NameList l).shape f

list_leads : (so_far : Fields) (l : NameList) (i j : ℕ) → NameListAt l i j →
    Leads i j (told (fields_of l so_far)) (ListFails so_far l)
unfolding ListFails
list_leads so_far l i j h =
    let names = (out-NameList l).names in
    let shape = (out-NameList l).shape in
    retold (joined (with_fields so_far.place so_far.names names)
    (type_expression shape so_far.place)
    (λ ns t. record { place = t.0; names = ns; types = with_types so_far.types t.1 names })
    (wide (omega arith) h.low (field_names_lead so_far.place names so_far.names i h.k h.in_order))
    (let at = h.type_at in at.leads so_far.place)
    (let a = names_in_order names i h.k h.in_order in let b = h.low in omega arith)
    (let at = h.type_at in let some = at.some in omega arith)) (ap (λ (r : FieldsAfter). told
    (r so_far))
    (sym (fold_out-NameList Shaped FieldsAfter Shaped type_form field_list type_step l)))

fields_open : (so_far : Fields) (l : NameList) (ls : List NameList) (f : Fault) →
    InFields so_far (l ∷ ls) f → ListFails so_far l f ⊎ InFields (behind_list so_far l) ls f
unfolding ListFails
fields_open so_far l ls f (which.names _ _ _ _ b) = inl (inl b)
fields_open so_far l ls f (which.shape _ _ _ _ b) = inl (inr b)
fields_open so_far l ls f (which.more _ _ _ _ b) = inr b

fields_close : (so_far : Fields) (l : NameList) (ls : List NameList) (f : Fault) →
    ListFails so_far l f ⊎ InFields (behind_list so_far l) ls f → InFields so_far (l ∷ ls) f
unfolding ListFails
fields_close so_far l ls f (inl (inl b)) = which.names so_far l ls f b
fields_close so_far l ls f (inl (inr b)) = which.shape so_far l ls f b
fields_close so_far l ls f (inr b) = which.more so_far l ls f b

no_fields : (so_far : Fields) (f : Fault) → InFields so_far [] f → ⊥
no_fields so_far f = elim [ ]

fields_lead : (ls : List NameList) (so_far : Fields) (i j : ℕ) → InOrder NameListAt i ls j →
    Leads i j (told (all_fields so_far (map fields_of ls))) (InFields so_far ls)
fields_lead [] so_far i j order = alike nothing refl (λ f b. absurd b) (no_fields so_far)
fields_lead (l ∷ ls) so_far i j (a, b, low, one, order) =
    let rest = fields_lead ls (behind_list so_far l) b j order in
    alike (after (fields_of l so_far) (λ more. all_fields more (map fields_of ls))
    (wide low (omega arith) (list_leads so_far l a b one)) (λ x is. subst (λ (z : Fields). Leads b j
    (told (all_fields z (map fields_of ls))) (λ f. InFields (behind_list so_far l) ls f))
    (ap (value_or _) is) rest) rest.lies
    (let h = of_type_in_order (out-NameList l).names (out-NameList l).shape a b one in omega arith)
    (lists_in_order ls b j order)) refl (fields_close so_far l ls) (fields_open so_far l ls)

-- ---- each form

abbrev form_of : TypeForm → Shaped
form_of = fold-TypeForm Shaped FieldsAfter Shaped type_form field_list type_step

abbrev begun : Place → Fields
begun p = record { place = p; names = []; types = [] }

abbrev Parts : Place → Layer → Fault → Type 0
Parts p (TypeForm-F.Name k) f = NameFails p k (named_type k) f
Parts p (TypeForm-F.Array count item) f = InLength p count f ⊎ InType (in_array p count) item f
Parts p (TypeForm-F.Record lists) f = InFields (begun p) lists f

name_array : (y : Layer) (k : ℕ) (e : Expr) (t : TypeExpr) → y ≡ TypeForm-F.Name k →
    y ≡ TypeForm-F.Array e t → ⊥
name_array y k e t a b = cc

name_record : (y : Layer) (k : ℕ) (ls : List NameList) → y ≡ TypeForm-F.Name k →
    y ≡ TypeForm-F.Record ls → ⊥
name_record y k ls a b = cc

array_record : (y : Layer) (e : Expr) (t : TypeExpr) (ls : List NameList) →
    y ≡ TypeForm-F.Array e t → y ≡ TypeForm-F.Record ls → ⊥
array_record y e t ls a b = cc

one_array : (y : Layer) (e e' : Expr) (t t' : TypeExpr) → y ≡ TypeForm-F.Array e t →
    y ≡ TypeForm-F.Array e' t' → (e' ≡ e) × (t' ≡ t)
one_array y e e' t t' a b = (cc, cc)

one_record : (y : Layer) (ls ls' : List NameList) → y ≡ TypeForm-F.Record ls →
    y ≡ TypeForm-F.Record ls' → ls' ≡ ls
one_record y ls ls' a b = cc

parts_inside : (p : Place) (t : TypeExpr) (y : Layer) (f : Fault) → layer t ≡ y → InType p t f →
    Parts p y f
parts_inside p t (TypeForm-F.Name k) f is (which.itself _ _ _ b) = subst (λ z. TypeFails p z f) is b
parts_inside p t (TypeForm-F.Name k) f is (which.element _ _ _ e u there b) =
    absurd (name_array (layer t) k e u is there)
parts_inside p t (TypeForm-F.Name k) f is (which.fields _ _ _ ls there b) =
    absurd (name_record (layer t) k ls is there)
parts_inside p t (TypeForm-F.Array count item) f is (which.itself _ _ _ b) =
    inl (subst (λ z. TypeFails p z f) is b)
parts_inside p t (TypeForm-F.Array count item) f is (which.element _ _ _ e u there b) =
    let same = one_array (layer t) count e item u is there in
    inr (subst (λ z. InType (in_array p count) z f) same.1
    (subst (λ z. InType (in_array p z) u f) same.0 b))
parts_inside p t (TypeForm-F.Array count item) f is (which.fields _ _ _ ls there b) =
    absurd (array_record (layer t) count item ls is there)
parts_inside p t (TypeForm-F.Record lists) f is (which.itself _ _ _ b) =
    absurd (subst (λ z. TypeFails p z f) is b)
parts_inside p t (TypeForm-F.Record lists) f is (which.element _ _ _ e u there b) =
    absurd (array_record (layer t) e u lists there is)
parts_inside p t (TypeForm-F.Record lists) f is (which.fields _ _ _ ls there b) =
    subst (λ z. InFields (begun p) z f) (one_record (layer t) lists ls is there) b

parts_outside : (p : Place) (t : TypeExpr) (y : Layer) (f : Fault) → layer t ≡ y → Parts p y f →
    InType p t f
parts_outside p t (TypeForm-F.Name k) f is b =
    which.itself p t f (subst (λ z. TypeFails p z f) (sym is) b)
parts_outside p t (TypeForm-F.Array count item) f is (inl b) =
    which.itself p t f (subst (λ z. TypeFails p z f) (sym is) b)
parts_outside p t (TypeForm-F.Array count item) f is (inr b) = which.element p t f count item is b
parts_outside p t (TypeForm-F.Record lists) f is b = which.fields p t f lists is b

type_stands : (s : Span) (y : Layer) (g : TypeForm) (i j : ℕ) (read : Shaped) →
    roll-TypeForm y ≡ g → form_of (roll-TypeForm y) ≡ read → i < j → s.last + 1 ≡ j →
    ((p : Place) → Leads i j (told (read p)) (Parts p y))
    → TypeAt (roll-TypeExpr (record { span = s; form = g })) i j
type_stands s y g i j read rolls reads some ends leads = record {
  some = some;
  last = ap (λ z. z.span.last + 1) (out-roll-TypeExpr (record { span = s; form = g })) ∙ ends;
  leads = λ p. alike (leads p) (ap (λ (r : Shaped). told (r p)) (sym (fold-roll-TypeExpr Shaped
      FieldsAfter Shaped type_form field_list type_step (record { span = s; form = g }) ∙ ap form_of
      (sym rolls) ∙ reads))) (λ f. parts_outside p t y f lays) (λ f. parts_inside p t y f lays);
}
  where
    t : TypeExpr
    t = roll-TypeExpr (record { span = s; form = g })

    lays : layer t ≡ y
    lays = ap (λ z. out-TypeForm z.form) (out-roll-TypeExpr (record { span = s; form = g }))
        ∙ ap out-TypeForm (sym rolls) ∙ out-roll-TypeForm y

named_type_at : (k : ℕ) (m : Meaning) (f : Fault) → named_type k m ≡ Err f → (f.1 ≡ k) × (6 ≤ f.0)
named_type_at k (TypeName t) f h = absurd (cc)
named_type_at k m f h = let at : f.1 ≡ k = cc in let rule : f.0 ≡ 8 = cc in
    (at, omega (arith, rule))

pub type_name_stands : (s : Span) (k j : ℕ) → k < j → s.last + 1 ≡ j →
    TypeAt (roll-TypeExpr (record { span = s; form = form_is.Name k })) k j
type_name_stands s k j some ends =
    type_stands s (TypeForm-F.Name k) _ k j
    (λ p. used p k >>= λ m. named_type k m >>= λ type_id. Ok (p, type_id))
    (form_is.rolls-Name k) (fold-roll-TypeForm _ _ _ _ _ _ _)
    some ends
    (λ p. retold (wide (omega arith) (omega arith) (named p k (named_type k) (named_type_at k)))
    (sym (told_joined (used p k >>= named_type k) (λ type_id. (p, type_id))) ∙ ap told
    (regrouped (used p k) (named_type k) (λ type_id. Ok (p, type_id)))))

pub array_stands : (s : Span) (e : Expr) (t : TypeExpr) (i k l m j : ℕ) → i ≤ k → l ≤ m →
    s.last + 1 ≡ j → ExpressionAt e k l → TypeAt t m j →
    TypeAt (roll-TypeExpr (record { span = s; form = form_is.Array e t })) i j
array_stands s e t i k l m j low mid ends count item =
    type_stands s (TypeForm-F.Array e t) _ i j
    (λ p. array_length p e >>= λ n. type_expression t (with_length p n) >>= λ inner. Ok
    (with_type inner.0 (Array n inner.1) []))
    (form_is.rolls-Array e t) (fold-roll-TypeForm _ _ _ _ _ _ _)
    (let a = count.some in let b = item.some in omega arith) ends (λ p.
    let rest = wide {i' = l} {j' = j} mid (omega arith)
    (item.leads (in_array p e)) in
    after (array_length p e) (λ n. type_expression t (with_length p n) >>= λ inner. Ok
    (with_type inner.0 (Array n inner.1) [])) (wide low (omega arith) (length_leads p e k l count))
    (λ n is. retold rest (ap (λ (z : ℕ). told (type_expression t (with_length p z)))
    (ap (value_or _) is) ∙ sym (told_joined (type_expression t (with_length p n))
    (λ inner. with_type inner.0 (Array n inner.1) []))))
    rest.lies (let a = count.some in omega arith) (let b = item.some in omega arith))

pub record_stands : (s : Span) (ls : List NameList) (i k m j : ℕ) → i ≤ k → m < j → s.last + 1 ≡ j →
    InOrder NameListAt k ls m →
    TypeAt (roll-TypeExpr (record { span = s; form = form_is.Record ls })) i j
record_stands s ls i k m j low high ends order =
    type_stands s (TypeForm-F.Record ls) _ i j
    (λ p. all_fields (begun p) (map fields_of ls) >>= λ fields. Ok
    (with_type fields.place (Record fields.types) fields.names))
    (form_is.rolls-Record ls) (fold-roll-TypeForm _ _ _ _ _ _ _)
    (let a = lists_in_order ls k m order in omega arith) ends
    (λ p. retold (wide low (omega arith) (fields_lead ls (begun p) k m order)) (sym (told_joined
    (all_fields (begun p) (map fields_of ls))
    (λ fields. with_type fields.place (Record fields.types) fields.names))))
