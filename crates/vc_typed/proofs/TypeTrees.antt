-- The types that a type expression adds are formed of those before them.
use Rattle.std.proofs.Common.{◌≡◌, ℕ, ◌+◌, ◌<◌, ◌≤◌, List, [], ◌∷◌, ◌++◌, length, map, Option, Some}
use Rattle.std.proofs.Common.{None, refl, ap, sym, ◌∙◌, subst, arith, length-append}
use Rattle.std.specs.Prelude.{Ok, Err, slice_get, bytes_eq}
use Rattle.std.specs.List.{list_any}
use Rattle.std.proofs.lemmas.List.{append-nil, append_assoc}
use Rattle.std.proofs.lemmas.Option.{slice_get_within}
use Rattle.pra_list.proofs.Results.{came_of}
use Rattle.pra_list.proofs.Elements.{got_last}
use Rattle.pra_list.proofs.Choices.{by_test}
use Rattle.pra_list.proofs.Options.{none_some}
use Rattle.pra_list.specs.Results.{◌>>=◌}
use Rattle.ob_syntax.specs.declared.checked.Meaning.{Meaning}
use Rattle.ob_syntax.specs.declared.checked.Meaning.TheVariants as meaning
use Rattle.ob_syntax.specs.declared.checked.Shape.{Shape}
use Rattle.ob_syntax.specs.declared.checked.Shape.TheVariants.{Integer, Boolean, Array, Record}
use Rattle.ob_syntax.specs.declared.tree.NameList.{NameList, roll-NameList, fold-roll-NameList}
use Rattle.ob_syntax.specs.declared.tree.Span.{Span}
use Rattle.ob_syntax.specs.declared.tree.TypeExpr.{TypeExpr, roll-TypeExpr, fold-roll-TypeExpr}
use Rattle.ob_syntax.specs.declared.tree.TypeExpr.{ind-TypeExpr}
use Rattle.ob_syntax.specs.declared.tree.TypeForm.{TypeForm, TypeForm-F, roll-TypeForm}
use Rattle.ob_syntax.specs.declared.tree.TypeForm.{map-TypeForm, fold-TypeForm, fold-roll-TypeForm}
use Rattle.ob_syntax.specs.Expressions.{field_names}
use Rattle.ob_syntax.specs.Names.{Place, name_at, used, known, reached, is_within_reach}
use Rattle.ob_syntax.specs.Names.{meaning as meaning_of}
use Rattle.ob_syntax.specs.Source.{Name}
use Rattle.ob_syntax.specs.Types.{array_length, Shaped, with_type, with_length, named_type}
use Rattle.ob_syntax.specs.Types.{with_fields, with_types, Fields, FieldsAfter, all_fields}
use Rattle.ob_syntax.specs.Types.{type_form, field_list, type_step, type_expression, fields_of}
use Rattle.vc_relation.specs.Layout.{NamesBelow, TypesInOrder}
use Rattle.vc_typed.proofs.Bindings.{ok_same, ok_err}
use Rattle.vc_typed.proofs.Lists.{get_before, got, IsAmong, among_last, among_longer}

-- types that name only types before them, the names of the fields of each, and lengths of arrays
pub record Formed (types : List Shape) (fields : List (List Name)) (lengths : List ℕ) : Type 0 where
  pub ordered : TypesInOrder types
  pub parallel : length fields ≡ length types
  pub named : (k : ℕ) (fs : List ℕ) → slice_get types k ≡ Some (Record fs) →
      length (field_names (slice_get fields k)) ≡ length fs
  pub counted : (k count element : ℕ) → slice_get types k ≡ Some (Array count element) →
      IsAmong count lengths

-- The place behind types: nothing but types is added.
pub record Extends (p q : Place) : Type 0 where
  pub types : List Shape
  pub fields : List (List Name)
  pub lengths : List ℕ
  pub is : q ≡ record p { types = types; fields = fields; lengths = lengths }
  pub more : List Shape
  pub grown : types ≡ p.types ++ more
  pub more_lengths : List ℕ
  pub longer : lengths ≡ p.lengths ++ more_lengths
  pub formed : Formed types fields lengths

-- A place whose types are formed, and where each name of a type means one of them.
pub record Ready (p : Place) : Type 0 where
  pub formed : Formed p.types p.fields p.lengths
  pub names : (name : Name) (t : ℕ) → meaning_of p name ≡ Some (meaning.TypeName t) →
      t < length p.types

-- ---- one more element

-- the length of an array is among these
abbrev IsCounted : List ℕ → Shape → Type 0
IsCounted lengths (Array count element) = IsAmong count lengths
IsCounted lengths _ = Unit {0}

pub formed_push : (types : List Shape) (fields : List (List Name)) (lengths : List ℕ)
    (shape : Shape) (names : List Name) → Formed types fields lengths →
    NamesBelow (length types) shape → ((fs : List ℕ) → shape ≡ Record fs → length names ≡ length fs)
    → IsCounted lengths shape → Formed (types ++ shape ∷ []) (fields ++ names ∷ []) lengths
formed_push types fields lengths shape names formed below same counted = record {
  ordered = record {
    first = get_before types shape 0 (slice_get_within types 0 Integer formed.ordered.first)
        ∙ formed.ordered.first;
    second = get_before types shape 1 (slice_get_within types 1 Boolean formed.ordered.second)
        ∙ formed.ordered.second;
    below = λ k s at. got types shape s k at (λ lt is. formed.ordered.below k s is)
        (λ end is. subst (λ n. NamesBelow n s) (sym end)
        (subst (NamesBelow (length types)) is below));
  };
  parallel = let count = formed.parallel in
      omega (arith, count, length-append types (shape ∷ []), length-append fields (names ∷ []));
  named = λ k fs at. got types shape (Record fs) k at
      (λ lt is. ap (λ o. length (field_names o))
      (get_before fields names k (let count = formed.parallel in omega (arith, count, lt)))
      ∙ formed.named k fs is)
      (λ end is. ap (λ n. length (field_names (slice_get (fields ++ names ∷ []) n)))
      (end ∙ sym formed.parallel) ∙ ap (λ o. length (field_names o)) (got_last fields names [])
      ∙ same fs is);
  counted = λ k count element at. got types shape (Array count element) k at
      (λ lt is. formed.counted k count element is) (λ end is. subst (IsCounted lengths) is counted);
}

-- ---- places

pub stays : (p : Place) → Formed p.types p.fields p.lengths → Extends p p
stays p formed = record {
  types = p.types;
  fields = p.fields;
  lengths = p.lengths;
  is = refl;
  more =
      [];
  grown = sym (append-nil p.types);
  more_lengths = [];
  longer = sym (append-nil p.lengths);
  formed = formed;
}

pub extends_on : (p q r : Place) → Extends p q → Extends q r → Extends p r
extends_on p q r a b = record {
  types = b.types;
  fields = b.fields;
  lengths = b.lengths;
  is = b.is ∙ ap (λ (z : Place). record z {
    types = b.types;
    fields = b.fields;
    lengths =
        b.lengths;
  }) a.is;
  more = a.more ++ b.more;
  grown = b.grown ∙ ap (λ (z : Place). z.types ++ b.more) a.is ∙ ap (λ ts. ts ++ b.more) a.grown
      ∙ append_assoc p.types a.more b.more;
  more_lengths = a.more_lengths ++ b.more_lengths;
  longer = b.longer ∙ ap (λ (z : Place). z.lengths ++ b.more_lengths) a.is
      ∙ ap (λ ns. ns ++ b.more_lengths) a.longer ∙ append_assoc p.lengths a.more_lengths
      b.more_lengths;
  formed = b.formed;
}

pub formed_behind : (p q : Place) → Extends p q → Formed q.types q.fields q.lengths
formed_behind p q a = subst (λ (z : Place). Formed z.types z.fields z.lengths) (sym a.is) a.formed

pub types_behind : (p q : Place) (a : Extends p q) → q.types ≡ a.types
types_behind p q a = ap (λ (z : Place). z.types) a.is

pub more_types : (p q : Place) → Extends p q → length p.types ≤ length q.types
more_types p q a =
    let count : length q.types ≡ length (p.types ++ a.more) =
    ap length (types_behind p q a ∙ a.grown) in
    omega (arith, count, length-append p.types a.more)

pub ready_behind : (p q : Place) → Extends p q → Ready p → Ready q
ready_behind p q a ready = record {
  formed = formed_behind p q a;
  names = λ name t is.
      let lt = ready.names name t (ap (λ (z : Place). meaning_of z name) (sym a.is) ∙ is) in
      let more = more_types p q a in omega (arith, lt, more);
}

-- ---- what is shown of each production

pub record TypeAdded (p : Place) (r : Place × ℕ) : Type 0 where
  pub extends : Extends p r.0
  pub within : r.1 < length r.0.types

pub record GoodShaped (t : Shaped) : Type 0 where
  pub adds : (p : Place) → Ready p → (r : Place × ℕ) → t p ≡ Ok r → TypeAdded p r

abbrev pub AllBelow : ℕ → List ℕ → Type 0
AllBelow n fields = (k field : ℕ) → slice_get fields k ≡ Some field → field < n

pub record FieldsGood (f : Fields) : Type 0 where
  pub ready : Ready f.place
  pub below : AllBelow (length f.place.types) f.types
  pub named : length f.names ≡ length f.types

pub record GoodAfter (l : FieldsAfter) : Type 0 where
  pub adds : (f g : Fields) → FieldsGood f → l f ≡ Ok g → Extends f.place g.place × FieldsGood g

abbrev AllAfter : List FieldsAfter → Type 0
AllAfter [] = Unit {0}
AllAfter (l ∷ ls) = GoodAfter l × AllAfter ls

type_of_name : (p : Place) (k t : ℕ) (m : Meaning) → reached p k m ≡ Ok (meaning.TypeName t) →
    m ≡ meaning.TypeName t
type_of_name p k t (meaning.Variable owner r type_id) is =
    by_test (is_within_reach p owner r) (Ok (meaning.Variable owner r type_id)) (Err (6, k))
    (Ok (meaning.TypeName t))
    (λ b same. ok_same (meaning.Variable owner r type_id) (meaning.TypeName t) same)
    (λ b same. absurd (ok_err same)) is
type_of_name p k t (meaning.Constant v) is = ok_same (meaning.Constant v) (meaning.TypeName t) is
type_of_name p k t (meaning.TypeName v) is = ok_same (meaning.TypeName v) (meaning.TypeName t) is
type_of_name p k t (meaning.Procedure v) is = ok_same (meaning.Procedure v) (meaning.TypeName t) is
type_of_name p k t (meaning.Standard v) is = ok_same (meaning.Standard v) (meaning.TypeName t) is

found_type : (p : Place) (k t : ℕ) (found : Option Meaning) → known p k found ≡
    Ok (meaning.TypeName t) → found ≡ Some (meaning.TypeName t)
found_type p k t (Some m) is = ap (λ z. Some z) (type_of_name p k t m is)
found_type p k t None is = absurd (ok_err is)

named_is : (k t : ℕ) (m : Meaning) → named_type k m ≡ Ok t → m ≡ meaning.TypeName t
named_is k t (meaning.TypeName v) is = ap meaning.TypeName (ok_same v t is)
named_is k t (meaning.Constant v) is = absurd (ok_err is)
named_is k t (meaning.Variable owner r v) is = absurd (ok_err is)
named_is k t (meaning.Procedure v) is = absurd (ok_err is)
named_is k t (meaning.Standard v) is = absurd (ok_err is)

name_added : (k : ℕ) (p : Place) → Ready p → (r : Place × ℕ) →
    (used p k >>= λ m. named_type k m >>= λ type_id. Ok (p, type_id)) ≡ Ok r → TypeAdded p r
name_added k p ready r is =
    let one = came_of (used p k) (λ m. named_type k m >>= λ type_id. Ok (p, type_id)) r is in
    let two = came_of (named_type k one.0) (λ type_id. Ok (p, type_id)) r one.2 in
    let name : used p k ≡ Ok (meaning.TypeName two.0) =
    one.1 ∙ ap (λ m. Ok m) (named_is k two.0 one.0 two.1) in
    subst (TypeAdded p) (ok_same (p, two.0) r two.2)
    (record {
      extends = stays p ready.formed;
      within = ready.names (name_at p k) two.0
          (found_type p k two.0 (meaning_of p (name_at p k)) name);
    })

type_pushed : (p : Place) (shape : Shape) (names : List Name) → Formed p.types p.fields p.lengths →
    NamesBelow (length p.types) shape →
    ((fs : List ℕ) → shape ≡ Record fs → length names ≡ length fs) → IsCounted p.lengths shape →
    TypeAdded p (with_type p shape names)
type_pushed p shape names formed below same counted = record {
  extends = record {
    types = p.types ++ shape ∷ [];
    fields = p.fields ++ names ∷ [];
    lengths = p.lengths;
    is = refl;
    more = shape ∷ [];
    grown = refl;
    more_lengths = [];
    longer = sym (append-nil p.lengths);
    formed = formed_push p.types p.fields p.lengths shape names formed below same counted;
  };
  within = omega (arith, length-append p.types (shape ∷ []));
}

added_on : (p q : Place) (r : Place × ℕ) → Extends p q → TypeAdded q r → TypeAdded p r
added_on p q r a b = record { extends = extends_on p q r.0 a b.extends; within = b.within }

with_length_extends : (p : Place) (n : ℕ) → Formed p.types p.fields p.lengths →
    Extends p (with_length p n)
with_length_extends p n formed = record {
  types = p.types;
  fields = p.fields;
  lengths = p.lengths ++ n ∷ [];
  is = refl;
  more = [];
  grown = sym (append-nil p.types);
  more_lengths = n ∷ [];
  longer = refl;
  formed = record {
    ordered = formed.ordered;
    parallel = formed.parallel;
    named = formed.named;
    counted = λ k count element at. among_longer count p.lengths (n ∷ []) (p.lengths ++ n ∷ [])
        refl (formed.counted k count element at);
  };
}

array_added : (item : Shaped) → GoodShaped item → (p : Place) → Ready p → (n : ℕ) (r : Place × ℕ) →
    (item (with_length p n) >>= λ inner. Ok (with_type inner.0 (Array n inner.1) [])) ≡ Ok r →
    TypeAdded p r
array_added item good p ready n r is =
    let of = came_of (item (with_length p n)) (λ inner. Ok (with_type inner.0 (Array n inner.1) []))
    r is in
    let q = with_length p n in
    let longer = with_length_extends p n ready.formed in
    let inner = good.adds q (ready_behind p q longer ready) of.0 of.1 in
    let lengths : of.0.0.lengths ≡ q.lengths ++ inner.extends.more_lengths =
    ap (λ (z : Place). z.lengths) inner.extends.is ∙ inner.extends.longer in
    subst (TypeAdded p) (ok_same (with_type of.0.0 (Array n of.0.1) []) r of.2)
    (added_on p of.0.0 (with_type of.0.0 (Array n of.0.1) [])
    (extends_on p q of.0.0 longer inner.extends)
    (type_pushed of.0.0 (Array n of.0.1) [] (formed_behind q of.0.0 inner.extends) inner.within
    (λ fs same. absurd (cc))
    (among_longer n q.lengths inner.extends.more_lengths of.0.0.lengths lengths
    (among_last p.lengths n))))

all_fields_added : (ls : List FieldsAfter) → AllAfter ls → (f g : Fields) → FieldsGood f →
    all_fields f ls ≡ Ok g → Extends f.place g.place × FieldsGood g
all_fields_added [] good f g fine is =
    subst (λ (z : Fields). Extends f.place z.place × FieldsGood z) (ok_same f g is)
    (stays f.place fine.ready.formed, fine)
all_fields_added (l ∷ ls) (good, rest) f g fine is =
    let of = came_of (l f) (λ more. all_fields more ls) g is in
    let one = good.adds f of.0 fine of.1 in
    let all = all_fields_added ls rest of.0 g one.1 of.2 in
    (extends_on f.place of.0.place g.place one.0 all.0, all.1)

none_below : (n : ℕ) → AllBelow n []
none_below n k field is = absurd (none_some is)

record_added : (ls : List FieldsAfter) → AllAfter ls → (p : Place) → Ready p → (r : Place × ℕ)
    → (all_fields (record { place = p; names = []; types = [] }) ls >>= λ fields. Ok
    (with_type fields.place (Record fields.types) fields.names)) ≡ Ok r → TypeAdded p r
record_added ls good p ready r is =
    let start : Fields = record { place = p; names = []; types = [] } in
    let of = came_of (all_fields start ls)
    (λ fields. Ok (with_type fields.place (Record fields.types) fields.names)) r is in
    let all = all_fields_added ls good start of.0
    (record { ready = ready; below = none_below (length p.types); named = refl }) of.1 in
    subst (TypeAdded p) (ok_same (with_type of.0.place (Record of.0.types) of.0.names) r of.2)
    (added_on p of.0.place (with_type of.0.place (Record of.0.types) of.0.names) all.0
    (type_pushed of.0.place (Record of.0.types) of.0.names all.1.ready.formed all.1.below
    (λ fs same. all.1.named ∙ ap length (record_same of.0.types fs same)) tt))
  where
    record_same : (xs ys : List ℕ) → ◌≡◌ {A = Shape} (Record xs) (Record ys) → xs ≡ ys
    record_same xs ys h = cc

-- ---- fields of one type

with_types_below : (ks types : List ℕ) (t n : ℕ) → AllBelow n types → t < n →
    AllBelow n (with_types types t ks) × (length (with_types types t ks) ≡ length types + length ks)
with_types_below [] types t n below lt = (below, omega arith)
with_types_below (k ∷ ks) types t n below lt =
    let rest = with_types_below ks (types ++ t ∷ []) t n
    (λ j field at. got types t field j at (λ l is. below j field is)
    (λ end is. subst (λ x. x < n) is lt)) lt in
    let count = rest.1 in (rest.0, omega (arith, count, length-append types (t ∷ [])))

with_fields_count : (p : Place) (ks : List ℕ) (names out : List Name) → with_fields p names ks ≡
    Ok out → length out ≡ length names + length ks
with_fields_count p [] names out is = let same = ap length (ok_same names out is) in
    omega (arith, same)
with_fields_count p (k ∷ ks) names out is =
    by_test (list_any (bytes_eq (name_at p k)) names) (Err (4, k))
    (with_fields p (names ++ name_at p k ∷ []) ks) (Ok out) (λ b same. absurd (ok_err same))
    (λ b same. let rest = with_fields_count p ks (names ++ name_at p k ∷ []) out same in
    omega (arith, rest, length-append names (name_at p k ∷ []))) is

fields_added : (ks : List ℕ) (t : Shaped) → GoodShaped t → (f g : Fields) → FieldsGood f
    → (with_fields f.place f.names ks >>= λ names. t f.place >>= λ shape. Ok
    (record { place = shape.0; names = names; types = with_types f.types shape.1 ks })) ≡ Ok g →
    Extends f.place g.place × FieldsGood g
fields_added ks t good f g fine is =
    let one = came_of (with_fields f.place f.names ks)
    (λ names. t f.place >>= λ shape. Ok
    (record { place = shape.0; names = names; types = with_types f.types shape.1 ks })) g is in
    let two = came_of (t f.place)
    (λ shape. Ok (record {
      place = shape.0;
      names = one.0;
      types =
          with_types f.types shape.1 ks;
    })) g one.2 in
    let added = good.adds f.place fine.ready two.0 two.1 in
    let more = more_types f.place two.0.0 added.extends in
    let types = with_types_below ks f.types two.0.1 (length two.0.0.types)
    (λ k field at. let lt = fine.below k field at in omega (arith, lt, more)) added.within in
    let many = with_fields_count f.place ks f.names one.0 one.1 in
    let before = fine.named in
    let count = types.1 in
    subst (λ (z : Fields). Extends f.place z.place × FieldsGood z)
    (ok_same (record { place = two.0.0; names = one.0; types = with_types f.types two.0.1 ks })
    g two.2) (
      added.extends,
      record {
        ready = ready_behind f.place two.0.0 added.extends fine.ready;
        below =
            types.0;
        named = omega (arith, many, before, count);
      },
    )

-- ---- trees

abbrev form_of : TypeForm → Shaped
form_of = fold-TypeForm Shaped FieldsAfter Shaped type_form field_list type_step

abbrev OfForm : TypeForm → Type 0
OfForm f = GoodShaped (form_of f)

abbrev OfList : NameList → Type 0
OfList l = GoodAfter (fields_of l)

abbrev OfType : TypeExpr → Type 0
OfType t = GoodShaped (type_expression t)

abbrev Layer : Type 0
Layer = TypeForm-F ((x : TypeForm) × OfForm x) ((x : NameList) × OfList x)
    ((x : TypeExpr) × OfType x)

abbrev bare : Layer → TypeForm-F TypeForm NameList TypeExpr
bare = map-TypeForm ((x : TypeForm) × OfForm x) ((x : NameList) × OfList x)
    ((x : TypeExpr) × OfType x) TypeForm NameList TypeExpr (λ x. x.0) (λ x. x.0) (λ x. x.0)

lists_good : (xs : List ((x : NameList) × OfList x)) → AllAfter (map fields_of (map (λ x. x.0) xs))
lists_good [] = tt
lists_good (x ∷ xs) = (x.1, lists_good xs)

form_case : (x : Layer) → OfForm (roll-TypeForm (bare x))
form_case (TypeForm-F.Name k) =
    subst GoodShaped (sym (fold-roll-TypeForm Shaped FieldsAfter Shaped type_form field_list
    type_step (TypeForm-F.Name k)))
    (record { adds = λ p ready r is. name_added k p ready r is })
form_case (TypeForm-F.Array count item) =
    subst GoodShaped (sym (fold-roll-TypeForm Shaped FieldsAfter Shaped type_form field_list
    type_step (TypeForm-F.Array count item.0)))
    (record {
      adds = λ p ready r is.
          let of = came_of (array_length p count)
          (λ n. type_expression item.0 (with_length p n) >>= λ inner. Ok
          (with_type inner.0 (Array n inner.1) [])) r is in
          array_added (type_expression item.0) item.1 p ready of.0 r of.2;
    })
form_case (TypeForm-F.Record lists) =
    subst GoodShaped (sym (fold-roll-TypeForm Shaped FieldsAfter Shaped type_form field_list
    type_step (TypeForm-F.Record (map (λ x. x.0) lists))))
    (record {
      adds = λ p ready r is. record_added (map fields_of (map (λ x. x.0) lists))
          (lists_good lists) p ready r is;
    })

list_case : (names : List ℕ) (shape : (x : TypeExpr) × OfType x) →
    OfList (roll-NameList (record { names = names; shape = shape.0 }))
list_case names shape = subst GoodAfter
    (sym (fold-roll-NameList Shaped FieldsAfter Shaped type_form field_list type_step _))
    (record {
      adds = λ f g fine is. fields_added names (type_expression shape.0) shape.1 f g fine is;
    })

type_case : (span : Span) (f : (x : TypeForm) × OfForm x) →
    OfType (roll-TypeExpr (record { span = span; form = f.0 }))
type_case span f = subst GoodShaped
    (sym (fold-roll-TypeExpr Shaped FieldsAfter Shaped type_form field_list type_step _)) f.1

pub type_good : (t : TypeExpr) → GoodShaped (type_expression t)
type_good = ind-TypeExpr OfForm OfList OfType
    (λ x y is. subst (λ z. OfForm (roll-TypeForm z)) is (form_case y))
    (λ x y is. subst (λ z. OfList (roll-NameList z)) is (list_case y.names y.shape))
    (λ x y is. subst (λ z. OfType (roll-TypeExpr z)) is (type_case y.span y.form))
