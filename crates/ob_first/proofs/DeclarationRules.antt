-- Declarations, production by production.
use Rattle.std.proofs.Common.{◌∙◌, ◌≡◌, ℕ, ◌≤◌, ◌⊎◌, inl, inr, Bool, ◌||◌, List, [], ◌∷◌, length}
use Rattle.std.proofs.Common.{refl, ap, sym, subst, arith}
use Rattle.std.specs.Prelude.{Ok, Err, nat_eq}
use Rattle.pra_list.proofs.Results.{came_of}
use Rattle.ob_syntax.specs.declared.checked.Meaning.TheVariants as meaning
use Rattle.ob_syntax.specs.declared.checked.Param.{Param}
use Rattle.ob_syntax.specs.declared.tree.ConstDecl.{ConstDecl}
use Rattle.ob_syntax.specs.declared.tree.NameList.{NameList, out-NameList}
use Rattle.ob_syntax.specs.declared.tree.Section.{Section}
use Rattle.ob_syntax.specs.declared.tree.TypeDecl.{TypeDecl}
use Rattle.ob_syntax.specs.declared.tree.TypeExpr.{out-TypeExpr}
use Rattle.ob_syntax.specs.Declarations.{announced, all_announced, shown, constant_declaration}
use Rattle.ob_syntax.specs.Declarations.{all_constants, type_declaration, all_type_declarations}
use Rattle.ob_syntax.specs.Declarations.{with_variables, variable_list, all_variables}
use Rattle.ob_syntax.specs.Declarations.{parameter_type, with_parameters, section, all_sections}
use Rattle.ob_syntax.specs.Declarations.{entered, left, with_heading, heading}
use Rattle.ob_syntax.specs.Expressions.{integer, boolean}
use Rattle.ob_syntax.specs.Names.{Fault, Judged, Place, name_at, is_declared}
use Rattle.ob_syntax.specs.Types.{constant, type_expression}
use Rattle.ob_first.specs.Faults.{Behind, value_or}
use Rattle.ob_first.specs.InTypes.{InConstant, InType}
use Rattle.ob_first.specs.InDeclarations.{behind_name, behind_names, NamesFail, InConstants}
use Rattle.ob_first.specs.InDeclarations.{InTypeDeclarations, InVariables, InParameterType}
use Rattle.ob_first.specs.InDeclarations.{InSections, InHeading}
use Rattle.ob_first.proofs.Leads.{told, Leads, InOrder, alike, wide, after, after_behind}
use Rattle.ob_first.proofs.Leads.{after_place, tested, nothing, told_joined, same_value, retold}
use Rattle.ob_first.proofs.Selections.{alone}
use Rattle.ob_first.proofs.Calls.{ExpressionAt}
use Rattle.ob_first.proofs.TypeRules.{constant_leads, NameAt, names_in_order, TypeAt, NamesOfType}
use Rattle.ob_first.proofs.TypeRules.{NameListAt, of_type_in_order, lists_in_order}
use Rattle.pra_list.proofs.Choices.{by_test}
use Rattle.pra_list.specs.Results.{◌>>=◌}

-- ---- names that are declared

announced_at : (p : Place) (k : ℕ) (f : Fault) → announced p k ≡ Err f → f.1 ≡ k
announced_at p k f h = by_test (is_declared (name_at p k) p.scope) _ _ (Err f) (λ t is. cc)
    (λ t is. absurd (cc)) h

announced_leads : (p : Place) (k i j : ℕ) → NameAt k i j → Leads i j (told (announced p k))
    (λ f. announced p k ≡ Err f)
announced_leads p k i j at =
    alone (announced p k) (λ f h. let there = announced_at p k f h in
    (omega (arith, there, at.0), omega (arith, there, at.1)))

names_lead : (ks : List ℕ) (p : Place) (i j : ℕ) → InOrder NameAt i ks j →
    Leads i j (told (all_announced p ks)) (NamesFail p ks)
names_lead [] p i j order = nothing
names_lead (k ∷ ks) p i j (a, b, low, one, order) =
    let rest = names_lead ks (behind_name p k) b j order in
    after (announced p k) (λ q. all_announced q ks)
    (announced_leads p k i b (omega (arith, one.0), one.1))
    (λ q is. subst (λ (z : Place). Leads b j (told (all_announced z ks))
    (λ f. NamesFail (behind_name p k) ks f)) (ap (value_or p) is) rest)
    rest.lies (omega (arith, one.0, one.1)) (names_in_order ks b j order)

name_behind : (p : Place) (k : ℕ) (q : Place) → announced p k ≡ Ok q → q ≡ behind_name p k
name_behind p k q is = ap (value_or p) (sym is)

names_behind : (ks : List ℕ) (p q : Place) → all_announced p ks ≡ Ok q → q ≡ behind_names p ks
names_behind [] p q is = same_value (Ok p) q p is refl
names_behind (k ∷ ks) p q is =
    let of = came_of (announced p k) (λ r. all_announced r ks) q is in
    names_behind ks of.0 q of.2 ∙ ap (λ r. behind_names r ks) (name_behind p k of.0 of.1)

-- ---- CONST, TYPE, VAR

-- a name and an expression or a type
pub record Defines (name : ℕ) (Value : ℕ → ℕ → Type 0) (i j : ℕ) : Type 0 where
  pub k : ℕ
  pub l : ℕ
  pub name_at : NameAt name i k
  pub low : k ≤ l
  pub some : l ≤ j
  pub value_at : Value l j

abbrev pub ConstantAt : ConstDecl → ℕ → ℕ → Type 0
ConstantAt c i j = Defines c.name (ExpressionAt c.value) i j

abbrev pub TypeDeclarationAt : TypeDecl → ℕ → ℕ → Type 0
TypeDeclarationAt t i j = Defines t.name (TypeAt t.shape) i j

constant_declared : (p : Place) (c : ConstDecl) (i j : ℕ) → ConstantAt c i j
    → Leads i j (told (constant_declaration p c))
    (λ f. (announced p c.name ≡ Err f) ⊎ InConstant (behind_name p c.name) c.value f)
constant_declared p c i j at =
    let name = at.name_at in
    after_place i at.k j (announced p c.name)
    (λ q. constant q c.value >>= λ v. Ok (shown q c.name (meaning.Constant v)))
    (λ f. announced p c.name ≡ Err f) (λ q g. InConstant q c.value g)
    (behind_name p c.name) (announced_leads p c.name i at.k name) (name_behind p c.name)
    (λ q. retold (wide at.low (omega arith) (constant_leads q c.value at.l j at.value_at))
    (sym (told_joined (constant q c.value) (λ v. shown q c.name (meaning.Constant v)))))
    (omega (arith, name.0, name.1)) (let low = at.low in let some = at.some in omega arith)

type_declared : (p : Place) (t : TypeDecl) (i j : ℕ) → TypeDeclarationAt t i j
    → Leads i j (told (type_declaration p t))
    (λ f. (announced p t.name ≡ Err f) ⊎ InType (behind_name p t.name) t.shape f)
type_declared p t i j at =
    let name = at.name_at in
    let value = at.value_at in
    after_place i at.k j (announced p t.name) (λ q. type_expression t.shape q >>= λ shape. Ok
    (shown shape.0 t.name (meaning.TypeName shape.1))) (λ f. announced p t.name ≡ Err f)
    (λ q g. InType q t.shape g)
    (behind_name p t.name) (announced_leads p t.name i at.k name) (name_behind p t.name)
    (λ q. retold (wide at.low (omega arith) (value.leads q)) (sym (told_joined
    (type_expression t.shape q) (λ shape. shown shape.0 t.name (meaning.TypeName shape.1)))))
    (omega (arith, name.0, name.1)) (let low = at.low in let some = at.some in omega arith)

variables_declared : (p : Place) (vars : List ℕ) (l : NameList) (i j : ℕ) → NameListAt l i j
    → Leads i j (told (variable_list p vars l)) (λ f. NamesFail p (out-NameList l).names f ⊎
    InType (behind_names p (out-NameList l).names) (out-NameList l).shape f)
variables_declared p vars l i j at =
    let names = (out-NameList l).names in
    let t = (out-NameList l).shape in
    let value = at.type_at in
    after_place i at.k j (all_announced p names)
    (λ q. type_expression t q >>= λ shape. Ok (with_variables shape.0 vars shape.1 names))
    (NamesFail p names) (λ q g. InType q t g)
    (behind_names p names) (names_lead names p i at.k at.in_order) (names_behind names p)
    (λ q. retold (wide at.low (omega arith) (value.leads q))
    (sym (told_joined (type_expression t q) (λ shape. with_variables shape.0 vars shape.1 names))))
    (names_in_order names i at.k at.in_order) (let low = at.low in let some = value.some in
    omega arith)

-- what breaks in a list: in its first element, or behind it
shift : (A B C : Fault → Type 0) (f : Fault) → (A f ⊎ B f) ⊎ C f → A f ⊎ (B f ⊎ C f)
shift A B C f (inl (inl b)) = inl b
shift A B C f (inl (inr b)) = inr (inl b)
shift A B C f (inr b) = inr (inr b)

shift_back : (A B C : Fault → Type 0) (f : Fault) → A f ⊎ (B f ⊎ C f) → (A f ⊎ B f) ⊎ C f
shift_back A B C f (inl b) = inl (inl b)
shift_back A B C f (inr (inl b)) = inl (inr b)
shift_back A B C f (inr (inr b)) = inr b

pub defined_in_order : {X : Type 0} (name : X → ℕ) (Value : X → ℕ → ℕ → Type 0) (xs : List X)
    (i j : ℕ) → InOrder (λ x i j. Defines (name x) (Value x) i j) i xs j → i ≤ j
defined_in_order name Value [] i j h = h
defined_in_order name Value (x ∷ xs) i j (a, b, low, one, order) =
    let at = one.name_at in let l = one.low in let some = one.some in let rest =
    defined_in_order name Value xs b j order in omega (arith, at.0, at.1)

pub constants_lead : (cs : List ConstDecl) (p : Place) (i j : ℕ) → InOrder ConstantAt i cs j →
    Leads i j (told (all_constants p cs)) (InConstants p cs)
constants_lead [] p i j order = nothing
constants_lead (c ∷ cs) p i j (a, b, low, one, order) =
    let A = λ (f : Fault). announced p c.name ≡ Err f in
    let B = λ (f : Fault). InConstant (behind_name p c.name) c.value f in
    let C = λ (f : Fault). Behind (constant_declaration p c) (λ q g. InConstants q cs g) f in
    alike (after_behind i b j (constant_declaration p c) (λ q. all_constants q cs) (λ f. A f ⊎ B f)
    (λ q g. InConstants q cs g) (wide low (omega arith) (constant_declared p c a b one))
    (λ q. constants_lead cs q b j order)
    (let at = one.name_at in let l = one.low in let some = one.some in omega (arith, at.0, at.1))
    (defined_in_order (λ c. c.name) (λ c. ExpressionAt c.value) cs b j order)) refl (shift A B C)
    (shift_back A B C)

pub types_lead : (ts : List TypeDecl) (p : Place) (i j : ℕ) → InOrder TypeDeclarationAt i ts j →
    Leads i j (told (all_type_declarations p ts)) (InTypeDeclarations p ts)
types_lead [] p i j order = nothing
types_lead (t ∷ ts) p i j (a, b, low, one, order) =
    let A = λ (f : Fault). announced p t.name ≡ Err f in
    let B = λ (f : Fault). InType (behind_name p t.name) t.shape f in
    let C = λ (f : Fault). Behind (type_declaration p t) (λ q g. InTypeDeclarations q ts g) f in
    alike (after_behind i b j (type_declaration p t) (λ q. all_type_declarations q ts)
    (λ f. A f ⊎ B f) (λ q g. InTypeDeclarations q ts g)
    (wide low (omega arith) (type_declared p t a b one)) (λ q. types_lead ts q b j order)
    (let at = one.name_at in let l = one.low in let some = one.some in omega (arith, at.0, at.1))
    (defined_in_order (λ t. t.name) (λ t. TypeAt t.shape) ts b j order)) refl (shift A B C)
    (shift_back A B C)

pub variables_lead : (ls : List NameList) (p : Place) (vars : List ℕ) (i j : ℕ) →
    InOrder NameListAt i ls j → Leads i j (told (all_variables p vars ls)) (InVariables p vars ls)
variables_lead [] p vars i j order = nothing
variables_lead (l ∷ ls) p vars i j (a, b, low, one, order) =
    let A = λ (f : Fault). NamesFail p (out-NameList l).names f in
    let B = λ (f : Fault). InType (behind_names p (out-NameList l).names) (out-NameList l).shape
    f in
    let C = λ (f : Fault). Behind (variable_list p vars l)
    (λ more g. InVariables more.0 more.1 ls g) f in
    alike (after_behind i b j (variable_list p vars l) (λ more. all_variables more.0 more.1 ls)
    (λ f. A f ⊎ B f) (λ more g. InVariables more.0 more.1 ls g)
    (wide low (omega arith) (variables_declared p vars l a b one))
    (λ more. variables_lead ls more.0 more.1 b j order)
    (let h = of_type_in_order (out-NameList l).names (out-NameList l).shape a b one in omega arith)
    (lists_in_order ls b j order)) refl (shift A B C) (shift_back A B C)

-- ---- parameters

abbrev pub SectionAt : Section → ℕ → ℕ → Type 0
SectionAt s i j = NamesOfType s.names s.shape i j

parameter_at : (by_var : Bool) (token t : ℕ) (f : Fault) → parameter_type by_var token t ≡ Err f →
    f.1 ≡ token
parameter_at by_var token t f h = by_test (by_var || (nat_eq t integer || nat_eq t boolean)) (Ok t)
    (Err (21, token)) (Err f) (λ t is. cc) (λ t is. cc) h

parameter_leads : (q : Place) (s : Section) (i j : ℕ) → TypeAt s.shape i j
    → Leads i j (told (type_expression s.shape q >>= λ t. parameter_type s.by_var
    (out-TypeExpr s.shape).span.last t.1)) (InParameterType q s)
parameter_leads q s i j at =
    tested (type_expression s.shape q)
    (λ t. parameter_type s.by_var (out-TypeExpr s.shape).span.last t.1) (at.leads q)
    (λ t f h. let there = parameter_at s.by_var (out-TypeExpr s.shape).span.last t.1 f h in
    let end = at.last in let some = at.some in
    (omega (arith, there, end, some), omega (arith, there, end)))

section_told : {A B C : Type 0} (r : Judged A) (g : A → Judged B) (h : A → B → C) → told (r >>= g) ≡
    told (r >>= λ x. g x >>= λ y. Ok (h x y))
section_told (Ok x) g h = sym (told_joined (g x) (h x))
section_told (Err f) g h = refl

section_declared : (p : Place) (params : List Param) (s : Section) (i j : ℕ) → SectionAt s i j
    → Leads i j (told (section p params s))
    (λ f. NamesFail p s.names f ⊎ InParameterType (behind_names p s.names) s f)
section_declared p params s i j at =
    let value = at.type_at in
    let kind = λ (t : Place × ℕ). parameter_type s.by_var (out-TypeExpr s.shape).span.last t.1 in
    after_place i at.k j (all_announced p s.names)
    (λ q. type_expression s.shape q >>= λ t. kind t >>= λ type_id. Ok
    (with_parameters t.0 params s.by_var type_id s.names)) (NamesFail p s.names)
    (λ q g. InParameterType q s g)
    (behind_names p s.names) (names_lead s.names p i at.k at.in_order) (names_behind s.names p)
    (λ q. retold (wide at.low (omega arith) (parameter_leads q s at.l j value))
    (section_told (type_expression s.shape q) kind
    (λ t type_id. with_parameters t.0 params s.by_var type_id s.names)))
    (names_in_order s.names i at.k at.in_order) (let low = at.low in let some = value.some in
    omega arith)

pub sections_in_order : (ss : List Section) (i j : ℕ) → InOrder SectionAt i ss j → i ≤ j
sections_in_order [] i j h = h
sections_in_order (s ∷ ss) i j (a, b, low, one, order) = let first =
    of_type_in_order s.names s.shape a b one in let rest = sections_in_order ss b j order in
    omega arith

sections_lead : (ss : List Section) (p : Place) (params : List Param) (i j : ℕ) →
    InOrder SectionAt i ss j → Leads i j (told (all_sections p params ss)) (InSections p params ss)
sections_lead [] p params i j order = nothing
sections_lead (s ∷ ss) p params i j (a, b, low, one, order) =
    let A = λ (f : Fault). NamesFail p s.names f in
    let B = λ (f : Fault). InParameterType (behind_names p s.names) s f in
    let C = λ (f : Fault). Behind (section p params s) (λ more g. InSections more.0 more.1 ss g)
    f in
    alike (after_behind i b j (section p params s) (λ more. all_sections more.0 more.1 ss)
    (λ f. A f ⊎ B f) (λ more g. InSections more.0 more.1 ss g)
    (wide low (omega arith) (section_declared p params s a b one))
    (λ more. sections_lead ss more.0 more.1 b j order)
    (let h = of_type_in_order s.names s.shape a b one in omega arith)
    (sections_in_order ss b j order)) refl (shift A B C) (shift_back A B C)

pub heading_leads : (p : Place) (name : ℕ) (ss : List Section) (i k l j : ℕ) → NameAt name i k →
    k ≤ l → InOrder SectionAt l ss j → Leads i j (told (heading p name ss)) (InHeading p name ss)
heading_leads p name ss i k l j at low order =
    after_place i k j (announced p name)
    (λ q. all_sections (entered q (length q.headings) []) [] ss >>= λ inside. Ok (
      entered (with_heading (left inside.0 q.here) name inside.1) (length q.headings)
          inside.0.scope,
      inside.1,
    ))
    (λ f. announced p name ≡ Err f) (λ q g. InSections (entered q (length q.headings) []) [] ss g)
    (behind_name p name) (announced_leads p name i k at) (name_behind p name) (λ q. retold
    (wide low (omega arith) (sections_lead ss (entered q (length q.headings) []) [] l j order))
    (sym (told_joined (all_sections (entered q (length q.headings) []) [] ss) (λ inside. (
      entered
          (with_heading (left inside.0 q.here) name inside.1) (length q.headings) inside.0.scope,
      inside.1,
    ))))) (omega (arith, at.0, at.1)) (let h = sections_in_order ss l j order in omega arith)
