-- What declarations give: types that are formed, variables of types that are there, and value
-- parameters that are scalars. In a checked module that has these variables and parameters, what is
-- behind the declarations shows what is there.
use Rattle.std.proofs.Common.{◌≡◌, ℕ, zero, suc, ◌+◌, ◌<◌, ◌≤◌, Bool, true, false, List, [], ◌∷◌}
use Rattle.std.proofs.Common.{◌++◌, length, Some, None, ap, sym, ◌∙◌, subst, arith, length-append}
use Rattle.std.proofs.Common.{lt-ltb}
use Rattle.std.specs.Prelude.{Ok, Err, slice_get}
use Rattle.std.proofs.lemmas.List.{append-nil, append_assoc}
use Rattle.pra_list.proofs.Results.{came_of}
use Rattle.pra_list.proofs.Elements.{got_front, got_last}
use Rattle.pra_list.proofs.Choices.{by_test}
use Rattle.pra_list.proofs.Options.{some_same, none_some}
use Rattle.pra_list.specs.Results.{◌>>=◌}
use Rattle.ob_syntax.specs.declared.checked.Checked.{Checked}
use Rattle.ob_syntax.specs.declared.checked.Meaning.TheVariants as meaning
use Rattle.ob_syntax.specs.declared.checked.Param.{Param}
use Rattle.ob_syntax.specs.declared.checked.Root.TheVariants as root
use Rattle.ob_syntax.specs.declared.checked.Shape.{Shape}
use Rattle.ob_syntax.specs.declared.tree.ConstDecl.{ConstDecl}
use Rattle.ob_syntax.specs.declared.tree.NameList.{NameList, out-NameList}
use Rattle.ob_syntax.specs.declared.tree.Section.{Section}
use Rattle.ob_syntax.specs.declared.tree.TypeDecl.{TypeDecl}
use Rattle.ob_syntax.specs.declared.tree.TypeExpr.{TypeExpr, out-TypeExpr}
use Rattle.ob_syntax.specs.Declarations.{announced, all_announced, shown, constant_declaration}
use Rattle.ob_syntax.specs.Declarations.{all_constants, type_declaration, all_type_declarations}
use Rattle.ob_syntax.specs.Declarations.{own_root, with_variables, variable_list, all_variables}
use Rattle.ob_syntax.specs.Declarations.{parameter_type, with_parameters, section, all_sections}
use Rattle.ob_syntax.specs.Declarations.{entered, left, with_heading, heading}
use Rattle.ob_syntax.specs.Names.{Place, name_at, is_declared, with_name}
use Rattle.ob_syntax.specs.Types.{constant, type_expression}
use Rattle.ob_syntax.specs.WellFormed.{is_scalar}
use Rattle.ob_mean.specs.Designators.{type_at, type_in}
use Rattle.vc_typed.specs.Typing.{typed, root_typing, is_declared_in}
use Rattle.vc_typed.specs.Fitting.{AreAlike, AllThere, ValuesAreScalars, HasProcedure}
use Rattle.vc_typed.proofs.Bindings.{ok_same, ok_err}
use Rattle.vc_typed.proofs.Lists.{got}
use Rattle.vc_typed.proofs.Scopes.{Sound, ready, mean_with_name, Onward, few_types, onward_stays}
use Rattle.vc_typed.proofs.Scopes.{onward_on, onward_scope, onward_shown, onward_type, left_sound}
use Rattle.vc_typed.proofs.Scopes.{entered_sound, Shows, announced_there, all_there_more}
use Rattle.vc_typed.proofs.Scopes.{each_there_more, named_there, shows_scope, shows_shown}
use Rattle.vc_typed.proofs.Scopes.{shows_type, left_shows, entered_shows}
use Rattle.vc_typed.proofs.TypeTrees.{AllBelow, type_good}

-- ---- names, constants and types

-- A place behind another one, with what it shows of any checked module.
pub record Behind (p q : Place) : Type 0 where
  pub onward : Onward p q
  pub shows : (program : Checked) → Shows program p → Shows program q

behind_stays : (p : Place) → Sound p → Behind p p
behind_stays p sound = record { onward = onward_stays p sound; shows = λ program s. s }

behind_on : (p q r : Place) → Behind p q → Behind q r → Behind p r
behind_on p q r a b = record {
  onward = onward_on p q r a.onward b.onward;
  shows =
      λ program s. b.shows program (a.shows program s);
}

announced_behind : (p q : Place) (k : ℕ) → Sound p → announced p k ≡ Ok q → Behind p q
announced_behind p q k sound is =
    let s = with_name (name_at p k) None p.scope in
    by_test (is_declared (name_at p k) p.scope) (Err (3, k)) (Ok (record p { scope = s })) (Ok q)
    (λ b same. absurd (ok_err same))
    (λ b same. subst (Behind p) (ok_same (record p { scope = s }) q same) (record {
      onward = onward_scope p s sound
          (mean_with_name (length p.types) (name_at p k) None p.scope
          (λ m is. absurd (none_some is)) sound.scope);
      shows = λ program shows. shows_scope program p s shows
          (announced_there program (length p.types) (length p.headings) (name_at p k) p.scope
          shows.scope);
    })) is

names_behind : (p q : Place) (ks : List ℕ) → Sound p → all_announced p ks ≡ Ok q → Behind p q
names_behind p q [] sound is = subst (Behind p) (ok_same p q is) (behind_stays p sound)
names_behind p q (k ∷ ks) sound is =
    let of = came_of (announced p k) (λ r. all_announced r ks) q is in
    let one = announced_behind p of.0 k sound of.1 in
    behind_on p of.0 q one (names_behind of.0 q ks one.onward.sound of.2)

constant_behind : (p q : Place) (c : ConstDecl) → Sound p → constant_declaration p c ≡ Ok q →
    Behind p q
constant_behind p q c sound is =
    let one = came_of (announced p c.name)
    (λ r. constant r c.value >>= λ v. Ok (shown r c.name (meaning.Constant v))) q is in
    let two = came_of (constant one.0 c.value) (λ v. Ok (shown one.0 c.name (meaning.Constant v))) q
    one.2 in
    let name = announced_behind p one.0 c.name sound one.1 in
    let m = meaning.Constant two.0 in
    subst (Behind p) (ok_same (shown one.0 c.name m) q two.2)
    (behind_on p one.0 (shown one.0 c.name m) name (record {
      onward = onward_shown one.0 c.name m name.onward.sound tt;
      shows = λ program shows. shows_shown program one.0 c.name m shows tt;
    }))

pub constants_behind : (p q : Place) (cs : List ConstDecl) → Sound p → all_constants p cs ≡ Ok q →
    Behind p q
constants_behind p q [] sound is = subst (Behind p) (ok_same p q is) (behind_stays p sound)
constants_behind p q (c ∷ cs) sound is =
    let of = came_of (constant_declaration p c) (λ r. all_constants r cs) q is in
    let one = constant_behind p of.0 c sound of.1 in
    behind_on p of.0 q one (constants_behind of.0 q cs one.onward.sound of.2)

type_behind : (p q : Place) (t : TypeDecl) → Sound p → type_declaration p t ≡ Ok q → Behind p q
type_behind p q t sound is =
    let one = came_of (announced p t.name)
    (λ r. type_expression t.shape r >>= λ shape. Ok
    (shown shape.0 t.name (meaning.TypeName shape.1))) q is in
    let two = came_of (type_expression t.shape one.0)
    (λ shape. Ok (shown shape.0 t.name (meaning.TypeName shape.1))) q one.2 in
    let name = announced_behind p one.0 t.name sound one.1 in
    let added = (type_good t.shape).adds one.0 (ready one.0 name.onward.sound) two.0 two.1 in
    let on = onward_type one.0 two.0.0 name.onward.sound added.extends in
    let m = meaning.TypeName two.0.1 in
    subst (Behind p) (ok_same (shown two.0.0 t.name m) q two.2) (record {
      onward = onward_on p one.0 (shown two.0.0 t.name m) name.onward
          (onward_on one.0 two.0.0 (shown two.0.0 t.name m) on
          (onward_shown two.0.0 t.name m on.sound added.within));
      shows = λ program shows. shows_shown program two.0.0 t.name m
          (shows_type program one.0 two.0.0 added.extends (name.shows program shows)) added.within;
    })

pub types_behind : (p q : Place) (ts : List TypeDecl) → Sound p → all_type_declarations p ts ≡
    Ok q → Behind p q
types_behind p q [] sound is = subst (Behind p) (ok_same p q is) (behind_stays p sound)
types_behind p q (t ∷ ts) sound is =
    let of = came_of (type_declaration p t) (λ r. all_type_declarations r ts) q is in
    let one = type_behind p of.0 t sound of.1 in
    behind_on p of.0 q one (types_behind of.0 q ts one.onward.sound of.2)

-- names that are announced, and then a type
record Added (p : Place) (r : Place × ℕ) : Type 0 where
  behind : Behind p r.0
  within : r.1 < length r.0.types

typed_behind : (p q : Place) (r : Place × ℕ) (ks : List ℕ) (t : TypeExpr) → Sound p →
    all_announced p ks ≡ Ok q → type_expression t q ≡ Ok r → Added p r
typed_behind p q r ks t sound names type =
    let name = names_behind p q ks sound names in
    let added = (type_good t).adds q (ready q name.onward.sound) r type in
    record {
      behind = behind_on p q r.0 name
          (record {
            onward = onward_type q r.0 name.onward.sound added.extends;
            shows =
                λ program shows. shows_type program q r.0 added.extends shows;
          });
      within = added.within;
    }

-- ---- variables

pub all_more : (a b : ℕ) → a ≤ b → (vars : List ℕ) → AllBelow a vars → AllBelow b vars
all_more a b le vars all k t is = let lt = all k t is in omega (arith, le, lt)

-- the module has these variables, or the procedure here
abbrev pub VarsIn : Checked → ℕ → List ℕ → Type 0
VarsIn program here vars = (k t : ℕ) → slice_get vars k ≡ Some t →
    root_typing program here (own_root here k) ≡ typed true t

-- Variables behind others. In a module that has them all they are there.
pub record VarsBehind (p : Place) (vars : List ℕ) (r : Place × List ℕ) : Type 0 where
  pub onward : Onward p r.0
  pub below : AllBelow (length r.0.types) r.1
  later : List ℕ
  longer : r.1 ≡ vars ++ later
  pub shows : (program : Checked) → VarsIn program p.here r.1 → Shows program p → Shows program r.0

shown_variables : (p : Place) (vars : List ℕ) (t : ℕ) (ks : List ℕ) → Sound p →
    AllBelow (length p.types) vars → t < length p.types →
    VarsBehind p vars (with_variables p vars t ks)
shown_variables p vars t [] sound all lt =
    record {
      onward = onward_stays p sound;
      below = all;
      later = [];
      longer = sym (append-nil vars);
      shows = λ program inside s. s;
    }
shown_variables p vars t (k ∷ ks) sound all lt =
    let m = meaning.Variable p.here (own_root p.here (length vars)) t in
    let one = onward_shown p k m sound tt in
    let rest = shown_variables (shown p k m) (vars ++ t ∷ []) t ks one.sound
    (λ j x at. got vars t x j at (λ l is. all j x is)
    (λ end is. subst (λ z. z < length p.types) is lt)) lt in
    let r = with_variables (shown p k m) (vars ++ t ∷ []) t ks in
    let whole : r.1 ≡ vars ++ t ∷ rest.later = rest.longer ∙ append_assoc vars
    (t ∷ []) rest.later in
    record {
      onward = onward_on p (shown p k m) r.0 one rest.onward;
      below = rest.below;
      later = t ∷ rest.later;
      longer = whole;
      shows = λ program inside s. rest.shows program inside
          (shows_shown program p k m s
          (inside (length vars) t (ap (λ z. slice_get z (length vars)) whole
          ∙ got_last vars t rest.later)));
    }

list_behind : (p : Place) (vars : List ℕ) (l : NameList) (r : Place × List ℕ) → Sound p →
    AllBelow (length p.types) vars → variable_list p vars l ≡ Ok r → VarsBehind p vars r
list_behind p vars l r sound all is =
    let names = (out-NameList l).names in
    let t = (out-NameList l).shape in
    let one = came_of (all_announced p names)
    (λ q. type_expression t q >>= λ shape. Ok (with_variables shape.0 vars shape.1 names)) r
    is in
    let two = came_of (type_expression t one.0)
    (λ shape. Ok (with_variables shape.0 vars shape.1 names)) r one.2 in
    let q = two.0.0 in
    let of = typed_behind p one.0 two.0 names t sound one.1 two.1 in
    let vs = shown_variables q vars two.0.1 names of.behind.onward.sound
    (all_more (length p.types) (length q.types) (few_types p q of.behind.onward) vars all)
    of.within in
    let w = with_variables q vars two.0.1 names in
    subst (VarsBehind p vars) (ok_same w r two.2) (record {
      onward = onward_on p q w.0 of.behind.onward vs.onward;
      below = vs.below;
      later = vs.later;
      longer = vs.longer;
      shows = λ program inside s. vs.shows program
          (subst (λ h. VarsIn program h w.1) (sym of.behind.onward.here) inside)
          (of.behind.shows program s);
    })

pub variables_behind : (p : Place) (vars : List ℕ) (ls : List NameList) (r : Place × List ℕ) →
    Sound p → AllBelow (length p.types) vars → all_variables p vars ls ≡ Ok r → VarsBehind p vars r
variables_behind p vars [] r sound all is =
    subst (VarsBehind p vars) (ok_same (p, vars) r is)
    (record {
      onward = onward_stays p sound;
      below = all;
      later = [];
      longer =
          sym (append-nil vars);
      shows = λ program inside s. s;
    })
variables_behind p vars (l ∷ ls) r sound all is =
    let of = came_of (variable_list p vars l) (λ more. all_variables more.0 more.1 ls) r is in
    let one = list_behind p vars l of.0 sound all of.1 in
    let rest = variables_behind of.0.0 of.0.1 ls r one.onward.sound one.below of.2 in
    record {
      onward = onward_on p of.0.0 r.0 one.onward rest.onward;
      below = rest.below;
      later = one.later ++ rest.later;
      longer = rest.longer ∙ ap (λ z. z ++ rest.later) one.longer
          ∙ append_assoc vars one.later rest.later;
      shows = λ program inside s.
          rest.shows program (subst (λ h. VarsIn program h r.1) (sym one.onward.here) inside)
          (one.shows program (λ k t at. inside k t
          (ap (λ z. slice_get z k) rest.longer ∙ got_front of.0.1 rest.later k t at)) s);
    }

-- ---- parameters

scalars_last : (params : List Param) (q : Param) → ValuesAreScalars params →
    (q.by_var ≡ false → is_scalar q.type_id ≡ true) → ValuesAreScalars (params ++ q ∷ [])
scalars_last [] q all one = (one, tt)
scalars_last (x ∷ params) q (first, rest) one = (first, scalars_last params q rest one)

-- the procedure here has these parameters
abbrev ParamsIn : Checked → ℕ → List Param → Type 0
ParamsIn program here params = (k : ℕ) (q : Param) → slice_get params k ≡ Some q →
    root_typing program here (root.Param k) ≡ typed true q.type_id

record ParamsBehind (p : Place) (params : List Param) (r : Place × List Param) : Type 0 where
  onward : Onward p r.0
  scalars : ValuesAreScalars r.1
  later : List Param
  longer : r.1 ≡ params ++ later
  shows : (program : Checked) → ParamsIn program p.here r.1 → Shows program p → Shows program r.0

parameter_scalar : (by_var : Bool) (token t u : ℕ) → parameter_type by_var token t ≡ Ok u →
    by_var ≡ false → is_scalar u ≡ true
parameter_scalar true token t u is value = absurd (cc)
parameter_scalar false token t u is value =
    by_test (is_scalar t) (Ok t) (Err (21, token)) (Ok u)
    (λ b same. ap is_scalar (sym (ok_same t u same)) ∙ b) (λ b same. absurd (ok_err same)) is

shown_parameters : (p : Place) (params : List Param) (by_var : Bool) (t : ℕ) (ks : List ℕ) →
    Sound p → ValuesAreScalars params → (by_var ≡ false → is_scalar t ≡ true) →
    ParamsBehind p params (with_parameters p params by_var t ks)
shown_parameters p params by_var t [] sound all one =
    record {
      onward = onward_stays p sound;
      scalars = all;
      later = [];
      longer =
          sym (append-nil params);
      shows = λ program inside s. s;
    }
shown_parameters p params by_var t (k ∷ ks) sound all one =
    let m = meaning.Variable p.here (root.Param (length params)) t in
    let q : Param = record { by_var = by_var; type_id = t; addressed = false } in
    let named = onward_shown p k m sound tt in
    let rest = shown_parameters (shown p k m) (params ++ q ∷ []) by_var t ks named.sound
    (scalars_last params q all one) one in
    let r = with_parameters (shown p k m) (params ++ q ∷ []) by_var t ks in
    let whole : r.1 ≡ params ++ q ∷ rest.later = rest.longer ∙ append_assoc params
    (q ∷ []) rest.later in
    record {
      onward = onward_on p (shown p k m) r.0 named rest.onward;
      scalars = rest.scalars;
      later = q ∷ rest.later;
      longer = whole;
      shows = λ program inside s. rest.shows program inside
          (shows_shown program p k m s
          (inside (length params) q
          (ap (λ z. slice_get z (length params)) whole ∙ got_last params q rest.later)));
    }

section_behind : (p : Place) (params : List Param) (s : Section) (r : Place × List Param) →
    Sound p → ValuesAreScalars params → section p params s ≡ Ok r → ParamsBehind p params r
section_behind p params s r sound all is =
    let token = (out-TypeExpr s.shape).span.last in
    let one = came_of (all_announced p s.names)
    (λ q. type_expression s.shape q >>= λ shape. parameter_type s.by_var token shape.1 >>=
    λ type_id. Ok (with_parameters shape.0 params s.by_var type_id s.names)) r is in
    let two = came_of (type_expression s.shape one.0)
    (λ shape. parameter_type s.by_var token shape.1 >>= λ type_id. Ok
    (with_parameters shape.0 params s.by_var type_id s.names)) r one.2 in
    let three = came_of (parameter_type s.by_var token two.0.1)
    (λ type_id. Ok (with_parameters two.0.0 params s.by_var type_id s.names)) r two.2 in
    let q = two.0.0 in
    let of = typed_behind p one.0 two.0 s.names s.shape sound one.1 two.1 in
    let ps = shown_parameters q params s.by_var three.0 s.names of.behind.onward.sound all
    (parameter_scalar s.by_var token two.0.1 three.0 three.1) in
    let w = with_parameters q params s.by_var three.0 s.names in
    subst (ParamsBehind p params) (ok_same w r three.2) (record {
      onward = onward_on p q w.0 of.behind.onward ps.onward;
      scalars = ps.scalars;
      later = ps.later;
      longer = ps.longer;
      shows = λ program inside shows. ps.shows program
          (subst (λ h. ParamsIn program h w.1) (sym of.behind.onward.here) inside)
          (of.behind.shows program shows);
    })

sections_behind : (p : Place) (params : List Param) (ss : List Section) (r : Place × List Param) →
    Sound p → ValuesAreScalars params → all_sections p params ss ≡ Ok r → ParamsBehind p params r
sections_behind p params [] r sound all is =
    subst (ParamsBehind p params) (ok_same (p, params) r is)
    (record {
      onward = onward_stays p sound;
      scalars = all;
      later = [];
      longer =
          sym (append-nil params);
      shows = λ program inside s. s;
    })
sections_behind p params (s ∷ ss) r sound all is =
    let of = came_of (section p params s) (λ more. all_sections more.0 more.1 ss) r is in
    let one = section_behind p params s of.0 sound all of.1 in
    let rest = sections_behind of.0.0 of.0.1 ss r one.onward.sound one.scalars of.2 in
    record {
      onward = onward_on p of.0.0 r.0 one.onward rest.onward;
      scalars = rest.scalars;
      later = one.later ++ rest.later;
      longer = rest.longer ∙ ap (λ z. z ++ rest.later) one.longer ∙ append_assoc params one.later
          rest.later;
      shows = λ program inside shows.
          rest.shows program (subst (λ h. ParamsIn program h r.1) (sym one.onward.here) inside)
          (one.shows program (λ k q at. inside k q
          (ap (λ z. slice_get z k) rest.longer ∙ got_front of.0.1 rest.later k q at)) shows);
    }

-- ---- headings

alike_at : (params others : List Param) (k : ℕ) (q : Param) → AreAlike params others →
    slice_get params k ≡ Some q → (k < length others) ×
    (type_at (λ x. x.type_id) others k ≡ q.type_id)
alike_at [] others k q alike at = absurd (none_some at)
alike_at (p ∷ ps) [] k q alike at = absurd alike
alike_at (p ∷ ps) (x ∷ xs) zero q (kind, of, alike) at =
    (omega arith, sym of ∙ ap (λ (z : Param). z.type_id) (some_same p q at))
alike_at (p ∷ ps) (x ∷ xs) (suc k) q (kind, of, alike) at = let rest =
    alike_at ps xs k q alike at in let lt = rest.0 in (omega (arith, lt), rest.1)

-- a procedure of the module has its parameters
params_in : (program : Checked) (id : ℕ) (params : List Param) → HasProcedure program id params →
    ParamsIn program id params
params_in program id params has k q at =
    let of = alike_at params has.proc.params k q has.alike at in
    ap (λ o. typed (is_declared_in o (root.Param k)) (type_in o (root.Param k))) has.there
    ∙ ap (λ b. typed b (type_at (λ x. x.type_id) has.proc.params k))
    (lt-ltb k (length has.proc.params) of.0) ∙ ap (typed true) of.1

abbrev headed : ℕ → Place → Place × List Param → Place × List Param
headed name q inside = (
  entered (with_heading (left inside.0 q.here) name inside.1)
      (length q.headings) inside.0.scope,
  inside.1,
)

-- The place inside a procedure, whose heading comes behind those before.
pub record HeadingBehind (p : Place) (r : Place × List Param) : Type 0 where
  pub more : List Shape
  pub grown : r.0.types ≡ p.types ++ more
  pub here : r.0.here ≡ length p.headings
  pub tokens : r.0.tokens ≡ p.tokens
  pub headings : r.0.headings ≡ p.headings ++ r.1 ∷ []
  pub nodes : r.0.nodes ≡ p.nodes
  pub sound : Sound r.0
  pub scalars : ValuesAreScalars r.1
  pub shows : (program : Checked) → HasProcedure program (length p.headings) r.1 → Shows program p →
      Shows program r.0

-- one more heading
with_heading_sound : (p : Place) (name : ℕ) (params : List Param) → Sound p →
    Sound (with_heading p name params)
with_heading_sound p name params sound =
    let named = (onward_shown p name (meaning.Procedure (length p.headings)) sound tt).sound in
    record {
      formed = named.formed;
      scope = named.scope;
      outer = named.outer;
      begun = let some =
          sound.begun in omega (arith, some, length-append p.headings (params ∷ []));
    }

with_heading_shows : (program : Checked) (p : Place) (name : ℕ) (params : List Param) →
    HasProcedure program (length p.headings) params → Shows program p →
    Shows program (with_heading p name params)
with_heading_shows program p name params has shows =
    let n = length p.types in
    let old = length p.headings in
    let new = length (p.headings ++ params ∷ []) in
    let count : new ≡ old + 1 = length-append p.headings (params ∷ []) in
    let le : old ≤ new = omega (arith, count) in
    let lt : old < new = omega (arith, count) in
    let same : n ≤ n = omega arith in
    record {
      headings = λ id ps at. got p.headings params ps id at (λ l is. shows.headings id ps is)
          (λ end is. subst (λ z. HasProcedure program id z) is
          (subst (λ z. HasProcedure program z params) (sym end) has));
      scope = named_there program n new (name_at p name) (meaning.Procedure old) p.scope lt
          (all_there_more program n n old new same le p.scope shows.scope);
      outer = each_there_more program n n old new same le p.outer shows.outer;
    }

pub heading_behind : (p : Place) (name : ℕ) (ss : List Section) (r : Place × List Param) → Sound p →
    heading p name ss ≡ Ok r → HeadingBehind p r
heading_behind p name ss r sound is =
    let result = headed name in
    let one = came_of (announced p name)
    (λ q. all_sections (entered q (length q.headings) []) [] ss >>= λ inside. Ok
    (result q inside)) r is in
    let q = one.0 in
    let e = entered q (length q.headings) [] in
    let two = came_of (all_sections e [] ss) (λ inside. Ok (result q inside)) r one.2 in
    let named = announced_behind p q name sound one.1 in
    let inside = sections_behind e [] ss two.0
    (entered_sound q (length q.headings) [] named.onward.sound tt) tt two.1 in
    let place = two.0.0 in
    let params = two.0.1 in
    let outside = left place q.here in
    let h = with_heading outside name params in
    let count : q.headings ≡ p.headings = named.onward.headings in
    let old : place.headings ≡ p.headings = inside.onward.headings ∙ count in
    subst (HeadingBehind p) (ok_same (result q two.0) r two.2) (record {
      more = named.onward.more ++ inside.onward.more;
      grown = inside.onward.grown ∙ ap (λ ts. ts ++ inside.onward.more) named.onward.grown
          ∙ append_assoc p.types named.onward.more inside.onward.more;
      here = ap length count;
      tokens = inside.onward.tokens ∙ named.onward.tokens;
      headings = ap (λ hs. hs ++ params ∷ []) old;
      nodes = inside.onward.nodes ∙ named.onward.nodes;
      sound = entered_sound h (length q.headings) place.scope
          (with_heading_sound outside name params (left_sound place q.here inside.onward.sound))
          inside.onward.sound.scope;
      scalars = inside.scalars;
      shows = λ program has shows.
          let here : HasProcedure program (length q.headings) params =
          subst (λ n. HasProcedure program n params) (sym (ap length count)) has in
          let there : HasProcedure program (length place.headings) params =
          subst (λ n. HasProcedure program n params) (sym (ap length old)) has in
          let in_params = inside.shows program (params_in program (length q.headings) params here)
          (entered_shows program q (length q.headings) [] (named.shows program shows) tt) in
          let in_heading = with_heading_shows program outside name params there
          (left_shows program place q.here in_params) in
          entered_shows program h (length q.headings) place.scope in_heading
          (more_there program place params in_params.scope);
    })
  where
    more_there : (program : Checked) (place : Place) (params : List Param) →
        AllThere program (length place.types) (length place.headings) place.scope →
        AllThere program (length place.types) (length (place.headings ++ params ∷ [])) place.scope
    more_there program place params all =
        all_there_more program (length place.types) (length place.types) (length place.headings)
        (length (place.headings ++ params ∷ [])) (omega arith)
        (omega (arith, length-append place.headings (params ∷ []))) place.scope all
