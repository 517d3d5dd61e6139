-- What an expression is read as has a good typing, in a place that fits the module.
use Rattle.std.proofs.Common.{◌≡◌, ℕ, ℤ, ◌<◌, true, false, ◌&&◌, List, [], ◌∷◌, ◌++◌, length, map}
use Rattle.std.proofs.Common.{Option, Some, None, refl, ap, sym, ◌∙◌, subst, arith, eqb-true}
use Rattle.std.proofs.Common.{lt-ltb}
use Rattle.std.specs.Prelude.{Ok, Err, nat_eq, nat_lt, slice_get, slice_index, unwrap_or, bytes_eq}
use Rattle.std.specs.Prelude.{codes, ◌||◌}
use Rattle.std.proofs.lemmas.List.{map-append}
use Rattle.std.proofs.lemmas.List.Quantifiers.{position-Some}
use Rattle.pra_list.proofs.Results.{came_of}
use Rattle.pra_list.proofs.Choices.{by_test, and_true}
use Rattle.pra_list.specs.Results.{◌>>=◌}
use Rattle.ob_syntax.specs.declared.checked.Checked.{Checked}
use Rattle.ob_syntax.specs.declared.checked.Meaning.{Meaning}
use Rattle.ob_syntax.specs.declared.checked.Meaning.TheVariants as meaning
use Rattle.ob_syntax.specs.declared.checked.ROp.{ROp}
use Rattle.ob_syntax.specs.declared.checked.ROp.TheVariants as op
use Rattle.ob_syntax.specs.declared.checked.RExpr.{RExpr, RExpr-F, roll-RExpr, out-RExpr}
use Rattle.ob_syntax.specs.declared.checked.RExpr.{out-roll-RExpr}
use Rattle.ob_syntax.specs.declared.checked.RExpr.TheVariants as x
use Rattle.ob_syntax.specs.declared.checked.Root.{Root}
use Rattle.ob_syntax.specs.declared.checked.Root.TheVariants as root
use Rattle.ob_syntax.specs.declared.checked.RStep.{RStep}
use Rattle.ob_syntax.specs.declared.checked.RStep.TheVariants as step
use Rattle.ob_syntax.specs.declared.checked.RVar.{RVar, fold-roll-RVar}
use Rattle.ob_syntax.specs.declared.checked.Shape.{Shape}
use Rattle.ob_syntax.specs.declared.checked.Shape.TheVariants.{Integer, Boolean, Array, Record}
use Rattle.ob_syntax.specs.declared.checked.Typed.{Typed}
use Rattle.ob_syntax.specs.declared.checked.Value.{Value}
use Rattle.ob_syntax.specs.declared.checked.Value.TheVariants.{Number, Truth}
use Rattle.ob_syntax.specs.declared.token.Kind.{Kind}
use Rattle.ob_syntax.specs.declared.token.Kind.TheVariants as kind
use Rattle.ob_syntax.specs.Expressions.{Phrase, Next, Selected, Selection, integer, boolean}
use Rattle.ob_syntax.specs.Expressions.{of_type, operand, result_type, binary, are_alike}
use Rattle.ob_syntax.specs.Expressions.{compared_alike, related, chained, signed_term, designated}
use Rattle.ob_syntax.specs.Expressions.{literal, typed, selected, variable, field, field_names}
use Rattle.ob_syntax.specs.Expressions.{field_number, the_field, element}
use Rattle.ob_syntax.specs.Names.{Place, Scope, name_at, used, visible, or_else, innermost}
use Rattle.ob_syntax.specs.Names.{standard, is_within_reach, reached, known}
use Rattle.ob_syntax.specs.Names.{meaning as meaning_of}
use Rattle.ob_syntax.specs.declared.checked.Standard.TheVariants.{Read, Write, WriteLine}
use Rattle.pra_list.proofs.Options.{some_same, none_some}
use Rattle.std.proofs.lemmas.Option.{slice_get_within}
use Rattle.ob_syntax.specs.WellFormed.{is_scalar}
use Rattle.ob_mean.specs.Designators.{shape_of, field_types, field_type, element_type}
use Rattle.vc_typed.specs.Typing as t
use Rattle.vc_typed.specs.Typing.{Typing, Leading, ToField, ToElement, is_of, is_array, into, along}
use Rattle.vc_typed.specs.Typing.{root_typing, typing, leading, variable_typing, binary_typing}
use Rattle.vc_typed.specs.Typing.{expr_typing, step_typing, var_typing, designated_typing}
use Rattle.vc_typed.specs.Fitting.{Fits, IsThere, AllThere, EachThere}
use Rattle.vc_typed.proofs.Bindings.{ok_same, of_type_is, eq_self}
use Rattle.vc_typed.proofs.Equations.{typing-Number, typing-Truth, typing-Var, typing-Negate}
use Rattle.vc_typed.proofs.Equations.{typing-Not, typing-Binary, leading-Field, leading-Index}

module _ (program : Checked) where
  -- What is read has the typing of its type: a scalar as an expression, a variable as such.
  pub record Holds (here : ℕ) (e : Typed) : Type 0 where
    pub value : is_scalar e.type_id ≡ true → typing program here e.expr ≡ t.typed true e.type_id
    pub variable : (v : RVar) → out-RExpr e.expr ≡ RExpr-F.Var v → variable_typing program here v ≡
        t.typed true e.type_id

  pub record GoodPhrase (ph : Phrase) : Type 0 where
    pub holds : (p : Place) → Fits program p → (e : Typed) → ph.judge p ≡ Ok e → Holds p.here e

  pub record GoodSelection (s : Selection) : Type 0 where
    pub leads : (p : Place) → Fits program p → (type_id : ℕ) (r : RStep × ℕ) → s p type_id ≡ Ok r →
        into program.types (t.typed true type_id) (leading program p.here r.0) ≡ t.typed true r.1

  -- ---- scalars

  pub of_type_typed : (here rule type_id token : ℕ) (e : Typed) (y : RExpr) → is_scalar type_id ≡
      true → Holds here e → of_type rule type_id token e ≡ Ok y → typing program here y ≡
      t.typed true type_id
  of_type_typed here rule type_id token e y scalar h is =
      let same = of_type_is rule type_id token e y is in
      ap (typing program here) (sym same.1) ∙ h.value (ap is_scalar same.0 ∙ scalar)
      ∙ ap (t.typed true) same.0

  not_variable : (y : RExpr) (z : RExpr-F RExpr RStep RVar) (here type_id : ℕ) → roll-RExpr z ≡ y →
      ((v : RVar) → z ≡ RExpr-F.Var v → ⊥) → typing program here y ≡ t.typed true type_id →
      Holds here (typed type_id y)
  not_variable y z here type_id is other good = record {
    value = λ scalar. good;
    variable = λ v var. absurd (other v (sym (out-roll-RExpr z) ∙ ap out-RExpr is ∙ var));
  }

  abbrev wanted : ROp → ℕ
  wanted op.Both = boolean
  wanted op.Either = boolean
  wanted _ = integer

  wanted_scalar : (o : ROp) → is_scalar (wanted o) ≡ true
  wanted_scalar op.Mul = refl
  wanted_scalar op.Div = refl
  wanted_scalar op.Mod = refl
  wanted_scalar op.Both = refl
  wanted_scalar op.Add = refl
  wanted_scalar op.Sub = refl
  wanted_scalar op.Either = refl
  wanted_scalar op.Equal = refl
  wanted_scalar op.Unequal = refl
  wanted_scalar op.Less = refl
  wanted_scalar op.LessEqual = refl
  wanted_scalar op.Greater = refl
  wanted_scalar op.GreaterEqual = refl

  operand_wants : (o : ROp) (token : ℕ) (e : Typed) (y : RExpr) → operand o token e ≡ Ok y →
      (rule : ℕ) × (of_type rule (wanted o) token e ≡ Ok y)
  operand_wants op.Mul token e y h = (15, h)
  operand_wants op.Div token e y h = (15, h)
  operand_wants op.Mod token e y h = (15, h)
  operand_wants op.Both token e y h = (16, h)
  operand_wants op.Add token e y h = (15, h)
  operand_wants op.Sub token e y h = (15, h)
  operand_wants op.Either token e y h = (16, h)
  operand_wants op.Equal token e y h = (15, h)
  operand_wants op.Unequal token e y h = (15, h)
  operand_wants op.Less token e y h = (15, h)
  operand_wants op.LessEqual token e y h = (15, h)
  operand_wants op.Greater token e y h = (15, h)
  operand_wants op.GreaterEqual token e y h = (15, h)

  operand_typed : (here : ℕ) (o : ROp) (token : ℕ) (e : Typed) (y : RExpr) → Holds here e →
      operand o token e ≡ Ok y → typing program here y ≡ t.typed true (wanted o)
  operand_typed here o token e y h is =
      let at = operand_wants o token e y is in of_type_typed here at.0 (wanted o) token e y
      (wanted_scalar o) h at.1

  both_wanted : (o : ROp) → binary_typing o (t.typed true (wanted o)) (t.typed true (wanted o)) ≡
      t.typed true (result_type o)
  both_wanted op.Mul = refl
  both_wanted op.Div = refl
  both_wanted op.Mod = refl
  both_wanted op.Both = refl
  both_wanted op.Add = refl
  both_wanted op.Sub = refl
  both_wanted op.Either = refl
  both_wanted op.Equal = refl
  both_wanted op.Unequal = refl
  both_wanted op.Less = refl
  both_wanted op.LessEqual = refl
  both_wanted op.Greater = refl
  both_wanted op.GreaterEqual = refl

  binary_holds : (here : ℕ) (o : ROp) (a b : RExpr) → binary_typing o (typing program here a)
      (typing program here b) ≡ t.typed true (result_type o) → Holds here (binary o a b)
  binary_holds here o a b is =
      not_variable (x.Binary o a b) (RExpr-F.Binary o a b) here (result_type o)
      (x.rolls-Binary o a b) (λ v same. cc) (typing-Binary program here o a b ∙ is)

  operands_hold : (here : ℕ) (o : ROp) (a b : RExpr) → typing program here a ≡
      t.typed true (wanted o) → typing program here b ≡ t.typed true (wanted o) →
      Holds here (binary o a b)
  operands_hold here o a b left right =
      binary_holds here o a b (ap (λ z. binary_typing o z (typing program here b)) left
      ∙ ap (λ z. binary_typing o (t.typed true (wanted o)) z) right ∙ both_wanted o)

  pub number_holds : (here : ℕ) (n : ℤ) → Holds here (typed integer (x.Number n))
  number_holds here n = not_variable (x.Number n) (RExpr-F.Number n) here integer (x.rolls-Number n)
      (λ v same. cc) (typing-Number program here n)

  pub not_holds : (here : ℕ) (y : RExpr) → typing program here y ≡ t.typed true boolean →
      Holds here (typed boolean (x.Not y))
  not_holds here y good =
      not_variable (x.Not y) (RExpr-F.Not y) here boolean (x.rolls-Not y) (λ v same. cc)
      (typing-Not program here y ∙ ap (λ z. t.typed (is_of boolean z) boolean) good)

  literal_holds : (here : ℕ) (v : Value) → Holds here (literal v)
  literal_holds here (Number n) = number_holds here n
  literal_holds here (Truth b) = not_variable (x.Truth b) (RExpr-F.Truth b) here boolean
      (x.rolls-Truth b) (λ v same. cc) (typing-Truth program here b)

  -- ---- selectors

  field_leads : (p : Place) → Fits program p → (k type_id : ℕ) (types : List ℕ) (found : Option ℕ)
      (r : RStep × ℕ) → slice_get p.types type_id ≡ Some (Record types) → field_number p k type_id ≡
      found → the_field k types found ≡ Ok r
      → into program.types (t.typed true type_id) (leading program p.here r.0) ≡ t.typed true r.1
  field_leads p fits k type_id types None r at number is = absurd (cc)
  field_leads p fits k type_id types (Some n) r at number is =
      let names = field_names (slice_get p.fields type_id) in
      let few : n < length names = (position-Some (bytes_eq (name_at p k)) names n [] number).0 in
      let count : length names ≡ length types = fits.named type_id types at in
      let shape : shape_of program.types type_id ≡ Record types = ap (λ s. unwrap_or s Integer)
      (fits.types type_id (Record types) at) in
      let lt : nat_lt n (length types) ≡ true =
      lt-ltb n (length types) (omega (arith, few, count)) in
      let same = ok_same (step.Field n, slice_index types n) r is in
      subst (λ (z : RStep × ℕ). into program.types (t.typed true type_id)
      (leading program p.here z.0) ≡ t.typed true z.1) same
      (ap (into program.types (t.typed true type_id)) (leading-Field program p.here n)
      ∙ ap (λ s. t.typed (nat_lt n (length (field_types s))) (field_type s n)) shape
      ∙ ap (λ b. t.typed b (slice_index types n)) lt)

  pub field_selects : (p : Place) → Fits program p → (k type_id : ℕ) (shape : Option Shape)
      (r : RStep × ℕ) → slice_get p.types type_id ≡ shape → field p k type_id shape ≡ Ok r
      → into program.types (t.typed true type_id) (leading program p.here r.0) ≡ t.typed true r.1
  field_selects p fits k type_id (Some (Record types)) r at is = field_leads p fits k type_id types
      (field_number p k type_id) r at refl is
  field_selects p fits k type_id (Some Integer) r at is = absurd (cc)
  field_selects p fits k type_id (Some Boolean) r at is = absurd (cc)
  field_selects p fits k type_id (Some (Array count item)) r at is = absurd (cc)
  field_selects p fits k type_id None r at is = absurd (cc)

  pub element_selects : (p : Place) → Fits program p → (token type_id : ℕ) (index : RExpr)
      (shape : Option Shape) (r : RStep × ℕ) → typing program p.here index ≡ t.typed true integer →
      slice_get p.types type_id ≡ shape
      → element token index shape ≡ Ok r → into program.types (t.typed true type_id)
      (leading program p.here r.0) ≡ t.typed true r.1
  element_selects p fits token type_id index (Some (Array count item)) r good at is =
      let shape : shape_of program.types type_id ≡ Array count item = ap (λ s. unwrap_or s Integer)
      (fits.types type_id (Array count item) at) in
      let same = ok_same (step.Index index, item) r is in
      subst (λ (z : RStep × ℕ). into program.types (t.typed true type_id)
      (leading program p.here z.0) ≡ t.typed true z.1) same
      (ap (into program.types (t.typed true type_id))
      (leading-Index program p.here index ∙ ap ToElement good)
      ∙ ap (λ s. t.typed (is_array s) (element_type s)) shape)
  element_selects p fits token type_id index (Some (Record types)) r good at is = absurd (cc)
  element_selects p fits token type_id index (Some Integer) r good at is = absurd (cc)
  element_selects p fits token type_id index (Some Boolean) r good at is = absurd (cc)
  element_selects p fits token type_id index None r good at is = absurd (cc)

  abbrev pub AllGood : List Selection → Type 0
  AllGood [] = Unit {0}
  AllGood (s ∷ ss) = GoodSelection s × AllGood ss

  along_append : (shapes : List Shape) (y : Typing) (xs ys : List Leading) →
      along shapes y (xs ++ ys) ≡ along shapes (along shapes y xs) ys
  along_append shapes y [] ys = refl
  along_append shapes y (l ∷ xs) ys = along_append shapes (into shapes y l) xs ys

  pub selected_along : (p : Place) → Fits program p → (ss : List Selection) → AllGood ss →
      (first : Typing) (done : List RStep) (type_id : ℕ) (r : List RStep × ℕ)
      → along program.types first (map (leading program p.here) done) ≡ t.typed true type_id →
      selected p done type_id ss ≡ Ok r
      → along program.types first (map (leading program p.here) r.0) ≡ t.typed true r.1
  selected_along p fits [] good first done type_id r so_far is =
      let same = ok_same (done, type_id) r is in
      subst (λ (z : List RStep × ℕ). along program.types first (map (leading program p.here) z.0) ≡
      t.typed true z.1) same so_far
  selected_along p fits (s ∷ ss) (good, rest) first done type_id r so_far is =
      let of = came_of (s p type_id) (λ one. selected p (done ++ one.0 ∷ []) one.1 ss) r is in
      selected_along p fits ss rest first (done ++ of.0.0 ∷ []) of.0.1 r
      (ap (along program.types first) (map-append (leading program p.here) done (of.0.0 ∷ []))
      ∙ along_append program.types first (map (leading program p.here) done)
      (leading program p.here of.0.0 ∷ [])
      ∙ ap (λ y. into program.types y (leading program p.here of.0.0)) so_far
      ∙ good.leads p fits type_id of.0 of.1)
      of.2

  -- ---- names with selectors

  pub variable_good : (here : ℕ) (r : Root) (steps : List RStep × ℕ) →
      along program.types (root_typing program here r) (map (leading program here) steps.0) ≡
      t.typed true steps.1
      → variable_typing program here (variable r steps) ≡ t.typed true steps.1
  variable_good here r steps good =
      fold-roll-RVar Typing Leading Typing expr_typing step_typing (var_typing program here)
      (record { root = r; steps = steps.0; type_id = steps.1 })
      ∙ ap (λ y. t.typed (is_of steps.1 y) steps.1) good ∙ ap (λ b. t.typed b steps.1)
      (eq_self steps.1)

  variable_holds : (here : ℕ) (v : RVar) (type_id : ℕ) → variable_typing program here v ≡
      t.typed true type_id → Holds here (typed type_id (x.Var v))
  variable_holds here v type_id good = record {
    value = λ scalar. typing-Var program here v
        ∙ ap (λ (y : Typing). t.typed (y.good && is_scalar y.type_id) y.type_id) good
        ∙ ap (λ b. t.typed b type_id) scalar;
    variable = λ w is.
        let same : RExpr-F.Var v ≡ RExpr-F.Var w = sym (out-roll-RExpr (RExpr-F.Var v))
        ∙ ap out-RExpr (x.rolls-Var v) ∙ is in
        let var : v ≡ w = cc in
        ap (variable_typing program here) (sym var) ∙ good;
  }

  -- ---- names

  abbrev There : Place → Meaning → Type 0
  There p m = IsThere program (length p.types) (length p.headings) m

  there_visible : (types procs : ℕ) (name : List ℕ) (s : Scope) → AllThere program types procs s →
      (m : Meaning) → visible name s ≡ Some m → IsThere program types procs m
  there_visible types procs name [] all m is = absurd (cc)
  there_visible types procs name (d ∷ ds) (here, rest) m is =
      by_test (bytes_eq name d.0) d.1 (visible name ds) (Some m) (λ b same. here m same)
      (λ b same. there_visible types procs name ds rest m same) is

  there_or : (types procs : ℕ) (a b : Option Meaning) →
      ((m : Meaning) → a ≡ Some m → IsThere program types procs m) →
      ((m : Meaning) → b ≡ Some m → IsThere program types procs m)
      → (m : Meaning) → or_else a b ≡ Some m → IsThere program types procs m
  there_or types procs (Some n) b first second m is = first m is
  there_or types procs None b first second m is = second m is

  there_innermost : (types procs : ℕ) (name : List ℕ) (found : Option Meaning) (ss : List Scope) →
      ((m : Meaning) → found ≡ Some m → IsThere program types procs m) →
      EachThere program types procs ss
      → (m : Meaning) → innermost name found ss ≡ Some m → IsThere program types procs m
  there_innermost types procs name found [] there all m is = there m is
  there_innermost types procs name found (s ∷ ss) there (one, rest) m is =
      there_innermost types procs name (or_else (visible name s) found) ss
      (there_or types procs (visible name s) found (there_visible types procs name s one) there)
      rest m is

  there_is : (types procs : ℕ) (m n : Meaning) → IsThere program types procs m →
      ◌≡◌ {A = Option Meaning} (Some m) (Some n) → IsThere program types procs n
  there_is types procs m n there is = subst (IsThere program types procs) (some_same m n is) there

  there_standard : (types procs : ℕ) → 1 < types → (name : List ℕ) (m : Meaning) → standard name ≡
      Some m → IsThere program types procs m
  there_standard types procs two name m is =
      by_test (bytes_eq name (codes "INTEGER")) _ _ (Some m)
      (λ b same. there_is types procs (meaning.TypeName 0) m (omega (arith, two)) same) (λ b is.
      by_test (bytes_eq name (codes "BOOLEAN")) _ _ (Some m)
      (λ b same. there_is types procs (meaning.TypeName 1) m two same) (λ b is.
      by_test (bytes_eq name (codes "TRUE")) _ _ (Some m)
      (λ b same. there_is types procs (meaning.Constant (Truth true)) m tt same) (λ b is.
      by_test (bytes_eq name (codes "FALSE")) _ _ (Some m)
      (λ b same. there_is types procs (meaning.Constant (Truth false)) m tt same) (λ b is.
      by_test (bytes_eq name (codes "Read")) _ _ (Some m)
      (λ b same. there_is types procs (meaning.Standard Read) m tt same) (λ b is.
      by_test (bytes_eq name (codes "Write")) _ _ (Some m)
      (λ b same. there_is types procs (meaning.Standard Write) m tt same) (λ b is.
      by_test (bytes_eq name (codes "WriteLn")) _ _ (Some m)
      (λ b same. there_is types procs (meaning.Standard WriteLine) m tt same) (λ b is.
      absurd (none_some is)) is) is) is) is) is) is) is

  pub meaning_there : (p : Place) → Fits program p → (name : List ℕ) (m : Meaning) →
      meaning_of p name ≡ Some m → There p m
  meaning_there p fits name m is =
      let two = slice_get_within p.types 1 Boolean fits.ordered.second in
      there_or (length p.types) (length p.headings) (visible name p.scope)
      (innermost name (standard name) p.outer)
      (there_visible (length p.types) (length p.headings) name p.scope fits.scope)
      (there_innermost (length p.types) (length p.headings) name (standard name) p.outer
      (there_standard (length p.types) (length p.headings) two name) fits.outer) m is

  -- a variable within reach is one of the procedure here, or of the module
  abbrev pub at_here : ℕ → Meaning → Meaning
  at_here here (meaning.Variable owner r type_id) = meaning.Variable here r type_id
  at_here here m = m

  reached_variable : (p : Place) (owner type_id : ℕ) (r : Root) → is_within_reach p owner r ≡ true →
      There p (meaning.Variable owner r type_id) → There p (meaning.Variable p.here r type_id)
  reached_variable p owner type_id (root.Module i) within there = there
  reached_variable p owner type_id (root.Param i) within there =
      subst (λ o. root_typing program o (root.Param i) ≡ t.typed true type_id)
      (eqb-true owner p.here within) there
  reached_variable p owner type_id (root.Local i) within there =
      subst (λ o. root_typing program o (root.Local i) ≡ t.typed true type_id)
      (eqb-true owner p.here within) there

  reached_there : (p : Place) (k : ℕ) (m n : Meaning) → There p m → reached p k m ≡ Ok n →
      There p (at_here p.here n)
  reached_there p k (meaning.Variable owner r type_id) n there is =
      by_test (is_within_reach p owner r) (Ok (meaning.Variable owner r type_id)) (Err (6, k))
      (Ok n)
      (λ within same. subst (λ z. There p (at_here p.here z))
      (ok_same (meaning.Variable owner r type_id) n same)
      (reached_variable p owner type_id r within there)) (λ no same. absurd (cc)) is
  reached_there p k (meaning.Constant v) n there is = subst (λ z. There p (at_here p.here z))
      (ok_same (meaning.Constant v) n is) there
  reached_there p k (meaning.TypeName v) n there is = subst (λ z. There p (at_here p.here z))
      (ok_same (meaning.TypeName v) n is) there
  reached_there p k (meaning.Procedure v) n there is = subst (λ z. There p (at_here p.here z))
      (ok_same (meaning.Procedure v) n is) there
  reached_there p k (meaning.Standard v) n there is = subst (λ z. There p (at_here p.here z))
      (ok_same (meaning.Standard v) n is) there

  known_there : (p : Place) (k : ℕ) (found : Option Meaning) (n : Meaning) →
      ((m : Meaning) → found ≡ Some m → There p m) → known p k found ≡ Ok n →
      There p (at_here p.here n)
  known_there p k (Some m) n there is = reached_there p k m n (there m refl) is
  known_there p k None n there is = absurd (cc)

  pub used_there : (p : Place) → Fits program p → (k : ℕ) (m : Meaning) → used p k ≡ Ok m →
      There p (at_here p.here m)
  used_there p fits k m is = known_there p k (meaning_of p (name_at p k)) m
      (meaning_there p fits (name_at p k)) is

  pub designated_holds : (p : Place) → Fits program p → (d : Selected) → AllGood d.selectors →
      (m : Meaning) (e : Typed) → There p (at_here p.here m) → designated p d m ≡ Ok e →
      Holds p.here e
  designated_holds p fits d good (meaning.Constant v) e there is =
      let of = came_of (selected p [] (literal v).type_id d.selectors) (λ none. Ok (literal v)) e
      is in
      subst (Holds p.here) (ok_same (literal v) e of.2) (literal_holds p.here v)
  designated_holds p fits d good (meaning.Variable owner r type_id) e there is =
      let of = came_of (selected p [] type_id d.selectors)
      (λ steps. Ok (typed steps.1 (x.Var (variable r steps)))) e is in
      let along = selected_along p fits d.selectors good (root_typing program p.here r)
      [] type_id of.0 there of.1 in
      subst (Holds p.here) (ok_same (typed of.0.1 (x.Var (variable r of.0))) e of.2)
      (variable_holds p.here (variable r of.0) of.0.1 (variable_good p.here r of.0 along))
  designated_holds p fits d good (meaning.TypeName v) e there is = absurd (cc)
  designated_holds p fits d good (meaning.Procedure v) e there is = absurd (cc)
  designated_holds p fits d good (meaning.Standard v) e there is = absurd (cc)

  -- ---- chains of operators

  abbrev pub AllPhrases : List Next → Type 0
  AllPhrases [] = Unit {0}
  AllPhrases (n ∷ ns) = GoodPhrase n.1 × AllPhrases ns

  pub chained_holds : (p : Place) → Fits program p → (last : ℕ) (so_far : Typed) (ns : List Next)
      (e : Typed) → AllPhrases ns → Holds p.here so_far → chained p last so_far ns ≡ Ok e →
      Holds p.here e
  chained_holds p fits last so_far [] e good h is = subst (Holds p.here) (ok_same so_far e is) h
  chained_holds p fits last so_far (n ∷ ns) e (good, rest) h is =
      let one = came_of (operand n.0 last so_far)
      (λ left. n.1.judge p >>= λ y. operand n.0 n.1.last y >>= λ right. chained p n.1.last
      (binary n.0 left right) ns) e is in
      let two = came_of (n.1.judge p)
      (λ y. operand n.0 n.1.last y >>= λ right. chained p n.1.last (binary n.0 one.0 right) ns)
      e one.2 in
      let three = came_of (operand n.0 n.1.last two.0)
      (λ right. chained p n.1.last (binary n.0 one.0 right) ns) e two.2 in
      chained_holds p fits n.1.last (binary n.0 one.0 three.0) ns e rest
      (operands_hold p.here n.0 one.0 three.0 (operand_typed p.here n.0 last so_far one.0 h one.1)
      (operand_typed p.here n.0 n.1.last two.0 three.0 (good.holds p fits two.0 two.1) three.1))
      three.2

  pub signed_holds : (here : ℕ) (sign : Option Kind) (token : ℕ) (y e : Typed) → Holds here y →
      signed_term sign token y ≡ Ok e → Holds here e
  signed_holds here None token y e h is = subst (Holds here) (ok_same y e is) h
  signed_holds here (Some kind.Minus) token y e h is =
      let of = came_of (of_type 15 integer token y) (λ number. Ok (typed integer (x.Negate number)))
      e is in
      let good = of_type_typed here 15 integer token y of.0 refl h of.1 in
      subst (Holds here) (ok_same (typed integer (x.Negate of.0)) e of.2)
      (not_variable (x.Negate of.0) (RExpr-F.Negate of.0) here integer (x.rolls-Negate of.0)
      (λ v same. cc) (typing-Negate program here of.0
      ∙ ap (λ z. t.typed (is_of integer z) integer) good))
  signed_holds here (Some k) token y e h is =
      let of = came_of (of_type 15 integer token y) (λ number. Ok (typed integer number)) e is in
      let same = of_type_is 15 integer token y of.0 of.1 in
      subst (Holds here) (ok_same (typed integer of.0) e of.2)
      (subst (Holds here) (typed_is y integer of.0 same.0 same.1) h)
    where
      typed_is : (y : Typed) (type_id : ℕ) (z : RExpr) → y.type_id ≡ type_id → y.expr ≡ z →
          y ≡ typed type_id z
      typed_is y type_id z a b = ap (λ i. typed i y.expr) a ∙ ap (typed type_id) b

  pub alike_types : (a b : ℕ) → are_alike a b ≡ true → (a ≡ b) × (is_scalar a ≡ true)
  alike_types a b h = let both = and_true (nat_eq a b) (nat_eq a integer || nat_eq a boolean) h in
      (eqb-true a b both.0, both.1)

  compared_holds : (here token : ℕ) (o : ROp) (left right e : Typed) →
      ((type_id : ℕ) → binary_typing o (t.typed true type_id) (t.typed true type_id) ≡
      t.typed true (result_type o))
      → Holds here left → Holds here right → compared_alike o token left right ≡ Ok e → Holds here e
  compared_holds here token o left right e gives l r is =
      by_test (are_alike left.type_id right.type_id) (Ok (binary o left.expr right.expr))
      (Err (17, token)) (Ok e) (λ b same.
      let types = alike_types left.type_id right.type_id b in
      let second = r.value (ap is_scalar (sym types.0) ∙ types.1) ∙ ap (t.typed true)
      (sym types.0) in
      subst (Holds here) (ok_same (binary o left.expr right.expr) e same)
      (binary_holds here o left.expr right.expr
      (ap (λ z. binary_typing o z (typing program here right.expr)) (l.value types.1)
      ∙ ap (binary_typing o (t.typed true left.type_id)) second ∙ gives left.type_id)))
      (λ no same. absurd (cc)) is

  equals : (type_id : ℕ) → binary_typing op.Equal (t.typed true type_id) (t.typed true type_id) ≡
      t.typed true boolean
  equals type_id = ap (λ b. t.typed b boolean) (eq_self type_id)

  differs : (type_id : ℕ) → binary_typing op.Unequal (t.typed true type_id) (t.typed true type_id) ≡
      t.typed true boolean
  differs type_id = ap (λ b. t.typed b boolean) (eq_self type_id)

  ordered_holds : (p : Place) → Fits program p → (last : ℕ) (left : Typed) (o : ROp)
      (right : Phrase) (e : Typed) → Holds p.here left → GoodPhrase right
      → (operand o last left >>= λ l. right.judge p >>= λ y. operand o right.last y >>= λ r. Ok
      (binary o l r)) ≡ Ok e → Holds p.here e
  ordered_holds p fits last left o right e h good is =
      let one = came_of (operand o last left)
      (λ l. right.judge p >>= λ y. operand o right.last y >>= λ r. Ok (binary o l r)) e is in
      let two = came_of (right.judge p) (λ y. operand o right.last y >>= λ r. Ok (binary o one.0 r))
      e one.2 in
      let three = came_of (operand o right.last two.0) (λ r. Ok (binary o one.0 r)) e two.2 in
      subst (Holds p.here) (ok_same (binary o one.0 three.0) e three.2)
      (operands_hold p.here o one.0 three.0 (operand_typed p.here o last left one.0 h one.1)
      (operand_typed p.here o right.last two.0 three.0 (good.holds p fits two.0 two.1) three.1))

  pub related_holds : (p : Place) → Fits program p → (last : ℕ) (left : Typed) (o : ROp)
      (right : Phrase) (e : Typed) → Holds p.here left → GoodPhrase right →
      related p last left (o, right) ≡ Ok e → Holds p.here e
  related_holds p fits last left op.Equal right e h good is =
      let of = came_of (right.judge p) (λ y. compared_alike op.Equal right.last left y) e is in
      compared_holds p.here right.last op.Equal left of.0 e equals h (good.holds p fits of.0 of.1)
      of.2
  related_holds p fits last left op.Unequal right e h good is =
      let of = came_of (right.judge p) (λ y. compared_alike op.Unequal right.last left y) e is in
      compared_holds p.here right.last op.Unequal left of.0 e differs h
      (good.holds p fits of.0 of.1) of.2
  related_holds p fits last left op.Mul right e h good is =
      ordered_holds p fits last left op.Mul right e h good is
  related_holds p fits last left op.Div right e h good is =
      ordered_holds p fits last left op.Div right e h good is
  related_holds p fits last left op.Mod right e h good is =
      ordered_holds p fits last left op.Mod right e h good is
  related_holds p fits last left op.Both right e h good is =
      ordered_holds p fits last left op.Both right e h good is
  related_holds p fits last left op.Add right e h good is =
      ordered_holds p fits last left op.Add right e h good is
  related_holds p fits last left op.Sub right e h good is =
      ordered_holds p fits last left op.Sub right e h good is
  related_holds p fits last left op.Either right e h good is =
      ordered_holds p fits last left op.Either right e h good is
  related_holds p fits last left op.Less right e h good is =
      ordered_holds p fits last left op.Less right e h good is
  related_holds p fits last left op.LessEqual right e h good is =
      ordered_holds p fits last left op.LessEqual right e h good is
  related_holds p fits last left op.Greater right e h good is =
      ordered_holds p fits last left op.Greater right e h good is
  related_holds p fits last left op.GreaterEqual right e h good is =
      ordered_holds p fits last left op.GreaterEqual right e h good is
