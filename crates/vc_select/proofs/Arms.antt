-- The arms of the walk: each form of tree, from what its parts give.
use Rattle.std.proofs.Common.{◌≡◌, ℕ, ◌+◌, ◌*◌, ◌<◌, ◌≤◌, Bool, true, List, ◌∷◌, length, map, drop}
use Rattle.std.proofs.Common.{drop-cons, add-one, get_or, Ok, refl, sym, ap, ◌∙◌, subst}
use Rattle.std.proofs.lemmas.List.{drop_all}
use Rattle.std.specs.Prelude.{ℤ, pos, ◌&&◌, slice_index}
use Rattle.std.specs.Int.{w32}
use Rattle.std.specs.Int.RustNames.{FitsSigned}
use Rattle.pra_list.specs.Results.{◌>>=◌}
use Rattle.pra_base.specs.declared.code.VarKind.TheVariants.{Constant}
use Rattle.pra_base.specs.declared.code.VProc.{VProc}
use Rattle.ob_syntax.specs.Expressions.{integer, boolean}
use Rattle.ob_syntax.specs.Operators.{number, negated, inverted, is_true}
use Rattle.ob_syntax.specs.WellFormed.{is_scalar}
use Rattle.ob_syntax.specs.declared.checked.Checked.{Checked}
use Rattle.ob_syntax.specs.declared.checked.ROp.{ROp}
use Rattle.ob_syntax.specs.declared.checked.RExpr.{RExpr}
use Rattle.ob_syntax.specs.declared.checked.RExpr.TheVariants as x
use Rattle.ob_syntax.specs.declared.checked.RStep.{RStep}
use Rattle.ob_syntax.specs.declared.checked.RStep.TheVariants as step
use Rattle.ob_syntax.specs.declared.checked.RVar.{RVar}
use Rattle.ob_syntax.specs.declared.checked.Shape.{Shape}
use Rattle.ob_syntax.specs.declared.checked.Shape.TheVariants as shape
use Rattle.ob_syntax.specs.declared.checked.Value.{Value}
use Rattle.ob_syntax.specs.declared.checked.Value.TheVariants.{Number, Truth}
use Rattle.ob_mean.specs.Designators.{shape_of, start_of, array_length, element_type, field_types}
use Rattle.ob_mean.specs.Designators.{field_type, root_type, Element, designated}
use Rattle.ob_mean.specs.Expressions.{Designation, at_store, value, selector, designation, location}
use Rattle.ob_mean.specs.Store.{Store, read}
use Rattle.ob_mean.specs.declared.store.LiveCall.{LiveCall}
use Rattle.ob_mean.proofs.Equations.{value-Number, value-Truth, value-Var, value-Negate, value-Not}
use Rattle.ob_mean.proofs.Equations.{value-Binary, selector-Field, selector-Index, designation-is}
use Rattle.vc_build.specs.Grow.{IsOpen, with_variable}
use Rattle.vc_build.specs.Runs.{Yields}
use Rattle.vc_expr.specs.Operators.{IsBit, Converts, ConvertsBit}
use Rattle.vc_expr.specs.declared.branch.Targets.{Targets}
use Rattle.vc_select.specs.declared.target.Setting.{Setting}
use Rattle.vc_select.specs.declared.target.Target.{Target}
use Rattle.vc_select.specs.declared.target.Target.TheVariants.{Var, Memory}
use Rattle.vc_select.specs.Indexes.{IndexedBy}
use Rattle.vc_select.specs.Targets.{above_target, above_target_base, shifted, words_to_field}
use Rattle.vc_select.specs.Targets.{root_target, whole_of}
use Rattle.vc_typed.specs.Typing.{Typing, typed, is_of, Leading, ToField, ToElement, type_after}
use Rattle.vc_typed.specs.Typing.{binary_typing, typing, leading, variable_typing}
use Rattle.vc_select.specs.Selects.{Finds, Selects, Locates, Loads, Leads, LeadsFrom, LeadsBy}
use Rattle.vc_select.specs.Selects.{Tests, IsFor, Always, joined, exchanged}
use Rattle.vc_typed.proofs.Equations.{typing-Number, typing-Truth, typing-Var, typing-Negate}
use Rattle.vc_typed.proofs.Equations.{typing-Not, typing-Binary, leading-Field, leading-Index}
use Rattle.vc_typed.proofs.Equations.{variable_typing-is}
use Rattle.vc_select.proofs.Forms.{selects_as, selects_constant, selects_variable, selects_one}
use Rattle.vc_select.proofs.Sides.{of_type, truth_bit}
use Rattle.vc_select.proofs.Strides.{leads_field, leads_constant, leads_no_index, leads_index}
use Rattle.vc_select.proofs.Walks.{locates, leads_on, leads_nowhere}
use Rattle.vc_select.proofs.Conditions.{tests_as, tests_not}

-- the element at an index, and what follows it
pub next_item : {X : Type 0} (all : List X) (i : ℕ) (x : X) → i < length all → x ≡ get_or all i x →
    drop i all ≡ x ∷ drop (i + 1) all
next_item all i x lt is = drop-cons all i x lt ∙ ap (λ j. get_or all i x ∷ drop j all)
    (sym (add-one i)) ∙ ap (λ y. y ∷ drop (i + 1) all) (sym is)

zero_one : (x : Value) → integer ≡ boolean → IsBit x
zero_one x e = absurd (cc)

module _ (g : Setting) where
  abbrev program : Checked
  program = g.program.now

  abbrev types : List Shape
  types = g.program.now.types

  abbrev typing_of : RExpr → Typing
  typing_of e = typing g.program.now g.id.0 e

  -- ---- expressions

  pub expr_number : (old new : VProc) (at v : ℕ) (n : ℤ) (e : RExpr) → e ≡ x.Number n →
      IsOpen old at → new ≡ with_variable (Constant n) old → v ≡ length old.vars →
      FitsSigned w32 n → Selects g old new at at v (typing_of e) (value program e)
  expr_number old new at v n e is o made is_new fits =
      subst (λ z. Selects g old z at at v (typing_of e) (value program e)) (sym made)
      (selects_as g old (with_variable (Constant n) old) at at v (typed true integer) (typing_of e)
      (λ calls store. Ok (Number n)) (value program e)
      (ap typing_of is ∙ typing-Number program g.id.0 n)
      (λ calls store. ap (λ z. value program z calls store) is ∙ value-Number program n calls store)
      (selects_constant g old at v n (typed true integer) (Number n) o is_new fits refl
      (zero_one (Number n))))

  pub expr_truth : (old new : VProc) (at v : ℕ) (b : Bool) (e : RExpr) → e ≡ x.Truth b →
      IsOpen old at → new ≡ with_variable (Constant (number (Truth b))) old → v ≡ length old.vars →
      FitsSigned w32 (number (Truth b)) → Selects g old new at at v (typing_of e) (value program e)
  expr_truth old new at v b e is o made is_new fits =
      subst (λ z. Selects g old z at at v (typing_of e) (value program e)) (sym made)
      (selects_as g old (with_variable (Constant (number (Truth b))) old) at at v
      (typed true boolean) (typing_of e) (λ calls store. Ok (Truth b)) (value program e)
      (ap typing_of is ∙ typing-Truth program g.id.0 b)
      (λ calls store. ap (λ z. value program z calls store) is ∙ value-Truth program b calls store)
      (selects_constant g old at v (number (Truth b)) (typed true boolean) (Truth b) o is_new fits
      refl (λ t. truth_bit b)))

  start_zero : (s : Shape) → number (start_of s) ≡ pos 0
  start_zero shape.Integer = refl
  start_zero shape.Boolean = refl
  start_zero (shape.Array count element) = refl
  start_zero (shape.Record fields) = refl

  pub expr_variable : (old mid new : VProc) (from to u : ℕ) (target : Target) (v : RVar)
      (e : RExpr) → e ≡ x.Var v → Locates g old mid from to target
      (variable_typing program g.id.0 v) (location program v) → Loads g to mid new target u →
      Selects g old new from to u (typing_of e) (value program e)
  expr_variable old mid new from to u target v e is p q =
      let zero_start : number (designation program v).start ≡ pos 0 =
      ap (λ (d : Designation). number d.start) (designation-is program v)
      ∙ start_zero (shape_of types v.type_id) in
      selects_as g old new from to u
      (typed ((variable_typing program g.id.0 v).good && is_scalar
      (variable_typing program g.id.0 v).type_id) (variable_typing program g.id.0 v).type_id)
      (typing_of e)
      (λ calls store. location program v calls store >>= λ l. Ok
      (read store (designation program v).start l)) (value program e)
      (ap typing_of is ∙ typing-Var program g.id.0 v)
      (λ calls store. ap (λ z. value program z calls store) is ∙ value-Var program v calls store)
      (selects_variable g old mid new from to u target (variable_typing program g.id.0 v)
      (location program v) (designation program v).start zero_start p q)

  pub expr_negate : (old mid new : VProc) (from to u v first : ℕ) (a e : RExpr) → e ≡ x.Negate a →
      first ≡ length old.vars → Selects g old mid from to u (typing_of a) (value program a) →
      Converts negated first to mid new u v → Selects g old new from to v (typing_of e)
      (value program e)
  expr_negate old mid new from to u v first a e is first_is p c =
      let q : Converts negated (length old.vars) to mid new u v =
      subst (λ n. Converts negated n to mid new u v) first_is c in
      selects_as g old new from to v (typed (is_of integer (typing_of a)) integer) (typing_of e)
      (λ calls store. value program a calls store >>= λ z. Ok (negated z)) (value program e)
      (ap typing_of is ∙ typing-Negate program g.id.0 a)
      (λ calls store. ap (λ z. value program z calls store) is ∙ value-Negate program a calls store)
      (selects_one g old mid new from to u v (typing_of a)
      (typed (is_of integer (typing_of a)) integer) (value program a) negated p q.adds.grows
      q.adds.is_open (λ good. (of_type integer (typing_of a) good).0)
      (λ z. zero_one (negated z))
      (λ good w s z r stands hx bit. q.means w g.id.0 s z r stands hx))

  pub expr_not : (old mid new : VProc) (from to u v first : ℕ) (a e : RExpr) → e ≡ x.Not a →
      first ≡ length old.vars → Selects g old mid from to u (typing_of a) (value program a) →
      ConvertsBit inverted first to mid new u v → Selects g old new from to v (typing_of e)
      (value program e)
  expr_not old mid new from to u v first a e is first_is p c =
      let q : ConvertsBit inverted (length old.vars) to mid new u v =
      subst (λ n. ConvertsBit inverted n to mid new u v) first_is c in
      selects_as g old new from to v (typed (is_of boolean (typing_of a)) boolean) (typing_of e)
      (λ calls store. value program a calls store >>= λ z. Ok (inverted z)) (value program e)
      (ap typing_of is ∙ typing-Not program g.id.0 a)
      (λ calls store. ap (λ z. value program z calls store) is ∙ value-Not program a calls store)
      (selects_one g old mid new from to u v (typing_of a)
      (typed (is_of boolean (typing_of a)) boolean) (value program a) inverted p q.adds.grows
      q.adds.is_open (λ good. (of_type boolean (typing_of a) good).0)
      (λ z t. truth_bit (Rattle.std.proofs.Common.not (is_true z)))
      (λ good w s z r stands hx bit. q.means w g.id.0 s z r stands hx
      (bit (of_type boolean (typing_of a) good).1)))

  pub expr_binary : (old new : VProc) (from to v : ℕ) (op : ROp) (a b e : RExpr) →
      e ≡ x.Binary op a b → Selects g old new from to v
      (binary_typing op (typing_of a) (typing_of b))
      (joined op (value program a) (value program b)) → Selects g old new from to v (typing_of e)
      (value program e)
  expr_binary old new from to v op a b e is p =
      selects_as g old new from to v (binary_typing op (typing_of a) (typing_of b)) (typing_of e)
      (joined op (value program a) (value program b)) (value program e)
      (ap typing_of is ∙ typing-Binary program g.id.0 op a b)
      (λ calls store. ap (λ z. value program z calls store) is ∙ value-Binary program op a b calls
      store) p

  -- ---- conditions

  pub test_not : (old new : VProc) (from : ℕ) (targets : Targets) (a e : RExpr) → e ≡ x.Not a →
      Tests g old new from (exchanged targets) (typing_of a) (value program a) →
      Tests g old new from targets (typing_of e) (value program e)
  test_not old new from targets a e is p =
      tests_as g old new from targets (typed (is_of boolean (typing_of a)) boolean) (typing_of e)
      (λ calls store. value program a calls store >>= λ z. Ok (inverted z)) (value program e)
      (ap typing_of is ∙ typing-Not program g.id.0 a)
      (λ calls store. ap (λ z. value program z calls store) is ∙ value-Not program a calls store)
      (tests_not g old new from targets (typing_of a) (value program a) p)

  pub test_binary : (old new : VProc) (from : ℕ) (targets : Targets) (op : ROp) (a b e : RExpr) →
      e ≡ x.Binary op a b → Tests g old new from targets
      (binary_typing op (typing_of a) (typing_of b))
      (joined op (value program a) (value program b)) → Tests g old new from targets (typing_of e)
      (value program e)
  test_binary old new from targets op a b e is p =
      tests_as g old new from targets (binary_typing op (typing_of a) (typing_of b)) (typing_of e)
      (joined op (value program a) (value program b)) (value program e)
      (ap typing_of is ∙ typing-Binary program g.id.0 op a b)
      (λ calls store. ap (λ z. value program z calls store) is ∙ value-Binary program op a b calls
      store) p

  -- ---- selectors

  pub step_field : (first : ℕ) (old : VProc) (at : ℕ) (target next : Target) (type_id k words : ℕ)
      (s : RStep) → s ≡ step.Field k → IsOpen old at → words ≡ words_to_field g.words.now
      (field_types (shape_of types type_id)) k → next ≡ shifted words target →
      LeadsFrom g first old old at at target next type_id (leading program g.id.0 s)
      (selector program s)
  step_field first old at target next type_id k words s is o words_are next_is =
      subst (λ (z : Leading). LeadsFrom g first old old at at target next type_id z
      (selector program s)) (sym
      (ap (leading program g.id.0) is ∙ leading-Field program g.id.0 k))
      (subst (λ t. LeadsFrom g first old old at at target t type_id (ToField k)
      (selector program s)) (sym (next_is ∙ ap (λ n. shifted n target) words_are))
      (leads_field g first old at target type_id o k (selector program s)
      (λ calls store. ap (λ z. selector program z calls store) is
      ∙ selector-Field program k calls store)))

  pub step_index : (first : ℕ) (old new : VProc) (from to : ℕ) (target next : Target) (type_id : ℕ)
      (a : RExpr) (s : RStep) → s ≡ step.Index a → LeadsBy g first old new from to target next
      type_id (typing_of a) (value program a) →
      LeadsFrom g first old new from to target next type_id (leading program g.id.0 s)
      (selector program s)
  step_index first old new from to target next type_id a s is p =
      subst (λ (z : Leading). LeadsFrom g first old new from to target next type_id z
      (selector program s)) (sym
      (ap (leading program g.id.0) is ∙ leading-Index program g.id.0 a))
      (p (selector program s) (λ calls store. ap (λ z. selector program z calls store) is
      ∙ selector-Index program a calls store))

  pub step_type_field : (type_id k next : ℕ) (s : RStep) → s ≡ step.Field k →
      next ≡ field_type (shape_of types type_id) k → next ≡ type_after types type_id
      (leading program g.id.0 s)
  step_type_field type_id k next s is e = e ∙ ap (type_after types type_id)
      (sym (ap (leading program g.id.0) is ∙ leading-Field program g.id.0 k))

  pub step_type_index : (type_id next : ℕ) (a : RExpr) (s : RStep) → s ≡ step.Index a →
      next ≡ element_type (shape_of types type_id) → next ≡ type_after types type_id
      (leading program g.id.0 s)
  step_type_index type_id next a s is e = e ∙ ap (type_after types type_id)
      (sym (ap (leading program g.id.0) is ∙ leading-Index program g.id.0 a))

  -- ---- elements

  pub element_constant : (first : ℕ) (old : VProc) (at : ℕ) (target next : Target)
      (type_id k count words distance : ℕ) (a : RExpr) → IsOpen old at →
      count ≡ array_length (shape_of types type_id) → words ≡ slice_index g.words.now
      (element_type (shape_of types type_id)) → k < count → Always a k →
      distance ≡ k * words → next ≡ shifted distance target →
      LeadsBy g first old old at at target next type_id (typing_of a) (value program a)
  element_constant first old at target next type_id k count words distance a o count_is words_is lt
      always distance_is next_is selecting is =
      subst (λ t. LeadsFrom g first old old at at target t type_id (ToElement (typing_of a))
      selecting) (sym (next_is ∙ ap (λ n. shifted n target)
      (distance_is ∙ ap (λ n. k * n) words_is)))
      (leads_constant g first old at target type_id o k (typing_of a) selecting
      (subst (λ n. k < n) count_is lt)
      (λ calls store. is calls store ∙ ap Element (always program calls store)))

  pub element_indexed : (first : ℕ) (old mid new : VProc) (from to v : ℕ) (target next : Target)
      (type_id count words : ℕ) (a : RExpr) → first ≤ length old.vars → above_target_base target ≤
      first → above_target target ≤ length old.vars →
      count ≡ array_length (shape_of types type_id) → words ≡ slice_index g.words.now
      (element_type (shape_of types type_id)) → Selects g old mid from to v (typing_of a)
      (value program a) → IndexedBy first to mid new target v count words next →
      LeadsBy g first old new from to target next type_id (typing_of a) (value program a)
  element_indexed first old mid new from to v (Var u) next type_id count words a low base_low named
      count_is words_is p q selecting is =
      subst (λ t. LeadsFrom g first old new from to (Var u) t type_id (ToElement (typing_of a))
      selecting) (sym q.0)
      (subst (λ z. LeadsFrom g first old z from to (Var u) (Var u) type_id (ToElement (typing_of a))
      selecting) (sym q.1)
      (leads_no_index g first old mid from to v u type_id (typing_of a) (value program a) selecting
      p))
  element_indexed first old mid new from to v (Memory addr) next type_id count words a low base_low
      named count_is words_is p q selecting is =
      subst (λ t. LeadsFrom g first old new from to (Memory addr) t type_id
      (ToElement (typing_of a)) selecting) (sym q.1)
      (leads_index g first old mid new from to v addr q.0 type_id (typing_of a) (value program a)
      selecting is low base_low named p
      (subst (λ n. Rattle.vc_select.specs.Indexes.Indexes first to mid new addr.index v
      (array_length (shape_of types type_id)) n q.0.0) words_is
      (subst (λ n. Rattle.vc_select.specs.Indexes.Indexes first to mid new addr.index v n words
      q.0.0) count_is q.2)))

  -- ---- variables

  pub variable_located : (old new : VProc) (from to : ℕ) (target : Target) (v : RVar) →
      Leads g (length old.vars) old new from to
      (root_target program g.params.now g.locals.now g.id.0 v.root) target
      (root_type program g.id.0 v.root) (map (leading program g.id.0) v.steps)
      (map (selector program) v.steps) →
      Locates g old new from to target (variable_typing program g.id.0 v) (location program v)
  variable_located old new from to target v p =
      let q = locates g old new from to target v.root v.type_id
      (map (leading program g.id.0) v.steps) (map (selector program) v.steps) p in
      record {
        extends = q.extends;
        means = λ w calls store s starts good.
            subst (Yields w s (Finds g w new to calls s (length old.vars) target
            (variable_typing program g.id.0 v).type_id))
            (sym (ap (λ (d : Designation). d.location calls store) (designation-is program v)))
            (subst (λ (t : Typing). Yields w s
            (Finds g w new to calls s (length old.vars) target t.type_id)
            (designated program calls v.root
            (at_store calls store (map (selector program) v.steps))))
            (sym (variable_typing-is program g.id.0 v))
            (q.means w calls store s starts
            (ap (λ (t : Typing). t.good) (sym (variable_typing-is program g.id.0 v)) ∙ good)));
      }

  -- ---- selector after selector

  pub for_field : (k : ℕ) (s : RStep) → s ≡ step.Field k → (calls : List LiveCall) (store : Store) →
      IsFor (leading program g.id.0 s) (selector program s calls store)
  for_field k s is calls store =
      subst (λ (z : Leading). IsFor z (selector program s calls store))
      (sym (ap (leading program g.id.0) is ∙ leading-Field program g.id.0 k))
      (ap (λ z. selector program z calls store) is ∙ selector-Field program k calls store)

  pub for_index : (a : RExpr) (s : RStep) → s ≡ step.Index a →
      (calls : List LiveCall) (store : Store) → IsFor (leading program g.id.0 s)
      (selector program s calls store)
  for_index a s is calls store =
      subst (λ (z : Leading). IsFor z (selector program s calls store))
      (sym (ap (leading program g.id.0) is ∙ leading-Index program g.id.0 a)) (
        value program a calls store,
        ap (λ z. selector program z calls store) is
            ∙ selector-Index program a calls store,
      )

  pub walk_on : (first : ℕ) (old mid new : VProc) (from between to : ℕ) (begin middle end : Target)
      (type_id next : ℕ) (all : List RStep) (i : ℕ) (s : RStep) → i < length all →
      s ≡ get_or all i s → next ≡ type_after types type_id (leading program g.id.0 s) →
      ((calls : List LiveCall) (store : Store) → IsFor (leading program g.id.0 s)
      (selector program s calls store)) →
      LeadsFrom g first old mid from between begin middle type_id (leading program g.id.0 s)
      (selector program s) →
      Leads g first mid new between to middle end next
      (map (leading program g.id.0) (drop (i + 1) all))
      (map (selector program) (drop (i + 1) all)) →
      Leads g first old new from to begin end type_id (map (leading program g.id.0) (drop i all))
      (map (selector program) (drop i all))
  walk_on first old mid new from between to begin middle end type_id next all i s lt is next_is
      is_for p q =
      subst (λ (z : List RStep). Leads g first old new from to begin end type_id
      (map (leading program g.id.0) z) (map (selector program) z))
      (sym (next_item all i s lt is))
      (leads_on g first old mid new from between to begin middle end type_id
      (leading program g.id.0 s) (map (leading program g.id.0) (drop (i + 1) all))
      (selector program s) (map (selector program) (drop (i + 1) all)) is_for p
      (subst (λ t. Leads g first mid new between to middle end t
      (map (leading program g.id.0) (drop (i + 1) all))
      (map (selector program) (drop (i + 1) all))) next_is q))

  pub walk_done : (first : ℕ) (old : VProc) (at : ℕ) (target : Target) (type_id : ℕ)
      (all : List RStep) (i : ℕ) → IsOpen old at → length all ≤ i →
      Leads g first old old at at target target type_id (map (leading program g.id.0) (drop i all))
      (map (selector program) (drop i all))
  walk_done first old at target type_id all i o past =
      subst (λ (z : List RStep). Leads g first old old at at target target type_id
      (map (leading program g.id.0) z) (map (selector program) z)) (sym (drop_all i all past))
      (leads_nowhere g first old at target type_id o)

  pub walk_begin : (first : ℕ) (old new : VProc) (from to : ℕ) (target end : Target) (type_id : ℕ)
      (items : List RStep) (v : RVar) → target ≡ root_target program g.params.now g.locals.now
      g.id.0 v.root → type_id ≡ root_type program g.id.0 v.root → items ≡ v.steps →
      Leads g first old new from to target end type_id (map (leading program g.id.0) items)
      (map (selector program) items) →
      Leads g first old new from to (root_target program g.params.now g.locals.now g.id.0 v.root)
      end (root_type program g.id.0 v.root) (map (leading program g.id.0) v.steps)
      (map (selector program) v.steps)
  walk_begin first old new from to target end type_id items v target_is type_is items_are p =
      subst (λ (z : List RStep). Leads g first old new from to
      (root_target program g.params.now g.locals.now g.id.0 v.root) end
      (root_type program g.id.0 v.root) (map (leading program g.id.0) z)
      (map (selector program) z)) items_are
      (subst (λ n. Leads g first old new from to
      (root_target program g.params.now g.locals.now g.id.0 v.root) end n
      (map (leading program g.id.0) items) (map (selector program) items)) type_is
      (subst (λ t. Leads g first old new from to t end type_id (map (leading program g.id.0) items)
      (map (selector program) items)) target_is p))

  pub variable_walked : (first : ℕ) (old new : VProc) (from to : ℕ) (target : Target) (v : RVar) →
      first ≡ length old.vars →
      Leads g first old new from to (root_target program g.params.now g.locals.now g.id.0 v.root)
      target (root_type program g.id.0 v.root) (map (leading program g.id.0) v.steps)
      (map (selector program) v.steps) →
      Locates g old new from to target (variable_typing program g.id.0 v) (location program v)
  variable_walked first old new from to target v first_is p =
      variable_located old new from to target v
      (subst (λ n. Leads g n old new from to
      (root_target program g.params.now g.locals.now g.id.0 v.root) target
      (root_type program g.id.0 v.root) (map (leading program g.id.0) v.steps)
      (map (selector program) v.steps)) first_is p)

  pub test_exchanged : (old new : VProc) (from : ℕ) (targets other : Targets) (a e : RExpr) →
      e ≡ x.Not a → other ≡ exchanged targets → Tests g old new from other (typing_of a)
      (value program a) → Tests g old new from targets (typing_of e) (value program e)
  test_exchanged old new from targets other a e is other_is p = test_not old new from targets a e is
      (subst (λ t. Tests g old new from t (typing_of a) (value program a)) other_is p)

-- a shifted target has the same variables
pub above_shifted : (words : ℕ) (t : Target) → above_target (shifted words t) ≡ above_target t
above_shifted words (Var v) = refl
above_shifted words (Memory a) = refl

pub above_base_shifted : (words : ℕ) (t : Target) → above_target_base (shifted words t) ≡
    above_target_base t
above_base_shifted words (Var v) = refl
above_base_shifted words (Memory a) = refl

pub whole_shifted : (words : ℕ) (t : Target) → whole_of (shifted words t) ≡ whole_of t
whole_shifted words (Var v) = refl
whole_shifted words (Memory a) = refl
