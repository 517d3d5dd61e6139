-- What is lent is in a word of an object, and in no variable of selected code.
use Rattle.std.proofs.Common.{◌≡◌, ℕ, suc, ◌+◌, Bool, true, false, List, [], ◌∷◌, ◌++◌, map, length}
use Rattle.std.proofs.Common.{Option, Some, None, Result, Ok, Err, refl, sym, ap, ◌∙◌, subst}
use Rattle.std.specs.Prelude.{◌&&◌, ◌||◌, not, slice_get, unwrap_or, if◌then◌else◌}
use Rattle.std.proofs.lemmas.Bool.{eq-eqb}
use Rattle.pra_list.specs.Results.{◌>>=◌}
use Rattle.pra_list.proofs.Choices.{and_true}
use Rattle.pra_list.proofs.Options.{some_same, none_some}
use Rattle.pra_base.specs.declared.event.TrapKind.{TrapKind}
use Rattle.ob_syntax.specs.Operators.{number}
use Rattle.ob_syntax.specs.WellFormed.{is_scalar, lent_root}
use Rattle.ob_syntax.specs.declared.checked.Checked.{Checked}
use Rattle.ob_syntax.specs.declared.checked.CheckedProc.{CheckedProc}
use Rattle.ob_syntax.specs.declared.checked.Param.{Param}
use Rattle.ob_syntax.specs.declared.checked.Root.{Root}
use Rattle.ob_syntax.specs.declared.checked.Root.TheVariants as root
use Rattle.ob_syntax.specs.declared.checked.RStep.{RStep}
use Rattle.ob_syntax.specs.declared.checked.RVar.{RVar, out-RVar}
use Rattle.ob_syntax.specs.declared.checked.Shape.{Shape}
use Rattle.ob_mean.specs.Designators.{shape_of, element_type, field_type, array_length, picked}
use Rattle.ob_mean.specs.Designators.{Selector, Field, Element, Located, selected, root_location}
use Rattle.ob_mean.specs.Designators.{root_type, lent_to, depth, running}
use Rattle.ob_mean.specs.Expressions.{at_store, selector, location}
use Rattle.ob_mean.specs.Store.{Store, part, whole}
use Rattle.ob_mean.specs.declared.store.LiveCall.{LiveCall}
use Rattle.ob_mean.specs.declared.store.Location.{Location}
use Rattle.ob_mean.specs.declared.store.Object.TheVariants as mean
use Rattle.ob_mean.proofs.Equations.{designation-is}
use Rattle.vc_code.specs.Machine.{State}
use Rattle.vc_code.specs.Selected.{Vars}
use Rattle.vc_build.specs.Runs.{Codes}
use Rattle.vc_relation.specs.Homes.{param_variable}
use Rattle.vc_relation.specs.Layout.{is_aggregate}
use Rattle.vc_relation.specs.Relation.{Represents, IsGiven, content}
use Rattle.vc_relation.specs.Spots.{Spot, InVariable, InWord, Placed, placed_at, placed, beyond}
use Rattle.vc_relation.specs.Spots.{call_at, param_of}
use Rattle.vc_relation.proofs.Apart.{Owner, OfParam, OfLocal, Standing, IsData, IsVariable, IsCell}
use Rattle.vc_relation.proofs.Apart.{IsAggregate, stands, Found, found}
use Rattle.vc_relation.proofs.Lives.{placed_deeper}
use Rattle.vc_select.specs.declared.target.Setting.{Setting}
use Rattle.vc_select.specs.Selects.{IsSet, selected_module}
use Rattle.vc_select.proofs.Roots.{running_is}
use Rattle.vc_typed.specs.TypedModules.{has_address, param_has_address, local_has_address}
use Rattle.vc_stmt.specs.Sound.{addressed, addressed_in}
use Rattle.vc_stmt.proofs.Scalars.{no_path, param_found}

differ : true ≡ false → ⊥
differ e = cc

-- ---- selectors lead into a variable

longer : (path : List ℕ) (k : ℕ) → (path ++ k ∷ []) ≡ [] → ⊥
longer [] k e = cc
longer (x ∷ path) k e = cc

-- selectors from a part of a variable never lead to the variable itself
ok_same : (x y : Location) → (let r : Located = Ok x in r ≡ Ok y) → x ≡ y
ok_same x y e = cc

stays_inside : (shapes : List Shape) (t : ℕ) (l m : Location) (selectors : List Selector) →
    (l.path ≡ [] → ⊥) → selected shapes t l selectors ≡ Ok m → m.path ≡ [] → ⊥
stays_inside shapes t l m [] inside e none =
    inside (ap (λ (z : Location). z.path) (ok_same l m e) ∙ none)
stays_inside shapes t l m (Field k ∷ rest) inside e none =
    stays_inside shapes (field_type (shape_of shapes t) k) (part l k) m rest (longer l.path k) e
    none
stays_inside shapes t l m (Element (Err trap) ∷ rest) inside e none = cc
stays_inside shapes t l m (Element (Ok x) ∷ rest) inside e none =
    by_index (λ k d. stays_inside shapes (element_type (shape_of shapes t)) (part l k) m rest
    (longer l.path k) d none) (picked (array_length (shape_of shapes t)) (number x)) e
  where
    by_index : ((k : ℕ) → selected shapes (element_type (shape_of shapes t)) (part l k) rest ≡
        Ok m → ⊥) → (r : Result ℕ TrapKind) →
        (r >>= λ k. selected shapes (element_type (shape_of shapes t)) (part l k) rest) ≡ Ok m → ⊥
    by_index go (Ok k) d = go k d
    by_index go (Err trap) d = cc

-- a selector and more lead to a part
leads_inside : (shapes : List Shape) (t : ℕ) (l m : Location) (first : Selector)
    (rest : List Selector) → selected shapes t l (first ∷ rest) ≡ Ok m → m.path ≡ [] → ⊥
leads_inside shapes t l m (Field k) rest e none =
    stays_inside shapes (field_type (shape_of shapes t) k) (part l k) m rest (longer l.path k) e
    none
leads_inside shapes t l m (Element (Err trap)) rest e none = cc
leads_inside shapes t l m (Element (Ok x)) rest e none =
    by_index (picked (array_length (shape_of shapes t)) (number x)) e
  where
    by_index : (r : Result ℕ TrapKind) →
        (r >>= λ k. selected shapes (element_type (shape_of shapes t)) (part l k) rest) ≡ Ok m → ⊥
    by_index (Ok k) d = stays_inside shapes (element_type (shape_of shapes t)) (part l k) m rest
        (longer l.path k) d none
    by_index (Err trap) d = cc

-- ---- variables of selected code

abbrev is_word : Spot → Bool
is_word (InVariable d u) = false
is_word (InWord x w) = true

no_word : (x : Spot) (i d v : ℕ) → beyond x i ≡ InVariable d v → (u : ℕ) × (x ≡ InVariable d u)
no_word (InVariable e u) i d v same = (v, same)
no_word (InWord x w) i d v same = absurd (never same)
  where
    never : InWord x (w + i) ≡ InVariable d v → ⊥
    never e = cc

word_never : (x : Spot) (d u : ℕ) → is_word x ≡ true → x ≡ InVariable d u → ⊥
word_never (InVariable e v) d u t same = differ (sym t)
word_never (InWord z w) d u t same = cc

module _ (g : Setting) (set : IsSet g) (w : Codes) (calls : List LiveCall) (store : Store)
    (s : State Vars) (represents : Represents (selected_module g.program.now w) calls store s)
    (runs : s.top.proc ≡ g.id.0) where
  abbrev program : Checked
  program = g.program.now

  running_top : (below : List LiveCall) (call : LiveCall) (c : LiveCall × List LiveCall) →
      call_at (call ∷ below) (suc (length below)) ≡ Some c → (call, below) ≡ c
  running_top below call c e =
      some_same (call, below) c
      (sym (ap (λ b. if b then Some (call, below) else call_at below (suc (length below)))
      (eq-eqb (suc (length below)) (suc (length below)) refl)) ∙ e)

  -- the procedure of the running call
  its_proc : (d : ℕ) (c : LiveCall × List LiveCall) (proc : CheckedProc) → d ≡ depth calls →
      call_at calls d ≡ Some c → slice_get program.procs c.0.proc.0 ≡ Some proc →
      slice_get program.procs g.id.0 ≡ Some proc
  its_proc d c proc is there has = by_calls calls (running_is calls s represents.same_calls ∙ runs)
      (subst (λ n. call_at calls n ≡ Some c) is there)
    where
      by_calls : (cs : List LiveCall) → running cs ≡ g.id.0 → call_at cs (depth cs) ≡ Some c →
          slice_get program.procs g.id.0 ≡ Some proc
      by_calls [] e at = absurd (none_some at)
      by_calls (call ∷ below) e at = ap (slice_get program.procs)
          (sym e ∙ ap (λ (z : LiveCall × List LiveCall). z.0.proc.0) (running_top below call c at))
          ∙ has

  -- what was lent to a parameter is in a word
  lent_word : (cs : List LiveCall) → Represents (selected_module program w) cs store s →
      running cs ≡ g.id.0 → (k : ℕ) → addressed program g.id.0 (root.Param k ∷ []) ≡ true →
      (l : Location) → lent_to cs k ≡ Some l → (d u type_id : ℕ) → placed program w.frames cs l ≡
      Some (placed_at (InVariable d u) type_id) → ⊥
  lent_word [] shown is k has l e d u type_id there = none_some e
  lent_word (call ∷ below) shown is k has l e d u type_id there =
      by_proc (slice_get program.procs g.id.0) refl has
    where
      top_call : call_at (call ∷ below) (suc (length below)) ≡ Some (call, below)
      top_call = ap (λ b. if b then Some (call, below) else call_at below (suc (length below)))
          (eq-eqb (suc (length below)) (suc (length below)) refl)

      apart_spots : (x : Spot) (one other : ℕ) → is_word x ≡ true → placed_at x one ≡
          placed_at (InVariable d u) other → ⊥
      apart_spots x one other t same = word_never x d u t (ap (λ (z : Placed). z.spot) same)

      by_param : (proc : CheckedProc) → slice_get program.procs g.id.0 ≡ Some proc →
          (o : Option Param) → slice_get proc.params k ≡ o → (param_has_address o && true) ≡ true →
          ⊥
      by_param proc p None q t = differ (sym t)
      by_param proc p (Some param) q t =
          let of_call : param_of program call k ≡ Some (proc, param) =
          param_found program call k proc param (ap (slice_get program.procs) is ∙ p) q in
          let given = shown.params (suc (length below)) k call below proc param top_call of_call in
          let lent = subst (λ o. IsGiven (selected_module program w) below param o
          (content (selected_module program w) s
          (InVariable (suc (length below)) (param_variable proc k)))) e given in
          apart_spots (InWord lent.1.object lent.1.word) param.type_id type_id refl
          (some_same _ _ (sym (placed_deeper program w.frames call below l
          (placed_at (InWord lent.1.object lent.1.word) param.type_id) lent.1.place) ∙ there))

      by_proc : (o : Option CheckedProc) → slice_get program.procs g.id.0 ≡ o →
          addressed_in o (root.Param k ∷ []) ≡ true → ⊥
      by_proc None p t = differ (sym t)
      by_proc (Some proc) p t = by_param proc p (slice_get proc.params k) refl t

  -- no root that has an address is a variable
  module _ (c : LiveCall × List LiveCall) (proc : CheckedProc) (e v : ℕ)
      (at : call_at calls e ≡ Some c) (there : slice_get program.procs c.0.proc.0 ≡ Some proc) where
    known : (q : Root) → e ≡ depth calls → addressed program g.id.0 (q ∷ []) ≡ true →
        has_address proc q ≡ true
    known q is has = (and_true (has_address proc q) true
        (ap (λ o. addressed_in o (q ∷ [])) (sym (its_proc e c proc is at there)) ∙ has)).0

    not_param : (param : Param) → (param.by_var || param.addressed) ≡ true → param.by_var ≡ false →
        (param.by_var || not param.addressed) ≡ true → ⊥
    not_param param one none two = by_flags param.by_var param.addressed one none two
      where
        by_flags : (b a : Bool) → (b || a) ≡ true → b ≡ false → (b || not a) ≡ true → ⊥
        by_flags true a one none two = differ none
        by_flags false true one none two = differ (sym two)
        by_flags false false one none two = differ (sym one)

    not_local : (b : Bool) → b ≡ true → not b ≡ true → ⊥
    not_local true one two = differ (sym two)
    not_local false one two = differ (sym one)

    never_param : (d k d' k' : ℕ) → mean.Local d k ≡ mean.Param d' k' → ⊥
    never_param d k d' k' same = cc

    never_local : (d k d' k' : ℕ) → mean.Param d k ≡ mean.Local d' k' → ⊥
    never_local d k d' k' same = cc

    local_numbers : (d k d' k' : ℕ) → mean.Local d k ≡ mean.Local d' k' → (d' ≡ d) × (k' ≡ k)
    local_numbers d k d' k' same = (cc, cc)

    param_numbers : (d k d' k' : ℕ) → mean.Param d k ≡ mean.Param d' k' → (d' ≡ d) × (k' ≡ k)
    param_numbers d k d' k' same = (cc, cc)

    never_data : (n d k : ℕ) → mean.Module n ≡ mean.Param d k → ⊥
    never_data n d k same = cc

    never_data_local : (n d k : ℕ) → mean.Module n ≡ mean.Local d k → ⊥
    never_data_local n d k same = cc

    own_param : (k : ℕ) → addressed program g.id.0 (root.Param k ∷ []) ≡ true →
        Owner proc e (mean.Param (depth calls) k) v → ⊥
    own_param k has (OfLocal j local is there_is plain same) = never_local (depth calls) k e j is
    own_param k has (OfParam j param is there_is plain value same) =
        let numbers = param_numbers (depth calls) k e j is in
        let param_is : slice_get proc.params k ≡ Some param =
        ap (slice_get proc.params) (sym numbers.1) ∙ there_is in
        not_param param (sym (ap param_has_address param_is) ∙ known (root.Param k) numbers.0 has)
        value plain

    owned : (r : Root) → addressed program g.id.0 (r ∷ []) ≡ true → (d u type_id : ℕ) →
        placed program w.frames calls (root_location calls r) ≡
        Some (placed_at (InVariable d u) type_id) → Owner proc e (root_location calls r).object v →
        ⊥
    owned (root.Module n) has d u type_id place (OfParam k param is there_is plain value same) =
        never_data n e k is
    owned (root.Module n) has d u type_id place (OfLocal k local is there_is plain same) =
        never_data_local n e k is
    owned (root.Local k) has d u type_id place (OfParam j param is there_is plain value same) =
        never_param (depth calls) k e j is
    owned (root.Local k) has d u type_id place (OfLocal j local is there_is plain same) =
        let numbers = local_numbers (depth calls) k e j is in
        let local_is : slice_get proc.locals k ≡ Some local =
        ap (slice_get proc.locals) (sym numbers.1) ∙ there_is in
        not_local (is_aggregate local)
        (sym (ap local_has_address local_is) ∙ known (root.Local k) numbers.0 has) plain
    owned (root.Param k) has d u type_id place owner = by_lent (lent_to calls k) refl
      where
        by_lent : (o : Option Location) → lent_to calls k ≡ o → ⊥
        by_lent (Some l) lent =
            let is : root_location calls (root.Param k) ≡ l =
            ap (λ z. unwrap_or z (whole (mean.Param (depth calls) k))) lent in
            lent_word calls represents (running_is calls s represents.same_calls ∙ runs) k has l
            lent d u type_id (sym (ap (placed program w.frames calls) is) ∙ place)
        by_lent None lent =
            let is : root_location calls (root.Param k) ≡ whole (mean.Param (depth calls) k) =
            ap (λ z. unwrap_or z (whole (mean.Param (depth calls) k))) lent in
            own_param k has (subst (λ (l : Location). Owner proc e l.object v) is owner)

  -- What a variable names that may be lent is in no variable of selected code.
  pub in_memory : (v : RVar) (l : Location) → addressed program g.id.0 (lent_root v) ≡ true →
      location program v calls store ≡ Ok l → (d u type_id : ℕ) → placed program w.frames calls l ≡
      Some (placed_at (InVariable d u) type_id) → ⊥
  in_memory v l has names d u type_id place =
      by_standing (stands program w.frames calls set.laid l.object f.begin f.object_there)
    where
      f : Found program w.frames calls set.laid l (placed_at (InVariable d u) type_id)
      f = found program w.frames calls set.laid l (placed_at (InVariable d u) type_id) place

      begins : (n : ℕ) × (f.begin.spot ≡ InVariable d n)
      begins = no_word f.begin.spot f.part.word d u (ap (λ (z : Placed). z.spot) f.is)

      leads : selected program.types (root_type program (running calls) (out-RVar v).root)
          (root_location calls (out-RVar v).root)
          (at_store calls store (map (selector program) (out-RVar v).steps)) ≡ Ok l
      leads = sym (ap (λ z. z.location calls store) (designation-is program v)) ∙ names

      by_steps : (e n : ℕ) (c : LiveCall × List LiveCall) (proc : CheckedProc) → call_at calls e ≡
          Some c → slice_get program.procs c.0.proc.0 ≡ Some proc → is_scalar f.begin.type_id ≡
          true → Owner proc e l.object n →
          (steps : List RStep) → (out-RVar v).steps ≡ steps → ⊥
      by_steps e n c proc at_call there scalar owner (step ∷ steps) is =
          let inside = ap (λ z. selected program.types
          (root_type program (running calls) (out-RVar v).root)
          (root_location calls (out-RVar v).root)
          (at_store calls store (map (selector program) z))) (sym is) ∙ leads in
          leads_inside program.types (root_type program (running calls) (out-RVar v).root)
          (root_location calls (out-RVar v).root) l (selector program step calls store)
          (at_store calls store (map (selector program) steps)) inside
          (no_path program.types set.laid.types f.begin.type_id l.path f.part scalar f.part_there)
      by_steps e n c proc at_call there scalar owner [] is =
          let same : root_location calls (out-RVar v).root ≡ l =
          ok_same (root_location calls (out-RVar v).root) l
          (ap (λ z. selected program.types (root_type program (running calls) (out-RVar v).root)
          (root_location calls (out-RVar v).root)
          (at_store calls store (map (selector program) z))) (sym is) ∙ leads) in
          let whole_has : addressed program g.id.0 ((out-RVar v).root ∷ []) ≡ true = rw is at has in
          owned c proc e n at_call there (out-RVar v).root whole_has d u type_id
          (ap (placed program w.frames calls) same ∙ place)
          (subst (λ (z : Location). Owner proc e z.object n) (sym same) owner)

      by_standing : Standing program w.frames calls l.object f.begin → ⊥
      by_standing (IsData n var a b c) = word_never f.begin.spot d begins.0
          (ap (λ (z : Placed). is_word z.spot) c) begins.1
      by_standing (IsVariable e n c proc at_call there spot scalar owner) =
          by_steps e n c proc at_call there scalar owner (out-RVar v).steps refl
      by_standing (IsCell e k c a b spot scalar) = word_never f.begin.spot d begins.0
          (ap is_word spot) begins.1
      by_standing (IsAggregate e k c proc local a b o h t z) = word_never f.begin.spot d begins.0
          (ap (λ (q : Placed). is_word q.spot) z) begins.1
