-- Along the selectors of a variable, from target to target.
use Rattle.std.proofs.Common.{◌≡◌, ℕ, ◌≤◌, Bool, true, List, [], ◌∷◌, length, Result, Ok, Err, refl}
use Rattle.std.proofs.Common.{sym, ap, ◌∙◌, subst, arith}
use Rattle.std.specs.Prelude.{nat_lt, nat_eq}
use Rattle.std.proofs.lemmas.Bool.{eqb-true}
use Rattle.pra_list.specs.Results.{◌>>=◌}
use Rattle.pra_list.proofs.Choices.{and_true}
use Rattle.pra_base.specs.declared.event.TrapKind.{TrapKind}
use Rattle.pra_base.specs.declared.code.VProc.{VProc}
use Rattle.ob_syntax.specs.Operators.{Outcome, number}
use Rattle.ob_syntax.specs.declared.checked.Root.{Root}
use Rattle.ob_syntax.specs.declared.checked.Shape.{Shape}
use Rattle.ob_mean.specs.Designators.{shape_of, array_length, element_type, field_types, field_type}
use Rattle.ob_mean.specs.Designators.{root_type, root_location, running, Selector, Element, Located}
use Rattle.ob_mean.specs.Designators.{picked, selected, designated}
use Rattle.ob_mean.specs.Expressions.{Selecting, at_store}
use Rattle.ob_mean.specs.Store.{Store, part}
use Rattle.ob_mean.specs.declared.store.LiveCall.{LiveCall}
use Rattle.ob_mean.specs.declared.store.Location.{Location}
use Rattle.vc_code.specs.Machine.{Activation, State, with_top}
use Rattle.vc_code.specs.Selected.{Vars}
use Rattle.vc_build.specs.Grow.{IsOpen, Grows}
use Rattle.vc_build.specs.Runs.{Codes, SameBelow, Yields}
use Rattle.vc_build.proofs.Growth.{grows_at_same}
use Rattle.vc_build.proofs.Steps.{same_self, same_on, rests, yields_on}
use Rattle.vc_select.specs.declared.target.Setting.{Setting}
use Rattle.vc_select.specs.declared.target.Target.{Target}
use Rattle.vc_select.specs.Targets.{above_target, root_target, IsNamed}
use Rattle.vc_typed.specs.Typing.{type_after, Typing, typed, is_of, Leading, ToField, ToElement}
use Rattle.vc_typed.specs.Typing.{into, along, root_typing, designated_typing, is_declared}
use Rattle.vc_select.specs.Selects.{IsFor, home_variables, Starts, Finds, Locates, Leads}
use Rattle.vc_select.proofs.Keeping.{named_on, starts_earlier, starts_on, extends_on, extends_at}
use Rattle.vc_select.proofs.Roots.{running_is, root_named}

-- ---- what is known of a selector's typing

-- all selectors but the last ones are as they must be, too
pub good_before : (shapes : List Shape) (x : Typing) (steps : List Leading) →
    (along shapes x steps).good ≡ true → x.good ≡ true
good_before shapes x [] e = e
good_before shapes x (ToField k ∷ steps) e =
    (and_true x.good (nat_lt k (length (field_types (shape_of shapes x.type_id))))
    (good_before shapes (into shapes x (ToField k)) steps e)).0
good_before shapes x (ToElement y ∷ steps) e =
    (and_true x.good _ (good_before shapes (into shapes x (ToElement y)) steps e)).0

-- ---- one selector, and then the others

module _ {A B C : Type 0} where
  bind_on : (r : Result A TrapKind) (f : A → Result B TrapKind) (h : B → Result C TrapKind) →
      (r >>= λ x. f x >>= h) ≡ ((r >>= f) >>= h)
  bind_on (Ok x) f h = refl
  bind_on (Err trap) f h = refl

module _ (shapes : List Shape) (type_id : ℕ) (l : Location) (rest : List Selector) where
  selected_on : (step : Leading) (selector : Selector) → IsFor step selector →
      (selected shapes type_id l (selector ∷ []) >>= λ m. selected shapes
      (type_after shapes type_id step) m rest) ≡ selected shapes type_id l (selector ∷ rest)
  selected_on (ToField k) selector is =
      ap (λ z. selected shapes type_id l (z ∷ []) >>= λ m. selected shapes
      (field_type (shape_of shapes type_id) k) m rest) is
      ∙ sym (ap (λ z. selected shapes type_id l (z ∷ rest)) is)
  selected_on (ToElement x) selector is =
      ap (λ z. selected shapes type_id l (z ∷ []) >>= λ m. selected shapes
      (element_type (shape_of shapes type_id)) m rest) is.1
      ∙ one_value is.0
      ∙ sym (ap (λ z. selected shapes type_id l (z ∷ rest)) is.1)
    where
      one_index : (r : Result ℕ TrapKind) →
          ((r >>= λ k. Ok (part l k)) >>= λ m. selected shapes
          (element_type (shape_of shapes type_id)) m rest) ≡
          (r >>= λ k. selected shapes (element_type (shape_of shapes type_id)) (part l k) rest)
      one_index (Ok k) = refl
      one_index (Err trap) = refl

      one_value : (o : Outcome) →
          (selected shapes type_id l (Element o ∷ []) >>= λ m. selected shapes
          (element_type (shape_of shapes type_id)) m rest) ≡ selected shapes type_id l
          (Element o ∷ rest)
      one_value (Ok y) = one_index (picked (array_length (shape_of shapes type_id)) (number y))
      one_value (Err trap) = refl

module _ (g : Setting) (first : ℕ) (old mid new : VProc) (from between to : ℕ)
    (begin middle end : Target) (type_id : ℕ) (step : Leading) (steps : List Leading)
    (selector : Selecting) (selectors : List Selecting)
    (is_for : (calls : List LiveCall) (store : Store) → IsFor step (selector calls store))
    (p : Leads g first old mid from between begin middle type_id (step ∷ []) (selector ∷ []))
    (q : Leads g first mid new between to middle end (type_after g.program.now.types type_id step)
    steps selectors) where
  abbrev types : List Shape
  types = g.program.now.types

  -- the typing behind the first selector
  behind : (good : Bool) → (b : Bool) ×
      (into types (typed good type_id) step ≡ typed b (type_after types type_id step))
  behind good = by_step step
    where
      by_step : (z : Leading) → (b : Bool) ×
          (into types (typed good type_id) z ≡ typed b (type_after types type_id z))
      by_step (ToField k) = ((into types (typed good type_id) (ToField k)).good, refl)
      by_step (ToElement x) = ((into types (typed good type_id) (ToElement x)).good, refl)

  module _ (w : Codes) (calls : List LiveCall) (store : Store) (s : State Vars) (l : Location)
      (starts : Starts g w old new from calls store s) (low : home_variables g ≤ first)
      (named : IsNamed g.program.now w calls s begin l type_id)
      (good : Bool) (well : (along types (typed good type_id) (step ∷ steps)).good ≡ true) where
    abbrev after : Bool
    after = (behind good).0

    after_is : into types (typed good type_id) step ≡ typed after (type_after types type_id step)
    after_is = (behind good).1

    well_after : (along types (typed after (type_after types type_id step)) steps).good ≡ true
    well_after = ap (λ z. (along types z steps).good) (sym after_is) ∙ well

    abbrev R : Location → Activation Vars → Type 0
    R m c = Finds g w new to calls s first end
        (along types (typed good type_id) (step ∷ steps)).type_id m c

    abbrev Q : Location → Activation Vars → Type 0
    Q m c = Finds g w mid between calls s first middle
        (into types (typed good type_id) step).type_id m c

    since : (c : Activation Vars) → SameBelow first s.top c → (r : Located) →
        Yields w (with_top s c) (Finds g w new to calls (with_top s c) first end
        (along types (typed after (type_after types type_id step)) steps).type_id) r →
        Yields w (with_top s c) R r
    since c same (Ok m) y = record {
      steps = y.steps;
      call = y.call;
      there = y.there;
      good = record {
        stands = y.good.stands;
        same = same_on first first s.top c y.call (omega arith) same y.good.same;
        named = subst (IsNamed g.program.now w calls (with_top s y.call) end m)
            (ap (λ z. (along types z steps).type_id) (sym after_is)) y.good.named;
      };
    }
    since c same (Err trap) y = y

    goes : (m : Location) (c : Activation Vars) → Q m c →
        Yields w (with_top s c) R
        (selected types (type_after types type_id step) m (at_store calls store selectors))
    goes m c found =
        since c found.same (selected types (type_after types type_id step) m
        (at_store calls store selectors))
        (q.means w calls store (with_top s c) m
        (starts_on g w old new from calls store s starts first c low found.same mid new between
        found.stands p.extends.grows.grows.vars (grows_same_self new)) low
        (subst (IsNamed g.program.now w calls (with_top s c) middle m)
        (ap (λ z. z.type_id) after_is) found.named) after well_after)
      where
        grows_same_self : (x : VProc) → Grows x x
        grows_same_self x = (grows_at_same x 0).grows

    all : Yields w s R (selected types type_id l (at_store calls store (selector ∷ selectors)))
    all =
        subst (Yields w s R) (selected_on types type_id l (at_store calls store selectors) step
        (selector calls store) (is_for calls store))
        (yields_on w s Q R (selected types type_id l (selector calls store ∷ []))
        (λ m. selected types (type_after types type_id step) m (at_store calls store selectors))
        (p.means w calls store s l
        (starts_earlier g w old new from calls store s starts mid q.extends.grows.grows) low
        named good (good_before types (into types (typed good type_id) step) steps well)) goes)

  pub leads_on : Leads g first old new from to begin end type_id (step ∷ steps)
      (selector ∷ selectors)
  leads_on = record {
    extends = extends_on from between to old mid new p.extends q.extends;
    means =
        all;
  }

-- no selector
pub leads_nowhere : (g : Setting) (first : ℕ) (old : VProc) (at : ℕ) (target : Target)
    (type_id : ℕ) → IsOpen old at → Leads g first old old at at target target type_id [] []
leads_nowhere g first old at target type_id o = record {
  extends = extends_at at old old (grows_at_same old at) o;
  means = λ w calls store s l starts low named good well.
      rests w s (Finds g w old at calls s first target type_id l) starts.runs.compared (record {
        stands = starts.stands;
        same = same_self first s.top;
        named = named_on w (above_target target) s s.top (same_self (above_target target) s.top)
            g.program.now calls target l type_id (omega arith) named;
      });
}

-- ---- the whole variable

module _ (g : Setting) (old new : VProc) (from to : ℕ) (target : Target) (root : Root) (type_id : ℕ)
    (steps : List Leading) (selectors : List Selecting)
    (p : Leads g (length old.vars) old new from to
    (root_target g.program.now g.params.now g.locals.now g.id.0 root) target
    (root_type g.program.now g.id.0 root) steps selectors) where
  abbrev all_types : List Shape
  all_types = g.program.now.types

  abbrev reached : Typing
  reached = along all_types (root_typing g.program.now g.id.0 root) steps

  module _ (w : Codes) (calls : List LiveCall) (store : Store) (s : State Vars)
      (starts : Starts g w old new from calls store s) (good : is_of type_id reached ≡ true) where
    parts : (reached.good ≡ true) × (nat_eq reached.type_id type_id ≡ true)
    parts = and_true reached.good (nat_eq reached.type_id type_id) good

    declared : is_declared g.program.now g.id.0 root ≡ true
    declared = good_before all_types (root_typing g.program.now g.id.0 root) steps parts.0

    runs : running calls ≡ g.id.0
    runs = running_is calls s starts.represents.same_calls ∙ starts.runs.proc

    finds : Yields w s (Finds g w new to calls s (length old.vars) target type_id)
        (designated g.program.now calls root (at_store calls store selectors))
    finds =
        subst (Yields w s (Finds g w new to calls s (length old.vars) target type_id))
        (ap (λ n. selected all_types (root_type g.program.now n root) (root_location calls root)
        (at_store calls store selectors)) (sym runs))
        (subst (λ t. Yields w s (Finds g w new to calls s (length old.vars) target t)
        (selected all_types (root_type g.program.now g.id.0 root) (root_location calls root)
        (at_store calls store selectors))) (eqb-true reached.type_id type_id parts.1)
        (p.means w calls store s (root_location calls root) starts starts.homes
        (root_named g starts.set w calls store s starts.represents starts.runs.proc starts.variables
        root declared)
        (is_declared g.program.now g.id.0 root) parts.0))

  pub locates : Locates g old new from to target
      (designated_typing g.program.now g.id.0 root steps type_id)
      (λ calls store. designated g.program.now calls root (at_store calls store selectors))
  locates = record { extends = p.extends; means = finds }
