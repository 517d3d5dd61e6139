-- One selector: a field, an element by a constant, an element by an index that is computed.
use Rattle.std.proofs.Common.{◌≡◌, ℕ, ◌+◌, ◌*◌, ◌^◌, ◌<◌, ◌≤◌, Bool, true, false, List, [], ◌∷◌}
use Rattle.std.proofs.Common.{◌++◌, length, map, Option, Some, None, Ok, Err, refl, sym, ap, ◌∙◌}
use Rattle.std.proofs.Common.{subst, arith}
use Rattle.std.specs.Prelude.{pos, nat_lt, nat_eq, slice_index, if◌then◌else◌}
use Rattle.std.proofs.lemmas.Bool.{lt-ltb}
use Rattle.std.proofs.lemmas.Int.{ints}
use Rattle.pra_list.specs.Results.{◌>>=◌}
use Rattle.pra_list.proofs.Choices.{and_true}
use Rattle.pra_list.proofs.Options.{some_same, none_some}
use Rattle.pra_base.specs.Code.{kind_of}
use Rattle.pra_base.specs.Operands.{via, index, var_of}
use Rattle.pra_base.specs.declared.event.TrapKind.TheVariants.{Index}
use Rattle.pra_base.specs.declared.ids.VarId.{VarId}
use Rattle.pra_base.specs.declared.code.Addr.{Addr}
use Rattle.pra_base.specs.declared.code.Base.{Base}
use Rattle.pra_base.specs.declared.code.Base.TheVariants as base
use Rattle.pra_base.specs.declared.code.VProc.{VProc}
use Rattle.ob_syntax.specs.Expressions.{integer}
use Rattle.ob_syntax.specs.Operators.{number}
use Rattle.ob_syntax.specs.declared.checked.Shape.{Shape}
use Rattle.ob_syntax.specs.declared.checked.Value.{Value}
use Rattle.ob_syntax.specs.declared.checked.Value.TheVariants.{Number}
use Rattle.ob_mean.specs.Designators.{shape_of, array_length, element_type, field_types, Field}
use Rattle.ob_mean.specs.Designators.{Element, picked, selected}
use Rattle.ob_mean.specs.Expressions.{Evaluation, Selecting}
use Rattle.ob_mean.specs.Store.{Store, part}
use Rattle.ob_mean.specs.declared.store.LiveCall.{LiveCall}
use Rattle.ob_mean.specs.declared.store.Location.{Location}
use Rattle.vc_code.specs.declared.action.Here.{Here}
use Rattle.vc_code.specs.declared.value.Value.TheVariants.{Num, At}
use Rattle.vc_code.specs.Value.{Held}
use Rattle.vc_code.specs.Machine.{Activation, State, here, with_top}
use Rattle.vc_code.specs.Operation.{based, indexed, base_count, address}
use Rattle.vc_code.specs.Operation as operation
use Rattle.vc_code.specs.Selected.{Vars, read, code_of, shape}
use Rattle.vc_build.specs.Grow.{IsOpen}
use Rattle.vc_build.specs.Runs.{Codes, SameBelow, Yields}
use Rattle.vc_build.proofs.Growth.{grows_at_same}
use Rattle.vc_build.proofs.Steps.{same_self, same_on, rests, yields_on, runs_in_on}
use Rattle.vc_expr.specs.Operators.{Gives}
use Rattle.vc_expr.proofs.Operations.{same_fewer}
use Rattle.vc_relation.specs.Layout.{words_before}
use Rattle.vc_select.specs.declared.target.Setting.{Setting}
use Rattle.vc_select.specs.declared.target.Target.{Target}
use Rattle.vc_select.specs.declared.target.Target.TheVariants.{Var, Memory}
use Rattle.vc_select.specs.Indexes.{HasIndex, Indexes}
use Rattle.vc_select.specs.Targets.{above_base, above_target, held_for, shifted, words_to_field}
use Rattle.vc_select.specs.Targets.{IsWord, IsNamed}
use Rattle.vc_typed.specs.Typing.{Typing, typed, is_of, Leading, ToField, ToElement, is_array, into}
use Rattle.vc_select.specs.Selects.{home_variables, IsSet, Starts, Results, Selects, Finds, Leads}
use Rattle.vc_select.proofs.Keeping.{read_same, held_same, here_same, named_on, starts_earlier}
use Rattle.vc_select.proofs.Keeping.{extends_on, extends_at}
use Rattle.vc_select.proofs.Placing.{part_is, word_bound}
use Rattle.vc_select.proofs.Elements.{scalar_shape, field_named, element_part, element_before}
use Rattle.vc_select.proofs.Elements.{element_named}

-- ---- selectors without code

module _ (g : Setting) (first : ℕ) (old : VProc) (at : ℕ) (target : Target) (type_id : ℕ)
    (o : IsOpen old at) where
  abbrev types : List Shape
  types = g.program.now.types

  record Next (w : Codes) (calls : List LiveCall) (store : Store) (s : State Vars) (l : Location)
      (next : Target) (selector : Selecting) (next_type : ℕ) : Type 0 where
    location : Location
    selects : selected types type_id l (selector calls store ∷ []) ≡ Ok location
    named : IsNamed g.program.now w calls s next location next_type

  free : (next : Target) (step : Leading) (selector : Selecting) →
      ((w : Codes) (calls : List LiveCall) (store : Store) (s : State Vars) (l : Location) →
      IsSet g → IsNamed g.program.now w calls s target l type_id → (good : Bool) →
      (into types (typed good type_id) step).good ≡ true →
      Next w calls store s l next selector (into types (typed good type_id) step).type_id) →
      Leads g first old old at at target next type_id (step ∷ []) (selector ∷ [])
  free next step selector f = record {
    extends = extends_at at old old (grows_at_same old at) o;
    means = λ w calls store s l starts low named good well.
        let x = f w calls store s l starts.set named good well in
        let t = (into types (typed good type_id) step).type_id in
        subst (Yields w s (Finds g w old at calls s first next t)) (sym x.selects)
        (rests w s (Finds g w old at calls s first next t x.location) starts.runs.compared (record {
          stands = starts.stands;
          same = same_self first s.top;
          named = named_on w (above_target next) s s.top (same_self (above_target next) s.top)
              g.program.now calls next x.location t (omega arith) x.named;
        }));
  }

  pub leads_field : (k : ℕ) (selector : Selecting) →
      ((calls : List LiveCall) (store : Store) → selector calls store ≡ Field k) →
      Leads g first old old at at target
      (shifted (words_to_field g.words.now (field_types (shape_of types type_id)) k) target)
      type_id (ToField k ∷ []) (selector ∷ [])
  leads_field k selector is =
      free (shifted (words_to_field g.words.now (field_types (shape_of types type_id)) k) target)
      (ToField k) selector (λ w calls store s l set named good well. record {
        location = part l k;
        selects = ap (λ z. selected types type_id l (z ∷ [])) (is calls store);
        named = field_named g.program.now set.laid w calls s g.words.now set.words target l type_id
            k (and_true good (nat_lt k (length (field_types (shape_of types type_id)))) well).1
            named;
      })

  pub leads_constant : (k : ℕ) (typing : Typing) (selector : Selecting) →
      k < array_length (shape_of types type_id) →
      ((calls : List LiveCall) (store : Store) → selector calls store ≡
      Element (Ok (Number (pos k)))) →
      Leads g first old old at at target
      (shifted (k * slice_index g.words.now (element_type (shape_of types type_id))) target)
      type_id (ToElement typing ∷ []) (selector ∷ [])
  leads_constant k typing selector lt is =
      free (shifted (k * slice_index g.words.now (element_type (shape_of types type_id))) target)
      (ToElement typing) selector (λ w calls store s l set named good well. record {
        location = part l k;
        selects =
            ap (λ z. selected types type_id l (z ∷ [])) (is calls store)
            ∙ ap (λ b. (if b then Ok k else Err Index) >>= λ n. Ok (part l n))
            (lt-ltb k (array_length (shape_of types type_id)) lt);
        named = element_named g.program.now set.laid w calls s g.words.now set.words target l
            type_id k lt named;
      })

-- ---- the variables of an address

module _ (R : ℕ → Held) where
  abbrev held : Base → Option VarId → List Held
  held b i = map R (map var_of (via b ++ index i))

  number_some : (h : Held) (n : ℕ) → operation.number h ≡ Some n → h ≡ Some (Num n)
  number_some None n e = absurd (none_some e)
  number_some (Some (Num m)) n e = ap (λ k. Some (Num k)) (some_same m n e)
  number_some (Some (At x o)) n e = absurd (none_some e)

  abbrev IsHeld : Option VarId → ℕ → Type 0
  IsHeld None n = n ≡ 0
  IsHeld (Some v) n = R v.0 ≡ Some (Num n)

  index_held : (b : Base) (i : Option VarId) (n : ℕ) → indexed i (held b i) (base_count b) ≡
      Some n → IsHeld i n
  index_held b None n e = sym (some_same 0 n e)
  index_held (base.Via u) (Some v) n e = number_some (R v.0) n e
  index_held (base.Global u) (Some v) n e = number_some (R v.0) n e
  index_held (base.Frame u) (Some v) n e = number_some (R v.0) n e
  index_held (base.Cell u) (Some v) n e = number_some (R v.0) n e

  index_number : (b : Base) (v : VarId) (n : ℕ) → R v.0 ≡ Some (Num n) →
      indexed (Some v) (held b (Some v)) (base_count b) ≡ Some n
  index_number (base.Via u) v n e = ap operation.number e
  index_number (base.Global u) v n e = ap operation.number e
  index_number (base.Frame u) v n e = ap operation.number e
  index_number (base.Cell u) v n e = ap operation.number e

-- the base alone tells where the address begins
base_same : (R S : ℕ → Held) (h : Here) (b : Base) (i j : Option VarId) →
    ((v : ℕ) → v < above_base b → R v ≡ S v) → based h b (held R b i) ≡ based h b (held S b j)
base_same R S h (base.Via v) i j same = ap address (same v.0 (omega arith))
base_same R S h (base.Global x) i j same = refl
base_same R S h (base.Frame x) i j same = refl
base_same R S h (base.Cell x) i j same = refl

-- ---- an index that is computed

-- a variable of the code has no elements
pub leads_no_index : (g : Setting) (first : ℕ) (old mid : VProc) (from between v : ℕ) (u : VarId)
    (type_id : ℕ) (typing : Typing) (e : Evaluation) (selector : Selecting) →
    Selects g old mid from between v typing e →
    Leads g first old mid from between (Var u) (Var u) type_id (ToElement typing ∷ [])
    (selector ∷ [])
leads_no_index g first old mid from between v u type_id typing e selector p = record {
  extends = p.extends;
  means = λ w calls store s l starts low named good well.
      let array = and_true (is_of integer typing) (is_array (shape_of g.program.now.types type_id))
      (and_true good _ well).1 in
      absurd (differ (sym array.1
      ∙ (scalar_shape g.program.now.types starts.set.laid.types type_id named.scalar).1));
}
  where
    differ : true ≡ false → ⊥
    differ d = cc

module _ (g : Setting) (first : ℕ) (old mid new : VProc) (from between v : ℕ) (a : Addr) (u : VarId)
    (type_id : ℕ) (typing : Typing) (e : Evaluation) (selector : Selecting)
    (is : (calls : List LiveCall) (store : Store) → selector calls store ≡ Element (e calls store))
    (low : first ≤ length old.vars) (base_low : above_base a.base ≤ first)
    (named_low : above_target (Memory a) ≤ length old.vars)
    (p : Selects g old mid from between v typing e)
    (q : Indexes first between mid new a.index v
    (array_length (shape_of g.program.now.types type_id))
    (slice_index g.words.now (element_type (shape_of g.program.now.types type_id))) u.0) where
  abbrev shapes : List Shape
  shapes = g.program.now.types

  abbrev array : Shape
  array = shape_of shapes type_id

  abbrev number_of : ℕ
  number_of = array_length array

  abbrev factor : ℕ
  factor = slice_index g.words.now (element_type array)

  abbrev next : Addr
  next = record a { index = Some u }

  module _ (w : Codes) (calls : List LiveCall) (store : Store) (s : State Vars) (l : Location)
      (starts : Starts g w old new from calls store s) (homes : home_variables g ≤ first)
      (x : IsWord g.program.now w calls s a l type_id)
      (good : Bool) (well : (into shapes (typed good type_id) (ToElement typing)).good ≡ true) where
    abbrev R : Location → Activation Vars → Type 0
    R m d = Finds g w new between calls s first (Memory next) (element_type array) m d

    before : (k : ℕ) → k < number_of → k * factor ≡ words_before shapes array k
    before k lt = element_before g.program.now starts.set.laid w calls s g.words.now
        starts.set.words array k lt

    place_of : (k : ℕ) → k < number_of → Rattle.vc_relation.specs.Spots.placed g.program.now
        w.frames calls (part l k) ≡
        Some (Rattle.vc_relation.specs.Spots.placed_at
        (Rattle.vc_relation.specs.Spots.InWord x.object (x.word + words_before shapes array k))
        (element_type array))
    place_of k lt = part_is g.program.now w.frames calls starts.set.laid l x.object x.word type_id k
        (element_type array) x.place
        (element_part g.program.now starts.set.laid w calls s array k lt)

    bound : (k : ℕ) → k < number_of → x.index + k * factor < 2 ^ 31
    bound k lt = omega (
      arith,
      x.sum,
      before k lt,
      word_bound g.program.now w.frames calls starts.set.laid (part l k) x.object
          (x.word + words_before shapes array k) (element_type array) (place_of k lt),
    )

    small : x.index < 2 ^ 31
    small = omega (
      arith,
      x.sum,
      word_bound g.program.now w.frames calls starts.set.laid l x.object
          x.word type_id x.place,
    )

    -- the target behind the index
    next_named : (k : ℕ) (d : Activation Vars) → k < number_of → SameBelow first s.top d →
        read (kind_of (code_of w.procs g.id.0)) d.home.held u.0 ≡
        Some (Num (x.index + k * factor)) → IsWord g.program.now w calls (with_top s d) next
        (part l k) (element_type array)
    next_named k d lt same value = record {
      object = x.object;
      word = x.word + words_before shapes array k;
      place = place_of k lt;
      begin = x.begin;
      offset = x.offset;
      index = x.index + k * factor;
      base_is =
          ap (λ h. based h a.base (held_for w (with_top s d) next)) (here_same w first s d same)
          ∙ base_same (read (kind_of (code_of w.procs d.proc)) d.home.held)
          (read (kind_of (code_of w.procs s.top.proc)) s.top.home.held)
          (here (shape w.procs w.frames) s) a.base (Some u) a.index
          (λ n below. read_same w first s d same n (omega (arith, below, base_low)))
          ∙ x.base_is;
      offset_is = x.offset_is;
      index_is = index_number (read (kind_of (code_of w.procs d.proc)) d.home.held) a.base u
          (x.index + k * factor) (ap (λ n. read (kind_of (code_of w.procs n)) d.home.held u.0)
          (same.proc ∙ starts.runs.proc) ∙ value);
      sum = omega (arith, x.sum, before k lt);
    }

    has_index : (c : Activation Vars) → SameBelow (length old.vars) s.top c →
        HasIndex w g.id.0 a.index c x.index
    has_index c same =
        by_held a.index (index_held (read (kind_of (code_of w.procs c.proc)) c.home.held) a.base
        a.index x.index
        (ap (λ hs. indexed a.index hs (base_count a.base))
        (held_same w (length old.vars) s c same a named_low) ∙ x.index_is))
      where
        by_held : (i : Option VarId) → IsHeld (read (kind_of (code_of w.procs c.proc)) c.home.held)
            i x.index → HasIndex w g.id.0 i c x.index
        by_held None h = h
        by_held (Some j) h = record {
          fits = omega (arith, small, ints);
          held =
              ap (λ n. read (kind_of (code_of w.procs n)) c.home.held j.0)
              (sym (same.proc ∙ starts.runs.proc)) ∙ h;
        }

    picks : (z : Value) (c : Activation Vars) → Results w g.id.0 mid between v (length old.vars)
        s.top typing.type_id z c →
        Yields w (with_top s c) R (picked number_of (number z) >>= λ k. Ok (part l k))
    picks z c res =
        let same = res.gives.holds.same in
        let far : SameBelow first s.top c = same_fewer first (length old.vars) s.top c low same in
        yields_on w (with_top s c)
        (λ k d. (k < number_of) × Gives w g.id.0 new between u.0 first c
        (Number (pos (x.index + k * factor))) d) R (picked number_of (number z))
        (λ k. Ok (part l k))
        (q.means w g.id.0 (with_top s c) x.index z
        (runs_in_on w g.id.0 (length old.vars) new s c same starts.runs) res.gives.holds.stands
        (has_index c same) (record { fits = res.gives.fits; held = res.gives.holds.value })
        bound)
        (λ k d given.
        rests w (with_top s d) (R (part l k)) refl (record {
          stands = given.1.holds.stands;
          same = same_on first first s.top c d (omega arith) far given.1.holds.same;
          named = next_named k d given.0
              (same_on first first s.top c d (omega arith) far given.1.holds.same)
              given.1.holds.value;
        }))

    typing_good : typing.good ≡ true
    typing_good = (and_true typing.good (nat_eq typing.type_id integer)
        (and_true (is_of integer typing) (is_array array) (and_true good _ well).1).0).0

    all : Yields w s R (selected shapes type_id l (selector calls store ∷ []))
    all =
        subst (Yields w s R) (ap (λ z. selected shapes type_id l (z ∷ [])) (sym (is calls store)))
        (yields_on w s (Results w g.id.0 mid between v (length old.vars) s.top typing.type_id) R
        (e calls store) (λ z. picked number_of (number z) >>= λ k. Ok (part l k))
        (p.means w calls store s
        (starts_earlier g w old new from calls store s starts mid q.grows.grows) typing_good)
        picks)

  pub leads_index : Leads g first old new from between (Memory a) (Memory next) type_id
      (ToElement typing ∷ []) (selector ∷ [])
  leads_index = record {
    extends = extends_on from between between old mid new p.extends
        (extends_at between mid new q.grows q.is_open);
    means = all;
  }
