-- A call that has begun, and a module that begins, are in the relation.
use Rattle.std.proofs.Common.{◌≡◌, ℕ, suc, ◌+◌, ◌<◌, Bool, true, false, not, List, [], ◌∷◌, length}
use Rattle.std.proofs.Common.{map, Option, Some, None, refl, sym, ap, ◌∙◌, subst, arith}
use Rattle.std.specs.Prelude.{slice_get, slice_index_or, nat_eq, if◌then◌else◌, ◌&&◌, ◌||◌, pos}
use Rattle.std.specs.Prelude.{option_map, unwrap_or}
use Rattle.std.proofs.lemmas.Bool.{eqb-true, ne_eqb}
use Rattle.std.proofs.lemmas.List.{length-map}
use Rattle.std.proofs.lemmas.Option.{slice_get_within, slice_get-get_or, slice_get-map}
use Rattle.std.proofs.Math.ListN.{get_or}
use Rattle.pra_list.specs.Options.{◌>>=◌}
use Rattle.pra_list.proofs.Options.{some_same, none_some, bind_some}
use Rattle.ob_syntax.specs.Operators.{number}
use Rattle.ob_syntax.specs.Storage.{type_words}
use Rattle.ob_syntax.specs.WellFormed.{is_scalar}
use Rattle.ob_syntax.specs.declared.checked.CheckedProc.{CheckedProc}
use Rattle.ob_syntax.specs.declared.checked.Param.{Param}
use Rattle.ob_syntax.specs.declared.checked.Value.TheVariants.{Number}
use Rattle.ob_mean.specs.declared.store.Argument.{Argument}
use Rattle.ob_mean.specs.declared.store.Argument.TheVariants.{Passed, Lent}
use Rattle.ob_mean.specs.declared.store.LiveCall.{LiveCall}
use Rattle.ob_mean.specs.declared.store.Location.{Location}
use Rattle.ob_mean.specs.declared.store.Object.TheVariants as mean
use Rattle.ob_mean.specs.Program.{call_with, entered, lent_of, only_body}
use Rattle.std.specs.FinMap.{get-empty}
use Rattle.ob_mean.specs.Store.{Store, location_cmp, new_store, whole, within, is_at_depth}
use Rattle.ob_mean.proofs.Stores.{entered-param, entered-local, entered-other}
use Rattle.vc_call.specs.Begins.{IsPushed, ArePushed, HasBegun, at_home, Waits}
use Rattle.vc_call.proofs.Own.{zero_is, own_values, own_variable, placed_below}
use Rattle.vc_code.specs.declared.value.Object.TheVariants.{Data, Aggregates, Cell}
use Rattle.vc_code.specs.declared.value.Value.TheVariants.{Num}
use Rattle.vc_code.specs.Machine.{Activation, State, depth, last_get, words_of, joined, cell}
use Rattle.vc_code.specs.Machine.{live_in}
use Rattle.vc_code.specs.Selected.{Vars}
use Rattle.vc_relation.specs.Layout.{IsLaidOut, var_words}
use Rattle.vc_relation.specs.Homes.{param_variable}
use Rattle.vc_relation.specs.Spots.{Spot, InVariable, InWord, Placed, placed_at, call_at, param_of}
use Rattle.vc_relation.specs.Spots.{beyond, placed}
use Rattle.vc_relation.specs.Relation.{SelectedModule, shapes_of, variable_in, content, number_at}
use Rattle.vc_relation.specs.Relation.{IsKept, IsGiven, lent_in, Represents}
use Rattle.vc_relation.proofs.Apart.{call_depth, Found, found, Standing, IsData, IsVariable, IsCell}
use Rattle.vc_relation.proofs.Apart.{IsAggregate, stands, type_within}
use Rattle.vc_relation.proofs.Parts.{lies_within, scalar_words}
use Rattle.vc_select.proofs.Placing.{follow_within}
use Rattle.vc_relation.proofs.Lives.{call_within, not_top, IsAmong, spot_among}
use Rattle.vc_relation.proofs.Represented.{given_on, kept_on}

module _ (t : SelectedModule) (id : ℕ) (proc : CheckedProc) (args : List Argument)
    (calls : List LiveCall) (store : Store) (old new : State Vars)
    (laid : IsLaidOut t.program) (there : slice_get t.program.procs id ≡ Some proc)
    (represents : Represents t calls store old)
    (arguments : ArePushed t calls proc.params args old.pushed)
    (begun : HasBegun t id proc old.pushed new) (waits : Waits old new) where
  abbrev call : LiveCall
  call = call_with id args

  abbrev waiting : Activation Vars
  waiting = at_home old.top waits.home

  below_procs : map (λ c. c.proc) new.below ≡ map (λ (c : LiveCall). c.proc.0) calls
  below_procs = ap (map (λ (c : Activation Vars). c.proc)) waits.below ∙ represents.same_calls

  counts : length calls ≡ suc (length old.below)
  counts =
      sym (length-map calls (λ (c : LiveCall). c.proc.0))
      ∙ sym (ap (λ ps. length ps) represents.same_calls) ∙ length-map (live_in old)
      (λ c. c.proc)

  count_below : length new.below ≡ suc (length old.below)
  count_below = ap (λ cs. length cs) waits.below

  -- ---- what was there is there

  not_own : (m : ℕ) (b : Bool) (n : ℕ) → m < n → (nat_eq m n && b) ≡ false
  not_own m b n lt = ap (λ a. a && b) (ne_eqb m n (λ e. omega (arith, e, lt)))

  waiting_variable : (d v : ℕ) → variable_in (call_at (waiting ∷ old.below) d) v ≡
      variable_in (call_at (old.top ∷ old.below) d) v
  waiting_variable d v = by_depth (nat_eq d (suc (length old.below)))
    where
      by_depth : (b : Bool) → variable_in
          (if b then Some (waiting, old.below) else call_at old.below d) v ≡
          variable_in (if b then Some (old.top, old.below) else call_at old.below d) v
      by_depth true = ap (λ h. slice_index_or h v None) waits.held
      by_depth false = refl

  content_below : (spot : Spot) → IsAmong (length calls) spot → content t new spot ≡
      content t old spot
  content_below (InVariable d v) among =
      ap (λ o. variable_in o v)
      (not_top new.top new.below d (omega (arith, among, counts, count_below))
      ∙ ap (λ cs. call_at cs d) waits.below)
      ∙ waiting_variable d v
  content_below (InWord Data w) among = ap (λ ws. joined (slice_get ws w)) waits.globals
  content_below (InWord (Aggregates m sum) w) among =
      ap (λ ws. joined (slice_get ws w))
      (ap (λ b. if b then new.top.aggregates else words_of (shapes_of t) new.below
      (Aggregates m sum))
      (not_own m (nat_eq sum (depth (shapes_of t) (new.top ∷ new.below))) (length new.below)
      (omega (arith, among, counts, count_below)))
      ∙ ap (λ cs. words_of (shapes_of t) cs (Aggregates m sum)) waits.below)
  content_below (InWord (Cell m bytes k) w) among =
      ap (λ ws. joined (slice_get ws w))
      (ap (λ b. if b then cell (shapes_of t) new.top k else words_of (shapes_of t) new.below
      (Cell m bytes k))
      (not_own m (nat_eq bytes (depth (shapes_of t) new.below)) (length new.below)
      (omega (arith, among, counts, count_below)))
      ∙ ap (λ cs. words_of (shapes_of t) cs (Cell m bytes k)) waits.below)

  -- ---- arguments

  record ArgumentAt (k : ℕ) (param : Param) : Type 0 where
    pub arg : Argument
    pub at : slice_get args k ≡ Some arg
    pub is : IsPushed t calls param arg (joined (last_get old.pushed k))

  argument_at : (k : ℕ) (param : Param) → slice_get proc.params k ≡ Some param → ArgumentAt k param
  argument_at k param at =
      let lt = slice_get_within proc.params k param at in
      let arg = get_or args k (Lent (whole (mean.Module 0))) in
      let is : slice_get args k ≡ Some arg = slice_get-get_or args k (Lent (whole (mean.Module 0)))
      (omega (arith, lt, arguments.as_many)) in
      record { arg = arg; at = is; is = arguments.each k param arg at is }

  params_kept : (k : ℕ) (param : Param) → slice_get proc.params k ≡ Some param → param.by_var ≡
      false →
      IsKept param.type_id (number_at (entered (suc (length calls)) args store)
      (whole (mean.Param (suc (length calls)) k))) (joined (last_get old.pushed k))
  params_kept k param at value = let a = argument_at k param at in by_argument a.arg a.at a.is
    where
      differ : false ≡ true → ⊥
      differ e = cc

      by_argument : (arg : Argument) → slice_get args k ≡ Some arg →
          IsPushed t calls param arg (joined (last_get old.pushed k)) →
          IsKept param.type_id (number_at (entered (suc (length calls)) args store)
          (whole (mean.Param (suc (length calls)) k))) (joined (last_get old.pushed k))
      by_argument (Passed x) is given =
          kept_on param.type_id (number x) _ (joined (last_get old.pushed k))
          (joined (last_get old.pushed k))
          (ap number (entered-param store (suc (length calls)) k args x (Number (pos 0)) is)) refl
          given.1
      by_argument (Lent l) is given = absurd (differ (sym value ∙ given.0))

  locals_zero : (k : ℕ) (path : List ℕ) → number_at (entered (suc (length calls)) args store)
      (within (whole (mean.Local (suc (length calls)) k)) path) ≡ pos 0
  locals_zero k path = ap number
      (entered-local store (suc (length calls)) k args path (Number (pos 0)))

  -- ---- all locations

  values_now : (l : Location) (spot : Spot) (type_id : ℕ) →
      placed t.program t.frames (call ∷ calls) l ≡ Some (placed_at spot type_id) →
      is_scalar type_id ≡ true →
      IsKept type_id (number_at (entered (suc (length calls)) args store) l) (content t new spot)
  values_now l spot type_id at scalar = by_depth (is_at_depth (suc (length calls)) l.object) refl
    where
      by_depth : (b : Bool) → is_at_depth (suc (length calls)) l.object ≡ b →
          IsKept type_id (number_at (entered (suc (length calls)) args store) l)
          (content t new spot)
      by_depth true own =
          own_values t id proc call calls old.pushed new laid there refl begun below_procs
          (entered (suc (length calls)) args store) params_kept locals_zero l spot type_id own
          at scalar
      by_depth false other =
          let below : placed t.program t.frames calls l ≡ Some (placed_at spot type_id) =
          sym (placed_below t.program t.frames call calls l other) ∙ at in
          kept_on type_id (number_at store l)
          (number_at (entered (suc (length calls)) args store) l) (content t old spot)
          (content t new spot)
          (ap number (entered-other store (suc (length calls)) args l (Number (pos 0)) other))
          (content_below spot (spot_among t.program t.frames calls l (placed_at spot type_id)
          below))
          (represents.values l spot type_id below scalar)

  -- ---- VAR parameters

  lent_is : (k : ℕ) (arg : Argument) → slice_get args k ≡ Some arg → lent_in call k ≡ lent_of arg
  lent_is k arg at = ap (λ o. unwrap_or o None)
      (slice_get-map lent_of args k ∙ ap (option_map lent_of) at)

  own_given : (k : ℕ) (param : Param) → slice_get proc.params k ≡ Some param →
      IsGiven t calls param (lent_in call k)
      (content t new (InVariable (suc (length calls)) (param_variable proc k)))
  own_given k param at =
      let a = argument_at k param at in
      subst (λ lent. IsGiven t calls param lent
      (content t new (InVariable (suc (length calls)) (param_variable proc k))))
      (sym (lent_is k a.arg a.at)) (by_argument a.arg a.is)
    where
      by_argument : (arg : Argument) → IsPushed t calls param arg (joined (last_get old.pushed k)) →
          IsGiven t calls param (lent_of arg)
          (content t new (InVariable (suc (length calls)) (param_variable proc k)))
      by_argument (Passed x) given = given.0
      by_argument (Lent l) given =
          given_on t calls param (Some l) (joined (last_get old.pushed k))
          (content t new (InVariable (suc (length calls)) (param_variable proc k)))
          (own_variable t id proc call calls old.pushed new laid there refl begun below_procs
          (param_variable proc k)
          ∙ begun.params k param at (ap (λ b. b || not param.addressed) given.0))
          given

  params_now : (d k : ℕ) (other : LiveCall) (lower : List LiveCall) (q : CheckedProc)
      (param : Param) →
      call_at (call ∷ calls) d ≡ Some (other, lower) → param_of t.program other k ≡
      Some (q, param) →
      IsGiven t lower param (lent_in other k) (content t new (InVariable d (param_variable q k)))
  params_now d k other lower q param at has = by_depth (nat_eq d (suc (length calls))) refl
    where
      own : d ≡ suc (length calls) → ◌≡◌ {A = LiveCall × List LiveCall} (call, calls)
          (other, lower) → IsGiven t lower param (lent_in other k)
          (content t new (InVariable d (param_variable q k)))
      own is same =
          let g = λ (p : CheckedProc). slice_get p.params k >>= λ z. Some (p, z) in
          let here : (slice_get proc.params k >>= λ z. Some (proc, z)) ≡ Some (q, param) =
          sym (ap (λ o. o >>= g) there)
          ∙ ap (λ (c : LiveCall × List LiveCall). param_of t.program c.0 k) same ∙ has in
          let one = bind_some (slice_get proc.params k) (λ z. Some (proc, z)) (q, param) here in
          let pair = some_same (proc, one.0) (q, param) one.2 in
          let proc_is : proc ≡ q = ap (λ (z : CheckedProc × Param). z.0) pair in
          let param_is : one.0 ≡ param = ap (λ (z : CheckedProc × Param). z.1) pair in
          let given = own_given k one.0 one.1 in
          subst (λ (c : LiveCall × List LiveCall). IsGiven t c.1 param (lent_in c.0 k)
          (content t new (InVariable d (param_variable q k)))) same
          (subst (λ z. IsGiven t calls param (lent_in call k)
          (content t new (InVariable z (param_variable q k)))) (sym is)
          (subst (λ z. IsGiven t calls param (lent_in call k)
          (content t new (InVariable (suc (length calls)) (param_variable z k)))) proc_is
          (subst (λ z. IsGiven t calls z (lent_in call k)
          (content t new (InVariable (suc (length calls)) (param_variable proc k)))) param_is
          given)))

      below : call_at calls d ≡ Some (other, lower) → IsGiven t lower param (lent_in other k)
          (content t new (InVariable d (param_variable q k)))
      below is =
          given_on t lower param (lent_in other k)
          (content t old (InVariable d (param_variable q k)))
          (content t new (InVariable d (param_variable q k)))
          (content_below (InVariable d (param_variable q k))
          (omega (
            arith,
            call_depth calls d (other, lower) is,
            call_within calls d (other, lower) is,
          )))
          (represents.params d k other lower q param is has)

      by_depth : (b : Bool) → nat_eq d (suc (length calls)) ≡ b →
          IsGiven t lower param (lent_in other k)
          (content t new (InVariable d (param_variable q k)))
      by_depth true e = own (eqb-true d (suc (length calls)) e)
          (some_same (call, calls) (other, lower)
          (sym (ap (λ b. if b then Some (call, calls) else call_at calls d) e) ∙ at))
      by_depth false e = below (sym (ap (λ b. if b then Some (call, calls) else call_at calls d) e)
          ∙ at)

  pub call_begins : Represents t (call ∷ calls) (entered (suc (length calls)) args store) new
  call_begins = record {
    same_calls = ap (λ n. n ∷ map (λ c. c.proc) new.below) begun.proc_is
        ∙ ap (λ ns. id ∷ ns) below_procs;
    values = values_now;
    params = params_now;
  }

-- ---- the module's body

new_zero : (l : Location) → number_at new_store l ≡ pos 0
new_zero l = ap (λ v. number (unwrap_or v (Number (pos 0)))) (get-empty location_cmp l)

module _ (t : SelectedModule) (proc : CheckedProc) (s : State Vars) (laid : IsLaidOut t.program)
    (there : slice_get t.program.procs 0 ≡ Some proc)
    (none : proc.params ≡ []) (begun : HasBegun t 0 proc [] s) (alone : s.below ≡ [])
    (globals : (w : ℕ) → w < t.program.data_words → joined (slice_get s.globals w) ≡ Some (Num 0))
  where
    abbrev body : LiveCall
    body = call_with 0 []

    below_none : map (λ c. c.proc) s.below ≡ []
    below_none = ap (map (λ (c : Activation Vars). c.proc)) alone

    no_param : (Q : Type 0) (k : ℕ) (param : Param) → slice_get proc.params k ≡ Some param → Q
    no_param Q k param at = absurd (none_some (sym (ap (λ ps. slice_get ps k) none) ∙ at))

    own_start : (l : Location) (spot : Spot) (type_id : ℕ) → is_at_depth 1 l.object ≡ true →
        placed t.program t.frames only_body l ≡ Some (placed_at spot type_id) → is_scalar type_id ≡
        true →
        IsKept type_id (number_at new_store l) (content t s spot)
    own_start l spot type_id own at scalar =
        own_values t 0 proc body [] [] s laid there refl begun below_none new_store
        (λ k param is v. no_param
        (IsKept param.type_id (number_at new_store (whole (mean.Param 1 k)))
        (joined (last_get [] k))) k param is)
        (λ k path. new_zero (within (whole (mean.Local 1 k)) path)) l spot type_id own at scalar

    module_start : (l : Location) (x : Placed) → placed t.program t.frames [] l ≡ Some x →
        is_scalar x.type_id ≡ true → IsKept x.type_id (number_at new_store l) (content t s x.spot)
    module_start l x at scalar =
        let f = found t.program t.frames [] laid l x at in
        by_standing f (stands t.program t.frames [] laid l.object f.begin f.object_there)
      where
        by_standing : (f : Found t.program t.frames [] laid l x) → Standing t.program t.frames
            [] l.object f.begin → IsKept x.type_id (number_at new_store l) (content t s x.spot)
        by_standing f (IsData n var a b c) =
            let begin_within = type_within t.program t.frames [] laid l.object f.begin
            (IsData n var a b c) in
            let part_scalar : is_scalar f.part.type_id ≡ true =
            ap (λ (z : Placed). is_scalar z.type_id) f.is ∙ scalar in
            let lies = lies_within t.program.types laid.types f.begin.type_id l.path f.part
            begin_within f.part_there in
            let one = scalar_words t.program.types laid.types f.part.type_id part_scalar in
            let end = follow_within (λ v. true) (λ v. v.word) (var_words t.program.types) 0
            t.program.data_words t.program.vars n var laid.vars b refl in
            let begin_words : type_words t.program.types f.begin.type_id ≡
            var_words t.program.types var =
            ap (λ (z : Placed). type_words t.program.types z.type_id) c in
            let spot_is : x.spot ≡ InWord Data (var.word + f.part.word) =
            sym (ap (λ (z : Placed). z.spot) f.is)
            ∙ ap (λ (z : Placed). beyond z.spot f.part.word) c in
            kept_on x.type_id (pos 0) (number_at new_store l) (Some (Num 0)) (content t s x.spot)
            (new_zero l)
            (ap (content t s) spot_is ∙ globals (var.word + f.part.word)
            (omega (arith, lies, one, end, begin_words))) (zero_is x.type_id)
        by_standing f (IsVariable d v c q a b e g h) = absurd (none_some a)
        by_standing f (IsCell d k c a b e g) = absurd (none_some a)
        by_standing f (IsAggregate d k c q z a b e g h i) = absurd (none_some a)

    values_start : (l : Location) (spot : Spot) (type_id : ℕ) →
        placed t.program t.frames only_body l ≡ Some (placed_at spot type_id) → is_scalar type_id ≡
        true →
        IsKept type_id (number_at new_store l) (content t s spot)
    values_start l spot type_id at scalar = by_depth (is_at_depth 1 l.object) refl
      where
        by_depth : (b : Bool) → is_at_depth 1 l.object ≡ b → IsKept type_id (number_at new_store l)
            (content t s spot)
        by_depth true own = own_start l spot type_id own at scalar
        by_depth false other = module_start l (placed_at spot type_id)
            (sym (placed_below t.program t.frames body [] l other) ∙ at) scalar

    params_start : (d k : ℕ) (other : LiveCall) (lower : List LiveCall) (q : CheckedProc)
        (param : Param) →
        call_at only_body d ≡ Some (other, lower) → param_of t.program other k ≡ Some (q, param) →
        IsGiven t lower param (lent_in other k) (content t s (InVariable d (param_variable q k)))
    params_start d k other lower q param at has =
        let one = bind_some (slice_get t.program.procs other.proc.0)
        (λ z. slice_get z.params k >>= λ y. Some (z, y)) (q, param) has in
        let two = bind_some (slice_get one.0.params k) (λ y. Some (one.0, y)) (q, param) one.2 in
        by_depth (nat_eq d 1) one.0 two.0 one.1 two.1 at
      where
        by_depth : (b : Bool) (p : CheckedProc) (y : Param) →
            slice_get t.program.procs other.proc.0 ≡
            Some p → slice_get p.params k ≡ Some y →
            ◌≡◌ {A = Option (LiveCall × List LiveCall)} (if b then Some (body, []) else None)
            (Some (other, lower)) → IsGiven t lower param (lent_in other k)
            (content t s (InVariable d (param_variable q k)))
        by_depth false p y a b e = absurd (none_some e)
        by_depth true p y a b e =
            let same = some_same (body, []) (other, lower) e in
            let id_is : 0 ≡ other.proc.0 = ap (λ (c : LiveCall × List LiveCall). c.0.proc.0) same in
            let proc_is : proc ≡ p =
            some_same proc p (sym there ∙ ap (slice_get t.program.procs) id_is ∙ a) in
            no_param (IsGiven t lower param (lent_in other k)
            (content t s (InVariable d (param_variable q k)))) k y
            (ap (λ (z : CheckedProc). slice_get z.params k) proc_is ∙ b)

    pub module_begins : Represents t only_body new_store s
    module_begins = record {
      same_calls = ap (λ n. n ∷ map (λ c. c.proc) s.below) begun.proc_is
          ∙ ap (λ ns. 0 ∷ ns) below_none;
      values = values_start;
      params = params_start;
    }
