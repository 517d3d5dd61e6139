-- A value is given to a variable of the source: to its variable in the code, or to its word.
use Rattle.std.proofs.Common.{◌≡◌, ℕ, suc, ◌+◌, ◌*◌, ◌/◌, ◌%◌, ◌^◌, ◌<◌, Bool, true, false, List}
use Rattle.std.proofs.Common.{[], ◌∷◌, ◌++◌, length, map, Option, Some, None, refl, sym, ap, ◌∙◌}
use Rattle.std.proofs.Common.{subst, ◌⊎◌, ⊎_elim, arith, length-append}
use Rattle.std.specs.Prelude.{ℤ, pos, negsuc, ◌||◌, nat_eq, slice_get, slice_set, slice_index_or}
use Rattle.std.specs.Prelude.{if◌then◌else◌}
use Rattle.std.specs.Ordering.{int_eq}
use Rattle.std.specs.Int.{w32}
use Rattle.std.specs.Int.RustNames.{FitsSigned}
use Rattle.std.proofs.Math.Nat.{mod-eq_of_lt}
use Rattle.std.proofs.lemmas.Bool.{lt-ltb, eq-eqb, eqb-true}
use Rattle.std.proofs.lemmas.Int.{ints}
use Rattle.std.proofs.lemmas.List.{get_or-set_same, get_or-set_other, length-set}
use Rattle.pra_list.proofs.Elements.{head_same, tail_same}
use Rattle.pra_list.specs.Options.{◌>>=◌}
use Rattle.pra_list.proofs.Options.{some_same, none_some}
use Rattle.pra_base.specs.Code as code
use Rattle.pra_base.specs.Code.{kind_of}
use Rattle.pra_base.specs.Operands.{Role, R, K, via, index, var_of, role, read_by, written_by}
use Rattle.pra_base.specs.Places.{◌∪◌}
use Rattle.pra_base.specs.Words.{word, fits_word}
use Rattle.pra_base.specs.declared.ids.VarId.{VarId}
use Rattle.pra_base.specs.declared.code.Addr.{Addr}
use Rattle.pra_base.specs.declared.code.Base.{Base}
use Rattle.pra_base.specs.declared.code.Base.TheVariants as base
use Rattle.pra_base.specs.declared.code.VarKind.{VarKind}
use Rattle.pra_base.specs.declared.code.VarKind.TheVariants.{Plain, Param, Constant}
use Rattle.pra_base.specs.declared.code.VInstr.{VInstr}
use Rattle.pra_base.specs.declared.code.VInstr.TheVariants.{Set, Copy, Store}
use Rattle.pra_base.specs.declared.code.VProc.{VProc}
use Rattle.ob_syntax.specs.Expressions.{boolean}
use Rattle.ob_syntax.specs.Operators.{number}
use Rattle.ob_syntax.specs.WellFormed.{is_scalar}
use Rattle.ob_syntax.specs.declared.checked.Checked.{Checked}
use Rattle.ob_syntax.specs.declared.checked.Value.{Value}
use Rattle.ob_mean.specs.Designators.{running}
use Rattle.ob_mean.specs.Statements as mean
use Rattle.ob_mean.specs.Statements.{store_at}
use Rattle.ob_mean.specs.Store.{assigned}
use Rattle.ob_mean.specs.declared.store.LiveCall.{LiveCall}
use Rattle.ob_mean.specs.declared.store.Location.{Location}
use Rattle.vc_code.specs.declared.action.Action.TheVariants.{Give}
use Rattle.vc_code.specs.declared.action.Action.TheVariants as action
use Rattle.vc_code.specs.declared.action.Here.{Here}
use Rattle.vc_code.specs.declared.value.Object.{Object}
use Rattle.vc_code.specs.declared.value.Value.TheVariants.{Num}
use Rattle.vc_code.specs.Value.{Held, Words}
use Rattle.vc_code.specs.Machine.{Activation, State, here, with_top, object, word_at, apply, found}
use Rattle.vc_code.specs.Machine.{with_object}
use Rattle.vc_code.specs.Operation as operation
use Rattle.vc_code.specs.Operation.{based, indexed, base_count, index_count, number_at, operate}
use Rattle.vc_code.specs.Stands.{address_vars}
use Rattle.vc_code.specs.Selected.{Vars, read, valued, shape, selected, code_of, at_point, behind}
use Rattle.vc_code.specs.Selected.{put_all, written}
use Rattle.vc_build.specs.Grow.{IsOpen, with_instr, Grows}
use Rattle.vc_build.specs.Runs.{Codes, runs, acted}
use Rattle.vc_build.proofs.Growth.{grows_on, grows_at_same, put_code, put_open, put_grows}
use Rattle.vc_build.proofs.Steps.{performs}
use Rattle.vc_expr.specs.Operators.{HasValue, IsBit, first_of}
use Rattle.vc_expr.proofs.Starts.{reads_are}
use Rattle.vc_relation.specs.Spots.{InWord, call_at}
use Rattle.vc_relation.specs.Relation.{Represents, is_of_type, held_at, homes_in}
use Rattle.vc_relation.specs.Relation.{number_at as number_in}
use Rattle.vc_relation.proofs.Lives.{owner_within, home_there}
use Rattle.vc_relation.proofs.Represented.{assigned_word}
use Rattle.vc_relation.proofs.Variables.{assigned_variable}
use Rattle.vc_select.specs.declared.target.Setting.{Setting}
use Rattle.vc_select.specs.declared.target.Target.TheVariants.{Var, Memory}
use Rattle.vc_select.specs.Targets.{held_for, IsVariable, IsWord}
use Rattle.vc_select.specs.Selects.{home_variables, selected_module}
use Rattle.vc_select.proofs.Placing.{word_bound}
use Rattle.vc_select.proofs.Roots.{read_plain, running_is}
use Rattle.vc_stmt.specs.Completes.{Shows, Comes}
use Rattle.vc_stmt.specs.Does.{Matches}
use Rattle.vc_stmt.specs.Stores.{Stores}
use Rattle.vc_stmt.proofs.Matching.{starts_with, represents_but, matches_as}
use Rattle.vc_stmt.proofs.Objects.{object_beside, live_homes, live_procs, word_there}

-- ---- a value of a type

fits_is : (n : ℤ) → FitsSigned w32 n → fits_word n ≡ true
fits_is (pos n) f = lt-ltb n (2 ^ 31) (omega (arith, ints, f))
fits_is (negsuc n) f = lt-ltb n (2 ^ 31) (omega (arith, ints, f))

bit_is : (n : ℤ) → (n ≡ pos 0) ⊎ (n ≡ pos 1) → (int_eq n (pos 0) || int_eq n (pos 1)) ≡ true
bit_is n c = ⊎_elim (λ (a : n ≡ pos 0). ap (λ z. int_eq z (pos 0) || int_eq z (pos 1)) a)
    (λ (b : n ≡ pos 1). ap (λ z. int_eq z (pos 0) || int_eq z (pos 1)) b) c

pub value_typed : (type_id : ℕ) (x : Value) → FitsSigned w32 (number x) →
    (type_id ≡ boolean → IsBit x) → is_of_type type_id (number x) ≡ true
value_typed type_id x fits bit = by_type (nat_eq type_id boolean) refl
  where
    by_type : (b : Bool) → nat_eq type_id boolean ≡ b →
        (if b then int_eq (number x) (pos 0) || int_eq (number x) (pos 1) else fits_word (number x))
        ≡ true
    by_type true e = bit_is (number x) (bit (eqb-true type_id boolean e))
    by_type false e = fits_is (number x) fits

-- the running call is the one at the greatest depth
running_top : (calls : List LiveCall) (c : LiveCall × List LiveCall) →
    call_at calls (length calls) ≡ Some c → running calls ≡ c.0.proc.0
running_top [] c e = absurd (none_some e)
running_top (x ∷ below) c e =
    let here : Some (x, below) ≡ Some c =
    sym (ap (λ b. if b then Some (x, below) else call_at below (suc (length below)))
    (eq-eqb (suc (length below)) (suc (length below)) refl)) ∙ e in
    ap (λ (z : LiveCall × List LiveCall). z.0.proc.0) (some_same (x, below) c here)

-- a whole word is at a byte offset of 4 times its number
word_is : (words : Words) (n : ℕ) → word_at words (4 * n) ≡ slice_get words n
word_is words n =
    let whole : 4 * n % 4 ≡ 0 = omega arith in
    let quarter : 4 * n / 4 ≡ n = omega arith in
    ap (λ b. if b then slice_get words (4 * n / 4) else None) (eq-eqb (4 * n % 4) 0 whole)
    ∙ ap (slice_get words) quarter

-- ---- what a Store reads: the variables of its address, and then the value

module _ (r : ℕ → Held) (q : Role) where
  abbrev among : Base → Option VarId → List Held
  among b k = map r (map var_of (via b ++ index k))

  abbrev and_more : Base → Option VarId → List Held
  and_more b k = map r (map var_of ((via b ++ index k) ++ q ∷ []))

  based_more : (h : Here) (b : Base) (k : Option VarId) → based h b (and_more b k) ≡
      based h b (among b k)
  based_more h (base.Via v) k = refl
  based_more h (base.Global n) k = refl
  based_more h (base.Frame n) k = refl
  based_more h (base.Cell n) k = refl

  indexed_more : (b : Base) (k : Option VarId) → indexed k (and_more b k) (base_count b) ≡
      indexed k (among b k) (base_count b)
  indexed_more b None = refl
  indexed_more (base.Via v) (Some k) = refl
  indexed_more (base.Global n) (Some k) = refl
  indexed_more (base.Frame n) (Some k) = refl
  indexed_more (base.Cell n) (Some k) = refl

  last_number : (b : Base) (k : Option VarId) →
      number_at (and_more b k) (base_count b + index_count k) ≡ operation.number (r q.var)
  last_number (base.Via v) None = refl
  last_number (base.Via v) (Some k) = refl
  last_number (base.Global n) None = refl
  last_number (base.Global n) (Some k) = refl
  last_number (base.Frame n) None = refl
  last_number (base.Frame n) (Some k) = refl
  last_number (base.Cell n) None = refl
  last_number (base.Cell n) (Some k) = refl

  placed_more : (h : Here) (a : Addr) → operation.placed h a (and_more a.base a.index) ≡
      operation.placed h a (among a.base a.index)
  placed_more h a =
      ap (λ o. o >>= λ z. indexed a.index (and_more a.base a.index) (base_count a.base) >>= λ i.
      Some (z.0, (z.1 + word a.offset + 4 * i) % 2 ^ 32)) (based_more h a.base a.index)
      ∙ ap (λ o. based h a.base (among a.base a.index) >>= λ z. o >>= λ i. Some
      (z.0, (z.1 + word a.offset + 4 * i) % 2 ^ 32)) (indexed_more a.base a.index)

stored_by : (h : Here) (a : Addr) (v : VarId) (r : ℕ → Held) (x : Object) (o n : ℕ) →
    operation.placed h a (map r (address_vars a)) ≡ Some (x, o) → r v.0 ≡ Some (Num n) →
    operate h (Store a v) (map r (read_by (Store a v))) ≡ Some (action.Store x o n)
stored_by h a v r x o n place is =
    let q : Role = role v (R ∪ K) in
    ap (λ z. z >>= λ at. number_at (and_more r q a.base a.index)
    (base_count a.base + index_count a.index) >>= λ k. Some (action.Store at.0 at.1 k))
    (placed_more r q h a ∙ place)
    ∙ ap (λ z. z >>= λ k. Some (action.Store x o k))
    (last_number r q a.base a.index ∙ ap operation.number is)

module _ (g : Setting) (w : Codes) (old : VProc) (at : ℕ) (calls : List LiveCall)
    (waiting : List Vars) (m : mean.State) (s : State Vars)
    (matches : Matches g w old at calls waiting m s)
    (holds : Grows old (code_of w.procs g.id.0)) (l : Location) (type_id : ℕ) (x : Value)
    (scalar : is_scalar type_id ≡ true) (typed : is_of_type type_id (number x) ≡ true) where
  abbrev program : Checked
  program = g.program.now

  abbrev final : VProc
  final = code_of w.procs g.id.0

  abbrev given : Held
  given = Some (Num (word (number x)))

  -- ---- a variable of the code

  module _ (u : ℕ) (named : IsVariable program w calls u l type_id) where
    pub is_home : u < home_variables g
    is_home =
        let home = home_there program w.frames calls matches.starts.set.laid l (length calls) u
        type_id named.place in
        let runs_it : home.call.0.proc.0 ≡ g.id.0 =
        sym (running_top calls home.call home.call_there)
        ∙ running_is calls s matches.starts.represents.same_calls ∙ matches.starts.runs.proc in
        let proc : slice_get program.procs g.id.0 ≡ Some home.proc = ap (slice_get program.procs)
        (sym runs_it) ∙ home.proc_there in
        subst (λ n. u < n) (sym (ap homes_in proc))
        (owner_within home.proc (length calls) home.object u home.owner)

    abbrev put_held : Words
    put_held = slice_set s.top.home.held u given

    abbrev put_call : Activation Vars
    put_call = at_point s.top s.top.home.block (suc s.top.home.index) put_held

    -- the variable has the value, and some of the input was taken
    abbrev with_seen : List ℤ → ℕ → State Vars
    with_seen input taken = record s {
      top = put_call;
      compared = None;
      input = input;
      taken =
          taken;
    }

    pub within : u < length s.top.home.held
    within = omega (arith, is_home, matches.starts.homes, holds.vars, matches.starts.runs.room)

    writes_it : written s.top (u ∷ []) (Num (word (number x)) ∷ []) ≡ Some put_call
    writes_it = ap (λ b. behind s.top (put_all (if b then Some put_held else None) [] []))
        (lt-ltb u (length s.top.home.held) within)

    module _ (i : VInstr) (o : IsOpen old at) (grows : Grows (with_instr at i old) final) where
      abbrev new : VProc
      new = with_instr at i old

      pub matches_put : (input : List ℤ) (taken : ℕ) (after : mean.State) → after.store ≡
          assigned m.store l x → Shows after (with_seen input taken) →
          Matches g w new at calls waiting after (with_seen input taken)
      matches_put input taken after store shows =
          matches_as g w old at calls waiting m s matches (with_seen input taken) new at after refl
          matches.starts.runs.going refl (length-set s.top.home.held u given) refl refl
          (record {
            block = matches.starts.stands.block;
            index =
                omega (
                  arith,
                  matches.starts.stands.index,
                  ap (λ z. length z) (put_code at i old o),
                  length-append (code.code_of old at) (i ∷ []),
                );
          })
          matches.starts.homes shows
          (subst (λ z. Represents (selected_module program w) calls z (with_seen input taken))
          (sym store)
          (assigned_variable (selected_module program w) s (with_seen input taken)
          (record { proc = refl; aggregates = refl; args = refl; below = refl; globals = refl })
          calls m.store matches.starts.set.laid matches.starts.represents
          l u type_id x named.place scalar typed
          (get_or-set_same s.top.home.held u given None within)
          (λ v lt apart. get_or-set_other s.top.home.held u v given None apart)))

      -- an instruction that gives the variable the value
      pub comes_put : written_by i ≡ u ∷ [] → acted w i s ≡ Some (Give (Num (word (number x)))) →
          Comes w s 0 (Matches g w new at calls waiting (store_at m l x))
      comes_put writes acts =
          let one : runs w 1 s ≡ with_top s put_call =
          performs w g.id.0 at old s o matches.starts.stands i
          (starts_with g w old at calls waiting m s matches new grows).runs
          ∙ ap (λ a. apply (selected w.procs w.frames) (λ xs. written s.top (written_by i) xs) a s)
          acts
          ∙ ap (λ vs. found s (written s.top vs (Num (word (number x)) ∷ [])) (with_top s)) writes
          ∙ ap (λ c. found s c (with_top s)) writes_it in
          record {
            steps = 1;
            enough = omega arith;
            good = subst (Matches g w new at calls waiting (store_at m l x)) (sym one)
                (matches_put s.input s.taken (store_at m l x) refl
                (record {
                  input = matches.shows.input;
                  words = matches.shows.words;
                  events =
                      matches.shows.events;
                  taken = matches.shows.taken;
                }));
          }

    -- the variable has the value already
    pub comes_itself : HasValue w g.id.0 u s.top x →
        Comes w s 0 (Matches g w old at calls waiting (store_at m l x))
    comes_itself value = record {
      steps = 0;
      enough = omega arith;
      good =
          matches_as g w old at calls waiting m s matches s old at (store_at m l x) refl
          matches.starts.runs.going matches.starts.runs.compared refl refl refl
          matches.starts.stands matches.starts.homes matches_shows
          (assigned_variable (selected_module program w) s s
          (record { proc = refl; aggregates = refl; args = refl; below = refl; globals = refl })
          calls m.store matches.starts.set.laid matches.starts.represents
          l u type_id x named.place scalar typed
          (sym (read_plain (kind_of final u) (held_at s u) (matches.starts.variables u is_home))
          ∙ value.held) (λ v lt apart. refl));
    }
      where
        matches_shows : Shows (store_at m l x) s
        matches_shows = record {
          input = matches.shows.input;
          words = matches.shows.words;
          events =
              matches.shows.events;
          taken = matches.shows.taken;
        }

  -- ---- a word of an object

  module _ (a : Addr) (named : IsWord program w calls s a l type_id) where
    small : 4 * named.word < 2 ^ 32
    small = omega (
      arith,
      word_bound program w.frames calls matches.starts.set.laid l named.object
          named.word type_id named.place,
    )

    placed_is : operation.placed (here (shape w.procs w.frames) s) a (held_for w s a) ≡
        Some (named.object, 4 * named.word)
    placed_is =
        ap (λ o. o >>= λ z. indexed a.index (held_for w s a) (base_count a.base) >>= λ i. Some
        (z.0, (z.1 + word a.offset + 4 * i) % 2 ^ 32)) named.base_is
        ∙ ap (λ o. o >>= λ i. Some (named.object, (named.begin + word a.offset + 4 * i) % 2 ^ 32))
        named.index_is
        ∙ ap (λ z. Some (named.object, (named.begin + word z + 4 * named.index) % 2 ^ 32))
        named.offset_is
        ∙ ap (λ n. Some (named.object, n % 2 ^ 32)) named.sum
        ∙ ap (λ n. Some (named.object, n)) (mod-eq_of_lt small)

    module _ (v : VarId) (value : HasValue w g.id.0 v.0 s.top x) where
      abbrev i : VInstr
      i = Store a v

      abbrev behind_it : Activation Vars
      behind_it = at_point s.top s.top.home.block (suc s.top.home.index) s.top.home.held

      stored_acts : acted w i s ≡
          Some (action.Store named.object (4 * named.word) (word (number x)))
      stored_acts =
          stored_by (here (shape w.procs w.frames) s) a v
          (read (kind_of (code_of w.procs s.top.proc)) s.top.home.held) named.object
          (4 * named.word) (word (number x)) placed_is
          (ap (λ p. read (kind_of (code_of w.procs p)) s.top.home.held v.0) matches.starts.runs.proc
          ∙ value.held)

      abbrev moved : State Vars
      moved = with_top s behind_it

      same_store : Represents (selected_module program w) calls m.store moved
      same_store = represents_but g w old at calls waiting m s matches moved
          (record { proc = refl; aggregates = refl; args = refl; below = refl; globals = refl })
          (λ u lt. refl)

      abbrev stored : State Vars
      stored = with_object (shape w.procs w.frames) moved named.object named.word given

      holds_number : slice_get (object (shape w.procs w.frames) moved named.object) named.word ≡
          Some (Some (Num (word (number_in m.store l))))
      holds_number =
          word_there (slice_get (object (shape w.procs w.frames) moved named.object) named.word)
          (Num (word (number_in m.store l)))
          (same_store.values l (InWord named.object named.word) type_id named.place scalar).word

      module _ (o : IsOpen old at) (grows : Grows (with_instr at i old) final) where
        abbrev made : VProc
        made = with_instr at i old

        stored_it : runs w 1 s ≡ stored
        stored_it =
            let quarter : 4 * named.word / 4 ≡ named.word = omega arith in
            performs w g.id.0 at old s o matches.starts.stands i
            (starts_with g w old at calls waiting m s matches made grows).runs
            ∙ ap (λ z. apply (selected w.procs w.frames) (λ xs. written s.top [] xs) z s)
            stored_acts
            ∙ ap (λ z. found s z (λ before. with_object (shape w.procs w.frames) moved named.object
            (4 * named.word / 4) given))
            (word_is (object (shape w.procs w.frames) moved named.object) named.word
            ∙ holds_number)
            ∙ ap (λ n. with_object (shape w.procs w.frames) moved named.object n given) quarter

        home_same : stored.top.home ≡ behind_it.home
        home_same = head_same stored.top.home behind_it.home (map (λ c. c.home) stored.below)
            (map (λ c. c.home) s.below)
            (live_homes (shape w.procs w.frames) named.word given moved named.object)

        below_same : map (λ c. c.home) stored.below ≡ map (λ c. c.home) s.below
        below_same = tail_same stored.top.home behind_it.home (map (λ c. c.home) stored.below)
            (map (λ c. c.home) s.below)
            (live_homes (shape w.procs w.frames) named.word given moved named.object)

        proc_same : stored.top.proc ≡ s.top.proc
        proc_same = head_same stored.top.proc s.top.proc (map (λ c. c.proc) stored.below)
            (map (λ c. c.proc) s.below)
            (live_procs (shape w.procs w.frames) named.word given moved named.object)

        pub comes_stored : Comes w s 0 (Matches g w made at calls waiting (store_at m l x))
        comes_stored =
            let beside = object_beside (shape w.procs w.frames) named.word given moved
            named.object in
            record {
              steps = 1;
              enough = omega arith;
              good = subst (Matches g w made at calls waiting (store_at m l x)) (sym stored_it)
                  (matches_as g w old at calls waiting m s matches stored made at (store_at m l x)
                  proc_same (beside.over ∙ matches.starts.runs.going) beside.compared
                  (ap (λ h. length h.held) home_same) beside.pushed below_same
                  (record {
                    block = ap (λ h. h.block) home_same ∙ matches.starts.stands.block;
                    index = ap (λ h. h.index) home_same
                        ∙ omega (
                          arith,
                          matches.starts.stands.index,
                          ap (λ z. length z) (put_code at i old o),
                          length-append (code.code_of old at) (i ∷ []),
                        );
                  })
                  matches.starts.homes
                  (record {
                    input = beside.input ∙ matches.shows.input;
                    words = matches.shows.words;
                    events = beside.events ∙ matches.shows.events;
                    taken = beside.taken
                        ∙ matches.shows.taken;
                  })
                  (assigned_word (selected_module program w) calls m.store moved l named.object
                  named.word type_id x matches.starts.set.laid same_store named.place scalar
                  typed));
            }

-- ---- the code of an assignment

pub stores_itself : (g : Setting) (old : VProc) (at : ℕ) (u : VarId) → IsOpen old at →
    Stores g at old old (Var u) u.0
stores_itself g old at u o = record {
  grows = grows_at_same old at;
  is_open = o;
  means = λ w calls waiting m s l type_id x final matches named scalar value typed. comes_itself g w
      old at calls waiting m s matches final l type_id x scalar typed u.0 named value;
}

module _ (g : Setting) (old : VProc) (at : ℕ) (u v : VarId) (o : IsOpen old at)
    (declared : v.0 < length old.vars) where
  stores_by : (i : VInstr) → written_by i ≡ u.0 ∷ [] →
      ((w : Codes) (s : State Vars) (n : ℕ) → Grows old (code_of w.procs g.id.0) → s.top.proc ≡
      g.id.0 → read (kind_of (code_of w.procs g.id.0)) s.top.home.held v.0 ≡ Some (Num n) →
      acted w i s ≡ Some (Give (Num n))) →
      Stores g at old (with_instr at i old) (Var u) v.0
  stores_by i writes acts = record {
    grows = put_grows at i old o;
    is_open = put_open at i old o;
    means = λ w calls waiting m s l type_id x final matches named scalar value typed.
        let holds = grows_on old (with_instr at i old) (code_of w.procs g.id.0)
        (put_grows at i old o).grows final in
        comes_put g w old at calls waiting m s matches holds l type_id x scalar typed u.0 named i o
        final writes (acts w s (word (number x)) holds matches.starts.runs.proc value.held);
  }

  stores_copy : Stores g at old (with_instr at (Copy u v) old) (Var u) v.0
  stores_copy = stores_by (Copy u v) refl (λ w s number holds proc is.
      ap (λ held. operate (here (shape w.procs w.frames) s) (Copy u v) held)
      (reads_are w g.id.0 s proc (v.0 ∷ []) ∙ ap (λ h. h ∷ []) is))

  pub stores_variable : (kind : VarKind) → kind_of old v.0 ≡ kind →
      Stores g at old (with_instr at (first_of kind u v) old) (Var u) v.0
  stores_variable (Constant n) e = stores_by (Set u n) refl (λ w s number holds proc is.
      let final : kind_of (code_of w.procs g.id.0) v.0 ≡ Constant n = holds.kinds v.0 declared
      ∙ e in
      let same : Num (word n) ≡ Num number = some_same (Num (word n)) (Num number)
      (ap (λ k. valued k (slice_index_or s.top.home.held v.0 None)) (sym final) ∙ is) in
      ap (λ y. Some (Give y)) same)
  stores_variable Plain e = stores_copy
  stores_variable (Param k) e = stores_copy

pub stores_word : (g : Setting) (old : VProc) (at : ℕ) (a : Addr) (v : VarId) → IsOpen old at →
    Stores g at old (with_instr at (Store a v) old) (Memory a) v.0
stores_word g old at a v o = record {
  grows = put_grows at (Store a v) old o;
  is_open = put_open at (Store a v) old o;
  means = λ w calls waiting m s l type_id x final matches named scalar value typed.
      let holds = grows_on old (with_instr at (Store a v) old) (code_of w.procs g.id.0)
      (put_grows at (Store a v) old o).grows final in
      comes_stored g w old at calls waiting m s matches holds l type_id x scalar typed a named v
      value o final;
}
