-- The relation where the running call's variables change.
use Rattle.std.proofs.Common.{◌≡◌, ◌≢◌, ℕ, suc, ◌<◌, true, List, [], ◌∷◌, length, map, Option, Some}
use Rattle.std.proofs.Common.{None, refl, sym, ap, ◌∙◌, subst, arith, ⊎_elim}
use Rattle.std.specs.Prelude.{slice_get, if◌then◌else◌, ◌||◌, not, pos}
use Rattle.std.proofs.lemmas.Bool.{ne_eqb, eq-eqb, cases_eq}
use Rattle.std.proofs.lemmas.List.{length-map}
use Rattle.pra_base.specs.Words.{word}
use Rattle.pra_list.specs.Options.{◌>>=◌}
use Rattle.pra_list.proofs.Options.{some_same, none_some, bind_some}
use Rattle.ob_syntax.specs.declared.checked.CheckedProc.{CheckedProc}
use Rattle.ob_syntax.specs.declared.checked.Param.{Param}
use Rattle.ob_syntax.specs.declared.checked.Value.{Value as SourceValue}
use Rattle.ob_syntax.specs.declared.checked.Value.TheVariants.{Number}
use Rattle.ob_syntax.specs.Operators.{number}
use Rattle.ob_syntax.specs.WellFormed.{is_scalar}
use Rattle.ob_mean.specs.declared.store.LiveCall.{LiveCall}
use Rattle.ob_mean.specs.declared.store.Location.{Location}
use Rattle.ob_mean.specs.Store.{Store, assigned}
use Rattle.ob_mean.proofs.Stores.{read-assigned, read-assigned_other}
use Rattle.vc_code.specs.declared.value.Object.{Object}
use Rattle.vc_code.specs.declared.value.Object.TheVariants.{Data, Aggregates, Cell}
use Rattle.vc_code.specs.declared.value.Value.TheVariants.{Num}
use Rattle.vc_code.specs.Value.{Held, Words}
use Rattle.vc_code.specs.Machine.{Shape, Activation, State, words_of, object, joined, live_in}
use Rattle.vc_code.specs.Selected.{Vars}
use Rattle.vc_relation.specs.Layout.{IsLaidOut}
use Rattle.vc_relation.specs.Homes.{in_variable, param_variable, home_count}
use Rattle.vc_relation.specs.Spots.{Spot, InVariable, InWord, Placed, placed_at, call_at, param_of}
use Rattle.vc_relation.specs.Spots.{placed}
use Rattle.vc_relation.specs.Relation.{SelectedModule, shapes_of, variable_in, content, number_at}
use Rattle.vc_relation.specs.Relation.{is_of_type, IsKept, IsGiven, lent_in, Represents, homes_in}
use Rattle.vc_relation.specs.Relation.{homes_of, held_at, SameButVariables}
use Rattle.vc_relation.proofs.Apart.{own_spots, owner_apart, count_below}
use Rattle.vc_relation.proofs.Lives.{owner_within, home_there}
use Rattle.vc_relation.proofs.Represented.{same_or_not, kept_on}

-- what is given of a parameter, where only a VAR parameter's variable must be the same
given_where : (t : SelectedModule) (below : List LiveCall) (param : Param) (lent : Option Location)
    (one other : Held) → (param.by_var ≡ true → other ≡ one) → IsGiven t below param lent one →
    IsGiven t below param lent other
given_where t below param None one other same g = g
given_where t below param (Some l) one other same g = subst (IsGiven t below param (Some l))
    (sym (same g.0)) g

by_var_variable : (param : Param) → param.by_var ≡ true → in_variable param ≡ true
by_var_variable param e = ap (λ b. b || not param.addressed) e

-- the parameter of a call and its procedure
record HasParam (t : SelectedModule) (call : LiveCall) (k : ℕ) (proc : CheckedProc)
    (param : Param) : Type 0 where
  proc_there : slice_get t.program.procs call.proc.0 ≡ Some proc
  param_there : slice_get proc.params k ≡ Some param

has_param : (t : SelectedModule) (call : LiveCall) (k : ℕ) (proc : CheckedProc) (param : Param) →
    param_of t.program call k ≡ Some (proc, param) → HasParam t call k proc param
has_param t call k proc param e =
    let one = bind_some (slice_get t.program.procs call.proc.0)
    (λ p. slice_get p.params k >>= λ q. Some (p, q)) (proc, param) e in
    let two = bind_some (slice_get one.0.params k) (λ q. Some (one.0, q)) (proc, param) one.2 in
    let same = some_same (one.0, two.0) (proc, param) two.2 in
    let procs : one.0 ≡ proc = ap (λ (z : CheckedProc × Param). z.0) same in
    let params : two.0 ≡ param = ap (λ (z : CheckedProc × Param). z.1) same in
    record {
      proc_there = one.1 ∙ ap Some procs;
      param_there = sym (ap (λ (q : CheckedProc). slice_get q.params k) procs) ∙ two.1
          ∙ ap Some params;
    }

top_proc : (calls : List LiveCall) (s : State Vars) (d : ℕ) (call : LiveCall × List LiveCall) →
    map (λ c. c.proc) (live_in s) ≡ map (λ c. c.proc.0) calls → d ≡ suc (length s.below) →
    call_at calls d ≡ Some call → s.top.proc ≡ call.0.proc.0
top_proc [] s d call same at e = absurd (none_some e)
top_proc (head ∷ tail) s d call same at e =
    let n : length (map (λ c. c.proc) (live_in s)) ≡ length (map (λ c. c.proc.0) (head ∷ tail)) =
    ap (λ ps. length ps) same in
    let top : d ≡ suc (length tail) =
    omega (arith, at, n, length-map s.below (λ c. c.proc), length-map tail (λ c. c.proc.0)) in
    let here : Some (head, tail) ≡ Some call =
    sym (ap (λ b. if b then Some (head, tail) else call_at tail d)
    (eq-eqb d (suc (length tail)) top)) ∙ e in
    heads s.top.proc head.proc.0 (map (λ c. c.proc) s.below) (map (λ c. c.proc.0) tail) same
    ∙ ap (λ (z : LiveCall × List LiveCall). z.0.proc.0) (some_same (head, tail) call here)
  where
    heads : (a b : ℕ) (xs ys : List ℕ) → (a ∷ xs) ≡ (b ∷ ys) → a ≡ b
    heads a b xs ys e = cc

pub same_depth : (calls : List LiveCall) (s : State Vars) → map (λ c. c.proc) (live_in s) ≡
    map (λ c. c.proc.0) calls → length calls ≡ suc (length s.below)
same_depth calls s same =
    let n : length (map (λ c. c.proc) (live_in s)) ≡ length (map (λ c. c.proc.0) calls) =
    ap (λ ps. length ps) same in
    omega (arith, n, length-map s.below (λ c. c.proc), length-map calls (λ c. c.proc.0))

module _ (t : SelectedModule) (old new : State Vars) (but : SameButVariables old new) where
  abbrev top_as : ℕ → Words → Words → Activation Vars
  top_as p aggregates args =
      record { proc = p; aggregates = aggregates; args = args; home = old.top.home }

  module _ (shape : ℕ → Shape) where
    same_words : (x : Object) →
        words_of shape (top_as new.top.proc new.top.aggregates new.top.args ∷ new.below) x ≡
        words_of shape (top_as old.top.proc old.top.aggregates old.top.args ∷ old.below) x
    same_words x =
        ap (λ p. words_of shape (top_as p new.top.aggregates new.top.args ∷ new.below) x) but.proc
        ∙ ap (λ ws. words_of shape (top_as old.top.proc ws new.top.args ∷ new.below) x)
        but.aggregates
        ∙ ap (λ ws. words_of shape (top_as old.top.proc old.top.aggregates ws ∷ new.below) x)
        but.args
        ∙ ap (λ cs. words_of shape (top_as old.top.proc old.top.aggregates old.top.args ∷ cs) x)
        but.below

    same_object : (x : Object) → object shape new x ≡ object shape old x
    same_object Data = but.globals
    same_object (Aggregates n sum) = same_words (Aggregates n sum)
    same_object (Cell n below k) = same_words (Cell n below k)

  same_word : (x : Object) (w : ℕ) → content t new (InWord x w) ≡ content t old (InWord x w)
  same_word x w = ap (λ ws. joined (slice_get ws w)) (same_object (shapes_of t) x)

  at_top : (s : State Vars) (d v : ℕ) → d ≡ suc (length s.below) → content t s (InVariable d v) ≡
      held_at s v
  at_top s d v at = ap (λ b. variable_in (if b then Some (s.top, s.below) else call_at s.below d) v)
      (eq-eqb d (suc (length s.below)) at)

  under_top : (s : State Vars) (d v : ℕ) → (d ≡ suc (length s.below) → ⊥) →
      content t s (InVariable d v) ≡ variable_in (call_at s.below d) v
  under_top s d v off = ap (λ b. variable_in
      (if b then Some (s.top, s.below) else call_at s.below d) v)
      (ne_eqb d (suc (length s.below)) off)

  depths : suc (length new.below) ≡ suc (length old.below)
  depths = ap (λ cs. suc (length cs)) but.below

  same_variable : (d v : ℕ) → (d ≡ suc (length old.below) → held_at new v ≡ held_at old v) →
      content t new (InVariable d v) ≡ content t old (InVariable d v)
  same_variable d v same =
      ⊎_elim
      (λ (at : d ≡ suc (length old.below)). at_top new d v (at ∙ sym depths) ∙ same at
      ∙ sym (at_top old d v at))
      (λ (off : d ≡ suc (length old.below) → ⊥). under_top new d v (λ e. off (e ∙ depths))
      ∙ ap (λ cs. variable_in (call_at cs d) v) but.below ∙ sym (under_top old d v off))
      (cases_eq d (suc (length old.below)))

  module _ (calls : List LiveCall) (store : Store) (laid : IsLaidOut t.program)
      (represents : Represents t calls store old) where
    same_procs : map (λ c. c.proc) (live_in new) ≡ map (λ c. c.proc.0) calls
    same_procs = ap (λ p. p ∷ map (λ c. c.proc) new.below) but.proc
        ∙ ap (λ cs. old.top.proc ∷ map (λ c. c.proc) cs) but.below ∙ represents.same_calls

    -- a procedure's variable of the running call is a home of its procedure
    homes_are : (d v : ℕ) (call : LiveCall × List LiveCall) (proc : CheckedProc) → call_at calls d ≡
        Some call → slice_get t.program.procs call.0.proc.0 ≡ Some proc → v < home_count proc →
        d ≡ suc (length old.below) → v < homes_of t old
    homes_are d v call proc there has lt at =
        let same : slice_get t.program.procs old.top.proc ≡ Some proc =
        ap (slice_get t.program.procs)
        (top_proc calls old d call represents.same_calls at there) ∙ has in
        subst (λ n. v < n) (sym (ap homes_in same)) lt

    param_within : (proc : CheckedProc) (k : ℕ) (param : Param) → slice_get proc.params k ≡
        Some param → param.by_var ≡ true → param_variable proc k < home_count proc
    param_within proc k param e by_var =
        omega (arith, count_below in_variable proc.params k param e (by_var_variable param by_var))

    module _ (free : (u : ℕ) → u < homes_of t old → held_at new u ≡ held_at old u) where
      pub freed : Represents t calls store new
      freed = record {
        same_calls = same_procs;
        values = λ l spot type_id at scalar.
            kept_on type_id (number_at store l) (number_at store l) (content t old spot)
            (content t new spot) refl (same_spot l spot type_id at)
            (represents.values l spot type_id at scalar);
        params = λ d k call below proc param at has.
            let h = has_param t call k proc param has in
            given_where t below param (lent_in call k)
            (content t old (InVariable d (param_variable proc k)))
            (content t new (InVariable d (param_variable proc k)))
            (λ by_var. same_variable d (param_variable proc k)
            (λ top. free (param_variable proc k)
            (homes_are d (param_variable proc k) (call, below) proc at h.proc_there
            (param_within proc k param h.param_there by_var) top)))
            (represents.params d k call below proc param at has);
      }
        where
          same_spot : (l : Location) (spot : Spot) (type_id : ℕ) →
              placed t.program t.frames calls l ≡ Some (placed_at spot type_id) →
              content t new spot ≡ content t old spot
          same_spot l (InWord x w) type_id at = same_word x w
          same_spot l (InVariable d v) type_id at =
              let home = home_there t.program t.frames calls laid l d v type_id at in
              same_variable d v (λ top. free v
              (homes_are d v home.call home.proc home.call_there home.proc_there
              (owner_within home.proc d home.object v home.owner) top))

    module _ (l : Location) (variable type_id : ℕ) (v : SourceValue)
        (there : placed t.program t.frames calls l ≡
        Some (placed_at (InVariable (length calls) variable) type_id))
        (scalar : is_scalar type_id ≡ true) (typed : is_of_type type_id (number v) ≡ true)
        (written : held_at new variable ≡ Some (Num (word (number v))))
        (free : (u : ℕ) → u < homes_of t old → u ≢ variable → held_at new u ≡ held_at old u)
      where
        top_is : length calls ≡ suc (length old.below)
        top_is = same_depth calls old represents.same_calls

        other_spot : (m : Location) (spot : Spot) (other : ℕ) → placed t.program t.frames calls m ≡
            Some (placed_at spot other) → spot ≢ InVariable (length calls) variable →
            content t new spot ≡ content t old spot
        other_spot m (InWord x w) other at off = same_word x w
        other_spot m (InVariable d u) other at off =
            let home = home_there t.program t.frames calls laid m d u other at in
            same_variable d u (λ top.
            free u (homes_are d u home.call home.proc home.call_there home.proc_there
            (owner_within home.proc d home.object u home.owner) top)
            (λ e. off (ap (λ n. InVariable n u) (top ∙ sym top_is) ∙ ap (InVariable (length calls))
            e)))

        values_after : (m : Location) (spot : Spot) (other : ℕ) →
            placed t.program t.frames calls m ≡
            Some (placed_at spot other) → is_scalar other ≡ true →
            IsKept other (number_at (assigned store l v) m) (content t new spot)
        values_after m spot other at also =
            ⊎_elim
            (λ (same : m ≡ l).
            let places = some_same (placed_at spot other)
            (placed_at (InVariable (length calls) variable) type_id)
            (sym at ∙ ap (placed t.program t.frames calls) same ∙ there) in
            let spots : spot ≡ InVariable (length calls) variable =
            ap (λ (p : Placed). p.spot) places in
            let types : other ≡ type_id = ap (λ (p : Placed). p.type_id) places in
            let value : number_at (assigned store l v) m ≡ number v =
            ap (number_at (assigned store l v)) same
            ∙ ap number (read-assigned store l v (Number (pos 0))) in
            let kept : IsKept type_id (number v) (Some (Num (word (number v)))) =
            record { typed = typed; word = refl } in
            subst (λ k. IsKept k (number_at (assigned store l v) m) (content t new spot))
            (sym types)
            (kept_on type_id (number v) (number_at (assigned store l v) m)
            (Some (Num (word (number v)))) (content t new spot) value
            (ap (content t new) spots ∙ at_top new (length calls) variable (top_is ∙ sym depths)
            ∙ written) kept))
            (λ (apart : m ≢ l).
            let off : spot ≢ InVariable (length calls) variable =
            λ e. apart (own_spots t.program t.frames calls laid m l (placed_at spot other)
            (placed_at (InVariable (length calls) variable) type_id) at there also scalar e) in
            kept_on other (number_at store m) (number_at (assigned store l v) m)
            (content t old spot)
            (content t new spot)
            (ap number (read-assigned_other store l m v (Number (pos 0)) apart))
            (other_spot m spot other at off)
            (represents.values m spot other at also))
            (same_or_not m l)

        pub assigned_variable : Represents t calls (assigned store l v) new
        assigned_variable = record {
          same_calls = same_procs;
          values = values_after;
          params = λ d k call below proc param at has.
              let h = has_param t call k proc param has in
              given_where t below param (lent_in call k)
              (content t old (InVariable d (param_variable proc k)))
              (content t new (InVariable d (param_variable proc k)))
              (λ by_var. same_variable d (param_variable proc k) (λ top.
              free (param_variable proc k)
              (homes_are d (param_variable proc k) (call, below) proc at h.proc_there
              (param_within proc k param h.param_there by_var) top)
              (λ e. not_lent d k call below proc param at h by_var top e)))
              (represents.params d k call below proc param at has);
        }
          where
            not_lent : (d k : ℕ) (call : LiveCall) (below : List LiveCall) (proc : CheckedProc)
                (param : Param) → call_at calls d ≡ Some (call, below) →
                HasParam t call k proc param → param.by_var ≡ true → d ≡ suc (length old.below) →
                param_variable proc k ≡ variable → ⊥
            not_lent d k call below proc param at h by_var top e =
                let home = home_there t.program t.frames calls laid l (length calls) variable
                type_id
                there in
                let calls_same : home.call ≡ (call, below) = some_same home.call (call, below)
                (sym home.call_there ∙ ap (call_at calls) (top_is ∙ sym top) ∙ at) in
                let procs : home.proc ≡ proc =
                some_same home.proc proc
                (sym home.proc_there ∙ ap (λ (z : LiveCall × List LiveCall). slice_get
                t.program.procs z.0.proc.0) calls_same ∙ h.proc_there) in
                owner_apart home.proc (length calls) home.object variable k param home.owner
                (ap (λ (q : CheckedProc). slice_get q.params k) procs ∙ h.param_there) by_var
                (by_var_variable param by_var)
                (ap (λ (q : CheckedProc). param_variable q k) procs ∙ e)
