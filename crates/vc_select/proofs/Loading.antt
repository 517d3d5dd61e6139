-- The value of a variable of the source, in a variable of the code.
use Rattle.std.proofs.Common.{◌≡◌, ℕ, suc, ◌+◌, ◌*◌, ◌/◌, ◌%◌, ◌^◌, ◌<◌, true, List, [], ◌∷◌}
use Rattle.std.proofs.Common.{length, Some, None, refl, sym, ap, ◌∙◌, subst, ◌⊎◌, inl, inr, ⊎_elim}
use Rattle.std.proofs.Common.{arith, length-append}
use Rattle.std.specs.Prelude.{ℤ, pos, negsuc, ◌||◌, nat_eq, slice_get, slice_set, slice_index_or}
use Rattle.std.specs.Prelude.{if◌then◌else◌}
use Rattle.std.specs.Ordering.{int_eq}
use Rattle.std.specs.Int.{w32}
use Rattle.std.specs.Int.RustNames.{FitsSigned}
use Rattle.std.proofs.Math.Nat.{mod-eq_of_lt}
use Rattle.std.proofs.lemmas.Bool.{ltb-true, lt-ltb, eq-eqb, or_cases}
use Rattle.std.proofs.lemmas.Bool.Decides.{Decides-int_eq}
use Rattle.std.proofs.lemmas.Int.{ints}
use Rattle.std.proofs.lemmas.List.{get_or-set_same, get_or-set_other, length-set}
use Rattle.pra_list.specs.Options.{◌>>=◌}
use Rattle.pra_list.proofs.Options.{some_same, none_some}
use Rattle.pra_list.proofs.Choices.{by_test}
use Rattle.pra_base.specs.Code as code
use Rattle.pra_base.specs.Code.{kind_of}
use Rattle.pra_base.specs.Words.{word, fits_word}
use Rattle.pra_base.specs.declared.ids.VarId.{VarId}
use Rattle.pra_base.specs.declared.code.Addr.{Addr}
use Rattle.pra_base.specs.declared.code.VarKind.TheVariants.{Plain}
use Rattle.pra_base.specs.declared.code.VInstr.{VInstr}
use Rattle.pra_base.specs.declared.code.VInstr.TheVariants.{Load}
use Rattle.pra_base.specs.declared.code.VProc.{VProc}
use Rattle.ob_syntax.specs.Expressions.{boolean}
use Rattle.ob_syntax.specs.Operators.{number}
use Rattle.ob_syntax.specs.WellFormed.{is_scalar}
use Rattle.ob_syntax.specs.declared.checked.Checked.{Checked}
use Rattle.ob_syntax.specs.declared.checked.Value.{Value}
use Rattle.ob_mean.specs.Designators.{running}
use Rattle.ob_mean.specs.Store.{Store}
use Rattle.ob_mean.specs.declared.store.LiveCall.{LiveCall}
use Rattle.ob_mean.specs.declared.store.Location.{Location}
use Rattle.vc_code.specs.declared.action.Action.TheVariants as action
use Rattle.vc_code.specs.declared.value.Value.TheVariants.{Num}
use Rattle.vc_code.specs.Value.{Words}
use Rattle.vc_code.specs.Machine.{Activation, State, here, with_top, object, joined, word_at}
use Rattle.vc_code.specs.Machine.{number_in, apply, found, goes_on}
use Rattle.vc_code.specs.Operation as operation
use Rattle.vc_code.specs.Operation.{based, indexed, base_count}
use Rattle.vc_code.specs.Selected.{Vars, read, valued, shape, selected, code_of, at_point, behind}
use Rattle.vc_code.specs.Selected.{put_all, written}
use Rattle.vc_build.specs.Grow.{IsOpen, with_instr, with_variable}
use Rattle.vc_build.specs.Runs.{Codes, runs, Stands, acted, Reaches}
use Rattle.vc_build.proofs.Growth.{grows_at_again, grows_at_same, put_code, put_open, put_grows}
use Rattle.vc_build.proofs.Growth.{declared_kind, declared_count, declared_grows}
use Rattle.vc_build.proofs.Steps.{same_self, rests, performs}
use Rattle.vc_expr.specs.Operators.{IsBit}
use Rattle.vc_relation.specs.Spots.{Spot, InVariable, InWord, placed_at, placed, call_at}
use Rattle.vc_relation.specs.Relation.{number_at, is_of_type, content, variable_in, held_at}
use Rattle.vc_relation.specs.Relation.{homes_in}
use Rattle.vc_relation.proofs.Lives.{owner_within, home_there}
use Rattle.vc_relation.proofs.Variables.{same_depth}
use Rattle.vc_select.specs.declared.target.Setting.{Setting}
use Rattle.vc_select.specs.declared.target.Target.TheVariants.{Var, Memory}
use Rattle.vc_select.specs.Targets.{held_for, IsVariable, IsWord}
use Rattle.vc_select.specs.Selects.{home_variables, selected_module, Starts, Results, Loads}
use Rattle.vc_select.proofs.Placing.{word_bound}
use Rattle.vc_select.proofs.Roots.{read_plain, running_is}

-- ---- a number of a type

fits_of : (n : ℤ) → fits_word n ≡ true → FitsSigned w32 n
fits_of (pos n) e = let lt = ltb-true n (2 ^ 31) e in omega (arith, lt, ints)
fits_of (negsuc n) e = let lt = ltb-true n (2 ^ 31) e in omega (arith, lt, ints)

bit_of : (n : ℤ) → (int_eq n (pos 0) || int_eq n (pos 1)) ≡ true → (n ≡ pos 0) ⊎ (n ≡ pos 1)
bit_of n e =
    ⊎_elim
    (λ (a : int_eq n (pos 0) ≡ true). inl ((Decides-int_eq n (pos 0)).0 a))
    (λ (b : int_eq n (pos 1) ≡ true). inr ((Decides-int_eq n (pos 1)).0 b))
    (or_cases (int_eq n (pos 0)) (int_eq n (pos 1)) e)

bit_fits : (n : ℤ) → (n ≡ pos 0) ⊎ (n ≡ pos 1) → FitsSigned w32 n
bit_fits n c =
    let zero_fits : FitsSigned w32 (pos 0) = omega (arith, ints) in
    let one_fits : FitsSigned w32 (pos 1) = omega (arith, ints) in
    ⊎_elim (λ (a : n ≡ pos 0). subst (FitsSigned w32) (sym a) zero_fits)
    (λ (b : n ≡ pos 1). subst (FitsSigned w32) (sym b) one_fits) c

typed_fits : (type_id : ℕ) (n : ℤ) → is_of_type type_id n ≡ true → FitsSigned w32 n
typed_fits type_id n e = by_test (nat_eq type_id boolean) (int_eq n (pos 0) || int_eq n (pos 1))
    (fits_word n) true (λ b at. bit_fits n (bit_of n at)) (λ b at. fits_of n at) e

typed_bit : (type_id : ℕ) (n : ℤ) → type_id ≡ boolean → is_of_type type_id n ≡ true → (n ≡ pos 0) ⊎
    (n ≡ pos 1)
typed_bit type_id n is e =
    bit_of n (sym (ap (λ b. if b then int_eq n (pos 0) || int_eq n (pos 1) else fits_word n)
    (eq-eqb type_id boolean is)) ∙ e)

-- the running call is the one at the greatest depth
running_top : (calls : List LiveCall) (c : LiveCall × List LiveCall) →
    call_at calls (length calls) ≡ Some c → running calls ≡ c.0.proc.0
running_top [] c e = absurd (none_some e)
running_top (x ∷ below) c e =
    let here : Some (x, below) ≡ Some c =
    sym (ap (λ b. if b then Some (x, below) else call_at below (suc (length below)))
    (eq-eqb (suc (length below)) (suc (length below)) refl)) ∙ e in
    ap (λ (z : LiveCall × List LiveCall). z.0.proc.0) (some_same (x, below) c here)

module _ (g : Setting) (w : Codes) (old new : VProc) (at : ℕ) (calls : List LiveCall)
    (store : Store) (s : State Vars) (starts : Starts g w old new at calls store s) (l : Location)
    (type_id : ℕ) (x : Value)
    (scalar : is_scalar type_id ≡ true) (is : number x ≡ number_at store l) where
  abbrev program : Checked
  program = g.program.now

  record IsAt (spot : Spot) : Type 0 where
    fits : FitsSigned w32 (number x)
    bit : type_id ≡ boolean → IsBit x
    held : content (selected_module program w) s spot ≡ Some (Num (word (number x)))

  kept : (spot : Spot) → placed program w.frames calls l ≡ Some (placed_at spot type_id) → IsAt spot
  kept spot place =
      let k = starts.represents.values l spot type_id place scalar in
      let typed : is_of_type type_id (number x) ≡ true = ap (is_of_type type_id) is ∙ k.typed in
      record {
        fits = typed_fits type_id (number x) typed;
        bit = λ e. typed_bit type_id (number x) e typed;
        held = k.word ∙ ap (λ n. Some (Num (word n))) (sym is);
      }

  -- ---- a variable of the code

  module _ (u : ℕ) (named : IsVariable program w calls u l type_id) where
    top_is : length calls ≡ suc (length s.below)
    top_is = same_depth calls s starts.represents.same_calls

    is_home : u < home_variables g
    is_home =
        let home = home_there program w.frames calls starts.set.laid l (length calls) u type_id
        named.place in
        let runs_it : home.call.0.proc.0 ≡ g.id.0 =
        sym (running_top calls home.call home.call_there)
        ∙ running_is calls s starts.represents.same_calls ∙ starts.runs.proc in
        let proc : slice_get program.procs g.id.0 ≡ Some home.proc = ap (slice_get program.procs)
        (sym runs_it) ∙ home.proc_there in
        subst (λ n. u < n) (sym (ap homes_in proc))
        (owner_within home.proc (length calls) home.object u home.owner)

    variable_read : read (kind_of (code_of w.procs g.id.0)) s.top.home.held u ≡
        Some (Num (word (number x)))
    variable_read =
        read_plain (kind_of (code_of w.procs g.id.0) u) (held_at s u) (starts.variables u is_home)
        ∙ sym (ap (λ b. variable_in
        (if b then Some (s.top, s.below) else call_at s.below (length calls)) u)
        (eq-eqb (length calls) (suc (length s.below)) top_is))
        ∙ (kept (InVariable (length calls) u) named.place).held

    variable_reaches : Stands new at s.top →
        Reaches w s (Results w g.id.0 new at u (length old.vars) s.top type_id x)
    variable_reaches stands =
        let k = kept (InVariable (length calls) u) named.place in
        rests w s (Results w g.id.0 new at u (length old.vars) s.top type_id x) starts.runs.compared
        (record {
          gives = record {
            fits = k.fits;
            holds =
                record {
                  stands = stands;
                  same = same_self (length old.vars) s.top;
                  value =
                      variable_read;
                };
          };
          bit = k.bit;
        })

  -- ---- a word of an object

  module _ (a : Addr) (named : IsWord program w calls s a l type_id) where
    small : 4 * named.word < 2 ^ 32
    small = omega (
      arith,
      word_bound program w.frames calls starts.set.laid l named.object
          named.word type_id named.place,
    )

    placed_is : operation.placed (here (shape w.procs w.frames) s) a (held_for w s a) ≡
        Some (named.object, 4 * named.word)
    placed_is =
        ap (λ o. o >>= λ z. indexed a.index (held_for w s a) (base_count a.base) >>= λ i. Some
        (z.0, (z.1 + word a.offset + 4 * i) % 2 ^ 32)) named.base_is
        ∙ ap (λ o. o >>= λ i. Some (named.object, (named.begin + word a.offset + 4 * i) % 2 ^ 32))
        named.index_is
        ∙ ap (λ z. Some (named.object, (named.begin + word z + 4 * named.index) % 2 ^ 32))
        named.offset_is
        ∙ ap (λ n. Some (named.object, n % 2 ^ 32)) named.sum
        ∙ ap (λ n. Some (named.object, n)) (mod-eq_of_lt small)

    -- a whole word is at a byte offset of 4 times its number
    word_is : (words : Words) (n : ℕ) → word_at words (4 * n) ≡ slice_get words n
    word_is words n =
        let whole : 4 * n % 4 ≡ 0 = omega arith in
        let quarter : 4 * n / 4 ≡ n = omega arith in
        ap (λ b. if b then slice_get words (4 * n / 4) else None) (eq-eqb (4 * n % 4) 0 whole)
        ∙ ap (slice_get words) quarter

    number_there : number_in (shape w.procs w.frames) s named.object (4 * named.word) ≡
        Some (word (number x))
    number_there =
        ap (λ h. operation.number (joined h))
        (word_is (object (shape w.procs w.frames) s named.object) named.word)
        ∙ ap operation.number (kept (InWord named.object named.word) named.place).held

-- ---- the load

pub loads_variable : (g : Setting) (old : VProc) (at : ℕ) (u : VarId) → IsOpen old at →
    Loads g at old old (Var u) u.0
loads_variable g old at u o = record {
  grows = grows_at_same old at;
  is_open = o;
  means = λ w calls store s l type_id x starts named scalar is. variable_reaches g w old old at
      calls store s starts l type_id x scalar is u.0 named starts.stands;
}

module _ (g : Setting) (old : VProc) (at : ℕ) (a : Addr) (t : VarId) (o : IsOpen old at)
    (is_new : t.0 ≡ length old.vars) where
  abbrev mid : VProc
  mid = with_variable Plain old

  abbrev i : VInstr
  i = Load t a

  abbrev made : VProc
  made = with_instr at i mid

  mid_open : IsOpen mid at
  mid_open = o

  pub load_declared : t.0 < length made.vars
  load_declared = omega (arith, is_new, declared_count Plain old)

  plain : kind_of made t.0 ≡ Plain
  plain = ap (kind_of mid) is_new ∙ declared_kind Plain old

  module _ (w : Codes) (calls : List LiveCall) (store : Store) (s : State Vars) (l : Location)
      (type_id : ℕ) (x : Value) (starts : Starts g w old made at calls store s)
      (named : IsWord g.program.now w calls s a l type_id) (scalar : is_scalar type_id ≡ true)
      (is : number x ≡ number_at store l) where
    abbrev held_after : Words
    held_after = slice_set s.top.home.held t.0 (Some (Num (word (number x))))

    abbrev call_after : Activation Vars
    call_after = at_point s.top s.top.home.block (suc s.top.home.index) held_after

    within : t.0 < length s.top.home.held
    within = omega (arith, load_declared, starts.runs.holds.vars, starts.runs.room)

    writes_it : written s.top (t.0 ∷ []) (Num (word (number x)) ∷ []) ≡ Some call_after
    writes_it = ap (λ b. behind s.top (put_all (if b then Some held_after else None) [] []))
        (lt-ltb t.0 (length s.top.home.held) within)

    acts : acted w i s ≡ Some (action.Load named.object (4 * named.word))
    acts = ap (λ z. z >>= λ p. Some (action.Load p.0 p.1))
        (placed_is g w old made at calls store s starts l type_id x scalar is a named)

    loaded : runs w 1 s ≡ with_top s call_after
    loaded =
        performs w g.id.0 at mid s mid_open
        (record { block = starts.stands.block; index = starts.stands.index }) i starts.runs
        ∙ ap (λ z. apply (selected w.procs w.frames) (λ xs. written s.top (t.0 ∷ []) xs) z s) acts
        ∙ ap (λ z. found s z (λ n. goes_on (λ xs. written s.top (t.0 ∷ []) xs) (Num n ∷ []) with_top
        s)) (number_there g w old made at calls store s starts l type_id x scalar is a named)
        ∙ ap (λ c. found s c (with_top s)) writes_it

    load_reaches : Reaches w s (Results w g.id.0 made at t.0 (length old.vars) s.top type_id x)
    load_reaches =
        let k = kept g w old made at calls store s starts l type_id x scalar is
        (InWord named.object named.word) named.place in
        let kind : kind_of (code_of w.procs g.id.0) t.0 ≡ Plain =
        starts.runs.holds.kinds t.0 load_declared ∙ plain in
        record {
          steps = 1;
          call = call_after;
          there = loaded;
          good = record {
            gives = record {
              fits = k.fits;
              holds = record {
                stands = record {
                  block = starts.stands.block;
                  index = omega (
                    arith,
                    starts.stands.index,
                    ap (λ z. length z) (put_code at i mid mid_open),
                    length-append (code.code_of mid at) (i ∷ []),
                  );
                };
                same = record {
                  proc = refl;
                  aggregates = refl;
                  args = refl;
                  room = length-set s.top.home.held t.0 (Some (Num (word (number x))));
                  held = λ u lt. get_or-set_other s.top.home.held t.0 u
                      (Some (Num (word (number x)))) None (λ e. omega (arith, e, lt, is_new));
                };
                value = ap (λ z. valued z (slice_index_or held_after t.0 None)) kind
                    ∙ get_or-set_same s.top.home.held t.0 (Some (Num (word (number x)))) None
                    within;
              };
            };
            bit = k.bit;
          };
        }

  pub loads_word : Loads g at old made (Memory a) t.0
  loads_word = record {
    grows = grows_at_again old mid made at (declared_grows Plain old at)
        (put_grows at i mid mid_open);
    is_open = put_open at i mid mid_open;
    means = load_reaches;
  }
