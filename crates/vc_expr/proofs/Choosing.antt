-- `&` and OR as values over blocks.
use Rattle.std.proofs.Common.{◌≡◌, ◌≢◌, ℕ, suc, ◌<◌, ◌≤◌, Bool, true, false, [], ◌∷◌, length, Some}
use Rattle.std.proofs.Common.{None, Ok, refl, sym, ap, ◌∙◌, subst, arith}
use Rattle.std.specs.Prelude.{slice_index_or, if◌then◌else◌}
use Rattle.pra_list.proofs.Options.{some_same}
use Rattle.pra_base.specs.Code.{kind_of, block_of}
use Rattle.pra_base.specs.Operands.{written_by}
use Rattle.pra_base.specs.Words.{word}
use Rattle.pra_base.specs.declared.ids.BlockId.{BlockId}
use Rattle.pra_base.specs.declared.ids.VarId.{VarId}
use Rattle.pra_base.specs.declared.code.VarKind.{VarKind}
use Rattle.pra_base.specs.declared.code.VarKind.TheVariants.{Param, Plain, Constant}
use Rattle.pra_base.specs.declared.code.VInstr.{VInstr}
use Rattle.pra_base.specs.declared.code.VInstr.TheVariants.{Set, Copy}
use Rattle.pra_base.specs.declared.code.End.TheVariants.{Jump}
use Rattle.pra_base.specs.declared.code.VProc.{VProc}
use Rattle.ob_syntax.specs.Operators.{Outcome, number, is_true, both, either, combined}
use Rattle.ob_syntax.specs.declared.checked.ROp.{ROp}
use Rattle.ob_syntax.specs.declared.checked.ROp.TheVariants.{Mul, Div, Mod, Both, Add, Sub, Either}
use Rattle.ob_syntax.specs.declared.checked.ROp.TheVariants.{Equal, Unequal, Less, LessEqual}
use Rattle.ob_syntax.specs.declared.checked.ROp.TheVariants.{Greater, GreaterEqual}
use Rattle.ob_syntax.specs.declared.checked.Value.{Value}
use Rattle.ob_syntax.specs.declared.checked.Value.TheVariants.{Truth}
use Rattle.vc_code.specs.declared.action.Action.TheVariants.{Give}
use Rattle.vc_code.specs.declared.value.Value.{Value as Word}
use Rattle.vc_code.specs.declared.value.Value.TheVariants.{Num}
use Rattle.vc_code.specs.Machine.{Activation, State, here, with_top}
use Rattle.vc_code.specs.Operation.{operate}
use Rattle.vc_code.specs.Selected.{Vars, read, valued, shape, code_of}
use Rattle.vc_build.specs.Grow.{count, open_block, IsOpen, with_instr, with_end, with_open_block}
use Rattle.vc_build.specs.Grow.{with_variable, GrowsAt}
use Rattle.vc_build.specs.Runs.{Codes, Stands, RunsIn, SameBelow, acted, Reaches, Holds, Yields}
use Rattle.vc_build.proofs.Growth.{grows_at_again, put_count, put_open, put_grows, closed_grows}
use Rattle.vc_build.proofs.Growth.{opened_kept, opened_count, opened_block, opened_grows}
use Rattle.vc_build.proofs.Growth.{declared_kind, declared_count, declared_grows}
use Rattle.vc_build.proofs.Open.{put_keeps, open_one}
use Rattle.vc_build.proofs.Steps.{same_on, yields_on, rests, runs_in_earlier, runs_in_on, gives}
use Rattle.vc_expr.specs.Operators.{is_bitwise, HasValue, first_of}
use Rattle.vc_expr.specs.Branches.{Enters, chosen}
use Rattle.vc_expr.specs.Choices.{decided, test_of, OpensChoice, ClosesChoice, Arrives}
use Rattle.vc_expr.specs.declared.choice.Choice.{Choice}
use Rattle.vc_expr.proofs.Starts.{reads_are}
use Rattle.vc_expr.proofs.Operations.{same_fewer}
use Rattle.vc_expr.proofs.Divisions.{value_on}
use Rattle.vc_expr.proofs.Reaching.{reaches_as, reaches_then, yields_as}
use Rattle.vc_expr.proofs.Branching.{entered, jumps}
use Rattle.vc_expr.proofs.Truths.{truth_fits}

-- ---- before the test of the left side

module _ (op : ROp) (at : ℕ) (old : VProc) (target : VarId) (depth : ℕ) (o : IsOpen old at)
    (is_new : target.0 ≡ length old.vars) (same_depth : depth ≡ (block_of old at).depth) where
  abbrev value : Value
  value = Truth (decided op)

  abbrev m1 : VProc
  m1 = with_variable Plain old

  abbrev set : VInstr
  set = Set target (number value)

  abbrev m2 : VProc
  m2 = with_instr at set m1

  abbrev m3 : VProc
  m3 = with_open_block depth m2

  abbrev m4 : VProc
  m4 = with_open_block depth m3

  m1_open : IsOpen m1 at
  m1_open = o

  m2_open : IsOpen m2 at
  m2_open = put_open at set m1 m1_open

  m2_count : count m2 ≡ count old
  m2_count = put_count at set m1 m1_open

  m3_count : count m3 ≡ suc (count old)
  m3_count = omega (arith, opened_count depth m2, m2_count)

  m4_count : count m4 ≡ suc (suc (count old))
  m4_count = omega (arith, opened_count depth m3, m3_count)

  at_m3 : block_of m3 at ≡ block_of m2 at
  at_m3 = opened_kept depth m2 at m2_open.0

  at_m4 : block_of m4 at ≡ block_of m2 at
  at_m4 = opened_kept depth m3 at (omega (arith, m2_open.0, m2_count, m3_count)) ∙ at_m3

  m4_open : IsOpen m4 at
  m4_open = (omega (arith, m2_open.0, m2_count, m4_count), ap (λ b. b.end) at_m4 ∙ m2_open.1)

  m2_m4 : GrowsAt at m2 m4
  m2_m4 = grows_at_again m2 m3 m4 at (opened_grows depth m2 at) (opened_grows depth m3 at)

  old_m4 : GrowsAt at old m4
  old_m4 = grows_at_again old m1 m4 at (declared_grows Plain old at)
      (grows_at_again m1 m2 m4 at (put_grows at set m1 m1_open) m2_m4)

  declared : target.0 < length m1.vars
  declared = omega (arith, is_new, declared_count Plain old)

  plain : kind_of m1 target.0 ≡ Plain
  plain = ap (kind_of m1) is_new ∙ declared_kind Plain old

  pub opens : (right behind : BlockId) → right.0 ≡ count m2 → behind.0 ≡ count m3 →
      OpensChoice op at old m4 (record { target = target; right = right; behind = behind })
  opens right behind r_is b_is = record {
    adds = record {
      grows = old_m4;
      is_open = m4_open;
      named = declared;
      above =
          omega (arith, is_new);
      plain = plain;
    };
    blocks = m4_count;
    waiting = omega (arith, open_one depth m3, open_one depth m2, put_keeps at set m1 m1_open);
    right = r_is ∙ m2_count;
    behind = b_is ∙ m3_count;
    right_block = ap (block_of m4) r_is ∙ opened_kept depth m3 (count m2)
        (omega (arith, opened_count depth m2)) ∙ opened_block depth m2 ∙ ap open_block same_depth;
    behind_block = ap (block_of m4) b_is ∙ opened_block depth m3 ∙ ap open_block same_depth;
    means = λ w id s run stands.
        let run2 : RunsIn w id m2 s = runs_in_earlier w id m2 m4 s m2_m4.grows run in
        reaches_as w s (Holds w id m2 at target.0 (length old.vars) s.top
        (Num (word (number value))))
        (λ c. Stands m4 at c × SameBelow (length old.vars) s.top c × HasValue w id target.0 c value)
        (gives w id at m1 s m1_open (record { block = stands.block; index = stands.index }) set run2
        target.0 (length old.vars) (Num (word (number value))) refl refl (omega (arith, is_new))
        (run2.holds.kinds target.0 declared ∙ plain) (omega (arith, declared, run2.holds.vars)))
        (λ c h. (
          record {
            block = h.stands.block;
            index = h.stands.index ∙ ap (λ b. length b.code)
                (sym at_m4);
          },
          h.same,
          record { fits = truth_fits (decided op); held = h.value },
        ));
  }

-- ---- behind the right side

first_writes : (kind : VarKind) (target v : VarId) → written_by (first_of kind target v) ≡
    target.0 ∷ []
first_writes (Constant n) target v = refl
first_writes Plain target v = refl
first_writes (Param k) target v = refl

module _ (w : Codes) (id : ℕ) (s : State Vars) (target v : VarId) (x : Word)
    (proc : s.top.proc ≡ id) (is : read (kind_of (code_of w.procs id)) s.top.home.held v.0 ≡ Some x)
  where
    copy_acts : acted w (Copy target v) s ≡ Some (Give x)
    copy_acts = ap (λ held. operate (here (shape w.procs w.frames) s) (Copy target v) held)
        (reads_are w id s proc (v.0 ∷ []) ∙ ap (λ h. h ∷ []) is)

    first_acts : (kind : VarKind) → kind_of (code_of w.procs id) v.0 ≡ kind →
        acted w (first_of kind target v) s ≡ Some (Give x)
    first_acts (Constant n) e =
        let same : Num (word n) ≡ x =
        some_same (Num (word n)) x
        (ap (λ k. valued k (slice_index_or s.top.home.held v.0 None)) (sym e) ∙ is) in
        ap (λ y. Some (Give y)) same
    first_acts Plain e = copy_acts
    first_acts (Param k) e = copy_acts

module _ (at : ℕ) (old : VProc) (v : VarId) (choice : Choice) (kind : VarKind)
    (kind_is : kind_of old v.0 ≡ kind) (o : IsOpen old at) (named : v.0 < length old.vars)
    (target_named : choice.target.0 < length old.vars) (plain : kind_of old choice.target.0 ≡ Plain)
    (there : choice.behind.0 < count old) (some : 0 < choice.behind.0) where
  abbrev give : VInstr
  give = first_of kind choice.target v

  abbrev given : VProc
  given = with_instr at give old

  abbrev closed : VProc
  closed = with_end at (Jump choice.behind) given

  given_open : IsOpen given at
  given_open = put_open at give old o

  given_closed : GrowsAt at given closed
  given_closed = closed_grows at (Jump choice.behind) given given_open

  not_entry : choice.behind.0 ≢ 0
  not_entry e = omega (arith, e, some)

  pub closes : ClosesChoice at old closed v.0 choice
  closes = record {
    grows = grows_at_again old given closed at (put_grows at give old o) given_closed;
    means = λ w id s x run stands hx.
        let run1 : RunsIn w id given s = runs_in_earlier w id given closed s given_closed.grows
        run in
        let acts = first_acts w id s choice.target v (Num (word (number x))) run.proc hx.held kind
        (run1.holds.kinds v.0 named ∙ kind_is) in
        reaches_then w s (Holds w id given at choice.target.0 choice.target.0 s.top
        (Num (word (number x))))
        (Arrives w id choice choice.target.0 s.top x)
        (gives w id at old s o stands give run1 choice.target.0 choice.target.0
        (Num (word (number x))) (first_writes kind choice.target v) acts (omega arith)
        (run1.holds.kinds choice.target.0 target_named ∙ plain)
        (omega (arith, target_named, run1.holds.vars)))
        (λ c h. record {
          steps = 1;
          call = entered c choice.behind.0;
          there = jumps w id at given choice.behind given_open not_entry
              (omega (arith, there, put_count at give old o)) (with_top s c) h.stands
              (runs_in_on w id choice.target.0 closed s c h.same run);
          good = record {
            enters = record {
              block = refl;
              index = refl;
              same =
                  record {
                    proc = h.same.proc;
                    aggregates = h.same.aggregates;
                    args = h.same.args;
                    room = h.same.room;
                    held = h.same.held;
                  };
            };
            has = record { fits = hx.fits; held = h.value };
          };
        });
  }

-- ---- the whole, from what the test of the left side and the right side come to

-- the operator whose left side decides where it has this value
abbrev op_of : Bool → ROp
op_of true = Either
op_of false = Both

module _ (w : Codes) (id first : ℕ) (choice : Choice) (s : State Vars) (op : ROp)
    (has : HasValue w id choice.target.0 s.top (Truth (decided op))) (low : first ≤ choice.target.0)
  where
    -- the left side decides: nothing more is done
    stays : (c : Activation Vars) → Enters choice.behind.0 (suc choice.target.0) s.top c →
        Reaches w (with_top s c) (Arrives w id choice first s.top (Truth (decided op)))
    stays c enters =
        rests w (with_top s c) (Arrives w id choice first s.top (Truth (decided op))) refl
        (record {
          enters = record {
            block = enters.block;
            index = enters.index;
            same =
                same_fewer first (suc choice.target.0) s.top c (omega (arith, low)) enters.same;
          };
          has = value_on w id (suc choice.target.0) choice.target.0 s.top c (Truth (decided op))
              enters.same (omega arith) has;
        })

    -- the right side, and what gives its value to the variable
    module _ (b : Outcome) (right : (c : Activation Vars) →
        Enters choice.right.0 (suc choice.target.0) s.top c →
        Yields w (with_top s c) (Arrives w id choice choice.target.0 c) b) where
      goes_on : (c : Activation Vars) → Enters choice.right.0 (suc choice.target.0) s.top c →
          Yields w (with_top s c) (Arrives w id choice first s.top) b
      goes_on c enters = yields_as w (with_top s c) (Arrives w id choice choice.target.0 c)
          (Arrives w id choice first s.top) b (right c enters)
          (λ x c2 a. record {
            enters = record {
              block = a.enters.block;
              index = a.enters.index;
              same = same_on first choice.target.0 s.top c c2 low
                  (same_fewer first (suc choice.target.0) s.top c (omega (arith, low)) enters.same)
                  a.enters.same;
            };
            has = a.has;
          })

      by_left : (t decides : Bool) → op_of decides ≡ op → (c : Activation Vars) →
          Enters (if t then (if decides then choice.behind.0 else choice.right.0) else
          (if decides then choice.right.0 else choice.behind.0)) (suc choice.target.0) s.top c →
          Yields w (with_top s c) (Arrives w id choice first s.top)
          (if t then (if decides then Ok (Truth true) else b) else
          (if decides then b else Ok (Truth false)))
      by_left true true e c enters =
          subst (λ o. Reaches w (with_top s c)
          (Arrives w id choice first s.top (Truth (decided o))))
          (sym e) (stays c enters)
      by_left true false e c enters = goes_on c enters
      by_left false true e c enters = goes_on c enters
      by_left false false e c enters =
          subst (λ o. Reaches w (with_top s c)
          (Arrives w id choice first s.top (Truth (decided o))))
          (sym e) (stays c enters)

pub choice_arrives : (w : Codes) (id first : ℕ) (choice : Choice) (s : State Vars) (op : ROp)
    (a b : Outcome) → is_bitwise op ≡ true → HasValue w id choice.target.0 s.top
    (Truth (decided op)) → first ≤ choice.target.0 →
    Yields w s (λ z c. Enters (chosen (test_of op choice) (is_true z)) (suc choice.target.0) s.top
    c) a →
    ((c : Activation Vars) → Enters choice.right.0 (suc choice.target.0) s.top c →
    Yields w (with_top s c) (Arrives w id choice choice.target.0 c) b) →
    Yields w s (Arrives w id choice first s.top) (combined op a b)
choice_arrives w id first choice s Both a b e has low left right =
    yields_on w s (λ (z : Value) (c : Activation Vars). Enters
    (if is_true z then choice.right.0 else choice.behind.0) (suc choice.target.0) s.top c)
    (Arrives w id choice first s.top) a (λ x. both x b) left
    (λ x c enters. by_left w id first choice s Both has low b right (is_true x) false refl c enters)
choice_arrives w id first choice s Either a b e has low left right =
    yields_on w s (λ (z : Value) (c : Activation Vars). Enters
    (if is_true z then choice.behind.0 else choice.right.0) (suc choice.target.0) s.top c)
    (Arrives w id choice first s.top) a (λ x. either x b) left
    (λ x c enters. by_left w id first choice s Either has low b right (is_true x) true refl c
    enters)
choice_arrives w id first choice s Mul a b e has low left right = absurd (cc)
choice_arrives w id first choice s Div a b e has low left right = absurd (cc)
choice_arrives w id first choice s Mod a b e has low left right = absurd (cc)
choice_arrives w id first choice s Add a b e has low left right = absurd (cc)
choice_arrives w id first choice s Sub a b e has low left right = absurd (cc)
choice_arrives w id first choice s Equal a b e has low left right = absurd (cc)
choice_arrives w id first choice s Unequal a b e has low left right = absurd (cc)
choice_arrives w id first choice s Less a b e has low left right = absurd (cc)
choice_arrives w id first choice s LessEqual a b e has low left right = absurd (cc)
choice_arrives w id first choice s Greater a b e has low left right = absurd (cc)
choice_arrives w id first choice s GreaterEqual a b e has low left right = absurd (cc)
