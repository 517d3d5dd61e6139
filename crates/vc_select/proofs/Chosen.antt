-- `&` and OR as values over blocks.
use Rattle.std.proofs.Common.{◌≡◌, ◌≢◌, ℕ, suc, ◌<◌, Bool, true, false, List, length, Ok, Err, refl}
use Rattle.std.proofs.Common.{sym, ap, ◌∙◌, subst, arith}
use Rattle.std.specs.Prelude.{◌&&◌, if◌then◌else◌}
use Rattle.pra_base.specs.Code.{block_of, code_of}
use Rattle.pra_base.specs.declared.code.VProc.{VProc}
use Rattle.ob_syntax.specs.Expressions.{boolean}
use Rattle.ob_syntax.specs.Operators.{Outcome, is_true, combined}
use Rattle.ob_syntax.specs.declared.checked.ROp.{ROp}
use Rattle.ob_syntax.specs.declared.checked.ROp.TheVariants.{Mul, Div, Mod, Both, Add, Sub, Either}
use Rattle.ob_syntax.specs.declared.checked.ROp.TheVariants.{Equal, Unequal, Less, LessEqual}
use Rattle.ob_syntax.specs.declared.checked.ROp.TheVariants.{Greater, GreaterEqual}
use Rattle.ob_syntax.specs.declared.checked.Value.{Value}
use Rattle.ob_syntax.specs.declared.checked.Value.TheVariants.{Truth}
use Rattle.ob_mean.specs.Expressions.{Evaluation}
use Rattle.ob_mean.specs.Store.{Store}
use Rattle.ob_mean.specs.declared.store.LiveCall.{LiveCall}
use Rattle.vc_code.specs.Machine.{Activation, State, with_top}
use Rattle.vc_code.specs.Selected.{Vars}
use Rattle.vc_build.specs.Grow.{count, open_block, IsOpen, GrowsAt}
use Rattle.vc_build.specs.Runs.{Codes, Stands, RunsIn, SameBelow, Yields}
use Rattle.vc_build.proofs.Growth.{grows_at_on, grows_at_again}
use Rattle.vc_build.proofs.Steps.{same_on, rests, yields_after, runs_in_on, runs_in_earlier}
use Rattle.vc_expr.specs.Operators.{HasValue, IsBit, is_bitwise}
use Rattle.vc_expr.specs.Branches.{Enters, chosen}
use Rattle.vc_expr.specs.Choices.{decided, test_of, OpensChoice, Arrives, ClosesChoice}
use Rattle.vc_expr.specs.declared.choice.Choice.{Choice}
use Rattle.vc_expr.proofs.Choosing.{choice_arrives}
use Rattle.vc_expr.proofs.Operations.{same_fewer}
use Rattle.vc_select.specs.declared.target.Setting.{Setting}
use Rattle.vc_typed.specs.Typing.{Typing, is_of, binary_typing}
use Rattle.vc_select.specs.Selects.{Starts, Results, Selects, Tests, joined}
use Rattle.vc_select.proofs.Counting.{yields_at}
use Rattle.vc_select.proofs.Keeping.{starts_earlier, starts_on}
use Rattle.vc_select.proofs.Sides.{sides_good, boolean_sides, truth_bit}

ok_same : (a b : Value) → ◌≡◌ {A = Outcome} (Ok a) (Ok b) → a ≡ b
ok_same a b e = cc

-- what the operator gives is 0 or 1 where the right side does, if it is evaluated
bit_by : (b : Bool) (one other : Outcome) (z : Value) → (b ≡ true → one ≡ Ok z → IsBit z) →
    (b ≡ false → other ≡ Ok z → IsBit z) → (if b then one else other) ≡ Ok z → IsBit z
bit_by true one other z p q e = p refl e
bit_by false one other z p q e = q refl e

decided_bit : (b : Bool) (z : Value) → ◌≡◌ {A = Outcome} (Ok (Truth b)) (Ok z) → IsBit z
decided_bit b z e = subst IsBit (ok_same (Truth b) z e) (truth_bit b)

bitwise_good : (op : ROp) (left right : Typing) → is_bitwise op ≡ true →
    (binary_typing op left right).good ≡ true → (is_of boolean left && is_of boolean right) ≡ true
bitwise_good Both left right bitwise e = e
bitwise_good Either left right bitwise e = e
bitwise_good Equal left right bitwise e = absurd (cc)
bitwise_good Unequal left right bitwise e = absurd (cc)
bitwise_good Mul left right bitwise e = absurd (cc)
bitwise_good Div left right bitwise e = absurd (cc)
bitwise_good Mod left right bitwise e = absurd (cc)
bitwise_good Add left right bitwise e = absurd (cc)
bitwise_good Sub left right bitwise e = absurd (cc)
bitwise_good Less left right bitwise e = absurd (cc)
bitwise_good LessEqual left right bitwise e = absurd (cc)
bitwise_good Greater left right bitwise e = absurd (cc)
bitwise_good GreaterEqual left right bitwise e = absurd (cc)

module _ (op : ROp) (bitwise : is_bitwise op ≡ true) (g : Setting) (old m1 m2 m3 new : VProc)
    (from to v : ℕ) (choice : Choice) (left right : Typing) (e f : Evaluation) (o : IsOpen old from)
    (opens : OpensChoice op from old m1 choice) (p : Tests g m1 m2 from (test_of op choice) left e)
    (q : Selects g m2 m3 choice.right.0 to v right f) (closes : ClosesChoice to m3 new v choice)
  where
    apart_right : choice.behind.0 ≢ choice.right.0
    apart_right same = omega (arith, same, opens.right, opens.behind)

    old_m2 : GrowsAt from old m2
    old_m2 = grows_at_again old m1 m2 from opens.adds.grows p.grows

    m2_new : GrowsAt choice.right.0 m2 new
    m2_new = grows_at_on m2 m3 new choice.right.0 to q.extends.grows closes.grows q.extends.apart

    whole : GrowsAt from old new
    whole = grows_at_on old m2 new from choice.right.0 old_m2 m2_new
        (λ b lt off same. absurd (omega (arith, same, opens.right, lt)))

    right_block : block_of m2 choice.right.0 ≡ open_block (block_of old from).depth
    right_block = p.grows.others choice.right.0 (omega (arith, opens.right, opens.blocks))
        (λ same. absurd (omega (arith, same, opens.right, o.0))) ∙ opens.right_block

    pub choice_right_open : IsOpen m2 choice.right.0
    choice_right_open = (
      omega (arith, opens.right, opens.blocks, p.grows.grows.blocks),
      ap (λ b. b.end) right_block,
    )

    right_empty : length (code_of m2 choice.right.0) ≡ 0
    right_empty = ap (λ b. length b.code) right_block

    behind_m2 : choice.behind.0 < count m2
    behind_m2 = omega (arith, opens.behind, opens.blocks, p.grows.grows.blocks)

    behind_block : block_of new choice.behind.0 ≡ open_block (block_of old from).depth
    behind_block =
        m2_new.others choice.behind.0 behind_m2 apart_right
        ∙ p.grows.others choice.behind.0 (omega (arith, opens.behind, opens.blocks))
        (λ same. absurd (omega (arith, same, opens.behind, o.0)))
        ∙ opens.behind_block

    pub choice_behind_open : IsOpen new choice.behind.0
    choice_behind_open = (
      omega (arith, behind_m2, m2_new.grows.blocks),
      ap (λ b. b.end) behind_block,
    )

    behind_empty : length (code_of new choice.behind.0) ≡ 0
    behind_empty = ap (λ b. length b.code) behind_block

    abbrev t : ℕ
    t = choice.target.0

    target_m2 : t < length m2.vars
    target_m2 = omega (arith, opens.adds.named, p.grows.grows.vars)

    module _ (w : Codes) (calls : List LiveCall) (store : Store) (s : State Vars)
        (starts : Starts g w old new from calls store s)
        (good : (binary_typing op left right).good ≡ true) where
      goods : (left.good ≡ true) × (right.good ≡ true)
      goods = sides_good op left right good

      right_boolean : right.type_id ≡ boolean
      right_boolean = (boolean_sides left right (bitwise_good op left right bitwise good)).1

      m2_starts : Starts g w old m2 from calls store s
      m2_starts = starts_earlier g w old new from calls store s starts m2 m2_new.grows

      m1_runs : RunsIn w g.id.0 m1 s
      m1_runs = runs_in_earlier w g.id.0 m1 m2 s p.grows.grows m2_starts.runs

      module _ (c : Activation Vars) (stands : Stands m1 from c)
          (same : SameBelow (length old.vars) s.top c)
          (has : HasValue w g.id.0 t c (Truth (decided op))) where
        after_left : Yields w (with_top s c)
            (λ x d. Enters (chosen (test_of op choice) (is_true x)) (suc t) c d) (e calls store)
        after_left =
            yields_at w (with_top s c)
            (λ x d. Enters (chosen (test_of op choice) (is_true x)) (length m1.vars) c d)
            (λ x d. Enters (chosen (test_of op choice) (is_true x)) (suc t) c d) (e calls store)
            (p.means w calls store (with_top s c)
            (starts_on g w old new from calls store s starts (length old.vars) c starts.homes same
            m1 m2 from stands opens.adds.grows.grows.vars m2_new.grows) goods.0)
            (λ x d is enters. rests w (with_top s d)
            (λ k. Enters (chosen (test_of op choice) (is_true x)) (suc t) c k) refl
            (record {
              block = enters.block;
              index = enters.index;
              same =
                  same_fewer (suc t) (length m1.vars) c d (omega (arith, opens.adds.named))
                  enters.same;
            }))

        module _ (d : Activation Vars) (enters : Enters choice.right.0 (suc t) c d) where
          same_d : SameBelow (length old.vars) s.top d
          same_d = same_on (length old.vars) (suc t) s.top c d (omega (arith, opens.adds.above))
              same
              enters.same

          right_yields : Yields w (with_top s d)
              (Results w g.id.0 m3 to v (length m2.vars) d right.type_id) (f calls store)
          right_yields =
              q.means w calls store (with_top s d)
              (starts_on g w old new from calls store s starts (length old.vars) d starts.homes
              same_d
              m2 m3 choice.right.0 (record
              { block = enters.block; index = enters.index ∙ sym right_empty }) old_m2.grows.vars
              closes.grows.grows)
              goods.1

          right_bit : (x : Value) → f calls store ≡ Ok x → IsBit x
          right_bit x is = by_reach (f calls store) is right_yields
            where
              by_reach : (r : Outcome) → r ≡ Ok x →
                  Yields w (with_top s d) (Results w g.id.0 m3 to v (length m2.vars) d
                  right.type_id)
                  r → IsBit x
              by_reach (Ok z) at y = subst IsBit (ok_same z x at) (y.good.bit right_boolean)
              by_reach (Err trap) at y = absurd (cc)

          after_right : Yields w (with_top s d) (Arrives w g.id.0 choice t d) (f calls store)
          after_right =
              yields_at w (with_top s d) (Results w g.id.0 m3 to v (length m2.vars) d right.type_id)
              (Arrives w g.id.0 choice t d) (f calls store) right_yields
              (λ x k is res.
              let far : SameBelow (length old.vars) s.top k =
              same_on (length old.vars) (length m2.vars) s.top d k old_m2.grows.vars same_d
              res.gives.holds.same in
              let y = closes.means w g.id.0 (with_top s k) x
              (runs_in_on w g.id.0 (length old.vars) new s k far starts.runs)
              res.gives.holds.stands (record
              { fits = res.gives.fits; held = res.gives.holds.value }) in
              record {
                steps = y.steps;
                call = y.call;
                there = y.there;
                good = record {
                  enters = record {
                    block = y.good.enters.block;
                    index = y.good.enters.index;
                    same = same_on t t d k y.call (omega arith)
                        (same_fewer t (length m2.vars) d k (omega (arith, target_m2))
                        res.gives.holds.same) y.good.enters.same;
                  };
                  has = y.good.has;
                };
              })

        -- the right side is entered where the left one does not decide
        entered : (x : Value) → e calls store ≡ Ok x → chosen (test_of op choice) (is_true x) ≡
            choice.right.0 → (z : Value) → f calls store ≡ Ok z → IsBit z
        entered x is at z also = by_reach (e calls store) is after_left
          where
            by_reach : (r : Outcome) → r ≡ Ok x →
                Yields w (with_top s c) (λ y d. Enters (chosen (test_of op choice) (is_true y))
                (suc t) c d) r → IsBit z
            by_reach (Ok y) same_value reached =
                right_bit reached.call
                (record {
                  block = reached.good.block
                      ∙ ap (λ n. chosen (test_of op choice) (is_true n)) (ok_same y x same_value)
                      ∙ at;
                  index = reached.good.index;
                  same = reached.good.same;
                }) z also
            by_reach (Err trap) same_value reached = absurd (cc)

        value_bit : (z : Value) → combined op (e calls store) (f calls store) ≡ Ok z → IsBit z
        value_bit z is = by_op op refl bitwise (e calls store) refl is
          where
            by_op : (k : ROp) → k ≡ op → is_bitwise k ≡ true → (r : Outcome) → e calls store ≡ r →
                combined k r (f calls store) ≡ Ok z → IsBit z
            by_op Both same_op bits (Ok x) at whole_is =
                bit_by (is_true x) (f calls store) (Ok (Truth false)) z
                (λ b one. entered x at (ap (λ k. chosen (test_of k choice) (is_true x))
                (sym same_op)
                ∙ ap (λ h. if h then choice.right.0 else choice.behind.0) b) z one)
                (λ b other. decided_bit false z other) whole_is
            by_op Either same_op bits (Ok x) at whole_is =
                bit_by (is_true x) (Ok (Truth true)) (f calls store) z
                (λ b one. decided_bit true z one)
                (λ b other. entered x at
                (ap (λ k. chosen (test_of k choice) (is_true x)) (sym same_op)
                ∙ ap (λ h. if h then choice.behind.0 else choice.right.0) b) z other) whole_is
            by_op Both same_op bits (Err trap) at whole_is = absurd (cc)
            by_op Either same_op bits (Err trap) at whole_is = absurd (cc)
            by_op Equal same_op bits r at whole_is = absurd (cc)
            by_op Unequal same_op bits r at whole_is = absurd (cc)
            by_op Mul same_op bits r at whole_is = absurd (cc)
            by_op Div same_op bits r at whole_is = absurd (cc)
            by_op Mod same_op bits r at whole_is = absurd (cc)
            by_op Add same_op bits r at whole_is = absurd (cc)
            by_op Sub same_op bits r at whole_is = absurd (cc)
            by_op Less same_op bits r at whole_is = absurd (cc)
            by_op LessEqual same_op bits r at whole_is = absurd (cc)
            by_op Greater same_op bits r at whole_is = absurd (cc)
            by_op GreaterEqual same_op bits r at whole_is = absurd (cc)

        goes : Yields w (with_top s c)
            (Results w g.id.0 new choice.behind.0 t (length old.vars) s.top
            (binary_typing op left right).type_id) (joined op e f calls store)
        goes =
            yields_at w (with_top s c) (Arrives w g.id.0 choice (length old.vars) c)
            (Results w g.id.0 new choice.behind.0 t (length old.vars) s.top
            (binary_typing op left right).type_id) (combined op (e calls store) (f calls store))
            (choice_arrives w g.id.0 (length old.vars) choice (with_top s c) op (e calls store)
            (f calls store) bitwise has opens.adds.above after_left after_right)
            (λ z k is arrives.
            rests w (with_top s k) (Results w g.id.0 new choice.behind.0 t (length old.vars) s.top
            (binary_typing op left right).type_id z) refl (record {
              gives = record {
                fits = arrives.has.fits;
                holds = record {
                  stands = record {
                    block = arrives.enters.block;
                    index = arrives.enters.index
                        ∙ sym behind_empty;
                  };
                  same = same_on (length old.vars) (length old.vars) s.top c k (omega arith) same
                      arrives.enters.same;
                  value = arrives.has.held;
                };
              };
              bit = λ b. value_bit z is;
            }))

      all : Yields w s (Results w g.id.0 new choice.behind.0 t (length old.vars) s.top
          (binary_typing op left right).type_id) (joined op e f calls store)
      all =
          let y = opens.means w g.id.0 s m1_runs starts.stands in
          yields_after w s y.call y.steps y.there
          (Results w g.id.0 new choice.behind.0 t (length old.vars) s.top
          (binary_typing op left right).type_id) (joined op e f calls store)
          (goes y.call y.good.0 y.good.1 y.good.2)

    pub selects_choice : Selects g old new from choice.behind.0 t (binary_typing op left right)
        (joined op e f)
    selects_choice = record {
      extends = record {
        grows = whole;
        is_open = choice_behind_open;
        apart = λ b lt off same. absurd (omega (arith, same, opens.behind, lt));
      };
      means = all;
    }
