-- The blocks of a loop stand open, and its code does what the loop means: WHILE and REPEAT.
use Rattle.std.proofs.Common.{◌≡◌, ◌≢◌, ℕ, zero, suc, ◌+◌, ◌-◌, ◌<◌, ◌≤◌, Bool, true, false, List}
use Rattle.std.proofs.Common.{length, sym, ap, ◌∙◌, subst, arith}
use Rattle.std.specs.Prelude.{◌&&◌, if◌then◌else◌}
use Rattle.pra_list.proofs.Choices.{and_true}
use Rattle.pra_base.specs.Code.{block_of}
use Rattle.pra_base.specs.declared.ids.BlockId.{BlockId}
use Rattle.pra_base.specs.declared.code.End.TheVariants.{Jump}
use Rattle.pra_base.specs.declared.code.VProc.{VProc}
use Rattle.ob_syntax.specs.Expressions.{boolean}
use Rattle.ob_syntax.specs.Operators.{is_true}
use Rattle.ob_mean.specs.Expressions.{Evaluation}
use Rattle.ob_mean.specs.Statements as mean
use Rattle.ob_mean.specs.declared.store.LiveCall.{LiveCall}
use Rattle.ob_mean.specs.Statements.{Around, Execution, Completion, Normal, Going, Run, then_do}
use Rattle.ob_mean.specs.Statements.{with, on_state, while_turns, repeat_turns}
use Rattle.vc_code.specs.Machine.{Activation, State, with_top}
use Rattle.vc_code.specs.Selected.{Vars, code_of}
use Rattle.vc_build.specs.Grow.{count, IsOpen, with_open_block, with_end, Grows, GrowsAt}
use Rattle.vc_build.specs.Runs.{Codes}
use Rattle.vc_build.proofs.Growth.{grows_on, grows_at_on, grows_at_again, opened_grows, opened_kept}
use Rattle.vc_build.proofs.Growth.{opened_count, closed_grows}
use Rattle.vc_expr.specs.Branches.{Enters, chosen}
use Rattle.vc_expr.specs.declared.branch.Targets.{Targets}
use Rattle.vc_expr.proofs.Branching.{entered}
use Rattle.vc_select.specs.declared.target.Setting.{Setting}
use Rattle.vc_select.specs.Selects.{Tests, Extends, home_variables}
use Rattle.vc_select.proofs.Sides.{of_type}
use Rattle.vc_typed.specs.Typing.{Typing, is_of}
use Rattle.vc_stmt.specs.declared.blocks.Loop.{Loop}
use Rattle.vc_stmt.specs.Completes.{Completes}
use Rattle.vc_stmt.specs.Calls.{CallsFollow}
use Rattle.vc_stmt.specs.Does.{Matches, Does}
use Rattle.vc_stmt.specs.Blocks.{Waits, deeper, with_loop}
use Rattle.vc_stmt.specs.Loops.{while_of, repeat_of}
use Rattle.vc_stmt.proofs.Completing.{completes_fewer, completes_then, completes_value, comes_here}
use Rattle.vc_stmt.proofs.Matching.{starts_with, matches_at}
use Rattle.vc_stmt.proofs.Jumping.{matches_enters, completes_jumped}
use Rattle.vc_stmt.proofs.Waiting.{waits_open, waits_empty, waits_on, waits_first, waits_beside}

-- ---- the blocks of a loop

module _ (depth : ℕ) (old : VProc) where
  abbrev one : VProc
  one = with_open_block depth old

  abbrev two : VProc
  two = with_open_block (deeper depth) one

  pub loop_count : count (with_loop depth old) ≡ count old + 3
  loop_count = omega (
    arith,
    opened_count depth old,
    opened_count (deeper depth) one,
    opened_count (deeper depth) two,
  )

  pub loop_grows : (from : ℕ) → GrowsAt from old (with_loop depth old)
  loop_grows from =
      grows_at_again old two (with_loop depth old) from
      (grows_at_again old one two from (opened_grows depth old from)
      (opened_grows (deeper depth) one from))
      (opened_grows (deeper depth) two from)

  pub loop_behind : Waits (with_loop depth old) (count old)
  loop_behind = waits_beside (deeper depth) two (count old)
      (waits_beside (deeper depth) one (count old) (waits_first depth old))

  pub loop_body : Waits (with_loop depth old) (count old + 1)
  loop_body =
      subst (Waits (with_loop depth old)) (opened_count depth old)
      (waits_beside (deeper depth) two (count one) (waits_first (deeper depth) one))

  pub loop_test : Waits (with_loop depth old) (count old + 2)
  loop_test =
      let is : count two ≡ count old + 2 =
      omega (arith, opened_count depth old, opened_count (deeper depth) one) in
      subst (Waits (with_loop depth old)) is (waits_first (deeper depth) two)

  pub loop_kept : (b : ℕ) → b < count old → block_of (with_loop depth old) b ≡ block_of old b
  loop_kept b lt =
      opened_kept (deeper depth) two b
      (omega (arith, lt, opened_count depth old, opened_count (deeper depth) one))
      ∙ opened_kept (deeper depth) one b (omega (arith, lt, opened_count depth old))
      ∙ opened_kept depth old b lt

-- ---- less is asked of calls

pub follow_fewer : (g : Setting) (w : Codes) (least low : ℕ) (a : Around) → low ≤ least →
    CallsFollow g.program.now w least a → CallsFollow g.program.now w low a
follow_fewer g w least low a le follow =
    record {
      follows = λ p args c m s at. completes_fewer w s least low _ (a.call p args m) le
          (follow.follows p args c m s at);
    }

-- ---- a loop in a block

module _ (g : Setting) (old : VProc) (from : ℕ) (blocks : Loop) (typing : Typing) (typed : Bool)
    (e : Evaluation) (f : Execution) (o : IsOpen old from)
    (behind_is : blocks.behind.0 ≡ count old) (body_is : blocks.body.0 ≡ count old + 1)
    (test_is : blocks.test.0 ≡ count old + 2) where
  abbrev opened : VProc
  opened = with_loop (block_of old from).depth old

  opened_open : IsOpen opened from
  opened_open = (
    omega (arith, o.0, loop_count (block_of old from).depth old),
    ap (λ z. z.end) (loop_kept (block_of old from).depth old from o.0) ∙ o.1,
  )

  behind_opened : Waits opened blocks.behind.0
  behind_opened = subst (Waits opened) (sym behind_is) (loop_behind (block_of old from).depth old)

  body_opened : Waits opened blocks.body.0
  body_opened = subst (Waits opened) (sym body_is) (loop_body (block_of old from).depth old)

  test_opened : Waits opened blocks.test.0
  test_opened = subst (Waits opened) (sym test_is) (loop_test (block_of old from).depth old)

  behind_off : blocks.behind.0 ≢ from
  behind_off same = omega (arith, same, behind_is, o.0)

  body_off : blocks.body.0 ≢ from
  body_off same = omega (arith, same, body_is, o.0)

  test_off : blocks.test.0 ≢ from
  test_off same = omega (arith, same, test_is, o.0)

  body_real : blocks.body.0 ≢ 0
  body_real same = omega (arith, same, body_is)

  test_real : blocks.test.0 ≢ 0
  test_real same = omega (arith, same, test_is)

  homes_in_opened : length old.vars ≤ length opened.vars
  homes_in_opened = (loop_grows (block_of old from).depth old from).grows.vars

  opened_matches : (w : Codes) (calls : List LiveCall) (waiting : List Vars) (m : mean.State)
      (s : State Vars) → Matches g w old from calls waiting m s →
      Matches g w opened from calls waiting m s
  opened_matches w calls waiting m s matches =
      matches_at g w old from calls waiting m s matches opened from
      (record {
        block = matches.starts.stands.block;
        index = matches.starts.stands.index
            ∙ sym (ap (λ z. length z.code) (loop_kept (block_of old from).depth old from o.0));
      })
      (omega (arith, matches.starts.homes, homes_in_opened))

  -- the block from which the loop is entered is closed
  module _ (first : BlockId) where
    abbrev entered_by : VProc
    entered_by = with_end from (Jump first) opened

    enters_grows : GrowsAt from opened entered_by
    enters_grows = closed_grows from (Jump first) opened opened_open

    old_entered : GrowsAt from old entered_by
    old_entered = grows_at_again old opened entered_by from
        (loop_grows (block_of old from).depth old from) enters_grows

    behind_entered : Waits entered_by blocks.behind.0
    behind_entered = waits_on from opened entered_by blocks.behind.0 enters_grows behind_off
        behind_opened

    body_entered : Waits entered_by blocks.body.0
    body_entered = waits_on from opened entered_by blocks.body.0 enters_grows body_off body_opened

    pub test_entered : Waits entered_by blocks.test.0
    test_entered = waits_on from opened entered_by blocks.test.0 enters_grows test_off test_opened

    pub loop_test_open : IsOpen entered_by blocks.test.0
    loop_test_open = waits_open entered_by blocks.test.0 test_entered

    pub loop_body_open : IsOpen entered_by blocks.body.0
    loop_body_open = waits_open entered_by blocks.body.0 body_entered

  -- ---- WHILE

  abbrev while_targets : Targets
  while_targets = record { holds = blocks.body; fails = blocks.behind }

  module _ (m2 m3 : VProc) (to : ℕ)
      (p : Tests g (entered_by blocks.test) m2 blocks.test.0 while_targets typing e) where
    body_apart : blocks.body.0 ≢ blocks.test.0
    body_apart same = omega (arith, same, body_is, test_is)

    behind_apart : blocks.behind.0 ≢ blocks.test.0
    behind_apart same = omega (arith, same, behind_is, test_is)

    body_tested : Waits m2 blocks.body.0
    body_tested = waits_on blocks.test.0 (entered_by blocks.test) m2 blocks.body.0 p.grows
        body_apart (body_entered blocks.test)

    behind_tested : Waits m2 blocks.behind.0
    behind_tested = waits_on blocks.test.0 (entered_by blocks.test) m2 blocks.behind.0 p.grows
        behind_apart (behind_entered blocks.test)

    pub while_body_open : IsOpen m2 blocks.body.0
    while_body_open = waits_open m2 blocks.body.0 body_tested

    module _ (q : Does g m2 m3 blocks.body.0 to typed f) where
      abbrev new : VProc
      new = with_end to (Jump blocks.test) m3

      back_grows : GrowsAt to m3 new
      back_grows = closed_grows to (Jump blocks.test) m3 q.extends.is_open

      rest_grows : GrowsAt blocks.body.0 m2 new
      rest_grows = grows_at_on m2 m3 new blocks.body.0 to q.extends.grows back_grows q.extends.apart

      while_grows : GrowsAt from old new
      while_grows =
          grows_at_on old m2 new from blocks.body.0
          (grows_at_on old (entered_by blocks.test) m2 from blocks.test.0 (old_entered blocks.test)
          p.grows (λ b lt off same. omega (arith, same, lt, test_is)))
          rest_grows (λ b lt off same. omega (arith, same, lt, body_is))

      behind_new : Waits new blocks.behind.0
      behind_new = waits_on blocks.body.0 m2 new blocks.behind.0 rest_grows
          (λ same. omega (arith, same, behind_is, body_is)) behind_tested

      while_extends : Extends from blocks.behind.0 old new
      while_extends = record {
        grows = while_grows;
        is_open =
            waits_open new blocks.behind.0 behind_new;
        apart =
            λ b lt off same. omega (arith, same, lt, behind_is);
      }

      module _ (w : Codes) (a : Around) (waiting : List Vars)
          (final : Grows new (code_of w.procs g.id.0)) (good : typing.good ≡ true)
          (fine : typed ≡ true) where
        abbrev R : mean.State → State Vars → Type 0
        R = Matches g w new blocks.behind.0 a.calls waiting

        abbrev Loops : ℕ → Type 0
        Loops n = (least : ℕ) (m : mean.State) (s : State Vars) → least ≤ n → least ≤ a.turns →
            CallsFollow g.program.now w least a → Matches g w (entered_by blocks.test) blocks.test.0
            a.calls waiting m s →
            Completes w s least R (while_turns n (on_state e a) (f a) m)

        m3_final : Grows m3 (code_of w.procs g.id.0)
        m3_final = grows_on m3 new (code_of w.procs g.id.0) back_grows.grows final

        m2_final : Grows m2 (code_of w.procs g.id.0)
        m2_final = grows_on m2 new (code_of w.procs g.id.0) rest_grows.grows final

        -- behind the test
        turn : (n : ℕ) → Loops n → (least : ℕ) (m : mean.State) (s : State Vars) → least ≤ suc n →
            least ≤ a.turns → CallsFollow g.program.now w least a →
            Matches g w (entered_by blocks.test) blocks.test.0 a.calls waiting m s →
            (c : Activation Vars) (b : Bool) → Enters (chosen while_targets b)
            (length (entered_by blocks.test).vars) s.top c →
            Completes w (with_top s c) least R
            (if b then then_do (f a m) (while_turns n (on_state e a) (f a)) else Normal m)
        turn n go least m s le lt follow matches c false enters =
            comes_here w (with_top s c) (R m)
            (matches_enters g w (entered_by blocks.test) blocks.test.0 a.calls waiting m s matches
            (length (entered_by blocks.test).vars) c blocks.behind.0 new matches.starts.homes
            enters
            (waits_empty new blocks.behind.0 behind_new)
            (omega (arith, matches.starts.homes, p.grows.grows.vars, rest_grows.grows.vars)))
        turn n go least m s le lt follow matches c true enters =
            completes_then w (with_top s c) least (Matches g w m3 to a.calls waiting) R (f a m)
            (while_turns n (on_state e a) (f a))
            (q.means w least a waiting m (with_top s c) m3_final
            (matches_enters g w (entered_by blocks.test) blocks.test.0 a.calls waiting m s matches
            (length (entered_by blocks.test).vars) c blocks.body.0 m2 matches.starts.homes
            enters
            (waits_empty m2 blocks.body.0 body_tested)
            (omega (arith, matches.starts.homes, p.grows.grows.vars)))
            fine lt follow)
            (λ after t there.
            completes_jumped g w m3 to a.calls waiting after t there blocks.test q.extends.is_open
            test_real (omega (
              arith,
              (test_entered blocks.test).within,
              p.grows.grows.blocks,
              q.extends.grows.grows.blocks,
            )) final
            (entered_by blocks.test) least (least - 1) R (while_turns n (on_state e a) (f a) after)
            (waits_empty (entered_by blocks.test) blocks.test.0 (test_entered blocks.test))
            matches.starts.homes (omega arith)
            (go (least - 1) after (with_top t (entered t.top blocks.test.0)) (omega (arith, le))
            (omega (arith, lt)) (follow_fewer g w least (least - 1) a (omega arith) follow)))

        loops : (n : ℕ) → Loops n
        loops zero least m s le lt follow matches =
            record {
              steps = 0;
              enough = le;
              good =
                  record { over = matches.starts.runs.going; shows = matches.shows };
            }
        loops (suc n) least m s le lt follow matches =
            completes_value w s least m
            (λ x c. Enters (chosen while_targets (is_true x))
            (length (entered_by blocks.test).vars) s.top c) R (e a.calls m.store)
            (λ x. if is_true x then then_do (f a m) (while_turns n (on_state e a) (f a)) else Normal
            m) matches.shows
            (p.means w a.calls m.store s
            (starts_with g w (entered_by blocks.test) blocks.test.0 a.calls waiting m s matches
            m2 m2_final) good)
            (λ x c enters. turn n (loops n) least m s le lt follow matches c (is_true x) enters)

      pub does_while : Does g old new from blocks.behind.0 (is_of boolean typing && typed)
          (while_of e f)
      does_while = record {
        extends = while_extends;
        means = λ w least a waiting m s final matches fine le follow.
            let both = and_true (is_of boolean typing) typed fine in
            completes_jumped g w opened from a.calls waiting m s
            (opened_matches w a.calls waiting m s matches) blocks.test opened_open test_real
            test_opened.within
            (grows_on (entered_by blocks.test) m2 (code_of w.procs g.id.0) p.grows.grows
            (m2_final w a waiting final (of_type boolean typing both.0).0 both.1))
            (entered_by blocks.test) least least (Matches g w new blocks.behind.0 a.calls waiting)
            (while_of e f a m)
            (waits_empty (entered_by blocks.test) blocks.test.0 (test_entered blocks.test))
            (omega (arith, matches.starts.homes, homes_in_opened)) (omega arith)
            (loops w a waiting final (of_type boolean typing both.0).0 both.1 a.turns least m
            (with_top s (entered s.top blocks.test.0)) le le follow);
      }

  -- ---- REPEAT

  abbrev repeat_targets : Targets
  repeat_targets = record { holds = blocks.behind; fails = blocks.body }

  module _ (m2 : VProc) (to : ℕ) (q : Does g (entered_by blocks.body) m2 blocks.body.0 to typed f)
    where
      abbrev m3 : VProc
      m3 = with_end to (Jump blocks.test) m2

      on_grows : GrowsAt to m2 m3
      on_grows = closed_grows to (Jump blocks.test) m2 q.extends.is_open

      to_apart : (b : ℕ) → b < count (entered_by blocks.body) → b ≢ blocks.body.0 → b ≢ to
      to_apart = q.extends.apart

      body_grows : GrowsAt blocks.body.0 (entered_by blocks.body) m3
      body_grows = grows_at_on (entered_by blocks.body) m2 m3 blocks.body.0 to q.extends.grows
          on_grows to_apart

      test_m3 : Waits m3 blocks.test.0
      test_m3 = waits_on blocks.body.0 (entered_by blocks.body) m3 blocks.test.0 body_grows
          (λ same. omega (arith, same, test_is, body_is)) (test_entered blocks.body)

      behind_m3 : Waits m3 blocks.behind.0
      behind_m3 = waits_on blocks.body.0 (entered_by blocks.body) m3 blocks.behind.0 body_grows
          (λ same. omega (arith, same, behind_is, body_is)) (behind_entered blocks.body)

      pub repeat_test_open : IsOpen m3 blocks.test.0
      repeat_test_open = waits_open m3 blocks.test.0 test_m3

      module _ (new : VProc) (p : Tests g m3 new blocks.test.0 repeat_targets typing e) where
        behind_repeated : Waits new blocks.behind.0
        behind_repeated = waits_on blocks.test.0 m3 new blocks.behind.0 p.grows
            (λ same. omega (arith, same, behind_is, test_is)) behind_m3

        repeat_extends : Extends from blocks.behind.0 old new
        repeat_extends = record {
          grows =
              grows_at_on old m3 new from blocks.test.0
              (grows_at_on old (entered_by blocks.body) m3 from blocks.body.0
              (old_entered blocks.body) body_grows
              (λ b lt off same. omega (arith, same, lt, body_is)))
              p.grows (λ b lt off same. omega (arith, same, lt, test_is));
          is_open = waits_open new blocks.behind.0 behind_repeated;
          apart = λ b lt off same. omega (arith, same, lt, behind_is);
        }

        module _ (w : Codes) (a : Around) (waiting : List Vars)
            (final : Grows new (code_of w.procs g.id.0)) (good : typing.good ≡ true)
            (fine : typed ≡ true) (homes : home_variables g ≤ length (entered_by blocks.body).vars)
          where
            abbrev S : mean.State → State Vars → Type 0
            S = Matches g w new blocks.behind.0 a.calls waiting

            abbrev Again : ℕ → Type 0
            Again n = (least : ℕ) (m : mean.State) (s : State Vars) → least ≤ n → least ≤ a.turns →
                CallsFollow g.program.now w least a →
                Matches g w (entered_by blocks.body) blocks.body.0
                a.calls waiting m s →
                Completes w s least S (repeat_turns n (f a) (on_state e a) m)

            m3_holds : Grows m3 (code_of w.procs g.id.0)
            m3_holds = grows_on m3 new (code_of w.procs g.id.0) p.grows.grows final

            -- behind the test
            repeat_turn : (n : ℕ) → Again n → (low : ℕ) (m : mean.State) (s : State Vars) →
                low ≤ n →
                low ≤ a.turns → CallsFollow g.program.now w low a →
                Matches g w m3 blocks.test.0 a.calls waiting m s →
                (c : Activation Vars) (b : Bool) → Enters (chosen repeat_targets b) (length m3.vars)
                s.top c →
                Completes w (with_top s c) low S
                (if b then Normal m else repeat_turns n (f a) (on_state e a) m)
            repeat_turn n go low m s le lt follow matches c true enters =
                comes_here w (with_top s c) (S m)
                (matches_enters g w m3 blocks.test.0 a.calls waiting m s matches (length m3.vars) c
                blocks.behind.0 new matches.starts.homes enters
                (waits_empty new blocks.behind.0 behind_repeated)
                (omega (arith, matches.starts.homes, p.grows.grows.vars)))
            repeat_turn n go low m s le lt follow matches c false enters =
                go low m (with_top s c) le lt follow
                (matches_enters g w m3 blocks.test.0 a.calls waiting m s matches (length m3.vars) c
                blocks.body.0 (entered_by blocks.body) matches.starts.homes enters
                (waits_empty (entered_by blocks.body) blocks.body.0 (body_entered blocks.body))
                homes)

            again : (n : ℕ) → Again n
            again zero least m s le lt follow matches =
                record {
                  steps = 0;
                  enough = le;
                  good =
                      record { over = matches.starts.runs.going; shows = matches.shows };
                }
            again (suc n) least m s le lt follow matches =
                completes_then w s least (Matches g w m2 to a.calls waiting) S (f a m)
                (λ t. with (on_state e a t) t
                (λ x. if is_true x then Normal t else repeat_turns n (f a) (on_state e a) t))
                (q.means w least a waiting m s
                (grows_on m2 m3 (code_of w.procs g.id.0) on_grows.grows m3_holds) matches fine lt
                follow)
                (λ after t there.
                completes_jumped g w m2 to a.calls waiting after t there blocks.test
                q.extends.is_open
                test_real (omega (
                  arith,
                  (test_entered blocks.body).within,
                  q.extends.grows.grows.blocks,
                )) m3_holds
                m3 least (least - 1) S (with (on_state e a after) after
                (λ x. if is_true x then Normal after else repeat_turns n (f a) (on_state e a)
                after))
                (waits_empty m3 blocks.test.0 test_m3) there.starts.homes (omega arith)
                (λ at_test.
                completes_value w (with_top t (entered t.top blocks.test.0)) (least - 1) after
                (λ x c. Enters (chosen repeat_targets (is_true x)) (length m3.vars)
                (entered t.top blocks.test.0) c) S (e a.calls after.store)
                (λ x. if is_true x then Normal after else repeat_turns n (f a) (on_state e a) after)
                at_test.shows
                (p.means w a.calls after.store (with_top t (entered t.top blocks.test.0))
                (starts_with g w m3 blocks.test.0 a.calls waiting after
                (with_top t (entered t.top blocks.test.0)) at_test new final) good)
                (λ x c enters.
                repeat_turn n (again n) (least - 1) after (with_top t (entered t.top blocks.test.0))
                (omega (arith, le)) (omega (arith, lt))
                (follow_fewer g w least (least - 1) a (omega arith) follow) at_test c
                (is_true x) enters)))

        pub does_repeat : Does g old new from blocks.behind.0 (typed && is_of boolean typing)
            (repeat_of f e)
        does_repeat = record {
          extends = repeat_extends;
          means = λ w least a waiting m s final matches fine le follow.
              let both = and_true typed (is_of boolean typing) fine in
              let body_holds = grows_on (entered_by blocks.body) m3 (code_of w.procs g.id.0)
              body_grows.grows (grows_on m3 new (code_of w.procs g.id.0) p.grows.grows final) in
              completes_jumped g w opened from a.calls waiting m s
              (opened_matches w a.calls waiting m s matches) blocks.body opened_open body_real
              body_opened.within body_holds
              (entered_by blocks.body) least least (Matches g w new blocks.behind.0 a.calls waiting)
              (repeat_of f e a m)
              (waits_empty (entered_by blocks.body) blocks.body.0 (body_entered blocks.body))
              (omega (arith, matches.starts.homes, homes_in_opened)) (omega arith)
              (again w a waiting final (of_type boolean typing both.1).0 both.0
              (omega (arith, matches.starts.homes, homes_in_opened)) a.turns least m
              (with_top s (entered s.top blocks.body.0)) le le follow);
        }
