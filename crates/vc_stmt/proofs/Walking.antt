-- What the functions of the walk leave, by what their calls leave.
use Rattle.std.proofs.Common.{◌≡◌, ◌≢◌, ℕ, ◌+◌, ◌<◌, ◌≤◌, Bool, List, [], ◌∷◌, map, length, drop}
use Rattle.std.proofs.Common.{get_or, sym, ap, ◌∙◌, subst, arith}
use Rattle.std.specs.Prelude.{pos, None, ◌&&◌, slice_get}
use Rattle.std.proofs.lemmas.List.{drop_all}
use Rattle.pra_base.specs.Code.{block_of}
use Rattle.pra_base.specs.declared.ids.BlockId.{BlockId}
use Rattle.pra_base.specs.declared.ids.ProcId.{ProcId}
use Rattle.pra_base.specs.declared.ids.VarId.{VarId}
use Rattle.pra_base.specs.declared.code.Addr.{Addr}
use Rattle.pra_base.specs.declared.code.Base.TheVariants.{Via}
use Rattle.pra_base.specs.declared.code.End.TheVariants.{Jump}
use Rattle.pra_base.specs.declared.code.VarKind.TheVariants.{Plain}
use Rattle.pra_base.specs.declared.code.VInstr.TheVariants as instr
use Rattle.pra_base.specs.declared.code.VProc.{VProc}
use Rattle.ob_syntax.specs.Expressions.{boolean}
use Rattle.ob_syntax.specs.WellFormed.{lent_by}
use Rattle.ob_syntax.specs.declared.checked.RArg.{RArg}
use Rattle.ob_syntax.specs.declared.checked.RArm.{RArm, out-RArm}
use Rattle.ob_syntax.specs.declared.checked.RExpr.{RExpr}
use Rattle.ob_syntax.specs.declared.checked.RStmt.{RStmt, RStmt-F}
use Rattle.ob_syntax.specs.declared.checked.RStmt.TheVariants as s
use Rattle.ob_mean.specs.Expressions.{Evaluation, value}
use Rattle.ob_mean.specs.Statements.{Execution, Arm, stmt_step, arm_of, exec, exec_all}
use Rattle.vc_build.specs.Grow.{count, IsOpen, with_instr, with_variable, with_open_block, with_end}
use Rattle.vc_expr.specs.declared.branch.Targets.{Targets}
use Rattle.vc_select.specs.declared.target.Setting.{Setting}
use Rattle.vc_select.specs.declared.target.Target.{Target}
use Rattle.vc_select.specs.declared.target.Target.TheVariants.{Var, Memory}
use Rattle.vc_select.specs.Selects.{Tests}
use Rattle.vc_select.specs.Targets.{at_base}
use Rattle.vc_select.proofs.Arms.{next_item}
use Rattle.vc_typed.specs.TypedStatements.{is_call}
use Rattle.vc_typed.specs.Typing.{Typing, typing, is_of}
use Rattle.vc_stmt.specs.declared.blocks.Loop.{Loop}
use Rattle.vc_stmt.specs.Arms.{Guards, Chooses}
use Rattle.vc_stmt.specs.Blocks.{Waits, with_arm, with_loop}
use Rattle.vc_stmt.specs.Does.{Does}
use Rattle.vc_stmt.specs.Loops.{while_of, repeat_of}
use Rattle.vc_stmt.specs.Passes.{Lends, Passes, PassesAll, with_call}
use Rattle.vc_stmt.specs.Sound.{addressed, is_sound, are_sound, is_sound_arm, are_sound_arms}
use Rattle.vc_stmt.proofs.Addressing.{lends_variable, lends_itself, lends_address}
use Rattle.vc_stmt.proofs.Calling.{does_call}
use Rattle.vc_stmt.proofs.Choosing.{arm_from_open, arm_holds_within, arm_holds_open}
use Rattle.vc_stmt.proofs.Choosing.{arm_behind_waits}
use Rattle.vc_stmt.proofs.Forms.{in_turn_body, arm_guards, statement_if}
use Rattle.vc_stmt.proofs.Looping.{loop_count, loop_test_open, loop_body_open, while_body_open}
use Rattle.vc_stmt.proofs.Looping.{does_while, repeat_test_open, does_repeat}
use Rattle.vc_stmt.proofs.Passing.{passes_none, passes_more}
use Rattle.vc_stmt.proofs.Waiting.{waits_first}

-- a block is still there behind those of a loop
pub loop_room : (old m1 : VProc) (from depth : ℕ) → from < count old → m1 ≡ with_loop depth old →
    from < count m1
loop_room old m1 from depth lt is = subst (λ (z : VProc). from < count z) (sym is)
    (omega (arith, lt, loop_count depth old))

-- ---- calls

-- the address of a whole VAR parameter
pub own_address : (target : Target) (a : Addr) (u : VarId) → target ≡ Memory a →
    target ≡ at_base (Via u) → a ≡ record { base = Via u; offset = pos 0; index = None }
own_address target a u is own = same a (record { base = Via u; offset = pos 0; index = None })
    (sym is ∙ own)
  where
    same : (x y : Addr) → (let t : Target = Memory x in t ≡ Memory y) → x ≡ y
    same x y e = cc

module _ (g : Setting) where
  pub lend_variable_done : (old : VProc) (at : ℕ) (target : Target) (u : VarId) → target ≡ Var u →
      IsOpen old at → Lends g at old old target u.0
  lend_variable_done old at target u is o = subst (λ (t : Target). Lends g at old old t u.0)
      (sym is) (lends_variable g old at u o)

  pub lend_itself_done : (old : VProc) (at : ℕ) (target : Target) (a : Addr) (u : VarId) →
      target ≡ Memory a → a ≡ record { base = Via u; offset = pos 0; index = None } →
      IsOpen old at → Lends g at old old target u.0
  lend_itself_done old at target a u is whole o = subst (λ (t : Target). Lends g at old old t u.0)
      (sym (is ∙ ap Memory whole)) (lends_itself g old at u o)

  pub lend_address_done : (old new : VProc) (at : ℕ) (target : Target) (a : Addr) (t : VarId) →
      target ≡ Memory a → IsOpen old at → new ≡ with_instr at (instr.Addr t a)
      (with_variable Plain old) → t.0 ≡ length old.vars → Lends g at old new target t.0
  lend_address_done old new at target a t target_is o is number =
      subst (λ (x : Target). Lends g at old new x t.0) (sym target_is)
      (subst (λ (z : VProc). Lends g at old z (Memory a) t.0) (sym is)
      (lends_address g old at a t o number))

  pub arguments_done : (old : VProc) (at : ℕ) (all : List RArg) (i : ℕ) → IsOpen old at →
      length all ≤ i → PassesAll g old old at at [] (drop i all)
  arguments_done old at all i o past = subst (PassesAll g old old at at [])
      (sym (drop_all i all past)) (passes_none g old at o)

  pub arguments_more : (old mid new : VProc) (from between to : ℕ) (v : VarId) (vs : List VarId)
      (all : List RArg) (i : ℕ) (a : RArg) → i < length all → a ≡ get_or all i a →
      Passes g old mid from between v.0 a → v.0 < length mid.vars →
      PassesAll g mid new between to vs (drop (i + 1) all) →
      PassesAll g old new from to (v ∷ vs) (drop i all)
  arguments_more old mid new from between to v vs all i a lt is p named q =
      subst (PassesAll g old new from to (v ∷ vs)) (sym (next_item all i a lt is))
      (passes_more g old mid new from between to v vs a (drop (i + 1) all) p named q)

  pub call_done : (old mid new : VProc) (from to : ℕ) (p : ProcId) (vs ws : List VarId)
      (args : List RArg) → PassesAll g old mid from to vs args → ws ≡ vs →
      new ≡ with_call to p ws mid →
      Does g old new from to (is_call g.program.now g.id.0 (slice_get g.program.now.procs p.0)
      args && addressed g.program.now g.id.0 (lent_by args))
      (stmt_step g.program.now (RStmt-F.Call p args))
  call_done old mid new from to p vs ws args q same is =
      subst (λ (z : VProc). Does g old z from to
      (is_call g.program.now g.id.0 (slice_get g.program.now.procs p.0) args && addressed
      g.program.now g.id.0 (lent_by args)) (stmt_step g.program.now (RStmt-F.Call p args)))
      (sym (is ∙ ap (λ us. with_call to p us mid) same)) (does_call g old mid from to p vs args q)

  -- ---- loops

  module _ (old m1 m2 : VProc) (from : ℕ) (blocks : Loop) (test : RExpr) (body : List RStmt)
      (o : IsOpen old from) (behind_is : blocks.behind.0 ≡ count old)
      (body_is : blocks.body.0 ≡ count old + 1) (test_is : blocks.test.0 ≡ count old + 2)
      (opened : m1 ≡ with_loop (block_of old from).depth old) where
    abbrev tests : Typing
    tests = typing g.program.now g.id.0 test

    abbrev sound : Bool
    sound = are_sound g.program.now g.id.0 body

    abbrev condition : Evaluation
    condition = value g.program.now test

    abbrev doing : Execution
    doing = exec_all g.program.now body

    abbrev entered_by : BlockId → VProc
    entered_by first = with_end from (Jump first) (with_loop (block_of old from).depth old)

    -- ---- WHILE

    module _ (closed : m2 ≡ with_end from (Jump blocks.test) m1) where
      entered_is : m2 ≡ entered_by blocks.test
      entered_is = closed ∙ ap (with_end from (Jump blocks.test)) opened

      pub while_test_open : IsOpen m2 blocks.test.0
      while_test_open = subst (λ (z : VProc). IsOpen z blocks.test.0) (sym entered_is)
          (loop_test_open g old from blocks tests sound condition doing o behind_is body_is test_is
          blocks.test)

      pub while_holds : blocks.body.0 < count m2
      while_holds = subst (λ (z : VProc). blocks.body.0 < count z) (sym entered_is)
          (loop_body_open g old from blocks tests sound condition doing o behind_is body_is test_is
          blocks.test).0

      pub while_fails : blocks.behind.0 < count m2
      while_fails = omega (arith, while_holds, behind_is, body_is)

      module _ (m3 : VProc) (p : Tests g m2 m3 blocks.test.0
          (record { holds = blocks.body; fails = blocks.behind }) tests condition) where
        tested : Tests g (entered_by blocks.test) m3 blocks.test.0
            (record { holds = blocks.body; fails = blocks.behind }) tests condition
        tested = subst (λ (z : VProc). Tests g z m3 blocks.test.0
            (record { holds = blocks.body; fails = blocks.behind }) tests condition) entered_is p

        pub while_waits : IsOpen m3 blocks.body.0
        while_waits = while_body_open g old from blocks tests sound condition doing o behind_is
            body_is test_is m3 m3 0 tested

        pub while_done : (m4 new : VProc) (to : ℕ) → Does g m3 m4 blocks.body.0 to sound doing →
            new ≡ with_end to (Jump blocks.test) m4 → Does g old new from blocks.behind.0
            (is_of boolean tests && sound) (while_of condition doing)
        while_done m4 new to q is =
            subst (λ (z : VProc). Does g old z from blocks.behind.0 (is_of boolean tests && sound)
            (while_of condition doing)) (sym is)
            (does_while g old from blocks tests sound condition doing o behind_is body_is test_is m3
            m4 to tested q)

    -- ---- REPEAT

    module _ (closed : m2 ≡ with_end from (Jump blocks.body) m1) where
      repeat_is : m2 ≡ entered_by blocks.body
      repeat_is = closed ∙ ap (with_end from (Jump blocks.body)) opened

      pub repeat_body_open : IsOpen m2 blocks.body.0
      repeat_body_open = subst (λ (z : VProc). IsOpen z blocks.body.0) (sym repeat_is)
          (loop_body_open g old from blocks tests sound condition doing o behind_is body_is test_is
          blocks.body)

      module _ (m3 m4 : VProc) (to : ℕ) (q : Does g m2 m3 blocks.body.0 to sound doing)
          (left : m4 ≡ with_end to (Jump blocks.test) m3) where
        done_body : Does g (entered_by blocks.body) m3 blocks.body.0 to sound doing
        done_body = subst (λ (z : VProc). Does g z m3 blocks.body.0 to sound doing) repeat_is q

        pub repeat_waits : IsOpen m4 blocks.test.0
        repeat_waits = subst (λ (z : VProc). IsOpen z blocks.test.0) (sym left)
            (repeat_test_open g old from blocks tests sound condition doing o behind_is body_is
            test_is m3 to done_body)

        pub repeat_fails : blocks.body.0 < count m4
        repeat_fails = omega (arith, repeat_waits.0, body_is, test_is)

        pub repeat_holds : blocks.behind.0 < count m4
        repeat_holds = omega (arith, repeat_waits.0, behind_is, test_is)

        pub repeat_done : (new : VProc) → Tests g m4 new blocks.test.0
            (record { holds = blocks.behind; fails = blocks.body }) tests condition →
            Does g old new from blocks.behind.0 (sound && is_of boolean tests)
            (repeat_of doing condition)
        repeat_done new p =
            does_repeat g old from blocks tests sound condition doing o behind_is body_is test_is m3
            to done_body new
            (subst (λ (z : VProc). Tests g z new blocks.test.0
            (record { holds = blocks.behind; fails = blocks.body }) tests condition) left p)

  -- ---- IF

  module _ (old m1 : VProc) (from : ℕ) (behind : BlockId) (o : IsOpen old from)
      (opened : m1 ≡ with_open_block (block_of old from).depth old)
      (behind_is : behind.0 ≡ count old) where
    pub if_waits : Waits m1 behind.0
    if_waits = subst (λ (z : VProc). Waits z behind.0) (sym opened)
        (subst (Waits (with_open_block (block_of old from).depth old)) (sym behind_is)
        (waits_first (block_of old from).depth old))

    pub if_apart : behind.0 ≢ from
    if_apart same = omega (arith, same, behind_is, o.0)

    pub if_real : behind.0 ≢ 0
    if_real same = omega (arith, same, behind_is, o.0)

    pub if_done : (m2 m3 new : VProc) (next to : ℕ) (arms arms' : List RArm)
        (other other' : List RStmt) (t : RStmt) → t ≡ s.If arms other → arms' ≡ arms →
        other' ≡ other → Waits m2 behind.0 →
        Chooses g m1 m2 from next behind.0 (are_sound_arms g.program.now g.id.0 arms')
        (map (arm_of g.program.now) arms') →
        Does g m2 m3 next to (are_sound g.program.now g.id.0 other')
        (exec_all g.program.now other') → new ≡ with_end to (Jump behind) m3 →
        Does g old new from behind.0 (is_sound g.program.now g.id.0 t) (exec g.program.now t)
    if_done m2 m3 new next to arms arms' other other' t is arms_are other_is waits p q left =
        subst (λ (z : VProc). Does g old z from behind.0 (is_sound g.program.now g.id.0 t)
        (exec g.program.now t)) (sym left)
        (statement_if g old m2 m3 from next to behind arms other t is o behind_is waits if_real
        (subst (λ (z : VProc). Chooses g z m2 from next behind.0
        (are_sound_arms g.program.now g.id.0 arms) (map (arm_of g.program.now) arms)) opened
        (subst (λ z. Chooses g m1 m2 from next behind.0 (are_sound_arms g.program.now g.id.0 z)
        (map (arm_of g.program.now) z)) arms_are p))
        (subst (λ z. Does g m2 m3 next to (are_sound g.program.now g.id.0 z)
        (exec_all g.program.now z)) other_is q))

  -- ---- an arm

  module _ (old m1 : VProc) (from : ℕ) (behind : BlockId) (targets : Targets) (arm : RArm)
      (o : IsOpen old from) (waits : Waits old behind.0) (apart : behind.0 ≢ from)
      (real : behind.0 ≢ 0) (opened : m1 ≡ with_arm (block_of old from).depth old)
      (fails_is : targets.fails.0 ≡ count old) (holds_is : targets.holds.0 ≡ count old + 1) where
    abbrev arm_tests : Typing
    arm_tests = typing g.program.now g.id.0 (out-RArm arm).test

    abbrev arm_sound : Bool
    arm_sound = are_sound g.program.now g.id.0 (out-RArm arm).body

    abbrev its_arm : Arm
    its_arm = (
      value g.program.now (out-RArm arm).test,
      map (exec g.program.now) (out-RArm arm).body,
    )

    abbrev two_more : VProc
    two_more = with_arm (block_of old from).depth old

    pub arm_at_open : IsOpen m1 from
    arm_at_open = subst (λ (z : VProc). IsOpen z from) (sym opened)
        (arm_from_open g old two_more two_more from 0 behind targets.holds targets.fails arm_tests
        arm_sound its_arm o waits apart real fails_is holds_is)

    pub arm_holds : targets.holds.0 < count m1
    arm_holds = subst (λ (z : VProc). targets.holds.0 < count z) (sym opened)
        (arm_holds_within g old two_more two_more from 0 behind targets.holds targets.fails
        arm_tests arm_sound its_arm o waits apart real fails_is holds_is)

    pub arm_fails : targets.fails.0 < count m1
    arm_fails = omega (arith, arm_holds, fails_is, holds_is)

    module _ (m2 : VProc) (p : Tests g m1 m2 from targets arm_tests its_arm.0) where
      arm_tested : Tests g two_more m2 from targets arm_tests its_arm.0
      arm_tested = subst (λ (z : VProc). Tests g z m2 from targets arm_tests its_arm.0) opened p

      pub arm_waits : IsOpen m2 targets.holds.0
      arm_waits = arm_holds_open g old m2 m2 from 0 behind targets.holds targets.fails arm_tests
          arm_sound its_arm o waits apart real fails_is holds_is arm_tested

      module _ (m3 new : VProc) (to : ℕ) (body : List RStmt) (same : body ≡ (out-RArm arm).body)
          (q : Does g m2 m3 targets.holds.0 to (are_sound g.program.now g.id.0 body)
          (exec_all g.program.now body)) (left : new ≡ with_end to (Jump behind) m3) where
        its_body : Does g m2 m3 targets.holds.0 to arm_sound
            (exec_all g.program.now (out-RArm arm).body)
        its_body = subst (λ z. Does g m2 m3 targets.holds.0 to (are_sound g.program.now g.id.0 z)
            (exec_all g.program.now z)) same q

        pub arm_done : Guards g old new from targets.fails.0 behind.0
            (is_sound_arm g.program.now g.id.0 arm) (arm_of g.program.now arm)
        arm_done =
            subst (λ (z : VProc). Guards g old z from targets.fails.0 behind.0
            (is_sound_arm g.program.now g.id.0 arm) (arm_of g.program.now arm)) (sym left)
            (arm_guards g old m2 m3 from to behind targets arm o waits apart real fails_is holds_is
            arm_tested its_body)

        pub arm_open : IsOpen new targets.fails.0
        arm_open = arm_done.extends.is_open

        pub arm_behind : Waits new behind.0
        arm_behind = subst (λ (z : VProc). Waits z behind.0) (sym left)
            (arm_behind_waits g old m2 m3 from to behind targets.holds targets.fails arm_tests
            arm_sound its_arm o waits apart real fails_is holds_is arm_tested
            (in_turn_body g m2 m3 targets.holds.0 to (out-RArm arm).body its_body))

        pub arm_still_apart : behind.0 ≢ targets.fails.0
        arm_still_apart same_block = omega (arith, same_block, fails_is, waits.within)
