-- The last arm of an IF without ELSE, and the whole of such an IF.
use Rattle.std.proofs.Common.{◌≡◌, ◌≢◌, ℕ, ◌+◌, ◌*◌, ◌-◌, ◌<◌, ◌≤◌, Bool, true, false, List, []}
use Rattle.std.proofs.Common.{◌∷◌, ◌++◌, length, map, take, get_or, Result, Ok, Err, refl, sym, ap}
use Rattle.std.proofs.Common.{◌∙◌, subst, arith, append-nil, append_assoc}
use Rattle.std.specs.Prelude.{◌&&◌, if◌then◌else◌}
use Rattle.pra_list.proofs.Truths.{both_true}
use Rattle.pra_list.proofs.Choices.{and_true}
use Rattle.pra_base.specs.Code.{block_of}
use Rattle.pra_base.specs.declared.event.TrapKind.{TrapKind}
use Rattle.pra_base.specs.declared.ids.BlockId.{BlockId}
use Rattle.pra_base.specs.declared.code.End.TheVariants.{Jump}
use Rattle.pra_base.specs.declared.code.VProc.{VProc}
use Rattle.ob_syntax.specs.Expressions.{boolean}
use Rattle.ob_syntax.specs.Operators.{is_true}
use Rattle.ob_syntax.specs.WellFormed.{joined}
use Rattle.ob_syntax.specs.declared.checked.Checked.{Checked}
use Rattle.ob_syntax.specs.declared.checked.RArm.{RArm, out-RArm, fold_out-RArm}
use Rattle.ob_syntax.specs.declared.checked.RStmt.{RStmt}
use Rattle.ob_syntax.specs.declared.checked.RStmt.TheVariants as s
use Rattle.ob_mean.specs.Expressions.{value}
use Rattle.ob_mean.specs.Statements as mean
use Rattle.ob_mean.specs.Statements.{Around, Execution, Completion, Normal, Trapped, Going, Run}
use Rattle.ob_mean.specs.Statements.{Arm, then_do, with, in_turn, on_state, chosen, stmt_step}
use Rattle.ob_mean.specs.Statements.{arm_step, arm_of, exec, exec_all}
use Rattle.ob_mean.proofs.Equations.{exec-If}
use Rattle.vc_code.specs.Machine.{Activation, State, with_top}
use Rattle.vc_code.specs.Selected.{Vars, code_of}
use Rattle.vc_build.specs.Grow.{count, IsOpen, with_open_block, with_end, open_blocks, ClosesOne}
use Rattle.vc_build.specs.Grow.{HandsOn, Grows, GrowsAt}
use Rattle.vc_build.specs.Runs.{Codes}
use Rattle.vc_build.proofs.Growth.{grows_on, grows_at_on, grows_at_again, opened_grows, opened_kept}
use Rattle.vc_build.proofs.Growth.{opened_count, closed_grows}
use Rattle.vc_build.proofs.Open.{open_one, hands_to}
use Rattle.vc_expr.specs.Branches.{Enters}
use Rattle.vc_expr.specs.Branches as branches
use Rattle.vc_expr.specs.Counts.{AddsAtMost}
use Rattle.vc_expr.specs.Readable.{Entries}
use Rattle.vc_expr.proofs.Counting.{adds_none}
use Rattle.vc_expr.specs.declared.branch.Targets.{Targets}
use Rattle.vc_select.specs.declared.target.Setting.{Setting}
use Rattle.vc_select.specs.Amounts.{AddsForTest}
use Rattle.vc_select.specs.Certified.{IsReady, Closes, EndsReady}
use Rattle.vc_select.specs.Selects.{home_variables, Tests, Extends}
use Rattle.vc_select.specs.Targets.{above_setting}
use Rattle.vc_select.proofs.Nodes.{adds_both}
use Rattle.vc_select.proofs.Sides.{of_type}
use Rattle.vc_typed.specs.Nodes.{nodes_in_arm, nodes_in_stmt, nodes_in_all}
use Rattle.vc_typed.specs.TypedStatements.{all_true, is_typed_arm}
use Rattle.vc_typed.specs.Typing.{Typing, typing, is_of}
use Rattle.vc_typed.proofs.NodeEquations.{sum-last, nodes-If}
use Rattle.std.proofs.lemmas.List.{take_all, take_more, length-take-le, get_or-take}
use Rattle.vc_stmt.specs.Amounts.{AddsForStatements, AddsForArm, AddsForArms, nodes_in_arms}
use Rattle.vc_stmt.specs.Completes.{Completes}
use Rattle.vc_stmt.specs.Calls.{CallsFollow}
use Rattle.vc_stmt.specs.Depths.{depths_of_arms, end_depths}
use Rattle.vc_stmt.proofs.Depths.{arms_last}
use Rattle.vc_stmt.specs.Does.{Matches, Does}
use Rattle.vc_stmt.specs.Blocks.{Waits}
use Rattle.vc_stmt.specs.Arms.{Joins, Chooses, guarded, take_init}
use Rattle.vc_stmt.specs.Ready.{Proceeds, KeepsReady, KeepsReadyBeside, ClosesReadyBeside}
use Rattle.vc_stmt.specs.Ready.{ReadsHomes}
use Rattle.vc_stmt.specs.Sound.{addressed, lent_behind, is_sound, are_sound, is_sound_arm}
use Rattle.vc_stmt.specs.Sound.{are_sound_arms}
use Rattle.vc_stmt.proofs.Amounting.{arm_is}
use Rattle.vc_stmt.proofs.Completing.{completes_behind, completes_value, comes_here}
use Rattle.vc_stmt.proofs.Choosing.{joins_as, does_if}
use Rattle.vc_stmt.proofs.Entering.{with_homes, reads_on, homes_awaited, closes_on, Opens}
use Rattle.vc_stmt.proofs.Entering.{opens_beside, opened_closes, opened_from, opened_reads}
use Rattle.vc_stmt.proofs.Entering.{opened_ready, jumps_ready}
use Rattle.vc_stmt.proofs.Forms.{in_turn_body, sequence_done}
use Rattle.vc_stmt.proofs.Jumping.{matches_enters, completes_jumped}
use Rattle.vc_stmt.proofs.Matching.{starts_with, matches_at}
use Rattle.vc_stmt.proofs.Proceeding.{keeps_as, keeps_nothing}
use Rattle.vc_stmt.proofs.Sequences.{does_as}
use Rattle.vc_stmt.proofs.Sounds.{parted, sound_arm, sound_if}
use Rattle.vc_stmt.proofs.Waiting.{waits_open, waits_empty, waits_on, waits_first, waits_beside}

-- ---- what the last arm does

module _ (g : Setting) (old m2 m3 : VProc) (from to : ℕ) (behind holds : BlockId)
    (typing_is : Typing) (sound : Bool) (arm : Arm) (o : IsOpen old from)
    (waits : Waits old behind.0) (apart : behind.0 ≢ from) (real : behind.0 ≢ 0)
    (holds_is : holds.0 ≡ count old) where
  abbrev depth : ℕ
  depth = (block_of old from).depth

  abbrev opened : VProc
  opened = with_open_block depth old

  opened_from_it : GrowsAt from old opened
  opened_from_it = opened_grows depth old from

  from_kept : block_of opened from ≡ block_of old from
  from_kept = opened_kept depth old from o.0

  holds_opened : Waits opened holds.0
  holds_opened = subst (Waits opened) (sym holds_is) (waits_first depth old)

  behind_opened : Waits opened behind.0
  behind_opened = waits_beside depth old behind.0 waits

  abbrev targets : Targets
  targets = record { holds = holds; fails = behind }

  module _ (p : Tests g opened m2 from targets typing_is arm.0) where
    holds_tested : Waits m2 holds.0
    holds_tested = waits_on from opened m2 holds.0 p.grows
        (λ same. omega (arith, same, holds_is, o.0)) holds_opened

    behind_tested : Waits m2 behind.0
    behind_tested = waits_on from opened m2 behind.0 p.grows apart behind_opened

    pub last_holds_open : IsOpen m2 holds.0
    last_holds_open = waits_open m2 holds.0 holds_tested

    module _ (q : Does g m2 m3 holds.0 to sound (in_turn arm.1)) where
      abbrev arm_code : VProc
      arm_code = with_end to (Jump behind) m3

      out_grows : GrowsAt to m3 arm_code
      out_grows = closed_grows to (Jump behind) m3 q.extends.is_open

      rest_grows : GrowsAt holds.0 m2 arm_code
      rest_grows = grows_at_on m2 m3 arm_code holds.0 to q.extends.grows out_grows q.extends.apart

      whole_grows : GrowsAt from old arm_code
      whole_grows = grows_at_on old m2 arm_code from holds.0
          (grows_at_again old opened m2 from opened_from_it p.grows) rest_grows
          (λ b lt off same. omega (arith, same, lt, holds_is))

      module _ (w : Codes) (least : ℕ) (a : Around) (waiting : List Vars) (m : mean.State)
          (s : State Vars) (final : Grows arm_code (code_of w.procs g.id.0))
          (matches : Matches g w opened from a.calls waiting m s) (fine : sound ≡ true)
          (le : least ≤ a.turns) (follow : CallsFollow g.program.now w least a)
          (homes : home_variables g ≤ length old.vars) where
        abbrev R : mean.State → State Vars → Type 0
        R = Matches g w old behind.0 a.calls waiting

        branch : (c : Activation Vars) (b : Bool) → Enters (branches.chosen targets b)
            (length opened.vars) s.top c → Completes w (with_top s c) least R
            (if b then in_turn arm.1 a m else Normal m)
        branch c true enters =
            completes_behind w (with_top s c) least (Matches g w m3 to a.calls waiting) R
            (in_turn arm.1 a m)
            (q.means w least a waiting m (with_top s c)
            (grows_on m3 arm_code (code_of w.procs g.id.0) out_grows.grows final)
            (matches_enters g w opened from a.calls waiting m s matches (length opened.vars) c
            holds.0 m2 matches.starts.homes enters (waits_empty m2 holds.0 holds_tested)
            (omega (arith, matches.starts.homes, p.grows.grows.vars)))
            fine le follow)
            (λ after t there.
            completes_jumped g w m3 to a.calls waiting after t there behind q.extends.is_open real
            (omega (arith, behind_tested.within, q.extends.grows.grows.blocks)) final
            old 0 0 R (Normal after) (waits_empty old behind.0 waits) homes (omega arith)
            (comes_here w _ (R after)))
        branch c false enters =
            comes_here w (with_top s c) (R m)
            (matches_enters g w opened from a.calls waiting m s matches (length opened.vars) c
            behind.0 old matches.starts.homes enters (waits_empty old behind.0 waits) homes)

      pub joins_arm_last : Joins g old arm_code from behind.0 (is_of boolean typing_is && sound)
          (λ a m. guarded arm a m (Normal m))
      joins_arm_last = record {
        grows = whole_grows;
        means = λ w least a waiting m s final matches good le follow.
            let goods = and_true (is_of boolean typing_is) sound good in
            let at_opened = matches_at g w old from a.calls waiting m s matches opened from
            (record {
              block = matches.starts.stands.block;
              index = matches.starts.stands.index
                  ∙ sym (ap (λ z. length z.code) from_kept);
            })
            (omega (arith, matches.starts.homes, opened_from_it.grows.vars)) in
            completes_value w s least m
            (λ x c. Enters (branches.chosen targets (is_true x)) (length opened.vars) s.top c)
            (Matches g w old behind.0 a.calls waiting) (arm.0 a.calls m.store)
            (λ x. if is_true x then in_turn arm.1 a m else Normal m) matches.shows
            (p.means w a.calls m.store s
            (starts_with g w opened from a.calls waiting m s at_opened m2
            (grows_on m2 arm_code (code_of w.procs g.id.0) rest_grows.grows final))
            (of_type boolean typing_is goods.0).0)
            (λ x c enters. branch w least a waiting m s final at_opened goods.1 le follow
            matches.starts.homes c (is_true x) enters);
      }

-- as the walk has it
module _ (g : Setting) (old m1 : VProc) (from : ℕ) (behind holds : BlockId) (targets : Targets)
    (arm : RArm) (o : IsOpen old from) (waits : Waits old behind.0) (apart : behind.0 ≢ from)
    (real : behind.0 ≢ 0) (made : m1 ≡ with_open_block (block_of old from).depth old)
    (holds_is : holds.0 ≡ count old) (are : targets ≡ record { holds = holds; fails = behind })
  where
    abbrev test_typing : Typing
    test_typing = typing g.program.now g.id.0 (out-RArm arm).test

    abbrev body_sound : Bool
    body_sound = are_sound g.program.now g.id.0 (out-RArm arm).body

    abbrev arm_means : Arm
    arm_means = (
      value g.program.now (out-RArm arm).test,
      map (exec g.program.now) (out-RArm arm).body,
    )

    one_count : count m1 ≡ count old + 1
    one_count = ap count made ∙ opened_count (block_of old from).depth old

    pub last_holds : targets.holds.0 < count m1
    last_holds = subst (λ (z : Targets). z.holds.0 < count m1) (sym are)
        (omega (arith, holds_is, one_count))

    pub last_fails : targets.fails.0 < count m1
    last_fails = subst (λ (z : Targets). z.fails.0 < count m1) (sym are)
        (omega (arith, waits.within, one_count))

    module _ (m2 : VProc) (p : Tests g m1 m2 from targets test_typing arm_means.0) where
      tested : Tests g (with_open_block (block_of old from).depth old) m2 from
          (record { holds = holds; fails = behind }) test_typing arm_means.0
      tested = subst (λ (z : VProc). Tests g z m2 from (record { holds = holds; fails = behind })
          test_typing arm_means.0) made
          (subst (λ z. Tests g m1 m2 from z test_typing arm_means.0) are p)

      pub last_waits : IsOpen m2 holds.0
      last_waits = last_holds_open g old m2 m2 from 0 behind holds test_typing body_sound arm_means
          o
          waits apart real holds_is tested

      module _ (m3 new : VProc) (to : ℕ) (body : List RStmt) (same : body ≡ (out-RArm arm).body)
          (q : Does g m2 m3 holds.0 to (are_sound g.program.now g.id.0 body)
          (exec_all g.program.now body)) (left : new ≡ with_end to (Jump behind) m3) where
        body_does : Does g m2 m3 holds.0 to body_sound (in_turn arm_means.1)
        body_does = in_turn_body g m2 m3 holds.0 to (out-RArm arm).body
            (subst (λ z. Does g m2 m3 holds.0 to (are_sound g.program.now g.id.0 z)
            (exec_all g.program.now z)) same q)

        pub last_joins : Joins g old new from behind.0 (is_sound_arm g.program.now g.id.0 arm)
            (chosen (arm_of g.program.now arm ∷ []) [])
        last_joins =
            let is : arm_of g.program.now arm ≡ arm_means = fold_out-RArm Execution Arm
            (stmt_step g.program.now) (arm_step g.program.now) arm in
            let code = with_end to (Jump behind) m3 in
            subst (λ (z : VProc). Joins g old z from behind.0
            (is_sound_arm g.program.now g.id.0 arm)
            (chosen (arm_of g.program.now arm ∷ []) [])) (sym left)
            (joins_as g old code from behind.0 (is_of boolean test_typing && body_sound)
            (is_sound_arm g.program.now g.id.0 arm) (λ a m. guarded arm_means a m (Normal m))
            (chosen (arm_of g.program.now arm ∷ []) [])
            (sound_arm g.program.now g.id.0 arm)
            (λ a m. ap (λ (z : Arm). guarded z a m (Normal m)) is)
            (joins_arm_last g old m2 m3 from to behind holds test_typing body_sound arm_means o
            waits
            apart real holds_is tested body_does))

-- ---- how much is added, and how many blocks are open

pub last_adds : (n m k : ℕ) (old m1 m2 m3 new : VProc) → k ≡ 1 + n + m → 0 < n →
    AddsAtMost 0 0 0 1 old m1 → AddsForTest n m1 m2 → AddsForStatements m m2 m3 →
    AddsAtMost 0 0 0 0 m3 new → AddsForArm k old new
last_adds n m k old m1 m2 m3 new is p a b c d =
    adds_both (4 * n - 2) (3 * n - 2) (2 * n) (2 * n) (4 * m) (3 * m) (4 * m) (2 * m) (4 * k)
    (3 * k) (4 * k) (2 * k - 2) old m2 new (omega (arith, p, is)) (omega (arith, p, is))
    (omega (arith, p, is)) (omega (arith, p, is))
    (adds_both 0 0 0 1 (4 * n - 2) (3 * n - 2) (2 * n) (2 * n - 2) (4 * n - 2) (3 * n - 2) (2 * n)
    (2 * n) old m1 m2 (omega arith) (omega arith) (omega arith) (omega (arith, p)) a b)
    (adds_both (4 * m) (3 * m) (4 * m) (2 * m) 0 0 0 0 (4 * m) (3 * m) (4 * m) (2 * m) m2 m3 new
    (omega arith) (omega arith) (omega arith) (omega arith) c d)

pub closes_last : (depth holds to : ℕ) (old m1 m2 m3 new : VProc) → m1 ≡ with_open_block depth old →
    ClosesOne m1 m2 → HandsOn holds to m2 m3 → ClosesOne m3 new → ClosesOne old new
closes_last depth holds to old m1 m2 m3 new made test body left =
    record {
      one_less = omega (
        arith,
        ap open_blocks made,
        open_one depth old,
        test.one_less,
        body.as_many,
        left.one_less,
      );
    }

pub hands_alone : (from next behind depth : ℕ) (old m1 m2 new : VProc) → IsOpen old from →
    behind ≡ count old → m1 ≡ with_open_block depth old → HandsOn from next m1 m2 →
    ClosesOne m2 new → HandsOn from behind old new
hands_alone from next behind depth old m1 m2 new o number made arms last =
    hands_to from behind old new
    (omega (arith, ap open_blocks made, open_one depth old, arms.as_many, last.one_less))
    (λ is. omega (arith, is, number, o.0))

-- ---- what the last arm keeps

module _ (g : Setting) (old m1 m2 m3 new : VProc) (from to depth : ℕ) (behind holds : BlockId)
    (targets : Targets) (are : targets ≡ record { holds = holds; fails = behind })
    (o : IsOpen old from) (low : above_setting g ≤ length old.vars) (holds_is : holds.0 ≡ count old)
    (behind_there : behind.0 < count old) (behind_apart : behind.0 ≢ from)
    (behind_real : behind.0 ≢ 0)
    (made : m1 ≡ with_open_block depth old) (test : EndsReady g m1 m2 from targets)
    (test_grows : GrowsAt from m1 m2) (sound : Bool)
    (body : KeepsReady g m2 m3 holds.0 to sound) (e : Extends holds.0 to m2 m3)
    (left : new ≡ with_end to (Jump behind) m3) where
  opens : Opens from old m1
  opens = opens_beside from depth old m1 made

  count_one : count m1 ≡ count old + 1
  count_one = ap count made ∙ opened_count depth old

  vars_one : length m1.vars ≡ length old.vars
  vars_one = ap (λ l. length l) opens.vars

  test_it : EndsReady g m1 m2 from (record { holds = holds; fails = behind })
  test_it = subst (EndsReady g m1 m2 from) are test

  module _ (counts : List ℕ) (known : Entries) (r : IsReady g counts known old from)
      (behind_reads : ReadsHomes g known behind.0) where
    abbrev fresh : Entries
    fresh = with_homes g old m1 from o.0 low opens counts known r

    abbrev opening : Closes g counts known old m1 from
    opening = opened_closes g old m1 from o.0 low opens counts known r

    here : IsReady g counts fresh m1 from
    here = opened_from g old m1 from o.0 low opens counts known r

    reads_one : ReadsHomes g fresh behind.0
    reads_one = reads_on g known fresh old behind.0 opening.same behind_there behind_reads

    testing : Closes g counts fresh m1 m2 from
    testing = test_it.stays counts fresh here (omega (arith, holds_is, o.0))
        (omega (arith, behind_real))
        (homes_awaited g counts fresh m1 from holds.0 (omega (arith, low, vars_one)) here
        (opened_reads g old m1 from o.0 low opens counts known r holds.0
        (omega (arith, holds_is))))
        (homes_awaited g counts fresh m1 from behind.0 (omega (arith, low, vars_one)) here
        reads_one)

    holds_ready : IsReady g counts testing.next m2 holds.0
    holds_ready = testing.waiting holds.0 (omega (arith, holds_is, count_one))
        (λ same. omega (arith, same, holds_is, o.0))
        (opened_ready g old m1 from o.0 low opens counts known r holds.0 (omega (arith, holds_is)))

    reads_two : ReadsHomes g testing.next behind.0
    reads_two = reads_on g fresh testing.next m1 behind.0 testing.same
        (omega (arith, behind_there, count_one)) reads_one

    abbrev two : Closes g counts known old m2 from
    two = closes_on g counts known old m1 m2 from from opening testing (λ n lt off. off)
        (omega (arith, count_one))

    module _ (doing : Proceeds g counts testing.next m2 m3 holds.0 to) where
      leaving : Closes g counts doing.closes.next m3 new to
      leaving =
          jumps_ready g counts doing.closes.next m3 to behind e.is_open
          (omega (arith, low, vars_one, test_grows.grows.vars, e.grows.grows.vars)) doing.ready
          (reads_on g testing.next doing.closes.next m2 behind.0 doing.closes.same
          (omega (arith, behind_there, count_one, test_grows.grows.blocks)) reads_two)
          (omega (arith, behind_real))
          (omega (
            arith,
            behind_there,
            count_one,
            test_grows.grows.blocks,
            e.grows.grows.blocks,
          )) new left

      abbrev three : Closes g counts known old m3 from
      three = closes_on g counts known old m2 m3 from holds.0 two doing.closes
          (λ n lt off same. omega (arith, lt, same, holds_is))
          (omega (arith, count_one, test_grows.grows.blocks))

      last_closes : Closes g counts known old new from
      last_closes = closes_on g counts known old m3 new from to three leaving
          (λ n lt off. e.apart n (omega (arith, lt, count_one, test_grows.grows.blocks))
          (λ same. omega (arith, lt, same, holds_is)))
          (omega (arith, count_one, test_grows.grows.blocks, e.grows.grows.blocks))

  pub last_ready : (good both : Bool) → (both ≡ true → (good ≡ true) × (sound ≡ true)) →
      ClosesReadyBeside g old new from behind.0 both
  last_ready good both goods = record {
    stays = λ counts known is are_good r reads. last_closes counts known r reads
        (body.stays counts (testing counts known r reads).next is (goods are_good).1
        (holds_ready counts known r reads));
  }

-- ---- the whole of an IF without ELSE

-- what is asked of its arms
module _ (program : Checked) (proc : ℕ) where
  true_apart : (init : List RArm) (last : RArm) →
      all_true (map (is_typed_arm program proc) (init ++ last ∷ [])) ≡ true →
      (all_true (map (is_typed_arm program proc) init) ≡ true) ×
      (is_typed_arm program proc last ≡ true)
  true_apart [] last e = (refl, (and_true (is_typed_arm program proc last) true e).0)
  true_apart (arm ∷ init) last e =
      let both = and_true (is_typed_arm program proc arm)
      (all_true (map (is_typed_arm program proc) (init ++ last ∷ []))) e in
      let rest = true_apart init last both.1 in (
        both_true (is_typed_arm program proc arm) (all_true (map (is_typed_arm program proc) init))
            both.0 rest.0,
        rest.1,
      )

  lent_apart : (init : List RArm) (last : RArm) → joined (map lent_behind (init ++ last ∷ [])) ≡
      joined (map lent_behind init) ++ lent_behind last
  lent_apart [] last = append-nil (lent_behind last)
  lent_apart (arm ∷ init) last = ap (λ l. lent_behind arm ++ l) (lent_apart init last)
      ∙ sym (append_assoc (lent_behind arm) (joined (map lent_behind init)) (lent_behind last))

  pub arms_apart : (init : List RArm) (last : RArm) → are_sound_arms program proc
      (init ++ last ∷ []) ≡ true → (are_sound_arms program proc init ≡ true) ×
      (is_sound_arm program proc last ≡ true)
  arms_apart init last e =
      let both = and_true (all_true (map (is_typed_arm program proc) (init ++ last ∷ [])))
      (addressed program proc (joined (map lent_behind (init ++ last ∷ [])))) e in
      let typed = true_apart init last both.0 in
      let lent = parted program proc (joined (map lent_behind init)) (lent_behind last)
      (sym (ap (addressed program proc) (lent_apart init last)) ∙ both.1) in (
        both_true (all_true (map (is_typed_arm program proc) init))
            (addressed program proc (joined (map lent_behind init))) typed.0 lent.0,
        both_true (is_typed_arm program proc last) (addressed program proc (lent_behind last))
            typed.1 lent.1,
      )

arm_some : (arm : RArm) → 1 ≤ nodes_in_arm arm
arm_some arm = omega (arith, arm_is arm)

plus_none : (n : ℕ) → n + 0 ≡ n
plus_none n = omega arith

-- what they mean
then_normal : (x : Completion) (a : Around) → then_do x (in_turn [] a) ≡ x
then_normal (Normal m) a = refl
then_normal (Trapped trap m) a = refl
then_normal (Going m) a = refl

with_same : {A : Type 0} (r : Result A TrapKind) (m : mean.State) (f h : A → Completion) →
    ((x : A) → f x ≡ h x) → with r m f ≡ with r m h
with_same (Ok x) m f h same = same x
with_same (Err trap) m f h same = refl

means_apart : (program : Checked) (init : List RArm) (last : RArm) (a : Around) (m : mean.State) →
    chosen (map (arm_of program) (init ++ last ∷ [])) [] a m ≡ chosen (map (arm_of program) init)
    (chosen (arm_of program last ∷ []) [] ∷ []) a m
means_apart program [] last a m = sym (then_normal (chosen (arm_of program last ∷ []) [] a m) a)
means_apart program (arm ∷ init) last a m =
    let its = arm_of program arm in
    with_same (on_state its.0 a m) m
    (λ x. if is_true x then in_turn its.1 a m else chosen (map (arm_of program) (init ++ last ∷ []))
    [] a m)
    (λ x. if is_true x then in_turn its.1 a m else chosen (map (arm_of program) init)
    (chosen (arm_of program last ∷ []) [] ∷ []) a m)
    (λ x. ap (λ z. if is_true x then in_turn its.1 a m else z) (means_apart program init last a m))

module _ (g : Setting) (old m1 m2 new : VProc) (from next : ℕ) (behind : BlockId)
    (arms init : List RArm) (last : RArm) (arms_are : arms ≡ init ++ last ∷ [])
    (o : IsOpen old from) (made : m1 ≡ with_open_block (block_of old from).depth old)
    (number : behind.0 ≡ count old) where
  abbrev sounds : List RArm → Bool
  sounds = are_sound_arms g.program.now g.id.0

  abbrev sound_last : Bool
  sound_last = is_sound_arm g.program.now g.id.0 last

  goods : sounds arms ≡ true → (sounds init ≡ true) × (sound_last ≡ true)
  goods e = arms_apart g.program.now g.id.0 init last (sym (ap sounds arms_are) ∙ e)

  pub alone_does : Chooses g m1 m2 from next behind.0 (sounds init)
      (map (arm_of g.program.now) init) → Joins g m2 new next behind.0 sound_last
      (chosen (arm_of g.program.now last ∷ []) []) → Does g old new from behind.0 (sounds arms)
      (chosen (map (arm_of g.program.now) arms) [])
  alone_does p q =
      let h = chosen (arm_of g.program.now last ∷ []) [] in
      let turned : Joins g m2 new next behind.0 sound_last (in_turn (h ∷ [])) =
      joins_as g m2 new next behind.0 sound_last sound_last h (in_turn (h ∷ [])) (λ e. e)
      (λ a m. then_normal (h a m) a) q in
      let all = joins_as g m1 new from behind.0 (sounds init && sound_last) (sounds arms)
      (chosen (map (arm_of g.program.now) init) (h ∷ []))
      (chosen (map (arm_of g.program.now) arms) [])
      (λ e. let both = goods e in both_true (sounds init) sound_last both.0 both.1)
      (λ a m. ap (λ l. chosen (map (arm_of g.program.now) l) [] a m) arms_are
      ∙ means_apart g.program.now init last a m)
      (p.joins new sound_last (h ∷ []) turned) in
      does_if g old new from behind.0 (sounds arms) (chosen (map (arm_of g.program.now) arms) []) o
      number
      (subst (λ (z : VProc). Joins g z new from behind.0 (sounds arms)
      (chosen (map (arm_of g.program.now) arms) [])) made all)

  pub alone_adds : AddsAtMost 0 0 0 1 old m1 → AddsForArms init m1 m2 →
      AddsForArm (nodes_in_arm last) m2 new → AddsForStatements (nodes_in_arms arms) old new
  alone_adds a b c =
      let n = nodes_in_arms init in
      let k = nodes_in_arm last in
      let is : nodes_in_arms arms ≡ n + k = ap nodes_in_arms arms_are
      ∙ sum-last nodes_in_arm init last in
      let some : 1 ≤ k = arm_some last in
      subst (λ z. AddsForStatements z old new) (sym is)
      (adds_both (4 * n) (3 * n) (4 * n) (2 * n + 1) (4 * k) (3 * k) (4 * k) (2 * k - 2)
      (4 * (n + k)) (3 * (n + k)) (4 * (n + k)) (2 * (n + k)) old m2 new (omega arith)
      (omega arith) (omega arith) (omega (arith, some))
      (adds_both 0 0 0 1 (4 * n) (3 * n) (4 * n) (2 * n - 2 * length init) (4 * n) (3 * n) (4 * n)
      (2 * n + 1) old m1 m2 (omega arith) (omega arith) (omega arith) (omega arith) a b) c)

  pub alone_ready : (low : above_setting g ≤ length old.vars) →
      KeepsReadyBeside g m1 m2 from next behind.0 (sounds init) → Extends from next m1 m2 →
      ClosesReadyBeside g m2 new next behind.0 sound_last → GrowsAt next m2 new →
      KeepsReady g old new from behind.0 (sounds arms)
  alone_ready low p arms_extend q last_grows =
      let depth = (block_of old from).depth in
      let opens_it : Opens from old m1 = opens_beside from depth old m1 made in
      let count_is : count m1 ≡ count old + 1 = ap count made ∙ opened_count depth old in
      let behind_one : behind.0 < count m1 = omega (arith, number, count_is) in
      let behind_off : behind.0 ≢ from = λ same. omega (arith, same, number, o.0) in
      let behind_two : behind.0 < count m2 =
      omega (arith, behind_one, arms_extend.grows.grows.blocks) in
      let behind_next : behind.0 ≢ next = arms_extend.apart behind.0 behind_one behind_off in
      record {
        stays = λ counts known is are_good r.
            let fresh_one = with_homes g old m1 from o.0 low opens_it counts known r in
            let opening_it = opened_closes g old m1 from o.0 low opens_it counts known r in
            let reads = opened_reads g old m1 from o.0 low opens_it counts known r behind.0
            (omega (arith, number)) in
            let a = p.stays counts fresh_one is (goods are_good).0
            (opened_from g old m1 from o.0 low opens_it counts known r) reads in
            let b = q.stays counts a.closes.next is (goods are_good).1 a.ready
            (reads_on g fresh_one a.closes.next m1 behind.0 a.closes.same behind_one reads) in
            let closes_two = closes_on g counts known old m1 m2 from from opening_it a.closes
            (λ n lt off. off) (omega (arith, count_is)) in
            record {
              closes = closes_on g counts known old m2 new from next closes_two b
                  (λ n lt off. arms_extend.apart n (omega (arith, lt, count_is)) off)
                  (omega (arith, count_is, arms_extend.grows.grows.blocks));
              ready = b.waiting behind.0 behind_two behind_next
                  (a.closes.waiting behind.0 behind_one behind_off
                  (opened_ready g old m1 from o.0 low opens_it counts known r behind.0
                  (omega (arith, number))));
            };
      }

-- ---- as a statement

module _ (g : Setting) (t : RStmt) (arms arms' : List RArm) (other : List RStmt)
    (is : t ≡ s.If arms other) (none : other ≡ []) (arms_are : arms' ≡ arms) (old new : VProc)
    (from to : ℕ) where
  its_goods : is_sound g.program.now g.id.0 t ≡ true → are_sound_arms g.program.now g.id.0 arms' ≡
      true
  its_goods sound =
      let both = and_true (are_sound_arms g.program.now g.id.0 arms)
      (are_sound g.program.now g.id.0 other)
      (sound_if g.program.now g.id.0 t sound arms other is) in
      ap (are_sound_arms g.program.now g.id.0) arms_are ∙ both.0

  pub alone_statement : Does g old new from to (are_sound_arms g.program.now g.id.0 arms')
      (chosen (map (arm_of g.program.now) arms') []) →
      Does g old new from to (is_sound g.program.now g.id.0 t) (exec g.program.now t)
  alone_statement q =
      does_as g old new from to (are_sound_arms g.program.now g.id.0 arms')
      (is_sound g.program.now g.id.0 t) (chosen (map (arm_of g.program.now) arms') [])
      (exec g.program.now t) its_goods
      (λ a m. ap (λ z. exec g.program.now z a m) is ∙ exec-If g.program.now arms other a m
      ∙ ap (λ z. chosen (map (arm_of g.program.now) arms) (map (exec g.program.now) z) a m) none
      ∙ ap (λ z. chosen (map (arm_of g.program.now) z) [] a m) (sym arms_are)) q

  pub alone_counts : AddsForStatements (nodes_in_arms arms') old new →
      AddsForStatements (nodes_in_stmt t) old new
  alone_counts =
      subst (λ n. AddsForStatements n old new)
      (sym (ap nodes_in_stmt is ∙ nodes-If arms other
      ∙ ap (λ z. nodes_in_arms arms + nodes_in_all z) none ∙ plus_none (nodes_in_arms arms)
      ∙ ap nodes_in_arms (sym arms_are)))

  pub alone_keeps : KeepsReady g old new from to (are_sound_arms g.program.now g.id.0 arms') →
      KeepsReady g old new from to (is_sound g.program.now g.id.0 t)
  alone_keeps q = keeps_as g old new from to (are_sound_arms g.program.now g.id.0 arms')
      (is_sound g.program.now g.id.0 t) its_goods q

-- ---- no arm

module _ (g : Setting) (old : VProc) (at : ℕ) (arms : List RArm) (none : arms ≡ []) where
  pub nothing_does : IsOpen old at → Does g old old at at (are_sound_arms g.program.now g.id.0 arms)
      (chosen (map (arm_of g.program.now) arms) [])
  nothing_does o =
      does_as g old old at at (are_sound g.program.now g.id.0 [])
      (are_sound_arms g.program.now g.id.0 arms) (exec_all g.program.now [])
      (chosen (map (arm_of g.program.now) arms) [])
      (λ e. sym (ap (are_sound_arms g.program.now g.id.0) none) ∙ e)
      (λ a m. ap (λ l. chosen (map (arm_of g.program.now) l) [] a m) none)
      (sequence_done g old at [] 0 o (omega arith))

  pub nothing_counts : AddsForStatements (nodes_in_arms arms) old old
  nothing_counts = subst (λ l. AddsForStatements (nodes_in_arms l) old old) (sym none)
      (adds_none old)

  pub nothing_ready : KeepsReady g old old at at (are_sound_arms g.program.now g.id.0 arms)
  nothing_ready = keeps_nothing g old at (are_sound_arms g.program.now g.id.0 arms)

-- ---- the last of some arms

pub is_none : (arms : List RArm) → length arms < 1 → arms ≡ []
is_none [] lt = refl
is_none (arm ∷ arms) lt = absurd (omega (arith, lt))

-- an arm that is not the last
pub in_init : (arms : List RArm) (i left : ℕ) → left + i ≡ length arms → 2 ≤ left →
    i < length (take_init arms)
in_init arms i left all some =
    omega (arith, all, some, length-take-le (length arms - 1) arms (omega arith))

pub item_in : (arms : List RArm) (i left : ℕ) (arm : RArm) → left + i ≡ length arms → 2 ≤ left →
    arm ≡ get_or arms i arm → arm ≡ get_or (take_init arms) i arm
item_in arms i left arm all some is =
    is ∙ sym (get_or-take (length arms - 1) arms i arm (omega (arith, all, some)))

pub past_init : (arms : List RArm) (i left : ℕ) → left + i ≡ length arms → left < 2 →
    length (take_init arms) ≤ i
past_init arms i left all few =
    omega (arith, all, few, length-take-le (length arms - 1) arms (omega arith))

pub past_all : (arms : List RArm) (i : ℕ) → length arms ≤ i → length (take_init arms) ≤ i
past_all arms i past = omega (arith, past, length-take-le (length arms - 1) arms (omega arith))

pub is_last : (arms : List RArm) (last : RArm) → 1 ≤ length arms →
    last ≡ get_or arms (length arms - 1) last → arms ≡ take_init arms ++ last ∷ []
is_last arms last some is =
    let at : length arms - 1 < length arms = omega (arith, some) in
    let all : (length arms - 1) + 1 ≡ length arms = omega (arith, some) in
    sym (take_all ((length arms - 1) + 1) arms (omega (arith, all)))
    ∙ take_more arms (length arms - 1) last at ∙ ap (λ z. take (length arms - 1) arms ++ z ∷ [])
    (sym is)

pub arms_end : (arms init : List RArm) (last : RArm) (d : ℕ) → arms ≡ init ++ last ∷ [] →
    depths_of_arms arms d ≡ (depths_of_arms init d ++ end_depths last d) ++ d ∷ []
arms_end arms init last d is = ap (λ l. depths_of_arms l d) is ∙ arms_last init last d
