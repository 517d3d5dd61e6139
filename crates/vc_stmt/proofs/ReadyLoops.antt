-- Code of loops keeps the rules and a certificate.
use Rattle.std.proofs.Common.{◌≡◌, ◌≢◌, ℕ, ◌+◌, ◌<◌, ◌≤◌, Bool, true, List, length, ap, ◌∙◌, arith}
use Rattle.pra_base.specs.declared.ids.BlockId.{BlockId}
use Rattle.pra_base.specs.declared.code.End.TheVariants.{Jump}
use Rattle.pra_base.specs.declared.code.VProc.{VProc}
use Rattle.vc_build.specs.Grow.{count, IsOpen, with_end, GrowsAt}
use Rattle.vc_build.proofs.Growth.{closed_count}
use Rattle.vc_expr.specs.Readable.{Entries}
use Rattle.vc_select.specs.declared.target.Setting.{Setting}
use Rattle.vc_select.specs.Selects.{Extends}
use Rattle.vc_select.specs.Targets.{above_setting}
use Rattle.vc_select.specs.Certified.{IsReady, Closes, EndsReady}
use Rattle.vc_stmt.specs.declared.blocks.Loop.{Loop}
use Rattle.vc_stmt.specs.Blocks.{with_loop}
use Rattle.vc_stmt.specs.Ready.{Proceeds, KeepsReady, ReadsHomes}
use Rattle.vc_stmt.proofs.Entering.{with_homes, reads_on, homes_awaited, closes_on, Opens}
use Rattle.vc_stmt.proofs.Entering.{opens_loop, opened_closes, opened_from, opened_reads}
use Rattle.vc_stmt.proofs.Entering.{opened_ready, jumps_ready}
use Rattle.vc_stmt.proofs.Looping.{loop_count}

-- a jump adds no block, and no variable
jump_count : (at : ℕ) (target : BlockId) (old new : VProc) → IsOpen old at →
    new ≡ with_end at (Jump target) old → count new ≡ count old
jump_count at target old new o is = ap count is ∙ closed_count at (Jump target) old o

jump_vars : (at : ℕ) (target : BlockId) (old new : VProc) → new ≡ with_end at (Jump target) old →
    length new.vars ≡ length old.vars
jump_vars at target old new is = ap (λ (z : VProc). length z.vars) is

-- ---- blocks are opened, and the block before them jumps to one of them

module _ (g : Setting) (old m1 m2 : VProc) (from depth : ℕ) (begin : BlockId) (o : IsOpen old from)
    (low : above_setting g ≤ length old.vars) (opened : m1 ≡ with_loop depth old)
    (entered : m2 ≡ with_end from (Jump begin) m1) (is_new : count old ≤ begin.0)
    (is_there : begin.0 < count old + 3) where
  pub opens : Opens from old m1
  opens = opens_loop from depth old m1 opened

  pub still_open : IsOpen m1 from
  still_open = opens.is_open from o

  pub count_one : count m1 ≡ count old + 3
  count_one = ap count opened ∙ loop_count depth old

  pub vars_one : length m1.vars ≡ length old.vars
  vars_one = ap (λ l. length l) opens.vars

  pub count_two : count m2 ≡ count old + 3
  count_two = jump_count from begin m1 m2 still_open entered ∙ count_one

  pub vars_two : length m2.vars ≡ length old.vars
  vars_two = jump_vars from begin m1 m2 entered ∙ vars_one

  module _ (counts : List ℕ) (known : Entries) (r : IsReady g counts known old from) where
    abbrev fresh : Entries
    fresh = with_homes g old m1 from o.0 low opens counts known r

    abbrev opening : Closes g counts known old m1 from
    opening = opened_closes g old m1 from o.0 low opens counts known r

    pub fresh_reads : (b : ℕ) → count old ≤ b → ReadsHomes g fresh b
    fresh_reads b le = opened_reads g old m1 from o.0 low opens counts known r b le

    pub jumping : Closes g counts fresh m1 m2 from
    jumping =
        jumps_ready g counts fresh m1 from begin still_open (omega (arith, low, vars_one))
        (opened_from g old m1 from o.0 low opens counts known r) (fresh_reads begin.0 is_new)
        (omega (arith, is_new, o.0)) (omega (arith, is_there, count_one)) m2 entered

    abbrev pub entered_closes : Closes g counts known old m2 from
    entered_closes = closes_on g counts known old m1 m2 from from opening jumping (λ n lt off. off)
        (omega (arith, count_one))

    -- each block of the loop is ready, and reads homes
    pub entered_ready : (b : ℕ) → count old ≤ b → b < count old + 3 →
        IsReady g counts entered_closes.next m2 b
    entered_ready b le lt = jumping.waiting b (omega (arith, lt, count_one))
        (λ e. omega (arith, e, le, o.0))
        (opened_ready g old m1 from o.0 low opens counts known r b le)

    pub entered_reads : (b : ℕ) → count old ≤ b → b < count old + 3 →
        ReadsHomes g entered_closes.next b
    entered_reads b le lt = reads_on g fresh entered_closes.next m1 b jumping.same
        (omega (arith, lt, count_one)) (fresh_reads b le)

-- ---- WHILE

module _ (g : Setting) (old m1 m2 m3 m4 new : VProc) (from to depth : ℕ) (blocks : Loop)
    (o : IsOpen old from) (low : above_setting g ≤ length old.vars)
    (behind_is : blocks.behind.0 ≡ count old) (body_is : blocks.body.0 ≡ count old + 1)
    (test_is : blocks.test.0 ≡ count old + 2)
    (opened : m1 ≡ with_loop depth old) (entered : m2 ≡ with_end from (Jump blocks.test) m1)
    (test : EndsReady g m2 m3 blocks.test.0
    (record { holds = blocks.body; fails = blocks.behind }))
    (test_grows : GrowsAt blocks.test.0 m2 m3)
    (sound : Bool) (body : KeepsReady g m3 m4 blocks.body.0 to sound)
    (e : Extends blocks.body.0 to m3 m4) (left : new ≡ with_end to (Jump blocks.test) m4) where
  test_new : count old ≤ blocks.test.0
  test_new = omega (arith, test_is)

  test_there : blocks.test.0 < count old + 3
  test_there = omega (arith, test_is)

  count_is : count m2 ≡ count old + 3
  count_is = count_two g old m1 m2 from depth blocks.test o low opened entered test_new test_there

  vars_are : length m2.vars ≡ length old.vars
  vars_are = vars_two g old m1 m2 from depth blocks.test o low opened entered test_new test_there

  module _ (counts : List ℕ) (known : Entries) (r : IsReady g counts known old from) where
    abbrev entering : Closes g counts known old m2 from
    entering = entered_closes g old m1 m2 from depth blocks.test o low opened entered test_new
        test_there counts known r

    is_ready : (b : ℕ) → count old ≤ b → b < count old + 3 → IsReady g counts entering.next m2 b
    is_ready = entered_ready g old m1 m2 from depth blocks.test o low opened entered test_new
        test_there counts known r

    reads_homes : (b : ℕ) → count old ≤ b → b < count old + 3 → ReadsHomes g entering.next b
    reads_homes = entered_reads g old m1 m2 from depth blocks.test o low opened entered test_new
        test_there counts known r

    testing : Closes g counts entering.next m2 m3 blocks.test.0
    testing =
        let here = is_ready blocks.test.0 test_new test_there in
        test.stays counts entering.next here (omega (arith, body_is))
        (omega (arith, behind_is, o.0))
        (homes_awaited g counts entering.next m2 blocks.test.0 blocks.body.0
        (omega (arith, low, vars_are)) here
        (reads_homes blocks.body.0 (omega (arith, body_is)) (omega (arith, body_is))))
        (homes_awaited g counts entering.next m2 blocks.test.0 blocks.behind.0
        (omega (arith, low, vars_are)) here
        (reads_homes blocks.behind.0 (omega (arith, behind_is)) (omega (arith, behind_is))))

    body_ready : IsReady g counts testing.next m3 blocks.body.0
    body_ready = testing.waiting blocks.body.0 (omega (arith, body_is, count_is))
        (λ same. omega (arith, same, body_is, test_is))
        (is_ready blocks.body.0 (omega (arith, body_is)) (omega (arith, body_is)))

    behind_ready : IsReady g counts testing.next m3 blocks.behind.0
    behind_ready = testing.waiting blocks.behind.0 (omega (arith, behind_is, count_is))
        (λ same. omega (arith, same, behind_is, test_is))
        (is_ready blocks.behind.0 (omega (arith, behind_is)) (omega (arith, behind_is)))

    behind_there : blocks.behind.0 < count m3
    behind_there = omega (arith, behind_is, count_is, test_grows.grows.blocks)

    module _ (doing : Proceeds g counts testing.next m3 m4 blocks.body.0 to) where
      leaving : Closes g counts doing.closes.next m4 new to
      leaving =
          jumps_ready g counts doing.closes.next m4 to blocks.test e.is_open
          (omega (arith, low, vars_are, test_grows.grows.vars, e.grows.grows.vars)) doing.ready
          (reads_on g testing.next doing.closes.next m3 blocks.test.0 doing.closes.same
          (omega (arith, test_is, count_is, test_grows.grows.blocks))
          (reads_on g entering.next testing.next m2 blocks.test.0 testing.same
          (omega (arith, test_is, count_is)) (reads_homes blocks.test.0 test_new test_there)))
          (omega (arith, test_is))
          (omega (arith, test_is, count_is, test_grows.grows.blocks, e.grows.grows.blocks)) new
          left

      abbrev three : Closes g counts known old m3 from
      three = closes_on g counts known old m2 m3 from blocks.test.0 entering testing
          (λ n lt off same. omega (arith, lt, same, test_is)) (omega (arith, count_is))

      abbrev four : Closes g counts known old m4 from
      four = closes_on g counts known old m3 m4 from blocks.body.0 three doing.closes
          (λ n lt off same. omega (arith, lt, same, body_is))
          (omega (arith, count_is, test_grows.grows.blocks))

      while_proceeds : Proceeds g counts known old new from blocks.behind.0
      while_proceeds = record {
        closes = closes_on g counts known old m4 new from to four leaving
            (λ n lt off. e.apart n (omega (arith, lt, count_is, test_grows.grows.blocks))
            (λ same. omega (arith, lt, same, body_is)))
            (omega (arith, count_is, test_grows.grows.blocks, e.grows.grows.blocks));
        ready = leaving.waiting blocks.behind.0 (omega (arith, behind_there, e.grows.grows.blocks))
            (e.apart blocks.behind.0 behind_there (λ same. omega (arith, same, behind_is, body_is)))
            (doing.closes.waiting blocks.behind.0 behind_there
            (λ same. omega (arith, same, behind_is, body_is)) behind_ready);
      }

  pub while_ready : (good both : Bool) → (both ≡ true → (good ≡ true) × (sound ≡ true)) →
      KeepsReady g old new from blocks.behind.0 both
  while_ready good both goods = record {
    stays = λ counts known is are_good r. while_proceeds counts known r
        (body.stays counts (testing counts known r).next is (goods are_good).1
        (body_ready counts known r));
  }

-- ---- REPEAT

module _ (g : Setting) (old m1 m2 m3 m4 new : VProc) (from to depth : ℕ) (blocks : Loop)
    (o : IsOpen old from) (low : above_setting g ≤ length old.vars)
    (behind_is : blocks.behind.0 ≡ count old) (body_is : blocks.body.0 ≡ count old + 1)
    (test_is : blocks.test.0 ≡ count old + 2)
    (opened : m1 ≡ with_loop depth old) (entered : m2 ≡ with_end from (Jump blocks.body) m1)
    (sound : Bool) (body : KeepsReady g m2 m3 blocks.body.0 to sound)
    (e : Extends blocks.body.0 to m2 m3) (left : m4 ≡ with_end to (Jump blocks.test) m3)
    (test : EndsReady g m4 new blocks.test.0
    (record { holds = blocks.behind; fails = blocks.body })) where
  body_new : count old ≤ blocks.body.0
  body_new = omega (arith, body_is)

  body_there : blocks.body.0 < count old + 3
  body_there = omega (arith, body_is)

  count_of_two : count m2 ≡ count old + 3
  count_of_two = count_two g old m1 m2 from depth blocks.body o low opened entered body_new
      body_there

  vars_of_two : length m2.vars ≡ length old.vars
  vars_of_two = vars_two g old m1 m2 from depth blocks.body o low opened entered body_new body_there

  count_four : count m4 ≡ count m3
  count_four = jump_count to blocks.test m3 m4 e.is_open left

  vars_four : length m4.vars ≡ length m3.vars
  vars_four = jump_vars to blocks.test m3 m4 left

  module _ (counts : List ℕ) (known : Entries) (r : IsReady g counts known old from) where
    abbrev begun : Closes g counts known old m2 from
    begun = entered_closes g old m1 m2 from depth blocks.body o low opened entered body_new
        body_there counts known r

    block_ready : (b : ℕ) → count old ≤ b → b < count old + 3 → IsReady g counts begun.next m2 b
    block_ready = entered_ready g old m1 m2 from depth blocks.body o low opened entered body_new
        body_there counts known r

    block_reads : (b : ℕ) → count old ≤ b → b < count old + 3 → ReadsHomes g begun.next b
    block_reads = entered_reads g old m1 m2 from depth blocks.body o low opened entered body_new
        body_there counts known r

    module _ (doing : Proceeds g counts begun.next m2 m3 blocks.body.0 to) where
      reads_then : (b : ℕ) → count old ≤ b → b < count old + 3 → ReadsHomes g doing.closes.next b
      reads_then b le lt = reads_on g begun.next doing.closes.next m2 b doing.closes.same
          (omega (arith, lt, count_of_two)) (block_reads b le lt)

      jumping_back : Closes g counts doing.closes.next m3 m4 to
      jumping_back =
          jumps_ready g counts doing.closes.next m3 to blocks.test e.is_open
          (omega (arith, low, vars_of_two, e.grows.grows.vars)) doing.ready
          (reads_then blocks.test.0 (omega (arith, test_is)) (omega (arith, test_is)))
          (omega (arith, test_is)) (omega (arith, test_is, count_of_two, e.grows.grows.blocks)) m4
          left

      reads_last : (b : ℕ) → count old ≤ b → b < count old + 3 → ReadsHomes g jumping_back.next b
      reads_last b le lt = reads_on g doing.closes.next jumping_back.next m3 b jumping_back.same
          (omega (arith, lt, count_of_two, e.grows.grows.blocks)) (reads_then b le lt)

      -- the blocks behind the body wait
      still_ready : (b : ℕ) → count old ≤ b → b < count old + 3 → b ≢ blocks.body.0 →
          IsReady g counts jumping_back.next m4 b
      still_ready b le lt off =
          let there : b < count m2 = omega (arith, lt, count_of_two) in
          jumping_back.waiting b (omega (arith, there, e.grows.grows.blocks)) (e.apart b there off)
          (doing.closes.waiting b there off (block_ready b le lt))

      test_ready : IsReady g counts jumping_back.next m4 blocks.test.0
      test_ready = still_ready blocks.test.0 (omega (arith, test_is)) (omega (arith, test_is))
          (λ same. omega (arith, same, test_is, body_is))

      low_four : above_setting g ≤ length m4.vars
      low_four = omega (arith, low, vars_of_two, e.grows.grows.vars, vars_four)

      ending : Closes g counts jumping_back.next m4 new blocks.test.0
      ending =
          test.stays counts jumping_back.next test_ready (omega (arith, behind_is, o.0))
          (omega (arith, body_is))
          (homes_awaited g counts jumping_back.next m4 blocks.test.0 blocks.behind.0 low_four
          test_ready (reads_last blocks.behind.0 (omega (arith, behind_is))
          (omega (arith, behind_is))))
          (homes_awaited g counts jumping_back.next m4 blocks.test.0 blocks.body.0 low_four
          test_ready (reads_last blocks.body.0 body_new body_there))

      abbrev done_three : Closes g counts known old m3 from
      done_three = closes_on g counts known old m2 m3 from blocks.body.0 begun doing.closes
          (λ n lt off same. omega (arith, lt, same, body_is)) (omega (arith, count_of_two))

      abbrev done_four : Closes g counts known old m4 from
      done_four = closes_on g counts known old m3 m4 from to done_three jumping_back
          (λ n lt off. e.apart n (omega (arith, lt, count_of_two))
          (λ same. omega (arith, lt, same, body_is)))
          (omega (arith, count_of_two, e.grows.grows.blocks))

      repeat_proceeds : Proceeds g counts known old new from blocks.behind.0
      repeat_proceeds = record {
        closes = closes_on g counts known old m4 new from blocks.test.0 done_four ending
            (λ n lt off same. omega (arith, lt, same, test_is))
            (omega (arith, count_of_two, e.grows.grows.blocks, count_four));
        ready = ending.waiting blocks.behind.0
            (omega (arith, behind_is, count_of_two, e.grows.grows.blocks, count_four))
            (λ same. omega (arith, same, behind_is, test_is))
            (still_ready blocks.behind.0 (omega (arith, behind_is)) (omega (arith, behind_is))
            (λ same. omega (arith, same, behind_is, body_is)));
      }

  pub repeat_ready : (good both : Bool) → (both ≡ true → (sound ≡ true) × (good ≡ true)) →
      KeepsReady g old new from blocks.behind.0 both
  repeat_ready good both goods = record {
    stays = λ counts known is are_good r. repeat_proceeds counts known r
        (body.stays counts (begun counts known r).next is (goods are_good).0
        (block_ready counts known r blocks.body.0 body_new body_there));
  }
