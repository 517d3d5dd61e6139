-- Code of IF keeps the rules and a certificate.
use Rattle.std.proofs.Common.{◌≡◌, ◌≢◌, ℕ, ◌+◌, ◌<◌, ◌≤◌, Bool, true, List, length, ap, ◌∙◌, arith}
use Rattle.pra_base.specs.declared.ids.BlockId.{BlockId}
use Rattle.pra_base.specs.declared.code.End.TheVariants.{Jump}
use Rattle.pra_base.specs.declared.code.VProc.{VProc}
use Rattle.vc_build.specs.Grow.{count, IsOpen, with_end, with_open_block, GrowsAt}
use Rattle.vc_build.proofs.Growth.{opened_count}
use Rattle.vc_expr.specs.Readable.{Entries}
use Rattle.vc_expr.specs.declared.branch.Targets.{Targets}
use Rattle.vc_select.specs.declared.target.Setting.{Setting}
use Rattle.vc_select.specs.Selects.{Extends}
use Rattle.vc_select.specs.Targets.{above_setting}
use Rattle.vc_select.specs.Certified.{Awaits, IsReady, Closes, EndsReady}
use Rattle.vc_stmt.specs.Blocks.{with_arm}
use Rattle.vc_stmt.specs.Ready.{Proceeds, KeepsReady, KeepsReadyBeside, ReadsHomes}
use Rattle.vc_stmt.proofs.Entering.{with_homes, reads_on, homes_awaited, closes_on, Opens}
use Rattle.vc_stmt.proofs.Entering.{opens_arm, opens_beside, opened_closes, opened_from}
use Rattle.vc_stmt.proofs.Entering.{opened_reads, opened_ready, jumps_ready}

arm_blocks : (depth : ℕ) (old : VProc) → count (with_arm depth old) ≡ count old + 2
arm_blocks depth old = omega
    (arith, opened_count depth old, opened_count depth (with_open_block depth old))

-- ---- an arm

module _ (g : Setting) (old m1 m2 m3 new : VProc) (from to depth : ℕ) (behind : BlockId)
    (targets : Targets) (o : IsOpen old from) (low : above_setting g ≤ length old.vars)
    (fails_is : targets.fails.0 ≡ count old) (holds_is : targets.holds.0 ≡ count old + 1)
    (behind_there : behind.0 < count old) (behind_apart : behind.0 ≢ from)
    (behind_real : behind.0 ≢ 0)
    (opened : m1 ≡ with_arm depth old) (test : EndsReady g m1 m2 from targets)
    (test_grows : GrowsAt from m1 m2) (sound : Bool)
    (body : KeepsReady g m2 m3 targets.holds.0 to sound) (e : Extends targets.holds.0 to m2 m3)
    (left : new ≡ with_end to (Jump behind) m3) where
  opens : Opens from old m1
  opens = opens_arm from depth old m1 opened

  count_one : count m1 ≡ count old + 2
  count_one = ap count opened ∙ arm_blocks depth old

  vars_one : length m1.vars ≡ length old.vars
  vars_one = ap (λ l. length l) opens.vars

  module _ (counts : List ℕ) (known : Entries) (r : IsReady g counts known old from)
      (behind_reads : ReadsHomes g known behind.0) where
    abbrev fresh : Entries
    fresh = with_homes g old m1 from o.0 low opens counts known r

    abbrev opening : Closes g counts known old m1 from
    opening = opened_closes g old m1 from o.0 low opens counts known r

    here : IsReady g counts fresh m1 from
    here = opened_from g old m1 from o.0 low opens counts known r

    awaited : (b : ℕ) → count old ≤ b → Awaits fresh b m1 from
    awaited b le = homes_awaited g counts fresh m1 from b (omega (arith, low, vars_one)) here
        (opened_reads g old m1 from o.0 low opens counts known r b le)

    testing : Closes g counts fresh m1 m2 from
    testing = test.stays counts fresh here (omega (arith, holds_is)) (omega (arith, fails_is, o.0))
        (awaited targets.holds.0 (omega (arith, holds_is)))
        (awaited targets.fails.0 (omega (arith, fails_is)))

    new_ready : (b : ℕ) → count old ≤ b → b < count old + 2 → IsReady g counts testing.next m2 b
    new_ready b le lt = testing.waiting b (omega (arith, lt, count_one))
        (λ same. omega (arith, same, le, o.0))
        (opened_ready g old m1 from o.0 low opens counts known r b le)

    reads_two : ReadsHomes g testing.next behind.0
    reads_two = reads_on g fresh testing.next m1 behind.0 testing.same
        (omega (arith, behind_there, count_one))
        (reads_on g known fresh old behind.0 opening.same behind_there behind_reads)

    abbrev two : Closes g counts known old m2 from
    two = closes_on g counts known old m1 m2 from from opening testing (λ n lt off. off)
        (omega (arith, count_one))

    holds_ready : IsReady g counts testing.next m2 targets.holds.0
    holds_ready = new_ready targets.holds.0 (omega (arith, holds_is)) (omega (arith, holds_is))

    fails_there : targets.fails.0 < count m2
    fails_there = omega (arith, fails_is, count_one, test_grows.grows.blocks)

    fails_off : targets.fails.0 ≢ targets.holds.0
    fails_off same = omega (arith, same, fails_is, holds_is)

    module _ (doing : Proceeds g counts testing.next m2 m3 targets.holds.0 to) where
      leaving : Closes g counts doing.closes.next m3 new to
      leaving =
          jumps_ready g counts doing.closes.next m3 to behind e.is_open
          (omega (arith, low, vars_one, test_grows.grows.vars, e.grows.grows.vars)) doing.ready
          (reads_on g testing.next doing.closes.next m2 behind.0 doing.closes.same
          (omega (arith, behind_there, count_one, test_grows.grows.blocks)) reads_two)
          (omega (arith, behind_real))
          (omega (
            arith,
            behind_there,
            count_one,
            test_grows.grows.blocks,
            e.grows.grows.blocks,
          )) new left

      abbrev three : Closes g counts known old m3 from
      three = closes_on g counts known old m2 m3 from targets.holds.0 two doing.closes
          (λ n lt off same. omega (arith, lt, same, holds_is))
          (omega (arith, count_one, test_grows.grows.blocks))

      arm_proceeds : Proceeds g counts known old new from targets.fails.0
      arm_proceeds = record {
        closes = closes_on g counts known old m3 new from to three leaving
            (λ n lt off. e.apart n (omega (arith, lt, count_one, test_grows.grows.blocks))
            (λ same. omega (arith, lt, same, holds_is)))
            (omega (arith, count_one, test_grows.grows.blocks, e.grows.grows.blocks));
        ready = leaving.waiting targets.fails.0 (omega (arith, fails_there, e.grows.grows.blocks))
            (e.apart targets.fails.0 fails_there fails_off)
            (doing.closes.waiting targets.fails.0 fails_there fails_off
            (new_ready targets.fails.0 (omega (arith, fails_is)) (omega (arith, fails_is))));
      }

  pub arm_ready : (good both : Bool) → (both ≡ true → (good ≡ true) × (sound ≡ true)) →
      KeepsReadyBeside g old new from targets.fails.0 behind.0 both
  arm_ready good both goods = record {
    stays = λ counts known is are_good r reads. arm_proceeds counts known r reads
        (body.stays counts (testing counts known r reads).next is (goods are_good).1
        (holds_ready counts known r reads));
  }

-- ---- the whole

module _ (g : Setting) (old m1 m2 m3 new : VProc) (from next to depth : ℕ) (behind : BlockId)
    (o : IsOpen old from) (low : above_setting g ≤ length old.vars)
    (behind_is : behind.0 ≡ count old) (opened : m1 ≡ with_open_block depth old)
    (one two : Bool) (arms : KeepsReadyBeside g m1 m2 from next behind.0 one)
    (arms_extend : Extends from next m1 m2) (other : KeepsReady g m2 m3 next to two)
    (e : Extends next to m2 m3) (left : new ≡ with_end to (Jump behind) m3) where
  opens_it : Opens from old m1
  opens_it = opens_beside from depth old m1 opened

  count_of_one : count m1 ≡ count old + 1
  count_of_one = ap count opened ∙ opened_count depth old

  vars_of_one : length m1.vars ≡ length old.vars
  vars_of_one = ap (λ l. length l) opens_it.vars

  behind_in_one : behind.0 < count m1
  behind_in_one = omega (arith, behind_is, count_of_one)

  behind_off : behind.0 ≢ from
  behind_off same = omega (arith, same, behind_is, o.0)

  behind_in_two : behind.0 < count m2
  behind_in_two = omega (arith, behind_in_one, arms_extend.grows.grows.blocks)

  behind_next : behind.0 ≢ next
  behind_next = arms_extend.apart behind.0 behind_in_one behind_off

  module _ (counts : List ℕ) (known : Entries) (r : IsReady g counts known old from) where
    abbrev fresh_one : Entries
    fresh_one = with_homes g old m1 from o.0 low opens_it counts known r

    abbrev opening_it : Closes g counts known old m1 from
    opening_it = opened_closes g old m1 from o.0 low opens_it counts known r

    here_one : IsReady g counts fresh_one m1 from
    here_one = opened_from g old m1 from o.0 low opens_it counts known r

    behind_reads_homes : ReadsHomes g fresh_one behind.0
    behind_reads_homes = opened_reads g old m1 from o.0 low opens_it counts known r behind.0
        (omega (arith, behind_is))

    module _ (a : Proceeds g counts fresh_one m1 m2 from next)
        (b : Proceeds g counts a.closes.next m2 m3 next to) where
      leaving_it : Closes g counts b.closes.next m3 new to
      leaving_it =
          jumps_ready g counts b.closes.next m3 to behind e.is_open
          (omega (arith, low, vars_of_one, arms_extend.grows.grows.vars, e.grows.grows.vars))
          b.ready
          (reads_on g a.closes.next b.closes.next m2 behind.0 b.closes.same behind_in_two
          (reads_on g fresh_one a.closes.next m1 behind.0 a.closes.same behind_in_one
          behind_reads_homes))
          (omega (arith, behind_is, o.0)) (omega (arith, behind_in_two, e.grows.grows.blocks)) new
          left

      abbrev closes_two : Closes g counts known old m2 from
      closes_two = closes_on g counts known old m1 m2 from from opening_it a.closes
          (λ n lt off. off) (omega (arith, count_of_one))

      next_apart : (n : ℕ) → n < count old → n ≢ from → n ≢ next
      next_apart n lt off = arms_extend.apart n (omega (arith, lt, count_of_one)) off

      abbrev closes_three : Closes g counts known old m3 from
      closes_three = closes_on g counts known old m2 m3 from next closes_two b.closes next_apart
          (omega (arith, count_of_one, arms_extend.grows.grows.blocks))

      if_proceeds : Proceeds g counts known old new from behind.0
      if_proceeds = record {
        closes = closes_on g counts known old m3 new from to closes_three leaving_it
            (λ n lt off. e.apart n (omega (arith, lt, count_of_one, arms_extend.grows.grows.blocks))
            (next_apart n lt off))
            (omega (arith, count_of_one, arms_extend.grows.grows.blocks, e.grows.grows.blocks));
        ready = leaving_it.waiting behind.0 (omega (arith, behind_in_two, e.grows.grows.blocks))
            (e.apart behind.0 behind_in_two behind_next)
            (b.closes.waiting behind.0 behind_in_two behind_next
            (a.closes.waiting behind.0 behind_in_one behind_off
            (opened_ready g old m1 from o.0 low opens_it counts known r behind.0
            (omega (arith, behind_is)))));
      }

  pub if_ready : (both : Bool) → (both ≡ true → (one ≡ true) × (two ≡ true)) →
      KeepsReady g old new from behind.0 both
  if_ready both goods = record {
    stays = λ counts known is are_good r.
        let a = arms.stays counts (fresh_one counts known r) is (goods are_good).0
        (here_one counts known r) (behind_reads_homes counts known r) in
        if_proceeds counts known r a
        (other.stays counts a.closes.next is (goods are_good).1 a.ready);
  }
