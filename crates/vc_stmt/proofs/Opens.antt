-- How many blocks are open behind the code of statements.
use Rattle.std.proofs.Common.{◌≡◌, ◌≢◌, ℕ, suc, ◌+◌, ap, ◌∙◌, arith}
use Rattle.pra_base.specs.declared.ids.BlockId.{BlockId}
use Rattle.pra_base.specs.declared.code.End.TheVariants.{Jump}
use Rattle.pra_base.specs.declared.code.VProc.{VProc}
use Rattle.vc_build.specs.Grow.{count, IsOpen, with_end, with_open_block, open_blocks, ClosesOne}
use Rattle.vc_build.specs.Grow.{HandsOn}
use Rattle.vc_build.proofs.Open.{jump_real, close_one, open_one, hands_to}
use Rattle.vc_stmt.specs.Blocks.{deeper, with_arm, with_loop}

pub closes_jump : (at : ℕ) (target : BlockId) (old new : VProc) → IsOpen old at →
    new ≡ with_end at (Jump target) old → target.0 ≢ 0 → ClosesOne old new
closes_jump at target old new o made real =
    record {
      one_less = ap (λ z. suc (open_blocks z)) made
          ∙ (close_one at (Jump target) old o (jump_real target real)).one_less;
    }

open_two : (depth : ℕ) (old : VProc) → open_blocks (with_arm depth old) ≡ 2 + open_blocks old
open_two depth old = omega (arith, open_one depth (with_open_block depth old), open_one depth old)

open_three : (depth : ℕ) (old : VProc) → open_blocks (with_loop depth old) ≡ 3 + open_blocks old
open_three depth old =
    let one : VProc = with_open_block depth old in
    omega (
      arith,
      open_one (deeper depth) (with_open_block (deeper depth) one),
      open_one (deeper depth) one,
      open_one depth old,
    )

-- the block behind is the first that is opened, so it is not the entry
module _ (from behind depth : ℕ) (old m1 : VProc) (o : IsOpen old from)
    (number : behind ≡ count old) where
  real : behind ≢ 0
  real is = omega (arith, is, number, o.0)

  -- the arms of an IF, and the statements behind ELSE
  pub hands_if : (next to : ℕ) (m2 m3 new : VProc) → m1 ≡ with_open_block depth old →
      HandsOn from next m1 m2 → HandsOn next to m2 m3 → ClosesOne m3 new →
      HandsOn from behind old new
  hands_if next to m2 m3 new made arms other left = hands_to from behind old new
      (omega (
        arith,
        ap open_blocks made,
        open_one depth old,
        arms.as_many,
        other.as_many,
        left.one_less,
      )) real

  -- the condition of an arm, and its statements
  pub hands_arm : (holds to : ℕ) (m2 m3 new : VProc) → m1 ≡ with_arm depth old → ClosesOne m1 m2 →
      HandsOn holds to m2 m3 → ClosesOne m3 new → HandsOn from behind old new
  hands_arm holds to m2 m3 new made test body left = hands_to from behind old new
      (omega (
        arith,
        ap open_blocks made,
        open_two depth old,
        test.one_less,
        body.as_many,
        left.one_less,
      )) real

  module _ (body to : ℕ) (m2 m3 m4 new : VProc) (made : m1 ≡ with_loop depth old)
      (enters : ClosesOne m1 m2) where
    pub hands_while : ClosesOne m2 m3 → HandsOn body to m3 m4 → ClosesOne m4 new →
        HandsOn from behind old new
    hands_while test doing left = hands_to from behind old new
        (omega (
          arith,
          ap open_blocks made,
          open_three depth old,
          enters.one_less,
          test.one_less,
          doing.as_many,
          left.one_less,
        )) real

    pub hands_repeat : HandsOn body to m2 m3 → ClosesOne m3 m4 → ClosesOne m4 new →
        HandsOn from behind old new
    hands_repeat doing left test = hands_to from behind old new
        (omega (
          arith,
          ap open_blocks made,
          open_three depth old,
          enters.one_less,
          doing.as_many,
          left.one_less,
          test.one_less,
        )) real
