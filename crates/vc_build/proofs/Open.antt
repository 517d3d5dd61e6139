-- How many blocks are open after each change of the code.
use Rattle.std.proofs.Common.{◌≡◌, ◌≢◌, ℕ, suc, ◌+◌, ◌<◌, ◌≤◌, true, List, get_or, refl, sym, ap}
use Rattle.std.proofs.Common.{◌∙◌, ⊎_elim, arith, ext_get_or}
use Rattle.std.specs.Prelude.{count_by, slice_set, if◌then◌else◌}
use Rattle.std.proofs.lemmas.Bool.{cases_eq}
use Rattle.std.proofs.lemmas.List.{get_or-set_same, get_or-set_other, length-set}
use Rattle.std.proofs.lemmas.List.Sums.{sum_by-set, sum_by_push, get_or-le-sum_by}
use Rattle.pra_list.proofs.Truths.{false_from, nat_is, itself}
use Rattle.pra_base.specs.Code.{no_block, block_of, end_of}
use Rattle.pra_base.specs.declared.ids.BlockId.{BlockId}
use Rattle.pra_base.specs.declared.ids.Cond.{Cond}
use Rattle.pra_base.specs.declared.code.VarKind.{VarKind}
use Rattle.pra_base.specs.declared.code.VInstr.{VInstr}
use Rattle.pra_base.specs.declared.code.End.{End}
use Rattle.pra_base.specs.declared.code.End.TheVariants.{Jump, Branch, Return}
use Rattle.pra_base.specs.declared.code.Block.{Block}
use Rattle.pra_base.specs.declared.code.VProc.{VProc}
use Rattle.vc_build.specs.Grow.{count, stand_in, IsOpen, open_block, with_instr, with_end}
use Rattle.vc_build.specs.Grow.{with_open_block, with_variable, GrowsAt, is_stand_in, is_open}
use Rattle.vc_build.specs.Grow.{open_blocks, ClosesOne, HandsOn}
use Rattle.vc_build.proofs.Growth.{put_count, put_open, put_grows, closed_block, closed_count}
use Rattle.vc_build.proofs.Growth.{closed_grows}

-- ---- ends

stands_in : (e : End) → is_stand_in e ≡ true → e ≡ stand_in
stands_in (Jump b) is = ap (λ n. Jump (record { 0 = n })) (nat_is b.0 0 is)
stands_in (Branch condition one other) is = cc
stands_in Return is = cc

pub jump_real : (b : BlockId) → b.0 ≢ 0 → Jump b ≢ stand_in
jump_real b some e = some (cc)

pub branch_real : (condition : Cond) (one other : BlockId) → Branch condition one other ≢ stand_in
branch_real condition one other e = cc

pub return_real : Return ≢ stand_in
return_real e = cc

-- what a block counts for
abbrev weight : Block → ℕ
weight block = if is_open block then 1 else 0

weighs_one : (block : Block) → block.end ≡ stand_in → weight block ≡ 1
weighs_one block e = ap (λ b. if b then 1 else 0) (ap is_stand_in e ∙ itself 0)

weighs_none : (block : Block) → block.end ≢ stand_in → weight block ≡ 0
weighs_none block real = ap (λ b. if b then 1 else 0)
    (false_from (is_stand_in block.end) (λ is. real (stands_in block.end is)))

-- ---- one block is another

module _ (at : ℕ) (old new : VProc) (p : GrowsAt at old new) (none : count new ≤ count old)
    (o : IsOpen old at) where
  one_other : new.blocks ≡ slice_set old.blocks at (block_of new at)
  one_other =
      let x = block_of new at in
      ext_get_or no_block new.blocks (slice_set old.blocks at x)
      (omega (arith, none, p.grows.blocks, length-set old.blocks at x))
      (λ b lt. ⊎_elim
      (λ (e : b ≡ at). ap (block_of new) e
      ∙ sym (ap (λ n. get_or (slice_set old.blocks at x) n no_block) e
      ∙ get_or-set_same old.blocks at x no_block o.0))
      (λ (d : b ≢ at). p.others b (omega (arith, lt, none)) d
      ∙ sym (get_or-set_other old.blocks at b x no_block d))
      (cases_eq b at))

  weighed : open_blocks new + 1 ≡ open_blocks old + weight (block_of new at)
  weighed =
      omega (
        arith,
        ap (λ (blocks : List Block). count_by is_open blocks) one_other,
        sum_by-set weight old.blocks at (block_of new at) no_block o.0,
        weighs_one (block_of old at) o.1,
      )

  pub same_open : IsOpen new at → open_blocks new ≡ open_blocks old
  same_open still = omega (arith, weighed, weighs_one (block_of new at) still.1)

  pub one_closed : end_of new at ≢ stand_in → ClosesOne old new
  one_closed real = record { one_less = omega (arith, weighed, weighs_none (block_of new at) real) }

-- ---- the changes

pub put_keeps : (at : ℕ) (i : VInstr) (old : VProc) → IsOpen old at →
    open_blocks (with_instr at i old) ≡ open_blocks old
put_keeps at i old o = same_open at old (with_instr at i old) (put_grows at i old o)
    (omega (arith, put_count at i old o)) o (put_open at i old o)

pub closed_real : (at : ℕ) (end : End) (old : VProc) → IsOpen old at → end ≢ stand_in →
    end_of (with_end at end old) at ≢ stand_in
closed_real at end old o real e =
    real (sym (ap (λ (b : Block). b.end) (closed_block at end old o)) ∙ e)

pub close_one : (at : ℕ) (end : End) (old : VProc) → IsOpen old at → end ≢ stand_in →
    ClosesOne old (with_end at end old)
close_one at end old o real = one_closed at old (with_end at end old) (closed_grows at end old o)
    (omega (arith, closed_count at end old o)) o (closed_real at end old o real)

pub open_one : (depth : ℕ) (old : VProc) → open_blocks (with_open_block depth old) ≡
    suc (open_blocks old)
open_one depth old = omega (
  arith,
  sum_by_push weight old.blocks (open_block depth),
  weighs_one (open_block depth) refl,
)

-- where one block is open, the others are closed
pub only_open : (code : VProc) (at : ℕ) → open_blocks code ≡ 1 → IsOpen code at → (b : ℕ) →
    b < count code → b ≢ at → end_of code b ≢ stand_in
only_open code at one o b lt off e =
    let without : VProc = with_end at Return code in
    let none : suc (open_blocks without) ≡ open_blocks code =
    (close_one at Return code o return_real).one_less in
    let still : end_of without b ≡ stand_in =
    ap (λ (x : Block). x.end) ((closed_grows at Return code o).others b lt off) ∙ e in
    omega (
      arith,
      one,
      none,
      weighs_one (block_of without b) still,
      get_or-le-sum_by weight without.blocks b no_block
          (omega (arith, lt, closed_count at Return code o)),
    )

-- ---- from one open block to another

pub hands_nothing : (at : ℕ) (code : VProc) → HandsOn at at code code
hands_nothing at code = record { as_many = refl; entry = λ alone is. alone is }

pub hands_on : (from between to : ℕ) (old one two : VProc) → HandsOn from between old one →
    HandsOn between to one two → HandsOn from to old two
hands_on from between to old one two p q =
    record { as_many = q.as_many ∙ p.as_many; entry = λ alone. q.entry (p.entry alone) }

pub hands_same : (at : ℕ) (old new : VProc) → GrowsAt at old new → count new ≤ count old →
    IsOpen old at → IsOpen new at → HandsOn at at old new
hands_same at old new p none o still =
    record {
      as_many = same_open at old new p none o still;
      entry =
          λ alone is. omega (arith, alone is, none, p.grows.blocks);
    }

pub hands_put : (at : ℕ) (i : VInstr) (old new : VProc) → IsOpen old at →
    new ≡ with_instr at i old → HandsOn at at old new
hands_put at i old new o made =
    record {
      as_many = ap open_blocks made ∙ put_keeps at i old o;
      entry = λ alone is. ap count made
          ∙ put_count at i old o ∙ alone is;
    }

pub hands_declared : (at : ℕ) (kind : VarKind) (old new : VProc) → new ≡ with_variable kind old →
    HandsOn at at old new
hands_declared at kind old new made =
    record { as_many = ap open_blocks made; entry = λ alone is. ap count made ∙ alone is }

-- to another block than the entry
pub hands_to : (from to : ℕ) (old new : VProc) → open_blocks new ≡ open_blocks old → to ≢ 0 →
    HandsOn from to old new
hands_to from to old new same real = record { as_many = same; entry = λ alone is. absurd (real is) }
