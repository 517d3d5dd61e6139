-- Blocks that were opened and wait until something is put into them.
use Rattle.std.proofs.Common.{◌≡◌, ◌≢◌, ℕ, length, ap, ◌∙◌, arith}
use Rattle.pra_base.specs.Code.{code_of}
use Rattle.pra_base.specs.declared.code.VProc.{VProc}
use Rattle.vc_build.specs.Grow.{count, IsOpen, with_open_block, GrowsAt}
use Rattle.vc_build.proofs.Growth.{opened_kept, opened_count, opened_block}
use Rattle.vc_stmt.specs.Blocks.{Waits}

pub waits_open : (code : VProc) (b : ℕ) → Waits code b → IsOpen code b
waits_open code b x = (x.within, x.end)

pub waits_empty : (code : VProc) (b : ℕ) → Waits code b → length (code_of code b) ≡ 0
waits_empty code b x = ap (λ z. length z) x.empty

-- it waits while another block grows
pub waits_on : (from : ℕ) (old new : VProc) (b : ℕ) → GrowsAt from old new → b ≢ from →
    Waits old b → Waits new b
waits_on from old new b grows apart x = record {
  within = omega (arith, x.within, grows.grows.blocks);
  empty = ap (λ z. z.code) (grows.others b x.within apart) ∙ x.empty;
  end = ap (λ z. z.end) (grows.others b x.within apart) ∙ x.end;
}

pub waits_first : (depth : ℕ) (old : VProc) → Waits (with_open_block depth old) (count old)
waits_first depth old = record {
  within = omega (arith, opened_count depth old);
  empty =
      ap (λ z. z.code) (opened_block depth old);
  end = ap (λ z. z.end) (opened_block depth old);
}

-- and while one more block is opened
pub waits_beside : (d : ℕ) (old : VProc) (b : ℕ) → Waits old b → Waits (with_open_block d old) b
waits_beside d old b x = record {
  within = omega (arith, x.within, opened_count d old);
  empty = ap (λ z. z.code) (opened_kept d old b x.within) ∙ x.empty;
  end = ap (λ z. z.end) (opened_kept d old b x.within) ∙ x.end;
}

-- an open block stays open
pub open_on : (from : ℕ) (old new : VProc) (b : ℕ) → GrowsAt from old new → b ≢ from →
    IsOpen old b → IsOpen new b
open_on from old new b grows apart o =
    (omega (arith, o.0, grows.grows.blocks), ap (λ z. z.end) (grows.others b o.0 apart) ∙ o.1)

pub open_beside : (d : ℕ) (old : VProc) (b : ℕ) → IsOpen old b → IsOpen (with_open_block d old) b
open_beside d old b o = (
  omega (arith, o.0, opened_count d old),
  ap (λ z. z.end) (opened_kept d old b o.0) ∙ o.1,
)
