-- Blocks that are opened before the code that comes before them in the text.
use Rattle.std.specs.Prelude.{◌≡◌, ℕ, ◌+◌, ◌<◌, [], min}
use Rattle.pra_base.specs.Code.{code_of, end_of}
use Rattle.pra_base.specs.declared.code.VProc.{VProc}
use Rattle.vc_build.specs.Grow.{count, stand_in, with_open_block}

-- A block was opened, and nothing is in it yet.
pub record Waits (code : VProc) (b : ℕ) : Type 0 where
  pub within : b < count code
  pub empty : code_of code b ≡ []
  pub end : end_of code b ≡ stand_in

-- The depth of the blocks in a loop: one more than outside, and at most 5.
abbrev pub deeper : ℕ → ℕ
deeper depth = min (depth + 1) 5

-- Three blocks more: one behind a loop, and two in it.
abbrev pub with_loop : ℕ → VProc → VProc
with_loop depth code =
    with_open_block (deeper depth) (with_open_block (deeper depth) (with_open_block depth code))

-- Two blocks more: where a condition leads that is FALSE, and where one leads that is TRUE.
abbrev pub with_arm : ℕ → VProc → VProc
with_arm depth code = with_open_block depth (with_open_block depth code)
