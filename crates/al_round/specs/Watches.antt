-- A watch, which says after which line no more rounds are wanted.
use Rattle.std.specs.Prelude.{◌≡◌, ℕ, ◌+◌, ◌-◌, ◌≤◌, ◌<◌, nat_le, if◌then◌else◌}
use Rattle.std.specs.Prelude.{List, length, take, slice_get, Some}
use Rattle.std.specs.Fn.{Shared}
use Rattle.net_form.specs.declared.prices.Line.{Line}
use Rattle.al_round.specs.declared.watch.Verdict.{Verdict}
use Rattle.al_round.specs.declared.watch.Verdict.TheVariants.{Go, Stop}
use Rattle.al_round.specs.declared.watch.Watch.{Watch}

-- to stop exactly where the cost is at most so much above the bound
abbrev pub verdict_of : ℕ → Line → Verdict
verdict_of gap line = if nat_le (line.cost - line.bound) gap then Stop else Go

-- the function may be asked of every line whose bound is at most its cost, and answers the verdict
pub record AnswersByGap {G : Type 0} (calls : Shared G (Line × Unit {0}) Verdict) (gap : ℕ) (g : G)
    : Type 0 where
  pub callable : (line : Line) → line.bound ≤ line.cost → calls.pre g (line, tt)
  pub answers : (line : Line) (v : Verdict) → line.bound ≤ line.cost →
      calls.post g (line, tt) v → v ≡ verdict_of gap line

abbrev pub gap_of : {G : Type 0} → Watch G → ℕ
gap_of watch = watch.gap

-- the watch keeps a function that answers by its gap
abbrev pub IsWatch : {G : Type 0} → Shared G (Line × Unit {0}) Verdict → Watch G → Type 0
IsWatch calls watch = AnswersByGap calls watch.gap watch.function

-- ---- how many rounds a watch lets go

-- The lines that were there, and so many more, at most n. The watch said Go of each line but the
-- last, from the last that was there on.
pub record WentOn (gap n : ℕ) (old new : List Line) : Type 0 where
  pub more : ℕ
  pub many : length new ≡ length old + more
  pub most : more ≤ n
  pub begins : take (length old) new ≡ old
  pub went : (k : ℕ) (line : Line) → length old ≤ k + 1 → k + 1 < length new →
      slice_get new k ≡ Some line → verdict_of gap line ≡ Go

-- and there are n more, or it said Stop of the last line
pub record WasObeyed (gap n : ℕ) (old new : List Line) : Type 0 where
  pub went_on : WentOn gap n old new
  pub ended : length new < length old + n → (line : Line) →
      slice_get new (length new - 1) ≡ Some line → verdict_of gap line ≡ Stop
