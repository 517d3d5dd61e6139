-- What memory pairs add at the layers of a strand.
use Rattle.std.specs.Prelude.{◌≡◌, ◌≢◌, ℕ, ◌+◌, ◌^◌, ◌<◌, nat_eq, ℤ, pos, ◌+ℤ◌, ◌<ℤ◌, List, length}
use Rattle.std.specs.Prelude.{slice_index_or, false, map}
use Rattle.std.specs.List.{range_with_len, flat_map}
use Rattle.pra_base.specs.declared.ids.Place.TheVariants.{Mem}
use Rattle.pra_base.specs.Places.{number}
use Rattle.net_form.specs.declared.net.Net.{Net}
use Rattle.net_form.specs.Admitted.{strand_at}
use Rattle.net_form.specs.Index.{ends_at}
use Rattle.net_form.specs.declared.net.PairEnd.{PairEnd}
use Rattle.net_form.specs.declared.prices.Prices.{Prices}
use Rattle.net_form.specs.declared.taken.Taken.{Taken}
use Rattle.net_dual.specs.Priced.{total, pay, mem_price}
use Rattle.net_path.specs.declared.crossbar.Row.{Row}
use Rattle.net_path.specs.Rests.{unreached}
use Rattle.net_path.specs.Rows.{costs_at, IsAbout}
use Rattle.net_path.specs.Ways.{at}

-- the ends of a strand, by its layers
abbrev pub strand_ends : Net → ℕ → List PairEnd
strand_ends net s =
    map (λ e. e.at)
    (flat_map (ends_at net.pairs s)
    (range_with_len (strand_at net s).first (length (strand_at net s).masks)))

-- a sum over the ends at a layer, by the number of their pair
abbrev pub ends_sum : (ℕ → ℤ) → ℕ → List PairEnd → ℤ
ends_sum g l es = total (λ e. pay (nat_eq e.layer l) (g e.pair)) es

-- 1 where the pair is in use, else 0
abbrev pub busy : Taken → ℕ → ℤ
busy taken k = pay (slice_index_or taken.mems k false) (pos 1)

abbrev pub mem_number : Prices → ℕ → ℤ
mem_number prices k = pos (mem_price prices k)

-- what memory costs at layer l, where these ends are there: it is closed where a pair is in use
pub record IsMemory (prices : Prices) (taken : Taken) (l : ℕ) (es : List PairEnd) (old z : ℤ)
    : Type 0 where
  pub shut : old ≡ unreached → z ≡ unreached
  pub in_use : pos 0 <ℤ ends_sum (busy taken) l es → z ≡ unreached
  pub free : IsAbout (2 ^ 44) old → ends_sum (busy taken) l es ≡ pos 0 →
      z ≡ old +ℤ ends_sum (mem_number prices) l es

-- memory alone changes, at each of n layers
pub record IsMemoryRow (prices : Prices) (taken : Taken) (l : ℕ) (es : List PairEnd)
    (old new : List ℤ) : Type 0 where
  pub others : (q : ℕ) → q ≢ number Mem → at new q ≡ at old q
  pub memory : IsMemory prices taken l es (at old (number Mem)) (at new (number Mem))

abbrev pub AreMemoryRows : Prices → Taken → ℕ → List PairEnd → List Row → List Row → Type 0
AreMemoryRows prices taken first es old new =
    (k : ℕ) → k < length old →
    IsMemoryRow prices taken (first + k) es (costs_at old k) (costs_at new k)

-- one end more
pub record IsOneEnd (closed : ℤ) (price old z : ℤ) : Type 0 where
  pub shut : old ≡ unreached → z ≡ unreached
  pub in_use : pos 0 <ℤ closed → z ≡ unreached
  pub free : closed ≡ pos 0 → old <ℤ pos (2 ^ 61) → z ≡ old +ℤ price
