-- What holds while strands are given their paths one after the other.
use Rattle.std.specs.Prelude.{◌≡◌, ℕ, ◌+◌, ◌-◌, ◌<◌, true, false, List, [], length, count_by}
use Rattle.std.specs.Prelude.{slice_index_or}
use Rattle.pra_base.specs.declared.ids.Place.{Place}
use Rattle.pra_base.specs.declared.ids.Place.TheVariants.{Mem}
use Rattle.pra_base.specs.Places.{number, allows, is_register}
use Rattle.net_form.specs.declared.net.Net.{Net}
use Rattle.net_form.specs.Flow.{flow_from}
use Rattle.net_form.specs.Strands.{across}
use Rattle.net_form.specs.Admitted.{strand_at, uses_bundle}
use Rattle.net_form.specs.Rooms.{layer_total}
use Rattle.net_form.specs.InUse.{mark}
use Rattle.net_laws.specs.Homes.{is_there, passes, allowed, home_of, needs_register}

-- A place of strand x at layer l: one that it may be at, its home where it can be at home, else a
-- register.
pub record IsGood (net : Net) (x l : ℕ) (p : Place) : Type 0 where
  pub inside : allows (allowed (strand_at net x) l) (number p) ≡ true
  pub kept : needs_register net x l ≡ false → p ≡ home_of (strand_at net x)
  pub moved : needs_register net x l ≡ true → is_register (number p) ≡ true

-- A path of strand x, which stays in its place across instructions.
pub record IsHomePath (net : Net) (x : ℕ) (path : List Place) : Type 0 where
  pub long : (strand_at net x).first + length path ≡ (strand_at net x).last + 1
  pub good : (l : ℕ) → is_there (strand_at net x) l ≡ true →
      IsGood net x l (slice_index_or path (l - (strand_at net x).first) Mem)
  pub stays : (l : ℕ) → is_there (strand_at net x) l ≡ true → passes (strand_at net x) l ≡ true →
      slice_index_or path (l - (strand_at net x).first) Mem ≡
      slice_index_or path (across l - (strand_at net x).first) Mem

-- The first s strands have paths, and what they use is marked, each register once.
pub record IsSoFar (net : Net) (regs : List ℕ) (paths : List (List Place)) (s : ℕ) : Type 0 where
  pub room : length regs ≡ layer_total net.blocks
  pub count : length paths ≡ s
  pub marks : (n r : ℕ) →
      mark regs n r ≡ count_by (uses_bundle net n r) (flow_from 0 net.strands paths)
  pub placed : (x : ℕ) → x < length paths → IsHomePath net x (slice_index_or paths x [])
