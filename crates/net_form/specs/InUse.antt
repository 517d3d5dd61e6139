-- What is in use: a bit for each register of each layer, a mark for each memory pair. What edges
-- use of that, and which flow it stands for.
use Rattle.std.specs.Prelude.{◌≡◌, ◌⊎◌, ℕ, ◌+◌, ◌-◌, ◌<◌, ◌≤◌, Bool, true, false, ◌&&◌, nat_eq, min}
use Rattle.std.specs.Prelude.{if◌then◌else◌, List, All, count_by, length, slice_index}
use Rattle.std.specs.Prelude.{slice_index_or}
use Rattle.std.specs.Int.{bit_at}
use Rattle.pra_base.specs.declared.ids.Place.{Place}
use Rattle.pra_base.specs.declared.ids.Place.TheVariants.{Mem}
use Rattle.pra_base.specs.Places.{number, has_register, register_of, is_mem}
use Rattle.net_form.specs.declared.net.MemPair.{MemPair}
use Rattle.net_form.specs.declared.net.PairEnd.{PairEnd}
use Rattle.net_form.specs.declared.net.Net.{Net}
use Rattle.net_form.specs.declared.taken.Taken.{Taken}
use Rattle.net_form.specs.Flow.{Edge}
use Rattle.net_form.specs.Admitted.{layer_of, in_register, uses_bundle, uses_memory}

-- 1 where register r of layer n is marked, else 0
abbrev pub mark : List ℕ → ℕ → ℕ → ℕ
mark regs n r = bit_at (slice_index regs n) r

-- 1 where memory pair k is marked, else 0
abbrev pub pair_mark : List Bool → ℕ → ℕ
pair_mark mems k = if slice_index_or mems k false then 1 else 0

-- 1 where who comes to that place at that layer is in register r of layer n, else 0
abbrev pub lands_in : ℕ → Place → ℕ → ℕ → ℕ
lands_in layer to n r = if nat_eq layer n && in_register r to then 1 else 0

-- where there is no memory pair
abbrev pub no_pair : MemPair
no_pair = record { left = 0; left_layer = 0; right = 0; right_layer = 0 }

abbrev pub pair_at : Net → ℕ → MemPair
pair_at net k = slice_index_or net.pairs k no_pair

-- how often edges come to register r of layer n, and bring an end of pair k to memory
abbrev pub register_uses : Net → List Edge → ℕ → ℕ → ℕ
register_uses net f n r = count_by (uses_bundle net n r) f

abbrev pub pair_uses : Net → List Edge → ℕ → ℕ
pair_uses net f k = count_by (uses_memory (pair_at net k)) f

-- each register of a layer and each memory pair once at most
pub record UsesOnce (net : Net) (f : List Edge) : Type 0 where
  pub registers : (n r : ℕ) → register_uses net f n r ≤ 1
  pub pairs : (k : ℕ) → k < length net.pairs → pair_uses net f k ≤ 1

-- no register of a layer and no memory pair is used by both
pub record AreApart (net : Net) (f g : List Edge) : Type 0 where
  pub registers : (n r : ℕ) → (register_uses net f n r ≡ 0) ⊎ (register_uses net g n r ≡ 0)
  pub pairs : (k : ℕ) → k < length net.pairs →
      (pair_uses net f k ≡ 0) ⊎ (pair_uses net g k ≡ 0)

-- ---- what is marked, and flows

-- bits and marks count what the flow uses
pub record StandsFor (net : Net) (taken : Taken) (g : List Edge) : Type 0 where
  pub registers : (n r : ℕ) → mark taken.regs n r ≡ register_uses net g n r
  pub pairs : (k : ℕ) → k < length net.pairs → pair_mark taken.mems k ≡ pair_uses net g k

-- none of the edges comes to anything that is marked
pub record UsesNothing (net : Net) (taken : Taken) (f : List Edge) : Type 0 where
  pub registers : All
      (λ e. has_register (number e.to) ≡ true →
      mark taken.regs (layer_of net e) (register_of (number e.to)) ≡ 0) f
  pub pairs : (k : ℕ) → k < length net.pairs →
      All (λ e. uses_memory (pair_at net k) e ≡ true → pair_mark taken.mems k ≡ 0) f

-- what a mark is, taken or released so many times
abbrev pub after : Bool → ℕ → ℕ → ℕ
after true old uses = min 1 (old + uses)
after false old uses = old - uses

-- what the edges use is marked too
pub record Takes (net : Net) (f : List Edge) (old new : Taken) : Type 0 where
  pub registers : (n r : ℕ) →
      mark new.regs n r ≡ min 1 (mark old.regs n r + register_uses net f n r)
  pub pairs : (k : ℕ) → k < length net.pairs →
      pair_mark new.mems k ≡ min 1 (pair_mark old.mems k + pair_uses net f k)

-- what the edges use is marked no more
pub record Releases (net : Net) (f : List Edge) (old new : Taken) : Type 0 where
  pub registers : (n r : ℕ) →
      mark new.regs n r ≡ mark old.regs n r - register_uses net f n r
  pub pairs : (k : ℕ) → k < length net.pairs →
      pair_mark new.mems k ≡ pair_mark old.mems k - pair_uses net f k

-- a path that begins at layer `first` is in memory at layer l
abbrev pub in_memory : List Place → ℕ → ℕ → Bool
in_memory path first l = is_mem (number (slice_index_or path (l - first) Mem))

-- an end of pair k, at a layer of which the test says that memory is there
abbrev pub brings_end : (ℕ → Bool) → ℕ → PairEnd → Bool
brings_end at_mem k e = nat_eq e.pair k && at_mem e.layer
