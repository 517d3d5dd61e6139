-- Strands that pass by in memory, and what that costs.
use Rattle.std.specs.Prelude.{◌≡◌, ℕ, ◌+◌, ◌<◌, false, ℤ, pos, ◌+ℤ◌, ◌-ℤ◌, ◌≤ℤ◌, List}
use Rattle.std.specs.Prelude.{All, IsTrue, Option, None, slice_index, length}
use Rattle.pra_base.specs.declared.ids.Place.{Place}
use Rattle.pra_base.specs.declared.ids.Place.TheVariants.{Mem}
use Rattle.pra_base.specs.Places.{number, allows}
use Rattle.net_cost.specs.declared.weights.Weights.{Weights}
use Rattle.net_cost.specs.Weights.{IsValid}
use Rattle.net_form.specs.declared.net.Net.{Net}
use Rattle.net_form.specs.declared.prices.Prices.{Prices}
use Rattle.net_form.specs.declared.routes.Ends.{Ends}
use Rattle.net_form.specs.declared.taken.Taken.{Taken}
use Rattle.net_form.specs.Admitted.{strand_at}
use Rattle.net_form.specs.InUse.{UsesNothing}
use Rattle.net_dual.specs.Priced.{edge_price, exit_part, entry_part}
use Rattle.net_dual.specs.Paths.{IsLeast, path_price}
use Rattle.net_path.specs.Grounds.{edge, wants}

-- it is no constant, meets no extra, has no end of a memory pair, and may be in memory all along
pub record PassesBy (net : Net) (s : ℕ) : Type 0 where
  pub value : (strand_at net s).constant ≡ false
  pub extras : slice_index net.index.extras (s + 1) ≡ slice_index net.index.extras s
  pub pairs : slice_index net.index.pairs (s + 1) ≡ slice_index net.index.pairs s
  pub masks : All (λ m. IsTrue (allows m (number Mem))) (strand_at net s).masks

-- the layers of a strand that passes by; 0 says nothing
pub record IsNote (net : Net) (s note : ℕ) : Type 0 where
  pub by : 0 < note → PassesBy net s
  pub layers : 0 < note → note ≡ length (strand_at net s).masks

pub record AreNotes (net : Net) (notes : List ℕ) : Type 0 where
  pub long : length notes ≡ length net.strands
  pub each : (s : ℕ) → s < length net.strands → IsNote net s (slice_index notes s)

-- what its ties have a strand pay at its last layer, and at its first
abbrev pub exit_pay : Net → Prices → ℕ → Place → ℤ
exit_pay net prices s q = exit_part net prices (edge s (strand_at net s).last None q)

abbrev pub entry_pay : Net → Prices → ℕ → Place → ℤ
entry_pay net prices s q =
    pos 0 -ℤ entry_part net prices (edge s (strand_at net s).first None q)

-- an end may be in memory, and pays z there, no more than at any place that it may be
pub record AsksLeast (end : Option Place) (pays : Place → ℤ) (z : ℤ) : Type 0 where
  pub suits : IsTrue (wants end Mem)
  pub least : (q : Place) → IsTrue (wants end q) → z ≤ℤ pays q
  pub is : z ≡ pays Mem

-- both ends of a strand ask no more of it in memory than elsewhere, and z in all
pub record AsksLeastInAll (net : Net) (prices : Prices) (ends : Ends) (s : ℕ) (z : ℤ)
    : Type 0 where
  pub exit : ℤ
  pub entry : ℤ
  pub at_exit : AsksLeast ends.last (exit_pay net prices s) exit
  pub at_entry : AsksLeast ends.first (entry_pay net prices s) entry
  pub is : z ≡ exit +ℤ entry

-- a least path at a price of z, whatever events weigh and whatever is in use
pub record IsLeastAnyhow (net : Net) (prices : Prices) (ends : Ends) (s : ℕ) (ps : List Place) (z : ℤ)
    : Type 0 where
  pub least : (w : Weights) (taken : Taken) → IsValid w →
      IsLeast net (edge_price net w prices) ends (UsesNothing net taken) s ps
  pub cost : (w : Weights) → IsValid w → z ≡ path_price net (edge_price net w prices) s ps
