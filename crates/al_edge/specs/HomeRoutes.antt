-- Where home routes put strands.
use Rattle.std.specs.Prelude.{◌≡◌, ◌≢◌, ◌⊎◌, ℕ, true, false, Some, Contains}
use Rattle.pra_base.specs.declared.ids.Place.{Place}
use Rattle.pra_base.specs.declared.ids.Place.TheVariants.{Mem, Const}
use Rattle.pra_base.specs.Places.{number, allows}
use Rattle.net_form.specs.declared.net.MemPair.{MemPair}
use Rattle.net_form.specs.declared.net.Net.{Net}
use Rattle.net_form.specs.declared.routes.Routes.{Routes}
use Rattle.net_form.specs.Strands.{across}
use Rattle.net_form.specs.Admitted.{strand_at}
use Rattle.net_form.specs.Cost.{route_at}
use Rattle.net_laws.specs.Homes.{passes, mask_in, allowed}

-- Why strand s, which is no constant, is elsewhere than in memory at layer l:
pub data IsAway (net : Net) (routes : Routes) (s l : ℕ) : Type 0 where
  -- its mask has no memory there,
  unfit : allows (mask_in (strand_at net s) l) (number Mem) ≡ false → IsAway net routes s l
  -- or it stays in its place across an instruction, and its mask has none on the other side,
  unfit_across : passes (strand_at net s) l ≡ true →
      allows (mask_in (strand_at net s) (across l)) (number Mem) ≡ false → IsAway net routes s l
  -- or it is the right end of the instruction's memory pair, whose left end is in memory
  yields : (m : MemPair) → Contains net.pairs m → m.right ≡ s →
      (m.right_layer ≡ l) ⊎ ((passes (strand_at net s) l ≡ true) × (m.right_layer ≡ across l)) →
      route_at net routes m.left m.left_layer ≡ Some Mem → IsAway net routes s l

-- Whoever is no constant is in memory but for these causes, and a constant stands nowhere wherever
-- it may.
pub record AreHome (net : Net) (routes : Routes) : Type 0 where
  pub values : (s l : ℕ) (p : Place) → route_at net routes s l ≡ Some p →
      (strand_at net s).constant ≡ false → p ≢ Mem → IsAway net routes s l
  pub constants : (s l : ℕ) (p : Place) → route_at net routes s l ≡ Some p →
      (strand_at net s).constant ≡ true →
      allows (allowed (strand_at net s) l) (number Const) ≡ true → p ≡ Const
