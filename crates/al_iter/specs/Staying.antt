-- Paths that stay in memory for nothing, and what uses nothing.
use Rattle.std.specs.Prelude.{◌≡◌, ◌<◌, ℕ, List, length, All, IsTrue}
use Rattle.pra_base.specs.declared.ids.Place.{Place}
use Rattle.pra_base.specs.declared.ids.Place.TheVariants.{Mem}
use Rattle.net_form.specs.declared.net.Net.{Net}
use Rattle.net_form.specs.declared.routes.Ends.{Ends}
use Rattle.net_form.specs.Flow.{Edge}
use Rattle.net_form.specs.InUse.{register_uses, pair_uses}
use Rattle.net_path.specs.Grounds.{wants}
use Rattle.net_path.specs.Passing.{PassesBy}

-- strand s passes by, its path stays in memory, and its ends may be there
pub record StaysFree (net : Net) (ends : Ends) (s : ℕ) (ps : List Place) : Type 0 where
  pub by : PassesBy net s
  pub memory : All (λ p. p ≡ Mem) ps
  pub first : IsTrue (wants ends.first Mem)
  pub last : IsTrue (wants ends.last Mem)

-- these edges come to no register, and bring no end of a pair to memory
pub record UseNothing (net : Net) (f : List Edge) : Type 0 where
  pub registers : (n r : ℕ) → register_uses net f n r ≡ 0
  pub pairs : (k : ℕ) → k < length net.pairs → pair_uses net f k ≡ 0
