-- What the strands of a variable pay together, and what they pay at least.
use Rattle.std.specs.Prelude.{◌≡◌, ℕ, ◌<◌, true, ℤ, ◌≤ℤ◌, List, length, slice_index, All, IsTrue}
use Rattle.std.specs.Prelude.{None}
use Rattle.pra_base.specs.declared.ids.Place.{Place}
use Rattle.pra_base.specs.Places.{number, allows, has_register, register_of}
use Rattle.net_cost.specs.declared.weights.Weights.{Weights}
use Rattle.net_form.specs.declared.net.Net.{Net}
use Rattle.net_form.specs.declared.net.Strand.{Strand}
use Rattle.net_form.specs.declared.routes.Routes.{Routes}
use Rattle.net_form.specs.declared.taken.Taken.{Taken}
use Rattle.net_form.specs.Admitted.{strand_at}
use Rattle.net_form.specs.InUse.{mark, UsesNothing}
use Rattle.net_form.specs.Rooms.{zero_prices}
use Rattle.net_laws.specs.Homes.{mask_in}
use Rattle.net_dual.specs.Paths.{MayGo, path_price, path_in}
use Rattle.net_dual.specs.Priced.{total, edge_price}
use Rattle.al_laws.specs.Parts.{layer_at}
use Rattle.al_laws.specs.Settled.{tied_ends}

-- what a path of strand s pays, in units of 1/1024 of a weight
abbrev pub free_price : Net → Weights → ℕ → List Place → ℤ
free_price net w s ps = path_price net (edge_price net w (zero_prices net)) s ps

-- what these strands pay together
abbrev pub sum_of : Net → Weights → Routes → List ℕ → ℤ
sum_of net w routes strands = total (λ s. free_price net w s (path_in routes s)) strands

-- past what is marked, and at place p at each of its ends that is tied
abbrev pub MayGoTied : Net → Taken → Place → ℕ → List Place → Type 0
MayGoTied net taken p s ps = MayGo net (tied_ends net p s) (UsesNothing net taken) s ps

-- However these strands go so, each pays at least so much, and in sum that is z or more.
pub record PayAtLeast (net : Net) (w : Weights) (taken : Taken) (strands : List ℕ) (p : Place)
    (z : ℤ) : Type 0 where
  pub costs : ℕ → ℤ
  pub least : All
      (λ s. (ps : List Place) → MayGoTied net taken p s ps → costs s ≤ℤ free_price net w s ps)
      strands
  pub in_sum : z ≤ℤ total costs strands

-- strand s goes so in the draft, as cheaply as it can
pub record IsDraft (net : Net) (w : Weights) (taken : Taken) (p : Place) (draft : Routes) (s : ℕ)
    : Type 0 where
  pub goes : MayGoTied net taken p s (path_in draft s)
  pub least : (ps : List Place) → MayGoTied net taken p s ps →
      free_price net w s (path_in draft s) ≤ℤ free_price net w s ps

-- one of these strands cannot go so at all
pub record IsShut (net : Net) (taken : Taken) (strands : List ℕ) (p : Place) : Type 0 where
  pub at : ℕ
  pub within : at < length strands
  pub none : (ps : List Place) → MayGoTied net taken p (slice_index strands at) ps → ⊥

-- the place is in the mask of strand s at layer l, and its register is not marked there
pub record IsOpenAt (net : Net) (taken : Taken) (s l : ℕ) (p : Place) : Type 0 where
  pub mask : IsTrue (allows (mask_in (strand_at net s) l) (number p))
  pub free : has_register (number p) ≡ true →
      mark taken.regs (layer_at net s l) (register_of (number p)) ≡ 0

-- no tie at either end
pub record IsUntied (t : Strand) : Type 0 where
  pub entry : t.entry_group ≡ None
  pub exit : t.exit_group ≡ None
