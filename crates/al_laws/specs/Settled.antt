-- Routes that no change of one strand, or of one variable, makes cheaper while all else stays.
use Rattle.std.specs.Prelude.{◌≡◌, ◌⊎◌, ℕ, ◌+◌, ◌-◌, ◌<◌, ◌≤◌, Bool, true, nat_eq, if◌then◌else◌}
use Rattle.std.specs.Prelude.{List, length, slice_get, slice_index_or, Some, None, is_some}
use Rattle.std.specs.Prelude.{ℤ, ◌≤ℤ◌}
use Rattle.std.specs.List.{range_with_len}
use Rattle.pra_base.specs.declared.ids.Place.{Place}
use Rattle.net_cost.specs.declared.weights.Weights.{Weights}
use Rattle.net_form.specs.declared.net.Net.{Net}
use Rattle.net_form.specs.declared.routes.Ends.{Ends}
use Rattle.net_form.specs.declared.routes.Routes.{Routes}
use Rattle.net_form.specs.Flow.{Edge, flow, AreRoutes}
use Rattle.net_form.specs.Admitted.{strand_at, IsAdmitted}
use Rattle.net_form.specs.Cost.{cost_in}
use Rattle.net_form.specs.Formed.{no_block}
use Rattle.net_form.specs.InUse.{pair_at, register_uses, pair_uses}
use Rattle.net_form.specs.Rooms.{zero_prices}
use Rattle.net_dual.specs.Paths.{IsPath, HasEnds, MayGo, path_price, path_in}
use Rattle.net_dual.specs.Priced.{total, pay, edge_price}
use Rattle.al_laws.specs.Parts.{layer_at, ClearOf, rest, only_strand, of_variable, with_path}
use Rattle.al_laws.specs.Parts.{AgreeBut}

-- the strand begins at the entry of its block, and ends at the exit
abbrev pub is_at_entry : Net → ℕ → Bool
is_at_entry net s = nat_eq (strand_at net s).first 0

abbrev pub is_at_exit : Net → ℕ → Bool
is_at_exit net s =
    let t = strand_at net s in
    nat_eq (t.last + 1) (slice_index_or net.blocks t.block.0 no_block).layers

-- where its path is at the entry and at the exit
abbrev pub block_ends : Net → Routes → ℕ → Ends
block_ends net routes s =
    let ps = path_in routes s in record {
      first = if is_at_entry net s then slice_get ps 0 else None;
      last = if is_at_exit net s then slice_get ps (length ps - 1) else None;
    }

-- No other path with the same places at the block's entry and exit, that leaves the whole admitted,
-- makes it cheaper.
abbrev pub IsStrandSettled : Net → Weights → Routes → ℕ → Type 0
IsStrandSettled net w routes s =
    (ps : List Place) → IsPath net s ps → HasEnds (block_ends net routes s) ps →
    IsAdmitted net (flow net (with_path routes s ps)) →
    cost_in net w routes ≤ cost_in net w (with_path routes s ps)

-- place p at each end of the strand that is in a tie group
abbrev pub tied_ends : Net → Place → ℕ → Ends
tied_ends net p s =
    let t = strand_at net s in record {
      first = if is_some t.entry_group then Some p else None;
      last = if is_some t.exit_group then Some p else None;
    }

-- No other paths of the variable, at one place wherever it is tied, that leave the whole admitted,
-- make it cheaper.
abbrev pub IsVariableSettled : Net → Weights → Routes → ℕ → Type 0
IsVariableSettled net w routes v =
    (new : Routes) (p : Place) → AreRoutes net new → AgreeBut (of_variable net v) new routes →
    ((s : ℕ) → s < length net.strands → of_variable net v s ≡ true →
    HasEnds (tied_ends net p s) (path_in new s)) →
    IsAdmitted net (flow net new) → cost_in net w routes ≤ cost_in net w new

pub record AreSettled (net : Net) (w : Weights) (routes : Routes) : Type 0 where
  pub are_routes : AreRoutes net routes
  pub admitted : IsAdmitted net (flow net routes)
  pub strands : (s : ℕ) → s < length net.strands → IsStrandSettled net w routes s
  pub variables : (v : ℕ) → IsVariableSettled net w routes v

-- ---- what shows that nothing is cheaper

-- what the strands of variable v pay in these routes, at prices of nothing
abbrev pub variable_price : Net → Weights → Routes → ℕ → ℤ
variable_price net w routes v =
    total
    (λ s. pay (of_variable net v s)
    (path_price net (edge_price net w (zero_prices net)) s (path_in routes s)))
    (range_with_len 0 (length net.strands))

-- However the strands of the variable go, past all others and at place p wherever they are tied,
-- each pays at least so much, and in sum that is no less than they pay.
pub record NoneCheaperAt (net : Net) (w : Weights) (routes : Routes) (v : ℕ) (p : Place)
    : Type 0 where
  pub costs : ℕ → ℤ
  pub least : (s : ℕ) (ps : List Place) → s < length net.strands → of_variable net v s ≡ true →
      MayGo net (tied_ends net p s) (ClearOf net (rest net (of_variable net v) routes)) s ps →
      costs s ≤ℤ path_price net (edge_price net w (zero_prices net)) s ps
  pub in_sum : variable_price net w routes v ≤ℤ
      total (λ s. pay (of_variable net v s) (costs s)) (range_with_len 0 (length net.strands))

-- However the strand goes, past all others and with its places at entry and exit, it pays no less.
abbrev pub NoneCheaper : Net → Weights → Routes → ℕ → Type 0
NoneCheaper net w routes s =
    (ps : List Place) →
    MayGo net (block_ends net routes s) (ClearOf net (rest net (only_strand s) routes)) s ps →
    path_price net (edge_price net w (zero_prices net)) s (path_in routes s) ≤ℤ
    path_price net (edge_price net w (zero_prices net)) s ps

-- ---- what may have become cheaper

-- of what strand s could use, nothing that the flow `was` used is free of the flow `now`
pub record NothingFreed (net : Net) (s : ℕ) (was now : List Edge) : Type 0 where
  pub registers : (l r : ℕ) → (strand_at net s).first ≤ l → l ≤ (strand_at net s).last →
      register_uses net now (layer_at net s l) r ≡ 0 →
      register_uses net was (layer_at net s l) r ≡ 0
  pub pairs : (k : ℕ) → k < length net.pairs →
      ((pair_at net k).left ≡ s) ⊎ ((pair_at net k).right ≡ s) → pair_uses net now k ≡ 0 →
      pair_uses net was k ≡ 0
