-- What is empty: nothing in use, prices of nothing, and how large they are.
use Rattle.std.specs.Prelude.{◌≡◌, ℕ, ◌*◌, pos, false, List, map, length, replicate, sum_by}
use Rattle.pra_base.specs.declared.ids.Place.TheVariants.{Eax}
use Rattle.net_form.specs.declared.net.NetBlock.{NetBlock}
use Rattle.net_form.specs.declared.net.Net.{Net}
use Rattle.net_form.specs.declared.routes.Routes.{Routes}
use Rattle.net_form.specs.declared.prices.Prices.{Prices}
use Rattle.net_form.specs.declared.taken.Taken.{Taken}
use Rattle.net_form.specs.declared.taken.Spare.{Spare}

-- the layers of all blocks together
abbrev pub layer_total : List NetBlock → ℕ
layer_total blocks = sum_by (λ b. b.layers) blocks

-- the places that have a tie number: all but the constant itself
abbrev pub tie_numbers : ℕ
tie_numbers = 13

abbrev pub empty_taken : Net → Taken
empty_taken net = record {
  regs = replicate (layer_total net.blocks) 0;
  mems = replicate (length net.pairs) false;
}

-- it has an entry for each layer and for each memory pair
pub record IsRoomOf (net : Net) (taken : Taken) : Type 0 where
  pub regs : length taken.regs ≡ layer_total net.blocks
  pub mems : length taken.mems ≡ length net.pairs

abbrev pub zero_prices : Net → Prices
zero_prices net = record {
  caps = replicate (6 * layer_total net.blocks) 0;
  mems = replicate (length net.pairs) 0;
  ties = replicate (tie_numbers * length net.ties) (pos 0);
}

-- some place for each layer of each strand
abbrev pub some_routes : Net → Routes
some_routes net = record { places = map (λ t. replicate (length t.masks) Eax) net.strands }

abbrev pub empty_spare : Net → Spare
empty_spare net = record {
  taken = empty_taken net;
  routes = some_routes net;
  zero = zero_prices net;
}
