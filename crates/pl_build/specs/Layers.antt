-- What comes into each layer of a procedure, where the layers of all blocks are counted together.
use Rattle.std.specs.Prelude.{ℕ, Bool, nat_eq, List, [], map, filter, slice_index_or}
use Rattle.pra_base.specs.declared.code.VProc.{VProc}
use Rattle.net_form.specs.declared.net.Net.{Net}
use Rattle.net_form.specs.Admitted.{layer_of}
use Rattle.net_form.specs.Flow.{Edge}
use Rattle.pl_moves.specs.declared.transfer.Pair.{Pair}
use Rattle.pl_place.specs.Behind.{Routed, pair_of}

-- code and its network, with no flow yet
abbrev pub unrouted : VProc → Net → Routed
unrouted code net = record { code = code; net = net; flow = [] }

abbrev pub comes_into : Net → ℕ → Edge → Bool
comes_into net n e = nat_eq (layer_of net e) n

-- what these edges bring into layer n
abbrev pub pairs_into : VProc → Net → ℕ → List Edge → List Pair
pairs_into code net n edges = map (pair_of (unrouted code net)) (filter (comes_into net n) edges)

-- the pairs of layer n in a list of layers
abbrev pub layer : List (List Pair) → ℕ → List Pair
layer layers n = slice_index_or layers n []
