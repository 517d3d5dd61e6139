-- Registers at layers by one number, as prices are kept.
use Rattle.std.specs.Prelude.{ℕ, ◌+◌, ◌*◌, Bool, ◌&&◌, nat_eq}
use Rattle.pra_base.specs.Places.{number, has_register, register_of, register_count}
use Rattle.net_form.specs.declared.net.Net.{Net}
use Rattle.net_form.specs.Flow.{Edge}
use Rattle.net_form.specs.Admitted.{layer_of}

-- register r of layer n, where the layers of all blocks are counted together
abbrev pub bundle_key : ℕ → ℕ → ℕ
bundle_key n r = register_count * n + r

-- the register and the layer at which an edge arrives, if it comes to a register
abbrev pub bundle_of : Net → Edge → ℕ
bundle_of net e = bundle_key (layer_of net e) (register_of (number e.to))

-- it comes to the register and the layer of this number
abbrev pub comes_to_bundle : Net → ℕ → Edge → Bool
comes_to_bundle net k e = has_register (number e.to) && nat_eq (bundle_of net e) k
