-- An empty room is large enough.
use Rattle.std.proofs.Common.{◌≡◌, ℕ, zero, suc, ◌<◌, List, [], ◌∷◌, length, map, replicate, get_or}
use Rattle.std.proofs.Common.{refl, arith, false}
use Rattle.std.proofs.lemmas.List.{length-replicate, length-map}
use Rattle.pra_base.specs.declared.ids.Place.TheVariants.{Eax}
use Rattle.net_form.specs.declared.net.Net.{Net}
use Rattle.net_form.specs.declared.net.Strand.{Strand}
use Rattle.net_form.specs.Admitted.{no_strand}
use Rattle.net_form.specs.Rooms.{empty_spare, layer_total}
use Rattle.al_iter.specs.Room.{IsSpareOf}

each_size : (strands : List Strand) (s : ℕ) → s < length strands
    → length (get_or (map (λ t. replicate (length t.masks) Eax) strands) s [])
    ≡ length (get_or strands s no_strand).masks
each_size [] s lt = absurd (omega (arith, lt))
each_size (t ∷ ts) zero lt = length-replicate (length t.masks) Eax
each_size (t ∷ ts) (suc s) lt = each_size ts s (omega (arith, lt))

pub room_of : (net : Net) → IsSpareOf net (empty_spare net)
room_of net = record {
  taken = record {
    regs = length-replicate (layer_total net.blocks) 0;
    mems = length-replicate (length net.pairs) false;
  };
  routes = record {
    many = length-map net.strands _;
    each = each_size net.strands;
  };
  zero = refl;
}
