-- The terrain of a strand: where it may be at its layers, and what its edges pay.
use Rattle.std.specs.Prelude.{ℕ, ◌+◌, ◌*◌, Bool, ◌&&◌, ◌||◌, not, true, nat_eq, ℤ, pos, ◌+ℤ◌, ◌-ℤ◌}
use Rattle.std.specs.Prelude.{Option, None, Some, slice_index_or, count_by, false}
use Rattle.net_form.specs.InUse.{mark}
use Rattle.std.specs.List.{enumerate_from}
use Rattle.pra_base.specs.Places.{number, has_register, register_of}
use Rattle.net_form.specs.declared.taken.Taken.{Taken}
use Rattle.pra_base.specs.declared.ids.Place.{Place}
use Rattle.net_cost.specs.declared.weights.Weights.{Weights}
use Rattle.net_form.specs.declared.net.Strand.{Strand}
use Rattle.net_form.specs.declared.net.Net.{Net}
use Rattle.net_form.specs.declared.prices.Prices.{Prices}
use Rattle.net_form.specs.declared.routes.Ends.{Ends}
use Rattle.net_form.specs.Flow.{Edge, same_place}
use Rattle.net_form.specs.Admitted.{strand_at, in_mask, stays_across, layer_of, uses_memory}
use Rattle.net_form.specs.Cost.{way_cost, extras_cost}
use Rattle.net_form.specs.Tables.{all_tables}
use Rattle.net_dual.specs.Priced.{price_unit, cap_part, mem_part, exit_part, entry_part}
use Rattle.net_path.specs.Rests.{Terrain}

-- strand s comes from a place to another at layer l
abbrev pub edge : ℕ → ℕ → Option Place → Place → Edge
edge s l p q = record { strand = s; layer = l; from = p; to = q }

-- the place is the one that is wanted, if any is
abbrev pub wants : Option Place → Place → Bool
wants None q = true
wants (Some p) q = same_place p q

-- where the strand begins and ends it is where that is wanted
abbrev pub suits_ends : Ends → Strand → Edge → Bool
suits_ends ends t e =
    (not (nat_eq e.layer t.first) || wants ends.first e.to) &&
    (not (nat_eq e.layer t.last) || wants ends.last e.to)

-- nothing that the edge comes to is in use
abbrev pub register_free : Net → Taken → Edge → Bool
register_free net taken e =
    not (has_register (number e.to)) ||
    nat_eq (mark taken.regs (layer_of net e) (register_of (number e.to))) 0

abbrev pub pairs_in_use : Net → Taken → Edge → ℕ
pairs_in_use net taken e =
    count_by (λ m. uses_memory m.1 e && slice_index_or taken.mems m.0 false)
    (enumerate_from 0 net.pairs)

abbrev pub pairs_free : Net → Taken → Edge → Bool
pairs_free net taken e = nat_eq (pairs_in_use net taken e) 0

abbrev pub is_free : Net → Taken → Edge → Bool
is_free net taken e = register_free net taken e && pairs_free net taken e

abbrev pub is_open : Net → Ends → (Edge → Bool) → ℕ → Edge → Bool
is_open net ends free s e = in_mask net e && suits_ends ends (strand_at net s) e && free e

-- what an edge pays besides its way, in units of 1/1024
abbrev pub there_price : Net → Weights → Prices → Edge → ℤ
there_price net w prices e =
    (pos (price_unit * extras_cost net w e.strand e.layer e.to) +ℤ
    (cap_part net prices e +ℤ mem_part net prices e)) +ℤ
    (exit_part net prices e -ℤ entry_part net prices e)

-- layer k of the strand
abbrev pub layer : Net → ℕ → ℕ → ℕ
layer net s k = (strand_at net s).first + k

abbrev pub terrain : Net → Weights → Prices → Ends → (Edge → Bool) → ℕ → Terrain
terrain net w prices ends free s = record {
  is_open = λ k q. is_open net ends free s (edge s (layer net s k) None q);
  may_come = λ k p q. stays_across (edge s (layer net s k) p q);
  way = λ k p q. pos (price_unit * way_cost all_tables net w (edge s (layer net s k) p q));
  cell = λ k q. there_price net w prices (edge s (layer net s k) None q);
}
