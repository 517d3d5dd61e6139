-- The free bound of the network of a small code.
use Rattle.std.proofs.Common.{ℕ, zero, suc, ◌<◌, ◌≡◌, Bool, true, ◌&&◌, ℤ, pos, ◌≤ℤ◌, List, [], ◌∷◌}
use Rattle.std.proofs.Common.{All, None, refl, sym, arith, true≢false}
use Rattle.std.specs.Prelude.{IsTrue}
use Rattle.std.proofs.lemmas.Int.{ints}
use Rattle.std.proofs.lemmas.Bool.{and_parts}
use Rattle.std.proofs.lemmas.List.Elements.{All-nil, All-cons, All-head}
use Rattle.pra_base.specs.declared.ids.Place.{Place}
use Rattle.pra_base.specs.declared.ids.Place.TheVariants.{Eax, Ecx, Edx, Ebx, Esi, Edi, Mem, Const}
use Rattle.pra_base.specs.declared.ids.Place.TheVariants.{EaxM, EcxM, EdxM, EbxM, EsiM, EdiM}
use Rattle.net_cost.specs.Weights.{size_weights}
use Rattle.net_form.specs.Flow.{Edge}
use Rattle.net_form.specs.Admitted.{in_mask, stays_across}
use Rattle.net_form.specs.Examples.{set_add_write_net, in_register_routes}
use Rattle.net_form.specs.Rooms.{zero_prices}
use Rattle.net_dual.specs.Priced.{cost_by_weights}
use Rattle.net_dual.specs.Paths.{path_edges, path_price, IsPath, IsLeast, AreLeast, any_ends}
use Rattle.net_dual.specs.Paths.{Anywhere, path_in}
use Rattle.net_dual.specs.Value.{IsFreeBound, IsLagrange}
use Rattle.net_dual.proofs.Duality.{anywhere}
use Rattle.net_dual.proofs.FreeBound.{cost_path, free_bound}

abbrev cost : Edge → ℕ
cost = cost_by_weights set_add_write_net size_weights

abbrev price : Edge → ℤ
price e = pos (cost e)

-- every edge of a list that is written out passes
abbrev passes : (Edge → Bool) → List Edge → Bool
passes p [] = true
passes p (e ∷ es) = p e && passes p es

each_passes : (p : Edge → Bool) (es : List Edge) → passes p es ≡ true → All (λ e. IsTrue (p e)) es
each_passes p [] h = All-nil _
each_passes p (e ∷ es) h =
    let parts = and_parts (p e) (passes p es) h in
    All-cons (λ e. IsTrue (p e)) e es parts.0 (each_passes p es parts.1)

-- strand 0 in EAX pays nothing
in_eax : IsPath set_add_write_net 0 (Eax ∷ Eax ∷ Eax ∷ Eax ∷ [])
in_eax = record {
  long = refl;
  masks = each_passes (in_mask set_add_write_net)
      (path_edges set_add_write_net 0 (Eax ∷ Eax ∷ Eax ∷ Eax ∷ [])) refl;
  across = each_passes stays_across (path_edges set_add_write_net 0 (Eax ∷ Eax ∷ Eax ∷ Eax ∷ []))
      refl;
}

first_least : IsLeast set_add_write_net price any_ends Anywhere 0 (Eax ∷ Eax ∷ Eax ∷ Eax ∷ [])
first_least = record {
  goes = anywhere set_add_write_net 0 (Eax ∷ Eax ∷ Eax ∷ Eax ∷ []) in_eax;
  least = λ qs goes.
      let own : path_price set_add_write_net price 0 (Eax ∷ Eax ∷ Eax ∷ Eax ∷ []) ≡ pos 0 = refl in
      let other = cost_path set_add_write_net cost 0 qs in
      omega (arith, ints, own, other);
}

-- strand 1 as an immediate pays 1, and at a register 5
as_number : IsPath set_add_write_net 1 (Const ∷ [])
as_number = record {
  long = refl;
  masks = each_passes (in_mask set_add_write_net) (path_edges set_add_write_net 1 (Const ∷ []))
      refl;
  across = each_passes stays_across (path_edges set_add_write_net 1 (Const ∷ [])) refl;
}

at_least : (q : Place)
    → IsTrue (in_mask set_add_write_net (record { strand = 1; layer = 3; from = None; to = q }))
    → pos 1 ≤ℤ path_price set_add_write_net price 1 (q ∷ [])
at_least Eax h = omega (arith, ints)
at_least Ecx h = omega (arith, ints)
at_least Edx h = omega (arith, ints)
at_least Ebx h = omega (arith, ints)
at_least Esi h = omega (arith, ints)
at_least Edi h = omega (arith, ints)
at_least Mem h = absurd (true≢false (sym h))
at_least Const h = omega (arith, ints)
at_least EaxM h = absurd (true≢false (sym h))
at_least EcxM h = absurd (true≢false (sym h))
at_least EdxM h = absurd (true≢false (sym h))
at_least EbxM h = absurd (true≢false (sym h))
at_least EsiM h = absurd (true≢false (sym h))
at_least EdiM h = absurd (true≢false (sym h))

each_least : (qs : List Place) → IsPath set_add_write_net 1 qs
    → pos 1 ≤ℤ path_price set_add_write_net price 1 qs
each_least [] path = let long = path.long in absurd (omega (arith, long))
each_least (q ∷ []) path = at_least q (All-head (λ e. IsTrue (in_mask set_add_write_net e)) _ []
    path.masks)
each_least (q ∷ r ∷ qs) path = let long = path.long in absurd (omega (arith, long))

second_least : IsLeast set_add_write_net price any_ends Anywhere 1 (Const ∷ [])
second_least = record {
  goes = anywhere set_add_write_net 1 (Const ∷ []) as_number;
  least = λ qs goes. each_least qs goes.path;
}

both_least : AreLeast set_add_write_net price in_register_routes
both_least = record {
  many = refl;
  each = of_strand;
}
  where
    of_strand : (s : ℕ) → s < 2
        → IsLeast set_add_write_net price any_ends Anywhere s (path_in in_register_routes s)
    of_strand zero lt = first_least
    of_strand (suc zero) lt = second_least
    of_strand (suc (suc s)) lt = absurd (omega (arith, lt))

pub free_is_one : IsFreeBound set_add_write_net size_weights 1
free_is_one = record { family = in_register_routes; least = both_least; is = refl }

pub value_is_1024 : IsLagrange set_add_write_net size_weights (zero_prices set_add_write_net)
    (pos 1024)
value_is_1024 = (free_bound set_add_write_net size_weights 1).0 free_is_one
