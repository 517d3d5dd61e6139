-- Paths with a place for each mask of their strands are routes.
use Rattle.std.proofs.Common.{ℕ, ◌≡◌, ◌∙◌, List, [], length, map, get_or, ap, sym, arith}
use Rattle.std.proofs.lemmas.List.{length-map, get_or-map}
use Rattle.pra_base.specs.declared.ids.Place.{Place}
use Rattle.net_form.specs.declared.net.Net.{Net}
use Rattle.net_form.specs.declared.net.Strand.{Strand}
use Rattle.net_form.specs.Admitted.{no_strand}
use Rattle.net_form.specs.Flow.{AreRoutes}
use Rattle.net_form.specs.Formed.{IsFormed}
use Rattle.net_dual.proofs.Strands.{has_places}

pub sized_routes : (net : Net) (paths : List (List Place)) → IsFormed net
    → map (λ (p : List Place). length p) paths
    ≡ map (λ (t : Strand). length t.masks) net.strands
    → AreRoutes net (record { places = paths })
sized_routes net paths formed same =
    let many = length-map paths (λ (p : List Place). length p) in
    let count = length-map net.strands (λ (t : Strand). length t.masks) in
    let both = ap (λ (ns : List ℕ). length ns) same in
    has_places net.strands paths (omega (arith, many, count, both))
    (λ s lt.
    let masks = (formed.strands s no_strand lt).masks in
    let there : get_or (map (λ (t : Strand). length t.masks) net.strands) s 0
    ≡ length (get_or net.strands s no_strand).masks
    = get_or-map (λ (t : Strand). length t.masks) net.strands s no_strand 0 lt in
    let here : get_or (map (λ (p : List Place). length p) paths) s 0
    ≡ length (get_or paths s [])
    = get_or-map (λ (p : List Place). length p) paths s [] 0
    (omega (arith, lt, many, count, both)) in
    let long : length (get_or paths s []) ≡ length (get_or net.strands s no_strand).masks
    = sym here ∙ ap (λ (ns : List ℕ). get_or ns s 0) same ∙ there in
    omega (arith, masks, long))
