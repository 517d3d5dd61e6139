use Rattle.std.proofs.Common.{ℕ, List, [], ◌∷◌, ◌++◌, map, refl, ap, sym, ◌∙◌, ◌+◌}
use Rattle.std.specs.List.{range_with_len}
use Rattle.std.proofs.lemmas.List.{get_or_read}
use Rattle.std.proofs.lemmas.List.FromFn.{map-range_with_len_more}
use Rattle.pra_base.specs.declared.ids.Place.{Place}
use Rattle.net_form.specs.declared.net.Strand.{Strand}
use Rattle.net_form.specs.Admitted.{no_strand, strand_at}
use Rattle.al_edge.specs.Choice.{place_for}
use Rattle.al_edge.proofs.routing.path_for.Goals as goal

pub loop-j-preserved : goal.loop-j-preserved
loop-j-preserved c =
    let net = c.args.net.now in
    let s = c.args.strand in
    let j = c.loop-j.j in
    let f : ℕ → Place = place_for net c.args.regs.now s in
    let first = (strand_at net s).first in
    let t = get_or_read net.strands s c.index.result.now c.requires.strand c.index.ensures
    no_strand in
    c.in_ok-push.ensures.ok
    ∙ ap (λ (ps : List Place). ps ++ c.place_for.result ∷ []) c.loop-j.invariant
    ∙ ap (λ (p : Place). map f (range_with_len first j) ++ p ∷ [])
    (c.place_for.ensures ∙ ap (λ (u : Strand). f (u.first + j)) t)
    ∙ sym (map-range_with_len_more f first j (first + j) refl)
