use Rattle.std.proofs.Common.{ℕ, ◌≡◌, ◌++◌, List, map, ap, ap₂, ◌∙◌}
use Rattle.pra_base.specs.declared.ids.Place.{Place}
use Rattle.pra_base.specs.Operands as base
use Rattle.pra_base.specs.Operands.{read_by, written_by, var_of, operands}
use Rattle.pl_made.proofs.Placed.{reads_vars, writes_vars}
use Rattle.pl_build.specs.Laid.{places_by, role_vars}
use Rattle.pl_build.proofs.Laid.{vars_of_roles}
use Rattle.pl_build.proofs.laying.places_of.Goals as goal

pub returns : goal.returns
returns c =
    let i = c.args.i.now in
    let before = c.args.before.now in
    let behind = c.args.behind.now in
    let reads : role_vars c.as_slice.result.now ≡ read_by i =
    ap role_vars c.as_slice.ensures.value ∙ vars_of_roles c.operands-row.result.reads.items
    ∙ ap (λ (r : base.Row). map var_of r.reads) c.operands-row.ensures ∙ reads_vars i in
    let writes : role_vars c.as_slice-2.result.now ≡ written_by i =
    ap role_vars c.as_slice-2.ensures.value ∙ vars_of_roles c.operands-row.result.writes.items
    ∙ ap (λ (r : base.Row). map var_of r.writes) c.operands-row.ensures ∙ writes_vars i in
    c.add_places-2.ensures
    ∙ ap₂ (λ (ps qs : List Place). ps ++ qs)
    (c.add_places.ensures ∙ ap₂ (λ (ps : List Place) (vs : List ℕ). ps ++ places_by before vs)
    c.new-places.ensures reads)
    (ap (places_by behind) writes)
