use Rattle.std.proofs.Common.{ℕ, ◌∙◌, ◌<◌, ◌&&◌, Bool, not, length, get_or, ap, rules}
use Rattle.std.proofs.lemmas.List.{get_or_read}
use Rattle.pra_base.specs.Places.{number, allows, lies_in}
use Rattle.net_form.specs.Admitted.{strand_at}
use Rattle.net_laws.proofs.Bits.{allows_meet}
use Rattle.net_laws.specs.Homes.{mask_in}
use Rattle.net_path.proofs.OpenPlaces.{allows_without}
use Rattle.al_edge.specs.GroupEnds.{end_layer}
use Rattle.al_edge.proofs.weights.narrowed.Goals as goal

pub returns : goal.returns
returns c = λ p.
    let net = c.args.net.now in
    let regs = c.args.used.now.regs in
    let e = c.args.end in
    let q = number p in
    let busy = c.index-busy.result.now in
    let n = c.layer_of.result in
    let within : n < length regs = search rules in
    let busy_is = get_or_read regs n busy within c.index-busy.ensures 0 in
    let mask = mask_in (strand_at net e.strand) (end_layer net e) in
    ap (λ (m : ℕ). allows m q) c.meet.ensures
    ∙ allows_meet c.args.places c.without.result q
    ∙ ap (λ (b : Bool). allows c.args.places q && b)
    (ap (λ (m : ℕ). allows m q) c.without.ensures ∙ allows_without c.mask_of.result busy p
    ∙ ap (λ (m : ℕ). allows m q && not (lies_in busy q)) c.mask_of.ensures
    ∙ ap (λ (m : ℕ). allows mask q && not (lies_in m q)) busy_is
    ∙ ap (λ (k : ℕ). allows mask q && not (lies_in (get_or regs k 0) q))
    c.layer_of.ensures.value)
