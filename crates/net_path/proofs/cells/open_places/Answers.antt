use Rattle.std.proofs.Common.{ℕ, ◌≡◌, ◌∙◌, ◌<◌, ◌+◌, ◌-◌, ◌||◌, not, eqb, length, get_or}
use Rattle.std.proofs.Common.{sym, ap, rules}
use Rattle.std.specs.Int.{bit_at}
use Rattle.std.proofs.lemmas.List.{get_or_read}
use Rattle.pra_base.specs.Places.{number, allows, has_register, register_of, lies_in}
use Rattle.net_form.specs.declared.net.Strand.{Strand}
use Rattle.net_form.specs.Admitted.{no_strand, strand_at, in_mask}
use Rattle.net_laws.proofs.Bits.{allows_meet}
use Rattle.net_path.specs.Cells.{spot_edge}
use Rattle.net_path.specs.Grounds.{suits_ends, register_free}
use Rattle.net_path.proofs.OpenPlaces.{allows_without, free_is, all_three}
use Rattle.net_path.proofs.cells.open_places.Goals as goal

pub returns : goal.returns
returns c = λ place.
    let net = c.args.net.now in
    let taken = c.args.taken.now in
    let spot = c.args.spot in
    let e = spot_edge spot place in
    let q = number place in
    let t = c.index-strand.result.now in
    let mask = c.index-mask.result.now in
    let regs = c.index.result.now in
    let strand : strand_at net spot.strand ≡ t =
    sym (get_or_read net.strands spot.strand t c.requires.spot.strand c.index-strand.ensures
    no_strand) in
    let there : spot.layer - t.first < length t.masks = search rules in
    let mask_is =
    sym (get_or_read t.masks (spot.layer - t.first) mask there c.index-mask.ensures 0) in
    let within : c.entry_layer.result + spot.layer < length taken.regs = search rules in
    let regs_are = sym (get_or_read taken.regs (c.entry_layer.result + spot.layer) regs within
    c.index.ensures 0) in
    let masked : in_mask net e ≡ allows mask q =
    ap (λ (t : Strand). allows (get_or t.masks (spot.layer - t.first) 0) q) strand
    ∙ ap (λ (m : ℕ). allows m q) mask_is in
    let free : register_free net taken e ≡ not (lies_in regs q) =
    ap (λ (n : ℕ). not (has_register q)
    || eqb (bit_at (get_or taken.regs (n + spot.layer) 0) (register_of q)) 0)
    (sym c.entry_layer.ensures.value)
    ∙ ap (λ (m : ℕ). not (has_register q) || eqb (bit_at m (register_of q)) 0) regs_are
    ∙ sym (free_is regs q) in
    all_three (allows c.meet.result q) (allows c.without-free.result q)
    (allows c.suiting.result q) (allows mask q) (not (lies_in regs q))
    (suits_ends c.args.ends t e) (in_mask net e)
    (suits_ends c.args.ends (strand_at net spot.strand) e) (register_free net taken e)
    (ap (λ (m : ℕ). allows m q) c.meet.ensures
    ∙ allows_meet c.without-free.result c.suiting.result q)
    (ap (λ (m : ℕ). allows m q) c.without-free.ensures ∙ allows_without mask regs place)
    (c.suiting.ensures spot.strand place) masked
    (ap (λ (t : Strand). suits_ends c.args.ends t e) strand) free
