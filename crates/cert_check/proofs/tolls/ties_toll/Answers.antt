use Rattle.std.proofs.Common.{◌≡◌, ◌∙◌, None, ap, sym, arith}
use Rattle.std.specs.Prelude.{nat_eq}
use Rattle.std.specs.Int.{w128}
use Rattle.std.proofs.lemmas.Int.{ints, to_z-of_z}
use Rattle.std.proofs.lemmas.List.{get_or_read}
use Rattle.net_form.specs.declared.net.BlockEnd.TheVariants.{Entry, Exit}
use Rattle.net_form.specs.Admitted.{strand_at, no_strand}
use Rattle.net_dual.specs.Priced.{pay, tie_slot, number_at_slot, exit_part, entry_part}
use Rattle.cert_check.specs.Tolls.{edge}
use Rattle.cert_check.proofs.TollParts.{exit_part_is, entry_part_is, kept_sum}
use Rattle.cert_check.proofs.tolls.ties_toll.Goals as goal

pub returns-clause-value : goal.returns-clause-value
returns-clause-value c =
    let net = c.args.net.now in
    let tolls = c.args.tolls.now in
    let prices = tolls.prices in
    let s = c.args.spot.strand in
    let l = c.args.spot.layer in
    let q = c.args.place in
    let t = c.index-strand.result.now in
    let read : t ≡ strand_at net s = get_or_read net.strands s t c.requires.spot.strand
    c.index-strand.ensures no_strand in
    let exit : c.end_toll-exit.result ≡ exit_part net prices (edge s l None q)
    = c.end_toll-exit.ensures.value
    ∙ (λ i. pay (nat_eq l (read i).last)
    (number_at_slot (c.as_slice-exits.ensures i) s (tie_slot q)))
    ∙ ap (pay (nat_eq l (strand_at net s).last))
    (kept_sum net prices Exit tolls.exits s q c.requires.tolls.exits c.requires.spot.strand)
    ∙ sym (exit_part_is net prices s l q) in
    let entry : c.end_toll-entry.result ≡ entry_part net prices (edge s l None q)
    = c.end_toll-entry.ensures.value
    ∙ (λ i. pay (nat_eq l (read i).first)
    (number_at_slot (c.as_slice-entries.ensures i) s (tie_slot q)))
    ∙ ap (pay (nat_eq l (strand_at net s).first))
    (kept_sum net prices Entry tolls.entries s q c.requires.tolls.entries c.requires.spot.strand)
    ∙ sym (entry_part_is net prices s l q) in
    let exact_exit = to_z-of_z w128 c.end_toll-exit.result
    (record { sfits = c.end_toll-exit.type_inv }) in
    let exact_entry = to_z-of_z w128 c.end_toll-entry.result
    (record { sfits = c.end_toll-entry.type_inv }) in
    rw (to_z-of_z w128 c.subtract.result (record { sfits = c.subtract.type_inv }))
    (omega (arith, ints, c.subtract.ensures))
