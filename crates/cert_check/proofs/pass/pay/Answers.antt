use Rattle.std.proofs.Common.{◌≡◌, ◌-◌, ◌<◌, ◌^◌, ◌∙◌, true, ◌+ℤ◌, Some, None, length, ap, sym}
use Rattle.std.proofs.Common.{arith}
use Rattle.std.specs.Prelude.{slice_index_or}
use Rattle.std.specs.Int.{w128}
use Rattle.std.proofs.lemmas.Int.{ints, to_z-of_z}
use Rattle.std.proofs.lemmas.List.{get_or_read}
use Rattle.pra_base.specs.Places.{number, allows}
use Rattle.net_cost.specs.Models.{weights_of}
use Rattle.net_form.specs.declared.net.Strand.{Strand}
use Rattle.net_form.specs.Admitted.{strand_at, no_strand, in_mask}
use Rattle.net_dual.proofs.Leasts.{within_of, same_bits}
use Rattle.cert_check.specs.Tolls.{edge, toll}
use Rattle.cert_check.proofs.Guarded.{guarded_is}
use Rattle.cert_check.proofs.pass.pay.Goals as goal

pub add-requires-clause-one : goal.add-requires-clause-one
add-requires-clause-one g c =
    let w = within_of (2 ^ 61) c.args.cost c.in-Some.cost c.in-Some.is c.requires.within in
    rw (same_bits (2 ^ 61) c.in-Some.cost (omega arith) w)
    (record { low = omega (arith, ints); high = omega (arith, ints) })

pub returns : goal.returns
returns g c =
    let net = c.args.net.now in
    let w = weights_of c.args.model.now in
    let prices = c.args.tolls.now.prices in
    let s = c.args.spot.strand in
    let l = c.args.spot.layer in
    let to = c.args.to in
    let cost = c.in-Some.cost in
    let t = c.index-strand.result.now in
    let read : t ≡ strand_at net s = get_or_read net.strands s t c.requires.spot.strand
    c.index-strand.ensures no_strand in
    let masks = (c.requires.net.formed.strands s no_strand c.requires.spot.strand).masks in
    let long = ap (λ (t : Strand). length t.masks) read in
    let first = ap (λ (t : Strand). t.first) read in
    let there : l - t.first < length t.masks = omega arith in
    let mask : c.index.result.now ≡ slice_index_or (strand_at net s).masks
    (l - (strand_at net s).first) 0
    = get_or_read t.masks (l - t.first) c.index.result.now there c.index.ensures 0
    ∙ ap (λ (t : Strand). slice_index_or t.masks (l - t.first) 0) read in
    let allowed : in_mask net (edge s l None to) ≡ true
    = ap (λ m. allows m (number to)) (sym mask) ∙ sym c.allows.ensures ∙ c.if-not-allows.false in
    let exact_cost = same_bits (2 ^ 61) cost (omega arith)
    (within_of (2 ^ 61) c.args.cost cost c.in-Some.is c.requires.within) in
    let exact_toll = to_z-of_z w128 c.toll.result (record { sfits = c.toll.type_inv }) in
    let whole : c.add.result ≡ cost +ℤ toll net w prices s l to
    = omega (arith, ints, c.add.ensures, c.toll.ensures.value) in
    rw (to_z-of_z w128 c.add.result (record { sfits = c.add.type_inv }))
    (ap Some whole ∙ sym (guarded_is (in_mask net (edge s l None to))
    (λ d. d +ℤ toll net w prices s l to) c.args.cost cost allowed c.in-Some.is))
