use Rattle.std.proofs.Common.{◌<◌, ◌∙◌, length, ap, sym, arith}
use Rattle.std.proofs.lemmas.List.{get_or_read}
use Rattle.net_form.specs.declared.net.Strand.{Strand}
use Rattle.net_form.specs.Admitted.{no_strand}
use Rattle.net_form.proofs.RoutesConserve.{as_many}
use Rattle.net_dual.proofs.Strands.{each_long, has_places}
use Rattle.vc_live.proofs.SizedLemmas.{granted, refused}
use Rattle.cert_check.proofs.routes.are_routes.Goals as goal

pub returns-then-len : goal.returns-then-len
returns-then-len c = refused (λ has.
    c.if-len.true (c.len.ensures ∙ as_many c.args.net.now.strands c.args.routes.now.places has
    ∙ sym c.len-2.ensures))

pub returns-then-at-len : goal.returns-then-at-len
returns-then-at-len c = refused (λ has.
    let net = c.args.net.now in
    let places = c.args.routes.now.places in
    let s = c.loop-strand.strand in
    let lt : s < length net.strands = omega arith in
    let path = ap length c.at.ensures in
    let masks = ap (λ (t : Strand). length t.masks)
    (get_or_read net.strands s c.index.result.now lt c.index.ensures no_strand) in
    let long = each_long net c.args.routes.now has s lt in
    let formed = (c.requires.strands s no_strand lt).masks in
    c.if-at-len.true (omega arith))

pub returns : goal.returns
returns c =
    let net = c.args.net.now in
    let places = c.args.routes.now.places in
    granted (has_places net.strands places (sym c.len.ensures ∙ c.if-len.false ∙ c.len-2.ensures)
    (λ s lt.
    let long = c.loop-strand.invariant s (omega arith) in
    let formed = (c.requires.strands s no_strand lt).masks in
    omega arith))
