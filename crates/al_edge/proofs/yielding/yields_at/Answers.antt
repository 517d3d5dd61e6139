use Rattle.std.proofs.Common.{ℕ, List, [], Bool, false, get_or, ap, ◌∙◌, ◌-◌, arith}
use Rattle.std.proofs.lemmas.List.{get_or_read}
use Rattle.net_form.specs.declared.net.Strand.{Strand}
use Rattle.net_form.specs.Admitted.{no_strand}
use Rattle.al_edge.proofs.Tables.{entry}
use Rattle.al_edge.proofs.yielding.yields_at.Goals as goal

pub returns : goal.returns
returns c =
    let net = c.args.net.now in
    let t = get_or_read net.strands c.args.strand c.index.result.now c.requires.strand
    c.index.ensures no_strand in
    let rows = c.requires.table.rows in
    let row = get_or_read c.args.table.now c.args.strand c.index-table-strand.result
    (omega (arith, rows, c.requires.strand)) c.index-table-strand.is [] in
    let first = ap (λ (u : Strand). u.first) t in
    c.entry.ensures
    ∙ ap (λ (r : List Bool). get_or r (c.args.layer - c.index.result.now.first) false) row
    ∙ ap (λ (k : ℕ). get_or (get_or c.args.table.now c.args.strand []) (c.args.layer - k) false)
    first
    ∙ entry net c.requires.net c.args.table.now c.requires.table c.args.strand c.args.layer
    c.requires.strand c.requires.there
