use Rattle.std.proofs.Common.{ℕ, ◌≡◌, ◌+◌, arith, ap, subst, ◌∙◌}
use Rattle.std.proofs.lemmas.List.{get_or_read}
use Rattle.pra_list.proofs.Growing.{stored}
use Rattle.net_form.specs.declared.net.Strand.{Strand}
use Rattle.net_form.specs.Admitted.{no_strand}
use Rattle.net_form.specs.Ordered.{first_extra}
use Rattle.net_cost.specs.Models.{weights_of}
use Rattle.net_path.specs.declared.crossbar.Row.{Row}
use Rattle.net_path.specs.Cells.{ArePlainCells, layer_spot}
use Rattle.net_path.specs.Grounds.{layer}
use Rattle.net_path.specs.Rows.{no_row}
use Rattle.net_path.proofs.cells.plain_rows.Goals as goal

pub loop-at-preserved : goal.loop-at-preserved
loop-at-preserved g c =
    let net = c.args.net.now in
    let s = c.args.strand in
    let k = c.loop-at.at in
    let first = ap (λ (t : Strand). t.first) (get_or_read net.strands s c.index.result.now
    c.requires.strand c.index.ensures no_strand) in
    let here : c.index.result.now.first + k ≡ layer net s k = omega (arith, first) in
    let next : c.index.result.now.first + k + 1 ≡ layer net s (k + 1) = omega (arith, first) in
    let Cells = λ (k : ℕ) (row : Row). ArePlainCells net (weights_of c.args.model.now)
    c.args.prices.now c.args.ends c.args.taken.now (layer_spot net s k) row.costs in
    let one = subst (λ (l : ℕ). ArePlainCells net (weights_of c.args.model.now) c.args.prices.now
    c.args.ends c.args.taken.now (record { strand = s; layer = l; extra = c.loop-at.extra })
    c.plain_row.new.row.costs) here c.plain_row.ensures in
    let two : Cells k c.plain_row.new.row =
    subst (λ (x : ℕ). ArePlainCells net (weights_of c.args.model.now) c.args.prices.now
    c.args.ends c.args.taken.now (record { strand = s; layer = layer net s k; extra = x })
    c.plain_row.new.row.costs) c.loop-at.invariant.extra one in
    record {
      extra = c.next_extra-extra.ensures ∙ ap (first_extra net s) next;
      cells = stored Cells c.loop-at.rows k c.plain_row.new.row no_row
          (omega (arith, c.loop-at-test.true, c.loop-at.auto.rows)) c.loop-at.invariant.cells two;
    }
