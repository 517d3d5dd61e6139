use Rattle.std.proofs.Common.{◌++◌, List, ◌∙◌, length, sym, ap, subst, append-nil, arith}
use Rattle.std.specs.List.{filter_map, range_with_len}
use Rattle.std.proofs.lemmas.List.{get_or_read}
use Rattle.pra_base.specs.declared.code.Block.{Block}
use Rattle.pra_base.specs.Code.{no_block, IsTarget}
use Rattle.net_form.specs.declared.net.Tie.{Tie}
use Rattle.net_build.specs.Order.{tie_to}
use Rattle.net_build.proofs.GoesOn.{at_exit, elsewhere}
use Rattle.net_build.proofs.ties.add_strand.Goals as goal

pub add_exit-requires-clause-targets : goal.add_exit-requires-clause-targets
add_exit-requires-clause-targets c = λ t is.
    let code = c.args.code.now in
    let b = c.args.strand.now.block.0 in
    let block = get_or_read code.blocks b c.index.result.now c.requires.block c.index.ensures
    no_block in
    let lt = c.requires.sized.targets_in_range b t c.requires.block
    (subst (λ (x : Block). IsTarget x.end t) block is) in
    omega (arith, lt, c.requires.blocks)

pub returns-then-strand-exit_layer : goal.returns-then-strand-exit_layer
returns-then-strand-exit_layer c =
    sym (append-nil c.args.out.now)
    ∙ sym (ap (λ (l : List Tie). c.args.out.now ++ l)
    (elsewhere c.args.code.now c.args.strands.now c.args.number c.args.strand.now
    (λ same. c.if-strand-exit_layer.true (same ∙ sym c.exit_layer.ensures))))

pub returns : goal.returns
returns c =
    let code = c.args.code.now in
    let ss = c.args.strands.now in
    let s = c.args.strand.now in
    let block = get_or_read code.blocks s.block.0 c.index.result.now c.requires.block
    c.index.ensures no_block in
    c.in_ok-add_exit.ensures
    ∙ ap (λ (b : Block). c.args.out.now ++ filter_map (tie_to ss b.end s.var.0 c.args.number)
    (range_with_len 0 (length ss))) block
    ∙ sym (ap (λ (l : List Tie). c.args.out.now ++ l)
    (at_exit code ss c.args.number s (c.if-strand-exit_layer.false ∙ c.exit_layer.ensures)))
