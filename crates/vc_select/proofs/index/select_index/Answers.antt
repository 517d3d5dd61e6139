use Rattle.vc_expr.proofs.Added.{valid_on}
use Rattle.vc_expr.proofs.Counting.{adds_on}
use Rattle.vc_select.proofs.Counting.{indexes}
use Rattle.vc_select.proofs.ReadyTargets.{index_reads}
use Rattle.vc_select.proofs.index.select_index.Goals as goal

pub returns-clause-indexes : goal.returns-clause-indexes
returns-clause-indexes c =
    indexes c.args.first c.args.before c.args.at.0 c.args.code.now c.check.new.code c.scale.new.code
    c.sum.new.code c.args.so_far c.args.index.0 c.args.count c.args.words
    c.in_ok-scaled.scaled.0 c.in_ok-v.v.0
    c.requires.first c.requires.so_far c.requires.before c.requires.index
    c.in_ok-check.ensures.checks c.in_ok-scaled.ensures.scales c.in_ok-v.ensures.sums

pub returns-clause-counts : goal.returns-clause-counts
returns-clause-counts c =
    adds_on 1 0 0 0 4 2 1 0 c.args.code.now c.check.new.code c.sum.new.code
    c.in_ok-check.ensures.counts
    (adds_on 2 1 1 0 2 1 0 0 c.check.new.code c.scale.new.code c.sum.new.code
    c.in_ok-scaled.ensures.counts c.in_ok-v.ensures.counts)

pub returns-clause-valid : goal.returns-clause-valid
returns-clause-valid c =
    valid_on c.args.code.now c.check.new.code c.sum.new.code
    (c.in_ok-check.ensures.valid c.requires.index)
    (valid_on c.check.new.code c.scale.new.code c.sum.new.code c.in_ok-scaled.ensures.valid
    c.in_ok-v.ensures.valid)

pub returns-clause-reads : goal.returns-clause-reads
returns-clause-reads c =
    index_reads c.args.first c.args.before c.args.at.0 c.args.code.now c.check.new.code
    c.scale.new.code c.sum.new.code c.args.so_far c.args.index.0 c.in_ok-scaled.scaled.0
    c.in_ok-v.v.0
    c.requires.first c.requires.so_far c.requires.before c.requires.index
    c.in_ok-check.ensures.reads c.in_ok-scaled.ensures.reads c.in_ok-scaled.ensures.fresh
    c.in_ok-v.ensures.reads
