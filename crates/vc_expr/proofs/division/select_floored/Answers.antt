use Rattle.std.proofs.Common.{sym, subst, arith}
use Rattle.vc_expr.specs.Operators.{Operates}
use Rattle.vc_expr.proofs.Dividing.{not_mod, quotient_operates, remainder_operates}
use Rattle.vc_expr.proofs.Added.{valid_on}
use Rattle.vc_expr.proofs.Whole.{operands_apart, mod_reads, div_reads}
use Rattle.vc_expr.proofs.Counting.{division_adds, on_temporary}
use Rattle.vc_expr.proofs.division.select_floored.Goals as goal

pub returns-in_ok-rounded-in-Mod-clause-operates : goal.returns-in_ok-rounded-in-Mod-clause-operates
returns-in_ok-rounded-in-Mod-clause-operates c =
    subst (λ op. Operates op c.args.first c.args.at.0 c.args.code.now c.round_remainder.new.code
    c.args.left.0 c.args.right.0 c.in_ok-rounded-in-Mod.rounded.0) (sym c.in-Mod.is)
    (remainder_operates c.args.first c.args.at.0 c.args.code.now c.start.new.code c.split.new.code
    c.args.left.0 c.in_ok-dividend.dividend.0 c.args.right.0 c.in_ok-parts.parts
    c.in_ok-dividend.ensures.begins c.in_ok-parts.ensures.splits c.requires.right c.requires.first
    c.round_remainder.new.code c.in_ok-rounded-in-Mod.rounded.0
    c.in_ok-rounded-in-Mod.ensures.rounds)

pub returns-in_ok-rounded-in_default-clause-operates :
    goal.returns-in_ok-rounded-in_default-clause-operates
returns-in_ok-rounded-in_default-clause-operates c =
    subst (λ op. Operates op c.args.first c.args.at.0 c.args.code.now c.select_arithmetic.new.code
    c.args.left.0 c.args.right.0 c.in_ok-rounded-in_default.rounded.0)
    (not_mod c.args.op c.requires.op c.in_default.not-Mod)
    (quotient_operates c.args.first c.args.at.0 c.args.code.now c.start.new.code c.split.new.code
    c.args.left.0 c.in_ok-dividend.dividend.0 c.args.right.0 c.in_ok-parts.parts
    c.in_ok-dividend.ensures.begins c.in_ok-parts.ensures.splits c.requires.right c.requires.first
    c.select_arithmetic.new.code c.in_ok-rounded-in_default.rounded.0
    c.in_ok-rounded-in_default.ensures.operates)

pub returns-in_ok-rounded-in-Mod-clause-valid : goal.returns-in_ok-rounded-in-Mod-clause-valid
returns-in_ok-rounded-in-Mod-clause-valid c = λ apart.
    let begins = c.in_ok-dividend.ensures.begins in
    valid_on c.args.code.now c.start.new.code c.round_remainder.new.code
    c.in_ok-dividend.ensures.valid
    (valid_on c.start.new.code c.split.new.code c.round_remainder.new.code
    (c.in_ok-parts.ensures.valid begins.adds.plain
    (operands_apart c.args.first c.args.at.0 c.args.code.now c.start.new.code c.args.left.0
    c.in_ok-dividend.dividend.0 c.args.right.0 begins apart c.requires.right))
    c.in_ok-rounded-in-Mod.ensures.valid)

pub returns-in_ok-rounded-in-Mod-clause-reads : goal.returns-in_ok-rounded-in-Mod-clause-reads
returns-in_ok-rounded-in-Mod-clause-reads c = λ apart.
    let begins = c.in_ok-dividend.ensures.begins in
    mod_reads c.args.first c.args.at.0 c.args.code.now c.start.new.code c.split.new.code
    c.round_remainder.new.code c.args.left.0 c.in_ok-dividend.dividend.0 c.args.right.0
    c.in_ok-parts.parts c.in_ok-rounded-in-Mod.rounded.0
    begins c.in_ok-dividend.ensures.reads c.in_ok-parts.ensures.splits c.in_ok-parts.ensures.reads
    c.in_ok-rounded-in-Mod.ensures.reads
    (operands_apart c.args.first c.args.at.0 c.args.code.now c.start.new.code c.args.left.0
    c.in_ok-dividend.dividend.0 c.args.right.0 begins apart c.requires.right) c.requires.right
    c.requires.first

pub returns-in_ok-rounded-in_default-clause-valid :
    goal.returns-in_ok-rounded-in_default-clause-valid
returns-in_ok-rounded-in_default-clause-valid c = λ apart.
    let begins = c.in_ok-dividend.ensures.begins in
    valid_on c.args.code.now c.start.new.code c.select_arithmetic.new.code
    c.in_ok-dividend.ensures.valid
    (valid_on c.start.new.code c.split.new.code c.select_arithmetic.new.code
    (c.in_ok-parts.ensures.valid begins.adds.plain
    (operands_apart c.args.first c.args.at.0 c.args.code.now c.start.new.code c.args.left.0
    c.in_ok-dividend.dividend.0 c.args.right.0 begins apart c.requires.right))
    c.in_ok-rounded-in_default.ensures.valid)

pub returns-in_ok-rounded-in_default-clause-reads :
    goal.returns-in_ok-rounded-in_default-clause-reads
returns-in_ok-rounded-in_default-clause-reads c = λ apart.
    let begins = c.in_ok-dividend.ensures.begins in
    div_reads c.args.first c.args.at.0 c.args.code.now c.start.new.code c.split.new.code
    c.select_arithmetic.new.code c.args.left.0 c.in_ok-dividend.dividend.0 c.args.right.0
    c.in_ok-parts.parts c.in_ok-rounded-in_default.rounded.0
    begins c.in_ok-dividend.ensures.reads c.in_ok-parts.ensures.splits c.in_ok-parts.ensures.reads
    c.in_ok-rounded-in_default.ensures.reads
    (operands_apart c.args.first c.args.at.0 c.args.code.now c.start.new.code c.args.left.0
    c.in_ok-dividend.dividend.0 c.args.right.0 begins apart c.requires.right) c.requires.right
    c.requires.first

pub returns-in_ok-rounded-in-Mod-clause-counts : goal.returns-in_ok-rounded-in-Mod-clause-counts
returns-in_ok-rounded-in-Mod-clause-counts c =
    let splits = c.in_ok-parts.ensures.splits in
    division_adds c.args.first c.args.left.0 c.args.code.now c.start.new.code c.split.new.code
    c.round_remainder.new.code 3 (omega arith)
    c.in_ok-dividend.ensures.counts c.in_ok-parts.ensures.counts
    (c.in_ok-rounded-in-Mod.ensures.counts splits.negative.plain splits.remainder.plain)

pub returns-in_ok-rounded-in_default-clause-counts :
    goal.returns-in_ok-rounded-in_default-clause-counts
returns-in_ok-rounded-in_default-clause-counts c =
    let splits = c.in_ok-parts.ensures.splits in
    let q = c.in_ok-parts.parts.quotient.0 in
    division_adds c.args.first c.args.left.0 c.args.code.now c.start.new.code c.split.new.code
    c.select_arithmetic.new.code 1 (omega arith)
    c.in_ok-dividend.ensures.counts c.in_ok-parts.ensures.counts
    (on_temporary 1 0 0 q q c.split.new.code c.select_arithmetic.new.code splits.quotient.plain
    (omega arith) c.in_ok-rounded-in_default.ensures.counts)
