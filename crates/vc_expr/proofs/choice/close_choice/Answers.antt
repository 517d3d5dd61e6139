use Rattle.std.proofs.Common.{◌≡◌, ◌≢◌, ap, sym, ◌∙◌, subst, arith}
use Rattle.std.proofs.lemmas.List.{get_or_read}
use Rattle.pra_base.specs.Code.{end_of, kind_of}
use Rattle.pra_base.specs.declared.code.VarKind.TheVariants.{Plain}
use Rattle.pra_base.specs.declared.code.End.TheVariants.{Jump}
use Rattle.pra_base.specs.declared.code.Block.{Block}
use Rattle.pra_base.specs.declared.code.VProc.{VProc}
use Rattle.vc_build.specs.Grow.{stand_in, with_instr, with_end}
use Rattle.vc_build.proofs.Growth.{put_open, closed_block}
use Rattle.vc_build.proofs.Open.{jump_real, closed_real}
use Rattle.vc_expr.specs.Operators.{first_of}
use Rattle.vc_expr.specs.Choices.{ClosesChoice}
use Rattle.vc_expr.proofs.Choosing.{closes}
use Rattle.vc_expr.specs.Rules.{StaysValid}
use Rattle.vc_expr.specs.Readable.{PublishesTo}
use Rattle.vc_expr.proofs.Added.{close_valid}
use Rattle.vc_expr.proofs.Published.{close_publishes}
use Rattle.vc_expr.specs.Counts.{AddsAtMost}
use Rattle.vc_expr.proofs.Counting.{put_close_adds}
use Rattle.vc_expr.proofs.choice.close_choice.Goals as goal

pub returns-clause-closes : goal.returns-clause-closes
returns-clause-closes c =
    let at = c.args.at.0 in
    let old = c.args.code.now in
    let kind = c.index-kind.result.now in
    let choice = c.args.choice in
    let is : kind ≡ kind_of old c.args.v.0 = get_or_read old.vars c.args.v.0 kind c.requires.named
    c.index-kind.ensures Plain in
    let made : c.close.new.code ≡ with_end at (Jump choice.behind)
    (with_instr at (first_of kind choice.target c.args.v) old) =
    c.close.ensures ∙ ap (with_end at (Jump choice.behind))
    (c.in_ok-put.ensures ∙ ap (λ i. with_instr at i old) c.first_of.ensures) in
    subst (λ (z : VProc). ClosesChoice at old z c.args.v.0 choice) (sym made)
    (closes at old c.args.v choice kind (sym is) c.requires.is_open c.requires.named
    c.requires.target c.requires.plain c.requires.behind c.requires.no_entry)

pub returns-clause-valid : goal.returns-clause-valid
returns-clause-valid c = λ apart.
    let at = c.args.at.0 in
    let old = c.args.code.now in
    let kind = c.index-kind.result.now in
    let choice = c.args.choice in
    let is : kind ≡ kind_of old c.args.v.0 = get_or_read old.vars c.args.v.0 kind c.requires.named
    c.index-kind.ensures Plain in
    let made : c.close.new.code ≡ with_end at (Jump choice.behind)
    (with_instr at (first_of kind choice.target c.args.v) old) =
    c.close.ensures ∙ ap (with_end at (Jump choice.behind))
    (c.in_ok-put.ensures ∙ ap (λ i. with_instr at i old) c.first_of.ensures) in
    subst (λ (z : VProc). StaysValid old z) (sym made)
    (close_valid at old c.args.v choice.target choice.behind kind (sym is) c.requires.is_open
    c.requires.named c.requires.target c.requires.plain c.requires.behind c.requires.no_entry
    apart)

pub returns-clause-reads : goal.returns-clause-reads
returns-clause-reads c =
    let at = c.args.at.0 in
    let old = c.args.code.now in
    let kind = c.index-kind.result.now in
    let choice = c.args.choice in
    let made : c.close.new.code ≡ with_end at (Jump choice.behind)
    (with_instr at (first_of kind choice.target c.args.v) old) =
    c.close.ensures ∙ ap (with_end at (Jump choice.behind))
    (c.in_ok-put.ensures ∙ ap (λ i. with_instr at i old) c.first_of.ensures) in
    subst (λ (z : VProc). PublishesTo at old z c.args.v.0 choice.target.0 choice.behind.0)
    (sym made)
    (close_publishes at old c.args.v choice.target choice.behind kind c.requires.is_open)

pub returns-clause-counts : goal.returns-clause-counts
returns-clause-counts c =
    let at = c.args.at.0 in
    let old = c.args.code.now in
    let end = Jump c.args.choice.behind in
    let i = c.first_of.result in
    let made : c.close.new.code ≡ with_end at end (with_instr at i old) = c.close.ensures
    ∙ ap (with_end at end) c.in_ok-put.ensures in
    subst (λ (z : VProc). AddsAtMost 1 0 0 0 old z) (sym made)
    (put_close_adds at i end old c.requires.is_open)

pub returns-clause-closed : goal.returns-clause-closed
returns-clause-closed c =
    let at = c.args.at.0 in
    let old = c.args.code.now in
    let end = Jump c.args.choice.behind in
    let i = c.first_of.result in
    let made : c.close.new.code ≡ with_end at end (with_instr at i old) = c.close.ensures
    ∙ ap (with_end at end) c.in_ok-put.ensures in
    subst (λ (z : VProc). end_of z at ≢ stand_in) (sym made)
    (closed_real at end (with_instr at i old) (put_open at i old c.requires.is_open)
    (jump_real c.args.choice.behind (λ is. omega (arith, is, c.requires.no_entry))))

pub returns-clause-end : goal.returns-clause-end
returns-clause-end c =
    let at = c.args.at.0 in
    let old = c.args.code.now in
    let end = Jump c.args.choice.behind in
    let i = c.first_of.result in
    let made : c.close.new.code ≡ with_end at end (with_instr at i old) = c.close.ensures
    ∙ ap (with_end at end) c.in_ok-put.ensures in
    ap (λ (z : VProc). end_of z at) made ∙ ap (λ (x : Block). x.end)
    (closed_block at end (with_instr at i old) (put_open at i old c.requires.is_open))
