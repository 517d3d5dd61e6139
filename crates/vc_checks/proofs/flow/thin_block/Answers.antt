use Rattle.std.proofs.Common.{List, refl, subst, ◌∙◌}
use Rattle.std.proofs.lemmas.List.{get_or_read}
use Rattle.pra_base.specs.declared.code.VInstr.{VInstr}
use Rattle.pra_base.specs.Code.{kind_of, no_block}
use Rattle.vc_checks.specs.declared.fact.Fact.{Fact}
use Rattle.vc_checks.specs.Ways.{AreWays}
use Rattle.vc_checks.specs.LeftOut.{Thins, begins_in}
use Rattle.vc_checks.proofs.Leaving.{entail_at}
use Rattle.vc_checks.proofs.Walking.{thin_one}
use Rattle.vc_checks.proofs.flow.thin_block.Goals as goal

pub returns : goal.returns
returns c =
    let code = c.args.code.now in
    let begins = begins_in c.args.begins.now in
    let block = c.index-block.result.now in
    let first = c.in_ok-known.known.items in
    let known = c.thin_code.new.known.items in
    let kept = c.in_ok-kept.kept.items in
    let leaves = c.leaves.ensures c.if-not-leaves.false in
    thin_one code begins c.args.b block first known kept _
    (get_or_read code.blocks c.args.b block c.requires c.index-block.ensures no_block)
    (c.in_ok-known.ensures.items ∙ c.facts_at.ensures)
    (subst (λ (xs : List VInstr). Thins (kind_of code) first xs known kept) c.as_slice.ensures
    c.in_ok-kept.ensures)
    (entail_at (kind_of code) begins block known c.in_ok-ways.ways
    (subst (λ (facts : List Fact). AreWays (kind_of code) block facts c.in_ok-ways.ways)
    c.as_slice-2.ensures.value c.in_ok-ways.ensures) leaves)
    refl refl c.from_vec.ensures
