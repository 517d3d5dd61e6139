use Rattle.std.proofs.Common.{◌∙◌, ap, refl, sym, get_or, length, subst, arith, List}
use Rattle.std.proofs.lemmas.List.{get_or_read}
use Rattle.std.proofs.lemmas.Option.{slice_get-get_or}
use Rattle.pra_base.specs.declared.code.VInstr.{VInstr}
use Rattle.pra_base.specs.declared.code.Block.{Block}
use Rattle.pra_base.specs.Code.{no_block, code_of}
use Rattle.vc_live.proofs.SizedLemmas.{no_instr, granted, refused_by}
use Rattle.vc_valid.specs.Rules.{KeepsRules}
use Rattle.vc_valid.proofs.Loops.{one_more_read, of_each}
use Rattle.vc_valid.proofs.blocks.keep_rules_in.Goals as goal

pub returns-then-not-keeps_rules : goal.returns-then-not-keeps_rules
returns-then-not-keeps_rules c =
    let code = c.args.code.now in
    let b = c.args.block in
    let k = c.loop-index.index in
    let same = c.as_slice-instrs.ensures ∙ ap (λ (x : Block). x.code)
    (get_or_read code.blocks b c.index.result.now c.requires.block c.index.ensures no_block) in
    let long = ap length same in
    refused_by c.if-not-keeps_rules.ensures (λ each.
    subst (λ (xs : List VInstr). KeepsRules code b k (get_or xs k no_instr)) (sym same)
    (each k (get_or (code_of code b) k no_instr)
    (slice_get-get_or (code_of code b) k no_instr
    (omega (arith, c.loop-index-test.true, long)))))

pub loop-index-preserved : goal.loop-index-preserved
loop-index-preserved c =
    let code = c.args.code.now in
    let b = c.args.block in
    let k = c.loop-index.index in
    let same = c.as_slice-instrs.ensures ∙ ap (λ (x : Block). x.code)
    (get_or_read code.blocks b c.index.result.now c.requires.block c.index.ensures no_block) in
    let long = ap length same in
    one_more_read (KeepsRules code b) (code_of code b) k no_instr c.loop-index.invariant
    (omega (arith, c.loop-index-test.true, long))
    (subst (λ (xs : List VInstr). KeepsRules code b k (get_or xs k no_instr)) same
    (c.if-not-keeps_rules.ensures.0 refl))

pub returns : goal.returns
returns c =
    let code = c.args.code.now in
    let b = c.args.block in
    let same = c.as_slice-instrs.ensures ∙ ap (λ (x : Block). x.code)
    (get_or_read code.blocks b c.index.result.now c.requires.block c.index.ensures no_block) in
    let long = ap length same in
    granted (of_each (KeepsRules code b) (code_of code b) c.loop-index.index c.loop-index.invariant
    (omega (arith, c.loop-index-test.false, long)))
