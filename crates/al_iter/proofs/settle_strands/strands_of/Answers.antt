use Rattle.std.proofs.Common.{◌+◌, List, ℕ, length, get_or, ap, ◌∙◌, sym, subst, arith}
use Rattle.std.specs.Prelude.{slice_range}
use Rattle.al_iter.specs.SettleState.{AreStrandsOf}
use Rattle.al_iter.proofs.SettleIndex.{vars_begin, vars_are, vars_rise, vars_within, are_strands_of}
use Rattle.al_iter.proofs.settle_strands.strands_of.Goals as goal

pub part-requires-clause-order : goal.part-requires-clause-order
part-requires-clause-order c =
    let net = c.args.net.now in
    let v = c.args.var in
    let start = ap (λ (xs : List ℕ). get_or xs v 0) c.as_slice-vars.ensures
    ∙ vars_begin net c.requires.net v (omega (arith, c.requires.var)) in
    let end = ap (λ (xs : List ℕ). get_or xs (v + 1) 0) c.as_slice-vars.ensures
    ∙ vars_begin net c.requires.net (v + 1) c.requires.var in
    let rise = vars_rise net c.requires.net v in
    omega (arith, start, end, rise)

pub part-requires-clause-end : goal.part-requires-clause-end
part-requires-clause-end c =
    let net = c.args.net.now in
    let v = c.args.var in
    let end = ap (λ (xs : List ℕ). get_or xs (v + 1) 0) c.as_slice-vars.ensures
    ∙ vars_begin net c.requires.net (v + 1) c.requires.var in
    let within = vars_within net c.requires.net v c.requires.var in
    let long = ap (λ (xs : List ℕ). length xs) c.as_slice-strands.ensures in
    omega (arith, end, within, long)

pub returns : goal.returns
returns c =
    let net = c.args.net.now in
    let v = c.args.var in
    let start = ap (λ (xs : List ℕ). get_or xs v 0) c.as_slice-vars.ensures
    ∙ vars_begin net c.requires.net v (omega (arith, c.requires.var)) in
    let end = ap (λ (xs : List ℕ). get_or xs (v + 1) 0) c.as_slice-vars.ensures
    ∙ vars_begin net c.requires.net (v + 1) c.requires.var in
    subst (AreStrandsOf net v) (sym (c.part.ensures
    ∙ ap (λ (xs : List ℕ). slice_range xs (get_or c.as_slice-vars.result.now v 0)
    (get_or c.as_slice-vars.result.now (v + 1) 0)) c.as_slice-strands.ensures
    ∙ vars_are net c.requires.net v _ _ c.requires.var start end)) (are_strands_of net v)
