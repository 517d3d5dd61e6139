use Rattle.std.proofs.Common.{ℕ, ◌∙◌, List, sym, ap}
use Rattle.std.proofs.lemmas.List.{get_or_read}
use Rattle.std.specs.Int.{bit_at}
use Rattle.net_form.specs.InUse.{mark, lands_in}
use Rattle.net_form.proofs.Marking.{comes_nowhere, after-none, mark-small, place_marked}
use Rattle.net_form.proofs.marks.mark_place.Goals as goal

pub returns-then-not-has_register-clause-marks : goal.returns-then-not-has_register-clause-marks
returns-then-not-has_register-clause-marks c = λ n r.
    sym (after-none c.args.used _ (lands_in c.args.layer c.args.to n r)
    (mark-small c.args.regs.now n r)
    (comes_nowhere c.args.layer c.args.to (sym c.has_register.ensures ∙ c.if-not-has_register.true)
    n r))

pub returns-clause-marks : goal.returns-clause-marks
returns-clause-marks c = λ n r.
    let read = get_or_read c.args.regs.now c.args.layer c.index.result.now c.requires
    c.index.ensures 0 in
    ap (λ (l : List ℕ). mark l n r) c.set.ensures
    ∙ place_marked c.args.used c.args.regs.now c.args.layer c.register.result c.with_bit.result
    c.requires
    c.with_bit.ensures.same (λ q apart. c.with_bit.ensures.other q apart
    ∙ ap (λ (b : ℕ). bit_at b q) read)
    c.args.to (sym c.has_register.ensures ∙ c.if-not-has_register.false) c.register.ensures.value n
    r
