use Rattle.std.proofs.Common.{◌+◌, ◌*◌, ◌∙◌, ℕ, pos, get_or, ap, sym, eqb, arith}
use Rattle.std.proofs.lemmas.Bool.{eqb-true}
use Rattle.pra_base.specs.Places.{number}
use Rattle.net_form.specs.Flow.{flow, same_place}
use Rattle.net_price.specs.Tied.{slot_place}
use Rattle.net_price.proofs.Tied.{stays, moved_is_next}
use Rattle.net_price.proofs.ties.step_tie.Goals as goal

pub returns-then-is_same-clause-next : goal.returns-then-is_same-clause-next
returns-then-is_same-clause-next c slot small =
    let net = c.args.net.now in
    let left = c.place_left-left.result in
    let entered = c.place_entered-entered.result in
    let at : ℕ = 13 * c.args.tie + slot in
    let z = get_or c.args.ties.now at (pos 0) in
    let same = eqb-true (number left) (number entered)
    (sym c.is_same.ensures ∙ c.if-is_same.true) in
    sym (stays c.args.s z (same_place left (slot_place slot)) (same_place entered (slot_place slot))
    (ap (λ (n : ℕ). eqb n (number (slot_place slot))) same)
    (c.requires.least at (omega arith)) (c.requires.most at (omega arith)))
    ∙ moved_is_next net (flow net c.args.family.now) c.args.s c.args.tie slot left entered z small
    c.place_left-left.ensures c.place_entered-entered.ensures

pub returns-clause-next : goal.returns-clause-next
returns-clause-next c slot small =
    let net = c.args.net.now in
    let z = get_or c.args.ties.now (13 * c.args.tie + slot) (pos 0) in
    let end = c.loop-slot-test.false in
    c.loop-slot.invariant.done slot (omega (arith, small, end))
    ∙ moved_is_next net (flow net c.args.family.now) c.args.s c.args.tie slot
    c.place_left-left.result c.place_entered-entered.result z small
    c.place_left-left.ensures c.place_entered-entered.ensures
