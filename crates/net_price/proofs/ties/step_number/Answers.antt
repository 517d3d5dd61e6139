use Rattle.std.proofs.Common.{◌≡◌, ◌+◌, ◌*◌, ◌∙◌, ℕ, pos, get_or, set, ap, sym, rules}
use Rattle.std.proofs.lemmas.List.{set-get_or}
use Rattle.net_form.specs.Flow.{same_place}
use Rattle.net_price.specs.Tied.{slot_place}
use Rattle.net_price.proofs.Tied.{stays}
use Rattle.net_price.proofs.ties.step_number.Goals as goal

pub returns-then-leaves-enters : goal.returns-then-leaves-enters
returns-then-leaves-enters c =
    let ties = c.args.ties.now in
    let at : ℕ = 13 * c.args.tie + c.args.slot in
    let place = c.tied_place-place.ensures in
    let both : c.is_same-leaves.result ≡ c.is_same-enters.result = search rules in
    let same : same_place c.args.left (slot_place c.args.slot)
    ≡ same_place c.args.entered (slot_place c.args.slot)
    = ap (same_place c.args.left) (sym place) ∙ sym c.is_same-leaves.ensures
    ∙ both
    ∙ c.is_same-enters.ensures ∙ ap (same_place c.args.entered) place in
    sym (set-get_or ties at (pos 0))
    ∙ ap (set ties at)
    (sym (stays c.args.s (get_or ties at (pos 0)) (same_place c.args.left (slot_place c.args.slot))
    (same_place c.args.entered (slot_place c.args.slot)) same c.requires.least c.requires.most))
