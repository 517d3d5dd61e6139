use Rattle.std.proofs.Common.{sym, refl, ◌∙◌}
use Rattle.vc_live.specs.Rows.{live_at}
use Rattle.vc_live.proofs.liveness.Liveness.at.Goals as goal

pub returns-then-contains : goal.returns-then-contains
unfolding live_at
returns-then-contains c = c.constant_at.ensures ∙ rw (sym c.if-contains.ensures) refl

pub returns-else-contains : goal.returns-else-contains
unfolding live_at
returns-else-contains c = c.has.ensures ∙ rw (sym c.if-contains.ensures) refl
