use Rattle.std.proofs.Common.{ℕ, ◌∙◌, ap}
use Rattle.pra_base.specs.Places.{number, allows}
use Rattle.net_laws.proofs.Bits.{allows_meet}
use Rattle.net_path.proofs.OpenPlaces.{both}
use Rattle.net_path.proofs.cells.suiting.Goals as goal

pub returns : goal.returns
returns c = λ s q.
    ap (λ (m : ℕ). allows m (number q)) c.meet.ensures
    ∙ allows_meet c.wanted_if-first.result c.wanted_if-last.result (number q)
    ∙ both _ _ _ _ (c.wanted_if-first.ensures q) (c.wanted_if-last.ensures q)
