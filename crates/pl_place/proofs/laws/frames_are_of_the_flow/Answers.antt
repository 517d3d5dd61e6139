use Rattle.std.proofs.Common.{◌≡◌, ℕ, ◌+◌, ◌*◌, length, ap, sym, ◌∙◌, arith}
use Rattle.std.proofs.lemmas.List.{length-map}
use Rattle.pra_base.specs.declared.ids.VarId.{VarId}
use Rattle.pl_place.specs.declared.placed.LProc.{LProc}
use Rattle.pl_place.specs.Behind.{Routed, IsBehind, slots_of, flow_frame}
use Rattle.pl_place.specs.Placed.{frame_size}
use Rattle.pl_place.proofs.laws.frames_are_of_the_flow.Goals as goal

sized : (a b c x y z : ℕ) → a ≡ x → b ≡ y → c ≡ z → 4 * (a + 5 + b + c) ≡ 4 * (x + 5 + y + z)
sized a b c x y z e f g = omega arith

frames : (r : Routed) (p : LProc) → IsBehind r p → frame_size p ≡ flow_frame r
frames r p is =
    let many : length p.slots ≡ length (slots_of r) = sym (length-map p.slots (λ (u : VarId). u.0))
    ∙ ap length is.slots in
    sized p.args p.aggregates (length p.slots) r.code.args r.code.aggregates (length (slots_of r))
    is.args is.aggregates many

pub returns : goal.returns
returns c = λ r p is. frames r p is
