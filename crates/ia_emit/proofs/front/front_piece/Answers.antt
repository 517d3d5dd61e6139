use Rattle.std.proofs.Common.{rules}
use Rattle.ia_emit.proofs.OpenFront.{front_is_open}
use Rattle.ia_emit.proofs.front.front_piece.Goals as goal

pub returns : goal.returns
returns c =
    front_is_open c.new-bytes.result.items c.push-2.new.bytes.items c.push-3.new.bytes.items
    c.push_stub.new.bytes.items c.push_stub-2.new.bytes.items c.push_stub-3.new.bytes.items
    c.push.new.self.items c.number.result c.new-bytes.ensures.items c.in_ok-push-2.ensures
    c.number.ensures c.in_ok-push-3.ensures
    c.in_ok-push_stub.ensures c.in_ok-push_stub-2.ensures c.in_ok-push_stub-3.ensures (search rules)
