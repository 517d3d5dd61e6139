use Rattle.std.proofs.Common.{rules}
use Rattle.pra_io.proofs.Pieces.{took_more, Takes-none}
use Rattle.pra_io.proofs.streams.read_all.Goals as goal

pub returns-in_err-append-in_default-clause-memory :
    goal.returns-in_err-append-in_default-clause-memory
returns-in_err-append-in_default-clause-memory g c =
    λ _. took_more _ _ _ _ _ _ _ (search rules) c.loop-piece.invariant.taken
    c.in_ok-count.ensures.bytes.0

pub returns-in_err-count-clause-exact : goal.returns-in_err-count-clause-exact
returns-in_err-count-clause-exact g c =
    λ told more. absurd (Takes-none _ _ _ _ _ told (search rules) c.loop-piece.invariant.taken
    c.in_err-count.ensures.bytes more)
