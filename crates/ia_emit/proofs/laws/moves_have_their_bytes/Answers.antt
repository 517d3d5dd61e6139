use Rattle.ia_emit.proofs.MoveBytes.{bytes_are, all_bytes_are}
use Rattle.ia_emit.proofs.laws.moves_have_their_bytes.Goals as goal

pub returns-clause-each : goal.returns-clause-each
returns-clause-each c = bytes_are

pub returns-clause-together : goal.returns-clause-together
returns-clause-together c = all_bytes_are
