use Rattle.ia_code.proofs.ReadingIsTable.{decoded-bytes_of}
use Rattle.ia_code.proofs.laws.round_trip.Goals as goal

pub returns : goal.returns
returns c = decoded-bytes_of
