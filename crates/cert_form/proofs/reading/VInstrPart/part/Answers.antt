use Rattle.cert_form.proofs.Spelled.{instructions_spelled}
use Rattle.cert_form.proofs.reading.VInstrPart.part.Goals as goal

pub read_worded-requires : goal.read_worded-requires
read_worded-requires c = instructions_spelled
