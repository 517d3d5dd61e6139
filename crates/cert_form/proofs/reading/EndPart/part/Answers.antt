use Rattle.cert_form.proofs.Spelled.{ends_spelled}
use Rattle.cert_form.proofs.reading.EndPart.part.Goals as goal

pub read_worded-requires : goal.read_worded-requires
read_worded-requires c = ends_spelled
