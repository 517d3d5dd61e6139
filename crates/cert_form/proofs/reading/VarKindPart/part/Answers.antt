use Rattle.cert_form.proofs.Spelled.{kinds_spelled}
use Rattle.cert_form.proofs.reading.VarKindPart.part.Goals as goal

pub read_worded-requires : goal.read_worded-requires
read_worded-requires c = kinds_spelled
