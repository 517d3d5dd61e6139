use Rattle.ob_syntax.proofs.Texts.{spans_slice}
use Rattle.ob_syntax.proofs.token_laws.spans_slice_source.Goals as goal

pub returns : goal.returns
returns c = spans_slice
