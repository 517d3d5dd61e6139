use Rattle.net_form.proofs.Bundles.{uses_by_key, count_by_key}
use Rattle.net_form.proofs.laws.bundles_have_keys.Goals as goal

pub returns-clause-edge : goal.returns-clause-edge
returns-clause-edge c = uses_by_key

pub returns-clause-flow : goal.returns-clause-flow
returns-clause-flow c = count_by_key
