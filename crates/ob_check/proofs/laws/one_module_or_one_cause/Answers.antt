use Rattle.ob_check.proofs.OneAnswer.{decided, never_both, one_module, one_cause}
use Rattle.ob_check.proofs.laws.one_module_or_one_cause.Goals as goal

pub returns : goal.returns
returns c = record {
  either = decided;
  never_both = never_both;
  one_module = one_module;
  one_cause = one_cause;
}
