use Rattle.ob_syntax.proofs.Texts.{tokens_or_fault, no_fault_in_tokens, one_list, one_first_fault}
use Rattle.ob_syntax.proofs.token_laws.tokens_or_first_fault.Goals as goal

pub returns : goal.returns
returns c = record {
  either = tokens_or_fault;
  never_both = no_fault_in_tokens;
  one_list = one_list;
  one_fault = one_first_fault;
}
