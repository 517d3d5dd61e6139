use Rattle.vc_checked.proofs.SampleIsChecked.{sample_checked, sample_derived}
use Rattle.vc_checked.proofs.laws.a_sample_is_checked.Goals as goal

pub returns-clause-checked : goal.returns-clause-checked
returns-clause-checked c = sample_checked

pub returns-clause-derived : goal.returns-clause-derived
returns-clause-derived c = sample_derived
