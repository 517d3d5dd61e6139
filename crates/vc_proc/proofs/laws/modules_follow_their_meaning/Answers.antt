use Rattle.vc_proc.proofs.Followed.{module_carried, module_well}
use Rattle.vc_proc.proofs.laws.modules_follow_their_meaning.Goals as goal

pub returns-clause-carried : goal.returns-clause-carried
returns-clause-carried c = λ program codes frames input selectable all words. module_carried program
    codes frames input selectable all words

pub returns-clause-runs_well : goal.returns-clause-runs_well
returns-clause-runs_well c = λ program codes frames input selectable all words. module_well program
    codes frames input selectable all words
