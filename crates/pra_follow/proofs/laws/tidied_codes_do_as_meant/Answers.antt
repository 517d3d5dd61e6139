use Rattle.pra_follow.proofs.Meant.{meant, codes_well}
use Rattle.pra_follow.proofs.laws.tidied_codes_do_as_meant.Goals as goal

pub returns-clause-carried : goal.returns-clause-carried
returns-clause-carried c = λ program codes frames input selectable are words.
    meant program codes selectable are frames input words

pub returns-clause-well : goal.returns-clause-well
returns-clause-well c = λ program codes frames input selectable are words.
    codes_well program codes selectable are frames input words
