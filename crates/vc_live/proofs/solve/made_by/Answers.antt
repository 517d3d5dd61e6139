use Rattle.std.proofs.Common.{sym, ◌∙◌}
use Rattle.vc_live.specs.Sets.{contains}
use Rattle.vc_live.proofs.Made.{makes_of}
use Rattle.vc_live.proofs.solve.made_by.Goals as goal

pub go_back-requires : goal.go_back-requires
go_back-requires c = rw (c.in_ok-set.ensures.words, ← c.requires.words) c.requires.code

pub returns-clause-words : goal.returns-clause-words
returns-clause-words c = c.go_back.ensures.words ∙ c.in_ok-set.ensures.words
    ∙ sym c.requires.words

pub returns-clause-members : goal.returns-clause-members
returns-clause-members c = λ v. c.go_back.ensures.members v
    ∙ makes_of (contains c.args.constants.now) c.args.code.now c.in_ok-set.set v
    c.in_ok-set.ensures.none
