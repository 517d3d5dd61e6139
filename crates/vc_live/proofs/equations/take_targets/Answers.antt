use Rattle.std.proofs.Common.{◌∙◌, sym}
use Rattle.vc_live.proofs.equations.take_targets.Goals as goal

pub take_entry-requires-clause-target : goal.take_entry-requires-clause-target
take_entry-requires-clause-target c = rw c.in-Jump.is at c.requires.targets

pub take_entry-requires-in-Branch-clause-target : goal.take_entry-requires-in-Branch-clause-target
take_entry-requires-in-Branch-clause-target c = (rw c.in-Branch.is at c.requires.targets).0

pub add_entry-requires-clause-target : goal.add_entry-requires-clause-target
add_entry-requires-clause-target c = (rw c.in-Branch.is at c.requires.targets).1

pub add_entry-requires-clause-words : goal.add_entry-requires-clause-words
add_entry-requires-clause-words c = λ b below. c.requires.words b below
    ∙ sym c.take_entry-in-Branch.ensures.words
