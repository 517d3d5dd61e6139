use Rattle.vc_tidy.proofs.dead.thin_block.Goals as goal

pub kept_back-requires-clause-names : goal.kept_back-requires-clause-names
kept_back-requires-clause-names c = rw c.as_slice.ensures c.requires.names
