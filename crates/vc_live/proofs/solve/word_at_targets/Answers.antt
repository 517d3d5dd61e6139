use Rattle.std.proofs.Common.{◌%◌, refl}
use Rattle.vc_live.proofs.SetLemmas.{word_of, no_bits, bit-or}
use Rattle.vc_live.proofs.solve.word_at_targets.Goals as goal

pub returns-in-Jump : goal.returns-in-Jump
returns-in-Jump c =
    let within = rw c.in-Jump.is at c.requires.targets in
    λ v at. rw c.in-Jump.is (word_of c.args.entries.now c.in-Jump.target.0
    c.args.word c.index-entries-target.result c.word.result v within c.index-entries-target.is
    c.word.ensures at)

pub returns-in-Branch : goal.returns-in-Branch
returns-in-Branch c =
    let within = rw c.in-Branch.is at c.requires.targets in
    λ v at. rw (
      c.in-Branch.is,
      bit-or c.word-in-Branch.result c.word-in-Branch-2.result (v % 64),
      word_of c.args.entries.now c.in-Branch.one.0 c.args.word c.index-entries-one.result
          c.word-in-Branch.result v within.0 c.index-entries-one.is c.word-in-Branch.ensures at,
      word_of c.args.entries.now c.in-Branch.other.0 c.args.word c.index-entries-other.result
          c.word-in-Branch-2.result v within.1 c.index-entries-other.is
          c.word-in-Branch-2.ensures at,
    ) refl

pub returns-in-Return : goal.returns-in-Return
returns-in-Return c = λ v at. rw (c.in-Return.is, no_bits (v % 64)) refl
