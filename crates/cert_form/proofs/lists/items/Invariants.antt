use Rattle.std.proofs.Common.{length}
use Rattle.cert_form.specs.Streams.{rests}
use Rattle.cert_form.proofs.Gathered.{Gathers}
use Rattle.cert_form.proofs.lists.items.Given as goal

abbrev pub invariant-items : goal.invariant-items
invariant-items g l =
    Gathers g.T.Part.form g.T.Part.fits l.most (rests l.depth l.initial.reader) l.found.items
    (rests l.depth l.reader)

abbrev pub decreases-items : goal.decreases-items
decreases-items g l = length l.reader
