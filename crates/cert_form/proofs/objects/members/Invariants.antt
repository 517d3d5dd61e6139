use Rattle.std.proofs.Common.{◌≡◌, ℕ, Option, length}
use Rattle.serde_json.specs.Data.{Data, no_members}
use Rattle.cert_form.specs.Streams.{entries, laid}
use Rattle.cert_form.proofs.objects.members.Given as goal

abbrev pub invariant-members : goal.invariant-members
invariant-members g l =
    (os : ℕ → Option Data)
    × (entries no_members l.depth l.initial.reader
    ≡ entries (laid 0 g.F.Fields.keys os) l.depth l.reader)
    × g.F.Fields.held l.fields os

abbrev pub decreases-members : goal.decreases-members
decreases-members g l = length l.reader
