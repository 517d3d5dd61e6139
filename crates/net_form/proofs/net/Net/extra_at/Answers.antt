use Rattle.std.proofs.Common.{Option, sym, ap, arith}
use Rattle.std.proofs.lemmas.Option.{slice_get_past}
use Rattle.net_form.specs.declared.net.Extra.{Extra}
use Rattle.net_form.specs.Ordered.{extra_there}
use Rattle.net_form.proofs.net.Net.extra_at.Goals as goal

pub returns-then-at-len : goal.returns-then-at-len
returns-then-at-len c =
    sym (ap (λ (o : Option Extra). extra_there c.args.strand c.args.layer o)
    (slice_get_past c.args.self.now.extras c.args.at (omega arith)))
