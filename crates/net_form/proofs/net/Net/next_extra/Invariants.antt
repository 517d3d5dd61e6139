use Rattle.std.proofs.Common.{ℕ, ◌≡◌, ◌+◌, ◌<◌, true, get_or}
use Rattle.net_form.specs.declared.net.Extra.{Extra}
use Rattle.net_form.specs.Ordered.{is_earlier}
use Rattle.net_form.proofs.net.Net.next_extra.Given as goal

abbrev pub invariant-loop-next : goal.invariant-loop-next
invariant-loop-next l =
    (k : ℕ) (d : Extra) → k < l.next → is_earlier l.strand (l.layer + 1)
    (get_or l.self.extras k d) ≡ true
