use Rattle.std.proofs.Common.{ℕ, ◌≡◌, ◌<◌, false, get_or}
use Rattle.net_form.specs.declared.net.Extra.{Extra}
use Rattle.net_form.specs.Cost.{is_extra_at}
use Rattle.net_form.proofs.extras.extras_cost.Given as goal

abbrev pub invariant-loop-next : goal.invariant-loop-next
invariant-loop-next g l =
    (k : ℕ) (d : Extra) → k < l.next → is_extra_at l.strand l.layer l.place
    (get_or l.net.extras k d) ≡ false
