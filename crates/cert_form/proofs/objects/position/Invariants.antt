use Rattle.std.proofs.Common.{◌≡◌, ◌<◌, [], get_or, map}
use Rattle.cert_form.proofs.objects.position.Given as goal

abbrev pub invariant-loop-at : goal.invariant-loop-at
invariant-loop-at l =
    (i : _) → i < l.at → get_or (map (λ s. s.now) l.keys) i [] ≡ l.key → ⊥
