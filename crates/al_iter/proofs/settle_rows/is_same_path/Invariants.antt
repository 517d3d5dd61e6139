use Rattle.std.proofs.Common.{◌≡◌, ◌<◌, ℕ, get_or}
use Rattle.pra_base.specs.declared.ids.Place.TheVariants.{Eax}
use Rattle.al_iter.proofs.settle_rows.is_same_path.Given as goal

abbrev pub invariant-loop-at : goal.invariant-loop-at
invariant-loop-at l = (k : ℕ) → k < l.at → get_or l.path k Eax ≡ get_or l.other k Eax
