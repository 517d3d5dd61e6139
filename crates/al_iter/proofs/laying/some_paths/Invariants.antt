use Rattle.std.proofs.Common.{◌≡◌, length, map, take, replicate}
use Rattle.pra_base.specs.declared.ids.Place.TheVariants.{Eax}
use Rattle.net_form.specs.declared.net.Strand.{Strand}
use Rattle.al_iter.proofs.laying.some_paths.Given as goal

abbrev pub invariant-loop-strand : goal.invariant-loop-strand
invariant-loop-strand l =
    l.paths ≡ map (λ (t : Strand). replicate (length t.masks) Eax)
    (take l.strand-index l.strand-items)
