use Rattle.std.proofs.Common.{◌≡◌, length, map, take, replicate}
use Rattle.pra_base.specs.declared.ids.Place.TheVariants.{Eax}
use Rattle.net_form.specs.declared.net.Strand.{Strand}
use Rattle.net_form.proofs.taken.some_routes.Given as goal

abbrev pub invariant-loop-strand : goal.invariant-loop-strand
invariant-loop-strand l =
    l.places ≡ map (λ (t : Strand). replicate (length t.masks) Eax)
    (take l.strand-index l.strand-items)
