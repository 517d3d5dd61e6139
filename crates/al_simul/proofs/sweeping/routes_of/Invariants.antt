use Rattle.std.proofs.Common.{◌≡◌, length, map, take, List}
use Rattle.pra_base.specs.declared.ids.Place.{Place}
use Rattle.net_form.specs.declared.net.Strand.{Strand}
use Rattle.al_simul.proofs.sweeping.routes_of.Given as goal

abbrev pub invariant-loop-strand : goal.invariant-loop-strand
invariant-loop-strand l = map (λ (p : List Place). length p) l.paths
    ≡ map (λ (t : Strand). length t.masks) (take l.strand-index l.strand-items)
