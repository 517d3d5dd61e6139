-- Rows of the same costs.
use Rattle.std.proofs.Common.{ℤ, ◌≡◌, ◌⊎◌, List, length, refl, sym, subst, ◌∙◌}
use Rattle.pra_base.specs.Places.{number}
use Rattle.net_path.specs.declared.crossbar.Row.{Row}
use Rattle.net_path.specs.Rests.{Terrain}
use Rattle.net_path.specs.Rows.{HaveSameCosts, AreCells, IsCell, AreCellsWithin}
use Rattle.net_path.specs.Rows.{IsAbout, cell_bound}
use Rattle.net_path.specs.Rests.{unreached}
use Rattle.net_path.specs.Ways.{at}

pub unchanged : (rows : List Row) → HaveSameCosts rows rows
unchanged rows = record { long = refl; same = λ k. refl }

pub after : (one two three : List Row) → HaveSameCosts one two → HaveSameCosts two three
    → HaveSameCosts one three
after one two three first second = record {
  long = second.long ∙ first.long;
  same = λ k. second.same k ∙ first.same k;
}

module _ (old new : List Row) (same : HaveSameCosts old new) where
  pub cells_still : (t : Terrain) → AreCells t old → AreCells t new
  cells_still t cells = λ k q lt.
      subst (λ (costs : List ℤ). IsCell (t.is_open k q) (t.cell k q) (at costs (number q)))
      (sym (same.same k)) (cells k q (rw same.long at lt))

  pub within_still : AreCellsWithin old → AreCellsWithin new
  within_still within = λ k p lt below.
      rw same.long (subst (λ (costs : List ℤ). (at costs p ≡ unreached)
      ⊎ IsAbout (cell_bound (length old) k) (at costs p))
      (sym (same.same k)) (within k p (rw same.long at lt) below))
