-- Exchanges with places that are no registers, to show what their rule keeps out. Among cells the
-- four come to nothing. In the bytes, where each such place is EDI, they rotate three registers.
use Rattle.std.specs.Prelude.{List, [], ◌∷◌}
use Rattle.pl_moves.specs.declared.transfer.Move.{Move}
use Rattle.pl_moves.specs.declared.transfer.Move.TheVariants.{Swap}
use Rattle.pra_base.specs.declared.ids.Place.TheVariants.{Eax, Ecx, Edi, Mem, Const}

abbrev pub exchanges : List Move
exchanges = Swap Eax Mem ∷ Swap Ecx Const ∷ Swap Eax Mem ∷ Swap Ecx Const ∷ []

-- as the bytes have them
abbrev pub rotation : List Move
rotation = Swap Eax Edi ∷ Swap Ecx Edi ∷ Swap Eax Edi ∷ Swap Ecx Edi ∷ []
