-- How `moves` goes about it: memory is filled first, while all registers hold what they held; then
-- registers, in an order in which each is read before it is written over.
use Rattle.std.specs.Prelude.{ℕ, zero, suc, Bool, false, nat_eq, ◌||◌}
use Rattle.std.specs.Prelude.{if◌then◌else◌, List, [], ◌∷◌, ◌++◌, length, map, Option, Some, None}
use Rattle.std.specs.List.{filter_map}
use Rattle.pra_base.specs.declared.ids.Place.{Place}
use Rattle.pra_base.specs.declared.ids.Place.TheVariants.{Eax, Ecx, Edx, Ebx, Esi, Edi, EaxM, EcxM}
use Rattle.pra_base.specs.declared.ids.Place.TheVariants.{EdxM, EbxM, EsiM, EdiM}
use Rattle.pra_base.specs.Places.{number, has_register, register_of, needs_slot}
use Rattle.pl_moves.specs.declared.transfer.Pair.{Pair}
use Rattle.pl_moves.specs.declared.transfer.Move.{Move}
use Rattle.pl_moves.specs.declared.transfer.Move.TheVariants.{Copy, Swap, Load, Store, Set}
use Rattle.pl_moves.specs.declared.bring.Origin.{Origin}
use Rattle.pl_moves.specs.declared.bring.Origin.TheVariants as origin
use Rattle.pl_moves.specs.declared.bring.Bring.{Bring}
use Rattle.pl_moves.specs.Assignment.{into_memory, number_of}

-- the register of a place, alone
abbrev pub alone : Place → Place
alone EaxM = Eax
alone EcxM = Ecx
alone EdxM = Edx
alone EbxM = Ebx
alone EsiM = Esi
alone EdiM = Edi
alone place = place

abbrev pub same_register : Place → Place → Bool
same_register a b = nat_eq (register_of (number a)) (register_of (number b))

-- ---- what a pair asks for

abbrev pub store_of : Pair → Option Move
store_of p = if into_memory p then Some (Store p.var (alone p.from)) else None

abbrev pub outside : Pair → Origin
outside p =
    if needs_slot (number p.from) then origin.Memory p.var else origin.Number (number_of p.constant)

abbrev pub bring_between : Pair → Option Bring
bring_between p =
    if same_register p.to p.from then None
    else Some (record { to = alone p.to; from = origin.Register (alone p.from) })

abbrev pub bring_of : Pair → Option Bring
bring_of p =
    if has_register (number p.to) then
    (if has_register (number p.from) then bring_between p
    else Some (record { to = alone p.to; from = outside p }))
    else None

-- ---- the order

abbrev pub comes_from : Origin → Place → Bool
comes_from (origin.Register q) r = same_register q r
comes_from _ r = false

-- some of them read the register
abbrev pub reads : List Bring → Place → Bool
reads [] r = false
reads (b ∷ bs) r = comes_from b.from r || reads bs r

-- some of them write the register that it comes from
abbrev pub writes : List Bring → Origin → Bool
writes [] from = false
writes (b ∷ bs) from = comes_from from b.to || writes bs from

-- what was in register r is in register q now
abbrev pub redirected : Place → Origin → Bring → Bring
redirected r from b = if comes_from b.from r then record { to = b.to; from = from } else b

abbrev pub bring_move : Place → Origin → Move
bring_move r (origin.Register q) = Copy r q
bring_move r (origin.Memory v) = Load r v
bring_move r (origin.Number n) = Set r n

abbrev pub swap_move : Place → Origin → Move
swap_move r (origin.Register q) = Swap r q
swap_move r from = bring_move r from

-- The first is done at once where nothing else reads its register, else last where nothing writes
-- what it reads. Where both stand against it, it is in a cycle, and a swap leaves the cycle shorter
-- by one. n is a bound of the length.
unfoldable pub sequence : ℕ → List Bring → List Move
sequence zero bs = []
sequence (suc n) [] = []
sequence (suc n) (b ∷ bs) =
    if comes_from b.from b.to then sequence n bs
    else (if reads bs b.to then
    (if writes bs b.from then swap_move b.to b.from ∷ sequence n (map (redirected b.to b.from) bs)
    else sequence n bs ++ bring_move b.to b.from ∷ [])
    else bring_move b.to b.from ∷ sequence n bs)

abbrev pub ordered : List Bring → List Move
ordered bs = sequence (length bs) bs

abbrev pub moves_of : List Pair → List Move
moves_of pairs = filter_map store_of pairs ++ ordered (filter_map bring_of pairs)
