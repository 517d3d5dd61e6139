-- The register of a place, alone.
use Rattle.std.proofs.Common.{◌≡◌, true, refl, ap}
use Rattle.pra_base.specs.declared.ids.Place.{Place}
use Rattle.pra_base.specs.declared.ids.Place.TheVariants.{Eax, Ecx, Edx, Ebx, Esi, Edi, Mem, Const}
use Rattle.pra_base.specs.declared.ids.Place.TheVariants.{EaxM, EcxM, EdxM, EbxM, EsiM, EdiM}
use Rattle.pra_base.specs.Places.{number, has_register, is_register, register_of}
use Rattle.pl_moves.specs.Meaning.{Register, reg}
use Rattle.pl_moves.specs.Sequence.{alone}

pub number-alone : (p : Place) → number (alone p) ≡ register_of (number p)
number-alone Eax = refl
number-alone Ecx = refl
number-alone Edx = refl
number-alone Ebx = refl
number-alone Esi = refl
number-alone Edi = refl
number-alone Mem = refl
number-alone Const = refl
number-alone EaxM = refl
number-alone EcxM = refl
number-alone EdxM = refl
number-alone EbxM = refl
number-alone EsiM = refl
number-alone EdiM = refl

pub register_of-alone : (p : Place) → register_of (number (alone p)) ≡ register_of (number p)
register_of-alone Eax = refl
register_of-alone Ecx = refl
register_of-alone Edx = refl
register_of-alone Ebx = refl
register_of-alone Esi = refl
register_of-alone Edi = refl
register_of-alone Mem = refl
register_of-alone Const = refl
register_of-alone EaxM = refl
register_of-alone EcxM = refl
register_of-alone EdxM = refl
register_of-alone EbxM = refl
register_of-alone EsiM = refl
register_of-alone EdiM = refl

pub reg-alone : (p : Place) → reg (alone p) ≡ reg p
reg-alone p = ap Register (register_of-alone p)

pub is_register-alone : (p : Place) → has_register (number p) ≡ true →
    is_register (number (alone p)) ≡ true
is_register-alone Eax h = refl
is_register-alone Ecx h = refl
is_register-alone Edx h = refl
is_register-alone Ebx h = refl
is_register-alone Esi h = refl
is_register-alone Edi h = refl
is_register-alone Mem h = cc
is_register-alone Const h = cc
is_register-alone EaxM h = refl
is_register-alone EcxM h = refl
is_register-alone EdxM h = refl
is_register-alone EbxM h = refl
is_register-alone EsiM h = refl
is_register-alone EdiM h = refl
