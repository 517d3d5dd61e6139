-- Places and their numbers.
use Rattle.std.proofs.Common.{◌≡◌, ℕ, ◌<◌, List, map, get_or, Some, unwrap_or, refl, sym, ap, ◌∙◌}
use Rattle.std.proofs.Common.{arith, zero-add}
use Rattle.std.specs.List.{range_with_len}
use Rattle.std.proofs.lemmas.List.{get_or-map}
use Rattle.std.proofs.lemmas.List.FromFn.{get_or-range_with_len}
use Rattle.pra_base.specs.declared.ids.Place.{Place}
use Rattle.pra_base.specs.declared.ids.Place.TheVariants.{Eax, Ecx, Edx, Ebx, Esi, Edi, Mem, Const}
use Rattle.pra_base.specs.declared.ids.Place.TheVariants.{EaxM, EcxM, EdxM, EbxM, EsiM, EdiM}
use Rattle.pra_base.specs.Places.{number, numbered, all_places, place_at}

-- ---- from a place to its number and back

pub number_below : (p : Place) → number p < 14
number_below Eax = omega arith
number_below Ecx = omega arith
number_below Edx = omega arith
number_below Ebx = omega arith
number_below Esi = omega arith
number_below Edi = omega arith
number_below Mem = omega arith
number_below Const = omega arith
number_below EaxM = omega arith
number_below EcxM = omega arith
number_below EdxM = omega arith
number_below EbxM = omega arith
number_below EsiM = omega arith
number_below EdiM = omega arith

pub place_at-number : (p : Place) → place_at (number p) ≡ p
place_at-number Eax = refl
place_at-number Ecx = refl
place_at-number Edx = refl
place_at-number Ebx = refl
place_at-number Esi = refl
place_at-number Edi = refl
place_at-number Mem = refl
place_at-number Const = refl
place_at-number EaxM = refl
place_at-number EcxM = refl
place_at-number EdxM = refl
place_at-number EbxM = refl
place_at-number EsiM = refl
place_at-number EdiM = refl

pub numbered-number : (p : Place) → numbered (number p) ≡ Some p
numbered-number Eax = refl
numbered-number Ecx = refl
numbered-number Edx = refl
numbered-number Ebx = refl
numbered-number Esi = refl
numbered-number Edi = refl
numbered-number Mem = refl
numbered-number Const = refl
numbered-number EaxM = refl
numbered-number EcxM = refl
numbered-number EdxM = refl
numbered-number EbxM = refl
numbered-number EsiM = refl
numbered-number EdiM = refl

-- ---- from a number to its place and back

numbers_are : map number all_places ≡ range_with_len 0 14
numbers_are = refl

pub number-place_at : (k : ℕ) → k < 14 → number (place_at k) ≡ k
number-place_at k lt = sym (get_or-map number all_places k Eax 0 lt)
    ∙ ap (λ (xs : List ℕ). get_or xs k 0) numbers_are
    ∙ get_or-range_with_len 0 14 k 0 lt ∙ zero-add k

pub record Numbered (k : ℕ) : Type 0 where
  pub place : Place
  pub is : number place ≡ k

-- each number below 14 is one of a place
pub place_of : (k : ℕ) → k < 14 → Numbered k
place_of k lt = record { place = place_at k; is = number-place_at k lt }

pub numbered_is : (k : ℕ) → k < 14 → number (unwrap_or (numbered k) Eax) ≡ k
numbered_is k lt =
    let found = place_of k lt in
    let is : numbered k ≡ Some found.place = ap numbered (sym found.is)
    ∙ numbered-number found.place in
    rw is found.is
