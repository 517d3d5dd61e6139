-- What stands in longer lists.
use Rattle.std.proofs.Common.{◌≡◌, ℕ, zero, suc, ◌<◌, List, [], ◌∷◌, ◌++◌, length, Some, refl, ap}
use Rattle.std.proofs.Common.{sym, subst, arith}
use Rattle.std.specs.Prelude.{slice_get}
use Rattle.pra_list.proofs.Elements.{got_front, got_last}
use Rattle.pra_list.proofs.Options.{some_same, none_some}

pub get_before : {A : Type 0} (xs : List A) (y : A) (k : ℕ) → k < length xs →
    slice_get (xs ++ y ∷ []) k ≡ slice_get xs k
get_before [] y k lt = absurd (omega (arith, lt))
get_before (x ∷ xs) y zero lt = refl
get_before (x ∷ xs) y (suc k) lt = get_before xs y k (omega (arith, lt))

-- what stands in the longer list: one of those before, or the last
pub got : {A : Type 0} (xs : List A) (y z : A) (k : ℕ) {Q : Type 0} → slice_get (xs ++ y ∷ []) k ≡
    Some z → (k < length xs → slice_get xs k ≡ Some z → Q) → (k ≡ length xs → y ≡ z → Q) → Q
got [] y z zero is before last = last refl (some_same y z is)
got [] y z (suc k) is before last = absurd (none_some is)
got (x ∷ xs) y z zero is before last = before (omega arith) is
got (x ∷ xs) y z (suc k) is before last = got xs y z k is (λ lt at. before (omega (arith, lt)) at)
    (λ same at. last (ap suc same) at)

-- a number that is among others
pub record IsAmong (n : ℕ) (ns : List ℕ) : Type 0 where
  pub index : ℕ
  pub at : slice_get ns index ≡ Some n

pub among_more : (n : ℕ) (ns more : List ℕ) → IsAmong n ns → IsAmong n (ns ++ more)
among_more n ns more is = record { index = is.index; at = got_front ns more is.index n is.at }

pub among_last : (ns : List ℕ) (n : ℕ) → IsAmong n (ns ++ n ∷ [])
among_last ns n = record { index = length ns; at = got_last ns n [] }

pub among_longer : (n : ℕ) (ns more out : List ℕ) → out ≡ ns ++ more → IsAmong n ns → IsAmong n out
among_longer n ns more out is among = subst (IsAmong n) (sym is) (among_more n ns more among)
