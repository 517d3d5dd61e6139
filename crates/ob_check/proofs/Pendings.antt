-- One more operator that is pending comes before those in front of it.
use Rattle.std.proofs.Common.{◌≡◌, List, [], ◌∷◌, ◌++◌, None, refl, ap}
use Rattle.ob_syntax.specs.Types.{Worth}
use Rattle.ob_check.specs.declared.constant.Pending.{Pending}
use Rattle.ob_check.specs.declared.constant.Pending.TheVariants.{Negate, Not, Operate}
use Rattle.ob_check.specs.Pending.{applied, all_applied}

pub one_more : (pending : List Pending) (one : Pending) (w : Worth) →
    all_applied (pending ++ one ∷ []) w ≡ all_applied pending (applied one w)
one_more [] one w = refl
one_more (p ∷ ps) one w = ap (applied p) (one_more ps one w)

none_of_one : (one : Pending) → applied one None ≡ None
none_of_one Negate = refl
none_of_one Not = refl
none_of_one (Operate op right) = refl

-- what names a variable is worth nothing, whatever is pending
pub none_stays : (pending : List Pending) → all_applied pending None ≡ None
none_stays [] = refl
none_stays (p ∷ ps) = rw (none_stays ps) (none_of_one p)

-- one more operator is pending, and its operand is left
pub behind : (pending new : List Pending) (one : Pending) (here inner w : Worth) →
    all_applied pending here ≡ w → here ≡ applied one inner → new ≡ pending ++ one ∷ [] →
    all_applied new inner ≡ w
behind pending new one here inner w h e n = rw (n, one_more pending one inner, ← e) h
