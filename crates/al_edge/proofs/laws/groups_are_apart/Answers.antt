use Rattle.std.proofs.Common.{◌≡◌, false, sym, arith, inl, inr}
use Rattle.std.proofs.lemmas.Bool.{cases_lt}
use Rattle.al_laws.specs.Greedy.{clash}
use Rattle.al_edge.proofs.OpenPlaces.{clash_turned}
use Rattle.al_edge.proofs.laws.groups_are_apart.Goals as goal

pub returns-clause-masks : goal.returns-clause-masks
returns-clause-masks c = λ net w prices plan g s l p greedy is lt end.
    (greedy.open_places g p is).mask s l lt end

pub returns-clause-registers : goal.returns-clause-registers
returns-clause-registers c =
    λ net w prices plan g h s r l k p q greedy apart is_p is_q s_lt r_lt one other same.
    elim (cases_lt h g) as (λ _. clash p q ≡ false) [
      | inl lt ↦ (greedy.open_places g p is_p).free s l h r k q s_lt r_lt lt is_q one other same
      | inr ge ↦ clash_turned q p ((greedy.open_places h q is_q).free r k g s l p r_lt s_lt
          (omega (arith, ge, apart)) is_p other one (sym same))
    ]
