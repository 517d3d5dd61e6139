-- The rules of one instruction.
use Rattle.std.proofs.Common.{◌≡◌, ℕ, suc, ◌+◌, ◌*◌, ◌<◌, ◌≤◌, ◌⊎◌, inl, inr, ◌||◌, Bool, true}
use Rattle.std.proofs.Common.{false, true≢false, not, IsTrue, ◌↔◌, eqb, List, ◌∷◌, Some, length}
use Rattle.std.proofs.Common.{refl, sym, ap, ◌∙◌, subst, arith}
use Rattle.std.proofs.lemmas.Bool.{cases_lt, eq-eqb}
use Rattle.std.proofs.lemmas.List.{get_or_past}
use Rattle.std.proofs.lemmas.Option.{slice_get_within}
use Rattle.pra_base.specs.declared.ids.VarId.{VarId}
use Rattle.pra_base.specs.declared.code.VInstr.{VInstr}
use Rattle.pra_base.specs.declared.code.VInstr.TheVariants.{DivMod}
use Rattle.pra_base.specs.declared.code.Block.{Block}
use Rattle.pra_base.specs.declared.code.VProc.{VProc}
use Rattle.pra_base.specs.Code.{no_block, code_of, instr_at}
use Rattle.pra_base.specs.Live.{Live}
use Rattle.pra_base.specs.Valid.{IsSized, DividesApart}
use Rattle.vc_live.specs.declared.liveness.Liveness.{Liveness}
use Rattle.vc_live.specs.Rows.{live_at, IsLiveness}
use Rattle.vc_valid.specs.Rules.{AreFour, KeepsDivision}

-- an instruction stands in a block of the code
pub in_code : (code : VProc) (b k : ℕ) (i : VInstr) → instr_at code b k ≡ Some i →
    b < length code.blocks
in_code code b k i at = by (cases_lt b (length code.blocks))
  where
    by : (b < length code.blocks) ⊎ (length code.blocks ≤ b) → b < length code.blocks
    by (inl lt) = lt
    by (inr le) =
        let none : k < 0 = subst (λ (x : Block). k < length x.code)
        (get_or_past code.blocks b no_block le) (slice_get_within (code_of code b) k i at) in
        absurd (omega (arith, none))

module _ (code : VProc) (live : Liveness) (b k : ℕ) (sized : IsSized code)
    (exact : IsLiveness code live) (q r a d : VarId)
    (at : instr_at code b k ≡ Some (DivMod q r a d)) where
  -- the dividend is live after the division exactly where the liveness says so
  pub known_after : IsTrue (live_at live a.0 b (2 * k + 2)) ↔ Live code a.0 b (2 * k + 2)
  known_after =
      let within = slice_get_within (code_of code b) k (DivMod q r a d) at in
      let named = sized.variables_in_range b k (DivMod q r a d) at a.0
      (inl (ap (λ t. t || (eqb d.0 a.0 || false)) (eq-eqb a.0 a.0 refl))) in
      exact.exact a.0 b (2 * k + 2) named (in_code code b k (DivMod q r a d) at)
      (omega (arith, within))

  pub divides : AreFour q r a d → live_at live a.0 b (2 * k + 2) ≡ false →
      DividesApart code b k q r a d
  divides four is = record {
    q_r = four.q_r;
    q_a = four.q_a;
    q_d = four.q_d;
    r_a = four.r_a;
    r_d = four.r_d;
    a_d = four.a_d;
    dead = λ lives. true≢false (sym (known_after.1 lives) ∙ is);
  }

abbrev AsDivision : VProc → ℕ → ℕ → VInstr → Type 0
AsDivision code b k (DivMod q r a d) = DividesApart code b k q r a d
AsDivision code b k _ = Unit {0}

-- what is said of an instruction's fields is said of those of the same instruction
pub same_division : (code : VProc) (b k : ℕ) (i : VInstr) (q r a d : VarId) → i ≡ DivMod q r a d →
    DividesApart code b k q r a d → KeepsDivision code b k i
same_division code b k i q r a d one apart q2 r2 a2 d2 two = subst (AsDivision code b k)
    (sym one ∙ two) apart

pub four_of : (code : VProc) (b k : ℕ) (q r a d : VarId) → DividesApart code b k q r a d →
    AreFour q r a d
four_of code b k q r a d apart = record {
  q_r = apart.q_r;
  q_a = apart.q_a;
  q_d = apart.q_d;
  r_a = apart.r_a;
  r_d = apart.r_d;
  a_d = apart.a_d;
}
